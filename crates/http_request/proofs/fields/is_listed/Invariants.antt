use Rattle.std.proofs.Common.{◌≡◌, option_copied}
use Rattle.std.specs.List.{list_any}
use Rattle.std.specs.Str.{str_eq_ignore_ascii_case}
use Rattle.td_base.specs.Texts.{left_of, pieces_left, trim}
use Rattle.http_request.specs.Judging.{has_member}
use Rattle.http_request.proofs.fields.is_listed.Given as goal

abbrev pub invariant-members : goal.invariant-members
invariant-members l =
    list_any (λ m. str_eq_ignore_ascii_case (trim m) l.member) (pieces_left 44 (option_copied l.left)) ≡ has_member l.member l.fn.list

abbrev pub decreases-members : goal.decreases-members
decreases-members l = left_of (option_copied l.left)
