-- The identifier of a zone, where it is told, is a text.
use Rattle.std.proofs.Common.{ℕ, List, Bool, true, false, cond, None, Some}
use Rattle.std.specs.Prelude.{IfSome}
use Rattle.std.specs.Str.{bytes_eq}
use Rattle.recurrence.specs.Spellable.{IsSafe}
use Rattle.actions.specs.Formats.{alias_of}

pub alias_safe : (name tzid : List ℕ) → IsSafe tzid → IfSome (alias_of name tzid) IsSafe
alias_safe name tzid safe =
    elim (bytes_eq name tzid) as (λ b. IfSome (cond b None (Some tzid)) IsSafe) [
      | true ↦ tt
      | false ↦ safe
    ]
