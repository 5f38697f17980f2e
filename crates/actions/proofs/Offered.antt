-- Which answers depend on the formats that are offered.
use Rattle.std.proofs.Common.{◌≡◌, ℕ, List, [], ◌∷◌, Option, Some, None, refl, ap}
use Rattle.std.specs.Prelude.{IfSome, option_and_then}
use Rattle.std.specs.List.{slice_get}
use Rattle.td_base.specs.declared.report.Role.{Role}
use Rattle.catalogue.specs.Histories.{EntryData, meta}
use Rattle.catalogue.specs.Lookups.{place_named}
use Rattle.catalogue.specs.Releases.{ReleaseData}
use Rattle.http_request.specs.declared.head.Head.{Head}
use Rattle.negotiate.specs.Choices.{NamedFormat, IsUnnamed, calendar_format, chosen_among, chosen_format, file_format, formats, json_format}
use Rattle.negotiate.proofs.lemmas.Unnamed.{all_offered, json_unnamed}
use Rattle.target.specs.Actions.{asks}
use Rattle.target.specs.declared.asked_types.Asked.{Asked}
use Rattle.target.specs.declared.asked_types.Asked.TheVariants as ask
use Rattle.target.specs.declared.asked_types.Param.{Param}
use Rattle.actions.specs.Action.{action, answer_for}
use Rattle.actions.specs.Getting.{format_answer, get_answer, zone_answer}
use Rattle.actions.specs.Offering.{zone_answer_among, answer_among, action_among}

same_zone : (fs : List NamedFormat) (name : List ℕ) (found : Option EntryData) (accept held : Option (List ℕ)) (start end : Param)
    → chosen_format accept ≡ chosen_among fs accept
    → zone_answer name found accept held start end ≡ zone_answer_among fs name found accept held start end
same_zone fs name (Some e) accept held start end same = ap (λ f. format_answer f name e held start end) same
same_zone fs name None accept held start end same = refl

same_answer : (fs : List NamedFormat) (H : List ReleaseData) (role : Role) (head : Head) (asked : Asked)
    → chosen_format head.accept ≡ chosen_among fs head.accept → answer_for H role head asked ≡ answer_among fs H role head asked
unfolding get_answer
same_answer fs H role head ask.Capabilities same = refl
same_answer fs H role head (ask.List since) same = refl
same_answer fs H role head (ask.Find pattern) same = refl
same_answer fs H role head (ask.Get tzid start end) same =
    same_zone fs tzid (option_and_then (slice_get (meta H)) (place_named H tzid)) head.accept head.none_match start end same
same_answer fs H role head (ask.Expand tzid start end) same = refl
same_answer fs H role head ask.LeapSeconds same = refl
same_answer fs H role head ask.WellKnown same = refl
same_answer fs H role head ask.Unknown same = refl

pub all_are_offered : (H : List ReleaseData) (role : Role) (head : Head) → action H role head ≡ action_among formats H role head
unfolding action
all_are_offered H role head = same_answer formats H role head (asks head.target) (all_offered head.accept)

pub unnamed_changes_nothing : (H : List ReleaseData) (role : Role) (head : Head) → IfSome head.accept (λ field. IsUnnamed field json_format)
    → action H role head ≡ action_among (calendar_format ∷ file_format ∷ []) H role head
unfolding action
unnamed_changes_nothing H role head h =
    same_answer (calendar_format ∷ file_format ∷ []) H role head (asks head.target) (json_unnamed head.accept h)
