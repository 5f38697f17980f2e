-- What is known of the last release of a history of zones.
use Rattle.std.proofs.Common.{◌≡◌, ℕ, List, Option, None, Some, IfSome, Bool, refl, ap, sym, subst, ◌∙◌}
use Rattle.std.specs.Option.{IsSomeAnd, is_some}
use Rattle.td_base.specs.Names.{IsPlain}
use Rattle.td_base.specs.declared.report.Role.{Role}
use Rattle.td_base.proofs.lemmas.PlainLemmas.{label_is_plain}
use Rattle.catalogue.specs.Histories.{IsHistory, last_release}
use Rattle.catalogue.specs.Releases.{ReleaseData}
use Rattle.catalogue.specs.declared.release.Leaps.{Leaps}
use Rattle.catalogue.proofs.lemmas.LastRelease.{last_of}
use Rattle.json_forms.specs.CapabilitiesDocument.{capabilities_document}
use Rattle.json_forms.specs.LeapDocument.{leap_document}
use Rattle.zone_meaning.specs.Sound.{IsSound, IsSoundLeaps}
use Rattle.actions.specs.Describing.{capabilities_of, capabilities_answer}
use Rattle.actions.specs.Documents.{with_document, unknown_action}
use Rattle.actions.specs.LeapSeconds.{leaps_told, leap_answer}

-- ---- its labels are plain

label_of : (label : ReleaseData → List ℕ) (H : List ReleaseData) (o : Option ReleaseData) (text : List ℕ)
    → ((r : ReleaseData) → IsSound r → IsPlain (label r)) → IsHistory IsSound H → last_release H ≡ o
    → IsSomeAnd o (λ r. text ≡ label r) → IsPlain text
label_of label H None text plain history is same = absurd same
label_of label H (Some r) text plain history is same =
    subst IsPlain (sym same) (plain r (last_of IsSound H r history is).release.is_sound)

pub publisher_is_plain : (H : List ReleaseData) (text : List ℕ) → IsHistory IsSound H → IsSomeAnd (last_release H) (λ r. text ≡ r.publisher) → IsPlain text
publisher_is_plain H text history same =
    label_of (λ r. r.publisher) H (last_release H) text (λ r sound. label_is_plain r.publisher sound.publisher) history refl same

pub version_is_plain : (H : List ReleaseData) (text : List ℕ) → IsHistory IsSound H → IsSomeAnd (last_release H) (λ r. text ≡ r.version) → IsPlain text
version_is_plain H text history same =
    label_of (λ r. r.version) H (last_release H) text (λ r sound. label_is_plain r.version sound.version) history refl same

-- ---- its table of leap seconds, if it has one, is sound

sound_leaps : (o p : Option Leaps) (leaps : Leaps) → IfSome p IsSoundLeaps → o ≡ p → o ≡ Some leaps → IsSoundLeaps leaps
sound_leaps o None leaps sound same is = absurd cc
sound_leaps o (Some table) leaps sound same is = let one : table ≡ leaps = cc in subst IsSoundLeaps one sound

table_of : (H : List ReleaseData) (o : Option ReleaseData) (leaps : Leaps) → IsHistory IsSound H → last_release H ≡ o
    → IsSomeAnd o (λ r. Some leaps ≡ r.leaps) → IsSoundLeaps leaps
table_of H None leaps history is same = absurd same
table_of H (Some r) leaps history is same =
    sound_leaps (Some leaps) r.leaps leaps (last_of IsSound H r history is).release.is_sound.leaps same refl

pub table_is_sound : (H : List ReleaseData) (leaps : Leaps) → IsHistory IsSound H → IsSomeAnd (last_release H) (λ r. Some leaps ≡ r.leaps) → IsSoundLeaps leaps
table_is_sound H leaps history same = table_of H (last_release H) leaps history refl same

-- ---- capabilities

has_leaps : (o : Option ReleaseData) (leaps : Option Leaps) (has : Bool) → has ≡ is_some leaps → IsSomeAnd o (λ r. leaps ≡ r.leaps)
    → IsSomeAnd o (λ r. has ≡ is_some r.leaps)
has_leaps None leaps has is same = same
has_leaps (Some r) leaps has is same = is ∙ ap is_some same

described_of : (o : Option ReleaseData) (role : Role) (text : List ℕ) (has : Bool) → IsSomeAnd o (λ r. text ≡ r.publisher)
    → IsSomeAnd o (λ r. has ≡ is_some r.leaps) → with_document (capabilities_document role text has) ≡ capabilities_of role o
described_of None role text has same leaps = absurd same
described_of (Some r) role text has same leaps = rw (same, leaps) refl

pub capabilities_are : (H : List ReleaseData) (role : Role) (text : List ℕ) (leaps : Option Leaps) (has : Bool)
    → IsSomeAnd (last_release H) (λ r. text ≡ r.publisher) → IsSomeAnd (last_release H) (λ r. leaps ≡ r.leaps) → has ≡ is_some leaps
    → with_document (capabilities_document role text has) ≡ capabilities_answer H role
unfolding capabilities_answer
capabilities_are H role text leaps has same table is = described_of (last_release H) role text has same (has_leaps (last_release H) leaps has is table)

-- ---- leap seconds

told_of : (o : Option ReleaseData) (leaps : Leaps) (publisher version : List ℕ) → IsSomeAnd o (λ r. Some leaps ≡ r.leaps)
    → IsSomeAnd o (λ r. publisher ≡ r.publisher) → IsSomeAnd o (λ r. version ≡ r.version)
    → with_document (leap_document leaps publisher version) ≡ leaps_told o
told_of None leaps publisher version table same is = absurd table
told_of (Some r) leaps publisher version table same is = rw (← table, same, is) refl

pub leaps_are : (H : List ReleaseData) (leaps : Leaps) (publisher version : List ℕ) → IsSomeAnd (last_release H) (λ r. Some leaps ≡ r.leaps)
    → IsSomeAnd (last_release H) (λ r. publisher ≡ r.publisher) → IsSomeAnd (last_release H) (λ r. version ≡ r.version)
    → with_document (leap_document leaps publisher version) ≡ leap_answer H
unfolding leap_answer
leaps_are H leaps publisher version table same is = told_of (last_release H) leaps publisher version table same is

none_told : (o : Option ReleaseData) → IsSomeAnd o (λ r. None ≡ r.leaps) → unknown_action ≡ leaps_told o
none_told None table = absurd table
none_told (Some r) table = rw (← table) refl

pub no_leaps_are : (H : List ReleaseData) → IsSomeAnd (last_release H) (λ r. None ≡ r.leaps) → unknown_action ≡ leap_answer H
unfolding leap_answer
no_leaps_are H table = none_told (last_release H) table
