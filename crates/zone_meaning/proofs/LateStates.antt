-- The state of a zone comes again with the calendar.
use Rattle.std.proofs.Common.{◌≡◌, ℕ, List, Option, subst, refl, arith, ℤ, pos, neg_ℤ, ◌+ℤ◌, ◌≤ℤ◌, ◌<ℤ◌}
use Rattle.std.specs.Option.{IfSome}
use Rattle.jiff_core.proofs.SignedLemmas.{signed_arith}
use Rattle.td_civil.specs.Bounds.{HasMeaning}
use Rattle.td_civil.specs.Cycles.{RepeatsFrom}
use Rattle.td_civil.specs.declared.local_time.Local.{Local}
use Rattle.tzif_reader.specs.declared.zone_file.ZoneFile.{ZoneFile}
use Rattle.posix_footer.specs.declared.rule_types.Footer.{Footer}
use Rattle.posix_footer.specs.Lawful.{IsLawful}
use Rattle.zone_meaning.specs.Kept.{HasTypes, IsReadFrom}
use Rattle.zone_meaning.specs.State.{state_at, zone_state}
use Rattle.zone_meaning.proofs.Decided.{HaveAllBegun, late_again}
use Rattle.zone_meaning.proofs.lemmas.Types.{kept_states, kept_types}

lists_again : (z : ZoneFile) (footer : Option Footer) (t : ℤ) → HasTypes z → IfSome footer IsLawful → HasMeaning t → HaveAllBegun z t
    → RepeatsFrom (state_at z footer) t
lists_again z footer t types lawful meaning begun v from before =
    let first : neg_ℤ (pos 5364662400) ≤ℤ t = meaning.0 in
    let end : (v +ℤ pos 12622780800) <ℤ pos 253370764800 = before in
    late_again z footer t v (v +ℤ pos 12622780800) types lawful begun from refl
    (omega (arith, signed_arith), omega (arith, signed_arith)) (omega (arith, signed_arith), before)

-- of what is kept of a zone
pub zone_again : (file : List ℕ) (lists : ZoneFile) (footer : Option Footer) (t : ℤ) → IsReadFrom file lists footer → HasMeaning t
    → HaveAllBegun lists t → RepeatsFrom (zone_state file) t
zone_again file lists footer t kept meaning begun =
    let P : (ℤ → Local) → Type 0 = λ s. RepeatsFrom s t in
    subst P (kept_states file lists footer kept) (lists_again lists footer t (kept_types file lists footer kept) kept.lawful meaning begun)
