-- The types of a file without fault.
use Rattle.std.specs.Prelude.{ℤ, int_le, slice_index}
use Rattle.std.specs.Option.{IfSome}
use Rattle.std.specs.List.{slice_get}
use Rattle.td_civil.specs.declared.moment_type.TheConstants.{HI}
use Rattle.std.proofs.Common.{◌≡◌, ◌≤◌, ◌-◌, ◌<ℤ◌, ◌==◌, ℕ, zero, suc, Option, ap, subst, List, length, None, Some, ◌∙◌, sym, arith, to_z, of_z, to_z-of_z, w32}
use Rattle.std.proofs.Common.{FitsSigned}
use Rattle.std.proofs.lemmas.Bool.{cond_both}
use Rattle.std.proofs.lemmas.List.Sums.{count_by-le-length}
use Rattle.jiff_core.proofs.SignedLemmas.{signed_arith}
use Rattle.td_civil.specs.declared.moment_type.Moment.{Moment}
use Rattle.td_civil.specs.declared.local_time.Local.{Local}
use Rattle.tzif_reader.specs.declared.zone_file.ZoneFile.{ZoneFile}
use Rattle.tzif_reader.specs.Layout.{IsZoneFile, IsKind}
use Rattle.tzif_reader.specs.Cut.{lists_of}
use Rattle.tzif_reader.proofs.lemmas.Joined.{joined_at}
use Rattle.tzif_reader.proofs.lemmas.Whole.{zone_file_of}
use Rattle.zone_meaning.specs.Faults.{zone_fault}
use Rattle.posix_footer.specs.declared.rule_types.DstRule.{DstRule}
use Rattle.posix_footer.specs.declared.rule_types.Footer.{Footer}
use Rattle.posix_footer.specs.Lawful.{IsLawful, IsLawfulOffset, IsLawfulIfAny}
use Rattle.posix_footer.specs.StateAt.{is_daylight, state_by, state_of}
use Rattle.zone_meaning.specs.Kept.{HasTypes, IsReadFrom}
use Rattle.zone_meaning.specs.State.{begun, after, state_at, footer_meant, zone_state}
use Rattle.zone_meaning.specs.FaultLemmas.{file_clear}

types_in : (bytes : List ℕ) (z : ZoneFile) → IsZoneFile bytes z → HasTypes z
types_in bytes z is =
    let block = is.second_block_is in
    record {
      each = block.number_count ∙ sym block.moment_count;
      known = rw block.kind_count block.known;
      first = rw block.kind_count is.counts_are.types;
      offsets = λ k d lt. let kind = joined_at 6 (IsKind block.designations) block.types z.kinds k d block.kinds_are lt in (kind.low, kind.high);
      rising = block.rising;
    }

pub has_types : (bytes : List ℕ) → zone_fault bytes ≡ None → HasTypes (lists_of bytes)
has_types bytes h = types_in bytes (lists_of bytes) (zone_file_of bytes (file_clear bytes h))

-- the last transition of a zone comes before the end of the moments that have a meaning
pub kept_end : (file : List ℕ) (lists : ZoneFile) (footer : Option Footer) → IsReadFrom file lists footer
    → IfSome (slice_get lists.moments (length lists.moments - 1)) (λ m. m.seconds <ℤ HI)
kept_end file lists footer k =
    let P : ZoneFile → Type 0 = λ z. IfSome (slice_get z.moments (length z.moments - 1)) (λ m. m.seconds <ℤ HI) in
    subst P (sym k.lists_are) (zone_file_of file (file_clear file k.no_fault)).second_block_is.ends

-- what a zone keeps has types, and gives the state that its file does
pub kept_types : (file : List ℕ) (lists : ZoneFile) (footer : Option Footer) → IsReadFrom file lists footer → HasTypes lists
kept_types file lists footer k = subst (λ (z : ZoneFile). HasTypes z) (sym k.lists_are) (has_types file k.no_fault)

pub kept_state : (file : List ℕ) (lists : ZoneFile) (footer : Option Footer) (t : ℤ) → IsReadFrom file lists footer
    → state_at lists footer t ≡ zone_state file t
unfolding zone_state
kept_state file lists footer t k = ap (λ (f : Option Footer). state_at lists f t) k.footer_is
    ∙ ap (λ (z : ZoneFile). state_at z (footer_meant z.footer) t) k.lists_are

-- the offset of a type, and of the state that a footer gives
after_offset : (z : ZoneFile) (n : ℕ) → HasTypes z → n ≤ length z.moments → IsLawfulOffset (after z n).offset
after_offset z zero h le = h.offsets 0 _ h.first
after_offset z (suc n) h le =
    h.offsets (slice_index z.numbers n) _ (h.known n 0 (omega (arith, h.each)))

by_rule_offset : (std : Local) (rule : Option DstRule) (t : ℤ) → IsLawfulOffset std.offset → IsLawfulIfAny std.offset rule
    → IsLawfulOffset (state_by std rule t).offset
by_rule_offset std None t h lawful = h
by_rule_offset std (Some rule) t h lawful =
    cond_both (is_daylight rule std.offset t) rule.dst std (λ (s : Local). IsLawfulOffset s.offset) (λ yes. lawful.daylight_offset) (λ no. h)

footer_offset : (footer : Footer) (t : ℤ) → IsLawful footer → IsLawfulOffset (state_of footer t).offset
footer_offset footer t h = by_rule_offset footer.std footer.dst t h.offset h.rule

pub begun_bound : (t : ℤ) (ms : List Moment) → begun t ms ≤ length ms
begun_bound t ms = count_by-le-length (λ (m : Moment). int_le m.seconds t) ms

pub state_offset : (z : ZoneFile) (footer : Option Footer) (t : ℤ) → HasTypes z → IfSome footer IsLawful → IsLawfulOffset (state_at z footer t).offset
state_offset z None t h lawful = after_offset z (begun t z.moments) h (begun_bound t z.moments)
state_offset z (Some footer) t h lawful =
    cond_both (begun t z.moments == length z.moments) (state_of footer t) (after z (begun t z.moments)) (λ (s : Local). IsLawfulOffset s.offset)
    (λ all. footer_offset footer t lawful)
    (λ some. after_offset z (begun t z.moments) h (begun_bound t z.moments))

-- what code reads of the offset of a state of the zone
fits_offset : (z : ℤ) → IsLawfulOffset z → FitsSigned w32 z
fits_offset z h = omega (arith, signed_arith, h)

pub read_offset : (s t : Local) → s ≡ t → IsLawfulOffset t.offset → to_z w32 (of_z w32 s.offset) ≡ s.offset
read_offset s t e h =
    let P : Local → Type 0 = λ u. to_z w32 (of_z w32 u.offset) ≡ u.offset in
    subst P (sym e) (to_z-of_z (fits_offset t.offset h))

-- the states that a zone's lists give are those of its file
pub kept_states : (file : List ℕ) (lists : ZoneFile) (footer : Option Footer) → IsReadFrom file lists footer
    → ◌≡◌ {A = ℤ → Local} (state_at lists footer) (zone_state file)
unfolding zone_state
kept_states file lists footer k =
    let by_footer : Option Footer → ℤ → Local = λ f. state_at lists f in
    let by_lists : ZoneFile → ℤ → Local = λ z. state_at z (footer_meant z.footer) in
    ap by_footer k.footer_is ∙ ap by_lists k.lists_are
