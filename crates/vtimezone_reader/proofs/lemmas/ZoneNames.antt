-- The names of a zone's states are visible, and have 32 bytes at most.
use Rattle.std.proofs.Common.{◌≡◌, ℕ, zero, suc, ◌≤◌, ◌==◌, nat_le, true, false, ◌&&◌, refl, arith, ℤ, pos, Option}
use Rattle.std.proofs.Common.{None, Some, Result, Ok, Err, List, [], ◌∷◌, length, get_or, slice_index}
use Rattle.std.specs.List.{AllByRecursion, list_all}
use Rattle.std.specs.Option.{IfSome}
use Rattle.std.specs.Result.{result_ok}
use Rattle.std.proofs.lemmas.Bool.{cond_both, cond-true, and_from, and_parts, le-leb}
use Rattle.std.proofs.lemmas.Bool.Decides.{nat_tests}
use Rattle.td_civil.specs.declared.local_time.Local.{Local}
use Rattle.tzif_reader.specs.declared.zone_file.ZoneFile.{ZoneFile}
use Rattle.tzif_reader.specs.Cut.{lists_of}
use Rattle.tzif_reader.specs.Layout.{AreJoined, IsKind}
use Rattle.tzif_reader.proofs.lemmas.Whole.{zone_file_of}
use Rattle.posix_footer.specs.Grammar.{footer_in}
use Rattle.posix_footer.specs.Items.{is_designation_byte}
use Rattle.posix_footer.specs.StateAt.{is_daylight, state_by, state_of}
use Rattle.posix_footer.specs.declared.footer_fault.FooterFault.{FooterFault}
use Rattle.posix_footer.specs.declared.rule_types.DstRule.{DstRule}
use Rattle.posix_footer.specs.declared.rule_types.Footer.{Footer}
use Rattle.zone_meaning.specs.FaultLemmas.{file_clear}
use Rattle.zone_meaning.specs.Faults.{zone_fault}
use Rattle.zone_meaning.specs.Names.{is_printable_name}
use Rattle.zone_meaning.specs.State.{begun, after, state_at, footer_meant, zone_state}
use Rattle.vtimezone_reader.specs.PartLines.{is_visible, name_in}
use Rattle.vtimezone_reader.proofs.lemmas.FooterNames.{HasShortNames, footer_short}

abbrev pub IsShort : Local → Type 0
IsShort s = length s.name ≤ 32

kinds_short : (designations text : List ℕ) (kinds : List Local) → AreJoined 6 (IsKind designations) text kinds → AllByRecursion IsShort kinds
kinds_short designations text [] h = tt
kinds_short designations text (k ∷ ks) h = (h.4.name_size, kinds_short designations h.1 ks h.5)

kind_short : (kinds : List Local) (i : ℕ) (d : Local) → AllByRecursion IsShort kinds → IsShort d → IsShort (get_or kinds i d)
kind_short [] i d h k = k
kind_short (x ∷ xs) zero d h k = h.0
kind_short (x ∷ xs) (suc i) d h k = kind_short xs i d h.1 k

none_short : IsShort (record { offset = pos 0; dst = false; name = [] })
none_short = omega arith

after_short : (z : ZoneFile) (n : ℕ) → AllByRecursion IsShort z.kinds → IsShort (after z n)
after_short z zero h = kind_short z.kinds 0 _ h none_short
after_short z (suc n) h = kind_short z.kinds (slice_index z.numbers n) _ h none_short

by_short : (std : Local) (rule : Option DstRule) (t : ℤ) → IsShort std → IfSome rule (λ r. IsShort r.dst) → IsShort (state_by std rule t)
by_short std None t first second = first
by_short std (Some rule) t first second = cond_both (is_daylight rule std.offset t) rule.dst std IsShort (λ yes. second) (λ no. first)

state_short : (z : ZoneFile) (footer : Option Footer) (t : ℤ) → AllByRecursion IsShort z.kinds → IfSome footer HasShortNames → IsShort (state_at z footer t)
state_short z None t kinds names = after_short z (begun t z.moments) kinds
state_short z (Some footer) t kinds names =
    cond_both (begun t z.moments == length z.moments) (state_of footer t) (after z (begun t z.moments)) IsShort
    (λ all. by_short footer.std footer.dst t names.std names.dst) (λ some. after_short z (begun t z.moments) kinds)

result_short : (text : List ℕ) (r : Result Footer FooterFault) → footer_in text ≡ r → IfSome (result_ok r) HasShortNames
result_short text (Ok footer) is = footer_short text footer is
result_short text (Err fault) is = tt

pub meant_short : (text : List ℕ) → IfSome (footer_meant text) HasShortNames
meant_short [] = tt
meant_short (b ∷ bs) = result_short (b ∷ bs) (footer_in (b ∷ bs)) refl

pub zone_short : (file : List ℕ) (t : ℤ) → zone_fault file ≡ None → IsShort (zone_state file t)
unfolding zone_state
zone_short file t h =
    let block = (zone_file_of file (file_clear file h)).second_block_is in
    state_short (lists_of file) (footer_meant (lists_of file).footer) t (kinds_short block.designations block.types (lists_of file).kinds block.kinds_are)
    (meant_short (lists_of file).footer)

-- ---- such names are read

byte_visible : (b : ℕ) → is_designation_byte b ≡ true → is_visible b ≡ true
byte_visible b h = grind (arith, nat_tests)

bytes_visible : (bs : List ℕ) → list_all is_designation_byte bs ≡ true → list_all is_visible bs ≡ true
bytes_visible [] h = refl
bytes_visible (b ∷ bs) h =
    let both = and_parts (is_designation_byte b) (list_all is_designation_byte bs) h in
    and_from (is_visible b) (list_all is_visible bs) (byte_visible b both.0) (bytes_visible bs both.1)

name_visible : (name : List ℕ) → is_printable_name name ≡ true → list_all is_visible name ≡ true
name_visible [] h = refl
name_visible (b ∷ bs) h = bytes_visible (b ∷ bs) h

pub name_read : (name : List ℕ) → length name ≤ 32 → is_printable_name name ≡ true → name_in name ≡ Some name
name_read name short printable =
    cond-true (nat_le (length name) 32 && list_all is_visible name) (Some name) None
    (and_from (nat_le (length name) 32) (list_all is_visible name) (le-leb (length name) 32 short) (name_visible name printable))
