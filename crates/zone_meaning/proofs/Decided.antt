-- After the last transition of two files their footers decide: equal ones for ever alike, and
-- others as they do within the years after which the calendar repeats.
use Rattle.std.proofs.Common.{◌≡◌, ℕ, zero, suc, ◌*◌, ◌<◌, ◌-◌, List, length, Option, None, Some, sym, subst, ap, ◌∙◌, arith, ℤ, pos, neg_ℤ}
use Rattle.std.proofs.Common.{◌+ℤ◌, ◌-ℤ◌, ◌≤ℤ◌, ◌<ℤ◌, get_or, ◌⊎◌, inl, inr}
use Rattle.std.specs.Option.{IfSome}
use Rattle.std.proofs.lemmas.Int.{by_lt_z}
use Rattle.std.proofs.lemmas.List.{get_or_default}
use Rattle.jiff_core.proofs.SignedLemmas.{signed_arith}
use Rattle.td_civil.specs.Bounds.{HasMeaning}
use Rattle.td_civil.specs.declared.moment_type.Moment.{Moment}
use Rattle.td_civil.specs.declared.moment_type.TheConstants.{LO, HI}
use Rattle.td_civil.specs.declared.local_time.Local.{Local}
use Rattle.tzif_reader.specs.declared.zone_file.ZoneFile.{ZoneFile}
use Rattle.tzif_reader.specs.Layout.{AreRising}
use Rattle.posix_footer.specs.declared.rule_types.Footer.{Footer}
use Rattle.posix_footer.specs.Lawful.{IsLawful}
use Rattle.posix_footer.specs.StateAt.{state_of}
use Rattle.posix_footer.proofs.lemmas.Repeating.{state_again}
use Rattle.zone_meaning.specs.Difference.{lists_state, AreAlike, Decides, IsFirstDifference, zone_difference}
use Rattle.zone_meaning.specs.Kept.{HasTypes, IsReadFrom}
use Rattle.zone_meaning.specs.State.{begun, after, footer_meant, state_at, zone_state}
use Rattle.zone_meaning.specs.Walks.{HaveBegun}
use Rattle.zone_meaning.proofs.Differing.{first_is}
use Rattle.zone_meaning.proofs.lemmas.Types.{kept_states}
use Rattle.zone_meaning.proofs.Walking.{all_begun, begun_is, still_begun}

-- each transition has come by a moment, and so by each later one
abbrev pub HaveAllBegun : ZoneFile → ℤ → Type 0
HaveAllBegun z t = HaveBegun z.moments t (length z.moments)

pub still_all : (z : ZoneFile) (t v : ℤ) → HaveAllBegun z t → t ≤ℤ v → HaveAllBegun z v
still_all z t v h low = still_begun z.moments t v (length z.moments) low h (λ d more. absurd (omega arith))

all_count : (z : ZoneFile) (t v : ℤ) → HasTypes z → HaveAllBegun z t → t ≤ℤ v → begun v z.moments ≡ length z.moments
all_count z t v types h low = begun_is z.moments v (length z.moments) types.rising (still_all z t v h low)

-- without a footer the state then stays
plain_late : (z : ZoneFile) (t v : ℤ) → HasTypes z → HaveAllBegun z t → t ≤ℤ v → state_at z None v ≡ after z (length z.moments)
plain_late z t v types h low = ap (after z) (all_count z t v types h low)

footer_late : (z : ZoneFile) (footer : Footer) (t v : ℤ) → HasTypes z → HaveAllBegun z t → t ≤ℤ v → state_at z (Some footer) v ≡ state_of footer v
footer_late z footer t v types h low = all_begun z footer v (all_count z t v types h low)

same_later : (one two : ZoneFile) (footer : Option Footer) (t v : ℤ) → HasTypes one → HasTypes two → HaveAllBegun one t → HaveAllBegun two t → t ≤ℤ v
    → state_at one footer t ≡ state_at two footer t → state_at one footer v ≡ state_at two footer v
same_later one two None t v first second h k low same =
    let now : t ≤ℤ t = omega (arith, signed_arith) in
    plain_late one t v first h low ∙ sym (plain_late one t t first h now) ∙ same ∙ plain_late two t t second k now ∙ sym (plain_late two t v second k low)
same_later one two (Some footer) t v first second h k low same =
    footer_late one footer t v first h low ∙ sym (footer_late two footer t v second k low)

-- two files with one footer are decided as soon as all transitions have come
pub decided_same : (one two : ZoneFile) (footer : Option Footer) (t : ℤ) → HasTypes one → HasTypes two → HaveAllBegun one t → HaveAllBegun two t → LO ≤ℤ t
    → Decides (state_at one footer) (state_at two footer) (t +ℤ pos 1)
decided_same one two footer t first second h k low alike v from before =
    by_lt_z v (t +ℤ pos 1)
    (λ early. alike v from early)
    (λ late. same_later one two footer t v first second h k (omega (arith, signed_arith)) (alike t low (omega (arith, signed_arith))))

-- then the states come again with the calendar
pub late_again : (z : ZoneFile) (footer : Option Footer) (t v w : ℤ) → HasTypes z → IfSome footer IsLawful → HaveAllBegun z t → t ≤ℤ v → w ≡ v +ℤ pos 12622780800
    → HasMeaning v → HasMeaning w → state_at z footer w ≡ state_at z footer v
late_again z None t v w types lawful h low is meaning after_cycle =
    plain_late z t w types h (omega (arith, signed_arith, is)) ∙ sym (plain_late z t v types h low)
late_again z (Some footer) t v w types lawful h low is meaning after_cycle =
    footer_late z footer t w types h (omega (arith, signed_arith, is)) ∙ state_again footer v w lawful is meaning after_cycle
    ∙ sym (footer_late z footer t v types h low)

cycles : (one two : ZoneFile) (one_footer two_footer : Option Footer) (t : ℤ) → HasTypes one → HasTypes two → IfSome one_footer IsLawful
    → IfSome two_footer IsLawful → HaveAllBegun one t → HaveAllBegun two t → LO ≤ℤ t
    → AreAlike (state_at one one_footer) (state_at two two_footer) LO (t +ℤ pos 12622780800) → (k : ℕ) (v : ℤ) → LO ≤ℤ v → v <ℤ HI
    → v <ℤ (t +ℤ pos (12622780800 * suc k)) → state_at one one_footer v ≡ state_at two two_footer v
cycles one two one_footer two_footer t first second lawful also h j low alike zero v from before within = alike v from (omega (arith, signed_arith))
cycles one two one_footer two_footer t first second lawful also h j low alike (suc k) v from before within =
    by_lt_z v (t +ℤ pos (12622780800 * suc k))
    (λ early. cycles one two one_footer two_footer t first second lawful also h j low alike k v from before early)
    (λ late.
    let u = v -ℤ pos 12622780800 in
    let is : v ≡ u +ℤ pos 12622780800 = omega (arith, signed_arith) in
    let from_t : t ≤ℤ u = omega (arith, signed_arith) in
    let from_first : LO ≤ℤ u = omega (arith, signed_arith) in
    let before_end : u <ℤ HI = omega (arith, signed_arith) in
    let inside : u <ℤ (t +ℤ pos (12622780800 * suc k)) = omega (arith, signed_arith) in
    late_again one one_footer t u v first lawful h from_t is (from_first, before_end) (from, before)
    ∙ cycles one two one_footer two_footer t first second lawful also h j low alike k u from_first before_end inside
    ∙ sym (late_again two two_footer t u v second also j from_t is (from_first, before_end) (from, before)))

-- two files are decided once the calendar has repeated after all transitions have come
pub decided_cycle : (one two : ZoneFile) (one_footer two_footer : Option Footer) (t : ℤ) → HasTypes one → HasTypes two → IfSome one_footer IsLawful
    → IfSome two_footer IsLawful → HaveAllBegun one t → HaveAllBegun two t → LO ≤ℤ t
    → Decides (state_at one one_footer) (state_at two two_footer) (t +ℤ pos 12622780800)
decided_cycle one two one_footer two_footer t first second lawful also h j low alike v from before =
    let start : neg_ℤ (pos 5364662400) ≤ℤ t = low in
    let end : v <ℤ pos 253370764800 = before in
    cycles one two one_footer two_footer t first second lawful also h j low alike 20 v from before (omega (arith, signed_arith))

-- either way the end of a cycle decides
pub decided_after : (one two : ZoneFile) (one_footer two_footer : Option Footer) (t b : ℤ) → HasTypes one → HasTypes two → IfSome one_footer IsLawful
    → IfSome two_footer IsLawful → HaveAllBegun one t → HaveAllBegun two t → LO ≤ℤ t → (b ≡ t +ℤ pos 12622780800) ⊎ (b ≡ HI)
    → Decides (state_at one one_footer) (state_at two two_footer) b
decided_after one two one_footer two_footer t b first second lawful also h j low (inl is) =
    subst (λ k. Decides (state_at one one_footer) (state_at two two_footer) k) (sym is)
    (decided_cycle one two one_footer two_footer t first second lawful also h j low)
decided_after one two one_footer two_footer t b first second lawful also h j low (inr is) =
    subst (λ k. Decides (state_at one one_footer) (state_at two two_footer) k) (sym is) (λ alike. alike)

-- what comes first before an end that decides comes first
pub decided_first : (one two : ℤ → Local) (b : ℤ) (r : Option Moment) → b ≤ℤ HI → Decides one two b → IsFirstDifference one two LO b r
    → IsFirstDifference one two LO HI r
decided_first one two b None le decided alike = decided alike
decided_first one two b (Some m) le decided least =
    let before = least.before_end in
    record {
      from = least.from;
      before_end = omega (arith, signed_arith);
      differ = least.differ;
      alike_before = least.alike_before;
    }

-- one file has one meaning
pub same_files : (one two : List ℕ) → one ≡ two → IsFirstDifference (zone_state one) (zone_state two) LO HI None
same_files one two same = λ t low high. ap (λ file. zone_state file t) same

pub zone_first : (one two : List ℕ) (r : Option Moment) → IsFirstDifference (zone_state one) (zone_state two) LO HI r → r ≡ zone_difference one two
unfolding zone_difference
zone_first one two r is =
    let le : neg_ℤ (pos 5364662400) ≤ℤ pos 253370764800 = omega (arith, signed_arith) in
    first_is (zone_state one) (zone_state two) LO HI r le is

-- ---- the last transition

-- where the last transition has come, all have
pub all_by : (ms : List Moment) (t : ℤ) (last : Moment) → AreRising ms → 0 < length ms → last ≡ get_or ms (length ms - 1) last → last.seconds ≤ℤ t
    → HaveBegun ms t (length ms)
all_by ms t last up some is le = record {
  bound = omega arith;
  last = λ k d e.
      let at : length ms - 1 ≡ k = omega arith in
      let inside : k < length ms = omega arith in
      let here : get_or ms k d ≡ last = get_or_default ms k d last inside ∙ ap (λ i. get_or ms i last) (sym at) ∙ sym is in
      subst (λ (m : Moment). m.seconds ≤ℤ t) (sym here) le;
  next = λ d lt. absurd (omega arith);
}

pub none_yet : (ms : List Moment) (t : ℤ) → length ms ≡ 0 → HaveBegun ms t (length ms)
none_yet ms t none = record {
  bound = omega arith;
  last = λ k d e. absurd (omega arith);
  next = λ d lt. absurd (omega arith);
}

-- ---- as the code has it

-- one second after the last transition, where the footers are one
pub decided_next : (one two : ZoneFile) (one_footer two_footer : Option Footer) (t b : ℤ) → HasTypes one → HasTypes two → HaveAllBegun one t
    → HaveAllBegun two t → LO ≤ℤ t → one_footer ≡ two_footer → b ≡ t +ℤ pos 1 → Decides (state_at one one_footer) (state_at two two_footer) b
decided_next one two one_footer two_footer t b first second h k low same is =
    let P : Option Footer → Type 0 = λ f. Decides (state_at one one_footer) (state_at two f) (t +ℤ pos 1) in
    let Q : ℤ → Type 0 = λ k. Decides (state_at one one_footer) (state_at two two_footer) k in
    subst Q (sym is) (subst P same (decided_same one two one_footer t first second h k low))

-- what is kept of two zones gives the states of their files
pub decided_zones : (file other : List ℕ) (lists z : ZoneFile) (footer f : Option Footer) (b : ℤ) → IsReadFrom file lists footer → IsReadFrom other z f
    → Decides (lists_state lists) (lists_state z) b → Decides (zone_state file) (zone_state other) b
decided_zones file other lists z footer f b k h d =
    let P : Option Footer → Type 0 = λ o. Decides (state_at lists o) (lists_state z) b in
    let Q : Option Footer → Type 0 = λ o. Decides (state_at lists footer) (state_at z o) b in
    let kept : Decides (state_at lists footer) (state_at z f) b = subst Q (sym h.footer_is) (subst P (sym k.footer_is) d) in
    let R : (ℤ → Local) → Type 0 = λ s. Decides s (state_at z f) b in
    let S : (ℤ → Local) → Type 0 = λ s. Decides (zone_state file) s b in
    subst S (kept_states other z f h) (subst R (kept_states file lists footer k) kept)

-- its footer is lawful
pub kept_lawful : (file : List ℕ) (lists : ZoneFile) (footer : Option Footer) → IsReadFrom file lists footer → IfSome (footer_meant lists.footer) IsLawful
kept_lawful file lists footer k =
    let P : Option Footer → Type 0 = λ o. IfSome o IsLawful in
    subst P k.footer_is k.lawful
