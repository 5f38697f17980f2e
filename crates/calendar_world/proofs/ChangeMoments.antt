-- A zone changes only at its transitions, and after the last of them, in that year, at the onsets
-- of its footer.
use Rattle.std.proofs.Common.{◌≡◌, ◌⊎◌, inl, inr, ℕ, zero, suc, ◌+◌, ◌-◌, ◌<◌, ◌≤◌, ◌==◌, Bool, true, false, cond, not, List, [], ◌∷◌, ◌++◌, length}
use Rattle.std.proofs.Common.{get_or, refl, sym}
use Rattle.std.proofs.Common.{true≢false, subst, ap, ap₂, ◌∙◌, ◌&&◌, arith, map, Option, None, Some, length-append}
use Rattle.std.proofs.lemmas.List.{length-map}
use Rattle.std.specs.Prelude.{ℤ, pos, ◌+ℤ◌, ◌-ℤ◌, ◌≤ℤ◌, ◌<ℤ◌, int_le, slice_index_or}
use Rattle.std.specs.List.{count_by}
use Rattle.std.proofs.lemmas.Bool.{eq-eqb, eqb-true}
use Rattle.std.proofs.lemmas.Int.{by_lt_z, int_max_is, ints}
use Rattle.std.proofs.lemmas.List.Sums.{count_by-le-length, sum_by-cons}
use Rattle.jiff_core.specs.Calendar.{IsYear}
use Rattle.jiff_core.proofs.SignedLemmas.{signed_arith}
use Rattle.td_civil.specs.Bounds.{HasMeaning}
use Rattle.td_civil.specs.Calendar.{IsInYear, stamp_of}
use Rattle.td_civil.specs.declared.moment_type.Moment.{Moment}
use Rattle.td_civil.specs.declared.moment_type.TheConstants.{LO}
use Rattle.td_civil.specs.declared.local_time.Local.{Local}
use Rattle.td_civil.proofs.lemmas.Shown.{bounds_text, shown_year}
use Rattle.td_civil.proofs.lemmas.Years.{years_apart_lem}
use Rattle.tzif_reader.specs.Cut.{lists_of}
use Rattle.tzif_reader.specs.declared.zone_file.ZoneFile.{ZoneFile}
use Rattle.tzif_reader.specs.declared.zone_file.TheConstants.{MOST_TRANSITIONS}
use Rattle.tzif_reader.proofs.lemmas.Whole.{zone_file_of}
use Rattle.posix_footer.specs.Carried.{IsCarriedIfAny, beyond_if_any, is_all_year, is_carried_rule}
use Rattle.posix_footer.specs.Lawful.{IsLawfulIfAny, IsLawfulRule}
use Rattle.posix_footer.specs.NextOnset.{IsQuiet}
use Rattle.posix_footer.specs.Onset.{onset_of}
use Rattle.posix_footer.specs.StateAt.{state_by, state_of}
use Rattle.posix_footer.specs.declared.rule_types.DstRule.{DstRule}
use Rattle.posix_footer.specs.declared.rule_types.Edge.{Edge}
use Rattle.posix_footer.specs.declared.rule_types.Edge.TheVariants as edge
use Rattle.posix_footer.specs.declared.rule_types.Footer.{Footer}
use Rattle.posix_footer.proofs.lemmas.ChangeLemmas.{footer_stays}
use Rattle.recurrence.proofs.lemmas.AllYear.{all_year_daylight}
use Rattle.recurrence.proofs.lemmas.InYear.{onset_in_year}
use Rattle.zone_meaning.proofs.lemmas.ChangeLists.{no_change}
use Rattle.zone_meaning.specs.FaultLemmas.{file_clear}
use Rattle.zone_meaning.specs.Faults.{zone_fault}
use Rattle.zone_meaning.specs.Observed.{observed}
use Rattle.zone_meaning.specs.State.{after, begun, footer_meant, state_at, zone_state}
use Rattle.vtimezone.specs.PartsOf.{year_begin}
use Rattle.vtimezone.specs.ZoneParts.{latest, rule_year}
use Rattle.vtimezone.proofs.lemmas.Whole.{IsLawfulAndCarried}
use Rattle.vtimezone.proofs.lemmas.ZoneRange.{begin_most, lawful_footer, zone_range}
use Rattle.calendar_world.proofs.Fewer.{IsAmong, few_observed}

-- ---- transitions

abbrev seconds_of : Moment → ℤ
seconds_of m = m.seconds

same_test : (m v : ℤ) → m <ℤ v → int_le m v ≡ int_le m (v -ℤ pos 1)
same_test m v lt = grind (arith, ints)

none_yet : (m v : ℤ) → v <ℤ m → int_le m v ≡ int_le m (v -ℤ pos 1)
none_yet m v lt = grind (arith, ints)

more_begun : (m : Moment) (ms : List Moment) (v : ℤ) → int_le m.seconds v ≡ int_le m.seconds (v -ℤ pos 1) → begun v ms ≡ begun (v -ℤ pos 1) ms
    → begun v (m ∷ ms) ≡ begun (v -ℤ pos 1) (m ∷ ms)
more_begun m ms v test same =
    sum_by-cons (λ (y : Moment). cond (int_le y.seconds v) 1 0) m ms ∙ ap₂ (λ (b : Bool) (n : ℕ). cond b 1 0 + n) test same
    ∙ sym (sum_by-cons (λ (y : Moment). cond (int_le y.seconds (v -ℤ pos 1)) 1 0) m ms)

-- a moment is a transition, or as many have come by it as a second before
begun_or : (ms : List Moment) (v : ℤ) → IsAmong (map seconds_of ms) v ⊎ (begun v ms ≡ begun (v -ℤ pos 1) ms)
begun_or [] v = inr refl
begun_or (m ∷ ms) v =
    elim (begun_or ms v) [
      | inl later ↦ inl (inr later)
      | inr same ↦
          by_lt_z m.seconds v (λ lt. inr (more_begun m ms v (same_test m.seconds v lt) same))
          (λ ge. by_lt_z v m.seconds (λ lt. inr (more_begun m ms v (none_yet m.seconds v lt) same)) (λ le. inl (inl (omega (arith, signed_arith, ge, le)))))
    ]

-- where all pass that there are, each does
all_pass : (p : Moment → Bool) (xs : List Moment) (i : ℕ) (d : Moment) → count_by p xs ≡ length xs → i < length xs → p (get_or xs i d) ≡ true
all_pass p [] i d all lt = absurd (omega arith)
all_pass p (x ∷ xs) i d all lt = by (λ j. all_pass p xs j d) (p x) refl i lt
  where
    whole : cond (p x) 1 0 + count_by p xs ≡ suc (length xs)
    whole = sym (sum_by-cons (λ (y : Moment). cond (p y) 1 0) x xs) ∙ all

    by : ((j : ℕ) → count_by p xs ≡ length xs → j < length xs → p (get_or xs j d) ≡ true) → (b : Bool) → p x ≡ b → (k : ℕ) → k < length (x ∷ xs)
        → p (get_or (x ∷ xs) k d) ≡ true
    by again true e zero below = e
    by again true e (suc k) below =
        let sum : cond true 1 0 + count_by p xs ≡ suc (length xs) = subst (λ b. cond b 1 0 + count_by p xs ≡ suc (length xs)) e whole in
        again k (omega (arith, sum)) (omega arith)
    by again false e k below =
        let sum : cond false 1 0 + count_by p xs ≡ suc (length xs) = subst (λ b. cond b 1 0 + count_by p xs ≡ suc (length xs)) e whole in
        let few = count_by-le-length p xs in
        absurd (omega (arith, sum, few))

begun_by : (m v : ℤ) → int_le m v ≡ true → m ≤ℤ v
begun_by m v e = omega (arith, ints)

-- once all have come, the last has
latest_by : (a v : ℤ) (ms : List Moment) → a ≤ℤ v → begun v ms ≡ length ms → latest a ms ≤ℤ v
latest_by a v [] low all = low
latest_by a v (m ∷ ms) low all =
    let none : Moment = record { seconds = pos 0 } in
    let last = (slice_index_or (m ∷ ms) (length (m ∷ ms) - 1) none).seconds in
    let by = begun_by last v (all_pass (λ (x : Moment). int_le x.seconds v) (m ∷ ms) (length (m ∷ ms) - 1) none all (omega arith)) in
    omega (arith, signed_arith, by, low, int_max_is a last)

-- ---- onsets

abbrev rule_onsets : ℤ → Option DstRule → ℤ → List ℤ
rule_onsets std None y = []
rule_onsets std (Some rule) y = onset_of rule std y edge.Start ∷ onset_of rule std y edge.End ∷ []

abbrev footer_onsets : Option Footer → ℤ → List ℤ
footer_onsets None y = []
footer_onsets (Some footer) y = rule_onsets footer.std.offset footer.dst y

two_onsets : (footer : Option Footer) (y : ℤ) → length (footer_onsets footer y) ≤ 2
two_onsets None y = omega arith
two_onsets (Some footer) y = by footer.dst
  where
    by : (o : Option DstRule) → length (rule_onsets footer.std.offset o y) ≤ 2
    by None = omega arith
    by (Some rule) = omega arith

-- a moment of a year at which no onset of that year comes is quiet
module _ (rule : DstRule) (std y v : ℤ) (lawful : IsLawfulRule std rule) (carried : is_carried_rule rule ≡ true) (year : IsYear y) (here : IsInYear y v) where
  is_here : (other : ℤ) (at : Edge) → IsYear other → onset_of rule std other at ≡ v → other ≡ y
  is_here other at there same =
      let P : ℤ → Type 0 = λ m. IsInYear other m in
      let in_other = subst P same (onset_in_year rule std other at lawful there carried) in
      by_lt_z other y (λ lt. let apart = years_apart_lem other y v v there year in_other here lt in absurd (omega (arith, signed_arith, apart)))
      (λ ge. by_lt_z y other (λ lt. let apart = years_apart_lem y other v v year there here in_other lt in absurd (omega (arith, signed_arith, apart)))
      (λ le. omega (arith, signed_arith, ge, le)))

  is_one : (at : Edge) → onset_of rule std y at ≡ v → IsAmong (rule_onsets std (Some rule) y) v
  is_one edge.Start same = inl same
  is_one edge.End same = inr (inl same)

  no_onset : (IsAmong (rule_onsets std (Some rule) y) v → ⊥) → IsQuiet rule std (v -ℤ pos 1) v
  no_onset none other at between by_v =
      by_lt_z (onset_of rule std other at) v (λ lt. omega (arith, signed_arith, lt))
      (λ ge. let same : onset_of rule std other at ≡ v = omega (arith, signed_arith, ge, by_v) in
      let low = between.0 in
      let high = between.1 in
      let is = is_here other at (omega (arith, signed_arith, low), omega (arith, signed_arith, high)) same in
      absurd (none (is_one at (subst (λ (k : ℤ). onset_of rule std k at ≡ v) is same))))

among_or : (xs : List ℤ) (v : ℤ) → IsAmong xs v ⊎ (IsAmong xs v → ⊥)
among_or [] v = inr (λ there. there)
among_or (x ∷ xs) v =
    elim (among_or xs v) [
      | inl later ↦ inl (inr later)
      | inr none ↦
          by_lt_z x v
          (λ lt. inr (λ there. elim there [
            | inl same ↦ absurd (omega (arith, signed_arith, lt, same))
            | inr later ↦ none later
          ]))
          (λ ge. by_lt_z v x
          (λ lt. inr (λ there. elim there [
            | inl same ↦ absurd (omega (arith, signed_arith, lt, same))
            | inr later ↦ none later
          ]))
          (λ le. inl (inl (omega (arith, signed_arith, ge, le)))))
    ]

carried_or : (all carried : Bool) → (not all && not carried) ≡ false → all ≡ false → carried ≡ true
carried_or true carried e f = absurd (true≢false f)
carried_or false true e f = refl
carried_or false false e f = absurd (true≢false e)

-- the footer's state is as a second before
abbrev IsSteady : Option Footer → ℤ → Type 0
IsSteady None v = Unit {0}
IsSteady (Some footer) v = state_of footer v ≡ state_of footer (v -ℤ pos 1)

rule_or : (std : Local) (rule : DstRule) (y v : ℤ) → IsLawfulRule std.offset rule
    → (not (is_all_year std.offset rule) && not (is_carried_rule rule)) ≡ false → IsYear y → IsInYear y v → HasMeaning v → HasMeaning (v -ℤ pos 1)
    → IsAmong (rule_onsets std.offset (Some rule) y) v ⊎ (state_by std (Some rule) v ≡ state_by std (Some rule) (v -ℤ pos 1))
rule_or std rule y v lawful said year here meant before = by (is_all_year std.offset rule) refl
  where
    by : (b : Bool) → is_all_year std.offset rule ≡ b
        → IsAmong (rule_onsets std.offset (Some rule) y) v ⊎ (state_by std (Some rule) v ≡ state_by std (Some rule) (v -ℤ pos 1))
    by true all =
        inr (all_year_daylight std rule v lawful all meant ∙ sym (all_year_daylight std rule (v -ℤ pos 1) lawful all before))
    by false some =
        let carried = carried_or (is_all_year std.offset rule) (is_carried_rule rule) said some in
        elim (among_or (rule_onsets std.offset (Some rule) y) v) [
          | inl there ↦ inl there
          | inr none ↦
              inr (sym (footer_stays (record { std = std; dst = Some rule }) (v -ℤ pos 1) v (omega (arith, signed_arith))
              (no_onset rule std.offset y v lawful carried year here none)))
        ]

footer_or : (std : Local) (dst : Option DstRule) (y v : ℤ) → IsLawfulIfAny std.offset dst → beyond_if_any std.offset dst ≡ false → IsYear y → IsInYear y v
    → HasMeaning v → HasMeaning (v -ℤ pos 1) → IsAmong (rule_onsets std.offset dst y) v ⊎ (state_by std dst v ≡ state_by std dst (v -ℤ pos 1))
footer_or std None y v lawful said year here meant before = inr refl
footer_or std (Some rule) y v lawful said year here meant before = rule_or std rule y v lawful said year here meant before

onset_or : (footer : Option Footer) (y v : ℤ) → IsLawfulAndCarried footer → IsYear y → IsInYear y v → HasMeaning v → HasMeaning (v -ℤ pos 1)
    → IsAmong (footer_onsets footer y) v ⊎ IsSteady footer v
onset_or None y v lawful year here meant before = inr tt
onset_or (Some footer) y v lawful year here meant before = footer_or footer.std footer.dst y v lawful.0.rule lawful.1 year here meant before

-- ---- the state of a zone

steady_if : (b : Bool) (one two rest : Local) → (b ≡ true → one ≡ two) → cond b one rest ≡ cond b two rest
steady_if true one two rest same = same refl
steady_if false one two rest same = refl

stays : (z : ZoneFile) (footer : Option Footer) (v : ℤ) → begun v z.moments ≡ begun (v -ℤ pos 1) z.moments
    → (begun v z.moments ≡ length z.moments → IsSteady footer v) → state_at z footer v ≡ state_at z footer (v -ℤ pos 1)
stays z None v same steady = ap (after z) same
stays z (Some footer) v same steady =
    ap (λ (n : ℕ). cond (n == length z.moments) (state_of footer v) (after z n)) same
    ∙ steady_if (begun (v -ℤ pos 1) z.moments == length z.moments) (state_of footer v) (state_of footer (v -ℤ pos 1)) (after z (begun (v -ℤ pos 1) z.moments))
    (λ e. steady (same ∙ eqb-true (begun (v -ℤ pos 1) z.moments) (length z.moments) e))

among_front : (xs ys : List ℤ) (v : ℤ) → IsAmong xs v → IsAmong (xs ++ ys) v
among_front [] ys v there = absurd there
among_front (x ∷ xs) ys v there =
    elim there [
      | inl is ↦ inl is
      | inr later ↦ inr (among_front xs ys v later)
    ]

among_back : (xs ys : List ℤ) (v : ℤ) → IsAmong ys v → IsAmong (xs ++ ys) v
among_back [] ys v there = there
among_back (x ∷ xs) ys v there = inr (among_back xs ys v there)

abbrev moments_in : ZoneFile → Option Footer → ℤ → List ℤ
moments_in z footer y = map seconds_of z.moments ++ footer_onsets footer y

-- a moment after the beginning of a range, up to the end of the year in which the last transition
-- or that beginning lies
module _ (z : ZoneFile) (footer : Option Footer) (a y v : ℤ) (lawful : IsLawfulAndCarried footer) (year : IsYear y) (from : year_begin y ≤ℤ latest a z.moments)
    (after_a : a <ℤ v) (before : v <ℤ year_begin (y +ℤ pos 1)) (meant : HasMeaning v) (meant_before : HasMeaning (v -ℤ pos 1)) where
  late_or : begun v z.moments ≡ begun (v -ℤ pos 1) z.moments → (b : Bool) → (begun v z.moments == length z.moments) ≡ b
      → IsAmong (moments_in z footer y) v ⊎ (state_at z footer v ≡ state_at z footer (v -ℤ pos 1))
  late_or same true all =
      let last = latest_by a v z.moments (omega (arith, signed_arith, after_a)) (eqb-true (begun v z.moments) (length z.moments) all) in
      let here : IsInYear y v = (omega (arith, signed_arith, from, last), before) in
      elim (onset_or footer y v lawful year here meant meant_before) [
        | inl there ↦ inl (among_back (map seconds_of z.moments) (footer_onsets footer y) v there)
        | inr steady ↦ inr (stays z footer v same (λ _. steady))
      ]
  late_or same false some =
      inr (stays z footer v same (λ all. absurd (true≢false (sym (eq-eqb (begun v z.moments) (length z.moments) all) ∙ some))))

  change_or : IsAmong (moments_in z footer y) v ⊎ (state_at z footer v ≡ state_at z footer (v -ℤ pos 1))
  change_or =
      elim (begun_or z.moments v) [
        | inl there ↦ inl (among_front (map seconds_of z.moments) (footer_onsets footer y) v there)
        | inr same ↦ late_or same (begun v z.moments == length z.moments) refl
      ]

few_moments : (file : List ℕ) (y : ℤ) → zone_fault file ≡ None
    → length (moments_in (lists_of file) (footer_meant (lists_of file).footer) y) ≤ MOST_TRANSITIONS + 2
few_moments file y h =
    let z = lists_of file in
    let zone = zone_file_of file (file_clear file h) in
    let count = zone.second_block_is.moment_count in
    let most : zone.counts.timecnt ≤ MOST_TRANSITIONS = zone.counts_are.times in
    let two = two_onsets (footer_meant z.footer) y in
    omega (arith, count, most, two, length-append (map seconds_of z.moments) (footer_onsets (footer_meant z.footer) y), length-map z.moments seconds_of)

-- the observances from a moment on to the end of that year are as many as transitions, and three
-- more
pub few_told : (file : List ℕ) (a : ℤ) → zone_fault file ≡ None → IsCarriedIfAny (footer_meant (lists_of file).footer) → HasMeaning a
    → length (observed (zone_state file) a (year_begin (rule_year file a))) ≤ MOST_TRANSITIONS + 3
unfolding rule_year zone_state
few_told file a h carried meaning =
    let z = lists_of file in
    let footer = footer_meant z.footer in
    let last = latest a z.moments in
    let y = pos (stamp_of last).year in
    let range = zone_range file a None h meaning tt in
    let year0 = range.year0 in
    let start = range.from in
    let turn = range.turn in
    let low : LO ≤ℤ a = meaning.0 in
    let by = begin_most (y +ℤ pos 1) year0.0 year0.1 in
    let lawful = lawful_footer z.footer carried in
    let shown = shown_year last (bounds_text last (omega (arith, signed_arith, low, start), omega (arith, signed_arith, turn, by))) in
    let few = few_observed (zone_state file) (moments_in z footer y) a (year_begin (y +ℤ pos 1)) (omega (arith, signed_arith, start, turn))
    (λ v after_a before change.
    elim (change_or z footer a y v lawful (omega (arith, signed_arith, year0), omega (arith, signed_arith, year0)) shown.0 after_a before
    (omega (arith, signed_arith, low, after_a), omega (arith, signed_arith, before, by))
    (omega (arith, signed_arith, low, after_a), omega (arith, signed_arith, before, by))) [
      | inl there ↦ there
      | inr same ↦ absurd (true≢false (sym change ∙ no_change (zone_state file) v same))
    ]) in
    let most = few_moments file y h in
    omega (arith, few, most)
