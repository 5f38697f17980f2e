-- The parts of a zone mean the zone.
use Rattle.std.proofs.Common.{◌≡◌, ℕ, zero, suc, ◌⊎◌, inl, inr, sym, subst, ap, ◌∙◌, arith, ℤ, pos, ◌+ℤ◌, ◌-ℤ◌, ◌*ℤ◌, ◌≤ℤ◌, ◌<ℤ◌, unsigned_abs, Option}
use Rattle.std.proofs.Common.{List, ◌∷◌, ◌++◌}
use Rattle.std.specs.List.{Contains}
use Rattle.std.proofs.lemmas.List.Elements.{Contains-append_left, Contains-append_right, Contains-append_cases}
use Rattle.std.proofs.lemmas.Int.{by_lt_z}
use Rattle.jiff_core.specs.Calendar.{days_from_civil}
use Rattle.jiff_core.proofs.SignedLemmas.{signed_arith, one_part}
use Rattle.td_civil.specs.declared.moment_type.Moment.{Moment}
use Rattle.td_civil.specs.declared.local_time.Local.{Local}
use Rattle.posix_footer.specs.declared.rule_types.DstRule.{DstRule}
use Rattle.recurrence.specs.declared.rule_types.Rule.{Rule}
use Rattle.recurrence.specs.declared.part_types.Part.{Part}
use Rattle.recurrence.specs.InForce.{state_of_part, IsOnsetUnder, IsOnset, IsInForce}
use Rattle.vtimezone.proofs.lemmas.Whole.{AreSingles, IsWhole}
use Rattle.vtimezone.specs.Ranges.{IsBeforeEnd}
use Rattle.vtimezone.proofs.InForce.{AreParts, means_from, single_before}
use Rattle.vtimezone.proofs.Singles.{one_listed}
use Rattle.zone_meaning.proofs.lemmas.Members.{member_first}
use Rattle.td_civil.proofs.lemmas.Years.{some_year_lem}

module _ (state : ℤ → Local) (a e : ℤ) (Single : Part → Type 0) (singles : AreSingles state a e Single) where
  single_onset : (p : Part) (m : ℤ) → Single p → IsOnset p m → m ≡ p.start.seconds
  single_onset p m there is =
      let P : Option Rule → Type 0 = λ r. IsOnsetUnder r p m in
      let Q : List Moment → Type 0 = λ dates. Contains (p.start ∷ dates) (record { seconds = m }) in
      let each = singles.each_is p there in
      one_listed p.start m (subst Q each.3 (subst P each.0 is))

  starts : (p : Part) → Single p → IsOnset p p.start.seconds
  starts p there =
      let P : Option Rule → Type 0 = λ r. IsOnsetUnder r p p.start.seconds in
      subst P (sym (singles.each_is p there).0) (member_first p.start p.dates)

  not_before : (p : Part) → Single p → a ≤ℤ p.start.seconds
  not_before p there = elim (singles.each_changes p there) [
    | inl same ↦ omega (arith, signed_arith, same)
    | inr later ↦ let lt = later.0 in omega (arith, signed_arith)
  ]

  abbrev pub MeansBy : ℤ → Type 0
  MeansBy t = (p : Part) × (IsInForce Single t p × (state_of_part p ≡ state t))

  from_start : (p : Part) (t : ℤ) → Single p → p.start.seconds ≡ t → MeansBy t
  from_start p t there is = (
    p,
    (
      record {
        there = there;
        onset = p.start.seconds;
        is = starts p there;
        begun = omega (arith, signed_arith, is);
        greatest = λ other m also onset begun.
            let start = single_onset other m also onset in
            by_lt_z m p.start.seconds (λ lt. inl lt)
            (λ le. let same : other.start.seconds ≡ p.start.seconds = omega (arith, signed_arith, start, is, begun) in
            inr (start ∙ same, singles.one other p also there same));
      },
      (singles.each_is p there).2 ∙ ap state is,
    ),
  )

  by_steps : (k : ℕ) (t : ℤ) → t ≡ a +ℤ pos k → t <ℤ e → MeansBy t
  by_steps zero t is before =
      let first = singles.first in
      let start : first.0.start.seconds ≡ t = omega (arith, signed_arith, first.1.1, is) in
      from_start first.0 t first.1.0 start
  by_steps (suc k) t is before =
      let last = by_steps k (t -ℤ pos 1) (omega (arith, signed_arith)) (omega (arith, signed_arith)) in
      elim (singles.some t (omega (arith, signed_arith)) before) [
        | inl same ↦
            let force = last.1.0 in
            let begun = force.begun in (
              last.0,
              (
                record {
                  there = force.there;
                  onset = force.onset;
                  is = force.is;
                  begun = omega (arith, signed_arith);
                  greatest = λ other m also onset m_begun. by_lt_z m t
                      (λ lt. force.greatest other m also onset (omega (arith, signed_arith)))
                      (λ le.
                      let start = single_onset other m also onset in
                      let now : other.start.seconds ≡ t = omega (arith, signed_arith, start, m_begun) in
                      elim (singles.each_changes other also) [
                        | inl at_first ↦ absurd (omega (arith, signed_arith, at_first, now, is))
                        | inr changes ↦ absurd (changes.1 (ap state now ∙ same ∙ sym (ap (λ j. state (j -ℤ pos 1)) now)))
                      ]);
                },
                last.1.1 ∙ sym same,
              ),
            )
        | inr found ↦ from_start found.0 t found.1.0 found.1.1
      ]

  -- one of the single parts is in force, and has the state
  pub singles_mean : (t : ℤ) → a ≤ℤ t → t <ℤ e → MeansBy t
  singles_mean t from before =
      by_steps (unsigned_abs (t -ℤ a)) t (omega (arith, signed_arith, one_part (t -ℤ a))) before

-- the last single part stays in force while the state stays
pub singles_stay : (state : ℤ → Local) (a e : ℤ) (Single : Part → Type 0) → AreSingles state a e Single → (t : ℤ) → a <ℤ e → (e -ℤ pos 1) ≤ℤ t
    → state t ≡ state (e -ℤ pos 1) → (p : Part) × (IsInForce Single t p × (state_of_part p ≡ state t))
singles_stay state a e Single singles t some late same =
    let last = singles_mean state a e Single singles (e -ℤ pos 1) (omega (arith, signed_arith)) (omega (arith, signed_arith)) in
    let force = last.1.0 in
    let begun = force.begun in (
      last.0,
      (
        record {
          there = force.there;
          onset = force.onset;
          is = force.is;
          begun = omega (arith, signed_arith);
          greatest = λ other m also onset m_begun.
              let start = single_onset state a e Single singles other m also onset in
              let inside = (singles.each_is other also).1 in
              force.greatest other m also onset (omega (arith, signed_arith, start, inside));
        },
        last.1.1 ∙ sym same,
      ),
    )

pub parts_mean : (state : ℤ → Local) (std : Local) (rule : DstRule) (a e y0 : ℤ) (b : Option ℤ) (Single Ruled : Part → Type 0)
    → IsWhole state std rule a e y0 b Single Ruled
    → (t : ℤ) → a ≤ℤ t → t <ℤ (days_from_civil (pos 9999) 1 1 *ℤ pos 86400) → IsBeforeEnd b t
    → (p : Part) × (IsInForce (λ q. Single q ⊎ Ruled q) t p × (state_of_part p ≡ state t))
parts_mean state std rule a e y0 b Single Ruled whole t from before_hi before =
    let edge_of = days_from_civil y0 1 1 *ℤ pos 86400 in
    let begin = whole.begin in
    let end = whole.end in
    let parts : AreParts std rule y0 b Single Ruled = record {
      singles = λ p m there onset.
          let start = single_onset state a e Single whole.singles p m there onset in
          let inside = (whole.singles.each_is p there).1 in
          omega (arith, signed_arith, start, inside);
      rules = whole.rules;
    } in
    by_lt_z t edge_of
    (λ early.
    let found = singles_mean state a e Single whole.singles t from (whole.reach t before early) in
    (found.0, (single_before std rule y0 b Single Ruled whole.lawful whole.carried whole.year0 parts t found.0 early found.1.0, found.1.1)))
    (λ late.
    let full = whole.full t before late in
    let last = edge_of -ℤ pos 1 in
    let force = singles_mean state a e Single whole.singles last (omega (arith, signed_arith)) (omega (arith, signed_arith, full)) in
    let range = whole.year0 in
    let n = unsigned_abs (pos 9999 -ℤ y0) in
    let sum : y0 +ℤ pos n ≡ pos 9999 = omega (arith, signed_arith, one_part (pos 9999 -ℤ y0)) in
    let P : ℤ → Type 0 = λ k. t <ℤ (days_from_civil k 1 1 *ℤ pos 86400) in
    let year = some_year_lem n y0 t late (subst P (sym sum) before_hi) in
    let below = year.1.1 in
    let found = means_from std rule y0 b Single Ruled whole.lawful whole.carried whole.year0 parts t year.0 year.1.0
    (omega (arith, signed_arith, sum, below)) year.1.2 before force.0 force.1.0 (force.1.1 ∙ whole.footer last (omega (arith, signed_arith))) in
    (found.0, (found.1.0, found.1.1 ∙ sym (whole.footer t (omega (arith, signed_arith))))))

in_force_listed : (singles ruled : List Part) (t : ℤ) (p : Part) → IsInForce (λ q. Contains singles q ⊎ Contains ruled q) t p
    → IsInForce (Contains (singles ++ ruled)) t p
in_force_listed singles ruled t p is = record {
  there = elim (is.there) [
    | inl single ↦ Contains-append_left singles ruled p single
    | inr rule ↦ Contains-append_right singles ruled p rule
  ];
  onset = is.onset;
  is = is.is;
  begun = is.begun;
  greatest = λ other m there onset begun. is.greatest other m (Contains-append_cases singles ruled other there) onset begun;
}

pub listed_parts_mean : (state : ℤ → Local) (std : Local) (rule : DstRule) (a e y0 : ℤ) (b : Option ℤ) (singles ruled : List Part)
    → IsWhole state std rule a e y0 b (Contains singles) (Contains ruled)
    → (t : ℤ) → a ≤ℤ t → t <ℤ (days_from_civil (pos 9999) 1 1 *ℤ pos 86400) → IsBeforeEnd b t
    → (p : Part) × (IsInForce (Contains (singles ++ ruled)) t p × (state_of_part p ≡ state t))
listed_parts_mean state std rule a e y0 b singles ruled whole t from before_hi before =
    let found = parts_mean state std rule a e y0 b (Contains singles) (Contains ruled) whole t from before_hi before in
    (found.0, (in_force_listed singles ruled t found.0 found.1.0, found.1.1))
