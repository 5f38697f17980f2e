-- The part in force, among single parts before a year and the rule parts from that year on.
use Rattle.std.proofs.Common.{◌≡◌, ℕ, ◌≤◌, ◌⊎◌, true, inl, inr, sym, subst, ap, ◌∙◌, arith, ℤ, pos, ◌+ℤ◌, ◌-ℤ◌, ◌*ℤ◌, ◌≤ℤ◌, ◌<ℤ◌, Option, None, Some}
use Rattle.std.proofs.lemmas.Int.{by_lt_z}
use Rattle.jiff_core.specs.Calendar.{days_from_civil, days_in_month, IsYear, IsBetween}
use Rattle.jiff_core.proofs.SignedLemmas.{signed_arith}
use Rattle.jiff_core.proofs.CalendarLemmas.{days_from_civil-day_count, day_count-next_year, day_count-day_of_year, day_of_year_bound, days_in_year_bounds}
use Rattle.td_civil.specs.Calendar.{IsInYear}
use Rattle.td_civil.specs.declared.moment_type.Moment.{Moment}
use Rattle.td_civil.specs.declared.local_time.Local.{Local}
use Rattle.posix_footer.specs.declared.rule_types.Edge.{Edge}
use Rattle.posix_footer.specs.declared.rule_types.Edge.TheVariants as edge
use Rattle.posix_footer.specs.declared.rule_types.DstRule.{DstRule}
use Rattle.posix_footer.specs.Lawful.{IsLawfulRule}
use Rattle.posix_footer.specs.Onset.{onset_of}
use Rattle.posix_footer.specs.StateAt.{state_by, state_after}
use Rattle.posix_footer.proofs.lemmas.StateLemmas.{onset_rises}
use Rattle.recurrence.specs.declared.rule_types.Rule.{Rule}
use Rattle.recurrence.specs.declared.part_types.Part.{Part}
use Rattle.recurrence.specs.Falls.{IsOfYear}
use Rattle.posix_footer.specs.Carried.{is_carried_rule}
use Rattle.recurrence.specs.RuleOfDate.{rule_of}
use Rattle.recurrence.specs.Occurs.{FallsAt, moment_of}
use Rattle.recurrence.specs.InForce.{state_of_part, NotAfter, IsRuleOnset, IsOnsetUnder, IsOnset, IsInForce}
use Rattle.vtimezone.proofs.lemmas.Whole.{IsUntil, IsRulePart, AreRuleParts}
use Rattle.vtimezone.specs.PartsOf.{offset_before, date_of_edge}
use Rattle.vtimezone.specs.Ranges.{IsBeforeEnd}
use Rattle.recurrence.proofs.lemmas.Onsets.{keeps_onsets}
use Rattle.recurrence.proofs.lemmas.InYear.{AreOrdered, onset_in_year, onsets_ordered}
use Rattle.vtimezone.proofs.Newest.{IsNewest, newest_first, newest_second, newest_before, state_of_newest}

-- a change's rule in a year
falls_of : (std : Local) (rule : DstRule) (y : ℤ) (at : Edge) → IsLawfulRule std.offset rule → IsYear y → is_carried_rule rule ≡ true
    → FallsAt (rule_of (date_of_edge rule at)) (offset_before std rule at) y (onset_of rule std.offset y at)
falls_of std rule y edge.Start h year e = ((keeps_onsets rule std.offset h e).each_year y year).start_falls
falls_of std rule y edge.End h year e = ((keeps_onsets rule std.offset h e).each_year y year).end_falls

-- a day on which a rule falls is of a year
day_of_its_year : (y : ℤ) (m d : ℕ) (day : ℤ) → IsYear y → (1 ≤ m) × (m ≤ 12) → (1 ≤ d) × (d ≤ days_in_month y m) → day ≡ days_from_civil y m d
    → IsOfYear y day
day_of_its_year y m d day year month date is =
    let place = day_count-day_of_year y m d date.0 in
    let bound = day_of_year_bound y m d (year, month, date) in
    (omega (arith, signed_arith, days_from_civil-day_count, is), omega (arith, signed_arith, days_from_civil-day_count, is))

-- the years of a rule's moments
pub record IsOnsetFrom (std : Local) (rule : DstRule) (y0 : ℤ) (at : Edge) (m : ℤ) : Type 0 where
  pub y : ℤ
  pub year : IsYear y
  pub from : y0 ≤ℤ y
  pub is : m ≡ onset_of rule std.offset y at

-- the moments of a rule from the first year's on are the onsets from that year on
rule_gives : (std : Local) (rule : DstRule) (y0 : ℤ) (at : Edge) (p : Part) (m : ℤ) → IsLawfulRule std.offset rule → is_carried_rule rule ≡ true
    → IsYear y0 → p.from ≡ offset_before std rule at → p.start.seconds ≡ onset_of rule std.offset y0 at → IsRuleOnset (rule_of (date_of_edge rule at)) p m
    → IsOnsetFrom std rule y0 at m
rule_gives std rule y0 at p m h e year0 from start onset =
    let falls = onset.falls in
    let y = falls.year in
    let year = falls.there.0 in
    let there = falls_of std rule y at h year e in
    let same = there.occurs.only onset.day (day_of_its_year y falls.month falls.date onset.day year falls.there.1 falls.there.2 falls.number) falls in
    let is : m ≡ onset_of rule std.offset y at =
    onset.moment_is ∙ ap (λ o. moment_of (rule_of (date_of_edge rule at)) o onset.day) from
    ∙ ap (λ d. moment_of (rule_of (date_of_edge rule at)) (offset_before std rule at) d) same
    ∙ there.moment_is in
    record {
      y = y;
      year = year;
      from = by_lt_z y y0
          (λ lt. let rises = onset_rises rule std.offset y y0 at h year year0 lt in
          let first = onset.from_start in
          absurd (omega (arith, signed_arith, is, start, first, rises)))
          (λ le. le);
      is = is;
    }

part_gives : (std : Local) (rule : DstRule) (y0 : ℤ) (b : Option ℤ) (at : Edge) (p : Part) (m : ℤ) → IsLawfulRule std.offset rule
    → is_carried_rule rule ≡ true → IsYear y0 → IsRulePart std rule y0 b at p → IsOnset p m → IsOnsetFrom std rule y0 at m
part_gives std rule y0 b at p m h e year0 is onset =
    let P : Option Rule → Type 0 = λ r. IsOnsetUnder r p m in
    rule_gives std rule y0 at p m h e year0 is.from_is is.start_is (subst P is.rule_is onset)

not_after_until : (std : Local) (rule : DstRule) (y0 y : ℤ) (b : Option ℤ) (until : Option Moment) (at : Edge) → IsYear y → y0 ≤ℤ y
    → IsUntil rule std.offset at y0 b until → IsBeforeEnd b (onset_of rule std.offset y at) → NotAfter (onset_of rule std.offset y at) until
not_after_until std rule y0 y None until at year from is before =
    let P : Option Moment → Type 0 = NotAfter (onset_of rule std.offset y at) in
    subst P (sym is) tt
not_after_until std rule y0 y (Some b) until at year from is before =
    let P : Option Moment → Type 0 = NotAfter (onset_of rule std.offset y at) in
    subst P (sym is.1) (is.2.greatest y year from before)

pub first_not_later : (rule : DstRule) (std y0 y : ℤ) (at : Edge) → IsLawfulRule std rule → IsYear y0 → IsYear y → y0 ≤ℤ y
    → onset_of rule std y0 at ≤ℤ onset_of rule std y at
first_not_later rule std y0 y at h year0 year from =
    by_lt_z y0 y
    (λ lt. let rises = onset_rises rule std y0 y at h year0 year lt in omega (arith, signed_arith))
    (λ le. let same : y0 ≡ y = omega (arith, signed_arith) in
    let P : ℤ → Type 0 = λ k. onset_of rule std y0 at ≤ℤ onset_of rule std k at in
    subst P same (omega (arith, signed_arith)))

-- and each such onset before the end is one of the part's
part_has : (std : Local) (rule : DstRule) (y0 y : ℤ) (b : Option ℤ) (at : Edge) (p : Part) → IsLawfulRule std.offset rule → is_carried_rule rule ≡ true
    → IsYear y0 → IsYear y → y0 ≤ℤ y → IsRulePart std rule y0 b at p → IsBeforeEnd b (onset_of rule std.offset y at)
    → IsOnset p (onset_of rule std.offset y at)
part_has std rule y0 y b at p h e year0 year from is before =
    let there = falls_of std rule y at h year e in
    let first = first_not_later rule std.offset y0 y at h year0 year from in
    let start = is.start_is in
    let P : Option Rule → Type 0 = λ r. IsOnsetUnder r p (onset_of rule std.offset y at) in
    let onset : IsRuleOnset (rule_of (date_of_edge rule at)) p (onset_of rule std.offset y at) = record {
      day = there.day;
      falls = there.occurs.falls;
      moment_is = sym there.moment_is ∙ ap (λ o. moment_of (rule_of (date_of_edge rule at)) o there.day) (sym is.from_is);
      from_start = omega (arith, signed_arith, start, first);
      not_after = not_after_until std rule y0 y b p.until at year from is.until_is before;
    } in
    subst P (sym is.rule_is) onset

before_end : (b : Option ℤ) (m t : ℤ) → m ≤ℤ t → IsBeforeEnd b t → IsBeforeEnd b m
before_end None m t h e = tt
before_end (Some b) m t h e = omega (arith, signed_arith)

-- single parts, all of whose onsets come before the year y0, and the rule parts from y0 on
pub record AreParts (std : Local) (rule : DstRule) (y0 : ℤ) (b : Option ℤ) (Single Ruled : Part → Type 0) : Type 0 where
  pub singles : (p : Part) (m : ℤ) → Single p → IsOnset p m → m <ℤ (days_from_civil y0 1 1 *ℤ pos 86400)
  pub rules : AreRuleParts std rule y0 b Ruled

module _ (std : Local) (rule : DstRule) (y0 : ℤ) (b : Option ℤ) (Single Ruled : Part → Type 0) (h : IsLawfulRule std.offset rule)
    (carried : is_carried_rule rule ≡ true) (year0 : IsBetween (pos 1799) (pos 9998) y0) (parts : AreParts std rule y0 b Single Ruled) where
  abbrev pub In : Part → Type 0
  In p = Single p ⊎ Ruled p

  first_year : IsYear y0
  first_year = let range = year0 in (omega (arith, signed_arith), omega (arith, signed_arith))

  -- an onset of y0 or later comes after the single parts
  after_singles : (y : ℤ) (at : Edge) → IsYear y → y0 ≤ℤ y → (days_from_civil y0 1 1 *ℤ pos 86400) ≤ℤ onset_of rule std.offset y at
  after_singles y at year from =
      let first = (onset_in_year rule std.offset y0 at h first_year carried).0 in
      let later = first_not_later rule std.offset y0 y at h first_year year from in
      omega (arith, signed_arith)

  -- the newest change is that of a rule part in force
  pub newest_in_force : (t y : ℤ) (at : Edge) → y0 ≤ℤ y → IsBeforeEnd b t → IsNewest rule std.offset t y at
      → (p : Part) × (IsInForce In t p × (state_of_part p ≡ state_after std rule at))
  newest_in_force t y at from before newest =
      let o = onset_of rule std.offset y at in
      let o_before = before_end b o t newest.begun before in
      let first = first_not_later rule std.offset y0 y at h first_year newest.year from in
      let begun = newest.begun in
      let found = parts.rules.some at (before_end b (onset_of rule std.offset y0 at) t (omega (arith, signed_arith)) before) in
      let p = found.0 in
      let is = found.1.1 in (
        p,
        (
          record {
            there = inr found.1.0;
            onset = o;
            is = part_has std rule y0 y b at p h carried first_year newest.year from is o_before;
            begun = newest.begun;
            greatest = λ other m there onset m_begun. elim there [
              | inl single ↦
                  let early = parts.singles other m single onset in
                  let late = after_singles y at newest.year from in
                  inl (omega (arith, signed_arith))
              | inr ruled ↦
                  let its = parts.rules.each other ruled in
                  let given = part_gives std rule y0 b its.0 other m h carried first_year its.1 onset in
                  let value = given.is in
                  let by_t : onset_of rule std.offset given.y its.0 ≤ℤ t = omega (arith, signed_arith, value, m_begun) in
                  elim (newest.newest given.y its.0 given.year by_t) [
                    | inl lt ↦ inl (omega (arith, signed_arith, value, lt))
                    | inr same ↦
                        let P : Edge → Type 0 = λ a. IsRulePart std rule y0 b a other in
                        let equal : m ≡ o = value ∙ ap (λ k. onset_of rule std.offset k its.0) same.0 ∙ ap (onset_of rule std.offset y) same.1 in
                        inr (equal, parts.rules.one other p at ruled found.1.0 (subst P same.1 its.1) is)
                  ]
            ];
          },
          is.state_is,
        ),
      )

  -- where no change has come by t since the year y0, a single part stays in force
  pub single_stays : (t : ℤ) (p : Part) → ((y : ℤ) (at : Edge) → IsYear y → y0 ≤ℤ y → t <ℤ onset_of rule std.offset y at)
      → ((days_from_civil y0 1 1 *ℤ pos 86400) -ℤ pos 1) ≤ℤ t → IsInForce Single ((days_from_civil y0 1 1 *ℤ pos 86400) -ℤ pos 1) p → IsInForce In t p
  single_stays t p late from is =
      let begun = is.begun in
      record {
        there = inl is.there;
        onset = is.onset;
        is = is.is;
        begun = omega (arith, signed_arith);
        greatest = λ other m there onset m_begun. elim there [
          | inl single ↦
              let early = parts.singles other m single onset in
              is.greatest other m single onset (omega (arith, signed_arith))
          | inr ruled ↦
              let its = parts.rules.each other ruled in
              let given = part_gives std rule y0 b its.0 other m h carried first_year its.1 onset in
              let value = given.is in
              let after = late given.y its.0 given.year given.from in
              absurd (omega (arith, signed_arith, value, after, m_begun))
        ];
      }

  -- before the year y0 a single part is in force
  pub single_before : (t : ℤ) (p : Part) → t <ℤ (days_from_civil y0 1 1 *ℤ pos 86400) → IsInForce Single t p → IsInForce In t p
  single_before t p early is = record {
    there = inl is.there;
    onset = is.onset;
    is = is.is;
    begun = is.begun;
    greatest = λ other m there onset m_begun. elim there [
      | inl single ↦ is.greatest other m single onset m_begun
      | inr ruled ↦
          let its = parts.rules.each other ruled in
          let given = part_gives std rule y0 b its.0 other m h carried first_year its.1 onset in
          let value = given.is in
          let after = after_singles given.y its.0 given.year given.from in
          absurd (omega (arith, signed_arith, value, after, m_begun))
    ];
  }

  -- what is shown of a moment
  abbrev pub Means : ℤ → Type 0
  Means t = (p : Part) × (IsInForce In t p × (state_of_part p ≡ state_by std (Some rule) t))

  by_newest : (t y : ℤ) (at : Edge) → IsBetween (pos 1798) (pos 9999) y → y0 ≤ℤ y → IsBeforeEnd b t → IsNewest rule std.offset t y at → Means t
  by_newest t y at year from before newest =
      let found = newest_in_force t y at from before newest in
      (found.0, (found.1.0, found.1.1 ∙ sym (state_of_newest std rule t y at year newest)))

  -- from the year y0 on, with the changes of a year in their order
  pub means_ordered : (first second : Edge) (t y : ℤ) → AreOrdered rule std.offset first second → y0 ≤ℤ y → y ≤ℤ pos 9998 → IsInYear y t → IsBeforeEnd b t
      → (p : Part) → IsInForce Single ((days_from_civil y0 1 1 *ℤ pos 86400) -ℤ pos 1) p
      → state_of_part p ≡ state_by std (Some rule) ((days_from_civil y0 1 1 *ℤ pos 86400) -ℤ pos 1) → Means t
  means_ordered first second t y ordered from high here before p force state =
      let range = year0 in
      let year : IsYear y = (omega (arith, signed_arith), omega (arith, signed_arith)) in
      let there : IsBetween (pos 1798) (pos 9999) y = (omega (arith, signed_arith), omega (arith, signed_arith)) in
      let last = y -ℤ pos 1 in
      let last_year : IsYear last = (omega (arith, signed_arith), omega (arith, signed_arith)) in
      let last_there : IsBetween (pos 1798) (pos 9999) last = (omega (arith, signed_arith), omega (arith, signed_arith)) in
      by_lt_z t (onset_of rule std.offset y second)
      (λ before_second. by_lt_z t (onset_of rule std.offset y first)
      (λ early.
      let newest = newest_before rule std.offset first second h carried ordered t y last year last_year (omega (arith, signed_arith)) here early in
      by_lt_z y0 y
      (λ lt. by_newest t last second last_there (omega (arith, signed_arith)) before newest)
      (λ le.
      let same : y ≡ y0 = omega (arith, signed_arith) in
      let end = (days_from_civil y0 1 1 *ℤ pos 86400) -ℤ pos 1 in
      let Here : ℤ → Type 0 = λ k. (days_from_civil k 1 1 *ℤ pos 86400) ≤ℤ t in
      let begun = subst Here same here.0 in
      let next : last +ℤ pos 1 ≡ y0 = omega (arith, signed_arith) in
      let long = day_count-next_year last y0 (omega (arith, signed_arith)) (sym next) in
      let at_end : IsInYear last end = (
        omega (arith, signed_arith, long, days_in_year_bounds last, days_from_civil-day_count),
        subst (λ k. end <ℤ (days_from_civil k 1 1 *ℤ pos 86400))
            (sym next) (omega (arith, signed_arith)),
      ) in
      let in_last = (onset_in_year rule std.offset last second h last_year carried).1 in
      let by_end : onset_of rule std.offset last second ≤ℤ end =
      let lt = subst (λ k. onset_of rule std.offset last second <ℤ (days_from_civil k 1 1 *ℤ pos 86400)) next in_last in omega (arith, signed_arith) in
      let newest_end = newest_second rule std.offset first second h carried ordered end last last_year at_end by_end in
      let stays : state_by std (Some rule) end ≡ state_by std (Some rule) t = state_of_newest std rule end last second last_there newest_end ∙ sym
      (state_of_newest std rule t last second last_there newest) in
      let late : (other : ℤ) (at : Edge) → IsYear other → y0 ≤ℤ other → t <ℤ onset_of rule std.offset other at =
      λ other at that since. by_lt_z t (onset_of rule std.offset other at) (λ lt. lt)
      (λ ge. elim (newest.newest other at that ge) [
        | inl lt ↦
            let after = after_singles other at that since in
            absurd (omega (arith, signed_arith, by_end, after, lt))
        | inr is ↦ absurd (omega (arith, signed_arith, is.0, since, next))
      ]) in
      (p, (single_stays t p late (omega (arith, signed_arith)) force, state ∙ stays))))
      (λ begun. by_newest t y first there from before (newest_first rule std.offset first second h carried ordered t y year here begun before_second)))
      (λ begun. by_newest t y second there from before (newest_second rule std.offset first second h carried ordered t y year here begun))

  -- in whichever order the changes of a year come
  pub means_from : (t y : ℤ) → y0 ≤ℤ y → y ≤ℤ pos 9998 → IsInYear y t → IsBeforeEnd b t
      → (p : Part) → IsInForce Single ((days_from_civil y0 1 1 *ℤ pos 86400) -ℤ pos 1) p
      → state_of_part p ≡ state_by std (Some rule) ((days_from_civil y0 1 1 *ℤ pos 86400) -ℤ pos 1) → Means t
  means_from t y from high here before p force state =
      elim (onsets_ordered rule std.offset h carried) [
        | inl ordered ↦ means_ordered edge.Start edge.End t y ordered from high here before p force state
        | inr ordered ↦ means_ordered edge.End edge.Start t y ordered from high here before p force state
      ]

-- at most one part is in force
pub one_in_force : (In : Part → Type 0) (t : ℤ) (p q : Part) → IsInForce In t p → IsInForce In t q → p ≡ q
one_in_force In t p q is also =
    elim (is.greatest q also.onset also.there also.is also.begun) [
      | inl lt ↦ elim (also.greatest p is.onset is.there is.is is.begun) [
        | inl gt ↦ absurd (omega (arith, signed_arith, lt, gt))
        | inr same ↦ same.1
      ]
      | inr same ↦ sym same.1
    ]
