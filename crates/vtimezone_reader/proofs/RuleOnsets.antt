-- Where the onsets of a rule come next: in the year that clocks show, or in the one after it.
use Rattle.std.proofs.Common.{◌≡◌, inl, inr, ℕ, ◌≤◌, ◌<◌, true, false, ◌&&◌, refl, sym, subst, arith}
use Rattle.std.proofs.Common.{ℤ, pos, negsuc, neg_ℤ, ◌+ℤ◌, ◌-ℤ◌, ◌*ℤ◌, ◌≤ℤ◌, ◌<ℤ◌, int_le, int_lt, Option, None, Some}
use Rattle.std.specs.Int.{int_div_euclid, int_rem_euclid}
use Rattle.std.specs.Ordering.{int_eq}
use Rattle.std.proofs.lemmas.Bool.{and_from, and_parts, cond_both}
use Rattle.std.proofs.lemmas.Int.{ints, by_lt_z}
use Rattle.jiff_core.specs.Calendar.{days_from_civil, days_in_year, IsYear, IsWithin}
use Rattle.std.specs.Option.{IfSome}
use Rattle.jiff_core.proofs.SignedLemmas.{signed_arith, int_div_euclid-parts}
use Rattle.jiff_core.proofs.CalendarLemmas.{days_from_civil-day_count, day_count-next_year, day_count-later_year, day_count-year_bounds, day_count-end}
use Rattle.jiff_core.proofs.MarchLemmas.{day_count-early}
use Rattle.td_civil.specs.declared.moment_type.Moment.{Moment}
use Rattle.td_civil.specs.declared.moment_type.TheConstants.{LO, HI}
use Rattle.recurrence.specs.declared.part_types.Part.{Part}
use Rattle.recurrence.specs.declared.rule_types.Rule.{Rule}
use Rattle.recurrence.specs.Falls.{Falls, IsOfYear}
use Rattle.recurrence.specs.Occurs.{moment_of}
use Rattle.vtimezone_reader.specs.FallsOn.{falls_on}
use Rattle.vtimezone_reader.specs.Observing.{NoneBetween, IsNextWhere, IsOnsetIn, IsYearShown, IsOnsetAfter, IsLate, IsFromTo, kept, kept_if, kept_until}
use Rattle.vtimezone_reader.specs.Observing.{later}
use Rattle.vtimezone_reader.specs.Onsets.{day_shown, is_rule_onset, is_onset_of, is_not_after}
use Rattle.vtimezone_reader.specs.Sound.{IsSoundPart, HasStartTime}
use Rattle.vtimezone_reader.proofs.Falling.{IsDay, falls_is, falls_on_of}
use Rattle.vtimezone_reader.proofs.Tests.{not_true, int_same, int_eq_of}

-- a rule falls at a moment
pub record IsRuleAt (p : Part) (rule : Rule) (v : ℤ) : Type 0 where
  pub day : ℤ
  pub moment : v +ℤ p.from ≡ (day *ℤ pos 86400) +ℤ pos rule.second
  pub falls : falls_on rule.form day ≡ true
  pub from_start : p.start.seconds ≤ℤ v
  pub not_after : is_not_after p.until v ≡ true

moment_back : (d s o v : ℤ) → ((d +ℤ s) -ℤ o) ≡ v → v +ℤ o ≡ d +ℤ s
moment_back d s o v e = omega (arith, signed_arith)

int_at_most : (a b : ℤ) → int_le a b ≡ true → a ≤ℤ b
int_at_most a b e = grind (arith, ints)

pub rule_at : (p : Part) (rule : Rule) (v : ℤ) → is_rule_onset p rule v ≡ true → IsRuleAt p rule v
unfolding is_rule_onset
rule_at p rule v e =
    let d = day_shown p.from v in
    let last = and_parts (int_eq (moment_of rule p.from d) v && falls_on rule.form d && int_le p.start.seconds v) (is_not_after p.until v) e in
    let third = and_parts (int_eq (moment_of rule p.from d) v && falls_on rule.form d) (int_le p.start.seconds v) last.0 in
    let two = and_parts (int_eq (moment_of rule p.from d) v) (falls_on rule.form d) third.0 in
    record {
      day = d;
      moment = moment_back (d *ℤ pos 86400) (pos rule.second) p.from v (int_same _ _ two.0);
      falls = two.1;
      from_start = int_at_most _ _ third.1;
      not_after = last.1;
    }

shown_day : (o v day : ℤ) (s : ℕ) → s < 86400 → v +ℤ o ≡ (day *ℤ pos 86400) +ℤ pos s → day_shown o v ≡ day
shown_day o v day s lt e = omega (arith, signed_arith, e)

int_le_of : (a b : ℤ) → a ≤ℤ b → int_le a b ≡ true
int_le_of a b e = grind (arith, ints)

-- the day of a year passes the test
pub onset_passes : (p : Part) (rule : Rule) (n : ℕ) (day v : ℤ) → rule.second < 86400 → n ≤ 9999 → IsDay day → IsOfYear (pos n) day → Falls rule.form day
    → v ≡ moment_of rule p.from day → p.start.seconds ≤ℤ v → is_not_after p.until v ≡ true → is_rule_onset p rule v ≡ true
unfolding is_rule_onset
onset_passes p rule n day v second year within inside falls is start until =
    let shown = shown_day p.from v day rule.second second (moment_back (day *ℤ pos 86400) (pos rule.second) p.from v (sym is)) in
    rw shown (and_from _ _ (and_from _ _ (and_from _ _ (int_eq_of _ _ (sym is)) (falls_on_of rule.form n day year within inside falls))
    (int_le_of _ _ start)) until)

-- no day before 1800, since the start has the same time of day
early_absurd : (p : Part) (rule : Rule) (v d : ℤ) → IsWithin 86399 p.from → rule.second < 86400
    → pos rule.second ≡ int_rem_euclid (p.start.seconds +ℤ p.from) (pos 86400)
    → v +ℤ p.from ≡ (d *ℤ pos 86400) +ℤ pos rule.second → LO ≤ℤ p.start.seconds → p.start.seconds <ℤ v → d <ℤ neg_ℤ (pos 62091) → ⊥
early_absurd p rule v d offset second time is low later early =
    let q = int_div_euclid (p.start.seconds +ℤ p.from) (pos 86400) in
    let start : p.start.seconds +ℤ p.from ≡ (q *ℤ pos 86400) +ℤ pos rule.second = omega (arith, signed_arith, time) in
    omega (arith, signed_arith, start, is, offset, second)

-- ---- years

year_1800 : days_from_civil (pos 1800) 1 1 ≡ neg_ℤ (pos 62091)
year_1800 = omega (arith, signed_arith, days_from_civil-day_count, day_count-early (pos 1800) 11799 1 1 refl (omega arith) (omega arith) (omega arith))

year_0 : days_from_civil (pos 0) 1 1 ≡ neg_ℤ (pos 719528)
year_0 = omega (arith, signed_arith, days_from_civil-day_count, day_count-early (pos 0) 9999 1 1 refl (omega arith) (omega arith) (omega arith))

pub year_turn : (y : ℤ) → IsYear y → days_from_civil (y +ℤ pos 1) 1 1 ≡ days_from_civil y 1 1 +ℤ pos (days_in_year y)
year_turn y year =
    let more = day_count-next_year y (y +ℤ pos 1) (omega (arith, signed_arith, year)) refl in
    omega (arith, signed_arith, days_from_civil-day_count, more)

-- the days of the years 1800 to 9999
pub year_days : (y d : ℤ) → pos 1800 ≤ℤ y → y ≤ℤ pos 9999 → IsOfYear y d → IsDay d
year_days y d low high within =
    let first = day_count-later_year (pos 0) y (omega (arith, signed_arith)) (omega (arith, signed_arith, low)) in
    let last = day_count-year_bounds y (omega (arith, signed_arith, low), omega (arith, signed_arith, high)) in (
      omega (arith, signed_arith, days_from_civil-day_count, first, year_0, within.0),
      omega (arith, signed_arith, days_from_civil-day_count, last.1, within.1),
    )

-- ---- between two moments of a rule

-- the day of an onset after t is no earlier than that of t
day_grows : (o t v d : ℤ) (s : ℕ) → s < 86400 → v +ℤ o ≡ (d *ℤ pos 86400) +ℤ pos s → t <ℤ v → day_shown o t ≤ℤ d
day_grows o t v d s small e lt =
    let parts = int_div_euclid-parts (t +ℤ o) 86400 (omega arith) in
    by_lt_z d (day_shown o t) (λ less. absurd (omega (arith, signed_arith, parts, small, e, lt, less))) (λ ge. ge)

-- the onset of an earlier day comes first
day_before : (o v m d day : ℤ) (s : ℕ) → s < 86400 → v +ℤ o ≡ (d *ℤ pos 86400) +ℤ pos s → m ≡ ((day *ℤ pos 86400) +ℤ pos s) -ℤ o → v <ℤ m → d <ℤ day
day_before o v m d day s lt e is before = omega (arith, signed_arith, e, is, before)

same_moment : (o v m d day : ℤ) (s : ℕ) → d ≡ day → v +ℤ o ≡ (d *ℤ pos 86400) +ℤ pos s → m ≡ ((day *ℤ pos 86400) +ℤ pos s) -ℤ o → v ≡ m
same_moment o v m d day s same e is = omega (arith, signed_arith, same, e, is)

-- what the search for the next onset rests on
pub record IsSearched (p : Part) (rule : Rule) (t y m : ℤ) : Type 0 where
  pub offset : IsWithin 86399 p.from
  pub second : rule.second < 86400
  pub time : pos rule.second ≡ int_rem_euclid (p.start.seconds +ℤ p.from) (pos 86400)
  pub low : LO ≤ℤ p.start.seconds
  pub from_start : p.start.seconds ≤ℤ t
  pub year_low : pos 1800 ≤ℤ y
  pub year_high : y ≤ℤ pos 9999
  pub shown : IsYearShown p.from t y
  pub this : IsOnsetIn rule p.from y m

year_of : (p : Part) (rule : Rule) (t y m : ℤ) → IsSearched p rule t y m → IsYear y
year_of p rule t y m h = let low = h.year_low in let high = h.year_high in (omega (arith, signed_arith, low), omega (arith, signed_arith, high))

-- an onset after t whose day comes before the next year is that of the year
this_is : (p : Part) (rule : Rule) (t y m v : ℤ) → (h : IsSearched p rule t y m) → (at : IsRuleAt p rule v) → t <ℤ v
    → at.day <ℤ days_from_civil (y +ℤ pos 1) 1 1 → v ≡ m
this_is p rule t y m v h at later before =
    let d = at.day in
    let start = h.from_start in
    let grows = day_grows p.from t v d rule.second h.second at.moment later in
    let turn = year_turn y (year_of p rule t y m h) in
    let Begins : ℤ → Type 0 = λ k. days_from_civil k 1 1 ≤ℤ d in
    let begun : days_from_civil y 1 1 ≤ℤ d = elim h.shown.begun [
      | inl b ↦ omega (arith, signed_arith, b, grows)
      | inr early ↦ by_lt_z d (neg_ℤ (pos 62091))
          (λ lt. absurd (early_absurd p rule v d h.offset h.second h.time at.moment h.low (omega (arith, signed_arith, start, later)) lt))
          (λ ge. subst Begins (sym early.0) (omega (arith, signed_arith, year_1800, ge)))
    ] in
    let within : IsOfYear y d = (begun, omega (arith, signed_arith, before, turn)) in
    let falls = falls_is rule.form d (year_days y d h.year_low h.year_high within) at.falls in
    same_moment p.from v m d h.this.day rule.second (h.this.occurs.only d within falls) at.moment h.this.moment_is

-- so none comes before that of the year, where that is later than t
pub none_before_this : (p : Part) (rule : Rule) (t y m : ℤ) → IsSearched p rule t y m → NoneBetween (is_rule_onset p rule) t m
none_before_this p rule t y m h v later before =
    not_true (is_rule_onset p rule v) (λ e.
    let at = rule_at p rule v e in
    let within = h.this.occurs.within in
    let turn = year_turn y (year_of p rule t y m h) in
    let sooner = day_before p.from v m at.day h.this.day rule.second h.second at.moment h.this.moment_is before in
    let is = this_is p rule t y m v h at later (omega (arith, signed_arith, sooner, turn, within.1)) in
    omega (arith, signed_arith, is, before))

-- where that is not later, none comes before that of the next year
pub none_before_next : (p : Part) (rule : Rule) (t y m n : ℤ) → IsSearched p rule t y m → m ≤ℤ t → y <ℤ pos 9999 → IsOnsetIn rule p.from (y +ℤ pos 1) n
    → NoneBetween (is_rule_onset p rule) t n
none_before_next p rule t y m n h past more next v later before =
    not_true (is_rule_onset p rule v) (λ e.
    let at = rule_at p rule v e in
    let d = at.day in
    let within = next.occurs.within in
    let low = h.year_low in
    let sooner = day_before p.from v n d next.day rule.second h.second at.moment next.moment_is before in
    by_lt_z d (days_from_civil (y +ℤ pos 1) 1 1)
    (λ lt. let is = this_is p rule t y m v h at later lt in omega (arith, signed_arith, is, past, later))
    (λ ge. let inside : IsOfYear (y +ℤ pos 1) d = (ge, omega (arith, signed_arith, sooner, within.1)) in
    let days = year_days (y +ℤ pos 1) d (omega (arith, signed_arith, low)) (omega (arith, signed_arith, more)) inside in
    let is = same_moment p.from v n d next.day rule.second (next.occurs.only d inside (falls_is rule.form d days at.falls)) at.moment next.moment_is in
    omega (arith, signed_arith, is, before)))

-- that one is later than t
pub next_is_later : (p : Part) (rule : Rule) (t y m n : ℤ) → IsSearched p rule t y m → IsOnsetIn rule p.from (y +ℤ pos 1) n → t <ℤ n
next_is_later p rule t y m n h next =
    let before = h.shown.before in
    let within = next.occurs.within in
    let is = next.moment_is in
    omega (arith, signed_arith, before, within.0, is)

-- and after the year 9999 there is none
pub none_to_end : (p : Part) (rule : Rule) (t y m end : ℤ) → IsSearched p rule t y m → m ≤ℤ t → pos 9999 ≤ℤ y → end ≤ℤ HI
    → NoneBetween (is_rule_onset p rule) t end
none_to_end p rule t y m end h past last bound v later before =
    not_true (is_rule_onset p rule v) (λ e.
    let at = rule_at p rule v e in
    let high = h.year_high in
    let same : y ≡ pos 9999 = omega (arith, signed_arith, high, last) in
    let Starts : ℤ → Type 0 = λ k. at.day <ℤ days_from_civil (k +ℤ pos 1) 1 1 in
    let offset = h.offset in
    let moment = at.moment in
    let is = this_is p rule t y m v h at later
    (subst Starts (sym same) (omega (arith, signed_arith, moment, offset, before, bound, days_from_civil-day_count, day_count-end))) in
    omega (arith, signed_arith, is, past, later))

-- the next moment of the rule, kept where it comes before the end and not after the last one
pub kept_next : (p : Part) (rule : Rule) (t end : ℤ) (m : Moment) → NoneBetween (is_rule_onset p rule) t m.seconds → t <ℤ m.seconds
    → (is_not_after p.until m.seconds ≡ true → is_rule_onset p rule m.seconds ≡ true)
    → IsNextWhere (is_rule_onset p rule) t end (kept m p.until end)
kept_next p rule t end m none later passes =
    cond_both (int_lt m.seconds end) (kept_until p.until m) None (IsNextWhere (is_rule_onset p rule) t end)
    (λ lt. until_next p.until passes refl (before lt))
    (λ ge. λ v low high. none v low (sooner v ge high))
  where
    before : int_lt m.seconds end ≡ true → m.seconds <ℤ end
    before e = grind (arith, ints)

    sooner : (v : ℤ) → int_lt m.seconds end ≡ false → v <ℤ end → v <ℤ m.seconds
    sooner v e high = grind (arith, ints)

    after_last : (last v : ℤ) → int_lt last m.seconds ≡ true → m.seconds ≤ℤ v → int_le v last ≡ false
    after_last last v e le = grind (arith, ints)

    by_last : (last : ℤ) → int_lt last m.seconds ≡ false → int_le m.seconds last ≡ true
    by_last last e = grind (arith, ints)

    until_next : (until : Option Moment) → (is_not_after until m.seconds ≡ true → is_rule_onset p rule m.seconds ≡ true) → p.until ≡ until → m.seconds <ℤ end
        → IsNextWhere (is_rule_onset p rule) t end (kept_until until m)
    until_next None pass is lt = record { later = later; before = lt; passes = pass refl; none = none }
    until_next (Some last) pass is lt =
        cond_both (int_lt last.seconds m.seconds) None (Some m) (IsNextWhere (is_rule_onset p rule) t end)
        (λ past. λ v low high. by_lt_z v m.seconds (λ sooner_v. none v low sooner_v)
        (λ ge. not_true (is_rule_onset p rule v) (λ e.
        let at = rule_at p rule v e in
        let Ends : Option Moment → Type 0 = λ o. is_not_after o v ≡ true in
        let here : int_le v last.seconds ≡ true = subst Ends is at.not_after in
        let there = after_last last.seconds v past ge in
        cc)))
        (λ on. record { later = later; before = lt; passes = pass (by_last last.seconds on); none = none })

-- an onset of a rule is not before the start
pub onset_from_start : (p : Part) (v : ℤ) → is_onset_of p.rule p v ≡ true → p.start.seconds ≤ℤ v
onset_from_start p v e = by_rule p.rule e
  where
    by_rule : (r : Option Rule) → is_onset_of r p v ≡ true → p.start.seconds ≤ℤ v
    by_rule None e = absurd (cc)
    by_rule (Some rule) e = (rule_at p rule v e).from_start

-- the moment of a year up to 9999, which passes the test where it is kept
pub passing : (p : Part) (rule : Rule) (y m : ℤ) → rule.second < 86400 → pos 1800 ≤ℤ y → y ≤ℤ pos 9999 → p.start.seconds ≤ℤ m → IsOnsetIn rule p.from y m
    → is_not_after p.until m ≡ true → is_rule_onset p rule m ≡ true
passing p rule (pos n) m second low high start h until =
    onset_passes p rule n h.day m second (omega (arith, signed_arith, high)) (year_days (pos n) h.day low high h.occurs.within) h.occurs.within h.occurs.falls
    h.moment_is start until
passing p rule (negsuc n) m second low high start h until = absurd (omega (arith, signed_arith, low))

-- the next moment of the rule
pub rule_next : (p : Part) (rule : Rule) (t end y : ℤ) (this : Moment) (after : Option Moment) → IsSearched p rule t y this.seconds
    → IsOnsetAfter rule p.from y after → end ≤ℤ HI → IsNextWhere (is_rule_onset p rule) t end (kept_if (later t this after) p.until end)
rule_next p rule t end y this after h next bound =
    cond_both (int_lt t this.seconds) (Some this) after (λ o. IsNextWhere (is_rule_onset p rule) t end (kept_if o p.until end))
    (λ lt. let sooner = below t this.seconds lt in
    kept_next p rule t end this (none_before_this p rule t y this.seconds h) sooner
    (λ until. passing p rule y this.seconds h.second h.year_low h.year_high (omega (arith, signed_arith, start, sooner)) h.this until))
    (λ ge. by_next after next (at_most t this.seconds ge))
  where
    start : p.start.seconds ≤ℤ t
    start = h.from_start

    below : (a b : ℤ) → int_lt a b ≡ true → a <ℤ b
    below a b e = grind (arith, ints)

    at_most : (a b : ℤ) → int_lt a b ≡ false → b ≤ℤ a
    at_most a b e = grind (arith, ints)

    low : pos 1800 ≤ℤ y
    low = h.year_low

    next_high : y <ℤ pos 9999 → (y +ℤ pos 1) ≤ℤ pos 9999
    next_high lt = omega (arith, signed_arith, lt)

    by_next : (o : Option Moment) → IsOnsetAfter rule p.from y o → this.seconds ≤ℤ t → IsNextWhere (is_rule_onset p rule) t end (kept_if o p.until end)
    by_next None last past = none_to_end p rule t y this.seconds end h past last bound
    by_next (Some m) more past =
        let sooner = next_is_later p rule t y this.seconds m.seconds h more.1 in
        kept_next p rule t end m (none_before_next p rule t y this.seconds m.seconds h past more.0 more.1) sooner
        (λ until. passing p rule (y +ℤ pos 1) m.seconds h.second (omega (arith, signed_arith, low)) (next_high more.0)
        (omega (arith, signed_arith, start, sooner)) more.1 until)

pub searched : (p : Part) (rule : Rule) (t y m : ℤ) → IsSoundPart p → p.rule ≡ Some rule → p.start.seconds ≤ℤ t → IsYearShown p.from t y
    → IsOnsetIn rule p.from y m → IsSearched p rule t y m
searched p rule t y m sound is from shown onset =
    let timed : HasStartTime p (Some rule) = subst (λ (r : Option Rule). HasStartTime p r) is sound.rule in
    let time = timed.1 in
    record {
      offset = sound.from;
      second = omega (arith, signed_arith, time);
      time = time;
      low = sound.start.0;
      from_start = from;
      year_low = shown.low;
      year_high = shown.high;
      shown = shown;
      this = onset;
    }

-- ---- a late onset of the rule

pub late_kept : (p : Part) (rule : Rule) (y moment last : ℤ) (o : Option Moment) → IsSoundPart p → p.rule ≡ Some rule → pos 1800 ≤ℤ y → y ≤ℤ pos 9999
    → IsOnsetIn rule p.from y moment → ((v : ℤ) → v ≤ℤ last → is_not_after p.until v ≡ true)
    → IfSome o (λ m. IsFromTo moment p.start.seconds last m.seconds) → IfSome o (λ m. IsLate p rule last m.seconds)
late_kept p rule y moment last None sound is low high at kept h = tt
late_kept p rule y moment last (Some m) sound is low high at kept h =
    let timed : HasStartTime p (Some rule) = subst (λ (r : Option Rule). HasStartTime p r) is sound.rule in
    let time = timed.1 in
    let Onset : ℤ → Type 0 = λ v. IsOnsetIn rule p.from y v in
    record {
      onset = passing p rule y m.seconds (omega (arith, signed_arith, time)) low high h.from (subst Onset (sym h.same) at) (kept m.seconds h.to);
      by = h.to;
    }

pub late_by : (p : Part) (rule : Rule) (last t : ℤ) (o : Option Moment) → last ≤ℤ t → IfSome o (λ m. IsLate p rule last m.seconds)
    → IfSome o (λ m. IsLate p rule t m.seconds)
late_by p rule last t None le h = tt
late_by p rule last t (Some m) le h = let by = h.by in record { onset = h.onset; by = omega (arith, signed_arith, by, le) }
