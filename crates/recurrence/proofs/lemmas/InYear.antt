-- Both onsets of a year lie in that year, and they come in one order in every year.
use Rattle.std.proofs.Common.{◌≡◌, ℕ, ◌+◌, ◌*◌, ◌≤◌, ◌⊎◌, Bool, true, false, ◌||◌, inl, inr, refl, arith, ℤ, pos, ◌+ℤ◌, ◌-ℤ◌, ◌*ℤ◌, ◌≤ℤ◌, ◌<ℤ◌, int_le}
use Rattle.std.proofs.lemmas.Bool.{and_parts}
use Rattle.jiff_core.specs.Calendar.{days_from_civil, days_in_year, IsYear}
use Rattle.jiff_core.proofs.SignedLemmas.{signed_arith}
use Rattle.jiff_core.proofs.CalendarLemmas.{days_from_civil-day_count, day_count-next_year}
use Rattle.td_civil.specs.Calendar.{IsInYear}
use Rattle.posix_footer.specs.declared.rule_types.Edge.{Edge}
use Rattle.posix_footer.specs.declared.rule_types.Edge.TheVariants as edge
use Rattle.posix_footer.specs.declared.rule_types.Date.{Date}
use Rattle.posix_footer.specs.declared.rule_types.DstRule.{DstRule}
use Rattle.posix_footer.specs.Lawful.{IsLawfulDate, IsLawfulOffset, IsLawfulRule}
use Rattle.posix_footer.specs.Onset.{day_number, moment_on, onset_of}
use Rattle.posix_footer.specs.Carried.{moved_by, is_steady, is_carried_rule, are_apart, date_comes_before, is_sooner_date, moved_first, moved_last}
use Rattle.posix_footer.specs.Onset.{first_place, more_places}
use Rattle.recurrence.specs.RuleOfDate.{second_in_day, row_place}
use Rattle.recurrence.proofs.Rows.{Keeps}
use Rattle.recurrence.proofs.Steady.{steady_is}
use Rattle.recurrence.proofs.Carrying.{moved_is, moved_number}
use Rattle.posix_footer.proofs.lemmas.OnsetLemmas.{named}
use Rattle.recurrence.proofs.lemmas.Onsets.{carried_parts, second_below, time_is}

-- a carried date's day in a year, by its place in the year
pub record IsPlaced (date : Date) (y : ℤ) : Type 0 where
  pub first : ℕ
  pub after : ℕ
  pub among : after ≤ more_places date.day
  pub keeps : Keeps y (row_place date.day (moved_by date.time)) first (more_places date.day)
  pub common : pos (row_place date.day (moved_by date.time)) ≡ pos (first_place date.day (pos 2001)) +ℤ moved_by date.time
  pub low : 2 ≤ first
  pub high : first + more_places date.day + 3 ≤ days_in_year y
  pub number : day_number date.day y +ℤ moved_by date.time ≡ days_from_civil y 1 1 +ℤ pos (first + after)

pub placed : (date : Date) (y : ℤ) → IsLawfulDate date → is_steady date ≡ true → IsPlaced date y
placed date y h e =
    let moved = moved_is date y h.day (steady_is date e) in
    let name = named date.day y h.day in
    record {
      first = moved.place;
      after = name.after;
      among = name.among;
      keeps = moved.keeps;
      common = moved.common;
      low = moved.low;
      high = moved.high;
      number = moved_number date.day (moved_by date.time) y moved name;
    }

-- and its moment
pub placed_moment : (date : Date) (offset y : ℤ) → (p : IsPlaced date y)
    → moment_on date offset y ≡ ((days_from_civil y 1 1 *ℤ pos 86400) +ℤ pos (86400 * (p.first + p.after) + second_in_day date.time)) -ℤ offset
placed_moment date offset y p = omega (arith, signed_arith, p.number, time_is date.time)

pub moment_in_year : (date : Date) (offset y : ℤ) → IsLawfulDate date → IsLawfulOffset offset → IsYear y → is_steady date ≡ true
    → IsInYear y (moment_on date offset y)
moment_in_year date offset y h o year e =
    let p = placed date y h e in
    let is = placed_moment date offset y p in
    let second = second_below date.time in
    let next = day_count-next_year y (y +ℤ pos 1) (omega (arith, signed_arith)) refl in
    (omega (arith, signed_arith, is, p.low), omega (arith, signed_arith, is, p.high, p.among, second, next, days_from_civil-day_count))

pub onset_in_year : (rule : DstRule) (std y : ℤ) (at : Edge) → IsLawfulRule std rule → IsYear y → is_carried_rule rule ≡ true
    → IsInYear y (onset_of rule std y at)
onset_in_year rule std y edge.Start h year e = moment_in_year rule.start std y h.start h.offset year (carried_parts rule e).0
onset_in_year rule std y edge.End h year e = moment_in_year rule.end rule.dst.offset y h.end h.daylight_offset year (carried_parts rule e).1

-- the first row ends three days before the second begins, or more
abbrev pub Gap : Date → Date → Type 0
Gap a b = (moved_last a (pos 2001) +ℤ pos 3) ≤ℤ moved_first b (pos 2001)

pub places_apart : (y : ℤ) (a b pa pb m n : ℕ) → Keeps y a pa m → Keeps y b pb n → a + m + 3 ≤ b → pa + m + 3 ≤ pb
places_apart y a b pa pb m n (inl x) (inl z) h = omega arith
places_apart y a b pa pb m n (inl x) (inr z) h = omega arith
places_apart y a b pa pb m n (inr x) (inl z) h = absurd (omega arith)
places_apart y a b pa pb m n (inr x) (inr z) h = omega arith

-- so that its moment comes first, whatever the offsets
pub moments_ordered : (a b : Date) (oa ob y : ℤ) → IsLawfulDate a → IsLawfulDate b → IsLawfulOffset oa → IsLawfulOffset ob → is_steady a ≡ true
    → is_steady b ≡ true → Gap a b → moment_on a oa y <ℤ moment_on b ob y
moments_ordered a b oa ob y ha hb ka kb ea eb gap =
    let p = placed a y ha ea in
    let q = placed b y hb eb in
    let apart = places_apart y (row_place a.day (moved_by a.time)) (row_place b.day (moved_by b.time)) p.first q.first (more_places a.day)
    (more_places b.day) p.keeps q.keeps (omega (arith, signed_arith, p.common, q.common, gap)) in
    let early = placed_moment a oa y p in
    let late = placed_moment b ob y q in
    omega (arith, signed_arith, early, late, p.among, apart, second_below a.time)

either_side : (x y : Bool) → (x || y) ≡ true → (x ≡ true) ⊎ (y ≡ true)
either_side true y e = inl refl
either_side false y e = inr e

at_most : (x y : ℤ) → int_le x y ≡ true → x ≤ℤ y
at_most x y e = omega (arith, signed_arith)

pub before_is : (a b : Date) → date_comes_before a b ≡ true → Gap a b
unfolding date_comes_before
before_is a b e =
    at_most (moved_last a (pos 2001) +ℤ pos 3) (moved_first b (pos 2001)) (and_parts (is_sooner_date a b (pos 2001)) (is_sooner_date a b (pos 2004)) e).0

pub gap_is : (a b : Date) → are_apart a b ≡ true → Gap a b ⊎ Gap b a
unfolding are_apart
gap_is a b e =
    elim (either_side (date_comes_before a b) (date_comes_before b a) e) [
      | inl first ↦ inl (before_is a b first)
      | inr second ↦ inr (before_is b a second)
    ]

-- the edges of a year in their order
pub record AreOrdered (rule : DstRule) (std : ℤ) (first second : Edge) : Type 0 where
  pub both : (at : Edge) → (at ≡ first) ⊎ (at ≡ second)
  pub order : (y : ℤ) → onset_of rule std y first <ℤ onset_of rule std y second

start_or_end : (at : Edge) → (at ≡ edge.Start) ⊎ (at ≡ edge.End)
start_or_end edge.Start = inl refl
start_or_end edge.End = inr refl

end_or_start : (at : Edge) → (at ≡ edge.End) ⊎ (at ≡ edge.Start)
end_or_start edge.Start = inr refl
end_or_start edge.End = inl refl

pub onsets_ordered : (rule : DstRule) (std : ℤ) → IsLawfulRule std rule → is_carried_rule rule ≡ true
    → AreOrdered rule std edge.Start edge.End ⊎ AreOrdered rule std edge.End edge.Start
onsets_ordered rule std h e =
    let parts = carried_parts rule e in
    elim (gap_is rule.start rule.end parts.2) [
      | inl gap ↦ inl (record {
        both = start_or_end;
        order =
            λ y. moments_ordered rule.start rule.end std rule.dst.offset y h.start h.end h.offset h.daylight_offset parts.0 parts.1 gap;
      })
      | inr gap ↦ inr (record {
        both = end_or_start;
        order =
            λ y. moments_ordered rule.end rule.start rule.dst.offset std y h.end h.start h.daylight_offset h.offset parts.1 parts.0 gap;
      })
    ]
