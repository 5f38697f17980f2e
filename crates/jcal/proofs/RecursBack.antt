-- Rules that are written are read back.
use Rattle.std.proofs.Common.{◌≡◌, ℕ, ◌≤◌, nat_le, ◌&&◌, refl, ap, ◌∙◌, arith, ℤ, pos, negsuc, ◌+ℤ◌, unsigned_abs, subst, Option, None, Some, List, [], ◌∷◌}
use Rattle.std.proofs.Common.{◌++◌}
use Rattle.std.proofs.Common.{map}
use Rattle.std.specs.Fmt.{signed_decimal}
use Rattle.std.specs.List.{AllByRecursion}
use Rattle.std.specs.Option.{IfSome, option_map, option_and_then}
use Rattle.std.proofs.lemmas.Bool.{cond-true, and_from, le-leb}
use Rattle.jiff_core.proofs.CalendarLemmas.{days_in_month_bounds}
use Rattle.jiff_core.proofs.SignedLemmas.{signed_arith}
use Rattle.td_civil.specs.declared.moment_type.Moment.{Moment}
use Rattle.td_civil.specs.Bounds.{IsWithinBounds}
use Rattle.td_civil.specs.Calendar.{text_of}
use Rattle.td_civil.proofs.lemmas.Shown.{bounds_text}
use Rattle.recurrence.specs.declared.rule_types.Form.{Form}
use Rattle.recurrence.specs.declared.rule_types.Form.TheVariants as form
use Rattle.recurrence.specs.AllRead.{all_read}
use Rattle.recurrence.specs.FormFields.{form_read}
use Rattle.recurrence.specs.PartFields.{recur_with_fields}
use Rattle.recurrence.specs.Valid.{IsValidForm}
use Rattle.recurrence.specs.Weekdays.{weekday_name, Day}
use Rattle.recurrence.proofs.lemmas.AllRead.{read_more}
use Rattle.recurrence.proofs.lemmas.FormFields.{next_numbers, AreShort, fields_back, first_small, small_number, place_short, month_short, month_days_short}
use Rattle.recurrence.proofs.lemmas.Weekdays.{IsShort, weekday_alone, nth_weekday}
use Rattle.jcal.specs.Tree.{integer, seven_data, form_members, last_members, recur_data}
use Rattle.jcal.specs.Reading.{integer_in, within, number_in_data, numbers_in_data, month_in_data, weekday_in_data, recur_in_data}
use Rattle.jcal.specs.Values.{jcal_utc_in}
use Rattle.jcal.proofs.ValuesBack.{utc_back}

integer_back : (z : ℤ) → integer_in (integer z) ≡ Some z
integer_back (pos n) = refl
integer_back (negsuc n) = refl

abbrev IsSmall : ℕ → ℤ → Type 0
IsSmall most z = (1 ≤ unsigned_abs z) × (unsigned_abs z ≤ most)

number_back : (most : ℕ) (z : ℤ) → IsSmall most z → number_in_data most (integer z) ≡ Some z
number_back most z h =
    ap (option_and_then (within most)) (integer_back z)
    ∙ cond-true (nat_le 1 (unsigned_abs z) && nat_le (unsigned_abs z) most) (Some z) None
    (and_from (nat_le 1 (unsigned_abs z)) (nat_le (unsigned_abs z) most) (le-leb _ _ h.0) (le-leb _ _ h.1))

numbers_back : (most : ℕ) (zs : List ℤ) → AllByRecursion (IsSmall most) zs → all_read (number_in_data most) (map integer zs) ≡ Some zs
numbers_back most [] h = refl
numbers_back most (z ∷ zs) h = read_more (number_in_data most) (integer z) (map integer zs) z zs (number_back most z h.0) (numbers_back most zs h.1)

small_of : (places most : ℕ) (z : ℤ) → IsShort places most z → IsSmall most z
small_of places most z h = (h.low, h.high)

no_more : (z : ℤ) → z +ℤ pos 0 ≡ z
no_more z = omega (arith, signed_arith)

seven_back : (places most : ℕ) (z : ℤ) → AreShort places most z → numbers_in_data most (seven_data z) ≡ Some (z ∷ next_numbers z)
seven_back places most z h =
    let P : ℤ → Type 0 = λ n. IsSmall most n in
    let each = λ (k : ℕ) (le : k ≤ 6). small_of places most (z +ℤ pos k) (h k le) in
    numbers_back most (z ∷ next_numbers z) (
      subst P (no_more z) (each 0 (omega arith)),
      (
        each 1 (omega arith),
        (each 2 (omega arith), (each 3 (omega arith), (each 4 (omega arith), (each 5 (omega arith), (each 6 (omega arith), tt))))),
      ),
    )

one_number_back : (places most n : ℕ) → IsShort places most (pos n) → numbers_in_data most (integer (pos n)) ≡ Some (pos n ∷ [])
one_number_back places most n h = ap (option_map (λ (z : ℤ). z ∷ [])) (number_back most (pos n) (small_of places most (pos n) h))

month_back : (n : ℕ) → IsShort 2 12 (pos n) → month_in_data (integer (pos n)) ≡ Some (pos n ∷ [])
month_back n h = ap (option_map (λ (z : ℤ). z ∷ [])) (number_back 12 (pos n) (small_of 2 12 (pos n) h))

-- what is read of a form's members, and of the last moment
abbrev read_form : Form → Option Form
read_form (form.NthDay month nth weekday) =
    form_read (option_map Some (month_in_data (integer (pos month)))) (Some None) (Some None)
    (option_map Some (weekday_in_data (signed_decimal nth ++ weekday_name weekday)))
read_form (form.MonthDays month first weekday) =
    form_read (option_map Some (month_in_data (integer (pos month)))) (option_map Some (numbers_in_data 31 (seven_data (pos first)))) (Some None)
    (option_map Some (weekday_in_data (weekday_name weekday)))
read_form (form.YearDays first weekday) =
    form_read (Some None) (Some None) (option_map Some (numbers_in_data 366 (seven_data first))) (option_map Some (weekday_in_data (weekday_name weekday)))
read_form (form.FixedDate month day) =
    form_read (option_map Some (month_in_data (integer (pos month)))) (option_map Some (numbers_in_data 31 (integer (pos day)))) (Some None) (Some None)

abbrev read_until : Option Moment → Option (Option Moment)
read_until None = Some None
read_until (Some last) = option_map Some (jcal_utc_in (text_of last.seconds))

members_read : (f : Form) (until : Option Moment) → recur_in_data (recur_data f until) ≡ recur_with_fields (read_form f) (read_until until)
unfolding recur_in_data recur_data form_members last_members
members_read (form.NthDay month nth weekday) None = refl
members_read (form.NthDay month nth weekday) (Some last) = refl
members_read (form.MonthDays month first weekday) None = refl
members_read (form.MonthDays month first weekday) (Some last) = refl
members_read (form.YearDays first weekday) None = refl
members_read (form.YearDays first weekday) (Some last) = refl
members_read (form.FixedDate month day) None = refl
members_read (form.FixedDate month day) (Some last) = refl

alone_back : (w : ℕ) → w ≤ 6 → weekday_in_data (weekday_name w) ≡ Some (record { nth = None; weekday = w } ∷ [])
alone_back w h = ap (option_map (λ (d : Day). d ∷ [])) (weekday_alone w h)

nth_back : (nth : ℤ) (w : ℕ) → IsShort 2 53 nth → w ≤ 6 → weekday_in_data (signed_decimal nth ++ weekday_name w) ≡ Some (record { nth = Some nth; weekday = w } ∷ [])
nth_back nth w short h = ap (option_map (λ (d : Day). d ∷ [])) (nth_weekday nth w short h)

form_read_same : (m m₂ a a₂ b b₂ : Option (Option (List ℤ))) (d d₂ : Option (Option (List Day))) → m ≡ m₂ → a ≡ a₂ → b ≡ b₂ → d ≡ d₂
    → form_read m a b d ≡ form_read m₂ a₂ b₂ d₂
form_read_same m m₂ a a₂ b b₂ d d₂ months month_days year_days days = rw (months, month_days, year_days, days) refl

form_back : (f : Form) → IsValidForm f → read_form f ≡ Some f
form_back (form.NthDay month nth weekday) h =
    form_read_same _ _ (Some None) (Some None) (Some None) (Some None) _ _ (ap (option_map Some) (month_back month (month_short month h.0))) refl refl
    (ap (option_map Some) (nth_back nth weekday (place_short nth h.1) h.2))
    ∙ fields_back (form.NthDay month nth weekday)
form_back (form.MonthDays month first weekday) h =
    form_read_same _ _ _ _ (Some None) (Some None) _ _ (ap (option_map Some) (month_back month (month_short month h.0)))
    (ap (option_map Some) (seven_back 2 31 (pos first) (λ k le. month_days_short month first k h.1.0 h.1.1 le))) refl
    (ap (option_map Some) (alone_back weekday h.2))
    ∙ fields_back (form.MonthDays month first weekday)
form_back (form.YearDays first weekday) h =
    form_read_same (Some None) (Some None) (Some None) (Some None) _ _ _ _ refl refl (ap (option_map Some) (seven_back 3 366 first (first_small first h.0)))
    (ap (option_map Some) (alone_back weekday h.1))
    ∙ fields_back (form.YearDays first weekday)
form_back (form.FixedDate month day) h =
    let long = days_in_month_bounds (pos 2001) month in
    let date = small_number day 31 h.1.0 (omega (arith, h.1, long)) (omega arith) in
    form_read_same _ _ _ _ (Some None) (Some None) (Some None) (Some None) (ap (option_map Some) (month_back month (month_short month h.0)))
    (ap (option_map Some) (one_number_back 2 31 day date)) refl refl
    ∙ fields_back (form.FixedDate month day)

until_back : (until : Option Moment) → IfSome until (λ m. IsWithinBounds m.seconds) → read_until until ≡ Some until
until_back None h = refl
until_back (Some last) h = ap (option_map Some) (utc_back last (bounds_text last.seconds h))

pub recur_back : (f : Form) (until : Option Moment) → IsValidForm f → IfSome until (λ m. IsWithinBounds m.seconds)
    → recur_in_data (recur_data f until) ≡ Some (record { form = f; until = until })
recur_back f until h within =
    members_read f until
    ∙ ap (λ o. recur_with_fields o (read_until until)) (form_back f h)
    ∙ ap (recur_with_fields (Some f)) (until_back until within)
