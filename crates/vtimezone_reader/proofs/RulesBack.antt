-- Rules that are written are read back.
use Rattle.std.proofs.Common.{◌≡◌, inr, ℕ, ◌+◌, ◌≤◌, true, false, refl, sym, ap, ◌∙◌, arith, append_assoc, append-nil, ℤ}
use Rattle.std.proofs.Common.{pos, negsuc, ◌+ℤ◌}
use Rattle.std.proofs.Common.{unsigned_abs, Option, None, Some, List, [], ◌∷◌, ◌++◌, codes, decimal}
use Rattle.std.specs.Fmt.{signed_decimal}
use Rattle.std.specs.Option.{IfSome, option_and_then}
use Rattle.std.proofs.lemmas.Bool.{cond-true, and_from}
use Rattle.std.proofs.lemmas.List.Folds.{list_all-append}
use Rattle.std.proofs.lemmas.Int.{ints}
use Rattle.jiff_core.proofs.CalendarLemmas.{days_in_month_bounds}
use Rattle.jiff_core.proofs.SignedLemmas.{signed_arith, one_part}
use Rattle.td_civil.specs.declared.moment_type.Moment.{Moment}
use Rattle.td_civil.specs.Bounds.{HasMeaning, has_meaning}
use Rattle.td_civil.specs.declared.moment_type.TheConstants.{LO, HI}
use Rattle.recurrence.specs.declared.rule_types.Form.{Form}
use Rattle.recurrence.specs.declared.rule_types.Form.TheVariants as form
use Rattle.recurrence.specs.declared.rule_types.Rule.{Rule}
use Rattle.recurrence.specs.Valid.{IsValidForm, IsFirstDay, IsMonth, IsOrdinal}
use Rattle.vtimezone.specs.Cutting.{cut_at}
use Rattle.vtimezone.specs.ReadValues.{utc_in}
use Rattle.jiff_core.specs.Calendar.{days_in_month}
use Rattle.vtimezone_reader.specs.declared.rule_words.Days.{Days}
use Rattle.vtimezone_reader.specs.declared.rule_words.WeekDay.{WeekDay}
use Rattle.vtimezone_reader.specs.declared.rule_words.Words.{Words}
use Rattle.td_civil.proofs.lemmas.Shown.{bounds_text}
use Rattle.std.proofs.Common.{int_le, int_lt, ◌≤ℤ◌, ◌<ℤ◌}
use Rattle.vtimezone_reader.specs.ContentLines.{is_word}
use Rattle.vtimezone_reader.specs.RuleWords.{month_in, days_in, day_in, moment_meant, day_read, word_read, words_read, no_words, form_of_words}
use Rattle.vtimezone_reader.specs.RuleWords.{valid_only, recur_with, recur_of, recur_in}
use Rattle.vtimezone_reader.specs.ValidForms.{is_valid_form}
use Rattle.recurrence.specs.Weekdays.{weekday_name}
use Rattle.vtimezone.specs.Values.{utc_basic, seven_numbers, by_month, by_weekday, by_nth_weekday, by_month_day, by_month_days, by_year_days}
use Rattle.vtimezone.specs.Values.{form_text, until_text, rule_text}
use Rattle.vtimezone.proofs.lemmas.ValuesBack.{utc_back}
use Rattle.vtimezone_reader.proofs.ValuesBack.{month_back}
use Rattle.vtimezone.proofs.lemmas.NumbersBack.{uncut, uncut-append, after_each, are_uncut, cut_each, signed_uncut, weekday_uncut, utc_uncut}
use Rattle.vtimezone_reader.proofs.NumbersBack.{IsShort, one_number_back, seven_back, seven_uncut, weekday_alone, nth_weekday}

-- ---- the words of a rule

abbrev form_words : Form → List (List ℕ)
form_words (form.NthDay month nth weekday) =
    (codes "BYMONTH=" ++ signed_decimal (pos month)) ∷ (codes "BYDAY=" ++ (signed_decimal nth ++ weekday_name weekday)) ∷ []
form_words (form.MonthDays month first weekday) =
    (codes "BYMONTH=" ++ signed_decimal (pos month)) ∷ (codes "BYMONTHDAY=" ++ seven_numbers (pos first))
    ∷ (codes "BYDAY=" ++ weekday_name weekday) ∷ []
form_words (form.YearDays first weekday) = (codes "BYYEARDAY=" ++ seven_numbers first) ∷ (codes "BYDAY=" ++ weekday_name weekday) ∷ []
form_words (form.FixedDate month day) =
    (codes "BYMONTH=" ++ signed_decimal (pos month)) ∷ (codes "BYMONTHDAY=" ++ signed_decimal (pos day)) ∷ []

abbrev until_words : Option Moment → List (List ℕ)
until_words None = []
until_words (Some last) = (codes "UNTIL=" ++ utc_basic last.seconds) ∷ []

abbrev words_of : Form → Option Moment → List (List ℕ)
words_of f until = form_words f ++ until_words until

form_joined : (f : Form) → form_text f ≡ after_each 59 (form_words f)
unfolding by_month by_weekday by_nth_weekday by_month_day by_month_days by_year_days
form_joined (form.NthDay month nth weekday) = simp (append_assoc, append-nil)
form_joined (form.MonthDays month first weekday) = simp (append_assoc, append-nil)
form_joined (form.YearDays first weekday) = simp (append_assoc, append-nil)
form_joined (form.FixedDate month day) = simp (append_assoc, append-nil)

until_joined : (until : Option Moment) → until_text until ≡ after_each 59 (until_words until)
unfolding until_text
until_joined None = refl
until_joined (Some last) = sym (append-nil (codes ";UNTIL=" ++ utc_basic last.seconds))

joined-append : (s : ℕ) (xs ys : List (List ℕ)) → after_each s (xs ++ ys) ≡ after_each s xs ++ after_each s ys
joined-append s [] ys = refl
joined-append s (x ∷ xs) ys = ap (λ t. (s ∷ x) ++ t) (joined-append s xs ys) ∙ sym (append_assoc (s ∷ x) (after_each s xs) (after_each s ys))

rule_joined : (rule : Rule) (until : Option Moment) → rule_text rule until ≡ codes "FREQ=YEARLY" ++ after_each 59 (words_of rule.form until)
unfolding rule_text
rule_joined rule until =
    append_assoc (codes "FREQ=YEARLY") (form_text rule.form) (until_text until)
    ∙ ap (λ t. codes "FREQ=YEARLY" ++ t)
    (ap (λ t. t ++ until_text until) (form_joined rule.form) ∙ ap (λ t. after_each 59 (form_words rule.form) ++ t) (until_joined until)
    ∙ sym (joined-append 59 (form_words rule.form) (until_words until)))

first_small : (z : ℤ) → IsFirstDay z → (k : ℕ) → k ≤ 6 → IsShort 3 (z +ℤ pos k)
first_small (pos n) h k le = record {
  some = omega arith;
  low = omega (arith, signed_arith, h, one_part (pos n +ℤ pos k));
  short = omega (arith, signed_arith, h, one_part (pos n +ℤ pos k));
  small = omega (arith, signed_arith, h, one_part (pos n +ℤ pos k));
}
first_small (negsuc n) h k le = record {
  some = omega arith;
  low = omega (arith, signed_arith, h, one_part (negsuc n +ℤ pos k));
  short = omega (arith, signed_arith, h, one_part (negsuc n +ℤ pos k));
  small = omega (arith, signed_arith, h, one_part (negsuc n +ℤ pos k));
}

-- a number of a month or of a day of a month
small_number : (n : ℕ) → 1 ≤ n → n ≤ 31 → IsShort 2 (pos n)
small_number n low high = record {
  some = omega arith;
  low = low;
  short = omega arith;
  small = omega arith;
}

small_month : (m : ℕ) → IsMonth m → unsigned_abs (pos m) ≤ 1000
small_month m h = omega (arith, h)

place_short : (z : ℤ) → IsOrdinal z → IsShort 2 z
place_short (pos n) h = record { some = omega arith; low = h.0; short = omega (arith, h); small = omega (arith, h) }
place_short (negsuc n) h = record {
  some = omega arith;
  low = omega (arith, signed_arith);
  short = omega (arith, signed_arith, h);
  small = omega (arith, signed_arith, h);
}

month_days_short : (m first k : ℕ) → 1 ≤ first → first + 6 ≤ days_in_month (pos 2001) m → k ≤ 6 → IsShort 2 (pos first +ℤ pos k)
month_days_short m first k low high le =
    let long = days_in_month_bounds (pos 2001) m in
    small_number (first + k) (omega arith) (omega (arith, long))

-- ---- the words, read one after another

freq_word : (ts : List (List ℕ)) → words_read no_words (codes "FREQ=YEARLY" ∷ ts) ≡ words_read (record no_words { yearly = true }) ts
unfolding words_read word_read is_word
freq_word ts = refl

month_word : (w : Words) (x : List ℕ) (m : ℕ) (ts : List (List ℕ)) → w.month ≡ None → month_in x ≡ Some m
    → words_read w ((codes "BYMONTH=" ++ x) ∷ ts) ≡ words_read (record w { month = Some m }) ts
unfolding words_read word_read day_read is_word
month_word w x m ts none e = rw (none, e) refl

month_days_word : (w : Words) (x : List ℕ) (d : Days) (ts : List (List ℕ)) → w.month_days ≡ None → days_in 2 x ≡ Some d
    → words_read w ((codes "BYMONTHDAY=" ++ x) ∷ ts) ≡ words_read (record w { month_days = Some d }) ts
unfolding words_read word_read day_read is_word
month_days_word w x d ts none e = rw (none, e) refl

year_days_word : (w : Words) (x : List ℕ) (d : Days) (ts : List (List ℕ)) → w.year_days ≡ None → days_in 3 x ≡ Some d
    → words_read w ((codes "BYYEARDAY=" ++ x) ∷ ts) ≡ words_read (record w { year_days = Some d }) ts
unfolding words_read word_read day_read is_word
year_days_word w x d ts none e = rw (none, e) refl

day_word : (w : Words) (x : List ℕ) (d : WeekDay) (ts : List (List ℕ)) → w.weekday ≡ None → day_in x ≡ Some d
    → words_read w ((codes "BYDAY=" ++ x) ∷ ts) ≡ words_read (record w { weekday = Some d }) ts
unfolding words_read word_read day_read is_word
day_word w x d ts none e = rw (none, e) refl

until_word : (w : Words) (x : List ℕ) (m : Moment) (ts : List (List ℕ)) → w.until ≡ None → moment_meant (utc_in x) ≡ Some m
    → words_read w ((codes "UNTIL=" ++ x) ∷ ts) ≡ words_read (record w { until = Some m }) ts
unfolding words_read word_read is_word
until_word w x m ts none e = rw (none, e) refl

words_end : (w : Words) → words_read w [] ≡ Some w
unfolding words_read
words_end w = refl

-- what the words of a form say
abbrev form_words_say : Form → Words
form_words_say (form.NthDay month nth weekday) =
    record no_words { yearly = true; month = Some month; weekday = Some (record { nth = Some nth; weekday = weekday }) }
form_words_say (form.MonthDays month first weekday) =
    record no_words {
      yearly = true;
      month = Some month;
      month_days = Some (record { first = pos first; seven = true });
      weekday = Some
          (record { nth = None; weekday = weekday });
    }
form_words_say (form.YearDays first weekday) =
    record no_words { yearly = true; year_days = Some (record { first = first; seven = true }); weekday = Some (record { nth = None; weekday = weekday }) }
form_words_say (form.FixedDate month day) =
    record no_words { yearly = true; month = Some month; month_days = Some (record { first = pos day; seven = false }) }

abbrev yearly : Words
yearly = record no_words { yearly = true }

form_said : (f : Form) (ts : List (List ℕ)) → IsValidForm f → words_read yearly (form_words f ++ ts) ≡ words_read (form_words_say f) ts
form_said (form.NthDay month nth weekday) ts h =
    let one = h.0 in
    month_word yearly (decimal month) month _ refl (month_back month (omega (arith, one)))
    ∙ day_word (record yearly { month = Some month }) (signed_decimal nth ++ weekday_name weekday) (record { nth = Some nth; weekday = weekday }) ts refl
    (nth_weekday nth weekday (place_short nth h.1) h.2)
form_said (form.MonthDays month first weekday) ts h =
    let one = h.0 in
    month_word yearly (decimal month) month _ refl (month_back month (omega (arith, one)))
    ∙ month_days_word (record yearly { month = Some month }) (seven_numbers (pos first)) (record { first = pos first; seven = true }) _ refl
    (seven_back (pos first) 2 (λ k le. month_days_short month first k h.1.0 h.1.1 le))
    ∙ day_word (record yearly { month = Some month; month_days = Some (record { first = pos first; seven = true }) }) (weekday_name weekday)
    (record { nth = None; weekday = weekday }) ts refl (weekday_alone weekday h.2)
form_said (form.YearDays first weekday) ts h =
    year_days_word yearly (seven_numbers first) (record { first = first; seven = true }) _ refl (seven_back first 3 (first_small first h.0))
    ∙ day_word (record yearly { year_days = Some (record { first = first; seven = true }) }) (weekday_name weekday)
    (record { nth = None; weekday = weekday }) ts refl (weekday_alone weekday h.1)
form_said (form.FixedDate month day) ts h =
    let one = h.0 in
    let long = days_in_month_bounds (pos 2001) month in
    let date = small_number day h.1.0 (omega (arith, h.1, long)) in
    month_word yearly (decimal month) month _ refl (month_back month (omega (arith, one)))
    ∙ month_days_word (record yearly { month = Some month }) (decimal day) (record { first = pos day; seven = false }) ts refl
    (one_number_back 2 (pos day) date)

pub meant_back : (m : ℤ) → HasMeaning m → has_meaning m ≡ true
meant_back m h = and_from _ _ (low h.0) (high h.1)
  where
    low : LO ≤ℤ m → int_le LO m ≡ true
    low h = grind (arith, ints)

    high : m <ℤ HI → int_lt m HI ≡ true
    high h = grind (arith, ints)

until_meant : (m : Moment) → HasMeaning m.seconds → moment_meant (utc_in (utc_basic m.seconds)) ≡ Some m
until_meant m h =
    ap moment_meant (utc_back m (bounds_text m.seconds (h.0, omega (arith, signed_arith, h.1))))
    ∙ cond-true (has_meaning m.seconds) (Some m) None (meant_back m.seconds h)

all_said : (f : Form) (until : Option Moment) → IsValidForm f → IfSome until (λ m. HasMeaning m.seconds)
    → words_read no_words (codes "FREQ=YEARLY" ∷ words_of f until) ≡ Some (record (form_words_say f) { until = until })
all_said f None h k = freq_word (words_of f None) ∙ form_said f [] h ∙ words_end (form_words_say f) ∙ same f
  where
    same : (f : Form) → Some (form_words_say f) ≡ Some (record (form_words_say f) { until = None })
    same (form.NthDay month nth weekday) = refl
    same (form.MonthDays month first weekday) = refl
    same (form.YearDays first weekday) = refl
    same (form.FixedDate month day) = refl
all_said f (Some last) h k =
    freq_word (words_of f (Some last)) ∙ form_said f (until_words (Some last)) h
    ∙ until_word (form_words_say f) (utc_basic last.seconds) last [] (none f) (until_meant last k)
    ∙ words_end (record (form_words_say f) { until = Some last })
  where
    none : (f : Form) → (form_words_say f).until ≡ None
    none (form.NthDay month nth weekday) = refl
    none (form.MonthDays month first weekday) = refl
    none (form.YearDays first weekday) = refl
    none (form.FixedDate month day) = refl

form_again : (f : Form) → form_of_words (form_words_say f).month (form_words_say f).month_days (form_words_say f).year_days (form_words_say f).weekday ≡ Some f
unfolding form_of_words
form_again (form.NthDay month nth weekday) = refl
form_again (form.MonthDays month first weekday) = refl
form_again (form.YearDays first weekday) = refl
form_again (form.FixedDate month day) = refl

recur_again : (f : Form) (until : Option Moment) → is_valid_form f ≡ true
    → recur_of (record (form_words_say f) { until = until }) ≡ Some (record { form = f; until = until })
unfolding recur_of
recur_again (form.NthDay month nth weekday) until e = ap (λ o. recur_with until (valid_only o)) (form_again (form.NthDay month nth weekday))
    ∙ ap (recur_with until) (cond-true _ _ None e)
recur_again (form.MonthDays month first weekday) until e = ap (λ o. recur_with until (valid_only o)) (form_again (form.MonthDays month first weekday))
    ∙ ap (recur_with until) (cond-true _ _ None e)
recur_again (form.YearDays first weekday) until e = ap (λ o. recur_with until (valid_only o)) (form_again (form.YearDays first weekday))
    ∙ ap (recur_with until) (cond-true _ _ None e)
recur_again (form.FixedDate month day) until e = ap (λ o. recur_with until (valid_only o)) (form_again (form.FixedDate month day))
    ∙ ap (recur_with until) (cond-true _ _ None e)

form_uncut : (f : Form) → IsValidForm f → are_uncut 59 (form_words f) ≡ true
form_uncut (form.NthDay month nth weekday) h =
    let place = place_short nth h.1 in
    and_from _ _ (signed_uncut 59 (pos month) (inr (inr refl)) (small_month month h.0))
    (and_from _ true (uncut-append 59 (signed_decimal nth) (weekday_name weekday) (signed_uncut 59 nth (inr (inr refl)) place.small)
    (weekday_uncut 59 weekday (inr (inr refl)) h.2)) refl)
form_uncut (form.MonthDays month first weekday) h =
    and_from _ _ (signed_uncut 59 (pos month) (inr (inr refl)) (small_month month h.0))
    (and_from _ _ (seven_uncut (pos first) 2 (λ k le. month_days_short month first k h.1.0 h.1.1 le))
    (and_from _ true (weekday_uncut 59 weekday (inr (inr refl)) h.2) refl))
form_uncut (form.YearDays first weekday) h =
    and_from _ _ (seven_uncut first 3 (first_small first h.0)) (and_from _ true (weekday_uncut 59 weekday (inr (inr refl)) h.1) refl)
form_uncut (form.FixedDate month day) h =
    let long = days_in_month_bounds (pos 2001) month in
    let date = small_number day h.1.0 (omega (arith, h.1, long)) in
    and_from _ _ (signed_uncut 59 (pos month) (inr (inr refl)) (small_month month h.0))
    (and_from _ true (signed_uncut 59 (pos day) (inr (inr refl)) date.small) refl)

until_uncut : (until : Option Moment) → are_uncut 59 (until_words until) ≡ true
until_uncut None = refl
until_uncut (Some last) = and_from _ true (utc_uncut 59 last.seconds (inr (inr refl))) refl

-- the text of a rule is read as the rule
pub recur_back : (rule : Rule) (until : Option Moment) → IsValidForm rule.form → is_valid_form rule.form ≡ true → IfSome until (λ m. HasMeaning m.seconds)
    → recur_in (rule_text rule until) ≡ Some (record { form = rule.form; until = until })
unfolding recur_in
recur_back rule until h e within =
    let f = rule.form in
    let whole = list_all-append (uncut 59) (form_words f) (until_words until) ∙ and_from _ _ (form_uncut f h) (until_uncut until) in
    let cut = cut_each 59 (codes "FREQ=YEARLY") (words_of f until) refl whole in
    ap (λ t. option_and_then recur_of (words_read no_words (cut_at 59 t))) (rule_joined rule until)
    ∙ ap (λ ws. option_and_then recur_of (words_read no_words ws)) cut
    ∙ ap (option_and_then recur_of) (all_said f until h within)
    ∙ recur_again f until e
