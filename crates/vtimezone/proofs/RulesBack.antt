-- Rules that are written are read back.
use Rattle.std.proofs.Common.{◌≡◌, inl, inr, ℕ, ◌≤◌, true, refl, sym, ap, ◌∙◌, arith, append_assoc, append-nil, pos, Option, None, Some}
use Rattle.std.proofs.Common.{List, [], ◌∷◌, ◌++◌, codes, decimal}
use Rattle.std.specs.Fmt.{signed_decimal}
use Rattle.std.specs.Str.{all_ascii_digits}
use Rattle.std.specs.Option.{IfSome, option_map, option_and_then}
use Rattle.std.proofs.lemmas.Bool.{cond-true, and_from}
use Rattle.std.proofs.lemmas.List.Folds.{list_all-append}
use Rattle.jiff_core.proofs.CalendarLemmas.{days_in_month_bounds}
use Rattle.td_civil.specs.declared.moment_type.Moment.{Moment}
use Rattle.td_civil.specs.Bounds.{IsWithinBounds}
use Rattle.td_civil.proofs.lemmas.Shown.{bounds_text}
use Rattle.recurrence.specs.declared.rule_types.Form.{Form}
use Rattle.recurrence.specs.declared.rule_types.Form.TheVariants as form
use Rattle.recurrence.specs.declared.rule_types.Rule.{Rule}
use Rattle.recurrence.specs.Valid.{IsValidForm, IsMonth}
use Rattle.recurrence.specs.AllRead.{all_read, put_before}
use Rattle.recurrence.specs.FormFields.{form_read}
use Rattle.recurrence.specs.PartFields.{recur_with_fields}
use Rattle.recurrence.specs.Weekdays.{weekday_name, number_of_text}
use Rattle.recurrence.proofs.lemmas.AllRead.{read_more, read_append}
use Rattle.recurrence.proofs.lemmas.FormFields.{next_numbers, first_small, small_number, place_short, month_short, month_days_short, fields_back}
use Rattle.recurrence.proofs.lemmas.Weekdays.{all_digits, short_back, weekday_alone, nth_weekday}
use Rattle.vtimezone.specs.Cutting.{Named, cut_at, cut_first}
use Rattle.vtimezone.specs.ReadRules.{month_in_value, months_in, numbers_in, days_in_value, recur_of_named, recur_in_value}
use Rattle.vtimezone.specs.ReadValues.{utc_in}
use Rattle.vtimezone.specs.Values.{utc_basic, seven_numbers, by_month, by_weekday, by_nth_weekday, by_month_day, by_month_days, by_year_days}
use Rattle.vtimezone.specs.Values.{form_text, until_text, rule_text}
use Rattle.vtimezone.proofs.lemmas.ValuesBack.{utc_back}
use Rattle.vtimezone.proofs.lemmas.NumbersBack.{cut_last, uncut, uncut-append, after_each, are_uncut, cut_each, joined_uncut, EndsWord, signed_uncut}
use Rattle.vtimezone.proofs.lemmas.NumbersBack.{weekday_uncut, utc_uncut}
use Rattle.vtimezone.proofs.lemmas.NumbersBack.{one_number_back, seven_back, seven_uncut, one_day}

-- ---- the words of a rule

abbrev form_words : Form → List (List ℕ)
form_words (form.NthDay month nth weekday) =
    (codes "BYMONTH=" ++ signed_decimal (pos month)) ∷ (codes "BYDAY=" ++ (signed_decimal nth ++ weekday_name weekday)) ∷ []
form_words (form.MonthDays month first weekday) =
    (codes "BYMONTH=" ++ signed_decimal (pos month)) ∷ (codes "BYMONTHDAY=" ++ seven_numbers (pos first))
    ∷ (codes "BYDAY=" ++ weekday_name weekday) ∷ []
form_words (form.YearDays first weekday) = (codes "BYYEARDAY=" ++ seven_numbers first) ∷ (codes "BYDAY=" ++ weekday_name weekday) ∷ []
form_words (form.FixedDate month day) =
    (codes "BYMONTH=" ++ signed_decimal (pos month)) ∷ (codes "BYMONTHDAY=" ++ signed_decimal (pos day)) ∷ []

abbrev until_words : Option Moment → List (List ℕ)
until_words None = []
until_words (Some last) = (codes "UNTIL=" ++ utc_basic last.seconds) ∷ []

abbrev words_of : Form → Option Moment → List (List ℕ)
words_of f until = form_words f ++ until_words until

form_joined : (f : Form) → form_text f ≡ after_each 59 (form_words f)
unfolding by_month by_weekday by_nth_weekday by_month_day by_month_days by_year_days
form_joined (form.NthDay month nth weekday) = simp (append_assoc, append-nil)
form_joined (form.MonthDays month first weekday) = simp (append_assoc, append-nil)
form_joined (form.YearDays first weekday) = simp (append_assoc, append-nil)
form_joined (form.FixedDate month day) = simp (append_assoc, append-nil)

until_joined : (until : Option Moment) → until_text until ≡ after_each 59 (until_words until)
unfolding until_text
until_joined None = refl
until_joined (Some last) = sym (append-nil (codes ";UNTIL=" ++ utc_basic last.seconds))

joined-append : (s : ℕ) (xs ys : List (List ℕ)) → after_each s (xs ++ ys) ≡ after_each s xs ++ after_each s ys
joined-append s [] ys = refl
joined-append s (x ∷ xs) ys = ap (λ t. (s ∷ x) ++ t) (joined-append s xs ys) ∙ sym (append_assoc (s ∷ x) (after_each s xs) (after_each s ys))

rule_joined : (rule : Rule) (until : Option Moment) → rule_text rule until ≡ codes "FREQ=YEARLY" ++ after_each 59 (words_of rule.form until)
unfolding rule_text
rule_joined rule until =
    append_assoc (codes "FREQ=YEARLY") (form_text rule.form) (until_text until)
    ∙ ap (λ t. codes "FREQ=YEARLY" ++ t)
    (ap (λ t. t ++ until_text until) (form_joined rule.form) ∙ ap (λ t. after_each 59 (form_words rule.form) ++ t) (until_joined until)
    ∙ sym (joined-append 59 (form_words rule.form) (until_words until)))

-- ---- the words, cut and read

abbrev named : List ℕ → List ℕ → Named
named name value = record { name = name; value = value }

abbrev form_named : Form → List Named
form_named (form.NthDay month nth weekday) =
    named (codes "BYMONTH") (signed_decimal (pos month)) ∷ named (codes "BYDAY") (signed_decimal nth ++ weekday_name weekday) ∷ []
form_named (form.MonthDays month first weekday) =
    named (codes "BYMONTH") (signed_decimal (pos month)) ∷ named (codes "BYMONTHDAY") (seven_numbers (pos first))
    ∷ named (codes "BYDAY") (weekday_name weekday) ∷ []
form_named (form.YearDays first weekday) = named (codes "BYYEARDAY") (seven_numbers first) ∷ named (codes "BYDAY") (weekday_name weekday) ∷ []
form_named (form.FixedDate month day) =
    named (codes "BYMONTH") (signed_decimal (pos month)) ∷ named (codes "BYMONTHDAY") (signed_decimal (pos day)) ∷ []

abbrev until_named : Option Moment → List Named
until_named None = []
until_named (Some last) = named (codes "UNTIL") (utc_basic last.seconds) ∷ []

form_cut : (f : Form) → all_read (cut_first 61) (form_words f) ≡ Some (form_named f)
form_cut (form.NthDay month nth weekday) = refl
form_cut (form.MonthDays month first weekday) = refl
form_cut (form.YearDays first weekday) = refl
form_cut (form.FixedDate month day) = refl

until_cut : (until : Option Moment) → all_read (cut_first 61) (until_words until) ≡ Some (until_named until)
until_cut None = refl
until_cut (Some last) = refl

abbrev yearly : Named
yearly = named (codes "FREQ") (codes "YEARLY")

words_cut : (f : Form) (until : Option Moment)
    → all_read (cut_first 61) (codes "FREQ=YEARLY" ∷ words_of f until) ≡ Some (yearly ∷ (form_named f ++ until_named until))
words_cut f until =
    ap (put_before (Some yearly))
    (read_append (cut_first 61) (form_words f) (until_words until) (form_named f) (until_named until) (form_cut f) (until_cut until))

-- what is read of the words of a form, and of the last moment
abbrev read_form : Form → Option Form
read_form (form.NthDay month nth weekday) =
    form_read (option_map Some (months_in (signed_decimal (pos month)))) (Some None) (Some None)
    (option_map Some (days_in_value (signed_decimal nth ++ weekday_name weekday)))
read_form (form.MonthDays month first weekday) =
    form_read (option_map Some (months_in (signed_decimal (pos month)))) (option_map Some (numbers_in 2 31 (seven_numbers (pos first)))) (Some None)
    (option_map Some (days_in_value (weekday_name weekday)))
read_form (form.YearDays first weekday) =
    form_read (Some None) (Some None) (option_map Some (numbers_in 3 366 (seven_numbers first))) (option_map Some (days_in_value (weekday_name weekday)))
read_form (form.FixedDate month day) =
    form_read (option_map Some (months_in (signed_decimal (pos month)))) (option_map Some (numbers_in 2 31 (signed_decimal (pos day)))) (Some None)
    (Some None)

abbrev read_until : Option Moment → Option (Option Moment)
read_until None = Some None
read_until (Some last) = option_map Some (utc_in (utc_basic last.seconds))

words_read : (f : Form) (until : Option Moment) → recur_of_named (yearly ∷ (form_named f ++ until_named until)) ≡ recur_with_fields (read_form f) (read_until until)
words_read (form.NthDay month nth weekday) None = refl
words_read (form.NthDay month nth weekday) (Some last) = refl
words_read (form.MonthDays month first weekday) None = refl
words_read (form.MonthDays month first weekday) (Some last) = refl
words_read (form.YearDays first weekday) None = refl
words_read (form.YearDays first weekday) (Some last) = refl
words_read (form.FixedDate month day) None = refl
words_read (form.FixedDate month day) (Some last) = refl

alone_back : (w : ℕ) → w ≤ 6 → days_in_value (weekday_name w) ≡ Some (record { nth = None; weekday = w } ∷ [])
alone_back w h = one_day (weekday_name w) (record { nth = None; weekday = w }) (weekday_uncut 44 w (inl refl) h) (weekday_alone w h)

month_back : (m : ℕ) → IsMonth m → months_in (signed_decimal (pos m)) ≡ Some (pos m ∷ [])
unfolding month_in_value
month_back m h =
    let short = month_short m h in
    let month : month_in_value (decimal m) ≡ Some (pos m) =
    cond-true (all_ascii_digits (decimal m)) (number_of_text 2 12 (decimal m)) None (all_digits m (omega (arith, h)))
    ∙ short_back 2 12 (pos m) short in
    ap (all_read month_in_value) (cut_last 44 (decimal m) (signed_uncut 44 (pos m) (inl refl) short.small))
    ∙ read_more month_in_value (decimal m) [] (pos m) [] month refl

form_back : (f : Form) → IsValidForm f → read_form f ≡ Some f
form_back (form.NthDay month nth weekday) h =
    let text = signed_decimal nth ++ weekday_name weekday in
    let place = place_short nth h.1 in
    let day = one_day text (record { nth = Some nth; weekday = weekday })
    (uncut-append 44 (signed_decimal nth) (weekday_name weekday) (signed_uncut 44 nth (inl refl) place.small) (weekday_uncut 44 weekday (inl refl) h.2))
    (nth_weekday nth weekday place h.2) in
    ap (λ o. form_read (option_map Some o) (Some None) (Some None) (option_map Some (days_in_value text))) (month_back month h.0)
    ∙ ap (λ o. form_read (Some (Some (pos month ∷ []))) (Some None) (Some None) (option_map Some o)) day
form_back (form.MonthDays month first weekday) h =
    let dates = pos first ∷ next_numbers (pos first) in
    ap (λ o. form_read (option_map Some o) (option_map Some (numbers_in 2 31 (seven_numbers (pos first)))) (Some None)
    (option_map Some (days_in_value (weekday_name weekday)))) (month_back month h.0)
    ∙ ap (λ o. form_read (Some (Some (pos month ∷ []))) (option_map Some o) (Some None) (option_map Some (days_in_value (weekday_name weekday))))
    (seven_back (pos first) 2 31 (λ k le. month_days_short month first k h.1.0 h.1.1 le))
    ∙ ap (λ o. form_read (Some (Some (pos month ∷ []))) (Some (Some dates)) (Some None) (option_map Some o)) (alone_back weekday h.2)
    ∙ fields_back (form.MonthDays month first weekday)
form_back (form.YearDays first weekday) h =
    let dates = first ∷ next_numbers first in
    ap (λ o. form_read (Some None) (Some None) (option_map Some o) (option_map Some (days_in_value (weekday_name weekday))))
    (seven_back first 3 366 (first_small first h.0))
    ∙ ap (λ o. form_read (Some None) (Some None) (Some (Some dates)) (option_map Some o)) (alone_back weekday h.1)
    ∙ fields_back (form.YearDays first weekday)
form_back (form.FixedDate month day) h =
    let long = days_in_month_bounds (pos 2001) month in
    let date = small_number day 31 h.1.0 (omega (arith, h.1, long)) (omega arith) in
    ap (λ o. form_read (option_map Some o) (option_map Some (numbers_in 2 31 (signed_decimal (pos day)))) (Some None) (Some None))
    (month_back month h.0)
    ∙ ap (λ o. form_read (Some (Some (pos month ∷ []))) (option_map Some o) (Some None) (Some None)) (one_number_back 2 31 (pos day) date)

until_back : (until : Option Moment) → IfSome until (λ m. IsWithinBounds m.seconds) → read_until until ≡ Some until
until_back None h = refl
until_back (Some last) h = ap (option_map Some) (utc_back last (bounds_text last.seconds h))

-- ---- the words have no semicolon, and no line feed

word_uncut : (s : ℕ) (name text : List ℕ) → EndsWord s → uncut 10 name ≡ true → uncut 59 name ≡ true → uncut s text ≡ true → uncut s (name ++ text) ≡ true
word_uncut s name text (inl is) one two h = uncut-append s name text (ap (λ n. uncut n name) is ∙ one) h
word_uncut s name text (inr is) one two h = uncut-append s name text (ap (λ n. uncut n name) is ∙ two) h

one_word : (s : ℕ) (w : List ℕ) → uncut s w ≡ true → are_uncut s (w ∷ []) ≡ true
one_word s w h = and_from (uncut s w) true h refl

month_word : (s m : ℕ) → EndsWord s → IsMonth m → uncut s (codes "BYMONTH=" ++ signed_decimal (pos m)) ≡ true
month_word s m is h =
    word_uncut s (codes "BYMONTH=") (signed_decimal (pos m)) is refl refl (signed_uncut s (pos m) (inr is) ((month_short m h).small))

weekday_word : (s w : ℕ) → EndsWord s → w ≤ 6 → uncut s (codes "BYDAY=" ++ weekday_name w) ≡ true
weekday_word s w is h = word_uncut s (codes "BYDAY=") (weekday_name w) is refl refl (weekday_uncut s w (inr is) h)

form_uncut : (s : ℕ) (f : Form) → EndsWord s → IsValidForm f → are_uncut s (form_words f) ≡ true
form_uncut s (form.NthDay month nth weekday) is h =
    let day = signed_decimal nth ++ weekday_name weekday in
    let place = place_short nth h.1 in
    and_from _ _ (month_word s month is h.0)
    (one_word s (codes "BYDAY=" ++ day) (word_uncut s (codes "BYDAY=") day is refl refl
    (uncut-append s (signed_decimal nth) (weekday_name weekday) (signed_uncut s nth (inr is) place.small) (weekday_uncut s weekday (inr is) h.2))))
form_uncut s (form.MonthDays month first weekday) is h =
    and_from _ _ (month_word s month is h.0)
    (and_from _ _ (word_uncut s (codes "BYMONTHDAY=") (seven_numbers (pos first)) is refl refl
    (seven_uncut s (pos first) 2 31 is (λ k le. month_days_short month first k h.1.0 h.1.1 le)))
    (one_word s (codes "BYDAY=" ++ weekday_name weekday) (weekday_word s weekday is h.2)))
form_uncut s (form.YearDays first weekday) is h =
    and_from _ _ (word_uncut s (codes "BYYEARDAY=") (seven_numbers first) is refl refl (seven_uncut s first 3 366 is (first_small first h.0)))
    (one_word s (codes "BYDAY=" ++ weekday_name weekday) (weekday_word s weekday is h.1))
form_uncut s (form.FixedDate month day) is h =
    let long = days_in_month_bounds (pos 2001) month in
    let date = small_number day 31 h.1.0 (omega (arith, h.1, long)) (omega arith) in
    and_from _ _ (month_word s month is h.0)
    (one_word s (codes "BYMONTHDAY=" ++ signed_decimal (pos day)) (word_uncut s (codes "BYMONTHDAY=") (signed_decimal (pos day)) is refl refl
    (signed_uncut s (pos day) (inr is) date.small)))

until_uncut : (s : ℕ) (until : Option Moment) → EndsWord s → are_uncut s (until_words until) ≡ true
until_uncut s None is = refl
until_uncut s (Some last) is =
    one_word s (codes "UNTIL=" ++ utc_basic last.seconds)
    (word_uncut s (codes "UNTIL=") (utc_basic last.seconds) is refl refl (utc_uncut s last.seconds (inr is)))

words_uncut : (s : ℕ) (f : Form) (until : Option Moment) → EndsWord s → IsValidForm f → are_uncut s (words_of f until) ≡ true
words_uncut s f until is h = list_all-append (uncut s) (form_words f) (until_words until) ∙ and_from _ _ (form_uncut s f is h) (until_uncut s until is)

pub rule_on_a_line : (rule : Rule) (until : Option Moment) → IsValidForm rule.form → uncut 10 (rule_text rule until) ≡ true
rule_on_a_line rule until h =
    ap (uncut 10) (rule_joined rule until) ∙ joined_uncut 10 59 (words_of rule.form until) refl (words_uncut 10 rule.form until (inl refl) h)

pub recur_back : (rule : Rule) (until : Option Moment) → IsValidForm rule.form → IfSome until (λ m. IsWithinBounds m.seconds)
    → recur_in_value (rule_text rule until) ≡ Some (record { form = rule.form; until = until })
unfolding recur_in_value
recur_back rule until h within =
    let f = rule.form in
    let cut = cut_each 59 (codes "FREQ=YEARLY") (words_of f until) refl (words_uncut 59 f until (inr refl) h) in
    ap (λ t. option_and_then recur_of_named (all_read (cut_first 61) (cut_at 59 t))) (rule_joined rule until)
    ∙ ap (λ ws. option_and_then recur_of_named (all_read (cut_first 61) ws)) cut
    ∙ ap (option_and_then recur_of_named) (words_cut f until)
    ∙ words_read f until
    ∙ ap (λ o. recur_with_fields o (read_until until)) (form_back f h)
    ∙ ap (recur_with_fields (Some f)) (until_back until within)
