-- The text of a date is judged by its fields and by the text that they have.
use Rattle.std.proofs.Common.{◌≡◌, ◌≢◌, ℕ, Bool, true, false, not, ◌&&◌, cond, List, length, refl, sym, ap, ◌∙◌, ℤ, pos, arith, ◌≤◌, Option, Some, None, inl}
use Rattle.std.proofs.Common.{inr, IsTrue, ◌↔◌}
use Rattle.std.specs.Str.{bytes_eq}
use Rattle.std.specs.Option.{is_some}
use Rattle.std.proofs.lemmas.Bool.{and_parts, and_from, and_right, not-true, not-false, cases_Bool}
use Rattle.std.proofs.Math.Bool.{and-true}
use Rattle.jiff_core.proofs.CalendarLemmas.{days_in_month_bounds}
use Rattle.td_civil.specs.Reading.{two_at, four_at, is_date, date_spelling, is_date_text, IsDateText}
use Rattle.td_civil.proofs.lemmas.Spelled.{same_text, text_same, date_parts, date_from}
use Rattle.td_civil.proofs.lemmas.ReadBack.{two_back, four_back}

pub other_date_length : (text : List ℕ) → length text ≢ 10 → false ≡ is_date_text text
unfolding is_date_text
other_date_length text h =
    let own : List ℕ = date_spelling (four_at text 0) (two_at text 5) (two_at text 8) in
    elim (cases_Bool (bytes_eq text own)) [
      | inl equal ↦ absurd (h (ap length (same_text text own equal)))
      | inr apart ↦ sym (and_right _ _ apart)
    ]

abbrev own_spelling : List ℕ → List ℕ
own_spelling text = date_spelling (four_at text 0) (two_at text 5) (two_at text 8)

same_spelling : (text : List ℕ) (y m d : ℕ) → y ≡ four_at text 0 → m ≡ two_at text 5 → d ≡ two_at text 8 → date_spelling y m d ≡ own_spelling text
same_spelling text y m d year month day =
    ap (λ (n : ℕ). date_spelling n m d) year
    ∙ ap (λ (n : ℕ). date_spelling (four_at text 0) n d) month
    ∙ ap (λ (n : ℕ). date_spelling (four_at text 0) (two_at text 5) n) day

same_date : (text : List ℕ) (y m d : ℕ) → y ≡ four_at text 0 → m ≡ two_at text 5 → d ≡ two_at text 8
    → is_date y m d ≡ is_date (four_at text 0) (two_at text 5) (two_at text 8)
same_date text y m d year month day =
    ap (λ (n : ℕ). is_date n m d) year
    ∙ ap (λ (n : ℕ). is_date (four_at text 0) n d) month
    ∙ ap (λ (n : ℕ). is_date (four_at text 0) (two_at text 5) n) day

-- a text that differs from that of its fields is no date
pub other_date : (text own : List ℕ) (y m d : ℕ) → y ≡ four_at text 0 → m ≡ two_at text 5 → d ≡ two_at text 8 → own ≡ date_spelling y m d
    → true ≡ not (bytes_eq text own) → false ≡ is_date_text text
unfolding is_date_text
other_date text own y m d year month day is e =
    let apart : bytes_eq text own ≡ false = not-true _ (sym e) in
    let same : own ≡ own_spelling text = is ∙ same_spelling text y m d year month day in
    sym (and_right _ _ (sym (ap (bytes_eq text) same) ∙ apart))

some_where : (b : Bool) (n : ℤ) → is_some (cond b (Some n) None) ≡ b
some_where true n = refl
some_where false n = refl

-- and the text of its fields is one where there is such a date
pub own_date : (text own : List ℕ) (y m d : ℕ) → y ≡ four_at text 0 → m ≡ two_at text 5 → d ≡ two_at text 8 → own ≡ date_spelling y m d
    → false ≡ not (bytes_eq text own) → (o : Option ℤ) (n : ℤ) → o ≡ cond (is_date y m d) (Some n) None → (r : Bool) → r ≡ is_some o → r ≡ is_date_text text
unfolding is_date_text
own_date text own y m d year month day is e o n found r answer =
    let equal : bytes_eq text own ≡ true = not-false _ (sym e) in
    let same : own ≡ own_spelling text = is ∙ same_spelling text y m d year month day in
    let own_is : bytes_eq text (own_spelling text) ≡ true = sym (ap (bytes_eq text) same) ∙ equal in
    answer ∙ ap is_some found ∙ some_where (is_date y m d) n
    ∙ same_date text y m d year month day
    ∙ sym (ap (λ b. is_date (four_at text 0) (two_at text 5) (two_at text 8) && b) own_is ∙ and-true _)

-- a text is judged a date exactly where it is that of one
pub judged_date : (text : List ℕ) → is_date_text text ≡ true → IsDateText text
unfolding is_date_text
judged_date text e =
    let both = and_parts _ _ e in
    let parts = date_parts _ _ _ both.0 in
    record {
      year = four_at text 0;
      month = two_at text 5;
      day = two_at text 8;
      year_in = parts.0;
      month_in = parts.1;
      day_in = parts.2;
      text_is = same_text _ _ both.1;
    }

pub date_judged : (text : List ℕ) → IsDateText text → is_date_text text ≡ true
unfolding is_date_text
date_judged text h =
    let longest = days_in_month_bounds (pos h.year) h.month in
    let last : h.day ≤ 31 = omega (arith, h.day_in, longest) in
    let year : h.year ≡ four_at text 0 = sym (ap (λ (t : List ℕ). four_at t 0) h.text_is ∙ four_back h.year h.year_in) in
    let month : h.month ≡ two_at text 5 = sym (ap (λ (t : List ℕ). two_at t 5) h.text_is ∙ two_back h.month (omega (arith, h.month_in))) in
    let day : h.day ≡ two_at text 8 = sym (ap (λ (t : List ℕ). two_at t 8) h.text_is ∙ two_back h.day (omega arith)) in
    let there : is_date h.year h.month h.day ≡ true = date_from h.year h.month h.day h.year_in h.month_in.0 h.month_in.1 h.day_in.0 h.day_in.1 in
    and_from _ _ (sym (same_date text h.year h.month h.day year month day) ∙ there)
    (text_same _ _ (h.text_is ∙ same_spelling text h.year h.month h.day year month day))

pub judged_as : (text : List ℕ) (r : Bool) → r ≡ is_date_text text → IsTrue r ↔ IsDateText text
judged_as text r e = (λ so. judged_date text (sym e ∙ so), λ h. e ∙ date_judged text h)
