-- What is spelled as an item reads as that item, whatever stands after it that does not go on with
-- it.
use Rattle.std.proofs.Common.{◌≡◌, ℕ, ◌+◌, ◌*◌, ◌≤◌, inl, inr, List, [], ◌∷◌, ◌++◌, length, Bool, true, false, ◌&&◌, Some, refl, ap, sym, ◌∙◌, subst, arith}
use Rattle.std.proofs.Common.{nat_lt, append_assoc, ◌==◌, ℤ, pos, neg_ℤ, ◌+ℤ◌, ◌<ℤ◌, unsigned_abs, int_lt}
use Rattle.std.specs.List.{list_all}
use Rattle.std.specs.Char.{is_ascii_alphabetic, is_ascii_digit}
use Rattle.std.proofs.lemmas.Bool.Decides.{nat_tests}
use Rattle.std.proofs.lemmas.Int.{ints}
use Rattle.posix_footer.specs.declared.rule_types.DayForm.{DayForm}
use Rattle.posix_footer.specs.declared.rule_types.DayForm.TheVariants as day
use Rattle.posix_footer.specs.Items.{begins, begins_as, after_byte, is_sign, is_designation_byte}
use Rattle.posix_footer.specs.Items.{quoted_at, name_at, part_at, clock_at, signed_at, offset_at}
use Rattle.posix_footer.specs.Items.{ahead_at, daylight_offset_at, begins_offset, time_at, week_at}
use Rattle.posix_footer.specs.Items.{julian_at, year_day_at, day_at}
use Rattle.posix_footer.specs.Spelling.{IsRun, IsUnquoted, IsQuoted, IsName, IsNumber, IsClockPart, IsAfterHours, IsClock, HasSign, IsSignedNumber, IsOffset}
use Rattle.posix_footer.specs.Spelling.{IsDay}
use Rattle.posix_footer.proofs.Runs.{run_again, number_again}
use Rattle.posix_footer.proofs.Found.{IsDaylightOffset}

first_passes : (a b : Bool) → (a && b) ≡ true → a ≡ true
first_passes true b h = refl
first_passes false b h = absurd (cc)

-- what the first byte of a run is, if each byte of its kind is that
pub first_of_run : (kind other : ℕ → Bool) (answer : Bool) (run rest : List ℕ) → ((b : ℕ) → kind b ≡ true → other b ≡ answer) →
    list_all kind run ≡ true → 1 ≤ length run → begins_as other (run ++ rest) ≡ answer
first_of_run kind other answer [] rest each all least = absurd (omega arith)
first_of_run kind other answer (b ∷ bs) rest each all least = each b (first_passes (kind b) (list_all kind bs) all)

-- no item goes on after it
pub record IsEnd (rest : List ℕ) : Type 0 where
  pub digit : begins_as is_ascii_digit rest ≡ false
  pub colon : begins 58 rest ≡ false

letter_no_quote : (b : ℕ) → is_ascii_alphabetic b ≡ true → (b == 60) ≡ false
letter_no_quote b h = grind (arith, nat_tests)

plain_again : (text name rest : List ℕ) → IsUnquoted text name → begins_as is_ascii_alphabetic rest ≡ false → name_at (text ++ rest) ≡ Some (name, rest)
unfolding name_at
plain_again text name rest is end =
    let first = first_of_run is_ascii_alphabetic (λ b. b == 60) false name rest letter_no_quote is.letters.all (omega (arith, is.letters.at_least)) in
    ap (λ t. name_at (t ++ rest)) is.text_is ∙ rw first (run_again _ _ _ _ _ is.letters end)

quoted_text : (name rest : List ℕ) → IsRun is_designation_byte 3 32 name → quoted_at (name ++ (62 ∷ rest)) ≡ Some (name, rest)
unfolding quoted_at after_byte
quoted_text name rest is = rw (run_again is_designation_byte 3 32 name (62 ∷ rest) is refl) refl

quoted_again : (text name rest : List ℕ) → IsQuoted text name → name_at (text ++ rest) ≡ Some (name, rest)
unfolding name_at
quoted_again text name rest is =
    ap (λ t. name_at (t ++ rest)) is.text_is ∙ ap (λ t. quoted_at t) (append_assoc name (62 ∷ []) rest) ∙ quoted_text name rest is.bytes

pub name_again : (text name rest : List ℕ) → IsName text name → begins_as is_ascii_alphabetic rest ≡ false → name_at (text ++ rest) ≡ Some (name, rest)
name_again text name rest (inl is) end = plain_again text name rest is end
name_again text name rest (inr is) end = quoted_again text name rest is

part_again : (text : List ℕ) (n : ℕ) (rest : List ℕ) → IsClockPart text n → begins_as is_ascii_digit rest ≡ false → part_at (text ++ rest) ≡ Some (n, rest)
unfolding part_at
part_again text n rest is end = ap (λ t. part_at (t ++ rest)) is.text_is ∙ number_again 2 2 0 59 is.digits n rest is.number end

no_part : (rest : List ℕ) → begins 58 rest ≡ false → part_at rest ≡ Some (0, rest)
unfolding part_at
no_part rest end = rw end refl

-- both parts, each read or not
record Parts (text : List ℕ) (seconds : ℕ) (rest : List ℕ) : Type 0 where
  pub minute : ℕ
  pub second : ℕ
  pub middle : List ℕ
  pub first_is : part_at text ≡ Some (minute, middle)
  pub second_is : part_at middle ≡ Some (second, rest)
  pub value : seconds ≡ 60 * minute + second
  pub end : begins_as is_ascii_digit text ≡ false

part_begins : (text : List ℕ) (n : ℕ) (rest : List ℕ) → IsClockPart text n → begins_as is_ascii_digit (text ++ rest) ≡ false
part_begins text n rest is = ap (λ t. begins_as is_ascii_digit (t ++ rest)) is.text_is

parts_along : (one two : List ℕ) (seconds : ℕ) (rest : List ℕ) → one ≡ two → Parts one seconds rest → Parts two seconds rest
parts_along one two seconds rest e h = let P : List ℕ → Type 0 = λ t. Parts t seconds rest in subst P e h

parts_again : (text : List ℕ) (seconds : ℕ) (rest : List ℕ) → IsAfterHours text seconds → IsEnd rest → Parts (text ++ rest) seconds rest
parts_again text seconds rest (inl is) end = parts_along _ _ _ _ (ap (λ t. t ++ rest) (sym is.text_is)) (record {
  minute = 0;
  second = 0;
  middle = rest;
  first_is = no_part rest end.colon;
  second_is = no_part rest end.colon;
  value = is.value;
  end = end.digit;
})
parts_again text seconds rest (inr (inl is)) end = record {
  minute = is.minute;
  second = 0;
  middle = rest;
  first_is = part_again _ _ _ is.part end.digit;
  second_is = no_part rest end.colon;
  value = omega (arith, is.value);
  end = part_begins _ _ _ is.part;
}
parts_again text seconds rest (inr (inr is)) end =
    parts_along _ _ _ _ (sym (append_assoc is.minute_text is.second_text rest) ∙ ap (λ t. t ++ rest) (sym is.text_is)) (record {
      minute = is.minute;
      second = is.second;
      middle = is.second_text ++ rest;
      first_is = part_again _ _ _ is.minute_part (part_begins _ _ _ is.second_part);
      second_is = part_again _ _ _ is.second_part end.digit;
      value = is.value;
      end = part_begins _ _ _ is.minute_part;
    })

clock_text : (digits greatest : ℕ) (hour_text after_text : List ℕ) (hour after_hours seconds : ℕ) (rest : List ℕ)
    → IsNumber 1 digits 0 greatest hour_text hour → Parts after_text after_hours rest → seconds ≡ 3600 * hour + after_hours
    → clock_at digits greatest (hour_text ++ after_text) ≡ Some (seconds, rest)
unfolding clock_at
clock_text digits greatest hour_text after_text hour after_hours seconds rest hours parts value =
    let total : 3600 * hour + 60 * parts.minute + parts.second ≡ seconds = omega (arith, value, parts.value) in
    rw (number_again 1 digits 0 greatest hour_text hour after_text hours parts.end, parts.first_is, parts.second_is, total) refl

clock_again : (digits greatest : ℕ) (text : List ℕ) (seconds : ℕ) (rest : List ℕ) → IsClock digits greatest text seconds → IsEnd rest →
    clock_at digits greatest (text ++ rest) ≡ Some (seconds, rest)
clock_again digits greatest text seconds rest is end =
    ap (λ t. clock_at digits greatest t) (ap (λ t. t ++ rest) is.text_is ∙ append_assoc is.hour_text is.after_text rest)
    ∙ clock_text digits greatest is.hour_text (is.after_text ++ rest) is.hour is.after_hours seconds rest is.hours (parts_again _ _ _ is.parts end) is.value

digit_no_sign : (b : ℕ) → is_ascii_digit b ≡ true → is_sign b ≡ false
digit_no_sign b h = grind (arith, nat_tests)

digit_no_minus : (b : ℕ) → is_ascii_digit b ≡ true → (b == 45) ≡ false
digit_no_minus b h = grind (arith, nat_tests)

-- what a clock begins with
pub clock_begins : (other : ℕ → Bool) (answer : Bool) (digits greatest : ℕ) (text : List ℕ) (seconds : ℕ) (rest : List ℕ)
    → IsClock digits greatest text seconds →
    ((b : ℕ) → is_ascii_digit b ≡ true → other b ≡ answer) → begins_as other (text ++ rest) ≡ answer
clock_begins other answer digits greatest text seconds rest is each =
    ap (λ t. begins_as other t) (ap (λ t. t ++ rest) is.text_is ∙ append_assoc is.hour_text is.after_text rest)
    ∙ first_of_run is_ascii_digit other answer is.hour_text (is.after_text ++ rest) each is.hours.digits.all (is.hours.digits.at_least)

unsigned_text : (digits greatest : ℕ) (text : List ℕ) (n : ℕ) (rest : List ℕ) → IsClock digits greatest text n → IsEnd rest →
    signed_at digits greatest (text ++ rest) ≡ Some (pos n, rest)
unfolding signed_at
unsigned_text digits greatest text n rest is end =
    let sign = clock_begins is_sign false digits greatest text n rest is digit_no_sign in
    let minus = clock_begins (λ b. b == 45) false digits greatest text n rest is digit_no_minus in
    rw (sign, clock_again digits greatest text n rest is end, minus) refl

plus_text : (digits greatest : ℕ) (text : List ℕ) (n : ℕ) (rest : List ℕ) → IsClock digits greatest text n → IsEnd rest →
    signed_at digits greatest (43 ∷ (text ++ rest)) ≡ Some (pos n, rest)
unfolding signed_at
plus_text digits greatest text n rest is end = rw (clock_again digits greatest text n rest is end) refl

minus_text : (digits greatest : ℕ) (text : List ℕ) (n : ℕ) (rest : List ℕ) → IsClock digits greatest text n → IsEnd rest →
    signed_at digits greatest (45 ∷ (text ++ rest)) ≡ Some (neg_ℤ (pos n), rest)
unfolding signed_at
minus_text digits greatest text n rest is end = rw (clock_again digits greatest text n rest is end) refl

signed_text : (digits greatest : ℕ) (sign text : List ℕ) (n : ℕ) (z : ℤ) (rest : List ℕ) → HasSign sign n z → IsClock digits greatest text n → IsEnd rest →
    signed_at digits greatest (sign ++ (text ++ rest)) ≡ Some (z, rest)
signed_text digits greatest sign text n z rest (inl plus) is end = elim plus.sign_is [
  | inl none ↦ ap (λ s. signed_at digits greatest (s ++ (text ++ rest))) none ∙ unsigned_text digits greatest text n rest is end
      ∙ ap (λ y. Some (y, rest)) (sym plus.value)
  | inr some ↦ ap (λ s. signed_at digits greatest (s ++ (text ++ rest))) some ∙ plus_text digits greatest text n rest is end
      ∙ ap (λ y. Some (y, rest)) (sym plus.value)
]
signed_text digits greatest sign text n z rest (inr minus) is end =
    ap (λ s. signed_at digits greatest (s ++ (text ++ rest))) minus.sign_is ∙ minus_text digits greatest text n rest is end
    ∙ ap (λ y. Some (y, rest)) (sym minus.value)

signed_again : (digits greatest : ℕ) (text : List ℕ) (z : ℤ) (rest : List ℕ) → IsSignedNumber digits greatest text z → IsEnd rest →
    signed_at digits greatest (text ++ rest) ≡ Some (z, rest)
signed_again digits greatest text z rest is end =
    ap (λ t. signed_at digits greatest t) (ap (λ t. t ++ rest) is.text_is ∙ append_assoc is.sign is.clock_text rest)
    ∙ signed_text digits greatest is.sign is.clock_text is.seconds z rest is.signed is.clock end

pub time_again : (text : List ℕ) (z : ℤ) (rest : List ℕ) → IsSignedNumber 3 167 text z → IsEnd rest → time_at (text ++ rest) ≡ Some (z, rest)
unfolding time_at
time_again text z rest is end = signed_again 3 167 text z rest is end

pub offset_again : (text : List ℕ) (z : ℤ) (rest : List ℕ) → IsOffset text z → IsEnd rest → offset_at (text ++ rest) ≡ Some (z, rest)
unfolding offset_at
offset_again text z rest is end =
    let within : nat_lt (unsigned_abs is.west) 86400 ≡ true = grind (arith, nat_tests, is.within) in
    rw (signed_again 2 24 text is.west rest is.signed end, within) (ap (λ y. Some (y, rest)) (sym is.value))

signed_begins : (other : ℕ → Bool) (answer : Bool) (sign text : List ℕ) (n : ℕ) (z : ℤ) (rest : List ℕ) → HasSign sign n z → IsClock 2 24 text n →
    ((b : ℕ) → is_ascii_digit b ≡ true → other b ≡ answer) → other 43 ≡ answer → other 45 ≡ answer → begins_as other (sign ++ (text ++ rest)) ≡ answer
signed_begins other answer sign text n z rest (inl kept) is each plus minus = elim kept.sign_is [
  | inl none ↦ ap (λ s. begins_as other (s ++ (text ++ rest))) none ∙ clock_begins other answer 2 24 text n rest is each
  | inr some ↦ ap (λ s. begins_as other (s ++ (text ++ rest))) some ∙ plus
]
signed_begins other answer sign text n z rest (inr turned) is each plus minus =
    ap (λ s. begins_as other (s ++ (text ++ rest))) turned.sign_is ∙ minus

-- what an offset begins with: a digit or a sign
offset_begins : (other : ℕ → Bool) (answer : Bool) (text : List ℕ) (z : ℤ) (rest : List ℕ) → IsOffset text z →
    ((b : ℕ) → is_ascii_digit b ≡ true → other b ≡ answer) → other 43 ≡ answer → other 45 ≡ answer → begins_as other (text ++ rest) ≡ answer
offset_begins other answer text z rest is each plus minus =
    ap (λ t. begins_as other t) (ap (λ t. t ++ rest) is.signed.text_is ∙ append_assoc is.signed.sign is.signed.clock_text rest)
    ∙ signed_begins other answer is.signed.sign is.signed.clock_text is.signed.seconds is.west rest is.signed.signed is.signed.clock each plus minus

digit_offset : (b : ℕ) → is_ascii_digit b ≡ true → begins_offset b ≡ true
digit_offset b h = grind (arith, nat_tests)

digit_no_letter : (b : ℕ) → is_ascii_digit b ≡ true → is_ascii_alphabetic b ≡ false
digit_no_letter b h = grind (arith, nat_tests)

pub offset_no_letter : (text : List ℕ) (z : ℤ) (rest : List ℕ) → IsOffset text z → begins_as is_ascii_alphabetic (text ++ rest) ≡ false
offset_no_letter text z rest is = offset_begins is_ascii_alphabetic false text z rest is digit_no_letter refl refl

above : (a b : ℤ) → a <ℤ b → int_lt a b ≡ true
above a b h = grind (arith, ints)

ahead_text : (std z : ℤ) (rest : List ℕ) → (std +ℤ pos 3600) <ℤ pos 86400 → z ≡ std +ℤ pos 3600 → begins_as begins_offset rest ≡ false →
    daylight_offset_at std rest ≡ Some (z, rest)
unfolding daylight_offset_at ahead_at
ahead_text std z rest within value end = rw (end, above _ _ within) (ap (λ y. Some (y, rest)) (sym value))

written_text : (std : ℤ) (text : List ℕ) (z : ℤ) (rest : List ℕ) → IsOffset text z → IsEnd rest → daylight_offset_at std (text ++ rest) ≡ Some (z, rest)
unfolding daylight_offset_at
written_text std text z rest is end =
    let first = offset_begins begins_offset true text z rest is digit_offset refl refl in
    rw first (offset_again text z rest is end)

pub daylight_offset_again : (std : ℤ) (text : List ℕ) (z : ℤ) (rest : List ℕ) → IsDaylightOffset std text z → IsEnd rest →
    begins_as begins_offset rest ≡ false → daylight_offset_at std (text ++ rest) ≡ Some (z, rest)
daylight_offset_again std text z rest (inl is) end none = written_text std text z rest is end
daylight_offset_again std text z rest (inr is) end none =
    ap (λ t. daylight_offset_at std (t ++ rest)) is.text_is ∙ ahead_text std z rest is.within is.value none

julian_text : (digits : List ℕ) (n : ℕ) (rest : List ℕ) → IsNumber 1 3 1 365 digits n → begins_as is_ascii_digit rest ≡ false →
    day_at (74 ∷ (digits ++ rest)) ≡ Some (day.Julian n, rest)
unfolding day_at julian_at
julian_text digits n rest is end = rw (number_again _ _ _ _ _ _ _ is end) refl

digit_no_j : (b : ℕ) → is_ascii_digit b ≡ true → (b == 74) ≡ false
digit_no_j b h = grind (arith, nat_tests)

digit_no_m : (b : ℕ) → is_ascii_digit b ≡ true → (b == 77) ≡ false
digit_no_m b h = grind (arith, nat_tests)

year_day_text : (digits : List ℕ) (n : ℕ) (rest : List ℕ) → IsNumber 1 3 0 365 digits n → begins_as is_ascii_digit rest ≡ false →
    day_at (digits ++ rest) ≡ Some (day.YearDay n, rest)
unfolding day_at year_day_at
year_day_text digits n rest is end =
    let j = first_of_run is_ascii_digit (λ b. b == 74) false digits rest digit_no_j is.digits.all is.digits.at_least in
    let m = first_of_run is_ascii_digit (λ b. b == 77) false digits rest digit_no_m is.digits.all is.digits.at_least in
    rw (j, m, number_again _ _ _ _ _ _ _ is end) refl

week_again : (month_text week_text weekday_text : List ℕ) (month week weekday : ℕ) (rest : List ℕ) → IsNumber 1 2 1 12 month_text month →
    IsNumber 1 2 1 5 week_text week → IsNumber 1 2 0 6 weekday_text weekday → begins_as is_ascii_digit rest ≡ false →
    day_at (77 ∷ (month_text ++ (46 ∷ (week_text ++ (46 ∷ (weekday_text ++ rest)))))) ≡ Some (day.Week month week weekday, rest)
unfolding day_at week_at after_byte
week_again month_text week_text weekday_text month week weekday rest months weeks weekdays end =
    rw (
      number_again 1 2 1 12 month_text month (46 ∷ (week_text ++ (46 ∷ (weekday_text ++ rest)))) months refl,
      number_again 1 2 1 5 week_text week (46 ∷ (weekday_text ++ rest)) weeks refl,
      number_again 1 2 0 6 weekday_text weekday rest weekdays end,
    ) refl

pub day_again : (text : List ℕ) (form : DayForm) (rest : List ℕ) → IsDay text form → begins_as is_ascii_digit rest ≡ false →
    day_at (text ++ rest) ≡ Some (form, rest)
day_again text (day.Julian n) rest is end = ap (λ t. day_at (t ++ rest)) is.text_is ∙ julian_text is.digits n rest is.number end
day_again text (day.YearDay n) rest is end = year_day_text text n rest is end
day_again text (day.Week month week weekday) rest is end =
    ap (λ t. day_at (t ++ rest)) is.text_is
    ∙ ap (λ t. day_at (77 ∷ t)) (append_assoc is.month_text _ rest ∙ ap (λ t. is.month_text ++ (46 ∷ t)) (append_assoc is.week_text _ rest))
    ∙ week_again is.month_text is.week_text is.weekday_text month week weekday rest is.months is.weeks is.weekdays end
