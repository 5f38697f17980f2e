-- What reads as an item is spelled as one.
use Rattle.std.proofs.Common.{◌≡◌, ℕ, ◌+◌, ◌*◌, ◌⊎◌, inl, inr, List, [], ◌∷◌, ◌++◌, drop, Bool, true, false, cond, Option, None, Some, refl, ap, sym, ◌∙◌}
use Rattle.std.proofs.Common.{subst, arith, nat_lt, append_assoc, ◌==◌, ℤ, pos, neg_ℤ, ◌<ℤ◌, unsigned_abs, int_lt}
use Rattle.std.proofs.lemmas.Bool.Decides.{nat_tests}
use Rattle.std.proofs.lemmas.Int.{ints}
use Rattle.std.proofs.lemmas.Option.{cond_some}
use Rattle.posix_footer.specs.declared.rule_types.DayForm.{DayForm}
use Rattle.posix_footer.specs.declared.rule_types.DayForm.TheVariants as day
use Rattle.posix_footer.specs.Items.{begins, begins_as, after_byte, is_sign, is_designation_byte}
use Rattle.posix_footer.specs.Items.{run_at, quoted_at, name_at, number_at, part_at, clock_at}
use Rattle.posix_footer.specs.Items.{signed_at, offset_at, ahead_at, daylight_offset_at}
use Rattle.posix_footer.specs.Items.{begins_offset, time_at, week_at, julian_at, year_day_at}
use Rattle.posix_footer.specs.Items.{day_at}
use Rattle.posix_footer.specs.Spelling.{IsName, IsNumber, IsClockPart, IsAfterHours, IsClock, IsSignedNumber, IsOffset, IsHourAhead, IsDay}
use Rattle.posix_footer.proofs.Runs.{Reads, between, IsRunOf, run_found, run_along, number_found}
use Rattle.std.specs.Char.{is_ascii_alphabetic}

-- which way a test went
pub chosen : {A : Type 0} (b : Bool) (x y z : A) → cond b x y ≡ z → ((b ≡ true) × (x ≡ z)) ⊎ ((b ≡ false) × (y ≡ z))
chosen true x y z h = inl (refl, h)
chosen false x y z h = inr (refl, h)

-- a text that begins with a byte is that byte and the rest
pub first_is : (byte : ℕ) (text : List ℕ) → begins byte text ≡ true → text ≡ byte ∷ drop 1 text
first_is byte [] h = absurd (cc)
first_is byte (b ∷ bs) h = let same : b ≡ byte = grind (arith, nat_tests) in ap (λ x. x ∷ bs) same

pub after_byte_found : (byte : ℕ) (text rest : List ℕ) → after_byte byte text ≡ Some rest → text ≡ byte ∷ rest
unfolding after_byte
after_byte_found byte text rest h =
    let parts = cond_some _ _ _ h in
    first_is byte text parts.0 ∙ ap (λ x. byte ∷ x) parts.1

plain_found : (text : List ℕ) (x : List ℕ × List ℕ) → run_at is_ascii_alphabetic 3 32 text ≡ Some x → Reads IsName text x
plain_found text x h =
    let read = run_found is_ascii_alphabetic 3 32 text x h in
    record {
      prefix = read.prefix;
      text_is = read.text_is;
      spells = inl (record { letters = run_along _ _ _ _ _ read.spells.same read.spells.bytes; text_is = read.spells.same });
    }

quoted_from : (text prefix rest : List ℕ) (run x : List ℕ × List ℕ) → begins 60 text ≡ true → drop 1 text ≡ prefix ++ run.1 →
    IsRunOf is_designation_byte 3 32 prefix run.0 → run.1 ≡ 62 ∷ rest → ◌≡◌ {A = Option (List ℕ × List ℕ)} (Some (run.0, rest)) (Some x) →
    Reads IsName text x
quoted_from text prefix rest run x first text_is is end last =
    let name_is : run.0 ≡ x.0 = cc in
    let rest_is : rest ≡ x.1 = cc in
    let inner : drop 1 text ≡ x.0 ++ (62 ∷ x.1) = cc (text_is, is.same, name_is, end, rest_is) in
    record {
      prefix = 60 ∷ (x.0 ++ 62 ∷ []);
      text_is = first_is 60 text first ∙ ap (λ y. 60 ∷ y) (inner ∙ sym (append_assoc x.0 (62 ∷ []) x.1));
      spells = inr (record { bytes = run_along _ _ _ _ _ (is.same ∙ name_is) is.bytes; text_is = refl });
    }

quoted_found : (text : List ℕ) (x : List ℕ × List ℕ) → begins 60 text ≡ true → quoted_at (drop 1 text) ≡ Some x → Reads IsName text x
unfolding quoted_at
quoted_found text x first h =
    let name = between (run_at is_designation_byte 3 32 (drop 1 text)) _ x h in
    let read = run_found is_designation_byte 3 32 (drop 1 text) name.value name.first_is in
    let rest = between (after_byte 62 name.value.1) _ x name.then_is in
    quoted_from text read.prefix rest.value name.value x first read.text_is read.spells (after_byte_found _ _ _ rest.first_is) rest.then_is

pub name_found : (text : List ℕ) (x : List ℕ × List ℕ) → name_at text ≡ Some x → Reads IsName text x
unfolding name_at
name_found text x h = elim (chosen (begins 60 text) _ _ _ h) [
  | inl c ↦ quoted_found text x c.0 c.1
  | inr c ↦ plain_found text x c.1
]

Some_same : {A : Type 0} (x y : A) → Some x ≡ Some y → x ≡ y
Some_same x y h = cc

-- a day and what stands after it, under another name
day_along : (text prefix : List ℕ) (form : DayForm) (rest : List ℕ) (x : DayForm × List ℕ) → text ≡ prefix ++ rest → IsDay prefix form →
    ◌≡◌ {A = Option (DayForm × List ℕ)} (Some (form, rest)) (Some x) → Reads IsDay text x
day_along text prefix form rest x text_is is last =
    let same = Some_same _ _ last in
    let P : DayForm → Type 0 = λ d. IsDay prefix d in
    record { prefix = prefix; text_is = text_is ∙ ap (λ p. prefix ++ p.1) same; spells = subst P (ap (λ p. p.0) same) is }

-- one piece after another
pub joined : (text first second middle rest : List ℕ) → text ≡ first ++ middle → middle ≡ second ++ rest → text ≡ (first ++ second) ++ rest
joined text first second middle rest e f = e ∙ ap (λ y. first ++ y) f ∙ sym (append_assoc first second rest)

-- a part is read where `:` stands, and nowhere else
record IsPartRead (text : List ℕ) (x : ℕ × List ℕ) : Type 0 where
  pub first : begins 58 text ≡ true
  pub read : Reads IsClockPart text x

record IsNoPart (text : List ℕ) (x : ℕ × List ℕ) : Type 0 where
  pub first : begins 58 text ≡ false
  pub value : x.0 ≡ 0
  pub rest : text ≡ x.1

part_from : (text : List ℕ) (x : ℕ × List ℕ) → begins 58 text ≡ true → Reads (IsNumber 2 2 0 59) (drop 1 text) x → IsPartRead text x
part_from text x first read = record {
  first = first;
  read = record {
    prefix = 58 ∷ read.prefix;
    text_is = first_is 58 text first ∙ ap (λ y. 58 ∷ y) read.text_is;
    spells = record { digits = read.prefix; text_is = refl; number = read.spells };
  };
}

part_found : (text : List ℕ) (x : ℕ × List ℕ) → part_at text ≡ Some x → IsPartRead text x ⊎ IsNoPart text x
unfolding part_at
part_found text x h = elim (chosen (begins 58 text) _ _ _ h) [
  | inl c ↦ inl (part_from text x c.0 (number_found 2 2 0 59 (drop 1 text) x c.1))
  | inr c ↦ inr (record { first = c.0; value = cc; rest = cc })
]

after_hours_from : (text : List ℕ) (minute second : ℕ × List ℕ) → IsPartRead text minute ⊎ IsNoPart text minute →
    IsPartRead minute.1 second ⊎ IsNoPart minute.1 second → Reads IsAfterHours text (60 * minute.0 + second.0, second.1)
after_hours_from text minute second (inl m) (inl s) = record {
  prefix = m.read.prefix ++ s.read.prefix;
  text_is = joined _ _ _ _ _ m.read.text_is s.read.text_is;
  spells = inr (inr (record {
    minute = minute.0;
    second = second.0;
    minute_text = m.read.prefix;
    second_text = s.read.prefix;
    text_is = refl;
    minute_part = m.read.spells;
    second_part = s.read.spells;
    value = refl;
  }));
}
after_hours_from text minute second (inl m) (inr s) = record {
  prefix = m.read.prefix;
  text_is = m.read.text_is ∙ ap (λ y. m.read.prefix ++ y) s.rest;
  spells = inr (inl (record { minute = minute.0; part = m.read.spells; value = omega (arith, s.value) }));
}
after_hours_from text minute second (inr m) (inl s) = absurd (cc (ap (λ y. begins 58 y) m.rest, m.first, s.first))
after_hours_from text minute second (inr m) (inr s) = record {
  prefix = [];
  text_is = m.rest ∙ s.rest;
  spells = inl (record { text_is = refl; value = omega (arith, m.value, s.value) });
}

clock_from : (digits greatest : ℕ) (text : List ℕ) (hour minute second x : ℕ × List ℕ) → Reads (IsNumber 1 digits 0 greatest) text hour →
    Reads IsAfterHours hour.1 (60 * minute.0 + second.0, second.1) →
    ◌≡◌ {A = Option (ℕ × List ℕ)} (Some (3600 * hour.0 + 60 * minute.0 + second.0, second.1)) (Some x) → Reads (IsClock digits greatest) text x
clock_from digits greatest text hour minute second x hours parts last =
    let n_is : 3600 * hour.0 + 60 * minute.0 + second.0 ≡ x.0 = cc in
    let rest_is : second.1 ≡ x.1 = cc in
    record {
      prefix = hours.prefix ++ parts.prefix;
      text_is = joined _ _ _ _ _ hours.text_is parts.text_is ∙ ap (λ y. (hours.prefix ++ parts.prefix) ++ y) rest_is;
      spells = record {
        hour = hour.0;
        after_hours = 60 * minute.0 + second.0;
        hour_text = hours.prefix;
        after_text = parts.prefix;
        text_is = refl;
        hours = hours.spells;
        parts = parts.spells;
        value = omega (arith, n_is);
      };
    }

clock_found : (digits greatest : ℕ) (text : List ℕ) (x : ℕ × List ℕ) → clock_at digits greatest text ≡ Some x → Reads (IsClock digits greatest) text x
unfolding clock_at
clock_found digits greatest text x h =
    let hour = between (number_at 1 digits 0 greatest text) _ x h in
    let minute = between (part_at hour.value.1) _ x hour.then_is in
    let second = between (part_at minute.value.1) _ x minute.then_is in
    clock_from digits greatest text hour.value minute.value second.value x
    (number_found 1 digits 0 greatest text hour.value hour.first_is)
    (after_hours_from _ _ _ (part_found _ _ minute.first_is) (part_found _ _ second.first_is))
    second.then_is

-- the sign at the beginning, if any
abbrev pub after_sign : List ℕ → List ℕ
after_sign text = cond (begins_as is_sign text) (drop 1 text) text

pub record IsMinusRead (text : List ℕ) : Type 0 where
  pub first : begins 45 text ≡ true
  pub text_is : text ≡ 45 ∷ after_sign text

pub record IsPlusRead (text sign : List ℕ) : Type 0 where
  pub first : begins 45 text ≡ false
  pub sign_is : (sign ≡ []) ⊎ (sign ≡ 43 ∷ [])
  pub text_is : text ≡ sign ++ after_sign text

abbrev pub SignRead : List ℕ → Type 0
SignRead text = IsMinusRead text ⊎ (sign : List ℕ) × IsPlusRead text sign

byte_read : (b : ℕ) (bs : List ℕ) (minus plus : Bool) → (b == 45) ≡ minus → (b == 43) ≡ plus → SignRead (b ∷ bs)
byte_read b bs true true m p = let same : b ≡ 45 = grind (arith, nat_tests) in inl (record { first = m; text_is = rw (m, p) (ap (λ y. y ∷ bs) same) })
byte_read b bs true false m p = let same : b ≡ 45 = grind (arith, nat_tests) in inl (record { first = m; text_is = rw (m, p) (ap (λ y. y ∷ bs) same) })
byte_read b bs false true m p = let same : b ≡ 43 = grind (arith, nat_tests) in
    inr (43 ∷ [], record { first = m; sign_is = inr refl; text_is = rw (m, p) (ap (λ y. y ∷ bs) same) })
byte_read b bs false false m p = inr ([], record { first = m; sign_is = inl refl; text_is = rw (m, p) refl })

sign_read : (text : List ℕ) → SignRead text
sign_read [] = inr ([], record { first = refl; sign_is = inl refl; text_is = refl })
sign_read (b ∷ bs) = byte_read b bs (b == 45) (b == 43) refl refl

signed_from : (digits greatest : ℕ) (text : List ℕ) (clock : ℕ × List ℕ) (x : ℤ × List ℕ) → SignRead text →
    Reads (IsClock digits greatest) (after_sign text) clock →
    ◌≡◌ {A = Option (ℤ × List ℕ)} (Some (cond (begins 45 text) (neg_ℤ (pos clock.0)) (pos clock.0), clock.1)) (Some x) →
    Reads (IsSignedNumber digits greatest) text x
signed_from digits greatest text clock x (inl minus) read last = record {
  prefix = 45 ∷ read.prefix;
  text_is = minus.text_is ∙ ap (λ y. 45 ∷ y) (read.text_is ∙ ap (λ y. read.prefix ++ y) (ap (λ p. p.1) (Some_same _ _ last)));
  spells = record {
    seconds = clock.0;
    sign = 45 ∷ [];
    clock_text = read.prefix;
    text_is = refl;
    clock = read.spells;
    signed = inr (record { sign_is = refl; value = sym (ap (λ p. p.0) (Some_same _ _ last)) ∙ rw minus.first refl });
  };
}
signed_from digits greatest text clock x (inr (sign, plus)) read last = record {
  prefix = sign ++ read.prefix;
  text_is = joined _ _ _ _ _ plus.text_is (read.text_is ∙ ap (λ y. read.prefix ++ y) (ap (λ p. p.1) (Some_same _ _ last)));
  spells = record {
    seconds = clock.0;
    sign = sign;
    clock_text = read.prefix;
    text_is = refl;
    clock = read.spells;
    signed = inl (record { sign_is = plus.sign_is; value = sym (ap (λ p. p.0) (Some_same _ _ last)) ∙ rw plus.first refl });
  };
}

signed_found : (digits greatest : ℕ) (text : List ℕ) (x : ℤ × List ℕ) → signed_at digits greatest text ≡ Some x → Reads (IsSignedNumber digits greatest) text x
unfolding signed_at
signed_found digits greatest text x h =
    let clock = between (clock_at digits greatest (after_sign text)) _ x h in
    signed_from digits greatest text clock.value x (sign_read text)
    (clock_found digits greatest (after_sign text) clock.value clock.first_is) clock.then_is

offset_from : (text : List ℕ) (west x : ℤ × List ℕ) → Reads (IsSignedNumber 2 24) text west →
    cond (nat_lt (unsigned_abs west.0) 86400) (Some (neg_ℤ west.0, west.1)) None ≡ Some x → Reads IsOffset text x
offset_from text west x read last =
    let parts = cond_some _ _ _ last in
    record {
      prefix = read.prefix;
      text_is = read.text_is ∙ ap (λ y. read.prefix ++ y) (ap (λ p. p.1) parts.1);
      spells = record { west = west.0; signed = read.spells; within = grind (arith, nat_tests); value = sym (ap (λ p. p.0) parts.1) };
    }

pub offset_found : (text : List ℕ) (x : ℤ × List ℕ) → offset_at text ≡ Some x → Reads IsOffset text x
unfolding offset_at
offset_found text x h =
    let west = between (signed_at 2 24 text) _ x h in
    offset_from text west.value x (signed_found 2 24 text west.value west.first_is) west.then_is

-- an offset in daylight saving time, or none
abbrev pub IsDaylightOffset : ℤ → List ℕ → ℤ → Type 0
IsDaylightOffset std text offset = IsOffset text offset ⊎ IsHourAhead std text offset

below : (a b : ℤ) → int_lt a b ≡ true → a <ℤ b
below a b h = grind (arith, ints)

ahead_found : (std : ℤ) (text : List ℕ) (x : ℤ × List ℕ) → ahead_at std text ≡ Some x → Reads (IsDaylightOffset std) text x
unfolding ahead_at
ahead_found std text x h =
    let parts = cond_some _ _ _ h in
    record {
      prefix = [];
      text_is = ap (λ p. p.1) parts.1;
      spells = inr (record { text_is = refl; within = below _ _ parts.0; value = sym (ap (λ p. p.0) parts.1) });
    }

written : (std : ℤ) (text : List ℕ) (x : ℤ × List ℕ) → Reads IsOffset text x → Reads (IsDaylightOffset std) text x
written std text x read = record { prefix = read.prefix; text_is = read.text_is; spells = inl read.spells }

pub daylight_offset_found : (std : ℤ) (text : List ℕ) (x : ℤ × List ℕ) → daylight_offset_at std text ≡ Some x → Reads (IsDaylightOffset std) text x
unfolding daylight_offset_at
daylight_offset_found std text x h = elim (chosen (begins_as begins_offset text) _ _ _ h) [
  | inl c ↦ written std text x (offset_found text x c.1)
  | inr c ↦ ahead_found std text x c.1
]

pub time_found : (text : List ℕ) (x : ℤ × List ℕ) → time_at text ≡ Some x → Reads (IsSignedNumber 3 167) text x
unfolding time_at
time_found text x h = signed_found 3 167 text x h

julian_from : (text : List ℕ) (n : ℕ × List ℕ) (x : DayForm × List ℕ) → begins 74 text ≡ true → Reads (IsNumber 1 3 1 365) (drop 1 text) n →
    ◌≡◌ {A = Option (DayForm × List ℕ)} (Some (day.Julian n.0, n.1)) (Some x) → Reads IsDay text x
julian_from text n x first read last =
    day_along text (74 ∷ read.prefix) (day.Julian n.0) n.1 x
    (first_is 74 text first ∙ ap (λ y. 74 ∷ y) read.text_is)
    (record { digits = read.prefix; text_is = refl; number = read.spells }) last

julian_found : (text : List ℕ) (x : DayForm × List ℕ) → begins 74 text ≡ true → julian_at (drop 1 text) ≡ Some x → Reads IsDay text x
unfolding julian_at
julian_found text x first h =
    let n = between (number_at 1 3 1 365 (drop 1 text)) _ x h in
    julian_from text n.value x first (number_found 1 3 1 365 (drop 1 text) n.value n.first_is) n.then_is

year_day_found : (text : List ℕ) (x : DayForm × List ℕ) → year_day_at text ≡ Some x → Reads IsDay text x
unfolding year_day_at
year_day_found text x h =
    let n = between (number_at 1 3 0 365 text) _ x h in
    let read = number_found 1 3 0 365 text n.value n.first_is in
    day_along text read.prefix (day.YearDay n.value.0) n.value.1 x read.text_is read.spells n.then_is

week_from : (text after_month after_week : List ℕ) (month week weekday : ℕ × List ℕ) (x : DayForm × List ℕ) → begins 77 text ≡ true →
    Reads (IsNumber 1 2 1 12) (drop 1 text) month → month.1 ≡ 46 ∷ after_month →
    Reads (IsNumber 1 2 1 5) after_month week → week.1 ≡ 46 ∷ after_week →
    Reads (IsNumber 1 2 0 6) after_week weekday →
    ◌≡◌ {A = Option (DayForm × List ℕ)} (Some (day.Week month.0 week.0 weekday.0, weekday.1)) (Some x) → Reads IsDay text x
week_from text after_month after_week month week weekday x first m dot w dot_again d last =
    let inner : drop 1 text ≡ m.prefix ++ (46 ∷ (w.prefix ++ (46 ∷ (d.prefix ++ weekday.1)))) = cc (m.text_is, dot, w.text_is, dot_again, d.text_is) in
    day_along text (77 ∷ (m.prefix ++ 46 ∷ (w.prefix ++ 46 ∷ d.prefix))) (day.Week month.0 week.0 weekday.0) weekday.1 x
    (first_is 77 text first ∙ ap (λ y. 77 ∷ y) (inner ∙ sym (append_assoc m.prefix _ _ ∙ ap (λ y. m.prefix ++ (46 ∷ y)) (append_assoc w.prefix _ _))))
    (record { month_text = m.prefix; week_text = w.prefix; weekday_text = d.prefix; text_is = refl; months = m.spells; weeks = w.spells; weekdays = d.spells })
    last

week_found : (text : List ℕ) (x : DayForm × List ℕ) → begins 77 text ≡ true → week_at (drop 1 text) ≡ Some x → Reads IsDay text x
unfolding week_at
week_found text x first h =
    let month = between (number_at 1 2 1 12 (drop 1 text)) _ x h in
    let dot = between (after_byte 46 month.value.1) _ x month.then_is in
    let week = between (number_at 1 2 1 5 dot.value) _ x dot.then_is in
    let dot_again = between (after_byte 46 week.value.1) _ x week.then_is in
    let weekday = between (number_at 1 2 0 6 dot_again.value) _ x dot_again.then_is in
    week_from text dot.value dot_again.value month.value week.value weekday.value x first
    (number_found _ _ _ _ _ _ month.first_is) (after_byte_found _ _ _ dot.first_is)
    (number_found _ _ _ _ _ _ week.first_is) (after_byte_found _ _ _ dot_again.first_is)
    (number_found _ _ _ _ _ _ weekday.first_is) weekday.then_is

pub day_found : (text : List ℕ) (x : DayForm × List ℕ) → day_at text ≡ Some x → Reads IsDay text x
unfolding day_at
day_found text x h = elim (chosen (begins 74 text) _ _ _ h) [
  | inl c ↦ julian_found text x c.0 c.1
  | inr c ↦ elim (chosen (begins 77 text) _ _ _ c.1) [
    | inl d ↦ week_found text x d.0 d.1
    | inr d ↦ year_day_found text x d.1
  ]
]
