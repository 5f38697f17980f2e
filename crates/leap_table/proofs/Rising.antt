-- Lines that are steps, one after another.
use Rattle.std.specs.Ordering.{int_eq}
use Rattle.std.proofs.Common.{◌≡◌, ℕ, ◌+◌, ◌<◌, Bool, true, false, ◌&&◌, ◌||◌, ◌==◌, nat_lt, List, length, ℤ, pos, ◌+ℤ◌, ◌<ℤ◌, ◌≤ℤ◌, ◌⊎◌, inl, inr, ⊎_elim}
use Rattle.std.proofs.Common.{refl, sym, subst, ◌-◌, ◌≤◌, arith, FitsSigned, to_z, of_z, to_z-of_z, w32}
use Rattle.std.specs.Prelude.{int_lt}
use Rattle.std.proofs.lemmas.Bool.{and_parts}
use Rattle.std.proofs.lemmas.Bool.Decides.{Decides-int_eq, nat_tests}
use Rattle.std.proofs.lemmas.Int.{ints}
use Rattle.tzif_reader.specs.LeapSteps.{line_at, line_before, second_of, is_expiry, is_in_time, is_one_on, is_step}
use Rattle.tzif_reader.specs.declared.zone_file.LeapLine.{LeapLine}
use Rattle.tzif_reader.specs.declared.zone_file.TheConstants.{MOST_BYTES}
use Rattle.leap_table.specs.Steps.{HasRisen}

lt_from : (x y : ℤ) → int_lt x y ≡ true → x <ℤ y
lt_from x y h = grind (arith, ints)

eq_from : (x y : ℤ) → int_eq x y ≡ true → x ≡ y
eq_from x y h = (Decides-int_eq x y).0 h

some_one : (a b : Bool) → (a || b) ≡ true → (a ≡ true) ⊎ (b ≡ true)
some_one true b h = inl refl
some_one false b h = inr h

-- a line that is in time
pub record IsInTime (lines : List LeapLine) (i : ℕ) : Type 0 where
  pub later : (line_before lines i).at <ℤ (line_at lines i).at
  pub early : (line_at lines i).at <ℤ pos 253370764800

pub in_time : (lines : List LeapLine) (i : ℕ) → is_step lines i ≡ true → IsInTime lines i
unfolding is_step is_in_time
in_time lines i h =
    let both = and_parts (is_in_time lines i) (is_expiry lines i || is_one_on lines i) h in
    let times = and_parts (int_lt (line_before lines i).at (line_at lines i).at) (int_lt (line_at lines i).at (pos 253370764800)) both.0 in
    record { later = lt_from _ _ times.0; early = lt_from _ _ times.1 }

same_as_before : (lines : List LeapLine) (i : ℕ) → is_expiry lines i ≡ true → (line_at lines i).correction ≡ (line_before lines i).correction
unfolding is_expiry
same_as_before lines i e =
    eq_from _ _ (and_parts (nat_lt 0 i && (i + 1 == length lines)) (int_eq (line_at lines i).correction (line_before lines i).correction) e).1

-- its correction is that of the line before, or one second more
pub correction : (lines : List LeapLine) (i : ℕ) → is_step lines i ≡ true
    → ((line_at lines i).correction ≡ (line_before lines i).correction) ⊎ ((line_at lines i).correction ≡ (line_before lines i).correction +ℤ pos 1)
unfolding is_step is_one_on
correction lines i h =
    let both = and_parts (is_in_time lines i) (is_expiry lines i || is_one_on lines i) h in
    ⊎_elim
    (λ (e : is_expiry lines i ≡ true). inl (same_as_before lines i e))
    (λ (o : is_one_on lines i ≡ true). inr (eq_from _ _ o))
    (some_one (is_expiry lines i) (is_one_on lines i) both.1)

-- the line before the next
line_before_next : (lines : List LeapLine) (i : ℕ) → line_before lines (i + 1) ≡ line_at lines i
line_before_next lines i =
    let z : (i + 1 == 0) ≡ false = grind (arith, nat_tests) in
    let e : i + 1 - 1 ≡ i = omega arith in
    rw (z, e) refl

-- one more line has risen
risen_next : (lines : List LeapLine) (i : ℕ) → is_step lines i ≡ true → HasRisen (line_before lines i) i → HasRisen (line_at lines i) (i + 1)
risen_next lines i h risen =
    let time = in_time lines i h in
    let low : pos 0 ≤ℤ (line_before lines i).correction = risen.low in
    let high : (line_before lines i).correction ≤ℤ pos i = risen.high in
    let far : pos (63072000 + i) ≤ℤ (line_before lines i).at = risen.time in
    let later : (line_before lines i).at <ℤ (line_at lines i).at = time.later in
    ⊎_elim
    (λ (same : (line_at lines i).correction ≡ (line_before lines i).correction). record {
      low = omega (arith, ints);
      high = omega (arith, ints);
      time = omega (arith, ints);
    })
    (λ (more : (line_at lines i).correction ≡ (line_before lines i).correction +ℤ pos 1). record {
      low = omega (arith, ints);
      high = omega (arith, ints);
      time = omega (arith, ints);
    })
    (correction lines i h)

pub has_risen : (lines : List LeapLine) (i : ℕ) → is_step lines i ≡ true → HasRisen (line_before lines i) i
    → HasRisen (line_before lines (i + 1)) (i + 1)
has_risen lines i h risen = subst (λ (l : LeapLine). HasRisen l (i + 1)) (sym (line_before_next lines i)) (risen_next lines i h risen)

-- and its correction fits
pub few_seconds : (lines : List LeapLine) (i n : ℕ) (l : LeapLine) → l ≡ line_at lines i → is_step lines i ≡ true → HasRisen (line_before lines i) i
    → i < n → n ≤ MOST_BYTES → to_z w32 (of_z w32 l.correction) ≤ℤ pos MOST_BYTES
few_seconds lines i n l is h risen inside few =
    let next = risen_next lines i h risen in
    let low : pos 0 ≤ℤ (line_at lines i).correction = next.low in
    let high : (line_at lines i).correction ≤ℤ pos (i + 1) = next.high in
    let fits : FitsSigned w32 (line_at lines i).correction = omega (arith, ints) in
    rw (is, to_z-of_z fits) (omega (arith, ints))

-- the line that begins a table has none before it
pub none_risen : (lines : List LeapLine) → HasRisen (line_before lines 0) 0
none_risen lines = record { low = omega arith; high = omega arith; time = omega arith }

-- the second of a line is one that has passed since 1970, and has a meaning
pub record IsSecond (lines : List LeapLine) (i : ℕ) : Type 0 where
  pub at_low : pos 0 ≤ℤ (line_at lines i).at
  pub at_high : (line_at lines i).at <ℤ pos 253370764800
  pub low : pos 0 ≤ℤ second_of lines i
  pub high : second_of lines i <ℤ pos 253370764800

pub is_second : (lines : List LeapLine) (i : ℕ) → is_step lines i ≡ true → HasRisen (line_before lines i) i → IsSecond lines i
is_second lines i h risen =
    let time = in_time lines i h in
    let low : pos 0 ≤ℤ (line_before lines i).correction = risen.low in
    let high : (line_before lines i).correction ≤ℤ pos i = risen.high in
    let far : pos (63072000 + i) ≤ℤ (line_before lines i).at = risen.time in
    let later : (line_before lines i).at <ℤ (line_at lines i).at = time.later in
    let early : (line_at lines i).at <ℤ pos 253370764800 = time.early in
    record {
      at_low = omega (arith, ints);
      at_high = early;
      low = omega (arith, ints);
      high = omega (arith, ints);
    }
