-- The first observance that only one of two states has begins where they first differ.
use Rattle.std.proofs.Common.{◌≡◌, ◌≢◌, ◌⊎◌, ℕ, zero, suc, ◌-◌, List, [], ◌∷◌, Option, None, Some, true, false, inl, inr, refl, sym, subst, ap, ◌∙◌, arith, ℤ, pos}
use Rattle.std.proofs.Common.{◌+ℤ◌, ◌-ℤ◌, ◌≤ℤ◌, ◌<ℤ◌, int_le, if◌then◌else◌, unsigned_abs}
use Rattle.std.proofs.Common.{Bool, ◌&&◌, IsTrue, true≢false}
use Rattle.std.specs.Bool.{beq}
use Rattle.std.specs.Ordering.{int_eq}
use Rattle.std.specs.Str.{bytes_eq}
use Rattle.std.proofs.lemmas.Bool.{cond_both, and_parts, and_from}
use Rattle.td_base.specs.declared.short_text.ShortText.{ShortText}
use Rattle.td_civil.proofs.lemmas.Spelled.{same_text, text_same}
use Rattle.std.proofs.lemmas.Int.{by_lt_z, ints}
use Rattle.jiff_core.proofs.SignedLemmas.{signed_arith, one_part}
use Rattle.td_civil.specs.declared.moment_type.Moment.{Moment}
use Rattle.td_civil.specs.declared.local_time.Local.{Local}
use Rattle.td_civil.specs.declared.local_time.Observance.{Observance}
use Rattle.td_civil.proofs.lemmas.SameStates.{same_local_of, local_other}
use Rattle.zone_meaning.specs.Difference.{onset_if_any, first_differing, first_difference, IsLeastDifference, IsFirstDifference}
use Rattle.zone_meaning.specs.Observed.{is_change, observance, change_at, first_at, changes_after, changes_between, observed}
use Rattle.zone_meaning.specs.RangeLaws.{AreRisingAfter, state_told}
use Rattle.zone_meaning.proofs.lemmas.RangeLemmas.{change_onset, first_onset, change_told, first_told, changes_rise, is_same, is_other}

abbrev pub first_of : List Observance → Option Observance
first_of [] = None
first_of (o ∷ os) = Some o

-- where the first observance that only one of two lists has begins
abbrev pub IsApart : List Observance → List Observance → Option Moment → Type 0
IsApart [] others r = r ≡ onset_if_any (first_of others)
IsApart (o ∷ os) [] r = r ≡ Some o.onset
IsApart (o ∷ os) (p ∷ ps) r =
    ((o ≡ p) × IsApart os ps r) ⊎ ((o ≢ p) × (r ≡ Some (if int_le o.onset.seconds p.onset.seconds then o.onset else p.onset)))

-- where one list begins before the other does
before_other : (m n : Moment) → m.seconds <ℤ n.seconds → (if int_le m.seconds n.seconds then m else n) ≡ m
before_other m n h = let yes : int_le m.seconds n.seconds ≡ true = grind (arith, ints) in rw yes refl

after_other : (m n : Moment) → n.seconds <ℤ m.seconds → (if int_le m.seconds n.seconds then m else n) ≡ n
after_other m n h = let no : int_le m.seconds n.seconds ≡ false = grind (arith, ints) in rw no refl

one_first : (o : Observance) (os ps : List Observance) (r : Option Moment) → AreRisingAfter o.onset.seconds ps → IsApart (o ∷ os) ps r → r ≡ Some o.onset
one_first o os [] r up is = is
one_first o os (p ∷ ps) r up (inl same) =
    let one : o.onset.seconds ≡ p.onset.seconds = ap (λ (x : Observance). x.onset.seconds) same.0 in
    let later = up.0 in
    absurd (omega (arith, signed_arith, one))
one_first o os (p ∷ ps) r up (inr other) = other.1 ∙ ap Some (before_other o.onset p.onset up.0)

other_first : (p : Observance) (os ps : List Observance) (r : Option Moment) → AreRisingAfter p.onset.seconds os → IsApart os (p ∷ ps) r → r ≡ Some p.onset
other_first p [] ps r up is = is
other_first p (o ∷ os) ps r up (inl same) =
    let one : o.onset.seconds ≡ p.onset.seconds = ap (λ (x : Observance). x.onset.seconds) same.0 in
    let later = up.0 in
    absurd (omega (arith, signed_arith, one))
other_first p (o ∷ os) ps r up (inr other) = other.1 ∙ ap Some (after_other o.onset p.onset up.0)

either : (m n : Moment) → m ≡ n → (if int_le m.seconds n.seconds then m else n) ≡ n
either m n e = cond_both (int_le m.seconds n.seconds) m n (λ k. k ≡ n) (λ yes. e) (λ no. refl)

-- the moment from which on they are looked at
more : (one two : ℤ → Local) (t next b : ℤ) (r : Option Moment) → next ≡ t +ℤ pos 1 → one t ≡ two t → IsFirstDifference one two next b r
    → IsFirstDifference one two t b r
more one two t next b None e same alike = λ v low high.
    by_lt_z t v (λ later. alike v (omega (arith, signed_arith, e)) high)
    (λ now. let is : t ≡ v = omega (arith, signed_arith) in subst (λ (k : ℤ). one k ≡ two k) is same)
more one two t next b (Some m) e same least =
    let from = least.from in
    record {
      from = omega (arith, signed_arith, e);
      before_end = least.before_end;
      differ = least.differ;
      alike_before = λ v low high.
          by_lt_z t v (λ later. least.alike_before v (omega (arith, signed_arith, e)) high)
          (λ now. let is : t ≡ v = omega (arith, signed_arith) in subst (λ (k : ℤ). one k ≡ two k) is same);
    }

here : (one two : ℤ → Local) (t b : ℤ) (m : Moment) (r : Option Moment) → t <ℤ b → m.seconds ≡ t → one t ≢ two t → r ≡ Some m → IsFirstDifference one two t b r
here one two t b m r lt at other is =
    let found : IsLeastDifference one two t b m.seconds = record {
      from = omega (arith, signed_arith, at);
      before_end = omega (arith, signed_arith, at);
      differ = subst (λ (k : ℤ). one k ≢ two k) (sym at) other;
      alike_before = λ v low high. absurd (omega (arith, signed_arith, at));
    } in
    subst (λ (k : Option Moment). IsFirstDifference one two t b k) (sym is) found

same_change : (one two : ℤ → Local) (t : ℤ) → one (t -ℤ pos 1) ≡ two (t -ℤ pos 1) → one t ≡ two t → change_at one t ≡ change_at two t
unfolding change_at
same_change one two t before now =
    ap (λ (s : Local). observance t s.offset (one t)) before ∙ ap (λ (s : Local). observance t (two (t -ℤ pos 1)).offset s) now

same_first : (one two : ℤ → Local) (t : ℤ) → one t ≡ two t → first_at one t ≡ first_at two t
unfolding first_at
same_first one two t now = ap (λ (s : Local). observance t s.offset s) now

same_onset : (one two : ℤ → Local) (t : ℤ) → (change_at one t).onset ≡ (change_at two t).onset
unfolding change_at
same_onset one two t = refl

same_begin : (one two : ℤ → Local) (t : ℤ) → (first_at one t).onset ≡ (first_at two t).onset
unfolding first_at
same_begin one two t = refl

rises_beside : (one two : ℤ → Local) (t : ℤ) (n : ℕ) → AreRisingAfter (change_at one t).onset.seconds (changes_after two t n)
rises_beside one two t n = subst (λ (k : ℤ). AreRisingAfter k (changes_after two t n)) (sym (change_onset one t)) (changes_rise two n t)

-- the lists of two states that agree at t
pub apart_after : (one two : ℤ → Local) (n : ℕ) (t b : ℤ) (r : Option Moment) → b ≡ t +ℤ pos (suc n) → one t ≡ two t
    → IsApart (changes_after one t n) (changes_after two t n) r → IsFirstDifference one two (t +ℤ pos 1) b r
unfolding changes_after
apart_after one two zero t b r end same is =
    subst (λ (k : Option Moment). IsFirstDifference one two (t +ℤ pos 1) b k) (sym is) (λ v low high. absurd (omega (arith, signed_arith, end)))
apart_after one two (suc n) t b r end same is =
    let next = t +ℤ pos 1 in
    let ones = changes_after one next n in
    let twos = changes_after two next n in
    let back : next -ℤ pos 1 ≡ t = omega (arith, signed_arith) in
    let before : one (next -ℤ pos 1) ≡ two (next -ℤ pos 1) = subst (λ (k : ℤ). one k ≡ two k) (sym back) same in
    let end_next : b ≡ next +ℤ pos (suc n) = omega (arith, signed_arith, end) in
    let inside : next <ℤ b = omega (arith, signed_arith, end) in
    let Goal : Type 0 = IsFirstDifference one two next b r in
    cond_both (is_change one next) (change_at one next ∷ ones) ones (λ xs. IsApart xs (if is_change two next then change_at two next ∷ twos else twos) r → Goal)
    (λ yes. cond_both (is_change two next) (change_at two next ∷ twos) twos (λ ys. IsApart (change_at one next ∷ ones) ys r → Goal)
    (λ also apart. elim apart [
      | inl both ↦
          let now : one next ≡ two next = sym (change_told one next) ∙ ap state_told both.0 ∙ change_told two next in
          more one two next (next +ℤ pos 1) b r refl now (apart_after one two n next b r end_next now both.1)
      | inr differ ↦
          here one two next b (change_at two next).onset r inside (change_onset two next)
          (λ now. differ.0 (same_change one two next before now)) (differ.1 ∙ ap Some (either (change_at one next).onset (change_at two next).onset (same_onset one two next)))
    ])
    (λ no apart.
    let stays = is_same two next no in
    let first = one_first (change_at one next) ones twos r (rises_beside one two next n) apart in
    here one two next b (change_at one next).onset r inside (change_onset one next)
    (λ now. is_other one next yes (now ∙ stays ∙ sym before)) first))
    (λ no. cond_both (is_change two next) (change_at two next ∷ twos) twos (λ ys. IsApart ones ys r → Goal)
    (λ yes apart.
    let stays = is_same one next no in
    let first = other_first (change_at two next) ones twos r (rises_beside two one next n) apart in
    here one two next b (change_at two next).onset r inside (change_onset two next)
    (λ now. is_other two next yes (sym now ∙ stays ∙ before)) first)
    (λ also apart.
    let now : one next ≡ two next = is_same one next no ∙ before ∙ sym (is_same two next also) in
    more one two next (next +ℤ pos 1) b r refl now (apart_after one two n next b r end_next now apart)))
    is

apart_by : (one two : ℤ → Local) (n : ℕ) (a b : ℤ) (r : Option Moment) → b ≡ a +ℤ pos (suc n)
    → IsApart (first_at one a ∷ changes_after one a n) (first_at two a ∷ changes_after two a n) r → IsFirstDifference one two a b r
apart_by one two n a b r end (inl both) =
    let now : one a ≡ two a = sym (first_told one a) ∙ ap state_told both.0 ∙ first_told two a in
    more one two a (a +ℤ pos 1) b r refl now (apart_after one two n a b r end now both.1)
apart_by one two n a b r end (inr differ) =
    here one two a b (first_at two a).onset r (omega (arith, signed_arith, end)) (first_onset two a) (λ now. differ.0 (same_first one two a now))
    (differ.1 ∙ ap Some (either (first_at one a).onset (first_at two a).onset (same_begin one two a)))

-- so it is for the observances of a range
pub apart_is : (one two : ℤ → Local) (a b : ℤ) (r : Option Moment) → a <ℤ b → IsApart (observed one a b) (observed two a b) r → IsFirstDifference one two a b r
unfolding observed changes_between
apart_is one two a b r lt is =
    apart_by one two (unsigned_abs (b -ℤ a) - 1) a b r (omega (arith, signed_arith, one_part (b -ℤ a))) is

abbrev moment : ℤ → Moment
moment k = record { seconds = k }

-- the least moment of a difference is the first second at which the states differ
first_second : (one two : ℤ → Local) (n : ℕ) (a b : ℤ) (r : Option Moment) → b ≡ a +ℤ pos n → IsFirstDifference one two a b r → r ≡ first_differing one two a n
unfolding first_differing
first_second one two zero a b None end is = refl
first_second one two zero a b (Some m) end is = let from = is.from in let before = is.before_end in absurd (omega (arith, signed_arith, end))
first_second one two (suc n) a b None end is =
    rw (same_local_of (one a) (two a) (is a (omega (arith, signed_arith)) (omega (arith, signed_arith, end))))
    (first_second one two n (a +ℤ pos 1) b None (omega (arith, signed_arith, end)) (λ v low high. is v (omega (arith, signed_arith)) high))
first_second one two (suc n) a b (Some m) end is =
    let from = is.from in
    by_lt_z a m.seconds
    (λ later.
    let least : IsLeastDifference one two (a +ℤ pos 1) b m.seconds = record {
      from = omega (arith, signed_arith);
      before_end = is.before_end;
      differ = is.differ;
      alike_before = λ v low high. is.alike_before v (omega (arith, signed_arith)) high;
    } in
    rw (same_local_of (one a) (two a) (is.alike_before a (omega (arith, signed_arith)) later))
    (first_second one two n (a +ℤ pos 1) b (Some m) (omega (arith, signed_arith, end)) least))
    (λ now.
    let at : a ≡ m.seconds = omega (arith, signed_arith) in
    let other : one a ≢ two a = subst (λ (k : ℤ). one k ≢ two k) (sym at) is.differ in
    rw (local_other (one a) (two a) other) (ap (λ k. Some (moment k)) (sym at)))

pub first_is : (one two : ℤ → Local) (a b : ℤ) (r : Option Moment) → a ≤ℤ b → IsFirstDifference one two a b r → r ≡ first_difference one two a b
unfolding first_difference
first_is one two a b r le is = let part = one_part (b -ℤ a) in first_second one two (unsigned_abs (b -ℤ a)) a b r (omega (arith, signed_arith, part)) is

-- ---- as the code has it

abbrev made : ℤ → ℤ → ℤ → Bool → ShortText 32 → Observance
made onset from to dst name = record { onset = record { seconds = onset }; from = from; to = to; dst = dst; name = name }

made_same : (a b c d e f : ℤ) (x y : Bool) (n m : ShortText 32) → a ≡ b → c ≡ d → e ≡ f → x ≡ y → n ≡ m → made a c e x n ≡ made b d f y m
made_same a b c d e f x y n m onset from to dst name =
    ap (λ k. made k c e x n) onset ∙ ap (λ k. made b k e x n) from ∙ ap (λ k. made b d k x n) to ∙ ap (λ k. made b d f k n) dst
    ∙ ap (λ k. made b d f y k) name

abbrev pub same_parts : Observance → Observance → Bool
same_parts x y =
    int_eq x.onset.seconds y.onset.seconds && (int_eq x.from y.from && (int_eq x.to y.to && (beq x.dst y.dst && bytes_eq x.name y.name)))

same_number : (a b : ℤ) → int_eq a b ≡ true → a ≡ b
same_number a b e = grind (arith, ints)

number_same : (a : ℤ) → int_eq a a ≡ true
number_same a = grind (arith, ints)

same_flag : (x y : Bool) → beq x y ≡ true → x ≡ y
same_flag true true e = refl
same_flag true false e = sym e
same_flag false true e = e
same_flag false false e = refl

flag_same : (x : Bool) → beq x x ≡ true
flag_same true = refl
flag_same false = refl

parts_same : (x y : Observance) → same_parts x y ≡ true → x ≡ y
parts_same x y e =
    let one = and_parts (int_eq x.onset.seconds y.onset.seconds)
    (int_eq x.from y.from && (int_eq x.to y.to && (beq x.dst y.dst && bytes_eq x.name y.name))) e in
    let two = and_parts (int_eq x.from y.from) (int_eq x.to y.to && (beq x.dst y.dst && bytes_eq x.name y.name)) one.1 in
    let three = and_parts (int_eq x.to y.to) (beq x.dst y.dst && bytes_eq x.name y.name) two.1 in
    let four = and_parts (beq x.dst y.dst) (bytes_eq x.name y.name) three.1 in
    made_same x.onset.seconds y.onset.seconds x.from y.from x.to y.to x.dst y.dst x.name y.name (same_number _ _ one.0) (same_number _ _ two.0)
    (same_number _ _ three.0) (same_flag x.dst y.dst four.0) (same_text x.name y.name four.1)

parts_itself : (x : Observance) → same_parts x x ≡ true
parts_itself x =
    and_from (int_eq x.onset.seconds x.onset.seconds) (int_eq x.from x.from && (int_eq x.to x.to && (beq x.dst x.dst && bytes_eq x.name x.name)))
    (number_same x.onset.seconds)
    (and_from (int_eq x.from x.from) (int_eq x.to x.to && (beq x.dst x.dst && bytes_eq x.name x.name)) (number_same x.from)
    (and_from (int_eq x.to x.to) (beq x.dst x.dst && bytes_eq x.name x.name) (number_same x.to)
    (and_from (beq x.dst x.dst) (bytes_eq x.name x.name) (flag_same x.dst) (text_same x.name x.name refl))))

-- two observances are one where all parts are
pub same_observance : (x y : Observance) (b : Bool) → b ≡ same_parts x y → (b ≡ true → x ≡ y) × (x ≡ y → b ≡ true)
same_observance x y b is =
    (λ e. parts_same x y (sym is ∙ e), λ e. is ∙ subst (λ (z : Observance). same_parts x z ≡ true) e (parts_itself x))

-- one list has another observance, and the other none
pub apart_none : (ones twos rest left : List Observance) (o : Observance) → ones ≡ o ∷ rest → twos ≡ left → left ≡ [] → IsApart ones twos (Some o.onset)
apart_none ones twos rest left o one two none = rw (one, two, none) refl

-- or a different one
pub apart_other : (ones twos rest left : List Observance) (o p : Observance) (so : Bool) (m : Moment) → ones ≡ o ∷ rest → twos ≡ p ∷ left
    → (IsTrue so → o ≡ p) × (o ≡ p → IsTrue so) → so ≡ false → m ≡ (if int_le o.onset.seconds p.onset.seconds then o.onset else p.onset)
    → IsApart ones twos (Some m)
apart_other ones twos rest left o p so m one two test unlike is =
    let other : o ≢ p = λ e. true≢false (sym (test.1 e) ∙ unlike) in
    rw (one, two) (inr (other, ap Some is))
