-- The bounds of a request are those that its parameters give.
use Rattle.std.proofs.Common.{◌≡◌, ◌≢◌, ℕ, List, Bool, true, false, Option, None, Some, Result, Ok, Err, refl, sym, ap, subst, ◌∙◌, arith}
use Rattle.std.specs.Prelude.{ℤ, ◌≤ℤ◌, ◌<ℤ◌, int_le, int_lt, option_map, option_and_then}
use Rattle.std.specs.Bool.{then_some}
use Rattle.std.proofs.lemmas.Bool.{and_parts}
use Rattle.std.proofs.lemmas.Int.{ints}
use Rattle.td_civil.specs.Bounds.{HasMeaning, has_meaning}
use Rattle.td_civil.specs.Reading.{moment_in}
use Rattle.td_civil.specs.Stamp.{Spells}
use Rattle.td_civil.specs.declared.moment_type.Moment.{Moment}
use Rattle.td_civil.specs.declared.moment_type.TheConstants.{LO, HI}
use Rattle.td_civil.proofs.lemmas.Spelled.{found_spells}
use Rattle.json_forms.specs.declared.problem_type.Problem.{Problem}
use Rattle.json_forms.specs.declared.problem_type.Problem.TheVariants as problem
use Rattle.target.specs.declared.asked_types.Param.{Param}
use Rattle.target.specs.declared.asked_types.Param.TheVariants as param
use Rattle.actions.specs.Bounds.{AreBounds, begin_of, bounds_in, end_bound, end_if_any, finish_of, start_bound, with_end, with_start}
use Rattle.actions.specs.Moments.{end_of, is_end, moment_given, moment_where, start_of}
use Rattle.actions.specs.declared.bounds.Bound.{Bound}
use Rattle.actions.specs.declared.bounds.Bound.TheVariants.{Open, At}
use Rattle.actions.specs.declared.bounds.Bounds.{Bounds}
use Rattle.actions.specs.declared.bounds.BoundRule.{BoundRule}
use Rattle.actions.specs.declared.bounds.BoundRule.TheVariants as rule
use Rattle.vtimezone.specs.Ranges.{IsAmong, IsBeforeEnd, IsEndOf, end_in, seconds_if_any}
use Rattle.recurrence.specs.declared.part_types.Range.{Range}
use Rattle.answer_laws.specs.Requested.{IsBegin, IsFinish, IsBetween}

-- ---- tests

to_le : (x y : ℤ) → int_le x y ≡ true → x ≤ℤ y
to_le x y h = grind (arith, ints)

to_lt : (x y : ℤ) → int_lt x y ≡ true → x <ℤ y
to_lt x y h = grind (arith, ints)

-- a moment that is given and passes a test
record IsGiven (test : ℤ → Bool) (o : Option ℤ) (b : Bound) : Type 0 where
  moment : ℤ
  given : o ≡ Some moment
  passes : test moment ≡ true
  bound : b ≡ At (record { seconds = moment })

abbrev at_moment : Option ℤ → Option Bound
at_moment o = option_map (λ m. At (record { seconds = m })) o

tested : (test : ℤ → Bool) (m : ℤ) (t : Bool) (b : Bound) → test m ≡ t → at_moment (then_some t m) ≡ Some b → IsGiven test (Some m) b
tested test m true b is e = let same : At (record { seconds = m }) ≡ b = cc in record { moment = m; given = refl; passes = is; bound = sym same }
tested test m false b is e = absurd cc

given : (test : ℤ → Bool) (o : Option ℤ) (b : Bound) → at_moment (moment_where test o) ≡ Some b → IsGiven test o b
given test None b e = absurd cc
given test (Some m) b e = tested test m (test m) b refl e

-- ---- where a range begins

pub starts : (p : Param) (b : Bound) → start_bound rule.Optional p ≡ Some b → IsBegin p (begin_of b)
unfolding start_bound start_of
starts param.Absent b e = let same : Open ≡ b = cc in subst (λ (x : Bound). (begin_of x).seconds ≡ LO) same refl
starts (param.Once text) b e =
    let g = given has_meaning (moment_in text) b e in
    let both = and_parts (int_le LO g.moment) (int_lt g.moment HI) g.passes in
    subst (λ (x : Bound). IsBegin (param.Once text) (begin_of x)) (sym g.bound)
    (found_spells text g.moment g.given, to_le LO g.moment both.0, to_lt g.moment HI both.1)
starts param.Repeated b e = let g = given has_meaning None b e in absurd (let no = g.given in cc)

pub starts_given : (p : Param) (b : Bound) → start_bound rule.Required p ≡ Some b → IsBegin p (begin_of b)
unfolding start_bound start_of
starts_given param.Absent b e = absurd cc
starts_given (param.Once text) b e =
    let g = given has_meaning (moment_in text) b e in
    let both = and_parts (int_le LO g.moment) (int_lt g.moment HI) g.passes in
    subst (λ (x : Bound). IsBegin (param.Once text) (begin_of x)) (sym g.bound)
    (found_spells text g.moment g.given, to_le LO g.moment both.0, to_lt g.moment HI both.1)
starts_given param.Repeated b e = let g = given has_meaning None b e in absurd (let no = g.given in cc)

-- ---- where it ends

pub finishes : (s : Bound) (p : Param) (b : Bound) → end_bound rule.Optional s p ≡ Some b → IsFinish (begin_of s) p (end_if_any b)
unfolding end_bound end_of
finishes s param.Absent b e = let same : Open ≡ b = cc in subst (λ (x : Bound). IsFinish (begin_of s) param.Absent (end_if_any x)) same tt
finishes s (param.Once text) b e =
    let g = given (is_end (begin_of s).seconds) (moment_in text) b e in
    let both = and_parts (int_lt (begin_of s).seconds g.moment) (int_le g.moment HI) g.passes in
    subst (λ (x : Bound). IsFinish (begin_of s) (param.Once text) (end_if_any x)) (sym g.bound)
    (found_spells text g.moment g.given, to_lt (begin_of s).seconds g.moment both.0, to_le g.moment HI both.1)
finishes s param.Repeated b e = let g = given (is_end (begin_of s).seconds) None b e in absurd (let no = g.given in cc)

pub finishes_given : (s : Bound) (p : Param) (b : Bound) → end_bound rule.Required s p ≡ Some b → IsFinish (begin_of s) p (Some (finish_of b))
unfolding end_bound end_of
finishes_given s param.Absent b e = absurd cc
finishes_given s (param.Once text) b e =
    let g = given (is_end (begin_of s).seconds) (moment_in text) b e in
    let both = and_parts (int_lt (begin_of s).seconds g.moment) (int_le g.moment HI) g.passes in
    subst (λ (x : Bound). IsFinish (begin_of s) (param.Once text) (Some (finish_of x))) (sym g.bound)
    (found_spells text g.moment g.given, to_lt (begin_of s).seconds g.moment both.0, to_le g.moment HI both.1)
finishes_given s param.Repeated b e = let g = given (is_end (begin_of s).seconds) None b e in absurd (let no = g.given in cc)

pub finish_after : (from : Moment) (p : Param) (until : Moment) → IsFinish from p (Some until) → from.seconds <ℤ until.seconds
finish_after from param.Absent until is = absurd is
finish_after from (param.Once text) until is = is.1
finish_after from param.Repeated until is = absurd is

pub finish_high : (from : Moment) (p : Param) (until : Moment) → IsFinish from p (Some until) → until.seconds ≤ℤ HI
finish_high from param.Absent until is = absurd is
finish_high from (param.Once text) until is = is.2
finish_high from param.Repeated until is = absurd is

-- ---- both

pub record HasBounds (r : BoundRule) (start end : Param) (bounds : Bounds) : Type 0 where
  pub start_is : start_bound r start ≡ Some bounds.start
  pub end_is : end_bound r bounds.start end ≡ Some bounds.end

ended : (r : BoundRule) (start end : Param) (s : Bound) (o : Option Bound) (bounds : Bounds) → start_bound r start ≡ Some s → end_bound r s end ≡ o
    → with_end s o ≡ Ok bounds → HasBounds r start end bounds
ended r start end s None bounds is ends e = absurd cc
ended r start end s (Some b) bounds is ends e =
    let made : Bounds = record { start = s; end = b } in
    let same : made ≡ bounds = cc in
    subst (HasBounds r start end) same (record { start_is = is; end_is = ends })

begun : (r : BoundRule) (start end : Param) (o : Option Bound) (bounds : Bounds) → start_bound r start ≡ o → with_start r o end ≡ Ok bounds
    → HasBounds r start end bounds
begun r start end None bounds is e = absurd cc
begun r start end (Some s) bounds is e = ended r start end s (end_bound r s end) bounds is refl e

pub bounds_are : (r : BoundRule) (start end : Param) (bounds : Bounds) → bounds_in r start end ≡ Ok bounds → HasBounds r start end bounds
unfolding bounds_in
bounds_are r start end bounds e = begun r start end (start_bound r start) bounds refl e

-- ---- what is known of a range

pub begin_meant : (p : Param) (from : Moment) → IsBegin p from → HasMeaning from.seconds
begin_meant param.Absent from is = (omega (arith, ints, is), omega (arith, ints, is))
begin_meant (param.Once text) from is = (is.1, is.2)
begin_meant param.Repeated from is = absurd is

pub finish_ends : (from : Moment) (p : Param) (until : Option Moment) → IsFinish from p until → IsEndOf from.seconds (seconds_if_any until)
finish_ends from param.Absent None is = tt
finish_ends from param.Absent (Some m) is = absurd is
finish_ends from (param.Once text) None is = absurd is
finish_ends from (param.Once text) (Some m) is = (is.1, is.2)
finish_ends from param.Repeated None is = absurd is
finish_ends from param.Repeated (Some m) is = absurd is

before_end : (until : Option Moment) (t : ℤ) → ((end : Moment) → until ≡ Some end → t <ℤ end.seconds) → IsBeforeEnd (seconds_if_any until) t
before_end None t before = tt
before_end (Some m) t before = before m refl

pub between_among : (from : Moment) (until : Option Moment) (t : ℤ) → HasMeaning from.seconds → IsBetween from until t
    → IsAmong from.seconds (seconds_if_any until) t
between_among from until t meant is =
    let low = meant.0 in
    let later = is.begun in
    record { from = is.begun; before = before_end until t is.before; meant = (omega (arith, ints), is.meant) }
