-- The observances of a range have their onsets in it.
use Rattle.std.proofs.Common.{◌≡◌, ℕ, zero, suc, ◌-◌, Bool, true, false, cond, Option, None, Some, List, [], ◌∷◌, length, refl, sym, subst, arith, ℤ, pos, ◌+ℤ◌, ◌-ℤ◌, ◌≤ℤ◌, ◌<ℤ◌}
use Rattle.std.proofs.Common.{int_lt, unsigned_abs}
use Rattle.std.specs.Int.{int_max, int_min}
use Rattle.std.specs.List.{AllByRecursion, flat_map}
use Rattle.std.specs.Option.{IfSome}
use Rattle.std.proofs.lemmas.Int.{int_max_is, int_min_is, ints}
use Rattle.jiff_core.proofs.SignedLemmas.{signed_arith, one_part}
use Rattle.td_civil.specs.declared.local_time.Local.{Local}
use Rattle.td_civil.specs.declared.local_time.Observance.{Observance}
use Rattle.td_civil.specs.declared.moment_type.Moment.{Moment}
use Rattle.vtimezone_reader.specs.Observing.{calendar_observed}
use Rattle.vtimezone_reader.specs.declared.calendar_type.Calendar.{Calendar}
use Rattle.zone_meaning.specs.Observed.{change_at, changes_after, changes_between, first_at, is_change, observed}
use Rattle.run_laws.specs.Onsets.{IsOnsetWithin, PrintsWithin}
use Rattle.run_laws.specs.Runs.{CalendarTells, end_within, observance_line}

lower : (a b : ℤ) → int_lt a b ≡ true → a <ℤ b
lower a b h = grind (arith, ints)

record IsIn (a b : ℤ) (o : Observance) : Type 0 where
  from : a ≤ℤ o.onset.seconds
  before : o.onset.seconds <ℤ b

after_in : (state : ℤ → Local) (n : ℕ) (a b t : ℤ) → a ≤ℤ t → (t +ℤ pos n) <ℤ b → AllByRecursion (IsIn a b) (changes_after state t n)
unfolding changes_after change_at
after_in state zero a b t low high = tt
after_in state (suc n) a b t low high =
    by (is_change state (t +ℤ pos 1)) (after_in state n a b (t +ℤ pos 1) (omega (arith, signed_arith, low)) (omega (arith, signed_arith, high)))
  where
    by : (c : Bool) → AllByRecursion (IsIn a b) (changes_after state (t +ℤ pos 1) n)
        → AllByRecursion (IsIn a b) (cond c (change_at state (t +ℤ pos 1) ∷ changes_after state (t +ℤ pos 1) n) (changes_after state (t +ℤ pos 1) n))
    by true rest = (record { from = omega (arith, signed_arith, low); before = omega (arith, signed_arith, high) }, rest)
    by false rest = rest

observed_in : (state : ℤ → Local) (a b : ℤ) → a <ℤ b → AllByRecursion (IsIn a b) (observed state a b)
unfolding observed first_at changes_between
observed_in state a b range =
    let n = unsigned_abs (b -ℤ a) - 1 in
    let is = one_part (b -ℤ a) in (
      record { from = omega (arith, signed_arith); before = range },
      after_in state n a b a (omega (arith, signed_arith)) (omega (arith, signed_arith, is, range)),
    )

-- an onset in the range that is printed is in that which was asked for
in_asked : (calendar : Calendar) (start end first : ℤ) (o : Observance) → IsIn (int_max start first) (end_within calendar.until end) o
    → IsOnsetWithin calendar start end o
in_asked calendar start end first o is = by calendar.until refl
  where
    low : start ≤ℤ o.onset.seconds
    low = let from = is.from in omega (arith, signed_arith, int_max_is start first, from)

    by : (until : Option Moment) → calendar.until ≡ until → IsOnsetWithin calendar start end o
    by None none =
        let before : o.onset.seconds <ℤ end = subst (λ u. o.onset.seconds <ℤ end_within u end) none is.before in record {
          from = low;
          before = before;
          ends = subst (λ (u : Option Moment). IfSome u (λ m. o.onset.seconds <ℤ m.seconds)) (sym none) tt;
        }
    by (Some until) some =
        let before : o.onset.seconds <ℤ int_min end until.seconds = subst (λ u. o.onset.seconds <ℤ end_within u end) some is.before in record {
          from = low;
          before = omega (arith, signed_arith, int_min_is end until.seconds, before);
          ends = subst (λ (u : Option Moment). IfSome u (λ m. o.onset.seconds <ℤ m.seconds)) (sym some)
              (omega (arith, signed_arith, int_min_is end until.seconds, before));
        }

all_asked : (calendar : Calendar) (start end first : ℤ) (os : List Observance)
    → AllByRecursion (IsIn (int_max start first) (end_within calendar.until end)) os → AllByRecursion (IsOnsetWithin calendar start end) os
all_asked calendar start end first [] all = tt
all_asked calendar start end first (o ∷ os) all = (in_asked calendar start end first o all.0, all_asked calendar start end first os all.1)

pub prints_within : (calendar : Calendar) (start end : ℤ) (lines : List ℕ) → CalendarTells calendar start end lines → PrintsWithin calendar start end lines
prints_within calendar start end lines k =
    let a = int_max start k.first in
    let b = end_within calendar.until end in
    by (int_lt a b) refl k.lines_are
  where
    by : (c : Bool) → int_lt (int_max start k.first) (end_within calendar.until end) ≡ c
        → lines ≡ cond c (flat_map observance_line (calendar_observed calendar.parts (int_max start k.first) (end_within calendar.until end))) []
        → PrintsWithin calendar start end lines
    by true range e =
        record {
          shown = calendar_observed calendar.parts (int_max start k.first) (end_within calendar.until end);
          lines_are = e;
          within = all_asked calendar start end k.first _ (observed_in _ _ _ (lower _ _ range));
        }
    by false empty e = record { shown = []; lines_are = e; within = tt }
