-- The first onset after a moment is the earlier of those of the two edges, and until it the state
-- stays.
use Rattle.std.proofs.Common.{◌≡◌, sym, subst, Option, None, Some, arith, ℤ, pos, ◌+ℤ◌, ◌≤ℤ◌, ◌<ℤ◌, int_le, to_z, of_z, to_z-of_z, w32, FitsSigned}
use Rattle.std.proofs.lemmas.Bool.{cond_both}
use Rattle.std.proofs.lemmas.Int.{by_lt_z, ints}
use Rattle.jiff_core.specs.Calendar.{IsBetween}
use Rattle.jiff_core.proofs.SignedLemmas.{signed_arith}
use Rattle.td_civil.specs.declared.moment_type.Moment.{Moment}
use Rattle.posix_footer.specs.declared.rule_types.Edge.{Edge}
use Rattle.posix_footer.specs.declared.rule_types.Edge.TheVariants as edge
use Rattle.posix_footer.specs.declared.rule_types.DstRule.{DstRule}
use Rattle.posix_footer.specs.Lawful.{IsLawfulRule}
use Rattle.posix_footer.specs.Onset.{onset_of}
use Rattle.std.specs.Option.{option_map, IfSome}
use Rattle.posix_footer.specs.declared.ahead.YearOnset.{YearOnset}
use Rattle.posix_footer.specs.NextOnset.{IsNextOnset, NoneAfter, IsNext, IsNextOf, IsNextIfAny, IsQuietIfAny, ComesAfter, earlier}
use Rattle.posix_footer.specs.NextOnset.{IsYearOnset, IsFirstYear, IsFirstYearIfAny}
use Rattle.posix_footer.proofs.lemmas.StateLemmas.{onset_rises, year_of}

-- an onset after the moment, where each of an earlier year is not, is the first of its edge
pub next_is : (rule : DstRule) (std y t m : ℤ) (at : Edge) → IsLawfulRule std rule → IsBetween (pos 1798) (pos 9999) y → m ≡ onset_of rule std y at → t <ℤ m
    → ((other : ℤ) → IsBetween (pos 1798) (pos 9999) other → other <ℤ y → onset_of rule std other at ≤ℤ t)
    → IsNextOf rule std at t m
next_is rule std y t m at h year is after early = record {
  year = y;
  year_in = year;
  onset_is = is;
  after = after;
  least = λ other there late. by_lt_z other y
      (λ lt. let begun = early other there lt in absurd (omega (arith, signed_arith)))
      (λ le. by_lt_z y other
      (λ gt. let rises = onset_rises rule std y other at h (year_of y year) (year_of other there) gt in omega (arith, signed_arith))
      (λ ge. let same : other ≡ y = omega (arith, signed_arith) in rw same (omega (arith, signed_arith, is))));
}

-- which is that of the first year whose onset is after the moment
pub first_year_next : (rule : DstRule) (std t : ℤ) (at : Edge) (o : Option YearOnset) → IsLawfulRule std rule → IsFirstYearIfAny rule std at t o
    → IsNextIfAny rule std at t (option_map (λ (x : YearOnset). x.at) o)
first_year_next rule std t at None h is = is
first_year_next rule std t at (Some o) h is = next_is rule std o.year t o.at.seconds at h is.onset.year_in is.onset.onset_is is.after is.before

-- an onset at the offset that was passed
pub passed_onset : (rule : DstRule) (std : ℤ) (at : Edge) (o : YearOnset) → FitsSigned w32 std → IsYearOnset rule (to_z w32 (of_z w32 std)) at o
    → IsYearOnset rule std at o
passed_onset rule std at o fits is =
    let P : ℤ → Type 0 = λ k. IsYearOnset rule k at o in
    subst P (to_z-of_z fits) is

-- with the onset of a year those of all earlier years have come
pub none_later : (rule : DstRule) (std : ℤ) (at : Edge) (come : YearOnset) (other : ℤ) → IsLawfulRule std rule → IsYearOnset rule std at come
    → IsBetween (pos 1798) (pos 9999) other → other ≤ℤ come.year → onset_of rule std other at ≤ℤ come.at.seconds
none_later rule std at come other h was there le =
    by_lt_z other come.year
    (λ lt.
    let rises = onset_rises rule std other come.year at h (year_of other there) (year_of come.year was.year_in) lt in
    omega (arith, signed_arith, was.onset_is))
    (λ ge. let same : other ≡ come.year = omega (arith, signed_arith) in rw same (omega (arith, signed_arith, was.onset_is)))

-- and the first after it is that of the next year
pub next_year : (rule : DstRule) (std : ℤ) (at : Edge) (come o : YearOnset) → IsLawfulRule std rule → IsYearOnset rule std at come
    → IsYearOnset rule std at o → o.year ≡ come.year +ℤ pos 1 → IsFirstYear rule std at come.at.seconds o
next_year rule std at come o h was is next = record {
  onset = is;
  after =
      let rises = onset_rises rule std come.year o.year at h (year_of come.year was.year_in) (year_of o.year is.year_in) (omega (arith, signed_arith, next)) in
      omega (arith, signed_arith, was.onset_is, is.onset_is);
  before = λ other there lt. none_later rule std at come other h was there (omega (arith, signed_arith, next));
}

-- no onset ahead comes before the first of both edges
pub nearest : (rule : DstRule) (std t m : ℤ) (at : Edge) (o : Option YearOnset) → IsFirstYearIfAny rule std at t o → IsNextOnset rule std t m
    → IfSome o (λ (x : YearOnset). m ≤ℤ x.at.seconds)
nearest rule std t m at None is next = tt
nearest rule std t m at (Some o) is next =
    let P : ℤ → Type 0 = λ k. m ≤ℤ k in
    let Q : ℤ → Type 0 = λ k. t <ℤ k in
    subst P (sym is.onset.onset_is) (next.least o.year at is.onset.year_in (subst Q is.onset.onset_is is.after))

-- where the other edge has none before it, the first of an edge is the first of all
start_first : (rule : DstRule) (std t m : ℤ) → IsNextOf rule std edge.Start t m
    → ((other : ℤ) → IsBetween (pos 1798) (pos 9999) other → t <ℤ onset_of rule std other edge.End → m ≤ℤ onset_of rule std other edge.End)
    → IsNextOnset rule std t m
start_first rule std t m is ends = record {
  year = is.year;
  edge = edge.Start;
  year_in = is.year_in;
  onset_is = is.onset_is;
  after = is.after;
  least = λ other at. elim at as (λ a. IsBetween (pos 1798) (pos 9999) other → t <ℤ onset_of rule std other a → m ≤ℤ onset_of rule std other a) [
    | edge.Start ↦ is.least other
    | edge.End ↦ ends other
  ];
}

end_first : (rule : DstRule) (std t m : ℤ) → IsNextOf rule std edge.End t m
    → ((other : ℤ) → IsBetween (pos 1798) (pos 9999) other → t <ℤ onset_of rule std other edge.Start → m ≤ℤ onset_of rule std other edge.Start)
    → IsNextOnset rule std t m
end_first rule std t m is starts = record {
  year = is.year;
  edge = edge.End;
  year_in = is.year_in;
  onset_is = is.onset_is;
  after = is.after;
  least = λ other at. elim at as (λ a. IsBetween (pos 1798) (pos 9999) other → t <ℤ onset_of rule std other a → m ≤ℤ onset_of rule std other a) [
    | edge.Start ↦ starts other
    | edge.End ↦ is.least other
  ];
}

none_of : (rule : DstRule) (std t : ℤ) → IsNextIfAny rule std edge.Start t None → IsNextIfAny rule std edge.End t None → NoneAfter rule std t
none_of rule std t starts ends year at = elim at as (λ a. IsBetween (pos 1798) (pos 9999) year → onset_of rule std year a ≤ℤ t) [
  | edge.Start ↦ starts year
  | edge.End ↦ ends year
]

pub first_of_edges : (rule : DstRule) (std t : ℤ) (start end : Option Moment) → IsNextIfAny rule std edge.Start t start
    → IsNextIfAny rule std edge.End t end → IsNext (Some rule) std t (earlier start end)
first_of_edges rule std t None None starts ends = none_of rule std t starts ends
first_of_edges rule std t None (Some n) starts ends =
    end_first rule std t n.seconds ends (λ other there late. let begun = starts other there in absurd (omega (arith, signed_arith)))
first_of_edges rule std t (Some m) None starts ends =
    start_first rule std t m.seconds starts (λ other there late. let begun = ends other there in absurd (omega (arith, signed_arith)))
first_of_edges rule std t (Some m) (Some n) starts ends =
    cond_both (int_le m.seconds n.seconds) m n (λ k. IsNextOnset rule std t k.seconds)
    (λ le. start_first rule std t m.seconds starts (λ other there late. let least = ends.least other there late in omega (arith, ints)))
    (λ gt. end_first rule std t n.seconds ends (λ other there late. let least = starts.least other there late in omega (arith, ints)))

-- up to the next onset none comes
pub quiet_until : (rule : Option DstRule) (std t u : ℤ) (next : Option Moment) → IsNext rule std t next → ComesAfter next u → IsQuietIfAny rule std t u
quiet_until None std t u next is after = tt
quiet_until (Some rule) std t u None is after = λ year at there begun. is year at there
quiet_until (Some rule) std t u (Some m) is after = λ year at there begun. by_lt_z t (onset_of rule std year at)
    (λ late. let least = is.least year at there late in absurd (omega (arith, signed_arith)))
    (λ le. le)

-- the next onset comes after the moment
pub next_later : (rule : Option DstRule) (std t : ℤ) (m : Moment) → IsNext rule std t (Some m) → t <ℤ m.seconds
next_later None std t m is = absurd (cc (is))
next_later (Some rule) std t m is = is.after
