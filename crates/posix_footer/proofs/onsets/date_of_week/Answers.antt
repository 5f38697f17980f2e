use Rattle.std.proofs.Common.{◌≡◌, ◌∙◌, rules, arith, w8, FitsSigned, to_z, of_z, to_z-of_z}
use Rattle.jiff_core.proofs.SignedLemmas.{signed_casts}
use Rattle.posix_footer.proofs.lemmas.OnsetLemmas.{nth_weekday_is, place_in_range, IsPlaceOf}
use Rattle.posix_footer.proofs.onsets.date_of_week.Goals as goal

pub returns-in-Ok : goal.returns-in-Ok
returns-in-Ok c =
    let fits : FitsSigned w8 c.place_in_month.result = search rules in
    let same = to_z-of_z fits in
    let place : IsPlaceOf c.args.week (to_z w8 (of_z w8 c.place_in_month.result)) = record {
      before = λ lt. same ∙ c.place_in_month.ensures.before lt;
      last = λ five. same ∙ c.place_in_month.ensures.last five;
    } in
    let month : c.date-first.result.month ≡ c.args.month = omega (arith, signed_casts) in
    nth_weekday_is c.date-first.result c.in-Ok.day c.weekday_of.result _ c.args.week c.args.weekday c.args.year c.args.month c.in-Ok.ensures.value place
    c.requires.day_in.2 c.requires.day_in.3 c.weekday_of.ensures (c.date-first.ensures.0 ∙ to_z-of_z c.ranges.year) month

pub returns-in-Err : goal.returns-in-Err
returns-in-Err c =
    let fits : FitsSigned w8 c.place_in_month.result = search rules in
    let same = to_z-of_z fits in
    let place : IsPlaceOf c.args.week (to_z w8 (of_z w8 c.place_in_month.result)) = record {
      before = λ lt. same ∙ c.place_in_month.ensures.before lt;
      last = λ five. same ∙ c.place_in_month.ensures.last five;
    } in
    let no = c.in-Err.ensures.four (place_in_range c.args.week _ place c.requires.day_in.2 c.requires.day_in.3) in
    cc
