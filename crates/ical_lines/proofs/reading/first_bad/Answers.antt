use Rattle.std.proofs.Common.{◌≡◌, ◌<◌, length, take, drop, ap, ◌∙◌, sym, rules}
use Rattle.ical_lines.specs.Unfolding.{is_whole}
use Rattle.ical_lines.proofs.LineLemmas.{refused_at, next_place, none_refused}
use Rattle.ical_lines.proofs.reading.first_bad.Goals as goal

pub returns-then-not-is_whole : goal.returns-then-not-is_whole
returns-then-not-is_whole c =
    let left = c.lines.left.now in
    let more : 0 < length left = search rules in
    let first_is = c.split_at.ensures.front ∙ ap (λ n. take n left) c.first_line_len.ensures.len in
    let rest_is = c.split_at.ensures.back ∙ ap (λ n. drop n left) c.first_line_len.ensures.len in
    refused_at c.args.text.now left _ _ more first_is rest_is c.lines.invariant.places (search rules)

pub lines-preserved : goal.lines-preserved
lines-preserved c =
    let left = c.lines.left.now in
    let more : 0 < length left = search rules in
    let first_is = c.split_at.ensures.front ∙ ap (λ n. take n left) c.first_line_len.ensures.len in
    let rest_is = c.split_at.ensures.back ∙ ap (λ n. drop n left) c.first_line_len.ensures.len in
    record {
      inside = search rules;
      places = next_place c.args.text.now left _ _ more first_is rest_is c.lines.invariant.places c.lines.invariant.inside (search rules);
    }

pub returns : goal.returns
returns c = none_refused c.args.text.now c.lines.left.now _ (search rules) c.lines.invariant.places
