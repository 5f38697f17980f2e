use Rattle.std.proofs.Common.{◌≡◌, ◌<◌, ◌++◌, ◌∷◌, length, take, drop, map, sym, ap, ◌∙◌, rules}
use Rattle.ical_lines.specs.Unfolding.{cut_lines, content}
use Rattle.ical_lines.specs.LineLengths.{joined_with}
use Rattle.ical_lines.proofs.LineLemmas.{next_contents, all_joined}
use Rattle.ical_lines.proofs.reading.joined.Goals as goal

pub lines-preserved : goal.lines-preserved
lines-preserved c =
    let left = c.lines.left.now in
    let more : 0 < length left = search rules in
    let first_is = c.split_at.ensures.front ∙ ap (λ n. take n left) c.first_line_len.ensures.len in
    let rest_is = c.split_at.ensures.back ∙ ap (λ n. drop n left) c.first_line_len.ensures.len in
    let rest = map content (cut_lines c.split_at.result.1.now) in
    c.in_ok-add_line.ensures rest
    ∙ ap (λ l. c.lines.lines ++ joined_with c.lines.begun (l ∷ rest)) c.content_of.ensures
    ∙ ap (λ ls. c.lines.lines ++ joined_with c.lines.begun ls) (next_contents c.args.text.now left _ _ more first_is rest_is)
    ∙ c.lines.invariant

pub returns : goal.returns
returns c = c.in_ok-lines.ensures ∙ all_joined c.args.text.now c.lines.left.now c.lines.lines c.lines.begun (search rules) c.lines.invariant
