use Rattle.std.proofs.Common.{◌-◌, ◌∙◌, ◌++◌, ◌∷◌, [], length, ap, arith, rules}
use Rattle.std.proofs.lemmas.Grind.{common_steps}
use Rattle.ical_lines.specs.Lines.{folded, most_octets}
use Rattle.ical_lines.proofs.FoldLemmas.{full_line, all_fit}
use Rattle.ical_lines.proofs.folding.append_folded.Goals as goal

pub lines-smaller : goal.lines-smaller
lines-smaller c = omega arith

pub lines-preserved : goal.lines-preserved
lines-preserved c = record {
  so_far = λ rest.
      ap (λ o. o ++ folded (most_octets - 1) (c.split_at.result.1.now ++ rest))
      (c.in_ok-append-2.ensures.ok ∙ ap (λ o. o ++ 13 ∷ 10 ∷ 32 ∷ []) c.in_ok-append.ensures.ok)
      ∙ full_line _ _ _ _ _ _ c.lines.invariant.so_far _ _ (search rules) c.split_at.ensures.front c.split_at.ensures.back rest;
  kept = grind (arith, common_steps);
}

pub returns-clause-ok : goal.returns-clause-ok
returns-clause-ok c = λ rest.
    ap (λ o. o ++ folded (c.lines.room - length c.lines.left.now) rest) c.in_ok-append-3.ensures.ok
    ∙ all_fit _ _ _ _ _ _ c.lines.invariant.so_far (search rules) rest
