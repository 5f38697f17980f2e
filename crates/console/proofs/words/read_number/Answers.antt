use Rattle.std.proofs.Common.{rules, sym}
use Rattle.console.proofs.NumberLemmas.{no_number, other_number, some_number}
use Rattle.console.proofs.words.read_number.Goals as goal

pub returns-in-Some-clause-value : goal.returns-in-Some-clause-value
returns-in-Some-clause-value c =
    sym (some_number c.args.least c.args.most c.args.word.now c.in-Some.number c.requires c.in-Some.ensures.some (search rules) (search rules))

pub returns-in_default-clause-value : goal.returns-in_default-clause-value
returns-in_default-clause-value c =
    sym (other_number c.args.least c.args.most c.args.word.now c.in-Some.number c.requires (search rules) c.in-Some.ensures.some (λ least most. search rules))

pub returns-in_default-2-clause-value : goal.returns-in_default-2-clause-value
returns-in_default-2-clause-value c =
    sym (other_number c.args.least c.args.most c.args.word.now c.in-Some.number c.requires (search rules) c.in-Some.ensures.some (λ least most. search rules))

pub returns-in_default-3-clause-value : goal.returns-in_default-3-clause-value
returns-in_default-3-clause-value c = sym (no_number c.args.least c.args.most c.args.word.now c.requires (search rules))
