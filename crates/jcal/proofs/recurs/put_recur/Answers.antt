use Rattle.jcal.proofs.TreeTokens.{recur_written}
use Rattle.jcal.proofs.recurs.put_recur.Goals as goal

pub returns-clause-tokens : goal.returns-clause-tokens
returns-clause-tokens c =
    recur_written c.args.form c.args.until _ _ _ _ _ _ _
    c.in_ok-begin_object.ensures.ok c.in_ok-put_form.ensures.tokens c.in_ok-key.ensures.ok c.in_ok-string.ensures.ok
    c.in_ok-put_last.ensures.tokens c.in_ok-end_object.ensures.ok
