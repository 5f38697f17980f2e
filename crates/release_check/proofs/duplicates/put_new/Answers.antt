use Rattle.std.proofs.Common.{◌∙◌, ap, not}
use Rattle.release_check.proofs.Repeats.{is_kept, kept_more}
use Rattle.release_check.proofs.duplicates.put_new.Goals as goal

pub returns-clause-none : goal.returns-clause-none
returns-clause-none c = c.in_ok-new.ensures.added ∙ ap not (is_kept (λ n. n.now) c.args.before.now.keys c.args.name.now)

pub returns-clause-put : goal.returns-clause-put
returns-clause-put c = λ text.
    kept_more (λ n. n.now) c.args.before.now.keys c.insert.new.self.keys c.args.name.now text
    (c.in_ok-new.ensures.updates.0 (record { ref_ptr = c.args.name.ref_ptr; now = text }))
