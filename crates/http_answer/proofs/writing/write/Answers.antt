use Rattle.http_answer.proofs.Keeping.{cut_back}
use Rattle.http_answer.proofs.writing.write.Goals as goal

pub returns-in-Err-clause-err : goal.returns-in-Err-clause-err
returns-in-Err-clause-err c = rw (c.truncate.ensures, c.len-before.ensures) (cut_back c.args.out.now c.put_reply.new.out c.put_reply.ensures.kept)
