use Rattle.answer_laws.proofs.Listed.{tells_the_list}
use Rattle.answer_laws.proofs.lists.lists_tell_what_changed.Goals as goal

pub returns : goal.returns
returns c = tells_the_list c.list_reads_back.ensures.tree
