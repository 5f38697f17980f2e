use Rattle.std.proofs.Common.{sym}
use Rattle.json_forms.proofs.lemmas.JsonLemmas.{value_read, value_refused}
use Rattle.json_forms.proofs.json_reader.read_value.Goals as goal

pub returns-in-Ok : goal.returns-in-Ok
returns-in-Ok c = sym (value_read _ _ c.in-Ok.ensures.ok.0 c.in-Ok.ensures.ok.1)

pub returns-in_ok-check_memory-in-Err : goal.returns-in_ok-check_memory-in-Err
returns-in_ok-check_memory-in-Err c = sym (value_refused _ (c.in-Err.ensures.err c.in_ok-check_memory-in-Err.ensures.ok))
