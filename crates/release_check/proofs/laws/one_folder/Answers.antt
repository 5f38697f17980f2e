use Rattle.release_check.proofs.OneFolder.{one_result, some_result}
use Rattle.release_check.proofs.laws.one_folder.Goals as goal

pub returns-clause-some : goal.returns-clause-some
returns-clause-some c =
    some_result (record { found = c.one_reading.ensures.found; sound = c.one_reading.ensures.sound; one = c.one_reading.ensures.one })

pub returns-clause-one : goal.returns-clause-one
returns-clause-one c =
    one_result (record { found = c.one_reading.ensures.found; sound = c.one_reading.ensures.sound; one = c.one_reading.ensures.one })
