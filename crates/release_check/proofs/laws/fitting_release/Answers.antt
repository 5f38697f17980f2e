use Rattle.std.proofs.Common.{refl}
use Rattle.release_check.proofs.Folders.{sound_folder, following_folder}
use Rattle.release_check.proofs.laws.fitting_release.Goals as goal

pub returns-clause-sound : goal.returns-clause-sound
returns-clause-sound c = λ files dir before r gives. sound_folder files dir before r _ refl gives

pub returns-clause-follows : goal.returns-clause-follows
returns-clause-follows c = λ files dir before r gives. following_folder files dir before r _ refl gives
