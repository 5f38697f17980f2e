use Rattle.negotiate.specs.declared.choosing.Format.TheVariants.{Calendar, Tzif}
use Rattle.sync_laws.proofs.Cutting.{replies_taken_whole}
use Rattle.sync_laws.proofs.ReplySizes.{calendars_small, files_small}
use Rattle.sync_laws.proofs.cuts.only_whole_replies_are_taken.Goals as goal

pub returns-clause-files : goal.returns-clause-files
returns-clause-files c = replies_taken_whole Tzif (files_small c.answers_are_heard.ensures)

pub returns-clause-calendars : goal.returns-clause-calendars
returns-clause-calendars c = replies_taken_whole Calendar (calendars_small c.calendars_are_read.ensures)
