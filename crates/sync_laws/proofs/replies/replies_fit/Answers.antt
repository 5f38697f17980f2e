use Rattle.negotiate.specs.declared.choosing.Format.TheVariants.{Calendar, Tzif}
use Rattle.sync_laws.proofs.ReplySizes.{calendars_small, files_small, replies_short}
use Rattle.sync_laws.proofs.replies.replies_fit.Goals as goal

pub returns-clause-files : goal.returns-clause-files
returns-clause-files c = replies_short Tzif (files_small c.answers_are_heard.ensures)

pub returns-clause-calendars : goal.returns-clause-calendars
returns-clause-calendars c = replies_short Calendar (calendars_small c.calendars_are_read.ensures)
