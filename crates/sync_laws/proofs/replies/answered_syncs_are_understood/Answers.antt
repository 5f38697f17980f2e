use Rattle.std.proofs.Common.{◌++◌}
use Rattle.mirror.specs.Understanding.{Means}
use Rattle.mirror_world.specs.Runs.{all_taken}
use Rattle.calendar_mirror.specs.Judging.{MeansSound}
use Rattle.sync_laws.proofs.WholeAnswers.{calendars_whole, files_whole}
use Rattle.sync_laws.proofs.replies.answered_syncs_are_understood.Goals as goal

pub returns-clause-files : goal.returns-clause-files
returns-clause-files c = λ H steps w host shares s t taken untaken result history some logs syncs ends answered.
    c.syncs_are_understood.ensures H steps w host shares s t taken untaken result history some logs syncs ends
    (files_whole c.replies_fit.ensures.files Means H steps (all_taken shares ++ taken) w history some logs untaken answered)

pub returns-clause-calendars : goal.returns-clause-calendars
returns-clause-calendars c = λ H steps w host t taken untaken result history some logs ends answered.
    c.syncs_are_understood-2.ensures H steps w host t taken untaken result history some logs ends
    (calendars_whole c.replies_fit.ensures.calendars MeansSound H steps taken w history some logs untaken answered)
