use Rattle.negotiate.specs.declared.choosing.Format.TheVariants.{Calendar, Tzif}
use Rattle.sync_laws.proofs.Meeting.{halves_meet}
use Rattle.sync_laws.proofs.connections.connections_answer_mirrors.Goals as goal

pub returns-clause-files : goal.returns-clause-files
returns-clause-files c =
    halves_meet Tzif c.replies_fit.ensures.files c.only_whole_replies_are_taken.ensures.files c.refusals_are_not_taken.ensures c.one_step.ensures
    c.gives.ensures.feed c.prefixes.ensures

pub returns-clause-calendars : goal.returns-clause-calendars
returns-clause-calendars c =
    halves_meet Calendar c.replies_fit.ensures.calendars c.only_whole_replies_are_taken.ensures.calendars c.refusals_are_not_taken.ensures c.one_step.ensures
    c.gives.ensures.feed c.prefixes.ensures
