use Rattle.actions.proofs.Offered.{all_are_offered, unnamed_changes_nothing}
use Rattle.actions.proofs.laws.unnamed_format_changes_no_answer.Goals as goal

pub returns-clause-all : goal.returns-clause-all
returns-clause-all c = all_are_offered

pub returns-clause-unnamed : goal.returns-clause-unnamed
returns-clause-unnamed c = unnamed_changes_nothing
