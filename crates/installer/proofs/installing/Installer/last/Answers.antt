use Rattle.installer.proofs.installing.Installer.last.Goals as goal

pub returns-clause-stands : goal.returns-clause-stands
returns-clause-stands c = rw (← c.self.view_is) c.last.ensures.stands
