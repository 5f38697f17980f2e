use Rattle.catalogue.proofs.holding.Catalogue.count.Goals as goal

pub returns-clause-count : goal.returns-clause-count
returns-clause-count g c = λ H s. s.places.0
