use Rattle.catalogue.proofs.lemmas.DigitTexts.{token_form, token_is, token_plain}
use Rattle.catalogue.proofs.laws.tokens_are_plain.Goals as goal

pub returns-clause-form : goal.returns-clause-form
returns-clause-form c = token_form

pub returns-clause-plain : goal.returns-clause-plain
returns-clause-plain c = token_plain

pub returns-clause-token : goal.returns-clause-token
returns-clause-token c = token_is
