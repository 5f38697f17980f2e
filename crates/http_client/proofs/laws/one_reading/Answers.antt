use Rattle.http_client.proofs.lemmas.Readings.{one_reading}
use Rattle.http_client.proofs.laws.one_reading.Goals as goal

pub returns : goal.returns
returns c = one_reading
