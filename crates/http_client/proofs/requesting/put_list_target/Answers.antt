use Rattle.std.proofs.Common.{sym}
use Rattle.http_client.proofs.requesting.put_list_target.Goals as goal

pub returns-in-Some : goal.returns-in-Some
returns-in-Some c = rw (c.in-Some.is, sym c.as_slice.ensures) c.put_named.ensures

pub returns-in-None : goal.returns-in-None
returns-in-None c = rw c.in-None.is c.append.ensures.ok
