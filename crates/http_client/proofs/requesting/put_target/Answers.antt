use Rattle.std.proofs.Common.{sym}
use Rattle.http_client.specs.Requests.{target_of}
use Rattle.http_client.proofs.requesting.put_target.Goals as goal

pub returns-in-List : goal.returns-in-List
unfolding target_of
returns-in-List c = rw c.in-List.is c.put_list_target.ensures

pub returns-in-Get : goal.returns-in-Get
unfolding target_of
returns-in-Get c = rw (c.in-Get.is, sym c.as_slice.ensures) c.put_named.ensures
