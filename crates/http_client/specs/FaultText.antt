-- How the fault of a reply is printed: number, name and place, with a space between them.
use Rattle.std.specs.Prelude.{ℕ, List, ◌++◌, codes, decimal}
use Rattle.http_client.specs.declared.reply.BadReply.{BadReply}
use Rattle.http_client.specs.declared.reply.BadReply.TheVariants as bad

abbrev pub fault_text : BadReply → List ℕ
fault_text bad.NoMemory = codes "0 NoMemory"
fault_text (bad.BadReply place) = codes "1 BadReply " ++ decimal place
