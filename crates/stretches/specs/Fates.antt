-- What becomes of a connection that was handed back.
use Rattle.std.specs.Prelude.{Bool, true, false}
use Rattle.td_base.specs.declared.report.End.{End}
use Rattle.td_base.specs.declared.report.End.TheVariants as end
use Rattle.stretches.specs.declared.fate.Fate.{Fate}
use Rattle.stretches.specs.declared.fate.Fate.TheVariants as fate

-- It goes on only where it closed because its last read was told that the stretch ends, while the
-- peer may still send: a server that was told so reads and writes nothing more, and one that closes
-- for a cause of its own was not told. Where a read or a write failed, nothing more reaches the
-- peer.
abbrev pub fate_of : End → (stretch_ended peer_ended : Bool) → Fate
fate_of end.Closed true false = fate.GoesOn
fate_of end.Closed true true = fate.Leaves
fate_of end.Closed false peer_ended = fate.Leaves
fate_of end.NoMemory stretch_ended peer_ended = fate.Leaves
fate_of end.ReadFault stretch_ended peer_ended = fate.Breaks
fate_of end.WriteFault stretch_ended peer_ended = fate.Breaks
