use Rattle.std.proofs.Common.{◌≡◌, ◌≤◌, ◌-◌, length, take}
use Rattle.std.specs.Io.KnownBytes.{Appends}
use Rattle.td_base.specs.Views.{IsSameConn, source_of}
use Rattle.td_base.proofs.transfer.send_whole.Given as goal

abbrev pub invariant-pieces : goal.invariant-pieces
invariant-pieces g l = record {
  told : Appends (g.C.Conn.seen l.fn.conn).taken (g.C.Conn.seen l.conn).taken (take l.at l.bytes);
  steady : (g.C.Conn.seen l.conn).write_faults ≡ (g.C.Conn.seen l.fn.conn).write_faults;
  given : (g.C.Conn.seen l.conn).given ≡ (g.C.Conn.seen l.fn.conn).given;
  read : source_of (g.C.Conn.seen l.conn) ≡ source_of (g.C.Conn.seen l.fn.conn);
  same : IsSameConn (g.C.Conn.seen l.fn.conn) (g.C.Conn.seen l.conn);
  inside : l.at ≤ length l.bytes;
}

abbrev pub decreases-pieces : goal.decreases-pieces
decreases-pieces g l = length l.bytes - l.at
