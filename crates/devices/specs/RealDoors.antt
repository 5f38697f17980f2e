-- What contracts see of a real connection and a real door: how often they failed, and what a door
-- answered last.
use Rattle.std.specs.Prelude.{None}
use Rattle.devices.specs.declared.real_conn.RealConn.{RealConn}
use Rattle.devices.specs.declared.real_door.RealDoor.{RealDoor}
use Rattle.td_base.specs.DoorViews.{DoorView}
use Rattle.td_base.specs.Views.{ConnView}

module _ {S R : Type 0} where
  abbrev pub conn_view : RealConn S R → ConnView
  conn_view c = record {
    given = None;
    left = None;
    taken = None;
    read_faults = c.read_faults;
    write_faults = c.write_faults;
    source = 0;
    sink = 0;
  }

module _ {R : Type 0} where
  abbrev pub door_view : RealDoor R → DoorView
  door_view d = record { content = None; last = d.last; faults = d.faults }
