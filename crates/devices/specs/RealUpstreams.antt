-- What contracts see of a real upstream: how often it failed.
use Rattle.std.specs.Prelude.{None}
use Rattle.devices.specs.declared.real_upstream.RealUpstream.{RealUpstream}
use Rattle.td_base.specs.Upstreams.{UpstreamView}

module _ {R : Type 0} where
  abbrev pub upstream_view : RealUpstream R → UpstreamView
  upstream_view u = record { told = None; faults = u.faults }
