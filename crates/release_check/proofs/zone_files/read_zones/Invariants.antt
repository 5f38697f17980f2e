use Rattle.std.proofs.Common.{IfSome, map, take}
use Rattle.td_base.specs.Views.{LaterStore}
use Rattle.catalogue.specs.Releases.{content_data}
use Rattle.release_check.specs.Found.{AreOf}
use Rattle.release_check.proofs.Contents.{SoFar}
use Rattle.release_check.proofs.zone_files.read_zones.Given as goal

abbrev pub invariant-loop-number : goal.invariant-loop-number
invariant-loop-number g l = record {
  told : IfSome (g.S.Store.seen l.fn.store).files (λ files. SoFar files l.dir l.zones l.contents l.number);
  later : LaterStore (g.S.Store.seen l.fn.store) (g.S.Store.seen l.store);
  of : AreOf (take l.number l.zones) (map (content_data (λ b. b)) l.contents);
}
