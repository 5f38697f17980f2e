use Rattle.std.proofs.Common.{◌≡◌, List, ◌++◌, drop}
use Rattle.json.specs.Value.{items_view}
use Rattle.release_manifest.specs.Checks.{first_failing, zone_checks, each_checks}
use Rattle.release_manifest.specs.Meaning.{AllAre, IsZone}
use Rattle.release_manifest.proofs.zone_members.read_each_zone.Given as goal

abbrev pub invariant-loop-number : goal.invariant-loop-number
invariant-loop-number l = record {
  is : (rest : List _) → AllAre IsZone (items_view (drop l.number l.list)) rest → AllAre IsZone (items_view l.list) (l.zones ++ rest);
  judged : first_failing (each_checks zone_checks 0 (items_view l.list)) ≡ first_failing (each_checks zone_checks l.number (items_view (drop l.number l.list)));
}
