use Rattle.std.proofs.Common.{◌≡◌, List, ◌++◌, drop, Some}
use Rattle.json.specs.Value.{items_view}
use Rattle.release_manifest.specs.declared.manifest_fault.Path.TheVariants as path
use Rattle.release_manifest.specs.Checks.{first_failing, text_checks, each_checks}
use Rattle.release_manifest.specs.Meaning.{AllAre, IsText}
use Rattle.release_manifest.proofs.zone_members.read_each_alias.Given as goal

abbrev pub invariant-loop-number : goal.invariant-loop-number
invariant-loop-number l = record {
  is : (rest : List _) → AllAre IsText (items_view (drop l.number l.list)) rest → AllAre IsText (items_view l.list) (l.aliases ++ rest);
  judged : first_failing (each_checks (λ n alias. text_checks (path.Alias l.zone n) (Some alias)) 0 (items_view l.list)) ≡ first_failing
      (each_checks (λ n alias. text_checks (path.Alias l.zone n) (Some alias)) l.number (items_view (drop l.number l.list)));
}
