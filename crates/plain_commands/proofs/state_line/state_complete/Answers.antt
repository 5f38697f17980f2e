use Rattle.std.proofs.Common.{◌≡◌, ℕ, List, Option, None, Some, subst}
use Rattle.std.specs.Prelude.{ℤ, IfSome}
use Rattle.td_base.specs.DoorViews.{DoorView}
use Rattle.td_base.specs.Upstreams.{UpstreamView}
use Rattle.td_base.specs.Views.{file_at}
use Rattle.zone_meaning.specs.Faults.{zone_fault}
use Rattle.zone_meaning.specs.declared.zone_fault.ZoneFault.{ZoneFault}
use Rattle.run_ends.specs.Completing.{IsComplete, NoneRose}
use Rattle.run_ends.specs.Outside.{World}
use Rattle.run_ends.specs.Running.StateLine.{ShowsState, ZoneIsGiven}
use Rattle.run_ends.specs.Running.StateLine as showing
use Rattle.run_ends.specs.declared.status.Status.{Status}
use Rattle.run_ends.proofs.lemmas.Completing.{memory, printed_done}
use Rattle.plain_commands.proofs.state_line.state_complete.Goals as goal

-- a file of a zone is there, and is one
same_file : (a b : List ℕ) (o : Option (List ℕ)) → o ≡ Some a → o ≡ Some b → a ≡ b
same_file a b o e is = cc

no_file : (a : List ℕ) (o : Option (List ℕ)) → o ≡ Some a → o ≡ None → ⊥
no_file a o e is = cc

no_fault : (f : ZoneFault) (o : Option ZoneFault) → o ≡ None → o ≡ Some f → ⊥
no_fault f o e is = cc

module _ (path : List ℕ) (m : ℤ) (before after : World) (doors : List DoorView) (up : Option UpstreamView) (none : NoneRose before after doors up)
    (k : ZoneIsGiven before.outside.store path) where
  ends_complete : (is : Status) → ShowsState path m before.outside after.outside is → IsComplete is
  ends_complete is (showing.state bytes end stands sound printed input) = printed_done _ before.outside.output after.outside.output is printed none.output
  ends_complete is (showing.no_zone bytes f end stands fault printed input) =
      let there : file_at k.files path ≡ Some bytes = subst (λ o. IfSome o (λ fs. file_at fs path ≡ Some bytes)) k.told stands in
      let same : k.bytes ≡ bytes = same_file k.bytes bytes (file_at k.files path) k.stands there in
      absurd (no_fault f (zone_fault bytes) (subst (λ l. zone_fault l ≡ None) same k.sound) fault)
  ends_complete is (showing.no_file end stands printed input) =
      absurd (no_file k.bytes (file_at k.files path) k.stands (subst (λ o. IfSome o (λ fs. file_at fs path ≡ None)) k.told stands))
  ends_complete is (showing.unread failed left) = absurd (none.store failed)
  ends_complete is (showing.out_of_memory left) = memory

pub returns : goal.returns
returns c = λ path m before after doors up is h none k. ends_complete path m before after doors up none k is h.0
