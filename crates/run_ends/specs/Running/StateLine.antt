-- How `at` ends. The state is a function of the bytes of a file: `one_zone_file` of tzif_reader
-- ties what a file has to its layout, and the clause `rules` of zone_meaning's `at` ties the state
-- to the rules of RFC 9636.
use Rattle.std.specs.Prelude.{◌≡◌, ℕ, ℤ, List, None, Some, IfSome, ◌++◌, codes, if◌then◌else◌}
use Rattle.std.specs.Fmt.{signed_decimal}
use Rattle.td_base.specs.Views.{File, StoreFailed, StoreView, file_at}
use Rattle.td_civil.specs.declared.local_time.Local.{Local}
use Rattle.zone_meaning.specs.Faults.{zone_fault}
use Rattle.zone_meaning.specs.FaultText.{fault_text}
use Rattle.zone_meaning.specs.State.{zone_state}
use Rattle.zone_meaning.specs.declared.zone_fault.ZoneFault.{ZoneFault}
use Rattle.run_ends.specs.Outside.{LeavesStreams, Outside}
use Rattle.run_ends.specs.Printing.{Printed, refused_line}
use Rattle.run_ends.specs.declared.status.Status.{Status}
use Rattle.run_ends.specs.declared.status.Status.TheVariants as status

-- the state of local time: OFFSET std NAME, or OFFSET dst NAME
abbrev pub state_line : Local → List ℕ
state_line l =
    signed_decimal l.offset
    ++ ((if l.dst then codes " dst " else codes " std ") ++ (l.name ++ codes "\n"))

-- what is said of the file is said where the store tells its files; the input is left alone
pub data ShowsState (path : List ℕ) (m : ℤ) (before after : Outside) : Status → Type 0 where
  state : (bytes : List ℕ) (end : Status)
      → IfSome before.store.files (λ fs. file_at fs path ≡ Some bytes) → zone_fault bytes ≡ None
      → Printed status.Done (state_line (zone_state bytes m)) before.output after.output end
      → after.input ≡ before.input → ShowsState path m before after end
  no_zone : (bytes : List ℕ) (f : ZoneFault) (end : Status)
      → IfSome before.store.files (λ fs. file_at fs path ≡ Some bytes) → zone_fault bytes ≡ Some f
      → Printed status.Refused (refused_line (fault_text f)) before.output after.output end
      → after.input ≡ before.input → ShowsState path m before after end
  no_file : (end : Status) → IfSome before.store.files (λ fs. file_at fs path ≡ None)
      → Printed status.Refused (refused_line (codes "8 Absent " ++ path))
      before.output after.output end
      → after.input ≡ before.input → ShowsState path m before after end
  unread : StoreFailed before.store after.store → LeavesStreams before after
      → ShowsState path m before after status.NotRead
  out_of_memory : LeavesStreams before after → ShowsState path m before after status.NoMemory

-- a file of a store that tells its files is that of a zone
pub record ZoneIsGiven (store : StoreView) (path : List ℕ) : Type 0 where
  pub files : List File
  pub told : store.files ≡ Some files
  pub bytes : List ℕ
  pub stands : file_at files path ≡ Some bytes
  pub sound : zone_fault bytes ≡ None
