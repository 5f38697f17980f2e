-- From what a call does to the end of a run.
use Rattle.std.proofs.Common.{◌≡◌, ℕ, List, [], ◌++◌, Option, None, Some, IfSome, Ok, Err, inl, inr}
use Rattle.std.proofs.Common.{refl, sym, subst}
use Rattle.std.specs.Prelude.{ℤ, codes}
use Rattle.admission.specs.declared.rules.Chosen.{Chosen}
use Rattle.td_base.specs.Views.{StoreFailed, File, file_at, LaterStore, LaterSink, SinkView, SourceView, StoreView}
use Rattle.td_base.specs.Outside.{FileTells, Looks}
use Rattle.td_base.specs.declared.outside.FileRead.TheVariants as looked
use Rattle.td_base.specs.declared.transfer.Written.TheVariants as written
use Rattle.td_base.proofs.lemmas.LaterLemmas.{source_refl, sink_refl, looks_later, prints_later, writes_all_later}
use Rattle.catalogue.specs.Releases.{ReleaseData}
use Rattle.catalogue.specs.declared.holding.Catalogue.{Catalogue}
use Rattle.installer.specs.FaultText.{fault_text}
use Rattle.catalogue.specs.Holdings.{history_of}
use Rattle.installer.specs.declared.install_fault.InstallFault.{InstallFault}
use Rattle.installer.specs.declared.install_fault.InstallFault.TheVariants as install
use Rattle.release_check.specs.declared.check_fault.CheckFault.TheVariants as fault
use Rattle.zone_meaning.specs.FaultText.{fault_text as zone_text}
use Rattle.zone_meaning.specs.Faults.{zone_fault}
use Rattle.zone_meaning.specs.State.{zone_state}
use Rattle.zone_meaning.specs.declared.zone_fault.ZoneFault.{ZoneFault}
use Rattle.run_ends.specs.Running.Answering.{Answers, nothing, served}
use Rattle.run_ends.specs.Opening.{InstallsAll}
use Rattle.run_ends.specs.Outside.{Later, LeavesStreams, Outside, outside}
use Rattle.run_ends.specs.Printing.{Printed, refused_line}
use Rattle.run_ends.specs.Folders.{ServesNothing, StopsAtFault, out_of_memory, refused, unread}
use Rattle.run_ends.specs.Running.StateLine.{ShowsState, no_file, no_zone, state, state_line}
use Rattle.run_ends.specs.Running.StateLine.{out_of_memory as out_of_memory_shown, unread as unread_shown}
use Rattle.run_ends.specs.Tells.{ServesLast, Tells, TellsRefused, RefusesInstall, Shows, ShowsBy}
use Rattle.run_ends.specs.declared.status.Status.{Status}
use Rattle.run_ends.specs.declared.status.Status.TheVariants as status
use Rattle.run_ends.proofs.ZonesShown.{IsOfPrefix, of_prefix}

-- a run ended so, and nothing else was done to the outside than calls do
pub record EndsLater (ends_so : Outside → Outside → Status → Type 0) (before after : Outside) (end : Status) : Type 0 where
  pub ends : ends_so before after end
  pub later : Later before after

-- where a text was printed, the output was only written
pub printed_later : (called end : Status) (text : List ℕ) (old new : SinkView) → Printed called text old new end → LaterSink old new
printed_later status.Done status.Done text old new h = writes_all_later old new text written.Whole h
printed_later status.Done status.NotWritten text old new h = writes_all_later old new text written.Cut h
printed_later status.Usage status.Usage text old new h = prints_later old new text h
printed_later status.Refused status.Refused text old new h = prints_later old new text h
printed_later status.NotSynced status.NotSynced text old new h = prints_later old new text h
printed_later called end text old new h = absurd h

-- an object that was left alone
pub left_sink : (old new : SinkView) → new ≡ old → LaterSink old new
left_sink old new e = subst (λ (v : SinkView). LaterSink old v) (sym e) (sink_refl old)

-- the input was left alone
abbrev later_by : (s t : StoreView) (i : SourceView) (old new : SinkView) → LaterStore s t → LaterSink old new → Later (outside s i old) (outside t i new)
later_by s t i old new store output = record { store = store; input = source_refl i; output = output }

-- nothing was printed
ends_silent : (ends_so : Outside → Outside → Status → Type 0) (is : Status) (s t : StoreView) (i : SourceView) (old new : SinkView) (end : Status)
    → LaterStore s t → (LeavesStreams (outside s i old) (outside t i new) → ends_so (outside s i old) (outside t i new) is)
    → end ≡ is → new ≡ old → EndsLater ends_so (outside s i old) (outside t i new) end
ends_silent ends_so is s t i old new end store row same e =
    subst (λ (x : Status). EndsLater ends_so (outside s i old) (outside t i new) x) (sym same) (record {
      ends = row (refl, e);
      later = later_by s t i old new store (left_sink old new e);
    })

-- a text was printed
pub ends_printed : (ends_so : Outside → Outside → Status → Type 0) (s t : StoreView) (i : SourceView) (old new : SinkView) (called : Status) (text : List ℕ)
    (end : Status) → LaterStore s t → ends_so (outside s i old) (outside t i new) end → Printed called text old new end
    → EndsLater ends_so (outside s i old) (outside t i new) end
ends_printed ends_so s t i old new called text end store row h = record {
  ends = row;
  later = later_by s t i old new store (printed_later called end text old new h);
}

-- or memory ran out before
ends_told : (ends_so : Outside → Outside → Status → Type 0) (s t : StoreView) (i : SourceView) (old new : SinkView) (called : Status) (text : List ℕ)
    (end : Status) → LaterStore s t
    → (Printed called text old new end → ends_so (outside s i old) (outside t i new) end)
    → (LeavesStreams (outside s i old) (outside t i new) → ends_so (outside s i old) (outside t i new) status.NoMemory)
    → Tells called text old new end → EndsLater ends_so (outside s i old) (outside t i new) end
ends_told ends_so s t i old new called text end store row empty (inl h) = ends_printed ends_so s t i old new called text end store (row h) h
ends_told ends_so s t i old new called text end store row empty (inr h) = ends_silent ends_so status.NoMemory s t i old new end store empty h.0 h.1

-- ---- folders

-- a folder that was not installed
pub ends_nothing : (rules : List Chosen) (dirs : List (List ℕ)) (e : InstallFault) (s t : StoreView) (i : SourceView) (old new : SinkView) (end : Status)
    → InstallsAll rules dirs s t (Err e) → RefusesInstall e old new end
    → EndsLater (ServesNothing rules dirs) (outside s i old) (outside t i new) end
ends_nothing rules dirs install.NoMemory s t i old new end h r =
    ends_silent (ServesNothing rules dirs) status.NoMemory s t i old new end h.later (λ left. out_of_memory left) r.0 r.1
ends_nothing rules dirs (install.Check fault.NoMemory) s t i old new end h r = absurd (h.memory refl)
ends_nothing rules dirs (install.Check fault.ReadFault) s t i old new end h r =
    ends_silent (ServesNothing rules dirs) status.NotRead s t i old new end h.later (λ left. unread (h.failed refl) left) r.0 r.1
ends_nothing rules dirs (install.Check f) s t i old new end h r =
    let stops : (H : List ReleaseData) × StopsAtFault s.files rules dirs H (install.Check f) = h.came ((λ e. cc), (λ e. cc)) in
    ends_told (ServesNothing rules dirs) s t i old new status.Refused (refused_line (fault_text (install.Check f))) end h.later
    (λ printed. refused stops.0 (install.Check f) end stops.1 printed refl) (λ left. out_of_memory left) r
ends_nothing rules dirs (install.Policy k) s t i old new end h r =
    let stops : (H : List ReleaseData) × StopsAtFault s.files rules dirs H (install.Policy k) = h.came tt in
    ends_told (ServesNothing rules dirs) s t i old new status.Refused (refused_line (fault_text (install.Policy k))) end h.later
    (λ printed. refused stops.0 (install.Policy k) end stops.1 printed refl) (λ left. out_of_memory left) r

pub ends_unanswered : (dirs : List (List ℕ)) (e : InstallFault) (s t : StoreView) (i : SourceView) (old new : SinkView) (end : Status)
    → InstallsAll [] dirs s t (Err e) → RefusesInstall e old new end → EndsLater (Answers dirs) (outside s i old) (outside t i new) end
ends_unanswered dirs e s t i old new end h r =
    let so = ends_nothing [] dirs e s t i old new end h r in record { ends = nothing end so.ends; later = so.later }

-- a history that is served, or for which there is no memory
pub ends_served : (dirs : List (List ℕ)) (list : List (Catalogue (List ℕ))) (s t : StoreView) (i j : SourceView)
    (old new : SinkView) (is : Status) → InstallsAll [] dirs s t (Ok list)
    → ServesLast (history_of list) i j old new is → EndsLater (Answers dirs) (outside s i old) (outside t j new) is
ends_served dirs list s t i j old new is h (inl so) =
    subst (λ (e : Status). EndsLater (Answers dirs) (outside s i old) (outside t j new) e) (sym so.1) (record {
      ends = served (history_of list) so.0 h.came (so.2.serves s t);
      later = record { store = h.later; input = so.2.input; output = so.2.output };
    })
ends_served dirs list s t i j old new is h (inr none) =
    subst (λ (k : SourceView). EndsLater (Answers dirs) (outside s i old) (outside t k new) is) (sym none.1.0)
    (ends_silent (Answers dirs) status.NoMemory s t i old new is h.later (λ left. nothing status.NoMemory (out_of_memory left)) none.0 none.1.1)

-- ---- a zone file

pub ends_unshown : (path : List ℕ) (m : ℤ) (s t : StoreView) (i : SourceView) (old new : SinkView) → StoreFailed s t → LaterStore s t → new ≡ old
    → EndsLater (ShowsState path m) (outside s i old) (outside t i new) status.NotRead
ends_unshown path m s t i old new failed store e =
    ends_silent (ShowsState path m) status.NotRead s t i old new status.NotRead store (λ left. unread_shown failed left) refl e

pub ends_starved : (path : List ℕ) (m : ℤ) (s t : StoreView) (i : SourceView) (old new : SinkView) → LaterStore s t → new ≡ old
    → EndsLater (ShowsState path m) (outside s i old) (outside t i new) status.NoMemory
ends_starved path m s t i old new store e =
    ends_silent (ShowsState path m) status.NoMemory s t i old new status.NoMemory store (λ left. out_of_memory_shown left) refl e

-- its state, or its fault
shows : (path bytes : List ℕ) (m : ℤ) (s t : StoreView) (i : SourceView) (old new : SinkView) (end : Status) (f : Option ZoneFault)
    → zone_fault bytes ≡ f → IsOfPrefix path bytes s.files → LaterStore s t → ShowsBy bytes m f old new end
    → EndsLater (ShowsState path m) (outside s i old) (outside t i new) end
shows path bytes m s t i old new end None is of store h =
    ends_told (ShowsState path m) s t i old new status.Done (state_line (zone_state bytes m)) end store
    (λ printed. state bytes end (of.clear is) is printed refl) (λ left. out_of_memory_shown left) h
shows path bytes m s t i old new end (Some f) is of store h =
    let whole = of.refused f is in
    ends_told (ShowsState path m) s t i old new status.Refused (refused_line (zone_text f)) end store
    (λ printed. no_zone whole.0 f end whole.1 whole.2 printed refl) (λ left. out_of_memory_shown left) h

pub ends_shown : (path bytes : List ℕ) (m : ℤ) (s t : StoreView) (i : SourceView) (old new : SinkView) (end : Status)
    → Looks s t path 65537 (looked.Found bytes) → Shows bytes m old new end → EndsLater (ShowsState path m) (outside s i old) (outside t i new) end
ends_shown path bytes m s t i old new end looks h =
    shows path bytes m s t i old new end (zone_fault bytes) refl (of_prefix path bytes s.files looks.told)
    (looks_later s t path 65537 (looked.Found bytes) looks) h

-- an absent file
absent : (path : List ℕ) (files : Option (List File)) → FileTells files path 65537 looked.Absent → IfSome files (λ fs. file_at fs path ≡ None)
absent path None told = tt
absent path (Some fs) told = told

pub ends_absent : (path : List ℕ) (m : ℤ) (s t : StoreView) (i : SourceView) (old new : SinkView) (end : Status)
    → Looks s t path 65537 looked.Absent → TellsRefused (codes "8 Absent " ++ path) old new end
    → EndsLater (ShowsState path m) (outside s i old) (outside t i new) end
ends_absent path m s t i old new end looks h =
    ends_told (ShowsState path m) s t i old new status.Refused (refused_line (codes "8 Absent " ++ path)) end
    (looks_later s t path 65537 looked.Absent looks)
    (λ printed. no_file end (absent path s.files looks.told) printed refl) (λ left. out_of_memory_shown left) h
