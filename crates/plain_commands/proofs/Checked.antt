-- How folders are checked: the lines of a history, one folder more, and the ends.
use Rattle.std.proofs.Common.{◌≡◌, ℕ, ◌+◌, ◌<◌, List, [], ◌∷◌, ◌++◌, length, take, drop}
use Rattle.std.proofs.Common.{get_or, Option, None, Some, IfSome, Result, Ok, Err, inl, inr, refl}
use Rattle.std.proofs.Common.{sym, subst, ap, ◌∙◌, append_assoc, append-nil, arith}
use Rattle.std.proofs.lemmas.List.{take-append-drop}
use Rattle.td_base.specs.Views.{File, LaterStore, LaterSink, SinkView, SourceView, StoreView}
use Rattle.td_base.specs.Transfer.{WritesAll}
use Rattle.td_base.specs.declared.transfer.Written.TheVariants as written
use Rattle.td_base.proofs.lemmas.LaterLemmas.{source_refl, sink_refl, sink_trans, store_refl}
use Rattle.td_base.proofs.lemmas.LaterLemmas.{store_trans, writes_all_later, prints_later}
use Rattle.catalogue.specs.Holdings.{StandsFor, release_held}
use Rattle.catalogue.specs.Releases.{ReleaseData}
use Rattle.catalogue.specs.declared.holding.Catalogue.{Catalogue}
use Rattle.installer.specs.Installing.{Installs}
use Rattle.installer.specs.declared.install_fault.InstallFault.{InstallFault}
use Rattle.installer.specs.declared.install_fault.InstallFault.TheVariants as install
use Rattle.installer.specs.FaultText.{fault_text}
use Rattle.release_check.specs.declared.check_fault.CheckFault.TheVariants as fault
use Rattle.zone_meaning.specs.Sound.{IsSound}
use Rattle.zone_meaning.specs.ZoneHistories.{HasZoneHistory}
use Rattle.run_ends.specs.Running.Checking.{Checks, all, cut, ok_line, ok_lines, ok_lines_after, out_of_memory, refused, unread}
use Rattle.run_ends.specs.Folders.{FoldersBegin, FoldersGive, GivesAfter, IsRefusal, none, more}
use Rattle.run_ends.specs.Outside.{Outside, outside}
use Rattle.run_ends.specs.Printing.{Printed, refused_line}
use Rattle.plain_commands.specs.CheckingSteps.{ChecksNext, EndsAt, PrintsRelease, IsCheckedTo, Stands, TellsRelease, grown}
use Rattle.run_ends.specs.Tells.{TellsRefused, RefusesInstall}
use Rattle.run_ends.specs.declared.status.Status.{Status}
use Rattle.run_ends.specs.declared.status.Status.TheVariants as status
use Rattle.run_ends.proofs.lemmas.Endings.{EndsLater}
use Rattle.run_ends.proofs.lemmas.WrittenTexts.{cut_more, written_more, written_nothing}
use Rattle.run_ends.proofs.lemmas.Installing.{gives_fault, kept_gives, no_refusal, parted, stops_here, taken_more}

-- ---- lines

-- one line more
lines_more : (before H : List ReleaseData) (r : ReleaseData)
    → ok_lines_after before (H ++ r ∷ []) ≡ ok_lines_after before H ++ ok_line ((before ++ H) ++ r ∷ [])
unfolding ok_lines_after
lines_more before [] r = rw (append-nil before) (append-nil (ok_line (before ++ r ∷ [])))
lines_more before (x ∷ H) r =
    ap (λ (text : List ℕ). ok_line (before ++ x ∷ []) ++ text)
    (lines_more (before ++ x ∷ []) H r ∙ ap (λ (h : List ReleaseData). ok_lines_after (before ++ x ∷ []) H ++ ok_line (h ++ r ∷ []))
    (append_assoc before (x ∷ []) H))
    ∙ sym (append_assoc (ok_line (before ++ x ∷ [])) (ok_lines_after (before ++ x ∷ []) H) (ok_line ((before ++ x ∷ H) ++ r ∷ [])))

pub ok_lines_more : (H : List ReleaseData) (r : ReleaseData) → ok_lines (H ++ r ∷ []) ≡ ok_lines H ++ ok_line (H ++ r ∷ [])
ok_lines_more H r = lines_more [] H r

no_lines : ok_lines [] ≡ []
unfolding ok_lines_after
no_lines = refl

-- ---- one folder

-- a catalogue with a history stands for one
pub some_history : (last : Option (Catalogue (List ℕ))) → IfSome last HasZoneHistory → (H : List ReleaseData) × Stands last H
some_history None h = ([], refl)
some_history (Some c) h = h

-- the release that was told
pub comes_told : (H : List ReleaseData) (dir : List ℕ) (s t : StoreView) (old new : SinkView) (c : Catalogue (List ℕ))
    (result : Result (Catalogue (List ℕ)) Status) → LaterStore s t → StandsFor (λ file. file) IsSound c (grown H c)
    → GivesAfter s.files [] H dir (Ok (release_held (λ file. file) c)) → TellsRelease c old new result → ChecksNext H dir s t old new result
comes_told H dir s t old new c (Ok next) store stands give h = record {
  store = store;
  output = writes_all_later old new (ok_line (grown H c)) written.Whole (h.1 (grown H c) stands);
  comes = subst (λ (x : Catalogue (List ℕ)). PrintsRelease s.files H dir old new x) (sym h.0)
      (record { gives = give; stands = stands; line = h.1 (grown H c) stands });
}
comes_told H dir s t old new c (Err status.NotWritten) store stands give h = record {
  store = store;
  output = writes_all_later old new (ok_line (grown H c)) written.Cut (h (grown H c) stands);
  comes = record { release = release_held (λ file. file) c; gives = give; line = h (grown H c) stands };
}
comes_told H dir s t old new c (Err status.NoMemory) store stands give h = record {
  store = store;
  output = subst (λ (v : SinkView). LaterSink old v) (sym h) (sink_refl old);
  comes = h;
}
comes_told H dir s t old new c (Err end) store stands give h = absurd h

-- a folder that ends the run
ended : (H : List ReleaseData) (dir : List ℕ) (s t : StoreView) (old new : SinkView) (is end : Status) → end ≡ is → LaterStore s t → LaterSink old new
    → EndsAt H dir s t old new is → ChecksNext H dir s t old new (Err end)
ended H dir s t old new is end same store output h =
    subst (λ (x : Status). ChecksNext H dir s t old new (Err x)) (sym same) (record { store = store; output = output; comes = h })

left : (old new : SinkView) → new ≡ old → LaterSink old new
left old new e = subst (λ (v : SinkView). LaterSink old v) (sym e) (sink_refl old)

-- the line of a fault
told_refused : (H : List ReleaseData) (dir : List ℕ) (s t : StoreView) (old new : SinkView) (f : InstallFault) (end : Status) → LaterStore s t
    → IsRefusal f → GivesAfter s.files [] H dir (Err f) → Printed status.Refused (refused_line (fault_text f)) old new end
    → ChecksNext H dir s t old new (Err end)
told_refused H dir s t old new f status.Refused store of give h = record {
  store = store;
  output = prints_later old new (refused_line (fault_text f)) h;
  comes = record { why = f; is_refusal = of; gives = give; line = h };
}
told_refused H dir s t old new f end store of give h = absurd h

refused_by : (H : List ReleaseData) (dir : List ℕ) (s t : StoreView) (old new : SinkView) (f : InstallFault) (end : Status) → LaterStore s t
    → IsRefusal f → GivesAfter s.files [] H dir (Err f) → TellsRefused (fault_text f) old new end
    → ChecksNext H dir s t old new (Err end)
refused_by H dir s t old new f end store of give (inl h) = told_refused H dir s t old new f end store of give h
refused_by H dir s t old new f end store of give (inr h) = ended H dir s t old new status.NoMemory end h.0 store (left old new h.1) h.1

pub comes_refused : {A : Type 0} (H : List ReleaseData) (dir : List ℕ) (s t : StoreView) (old new : SinkView) (history : A → List ReleaseData)
    (e : InstallFault) (end : Status) → Installs {A = A} s t dir [] H history (Err e) → RefusesInstall e old new end → ChecksNext H dir s t old new (Err end)
comes_refused H dir s t old new history install.NoMemory end h r = ended H dir s t old new status.NoMemory end r.0 h.later (left old new r.1) r.1
comes_refused H dir s t old new history (install.Check fault.NoMemory) end h r = absurd (h.memory refl)
comes_refused H dir s t old new history (install.Check fault.ReadFault) end h r =
    ended H dir s t old new status.NotRead end r.0 h.later (left old new r.1) (h.failed refl, r.1)
comes_refused H dir s t old new history (install.Check f) end h r =
    refused_by H dir s t old new (install.Check f) end h.later ((λ e. cc), (λ e. cc)) (gives_fault s t dir [] H history (install.Check f) h) r
comes_refused H dir s t old new history (install.Policy k) end h r =
    let barred = h.policy k refl in absurd (cc (sym (no_refusal H barred.release) ∙ barred.refused))

-- ---- all folders

pub checked_none : (s : StoreView) (old : SinkView) → IsCheckedTo [] None s s old old
checked_none s old = record {
  history = [];
  stands = refl;
  give = none;
  lines = subst (λ (text : List ℕ). WritesAll old old text written.Whole) (sym no_lines) (written_nothing old);
  store = store_refl s;
}

pub checked_more : (dirs : List (List ℕ)) (i : ℕ) (d : List ℕ) (last : Option (Catalogue (List ℕ))) (next : Catalogue (List ℕ))
    (s t u : StoreView) (old middle new : SinkView) → i < length dirs → d ≡ get_or dirs i d → (so : IsCheckedTo (take i dirs) last s t old middle)
    → ChecksNext so.history d t u middle new (Ok next) → IsCheckedTo (take (i + 1) dirs) (Some next) s u old new
checked_more dirs i d last next s t u old middle new less is so h =
    let r : ReleaseData = release_held (λ file. file) next in
    let give : FoldersGive s.files [] (take i dirs ++ d ∷ []) (so.history ++ r ∷ []) =
    more (take i dirs) so.history d r so.give (kept_gives s t [] so.history d (Ok r) so.store h.comes.gives) in
    record {
      history = grown so.history next;
      stands = h.comes.stands;
      give = subst (λ (front : List (List ℕ)). FoldersGive s.files [] front (so.history ++ r ∷ [])) (sym (taken_more dirs i d less is)) give;
      lines = subst (λ (text : List ℕ). WritesAll old new text written.Whole) (sym (ok_lines_more so.history r))
          (written_more old middle new (ok_lines so.history) (ok_line (so.history ++ r ∷ [])) so.lines h.comes.line);
      store = store_trans s t u so.store h.store;
    }

-- how `check` ends; the input is left alone
abbrev pub ChecksFolders : List (List ℕ) → Outside → Outside → Status → Type 0
ChecksFolders dirs before after end = Checks dirs before.store after.store before.output after.output end × (after.input ≡ before.input)

-- the ends
checks : (dirs : List (List ℕ)) (s t : StoreView) (i : SourceView) (old new : SinkView) (end : Status) → LaterStore s t → LaterSink old new
    → Checks dirs s t old new end → EndsLater (ChecksFolders dirs) (outside s i old) (outside t i new) end
checks dirs s t i old new end store output h = record {
  ends = (h, refl);
  later = record { store = store; input = source_refl i; output = output };
}

pub ends_checked : (dirs row : List (List ℕ)) (last : Option (Catalogue (List ℕ))) (s t : StoreView) (i : SourceView) (old new : SinkView)
    → row ≡ dirs → IsCheckedTo row last s t old new → EndsLater (ChecksFolders dirs) (outside s i old) (outside t i new) status.Done
ends_checked dirs row last s t i old new same so =
    checks dirs s t i old new status.Done so.store (writes_all_later old new (ok_lines so.history) written.Whole so.lines)
    (all so.history (subst (λ (front : List (List ℕ)). FoldersGive s.files [] front so.history) same so.give) so.lines)

-- the first of the folders
begun : (files : Option (List File)) (dirs : List (List ℕ)) (i : ℕ) (H : List ReleaseData) → FoldersGive files [] (take i dirs) H → FoldersBegin files [] dirs H
begun files dirs i H give = record { first = take i dirs; rest = drop i dirs; dirs_are = sym (take-append-drop i dirs); give = give }

stopped : (dirs : List (List ℕ)) (i : ℕ) (d : List ℕ) (s t u : StoreView) (old middle new : SinkView) (H : List ReleaseData) (end : Status)
    → i < length dirs → d ≡ get_or dirs i d → LaterStore s t → LaterStore t u → FoldersGive s.files [] (take i dirs) H
    → WritesAll old middle (ok_lines H) written.Whole → EndsAt H d t u middle new end → Checks dirs s u old new end
stopped dirs i d s t u old middle new H status.Refused less is store next give lines h =
    refused H h.why middle
    (stops_here s.files [] (take i dirs) d (drop (i + 1) dirs) dirs H h.why (parted dirs i d less is) give (kept_gives s t [] H d (Err h.why) store h.gives)
    h.is_refusal) lines h.line
stopped dirs i d s t u old middle new H status.NotRead less is store next give lines h =
    unread H (begun s.files dirs i H give) (subst (λ (v : SinkView). WritesAll old v (ok_lines H) written.Whole) (sym h.1) lines)
    (omega (arith, store.later, h.0))
stopped dirs i d s t u old middle new H status.NotWritten less is store next give lines h =
    let both : FoldersGive s.files [] (take i dirs ++ d ∷ []) (H ++ h.release ∷ []) =
    more (take i dirs) H d h.release give (kept_gives s t [] H d (Ok h.release) store h.gives) in
    cut (H ++ h.release ∷ [])
    (begun s.files dirs (i + 1) (H ++ h.release ∷ [])
    (subst (λ (front : List (List ℕ)). FoldersGive s.files [] front (H ++ h.release ∷ [])) (sym (taken_more dirs i d less is)) both))
    (subst (λ (text : List ℕ). WritesAll old new text written.Cut) (sym (ok_lines_more H h.release))
    (cut_more old middle new (ok_lines H) (ok_line (H ++ h.release ∷ [])) lines h.line))
stopped dirs i d s t u old middle new H status.NoMemory less is store next give lines h =
    out_of_memory H (begun s.files dirs i H give) (subst (λ (v : SinkView). WritesAll old v (ok_lines H) written.Whole) (sym h) lines)
stopped dirs i d s t u old middle new H end less is store next give lines h = absurd h

pub ends_stopped : (dirs : List (List ℕ)) (i : ℕ) (d : List ℕ) (last : Option (Catalogue (List ℕ))) (s t u : StoreView) (v : SourceView)
    (old middle new : SinkView) (end : Status) → i < length dirs → d ≡ get_or dirs i d → (so : IsCheckedTo (take i dirs) last s t old middle)
    → ChecksNext so.history d t u middle new (Err end) → EndsLater (ChecksFolders dirs) (outside s v old) (outside u v new) end
ends_stopped dirs i d last s t u v old middle new end less is so h =
    checks dirs s u v old new end (store_trans s t u so.store h.store)
    (sink_trans old middle new (writes_all_later old middle (ok_lines so.history) written.Whole so.lines) h.output)
    (stopped dirs i d s t u old middle new so.history end less is so.store h.store so.give so.lines h.comes)
