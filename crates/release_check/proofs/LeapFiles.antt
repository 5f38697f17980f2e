-- The table of leap seconds of a release, as its file gives it.
use Rattle.std.proofs.Common.{◌≡◌, ◌≢◌, ℕ, ◌<◌, ◌≤◌, true, List, [], ◌∷◌, length, map, take, ℤ}
use Rattle.std.proofs.Common.{Option, None, Some, Ok, Err, ⊎_elim, IfSome, refl, ap, sym, subst}
use Rattle.std.proofs.Common.{◌∙◌, arith}
use Rattle.std.specs.Option.{option_map}
use Rattle.std.proofs.lemmas.List.{take_all, length-take-le}
use Rattle.td_base.specs.FirstFault.{◌or_else◌}
use Rattle.td_base.specs.Views.{File, file_at}
use Rattle.td_base.proofs.lemmas.FaultLemmas.{first, second, unmapped}
use Rattle.td_civil.specs.Reading.{is_date_text}
use Rattle.tzif_reader.specs.Cut.{lists_of}
use Rattle.tzif_reader.specs.Faults.{first_fault}
use Rattle.tzif_reader.specs.LeapSteps.{LeapCause, Step, Midnight, leap_fault, leap_steps}
use Rattle.tzif_reader.specs.declared.tzif_fault.TzifFault.{TzifFault}
use Rattle.tzif_reader.specs.declared.tzif_fault.TzifFault.TheVariants as tzif
use Rattle.tzif_reader.specs.declared.zone_file.ZoneFile.{ZoneFile}
use Rattle.tzif_reader.specs.declared.zone_file.TheConstants.{MOST_BYTES}
use Rattle.release_check.specs.declared.files.TheConstants.{ZONE_ROOM}
use Rattle.catalogue.specs.declared.release.LeapStep.{LeapStep}
use Rattle.catalogue.specs.declared.release.Leaps.{Leaps}
use Rattle.leap_table.specs.Faults.{table_fault, table_cause}
use Rattle.leap_table.specs.Steps.{step_pairs}
use Rattle.leap_table.specs.declared.leap_fault.LeapFault.{LeapFault}
use Rattle.leap_table.specs.declared.leap_fault.LeapFault.TheVariants as table
use Rattle.release_manifest.specs.declared.manifest_type.ManifestLeaps.{ManifestLeaps}
use Rattle.zone_meaning.specs.Sound.{IsSoundLeaps}
use Rattle.release_check.specs.Folder.{table_from, table_in, unless, path_in}
use Rattle.release_check.specs.Found.{IsFile, IsTableIn}
use Rattle.release_check.specs.Judged.{of_leap_reader, of_table}
use Rattle.release_check.specs.LeapFile.{of_file, of_cause, leap_file_fault, step_of_pair, table_of}
use Rattle.release_check.specs.Faults.{has_date}
use Rattle.release_check.specs.declared.check_fault.CheckFault.{CheckFault}
use Rattle.release_check.specs.declared.check_fault.CheckFault.TheVariants as fault
use Rattle.release_check.proofs.lemmas.Prefixes.{fits_or_longer, too_large}

-- the fault of the file, by those of its parts
abbrev in_order : Option TzifFault → Option LeapCause → Option CheckFault
in_order read lines = option_map of_file read or_else option_map of_cause lines

leap_file_fault-is : (bytes : List ℕ) (read : Option TzifFault) (lines : Option LeapCause) → first_fault bytes ≡ read
    → leap_fault (lists_of bytes).leaps ≡ lines
    → leap_file_fault bytes ≡ in_order read lines
unfolding leap_file_fault
leap_file_fault-is bytes read lines r l = rw (← r, ← l) refl

-- what the reader refuses
no_file : (bytes : List ℕ) (f : TzifFault) → first_fault bytes ≡ Some f → leap_file_fault bytes ≡ Some (of_file f)
no_file bytes f is = leap_file_fault-is bytes (Some f) _ is refl

pub refused_by_reader : (bytes : List ℕ) (f : TzifFault) → (f ≢ tzif.NoMemory → first_fault bytes ≡ Some f)
    → (of_leap_reader f ≢ fault.ReadFault) × (of_leap_reader f ≢ fault.NoMemory → leap_file_fault bytes ≡ Some (of_leap_reader f))
refused_by_reader bytes tzif.NoMemory h = (λ e. cc, λ ne. absurd (ne refl))
refused_by_reader bytes f h = (λ e. cc, λ _. no_file bytes _ (h (λ e. cc)))

-- what the lines refuse
same_cause : (cause : Option LeapCause) (f : LeapFault) → option_map table_cause cause ≡ Some f → option_map of_cause cause ≡ Some (of_table f)
same_cause None f h = absurd cc
same_cause (Some (Step line)) f h = let is : table.Step line ≡ f = cc in rw (← is) refl
same_cause (Some (Midnight line)) f h = let is : table.Midnight line ≡ f = cc in rw (← is) refl

no_table : (bytes : List ℕ) (lists : ZoneFile) (f : LeapFault) → first_fault bytes ≡ None → lists ≡ lists_of bytes → table_fault lists.leaps ≡ Some f
    → leap_file_fault bytes ≡ Some (of_table f)
no_table bytes lists f none is h =
    leap_file_fault-is bytes None (leap_fault lists.leaps) none (ap (λ (z : ZoneFile). leap_fault z.leaps) (sym is)) ∙ same_cause (leap_fault lists.leaps) f h

pub refused_by_table : (bytes : List ℕ) (lists : ZoneFile) (f : LeapFault) → first_fault bytes ≡ None → lists ≡ lists_of bytes
    → (f ≢ table.NoMemory → table_fault lists.leaps ≡ Some f)
    → (of_table f ≢ fault.ReadFault) × (of_table f ≢ fault.NoMemory → leap_file_fault bytes ≡ Some (of_table f))
refused_by_table bytes lists table.NoMemory none is h = (λ e. cc, λ ne. absurd (ne refl))
refused_by_table bytes lists (table.Step line) none is h = (λ e. cc, λ _. no_table bytes lists (table.Step line) none is (h (λ e. cc)))
refused_by_table bytes lists (table.Midnight line) none is h = (λ e. cc, λ _. no_table bytes lists (table.Midnight line) none is (h (λ e. cc)))

-- a table
pub clear_table : (bytes : List ℕ) (lists : ZoneFile) → first_fault bytes ≡ None → lists ≡ lists_of bytes → table_fault lists.leaps ≡ None
    → leap_file_fault bytes ≡ None
clear_table bytes lists none is h =
    leap_file_fault-is bytes None None none (ap (λ (z : ZoneFile). leap_fault z.leaps) (sym is) ∙ unmapped table_cause (leap_fault lists.leaps) h)

again : (steps : List LeapStep) → map step_of_pair (step_pairs steps) ≡ steps
again [] = refl
again (s ∷ ss) = ap (λ xs. s ∷ xs) (again ss)

pairs_again : (pairs : List (ℤ × ℤ)) → map (λ s. (s.day, s.offset)) (map step_of_pair pairs) ≡ pairs
pairs_again [] = refl
pairs_again (p ∷ ps) = ap (λ xs. p ∷ xs) (pairs_again ps)

made : List ℕ → List ℕ → List LeapStep → Leaps
made file expires steps = record { file = file; expires = expires; steps = steps }

pub table_made : (bytes expires : List ℕ) (lists : ZoneFile) (t : Leaps) → lists ≡ lists_of bytes → t.file ≡ bytes → t.expires ≡ expires
    → step_pairs t.steps ≡ leap_steps lists.leaps → t ≡ table_of bytes expires
unfolding table_of made
table_made bytes expires lists t is file expiry steps =
    let these : t.steps ≡ map step_of_pair (leap_steps (lists_of bytes).leaps) =
    sym (again t.steps) ∙ ap (map step_of_pair) (steps ∙ ap (λ (z : ZoneFile). leap_steps z.leaps) is) in
    ap (λ f. made f t.expires t.steps) file ∙ ap (λ e. made bytes e t.steps) expiry ∙ ap (made bytes expires) these

-- of the file no more is read than one byte past its limit
leap_prefix : (whole : List ℕ) → leap_file_fault (take ZONE_ROOM whole) ≡ leap_file_fault whole
leap_prefix whole = ⊎_elim
    (λ (long : MOST_BYTES < length whole).
    let size : length (take ZONE_ROOM whole) ≡ ZONE_ROOM = length-take-le ZONE_ROOM whole (omega arith) in
    no_file (take ZONE_ROOM whole) tzif.TooLarge (too_large _ (omega arith)) ∙ sym (no_file whole tzif.TooLarge (too_large whole long)))
    (λ (fits : length whole ≤ MOST_BYTES). ap leap_file_fault (take_all ZONE_ROOM whole (omega arith)))
    (fits_or_longer MOST_BYTES whole)

leap_whole : (whole : List ℕ) → leap_file_fault (take ZONE_ROOM whole) ≡ None → take ZONE_ROOM whole ≡ whole
leap_whole whole none = ⊎_elim
    (λ (long : MOST_BYTES < length whole).
    let size : length (take ZONE_ROOM whole) ≡ ZONE_ROOM = length-take-le ZONE_ROOM whole (omega arith) in
    let some : leap_file_fault (take ZONE_ROOM whole) ≡ Some (of_file tzif.TooLarge) =
    no_file (take ZONE_ROOM whole) tzif.TooLarge (too_large _ (omega arith)) in
    cc)
    (λ (fits : length whole ≤ MOST_BYTES). take_all ZONE_ROOM whole (omega arith))
    (fits_or_longer MOST_BYTES whole)

from_prefix : (path expires : List ℕ) (found : Option (List ℕ)) (prefix : List ℕ) → option_map (take ZONE_ROOM) found ≡ Some prefix
    → leap_file_fault prefix ≡ None → table_from path expires found ≡ Ok (Some (table_of prefix expires))
from_prefix path expires None prefix read none = cc
from_prefix path expires (Some whole) prefix read none =
    let is : take ZONE_ROOM whole ≡ prefix = cc in
    let clean : leap_file_fault (take ZONE_ROOM whole) ≡ None = ap leap_file_fault is ∙ none in
    ap (λ f. unless f (Ok (Some (table_of whole expires)))) (sym (leap_prefix whole) ∙ clean)
    ∙ ap (λ bytes. Ok (Some (table_of bytes expires))) (sym (leap_whole whole clean) ∙ is)

from_prefix_refused : (path expires : List ℕ) (found : Option (List ℕ)) (prefix : List ℕ) (f : CheckFault) → option_map (take ZONE_ROOM) found ≡ Some prefix
    → leap_file_fault prefix ≡ Some f → table_from path expires found ≡ Err f
from_prefix_refused path expires None prefix f read is = cc
from_prefix_refused path expires (Some whole) prefix f read is =
    let same : take ZONE_ROOM whole ≡ prefix = cc in
    ap (λ f. unless f (Ok (Some (table_of whole expires)))) (sym (leap_prefix whole) ∙ (ap leap_file_fault same ∙ is))

-- the table that a manifest names
pub table_absent : (files : List File) (dir : List ℕ) (l : ManifestLeaps) (name : List ℕ) (e : CheckFault) → name ≡ l.file
    → IsFile (path_in dir name) ZONE_ROOM (Err e) files → IsTableIn dir (Some l) (Err e) files
table_absent files dir l name e is reads nm nr =
    let read : IsFile (path_in dir l.file) ZONE_ROOM (Err e) files = subst (λ (x : List ℕ). IsFile (path_in dir x) ZONE_ROOM (Err e) files) is reads in
    let why = read nm nr in
    ap (table_from (path_in dir l.file) l.expires) why.1 ∙ ap Err (sym why.0)

pub table_refused : (files : List File) (dir : List ℕ) (l : ManifestLeaps) (name prefix : List ℕ) (e : CheckFault) → name ≡ l.file
    → (e ≢ fault.NoMemory → leap_file_fault prefix ≡ Some e) → IsFile (path_in dir name) ZONE_ROOM (Ok prefix) files → IsTableIn dir (Some l) (Err e) files
table_refused files dir l name prefix e is judged reads nm nr =
    let read : IsFile (path_in dir l.file) ZONE_ROOM (Ok prefix) files = subst (λ (x : List ℕ). IsFile (path_in dir x) ZONE_ROOM (Ok prefix) files) is reads in
    from_prefix_refused (path_in dir l.file) l.expires (file_at files (path_in dir l.file)) prefix e read (judged nm)

pub table_read : (files : List File) (dir : List ℕ) (l : ManifestLeaps) (name expires prefix : List ℕ) (t : Leaps) → name ≡ l.file → expires ≡ l.expires
    → leap_file_fault prefix ≡ None → t ≡ table_of prefix expires → IsFile (path_in dir name) ZONE_ROOM (Ok prefix) files
    → IsTableIn dir (Some l) (Ok (Some t)) files
table_read files dir l name expires prefix t is expiry none made_is reads =
    let read : IsFile (path_in dir l.file) ZONE_ROOM (Ok prefix) files = subst (λ (x : List ℕ). IsFile (path_in dir x) ZONE_ROOM (Ok prefix) files) is reads in
    from_prefix (path_in dir l.file) l.expires (file_at files (path_in dir l.file)) prefix read none
    ∙ ap (λ x. Ok (Some (table_of prefix x))) (sym expiry) ∙ ap (λ x. Ok (Some x)) (sym made_is)

-- and it is sound
sound_made : (bytes expires : List ℕ) → leap_file_fault bytes ≡ None → is_date_text expires ≡ true → IsSoundLeaps (table_of bytes expires)
unfolding table_of leap_file_fault
sound_made bytes expires none date = record {
  file = unmapped of_file (first_fault bytes) (first (option_map of_file (first_fault bytes)) (option_map of_cause (leap_fault (lists_of bytes).leaps)) none);
  lines = unmapped of_cause (leap_fault (lists_of bytes).leaps) (second (option_map of_file (first_fault bytes))
      (option_map of_cause (leap_fault (lists_of bytes).leaps)) none);
  steps = pairs_again (leap_steps (lists_of bytes).leaps);
  expires = date;
}

sound_from : (path expires : List ℕ) (found : Option (List ℕ)) (t : Option Leaps) → is_date_text expires ≡ true → table_from path expires found ≡ Ok t
    → IfSome t IsSoundLeaps
sound_from path expires None t date h = absurd cc
sound_from path expires (Some bytes) t date h = by (leap_file_fault bytes) refl h
  where
    by : (f : Option CheckFault) → leap_file_fault bytes ≡ f → unless f (Ok (Some (table_of bytes expires))) ≡ Ok t → IfSome t IsSoundLeaps
    by (Some f) is e = absurd cc
    by None is e =
        let same : Some (table_of bytes expires) ≡ t = cc in
        subst (λ (o : Option Leaps). IfSome o IsSoundLeaps) same (sound_made bytes expires is date)

pub sound_table : (files : List File) (dir : List ℕ) (named : Option ManifestLeaps) (t : Option Leaps) → has_date named ≡ true
    → table_in files dir named ≡ Ok t → IfSome t IsSoundLeaps
sound_table files dir None t date h =
    let same : None ≡ t = cc in
    subst (λ (o : Option Leaps). IfSome o IsSoundLeaps) same tt
sound_table files dir (Some l) t date h = sound_from (path_in dir l.file) l.expires (file_at files (path_in dir l.file)) t date h

-- a table that was read so
pub sound_read : (prefix expires : List ℕ) (t : Leaps) → leap_file_fault prefix ≡ None → t ≡ table_of prefix expires → is_date_text expires ≡ true
    → IsSoundLeaps t
sound_read prefix expires t none is date = subst (λ (x : Leaps). IsSoundLeaps x) (sym is) (sound_made prefix expires none date)
