-- A mirror whose look-ups hold a release holds its lists.
use Rattle.std.proofs.Common.{◌≡◌, ℕ, ◌≤◌, Bool, true, false, cond, Option, None, Some, List, [], ◌∷◌, ◌++◌, length, refl, sym, ap, ◌∙◌, subst, map, arith}
use Rattle.std.proofs.Common.{option_map}
use Rattle.std.specs.Str.{bytes_eq}
use Rattle.catalogue.specs.Histories.{IsHistory}
use Rattle.catalogue.specs.Lookups.{zone_at, zones_of}
use Rattle.catalogue.specs.Order.{IsRising}
use Rattle.catalogue.specs.Releases.{ContentData, ReleaseData}
use Rattle.sync_core.specs.Mirrors.{MirrorState, ZoneFile, entry_name, file_name}
use Rattle.sync_core.specs.Names.{at_text}
use Rattle.sync_core.proofs.lemmas.Puts.{Rising, found_text, one_list}
use Rattle.sync_world.specs.Holding.{HoldsLast, file_of}
use Rattle.sync_world.specs.Primaries.{Service, list_told, served_for}
use Rattle.sync_world.proofs.Aliases.{cut}
use Rattle.sync_world.proofs.Changes.{end}
use Rattle.sync_world.proofs.Files.{zones_are, ends_rising, list_rises}
use Rattle.sync_world.proofs.Looks.{bytes_found, looked_up}
use Rattle.sync_world.proofs.Runs.{HoldsState}
use Rattle.sync_world.proofs.Shown.{IsRisingMirror}

-- what is found in the list of the zones' files
pub files_found : (P : Service) (cs : List ContentData) (t : List ℕ) → at_text file_name (map (file_of P) cs) t ≡ option_map (file_of P) (zone_at cs t)
files_found P [] t = refl
files_found P (c ∷ cs) t = by (bytes_eq t c.tzid) (files_found P cs t)
  where
    by : (b : Bool) → at_text file_name (map (file_of P) cs) t ≡ option_map (file_of P) (zone_at cs t)
        → cond b (Some (file_of P c)) (at_text file_name (map (file_of P) cs) t) ≡ option_map (file_of P) (cond b (Some c) (zone_at cs t))
    by true h = refl
    by false h = h

zone_text : (cs : List ContentData) (t : List ℕ) (c : ContentData) → zone_at cs t ≡ Some c → t ≡ c.tzid
zone_text cs t c h = found_text (λ (c : ContentData). c.tzid) cs t c h

abbrev pair : List ℕ → List ℕ → ZoneFile
pair n b = record { tzid = n; bytes = b }

same_found : (P : Service) (files : List ZoneFile) (cs : List ContentData) (t : List ℕ)
    → bytes_found (at_text file_name files t) ≡ served_for P t (zone_at cs t)
    → at_text file_name files t ≡ at_text file_name (map (file_of P) cs) t
same_found P files cs t h = by (at_text file_name files t) (zone_at cs t) refl refl h ∙ sym (files_found P cs t)
  where
    by : (o : Option ZoneFile) (z : Option ContentData) → at_text file_name files t ≡ o → zone_at cs t ≡ z → bytes_found o ≡ served_for P t z
        → o ≡ option_map (file_of P) z
    by None None e k h = refl
    by None (Some c) e k h = absurd (cc)
    by (Some f) None e k h = absurd (cc)
    by (Some f) (Some c) e k h =
        let name : f.tzid ≡ c.tzid = sym (found_text file_name files t f e) ∙ zone_text cs t c k in
        let sent : f.bytes ≡ P.served t c = cc in
        let bytes : f.bytes ≡ P.served c.tzid c = sent ∙ ap (λ u. P.served u c) (zone_text cs t c k) in
        ap Some (ap (λ (n : List ℕ). pair n f.bytes) name ∙ ap (λ (b : List ℕ). pair c.tzid b) bytes)

file_texts : (P : Service) (cs : List ContentData) → map file_name (map (file_of P) cs) ≡ map (λ (c : ContentData). c.tzid) cs
file_texts P [] = refl
file_texts P (c ∷ cs) = ap (λ ts. c.tzid ∷ ts) (file_texts P cs)

files_rise : (P : Service) (sound : ReleaseData → Type 0) (G : List ReleaseData) → IsHistory sound G → 1 ≤ length G
    → Rising file_name (map (file_of P) (zones_of G))
files_rise P sound G h long =
    let c = cut G (length G) (long, omega arith) in
    subst (λ F. Rising file_name (map (file_of P) (zones_of F))) (sym c.whole) (by c.A c.x c.X (subst (IsHistory sound) c.whole h))
  where
    by : (A : List ReleaseData) (x : ReleaseData) (X : List ReleaseData) → IsHistory sound (A ++ x ∷ X)
        → Rising file_name (map (file_of P) (zones_of (A ++ x ∷ X)))
    by A x X h =
        subst (λ cs. Rising file_name (map (file_of P) cs)) (sym (zones_are A x X))
        (subst IsRising (sym (file_texts P (end x X).contents)) (ends_rising sound A x X h))

pub exactly : (P : Service) (sound : ReleaseData → Type 0) (G : List ReleaseData) (m : MirrorState) → IsHistory sound G → 1 ≤ length G → IsRisingMirror m
    → HoldsState P (looked_up m) G → HoldsLast P m G
exactly P sound G m h long r k = record {
  token = k.token;
  entries = one_list entry_name m.entries (list_told G) r.entries (list_rises sound G h long) k.entries;
  files = one_list file_name m.files (map (file_of P) (zones_of G)) r.files (files_rise P sound G h long)
      (λ t. same_found P m.files (zones_of G) t (k.files t));
  pending = k.pending;
  coming = k.coming;
}
