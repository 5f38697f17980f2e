-- What becomes of the zones of a release, one after another.
use Rattle.std.proofs.Common.{◌≡◌, ℕ, zero, suc, ◌+◌, ◌<◌, ◌≤◌, Bool, true, false, not, if◌then◌else◌, List, [], ◌∷◌, ◌++◌, map, drop, length, get_or, Option}
use Rattle.std.proofs.Common.{None}
use Rattle.std.proofs.Common.{Some, refl, sym, ap, ◌∙◌, subst, arith, append_assoc, append-nil}
use Rattle.std.proofs.lemmas.List.{drop_all, length-map}
use Rattle.std.proofs.lemmas.Simd.{map-map}
use Rattle.std.specs.List.{filter, IsDistinct}
use Rattle.std.specs.Str.{bytes_eq}
use Rattle.catalogue.specs.Order.{rising_by}
use Rattle.catalogue.specs.Releases.{ContentData, ReleaseData, names_of, same_content, content_data, release_data}
use Rattle.catalogue.specs.declared.release.Content.{Content}
use Rattle.catalogue.specs.declared.release.Release.{Release}
use Rattle.catalogue.specs.Holdings.{StandsFor, release_held}
use Rattle.catalogue.specs.Lookups.{contents_of, named, zones_of}
use Rattle.catalogue.specs.declared.holding.Catalogue.{Catalogue}
use Rattle.catalogue.proofs.lemmas.LastRelease.{last_of}
use Rattle.zone_meaning.specs.Sound.{IsSound}
use Rattle.zone_meaning.specs.ZoneHistories.{zone_bytes}
use Rattle.admission.specs.Differences.{is_changed, first_from, changed_from, change_if_any, change_from_one, with_last_if_any, content_changes, difference}
use Rattle.admission.specs.declared.delta.Changed.{Changed}
use Rattle.admission.specs.declared.delta.Delta.{Delta}
use Rattle.admission.proofs.Naming.{none_same, one_same}
use Rattle.admission.proofs.Ordered.{contents_rise}

abbrev pub delta_with : List Changed → Delta
delta_with xs = record { changed = xs }

abbrev pub brought : List ℕ → Changed
brought t = record { tzid = t; first = None }

changed_by : (o : Option ContentData) (c : ContentData) → Changed
changed_by o c = record { tzid = c.tzid; first = first_from o c }

-- a zone whose identifier no zone had
pub new_change : (old : List ContentData) (c : ContentData) → None ≡ named old c.tzid → Some (brought c.tzid) ≡ change_if_any old c
unfolding changed_by
new_change old c none =
    let change = λ (b : Bool). if not b then Some (changed_from old c) else None in
    ap (λ o. Some (changed_by o c)) none ∙ ap change (sym (none_same c old (sym none)))

by_same : (b : Bool) (change : Changed) → (if b then None else Some change) ≡ (if not b then Some change else None)
by_same true change = refl
by_same false change = refl

-- a zone whose identifier one of them had
pub one_change : (old : List ContentData) (c had : ContentData) → IsDistinct bytes_eq (names_of old) → Some had ≡ named old c.tzid
    → change_from_one had c ≡ change_if_any old c
unfolding changed_by
one_change old c had distinct is =
    let change = λ (b : Bool). if not b then Some (changed_from old c) else None in
    by_same (same_content c had) (changed_by (Some had) c)
    ∙ ap (λ o. if not (same_content c had) then Some (changed_by o c) else None) is
    ∙ ap change (sym (one_same c old had distinct (sym is)))

-- the names of the zones that a history has are distinct
pub zones_apart : (k : Catalogue (List ℕ)) (H : List ReleaseData) → StandsFor zone_bytes IsSound k H → IsDistinct bytes_eq (names_of (zones_of H))
zones_apart k H s =
    subst (λ (o : Option ReleaseData). IsDistinct bytes_eq (names_of (contents_of o))) (sym s.last)
    (last_of IsSound H (release_held zone_bytes k) s.history s.last).release.fits.distinct

-- ---- one after another

with_first : (b : Bool) (old : List ContentData) (c : ContentData) (cs : List ContentData)
    → map (changed_from old) (if b then c ∷ filter (is_changed old) cs else filter (is_changed old) cs)
    ≡ (if b then changed_from old c ∷ content_changes old cs else content_changes old cs)
with_first true old c cs = refl
with_first false old c cs = refl

-- one zone more
step : (b : Bool) (x : Changed) (change : Option Changed) (done xs : List Changed) → change ≡ (if b then Some x else None)
    → done ++ (if b then x ∷ xs else xs) ≡ with_last_if_any done change ++ xs
step true x change done xs is =
    sym (append_assoc done (x ∷ []) xs) ∙ ap (λ o. with_last_if_any done o ++ xs) (sym is)
step false x change done xs is = ap (λ o. with_last_if_any done o ++ xs) (sym is)

changes_next : (old : List ContentData) (done : List Changed) (c : ContentData) (cs : List ContentData) (change : Option Changed)
    → change ≡ change_if_any old c → done ++ content_changes old (c ∷ cs) ≡ with_last_if_any done change ++ content_changes old cs
changes_next old done c cs change is =
    ap (λ xs. done ++ xs) (with_first (is_changed old c) old c cs)
    ∙ step (is_changed old c) (changed_from old c) change done (content_changes old cs) is

drop_mapped : {R : Type 0} (seen : R → ContentData) (zones : List R) (i : ℕ) (r : R) → i < length zones → r ≡ get_or zones i r
    → drop i (map seen zones) ≡ seen r ∷ drop (i + 1) (map seen zones)
drop_mapped seen [] i r lt is = absurd (omega arith)
drop_mapped seen (z ∷ zs) zero r lt is = ap (λ d. d ∷ map seen zs) (ap seen (sym is))
drop_mapped seen (z ∷ zs) (suc i) r lt is =
    let next : suc i + 1 ≡ suc (i + 1) = omega arith in
    rw next (drop_mapped seen zs i r (omega arith) is)

-- what is listed, with what is left, is the whole
pub changes_at : {R : Type 0} (seen : R → ContentData) (old : List ContentData) (done next all : List Changed) (zones : List R) (i : ℕ) (r : R)
    (change : Option Changed) → i < length zones → r ≡ get_or zones i r → change ≡ change_if_any old (seen r) → next ≡ with_last_if_any done change
    → done ++ content_changes old (drop i (map seen zones)) ≡ all → next ++ content_changes old (drop (i + 1) (map seen zones)) ≡ all
changes_at seen old done next all zones i r change lt at is put left =
    ap (λ xs. xs ++ content_changes old (drop (i + 1) (map seen zones))) put
    ∙ sym (changes_next old done (seen r) (drop (i + 1) (map seen zones)) change is)
    ∙ ap (λ cs. done ++ content_changes old cs) (sym (drop_mapped seen zones i r lt at)) ∙ left

pub nothing_left : (old : List ContentData) (done all : List Changed) (cs : List ContentData) (i : ℕ) → length cs ≤ i
    → done ++ content_changes old (drop i cs) ≡ all → done ≡ all
nothing_left old done all cs i end left =
    sym (append-nil done) ∙ ap (λ xs. done ++ content_changes old xs) (sym (drop_all i cs end)) ∙ left

-- where zones are borrowed
pub all_listed : {R : Type 0} (seen : R → ContentData) (old : List ContentData) (done all : List Changed) (zones : List R) (i : ℕ) → length zones ≤ i
    → done ++ content_changes old (drop i (map seen zones)) ≡ all → done ≡ all
all_listed seen old done all zones i end left = nothing_left old done all (map seen zones) i (rw (length-map zones seen) end) left

-- and so the difference of two releases
pub delta_is : {R : Type 0} (now : R → Content (List ℕ)) (H : List ReleaseData) (sorted : List R) (r : Release (List ℕ)) (changed : List Changed)
    → map now sorted ≡ rising_by (λ (c : Content (List ℕ)). c.tzid) r.zones
    → changed ≡ content_changes (zones_of H) (map (λ z. content_data zone_bytes (now z)) sorted)
    → delta_with changed ≡ difference H (release_data zone_bytes r)
unfolding difference
delta_is {R = R} now H sorted r changed in_order is =
    let contents : map (λ z. content_data zone_bytes (now z)) sorted ≡ rising_by (λ (c : ContentData). c.tzid) (map (content_data zone_bytes) r.zones) =
    sym (map-map (content_data zone_bytes) now sorted) ∙ contents_rise zone_bytes (map now sorted) r.zones in_order in
    ap delta_with (is ∙ ap (content_changes (zones_of H)) contents)
