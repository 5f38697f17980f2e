-- What maps and sets keep, as rising lists.
use Rattle.std.proofs.Common.{Ordering, Less, Equal, Greater, ◌≡◌, ℕ, suc, Bool, true, false, cond}
use Rattle.std.proofs.Common.{Option, Some, List, [], ◌∷◌, ◌++◌, refl, sym, ap, ◌∙◌, map}
use Rattle.std.proofs.Common.{slice_index_or, length, drop, ◌<◌, ◌+◌, arith, ◌||◌, not, subst}
use Rattle.std.proofs.Common.{filter, option_map}
use Rattle.std.specs.List.{All, list_any}
use Rattle.std.specs.BTreeMap.{BTreeMap, get, insert_entry, is_at}
use Rattle.std.specs.BTreeSet.{insert_key}
use Rattle.td_base.specs.Views.{file_at}
use Rattle.std.specs.Map.{keys_of, lookup, values_of}
use Rattle.std.specs.Ordering.{nat_cmp, match_ordering}
use Rattle.std.specs.Cmp.Lexicographic.{slice_cmp, nat_list_eq_equiv}
use Rattle.std.specs.Str.{bytes_eq}
use Rattle.std.proofs.lemmas.Map.Text.{is_eq-slice_cmp}
use Rattle.std.proofs.lemmas.Slice.Eq.{bytes_eq-Decides}
use Rattle.std.proofs.Math.Seq.{drop-cons}
use Rattle.json_forms.specs.declared.zone_list.ListZone.{ListZone}
use Rattle.sync_core.specs.Keeping.{by_name, has_listed_name}
use Rattle.sync_core.specs.Mirrors.{MirrorState, ZoneFile, entry_name, file_name, files_kept}
use Rattle.sync_core.specs.Names.{put_in, put_all, at_text}
use Rattle.sync_core.specs.Published.{bytes_of, file_bytes, stored_file}
use Rattle.sync_core.specs.Steps.{after_file, is_alias, kept_entries, kept_files, rising_zones}
use Rattle.sync_core.specs.Steps.{with_changes}
use Rattle.sync_core.proofs.lemmas.Puts.{turned, same_text, Rising, rising_filter, rising_put_all}
use Rattle.sync_core.proofs.lemmas.Puts.{put_rising}

abbrev pub state : Option (List ℕ) → Option (List ℕ) → List ListZone → List ZoneFile → List (List ℕ) → MirrorState
state token coming entries files pending = record { token = token; coming = coming; entries = entries; files = files; pending = pending }

-- ---- maps

entry_put : {V : Type 0} (k : List ℕ) (v : V) (es : List (List ℕ × V)) → insert_entry (slice_cmp nat_cmp) es k v ≡ put_in (λ e. e.0) (k, v) es
entry_put k v [] = refl
entry_put {V} k v (e ∷ es) = by (slice_cmp nat_cmp k e.0) refl (entry_put k v es)
  where
    by : (o : Ordering) → slice_cmp nat_cmp k e.0 ≡ o → insert_entry (slice_cmp nat_cmp) es k v ≡ put_in (λ (e : List ℕ × V). e.0) (k, v) es
        → match_ordering o ((k, v) ∷ e ∷ es) ((e.0, v) ∷ es) (e ∷ insert_entry (slice_cmp nat_cmp) es k v)
        ≡ match_ordering (slice_cmp nat_cmp e.0 k) (e ∷ put_in (λ (e : List ℕ × V). e.0) (k, v) es) ((k, v) ∷ es) ((k, v) ∷ e ∷ es)
    by Less is again = rw (turned e.0 k, is) refl
    by Equal is again = rw (turned e.0 k, is) (ap (λ (n : List ℕ). (n, v) ∷ es) (sym (same_text k e.0 is)))
    by Greater is again = rw (turned e.0 k, is) (ap (λ l. e ∷ l) again)

map-match : {X Y : Type 0} (f : X → Y) (o : Ordering) (a b c : List X) → map f (match_ordering o a b c) ≡ match_ordering o (map f a) (map f b) (map f c)
map-match f Less a b c = refl
map-match f Equal a b c = refl
map-match f Greater a b c = refl

map-put : {X Y : Type 0} (f : X → Y) (text : Y → List ℕ) (x : X) (xs : List X) → map f (put_in (λ x. text (f x)) x xs) ≡ put_in text (f x) (map f xs)
map-put f text x [] = refl
map-put f text x (y ∷ ys) =
    map-match f (slice_cmp nat_cmp (text (f y)) (text (f x))) (y ∷ put_in (λ x. text (f x)) x ys) (x ∷ ys) (x ∷ y ∷ ys)
    ∙ ap (λ l. match_ordering (slice_cmp nat_cmp (text (f y)) (text (f x))) (f y ∷ l) (f x ∷ map f ys) (f x ∷ f y ∷ map f ys)) (map-put f text x ys)

abbrev one_file : List ℕ × List ℕ → ZoneFile
one_file e = record { tzid = e.0; bytes = e.1 }

-- a file that is looked up in the map
pub file_found : (tzid : List ℕ) (es : List (List ℕ × List ℕ)) (found : Option (List ℕ)) → found ≡ lookup (is_at (slice_cmp nat_cmp tzid)) es
    → found ≡ file_bytes (files_kept es) tzid
file_found tzid es found is = is ∙ each es
  where
    step : (b : Bool) (e : List ℕ × List ℕ) (rest : Option (List ℕ)) (files : Option ZoneFile) → rest ≡ option_map bytes_of files
        → cond b (Some e.1) rest ≡ option_map bytes_of (cond b (Some (one_file e)) files)
    step true e rest files same = refl
    step false e rest files same = same

    each : (es : List (List ℕ × List ℕ)) → lookup (is_at (slice_cmp nat_cmp tzid)) es ≡ file_bytes (files_kept es) tzid
    each [] = refl
    each (e ∷ es) = rw (is_eq-slice_cmp tzid e.0) (step (bytes_eq tzid e.0) e _ (at_text file_name (files_kept es) tzid) (each es))

-- a file put into the map
pub file_put : (tzid bytes : List ℕ) (es : List (List ℕ × List ℕ))
    → files_kept (insert_entry (slice_cmp nat_cmp) es tzid bytes) ≡ put_in file_name (record { tzid = tzid; bytes = bytes }) (files_kept es)
file_put tzid bytes es =
    ap files_kept (entry_put tzid bytes es)
    ∙ map-put one_file file_name (tzid, bytes) es

-- a zone put into the map
pub zone_put : (z : ListZone) (zs : List ListZone) → insert_entry (slice_cmp nat_cmp) (by_name zs) z.tzid z ≡ by_name (put_in entry_name z zs)
zone_put z zs =
    entry_put z.tzid z (by_name zs) ∙ sym (map-put (λ (z : ListZone). (z.tzid, z)) (λ e. e.0) z zs)

pub values_by_name : (zs : List ListZone) → values_of (by_name zs) ≡ zs
values_by_name [] = refl
values_by_name (z ∷ zs) = ap (λ l. z ∷ l) (values_by_name zs)

pub keys_by_name : (zs : List ListZone) → keys_of (by_name zs) ≡ map entry_name zs
keys_by_name [] = refl
keys_by_name (z ∷ zs) = ap (λ l. z.tzid ∷ l) (keys_by_name zs)

-- ---- sets

pub has_put : (name k : List ℕ) (ks : List (List ℕ)) → has_listed_name (insert_key (slice_cmp nat_cmp) ks k) name ≡ (bytes_eq name k || has_listed_name ks name)
unfolding has_listed_name
has_put name k [] = refl
has_put name k (x ∷ xs) = by (slice_cmp nat_cmp k x) refl (has_put name k xs)
  where
    twice : (a b : Bool) → (a || b) ≡ (a || (a || b))
    twice true b = refl
    twice false b = refl

    other : (a b c : Bool) → (b || (a || c)) ≡ (a || (b || c))
    other true true c = refl
    other true false c = refl
    other false b c = refl

    by : (o : Ordering) → slice_cmp nat_cmp k x ≡ o
        → list_any (bytes_eq name) (insert_key (slice_cmp nat_cmp) xs k) ≡ (bytes_eq name k || list_any (bytes_eq name) xs)
        → list_any (bytes_eq name) (match_ordering o (k ∷ x ∷ xs) (x ∷ xs) (x ∷ insert_key (slice_cmp nat_cmp) xs k)) ≡
        (bytes_eq name k || list_any (bytes_eq name) (x ∷ xs))
    by Less is again = refl
    by Equal is again = rw (same_text k x is) (twice (bytes_eq name x) (list_any (bytes_eq name) xs))
    by Greater is again = ap (λ b. bytes_eq name x || b) again ∙ other (bytes_eq name k) (bytes_eq name x) (list_any (bytes_eq name) xs)

pub is_among : (name : List ℕ) (ks : List (List ℕ)) → list_any (is_at (slice_cmp nat_cmp name)) ks ≡ has_listed_name ks name
unfolding has_listed_name
is_among name [] = refl
is_among name (k ∷ ks) = rw (is_eq-slice_cmp name k) (ap (λ b. bytes_eq name k || b) (is_among name ks))

-- ---- what is heard

-- the file of the first identifier that is pending
pub file_heard : (token coming : Option (List ℕ)) (entries : List ListZone) (es fs : List (List ℕ × List ℕ)) (ps qs : List (List ℕ)) (front tzid bytes : List ℕ)
    → front ≡ slice_index_or ps 0 front → tzid ≡ front → 0 < length ps → qs ≡ drop 1 ps → fs ≡ insert_entry (slice_cmp nat_cmp) es tzid bytes
    → state token coming entries (files_kept fs) qs ≡ after_file ps (state token coming entries (files_kept es) ps) bytes
file_heard token coming entries es fs [] qs front tzid bytes first same some rest is = absurd (omega arith)
file_heard token coming entries es fs (p ∷ ps) qs front tzid bytes first same some rest is =
    ap (λ (q : List (List ℕ)). state token coming entries (files_kept fs) q) rest
    ∙ ap (λ (f : List ZoneFile). state token coming entries f ps) (ap files_kept is ∙ file_put tzid bytes es)
    ∙ ap (λ (t : List ℕ). state token coming entries (put_in file_name (record { tzid = t; bytes = bytes }) (files_kept es)) ps) (same ∙ first)

-- ---- aliases

one_more : (i : ℕ) → suc i ≡ i + 1
one_more i = omega arith

pub alias_put : (name : List ℕ) (xs : List (List ℕ)) (i : ℕ) (x k : List ℕ) (ks ls : List (List ℕ)) (whole : Bool) → i < length xs
    → x ≡ slice_index_or xs i x → k ≡ x
    → ls ≡ insert_key (slice_cmp nat_cmp) ks k → (list_any (bytes_eq name) (drop i xs) || has_listed_name ks name) ≡ whole
    → (list_any (bytes_eq name) (drop (i + 1) xs) || has_listed_name ls name) ≡ whole
alias_put name xs i x k ks ls whole within item same is before =
    let front : drop i xs ≡ k ∷ drop (i + 1) xs =
    drop-cons xs i x within ∙ ap (λ (y : List ℕ). y ∷ drop (suc i) xs) (sym item) ∙ ap (λ n. x ∷ drop n xs) (one_more i)
    ∙ ap (λ (y : List ℕ). y ∷ drop (i + 1) xs) (sym same) in
    ap (λ (l : List (List ℕ)). list_any (bytes_eq name) (drop (i + 1) xs) || has_listed_name l name) is
    ∙ ap (λ b. list_any (bytes_eq name) (drop (i + 1) xs) || b) (has_put name k ks)
    ∙ exchanged (list_any (bytes_eq name) (drop (i + 1) xs)) (bytes_eq name k) (has_listed_name ks name)
    ∙ sym (ap (λ (l : List (List ℕ)). list_any (bytes_eq name) l || has_listed_name ks name) front) ∙ before
  where
    exchanged : (a b c : Bool) → (a || (b || c)) ≡ ((b || a) || c)
    exchanged true true c = refl
    exchanged true false c = refl
    exchanged false true c = refl
    exchanged false false c = refl

pub none_put : (zones : List ListZone) (ks : List (List ℕ)) (name : List ℕ) → ks ≡ [] → (is_alias zones name || has_listed_name ks name) ≡ is_alias zones name
unfolding has_listed_name
none_put zones ks name none = rw none (by (is_alias zones name))
  where
    by : (b : Bool) → (b || false) ≡ b
    by true = refl
    by false = refl

-- ---- what the list of a map is

-- a zone after those that were put in before it
pub zone_sorted : (z : ListZone) (zs rest : List ListZone) (es fs : List (List ℕ × ListZone)) (name : List ℕ) (whole : List ListZone)
    → es ≡ by_name (values_of es) → put_all entry_name zs (values_of es) ≡ whole → zs ≡ z ∷ rest → name ≡ z.tzid
    → fs ≡ insert_entry (slice_cmp nat_cmp) es name z
    → (fs ≡ by_name (values_of fs)) × (put_all entry_name rest (values_of fs) ≡ whole)
zone_sorted z zs rest es fs name whole named before first is put =
    let now : fs ≡ by_name (put_in entry_name z (values_of es)) =
    put ∙ ap (λ (n : List ℕ). insert_entry (slice_cmp nat_cmp) es n z) is
    ∙ ap (λ (l : List (List ℕ × ListZone)). insert_entry (slice_cmp nat_cmp) l z.tzid z) named
    ∙ zone_put z (values_of es) in
    let values : values_of fs ≡ put_in entry_name z (values_of es) = ap values_of now ∙ values_by_name (put_in entry_name z (values_of es)) in
    (now ∙ ap by_name (sym values), ap (put_all entry_name rest) values ∙ sym (ap (λ l. put_all entry_name l (values_of es)) first) ∙ before)

pub values_begun : (done zs : List ListZone) (es : List (List ℕ × ListZone)) → done ≡ [] → es ≡ by_name zs → done ++ values_of es ≡ zs
values_begun done zs es none is = ap (λ (l : List ListZone). l ++ values_of es) none ∙ ap values_of is ∙ values_by_name zs

pub names_begun : (done : List (List ℕ)) (zs : List ListZone) (es : List (List ℕ × ListZone)) → done ≡ [] → es ≡ by_name zs
    → done ++ keys_of es ≡ map entry_name zs
names_begun done zs es none is = ap (λ (l : List (List ℕ)). l ++ keys_of es) none ∙ ap keys_of is ∙ keys_by_name zs

-- the entries that stay rise
pub kept_rises : (ks : List (List ℕ)) (entries kept : List ListZone) → kept ≡ filter (λ z. not (has_listed_name ks z.tzid)) entries → Rising entry_name entries
    → Rising entry_name kept
kept_rises ks entries kept is r = subst (Rising entry_name) (sym is) (rising_filter entry_name (λ z. not (has_listed_name ks z.tzid)) entries r)

pub listed_rises : (zones listed : List ListZone) → listed ≡ rising_zones zones → Rising entry_name listed
listed_rises zones listed is = subst (Rising entry_name) (sym is) (rising_put_all entry_name zones [] tt)

same_filter : {X : Type 0} (p q : X → Bool) → ((x : X) → p x ≡ q x) → (xs : List X) → filter p xs ≡ filter q xs
same_filter p q h [] = refl
same_filter p q h (x ∷ xs) = ap (λ b. cond b (x ∷ filter p xs) (filter p xs)) (h x) ∙ ap (λ l. cond (q x) (x ∷ l) l) (same_filter p q h xs)

filter_files : (p : List ℕ → Bool) (es : List (List ℕ × List ℕ)) → files_kept (filter (λ e. p e.0) es) ≡ filter (λ f. p f.tzid) (files_kept es)
filter_files p [] = refl
filter_files p (e ∷ es) = by (p e.0) (filter_files p es)
  where
    by : (b : Bool) → files_kept (filter (λ (e : List ℕ × List ℕ). p e.0) es) ≡ filter (λ (f : ZoneFile). p f.tzid) (files_kept es)
        → files_kept (cond b (e ∷ filter (λ (e : List ℕ × List ℕ). p e.0) es) (filter (λ (e : List ℕ × List ℕ). p e.0) es))
        ≡ cond b (one_file e ∷ filter (λ (f : ZoneFile). p f.tzid) (files_kept es)) (filter (λ (f : ZoneFile). p f.tzid) (files_kept es))
    by true again = ap (λ l. one_file e ∷ l) again
    by false again = again

-- zones that changed
pub changes_heard : (token coming : Option (List ℕ)) (entries kept listed merged zones : List ListZone) (es fs : List (List ℕ × List ℕ))
    (ps names ks : List (List ℕ)) (new : List ℕ)
    → Rising entry_name entries → ((name : List ℕ) → has_listed_name ks name ≡ is_alias zones name)
    → kept ≡ filter (λ z. not (has_listed_name ks z.tzid)) entries
    → fs ≡ filter (λ e. not (has_listed_name ks e.0)) es → listed ≡ rising_zones zones → merged ≡ put_all entry_name listed kept
    → names ≡ map entry_name (rising_zones zones)
    → state token (Some new) merged (files_kept fs) names ≡ with_changes (state token coming entries (files_kept es) ps) new zones
changes_heard token coming entries kept listed merged zones es fs ps names ks new rises aliases stay left sorted are named =
    let known : kept ≡ kept_entries zones entries = stay
    ∙ same_filter (λ z. not (has_listed_name ks z.tzid)) (λ z. not (is_alias zones z.tzid)) (λ z. ap not (aliases z.tzid)) entries in
    let put : merged ≡ put_all entry_name zones (kept_entries zones entries) =
    are ∙ ap (λ l. put_all entry_name l kept) sorted ∙ put_rising entry_name zones kept (kept_rises ks entries kept stay rises)
    ∙ ap (put_all entry_name zones) known in
    let files : files_kept fs ≡ kept_files zones (files_kept es) =
    ap files_kept left ∙ filter_files (λ n. not (has_listed_name ks n)) es
    ∙ same_filter (λ (f : ZoneFile). not (has_listed_name ks f.tzid)) (λ f. not (is_alias zones f.tzid)) (λ f. ap not (aliases f.tzid)) (files_kept es) in
    ap (λ m. state token (Some new) m (files_kept fs) names) put
    ∙ ap (λ (f : List ZoneFile). state token (Some new) (put_all entry_name zones (kept_entries zones entries)) f names) files
    ∙ ap (λ (n : List (List ℕ)). state token (Some new) (put_all entry_name zones (kept_entries zones entries)) (kept_files zones (files_kept es)) n) named

-- the files of a mirror as those of a store
pub files_stored : (fs : List ZoneFile) (path : List ℕ) → file_at (map stored_file fs) path ≡ file_bytes fs path
files_stored [] path = refl
files_stored (f ∷ fs) path = rw (nat_list_eq_equiv.symm f.tzid path) (by (bytes_eq path f.tzid) (at_text file_name fs path) (files_stored fs path))
  where
    by : (b : Bool) (o : Option ZoneFile) → file_at (map stored_file fs) path ≡ option_map bytes_of o
        → cond b (Some f.bytes) (file_at (map stored_file fs) path) ≡ option_map bytes_of (cond b (Some f) o)
    by true o again = refl
    by false o again = again

-- an entry that the map finds by its name
abbrev pub IsFound : BTreeMap (List ℕ) (List ℕ) → List ℕ × List ℕ → Type 0
IsFound m e = get (slice_cmp nat_cmp) m e.0 ≡ Some e.1

-- a file that is the next one, by its name
pub next_found : (m : BTreeMap (List ℕ) (List ℕ)) (next bytes name : List ℕ) → get (slice_cmp nat_cmp) m next ≡ Some bytes → next ≡ name
    → file_at (map stored_file (files_kept m.entries)) name ≡ Some bytes
next_found m next bytes name found same =
    files_stored (files_kept m.entries) name ∙ ap (file_bytes (files_kept m.entries)) (sym same) ∙ sym (file_found next m.entries (Some bytes) (sym found))

-- a name that does not differ
pub same_name : (xs ys : List ℕ) (differs : Bool) → differs ≡ not (bytes_eq xs ys) → differs ≡ false → xs ≡ ys
same_name xs ys differs is same = (bytes_eq-Decides xs ys).0 (by (bytes_eq xs ys) (sym is ∙ same))
  where
    by : (b : Bool) → not b ≡ false → b ≡ true
    by true e = refl
    by false e = sym e

-- what holds of all holds of those after the first
pub all_rest : {A : Type 0} (P : A → Type 0) (x : A) (xs ys : List A) → ys ≡ x ∷ xs → All P ys → All P xs
all_rest P x xs ys is all = λ k d less. subst (All P) is all (suc k) d (omega (arith, less))

pub all_first : {A : Type 0} (P : A → Type 0) (x : A) (xs ys : List A) → ys ≡ x ∷ xs → All P ys → P x
all_first P x xs ys is all = subst (All P) is all 0 x (omega arith)

pub merged_rises : (listed kept merged : List ListZone) → Rising entry_name kept → merged ≡ put_all entry_name listed kept → Rising entry_name merged
merged_rises listed kept merged r is = subst (Rising entry_name) (sym is) (rising_put_all entry_name listed kept r)
