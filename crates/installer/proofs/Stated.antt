-- What a manifest and its files state, part by part.
use Rattle.std.proofs.Common.{◌≡◌, ◌↔◌, ℕ, ◌+◌, ◌<◌, ◌≤◌, Bool, true, false, if◌then◌else◌, List, [], ◌∷◌, length, take, drop, get_or, map, Option, None}
use Rattle.std.proofs.Common.{Some, option_map, option_and_then, IsSomeAnd, IsTrue, slice_get, refl, sym, ap, ◌∙◌, subst, arith}
use Rattle.std.proofs.lemmas.List.{drop_more, drop_all, take_all, length-map, length-take}
use Rattle.std.proofs.lemmas.Option.{same_Some, slice_get-map, slice_get_read, slice_get_within, get_or_from_slice_get}
use Rattle.td_base.specs.Views.{File, file_at}
use Rattle.catalogue.specs.Histories.{last_release}
use Rattle.catalogue.specs.Order.{is_before, put_by, rising_by}
use Rattle.catalogue.specs.Releases.{ContentData, ReleaseData}
use Rattle.release_manifest.specs.declared.manifest_type.Manifest.{Manifest}
use Rattle.release_manifest.specs.declared.manifest_type.ManifestZone.{ManifestZone}
use Rattle.release_check.specs.Folder.{release_with}
use Rattle.installer.specs.Serving.{HasHead, IsServed, IsStated, stated_content, stated_contents}

-- ---- one file

-- the first bytes of a file, one more than these, are these exactly where the file is
whole : (bytes w : List ℕ) → take (length bytes + 1) w ≡ bytes → w ≡ bytes
whole bytes w e =
    let short : length w ≤ length bytes + 1 = omega (arith, length-take (length bytes + 1) w, ap length e) in
    sym (take_all (length bytes + 1) w short) ∙ e

first_bytes : (bytes found : List ℕ) (o : Option (List ℕ)) → option_map (take (length bytes + 1)) o ≡ Some found → (found ≡ bytes) ↔ (o ≡ Some bytes)
first_bytes bytes found None e = absurd (cc)
first_bytes bytes found (Some w) e =
    let is : take (length bytes + 1) w ≡ found = same_Some _ _ e in (
      λ same. ap Some (whole bytes w (is ∙ same)),
      λ some. let same : w ≡ bytes = same_Some _ _ some in sym is ∙ ap (take (length bytes + 1)) same ∙ take_all (length bytes + 1) bytes (omega arith),
    )

pub file_is : (files : List File) (path bytes found : List ℕ) → option_map (take (length bytes + 1)) (file_at files path) ≡ Some found
    → (found ≡ bytes) ↔ (file_at files path ≡ Some bytes)
file_is files path bytes found e = first_bytes bytes found (file_at files path) e

-- ---- one zone

abbrev pub content_with : ManifestZone → Option (List ℕ) → Option ContentData
content_with z o = option_map (λ bytes. record { tzid = z.tzid; aliases = rising_by (λ a. a) z.aliases; file = bytes }) o

with_file : (z : ManifestZone) (c : ContentData) (o : Option (List ℕ))
    → content_with z o ≡ Some c → (z.tzid ≡ c.tzid) × (rising_by (λ a. a) z.aliases ≡ c.aliases) × (o ≡ Some c.file)
with_file z c None e = absurd (cc)
with_file z c (Some bytes) e =
    let same : record { tzid = z.tzid; aliases = rising_by (λ a. a) z.aliases; file = bytes } ≡ c = same_Some _ _ e in (
      ap (λ (d : ContentData). d.tzid) same,
      ap (λ (d : ContentData). d.aliases) same,
      ap (λ (d : ContentData). Some d.file) same,
    )

pub zone_names : (files : List File) (z : ManifestZone) (c : ContentData) → stated_content files z ≡ Some c
    → (z.tzid ≡ c.tzid) × (rising_by (λ a. a) z.aliases ≡ c.aliases)
zone_names files z c e = let h = with_file z c (file_at files z.file) e in (h.0, h.1)

-- a zone whose names are known
pub zone_is : (files : List File) (z : ManifestZone) (c : ContentData) → z.tzid ≡ c.tzid → rising_by (λ a. a) z.aliases ≡ c.aliases
    → (file_at files z.file ≡ Some c.file) ↔ (stated_content files z ≡ Some c)
zone_is files z c tzid aliases = (
  λ f. ap (content_with z) f ∙ (λ i. Some (record { tzid = tzid i; aliases = aliases i; file = c.file })),
  λ e. (with_file z c (file_at files z.file) e).2,
)

-- ---- all zones

both : (o : Option ContentData) (os : Option (List ContentData)) (c : ContentData) (cs : List ContentData)
    → option_and_then (λ d. option_map (λ ds. d ∷ ds) os) o ≡ Some (c ∷ cs) → (o ≡ Some c) × (os ≡ Some cs)
both None os c cs e = absurd (cc)
both (Some d) None c cs e = absurd (cc)
both (Some d) (Some ds) c cs e = (cc, cc)

of_both : (o : Option ContentData) (os : Option (List ContentData)) (c : ContentData) (cs : List ContentData)
    → o ≡ Some c → os ≡ Some cs → option_and_then (λ d. option_map (λ ds. d ∷ ds) os) o ≡ Some (c ∷ cs)
of_both o os c cs e f = rw (e, f) refl

-- the first is so, and the others are
pub zones_parts : (files : List File) (z : ManifestZone) (zs : List ManifestZone) (c : ContentData) (cs : List ContentData)
    → (stated_contents files (z ∷ zs) ≡ Some (c ∷ cs)) ↔ ((stated_content files z ≡ Some c) × (stated_contents files zs ≡ Some cs))
zones_parts files z zs c cs = (
  both (stated_content files z) (stated_contents files zs) c cs,
  λ h. of_both (stated_content files z) (stated_contents files zs) c cs h.0 h.1,
)

pub drop_got : {X : Type 0} (xs : List X) (i : ℕ) (x : X) → slice_get xs i ≡ Some x → drop i xs ≡ x ∷ drop (i + 1) xs
drop_got xs i x e = drop_more xs i x (slice_get_within xs i x e) ∙ ap (λ y. y ∷ drop (i + 1) xs) (get_or_from_slice_get xs i x x e)

-- the zones from a place on
abbrev pub AreFrom : List ManifestZone → List ContentData → ℕ → List File → Type 0
AreFrom zs cs i files = stated_contents files (drop i zs) ≡ Some (drop i cs)

pub from_parts : (zs : List ManifestZone) (cs : List ContentData) (i : ℕ) (z : ManifestZone) (c : ContentData)
    → slice_get zs i ≡ Some z → slice_get cs i ≡ Some c → (files : List File)
    → AreFrom zs cs i files ↔ ((stated_content files z ≡ Some c) × AreFrom zs cs (i + 1) files)
from_parts zs cs i z c hz hc files =
    let parts = zones_parts files z (drop (i + 1) zs) c (drop (i + 1) cs) in
    rw (drop_got zs i z hz, drop_got cs i c hc) parts

pub from_end : (zs : List ManifestZone) (cs : List ContentData) (i : ℕ) → length zs ≤ i → length cs ≤ i → (files : List File) → AreFrom zs cs i files
from_end zs cs i hz hc files = rw (drop_all i zs hz, drop_all i cs hc) refl

-- ---- in rising order

put_before : (y z : ManifestZone) (oy oz : Option (List ℕ)) (os : Option (List ContentData)) → is_before y.tzid z.tzid ≡ true
    → option_and_then (λ d. option_map (λ ds. d ∷ ds) (option_and_then (λ c. option_map (put_by (λ e. e.tzid) c) os) (content_with z oz))) (content_with y oy)
    ≡ option_and_then (λ c. option_map (put_by (λ e. e.tzid) c) (option_and_then (λ d. option_map (λ ds. d ∷ ds) os) (content_with y oy))) (content_with z oz)
put_before y z None None os h = refl
put_before y z None (Some bz) os h = refl
put_before y z (Some by) None os h = refl
put_before y z (Some by) (Some bz) None h = refl
put_before y z (Some by) (Some bz) (Some cs) h = rw h refl

put_here : (y z : ManifestZone) (oy oz : Option (List ℕ)) (os : Option (List ContentData)) → is_before y.tzid z.tzid ≡ false
    → option_and_then (λ c. option_map (λ cs. c ∷ cs) (option_and_then (λ d. option_map (λ ds. d ∷ ds) os) (content_with y oy))) (content_with z oz)
    ≡ option_and_then (λ c. option_map (put_by (λ e. e.tzid) c) (option_and_then (λ d. option_map (λ ds. d ∷ ds) os) (content_with y oy))) (content_with z oz)
put_here y z None None os h = refl
put_here y z None (Some bz) os h = refl
put_here y z (Some by) None os h = refl
put_here y z (Some by) (Some bz) None h = refl
put_here y z (Some by) (Some bz) (Some cs) h = rw h refl

put_one : (z : ManifestZone) (o : Option (List ℕ)) → option_and_then (λ c. option_map (λ cs. c ∷ cs) (Some [])) (content_with z o)
    ≡ option_and_then (λ c. option_map (put_by (λ (e : ContentData). e.tzid) c) (Some [])) (content_with z o)
put_one z None = refl
put_one z (Some bytes) = refl

stated_put : (files : List File) (z : ManifestZone) (zs : List ManifestZone) → stated_contents files (put_by (λ y. y.tzid) z zs)
    ≡ option_and_then (λ c. option_map (put_by (λ e. e.tzid) c) (stated_contents files zs)) (stated_content files z)
stated_put files z [] = put_one z (file_at files z.file)
stated_put files z (y ∷ ys) = by (is_before y.tzid z.tzid) refl (stated_put files z ys)
  where
    by : (b : Bool) → is_before y.tzid z.tzid ≡ b
        → stated_contents files (put_by (λ x. x.tzid) z ys)
        ≡ option_and_then (λ c. option_map (put_by (λ e. e.tzid) c) (stated_contents files ys)) (stated_content files z)
        → stated_contents files (if b then y ∷ put_by (λ x. x.tzid) z ys else z ∷ y ∷ ys)
        ≡ option_and_then (λ c. option_map (put_by (λ e. e.tzid) c) (stated_contents files (y ∷ ys))) (stated_content files z)
    by true h more =
        ap (λ os. option_and_then (λ d. option_map (λ ds. d ∷ ds) os) (stated_content files y)) more
        ∙ put_before y z (file_at files y.file) (file_at files z.file) (stated_contents files ys) h
    by false h more = put_here y z (file_at files y.file) (file_at files z.file) (stated_contents files ys) h

rising_one : (z : ManifestZone) (o : Option (List ℕ)) (os : Option (List ContentData))
    → option_and_then (λ c. option_map (put_by (λ (e : ContentData). e.tzid) c) (option_map (rising_by (λ (e : ContentData). e.tzid)) os)) (content_with z o)
    ≡ option_map (rising_by (λ (e : ContentData). e.tzid)) (option_and_then (λ c. option_map (λ cs. c ∷ cs) os) (content_with z o))
rising_one z None os = refl
rising_one z (Some bytes) None = refl
rising_one z (Some bytes) (Some cs) = refl

-- the zones in rising order state what they state in any order, in rising order
pub stated_rising : (files : List File) (zs : List ManifestZone)
    → stated_contents files (rising_by (λ z. z.tzid) zs) ≡ option_map (rising_by (λ c. c.tzid)) (stated_contents files zs)
stated_rising files [] = refl
stated_rising files (z ∷ zs) =
    stated_put files z (rising_by (λ y. y.tzid) zs)
    ∙ ap (λ os. option_and_then (λ c. option_map (put_by (λ e. e.tzid) c) os) (stated_content files z)) (stated_rising files zs)
    ∙ rising_one z (file_at files z.file) (stated_contents files zs)

-- ---- the release

abbrev without_leaps : ReleaseData → ReleaseData
without_leaps r = record r { leaps = None }

with_head : (m : Manifest) (r : ReleaseData) (o : Option (List ContentData)) → HasHead m r → option_map (rising_by (λ c. c.tzid)) o ≡ Some r.contents
    → option_map (λ contents. release_with m contents None) o ≡ Some (without_leaps r)
with_head m r None head e = absurd (cc)
with_head m r (Some cs) head e =
    let contents : rising_by (λ (c : ContentData). c.tzid) cs ≡ r.contents = same_Some _ _ e in
    λ i. Some (record { stamp = head.stamp i; publisher = head.publisher i; version = head.version i; contents = contents i; leaps = None })

of_head : (m : Manifest) (r : ReleaseData) (o : Option (List ContentData)) → option_map (λ contents. release_with m contents None) o ≡ Some (without_leaps r)
    → HasHead m r × (option_map (rising_by (λ c. c.tzid)) o ≡ Some r.contents)
of_head m r None e = absurd (cc)
of_head m r (Some cs) e =
    let same : release_with m cs None ≡ without_leaps r = same_Some _ _ e in (
      record {
        stamp = ap (λ (x : ReleaseData). x.stamp) same;
        publisher = ap (λ (x : ReleaseData). x.publisher) same;
        version = ap (λ (x : ReleaseData). x.version) same;
      },
      ap (λ (x : ReleaseData). Some x.contents) same,
    )

pub stated_head : (files : List File) (m : Manifest) (r : ReleaseData) → IsStated files m r → HasHead m r
stated_head files m r h = (of_head m r (stated_contents files m.zones) h).0

-- a release whose head is known
pub release_is : (files : List File) (m : Manifest) (r : ReleaseData) → HasHead m r
    → (stated_contents files (rising_by (λ z. z.tzid) m.zones) ≡ Some r.contents) ↔ IsStated files m r
release_is files m r head = (
  λ e. with_head m r (stated_contents files m.zones) head (sym (stated_rising files m.zones) ∙ e),
  λ h. stated_rising files m.zones ∙ (of_head m r (stated_contents files m.zones) h).1,
)

-- as many zones as the manifest has
stated_count : (files : List File) (zs : List ManifestZone) (cs : List ContentData) → stated_contents files zs ≡ Some cs → length zs ≡ length cs
stated_count files [] cs e = ap length (same_Some _ _ e)
stated_count files (z ∷ zs) [] e = absurd (some_more (stated_content files z) (stated_contents files zs) e)
  where
    some_more : (o : Option ContentData) (os : Option (List ContentData)) → option_and_then (λ d. option_map (λ ds. d ∷ ds) os) o ≡ Some [] → ⊥
    some_more None os f = cc f
    some_more (Some d) None f = cc f
    some_more (Some d) (Some ds) f = cc f
stated_count files (z ∷ zs) (c ∷ cs) e =
    omega (arith, stated_count files zs cs ((both (stated_content files z) (stated_contents files zs) c cs e).1))

pub zones_differ : {R : Type 0} (f : R → ManifestZone) (borrowed : List R) (cs : List ContentData) → (length borrowed ≡ length cs → ⊥)
    → (files : List File) → stated_contents files (map f borrowed) ≡ Some cs → ⊥
zones_differ f borrowed cs other files e = other (sym (length-map borrowed f) ∙ stated_count files (map f borrowed) cs e)

-- ---- the last release

pub served_as : (files : List File) (m : Manifest) (H : List ReleaseData) (r : ReleaseData) → last_release H ≡ Some r
    → IsStated files m r ↔ IsServed files m H
served_as files m H r last = by (last_release H) last
  where
    by : (o : Option ReleaseData) → o ≡ Some r → IsStated files m r ↔ IsSomeAnd o (IsStated files m)
    by None e = absurd (cc)
    by (Some x) e =
        let same : x ≡ r = same_Some _ _ e in
        (λ h. subst (IsStated files m) (sym same) h, λ h. subst (IsStated files m) same h)

-- ---- two rows, item by item

-- an item of a row that is borrowed
pub borrowed_at : {R X : Type 0} (f : R → X) (borrowed : List R) (i : ℕ) (r : R) → i < length borrowed → r ≡ get_or borrowed i r → slice_get (map f borrowed) i ≡ Some (f r)
borrowed_at f borrowed i r less is = slice_get-map f borrowed i ∙ ap (option_map f) (slice_get_read borrowed (length borrowed) i r refl less is)

abbrev pub Agree : {X : Type 0} → List X → List X → ℕ → Type 0
Agree xs ys i = (xs ≡ ys) ↔ (drop i xs ≡ drop i ys)

heads_of : {X : Type 0} (x y : X) (xs ys : List X) → x ≡ y → (x ∷ xs ≡ y ∷ ys) ↔ (xs ≡ ys)
heads_of x y xs ys same = (λ e. cc, λ e. cc)

pub agree_next : {X : Type 0} (xs ys : List X) (i : ℕ) (x y : X) → slice_get xs i ≡ Some x → slice_get ys i ≡ Some y → x ≡ y → Agree xs ys i
    → Agree xs ys (i + 1)
agree_next xs ys i x y hx hy same agree =
    let heads = heads_of x y (drop (i + 1) xs) (drop (i + 1) ys) same in
    let now : Agree xs ys i = agree in (
      λ e. heads.0 (sym (drop_got xs i x hx) ∙ now.0 e ∙ drop_got ys i y hy),
      λ e. now.1 (drop_got xs i x hx ∙ heads.1 e ∙ sym (drop_got ys i y hy)),
    )

pub differ_at : {X : Type 0} (xs ys : List X) (i : ℕ) (x y : X) → slice_get xs i ≡ Some x → slice_get ys i ≡ Some y → (x ≡ y → ⊥) → xs ≡ ys → ⊥
differ_at xs ys i x y hx hy differ e = differ (same_Some x y (sym hx ∙ ap (λ zs. slice_get zs i) e ∙ hy))

pub agree_all : {X : Type 0} (xs ys : List X) (i : ℕ) → length xs ≤ i → length ys ≤ i → Agree xs ys i → xs ≡ ys
agree_all xs ys i hx hy agree = agree.1 (drop_all i xs hx ∙ sym (drop_all i ys hy))

-- the same by a test of two items
pub agree_text : (xs ys : List (List ℕ)) (i : ℕ) (x y : List ℕ) (so : Bool) → slice_get xs i ≡ Some x → slice_get ys i ≡ Some y
    → IsTrue so ↔ (x ≡ y) → so ≡ true → Agree xs ys i → Agree xs ys (i + 1)
agree_text xs ys i x y so hx hy test is agree = agree_next xs ys i x y hx hy (test.0 is) agree

pub texts_differ : (xs ys : List (List ℕ)) (i : ℕ) (x y : List ℕ) (so : Bool) → slice_get xs i ≡ Some x → slice_get ys i ≡ Some y
    → IsTrue so ↔ (x ≡ y) → so ≡ false → IsTrue false ↔ (xs ≡ ys)
texts_differ xs ys i x y so hx hy test is =
    (λ t. absurd (cc), λ e. absurd (differ_at xs ys i x y hx hy (λ same. let t = test.1 same in cc (t, is)) e))

pub lengths_differ : {R : Type 0} (f : R → List ℕ) (borrowed : List R) (ys : List (List ℕ)) → (length borrowed ≡ length ys → ⊥) → IsTrue false ↔ (map f borrowed ≡ ys)
lengths_differ f borrowed ys other = (λ t. absurd (cc), λ e. absurd (other (sym (length-map borrowed f) ∙ ap length e)))

-- ---- an item that is held

pub content_held : {E D C : Type 0} (entry : E → D) (content : D → C) (held : List E) (all : List D) (i : ℕ) (d : D)
    → map entry held ≡ all → slice_get all i ≡ Some d → slice_get (map (λ h. content (entry h)) held) i ≡ Some (content d)
content_held {E = E} {D = D} {C = C} entry content held all i d same e =
    by (slice_get held i) refl (sym (slice_get-map entry held i) ∙ ap (λ xs. slice_get xs i) same ∙ e)
  where
    by : (o : Option E) → slice_get held i ≡ o → option_map entry o ≡ Some d → slice_get (map (λ h. content (entry h)) held) i ≡ Some (content d)
    by None is f = absurd (cc)
    by (Some h) is f =
        slice_get-map (λ x. content (entry x)) held i ∙ ap (option_map (λ x. content (entry x))) is ∙ ap (λ x. Some (content x)) (same_Some (entry h) d f)
