-- A value has a manifest exactly where it has no fault, and has at most one.
use Rattle.std.proofs.Common.{◌≡◌, ℕ, ◌+◌, Bool, true, false, cond, List, [], ◌∷◌, ◌++◌, refl, sym, ap, ◌∙◌, Option, None, Some, subst}
use Rattle.std.specs.Prelude.{codes, ℤ, ◌&&◌, int_le, int_lt, T, unwrap_or}
use Rattle.std.specs.Option.{option_or, option_and_then, option_map_or, is_some}
use Rattle.std.proofs.lemmas.Option.{same_Some}
use Rattle.std.specs.Int.Signed.{le_z_yes, lt_z_yes}
use Rattle.std.proofs.lemmas.Float.{T_from_true}
use Rattle.td_civil.specs.declared.moment_type.TheConstants.{LO, HI}
use Rattle.json.specs.Json.{Json, null, boolean, number, string, array, object, Items, item, no_items}
use Rattle.json.specs.Find.{get, as_str, as_array}
use Rattle.td_base.specs.Names.{is_label, is_file_name}
use Rattle.td_civil.specs.Bounds.{HasMeaning, has_meaning}
use Rattle.td_civil.specs.Reading.{moment_in, is_date_text}
use Rattle.td_civil.specs.declared.moment_type.Moment.{Moment}
use Rattle.release_manifest.specs.declared.manifest_fault.Path.{Path}
use Rattle.release_manifest.specs.declared.manifest_fault.Path.TheVariants as path
use Rattle.release_manifest.specs.declared.manifest_fault.ManifestFault.{ManifestFault}
use Rattle.release_manifest.specs.declared.manifest_type.Manifest.{Manifest}
use Rattle.release_manifest.specs.declared.manifest_type.ManifestZone.{ManifestZone}
use Rattle.release_manifest.specs.declared.manifest_type.ManifestLeaps.{ManifestLeaps}
use Rattle.release_manifest.specs.Checks.{Check, first_failing, is_stamp_text, object_checks, text_checks, form_checks, each_checks, alias_checks}
use Rattle.release_manifest.specs.Checks.{zone_checks, zones_checks, leap_checks, manifest_checks, document_fault}
use Rattle.release_manifest.specs.Meaning.{IsForm, IsStampOf, AllAre, IsText, AreAliases, IsZone, AreZonesOf, IsLeaps, AreLeaps, IsManifest}
use Rattle.release_manifest.proofs.CheckLemmas.{first_failing-append}

-- ---- checks, apart

pub cond_none : (b : Bool) (o : Option ManifestFault) (f : ManifestFault) → cond b o (Some f) ≡ None → (b ≡ true) × (o ≡ None)
cond_none true o f h = (refl, h)
cond_none false o f h = cc

or_none : (a b : Option ManifestFault) → option_or a b ≡ None → (a ≡ None) × (b ≡ None)
or_none None b h = (refl, h)
or_none (Some f) b h = cc

none_of_both : (a b : List Check) → first_failing (a ++ b) ≡ None → (first_failing a ≡ None) × (first_failing b ≡ None)
none_of_both a b h = or_none _ _ (sym (first_failing-append a b) ∙ h)

none_of_three : (a b c : List Check) → first_failing (a ++ b ++ c) ≡ None
    → (first_failing a ≡ None) × (first_failing b ≡ None) × (first_failing c ≡ None)
none_of_three a b c h =
    let last = none_of_both (a ++ b) c h in
    let front = none_of_both a b last.0 in
    (front.0, front.1, last.1)

none_of_four : (a b c d : List Check) → first_failing (a ++ b ++ c ++ d) ≡ None
    → (first_failing a ≡ None) × (first_failing b ≡ None) × (first_failing c ≡ None) × (first_failing d ≡ None)
none_of_four a b c d h =
    let last = none_of_both (a ++ b ++ c) d h in
    let front = none_of_three a b c last.0 in
    (front.0, front.1, front.2, last.1)

none_in_both : (a b : List Check) → first_failing a ≡ None → first_failing b ≡ None → first_failing (a ++ b) ≡ None
none_in_both a b p q = simp (first_failing-append, p, q)

there : {A : Type 0} (o : Option A) → is_some o ≡ true → (x : A) × (o ≡ Some x)
there None h = cc
there (Some x) h = (x, refl)

spelled : (o : Option ℤ) → option_map_or has_meaning o false ≡ true → (m : ℤ) × (o ≡ Some m) × (has_meaning m ≡ true)
spelled None h = cc
spelled (Some m) h = (m, refl, h)

-- ---- members

-- what has a text as a member is an object
object_passes : (at : Path) (d : Json) (name text : List ℕ) → option_and_then as_str (get name d) ≡ Some text
    → first_failing (object_checks at d) ≡ None
unfolding object_checks
object_passes at null name text is = cc
object_passes at (boolean b) name text is = cc
object_passes at (number n) name text is = cc
object_passes at (string s) name text is = cc
object_passes at (array ds) name text is = cc
object_passes at (object ms) name text is = refl

text_passes : (at : Path) (member : Option Json) (text : List ℕ) → option_and_then as_str member ≡ Some text
    → first_failing (text_checks at member) ≡ None
unfolding text_checks
text_passes at member text is = rw is

text_there : (at : Path) (member : Option Json) → first_failing (text_checks at member) ≡ None
    → (text : List ℕ) × (option_and_then as_str member ≡ Some text)
unfolding text_checks
text_there at member h = there (option_and_then as_str member) (cond_none _ _ _ h).0

form_passes : (form : List ℕ → Bool) (at : Path) (member : Option Json) (text : List ℕ) → IsForm form member text
    → first_failing (form_checks form at member) ≡ None
unfolding form_checks
form_passes form at member text is = rw (is.is, is.fits)

form_there : (form : List ℕ → Bool) (at : Path) (member : Option Json) → first_failing (form_checks form at member) ≡ None
    → (text : List ℕ) × IsForm form member text
unfolding form_checks
form_there form at member h =
    let parts = cond_none _ _ _ h in
    let found = there (option_and_then as_str member) parts.0 in
    let fits : form (unwrap_or (option_and_then as_str member) []) ≡ true = (cond_none _ _ _ parts.1).0 in
    (found.0, record { is = found.1; fits = rw found.1 at fits })

form_one : (form : List ℕ → Bool) (member : Option Json) (a b : List ℕ) → IsForm form member a → IsForm form member b → a ≡ b
form_one form member a b p q = same_Some a b (sym p.is ∙ q.is)

-- ---- lists

each_passes : {X : Type 0} (Is : Json → X → Type 0) (checks : ℕ → Json → List Check)
    → ((n : ℕ) (d : Json) (x : X) → Is d x → first_failing (checks n d) ≡ None)
    → (n : ℕ) (ds : Items) (xs : List X) → AllAre Is ds xs → first_failing (each_checks checks n ds) ≡ None
unfolding each_checks
each_passes Is checks passes n no_items xs all = refl
each_passes Is checks passes n (item d ds) [] all = absurd all
each_passes Is checks passes n (item d ds) (x ∷ xs) all =
    none_in_both (checks n d) _ (passes n d x all.0) (each_passes Is checks passes (n + 1) ds xs all.1)

each_there : {X : Type 0} (Is : Json → X → Type 0) (checks : ℕ → Json → List Check)
    → ((n : ℕ) (d : Json) → first_failing (checks n d) ≡ None → (x : X) × Is d x)
    → (n : ℕ) (ds : Items) → first_failing (each_checks checks n ds) ≡ None → (xs : List X) × AllAre Is ds xs
unfolding each_checks
each_there Is checks finds n no_items h = ([], tt)
each_there Is checks finds n (item d ds) h =
    let parts = none_of_both (checks n d) (each_checks checks (n + 1) ds) h in
    let x = finds n d parts.0 in
    let xs = each_there Is checks finds (n + 1) ds parts.1 in
    (x.0 ∷ xs.0, (x.1, xs.1))

all_one : {X : Type 0} (Is : Json → X → Type 0) → ((d : Json) (x y : X) → Is d x → Is d y → x ≡ y)
    → (ds : Items) (xs ys : List X) → AllAre Is ds xs → AllAre Is ds ys → xs ≡ ys
all_one Is one no_items [] [] p q = refl
all_one Is one no_items [] (y ∷ ys) p q = absurd q
all_one Is one no_items (x ∷ xs) ys p q = absurd p
all_one Is one (item d ds) [] ys p q = absurd p
all_one Is one (item d ds) (x ∷ xs) [] p q = absurd q
all_one Is one (item d ds) (x ∷ xs) (y ∷ ys) p q =
    ap (λ v. v ∷ xs) (one d x y p.0 q.0) ∙ ap (λ vs. y ∷ vs) (all_one Is one ds xs ys p.1 q.1)

-- ---- aliases

aliases_pass : (zone : ℕ) (member : Option Json) (texts : List (List ℕ)) → AreAliases member texts
    → first_failing (alias_checks zone member) ≡ None
unfolding alias_checks
aliases_pass zone None texts are = refl
aliases_pass zone (Some d) texts are =
    rw are.1
    (each_passes IsText (λ n alias. text_checks (path.Alias zone n) (Some alias))
    (λ n alias text is. text_passes (path.Alias zone n) (Some alias) text is) 0 are.0 texts are.2)

aliases_there : (zone : ℕ) (member : Option Json) → first_failing (alias_checks zone member) ≡ None
    → (texts : List (List ℕ)) × AreAliases member texts
unfolding alias_checks
aliases_there zone None h = ([], refl)
aliases_there zone (Some d) h =
    let parts = cond_none _ _ _ h in
    let items = there (as_array d) parts.0 in
    let all = each_there IsText (λ n alias. text_checks (path.Alias zone n) (Some alias))
    (λ n alias passes. text_there (path.Alias zone n) (Some alias) passes) 0 items.0 (rw items.1 at parts.1) in
    (all.0, (items.0, items.1, all.1))

text_one : (d : Json) (a b : List ℕ) → IsText d a → IsText d b → a ≡ b
text_one d a b p q = same_Some a b (sym p ∙ q)

aliases_one : (member : Option Json) (a b : List (List ℕ)) → AreAliases member a → AreAliases member b → a ≡ b
aliases_one None a b p q = p ∙ sym q
aliases_one (Some d) a b p q =
    let same : p.0 ≡ q.0 = same_Some p.0 q.0 (sym p.1 ∙ q.1) in
    all_one IsText text_one q.0 a b (subst (λ items. AllAre IsText items a) same p.2) q.2

-- ---- zones

zone_passes : (n : ℕ) (d : Json) (z : ManifestZone) → IsZone d z → first_failing (zone_checks n d) ≡ None
unfolding zone_checks
zone_passes n d z is =
    simp (
      first_failing-append,
      object_passes (path.Zone n) d (codes "tzid") z.tzid is.tzid,
      text_passes (path.Tzid n) (get (codes "tzid") d) z.tzid is.tzid,
      form_passes is_file_name (path.File n) (get (codes "file") d) z.file is.file,
      aliases_pass n (get (codes "aliases") d) z.aliases is.aliases,
    )

zone_there : (n : ℕ) (d : Json) → first_failing (zone_checks n d) ≡ None → (z : ManifestZone) × IsZone d z
unfolding zone_checks
zone_there n d h =
    let parts = none_of_four (object_checks (path.Zone n) d) (text_checks (path.Tzid n) (get (codes "tzid") d))
    (form_checks is_file_name (path.File n) (get (codes "file") d)) (alias_checks n (get (codes "aliases") d)) h in
    let tzid = text_there _ _ parts.1 in
    let file = form_there is_file_name _ _ parts.2 in
    let aliases = aliases_there n _ parts.3 in (
      record { tzid = tzid.0; file = file.0; aliases = aliases.0 },
      record { tzid = tzid.1; file = file.1; aliases = aliases.1 },
    )

abbrev zone_of : List ℕ → List ℕ → List (List ℕ) → ManifestZone
zone_of tzid file aliases = record { tzid = tzid; file = file; aliases = aliases }

zone_one : (d : Json) (a b : ManifestZone) → IsZone d a → IsZone d b → a ≡ b
zone_one d a b p q =
    ap (λ tzid. zone_of tzid a.file a.aliases) (same_Some a.tzid b.tzid (sym p.tzid ∙ q.tzid))
    ∙ ap (λ file. zone_of b.tzid file a.aliases) (form_one is_file_name _ a.file b.file p.file q.file)
    ∙ ap (λ aliases. zone_of b.tzid b.file aliases) (aliases_one _ a.aliases b.aliases p.aliases q.aliases)

zones_pass : (member : Option Json) (zs : List ManifestZone) → AreZonesOf member zs → first_failing (zones_checks member) ≡ None
unfolding zones_checks
zones_pass member zs are = rw are.is (each_passes IsZone zone_checks zone_passes 0 are.items zs are.zones)

zones_there : (member : Option Json) → first_failing (zones_checks member) ≡ None → (zs : List ManifestZone) × AreZonesOf member zs
unfolding zones_checks
zones_there member h =
    let parts = cond_none _ _ _ h in
    let items = there (option_and_then as_array member) parts.0 in
    let all = each_there IsZone zone_checks zone_there 0 items.0 (rw items.1 at parts.1) in
    (all.0, record { items = items.0; is = items.1; zones = all.1 })

zones_one : (member : Option Json) (a b : List ManifestZone) → AreZonesOf member a → AreZonesOf member b → a ≡ b
zones_one member a b p q =
    let same : p.items ≡ q.items = same_Some p.items q.items (sym p.is ∙ q.is) in
    all_one IsZone zone_one q.items a b (subst (λ items. AllAre IsZone items a) same p.zones) q.zones

-- ---- leap seconds

leaps_pass : (member : Option Json) (leaps : Option ManifestLeaps) → AreLeaps member leaps → first_failing (leap_checks member) ≡ None
unfolding leap_checks
leaps_pass None None are = refl
leaps_pass None (Some l) are = absurd are
leaps_pass (Some d) None are = absurd are
leaps_pass (Some d) (Some l) are =
    simp (
      first_failing-append,
      object_passes path.Leaps d (codes "file") l.file are.file.is,
      form_passes is_file_name path.LeapFile (get (codes "file") d) l.file are.file,
      form_passes is_date_text path.Expires (get (codes "expires") d) l.expires are.expires,
    )

leaps_there : (member : Option Json) → first_failing (leap_checks member) ≡ None
    → (leaps : Option ManifestLeaps) × AreLeaps member leaps
unfolding leap_checks
leaps_there None h = (None, tt)
leaps_there (Some d) h =
    let parts = none_of_three (object_checks path.Leaps d) (form_checks is_file_name path.LeapFile (get (codes "file") d))
    (form_checks is_date_text path.Expires (get (codes "expires") d)) h in
    let file = form_there is_file_name _ _ parts.1 in
    let expires = form_there is_date_text _ _ parts.2 in
    (Some (record { file = file.0; expires = expires.0 }), record { file = file.1; expires = expires.1 })

abbrev leaps_of : List ℕ → List ℕ → ManifestLeaps
leaps_of file expires = record { file = file; expires = expires }

leap_one : (d : Json) (a b : ManifestLeaps) → IsLeaps d a → IsLeaps d b → a ≡ b
leap_one d a b p q =
    ap (λ file. leaps_of file a.expires) (form_one is_file_name _ a.file b.file p.file q.file)
    ∙ ap (λ expires. leaps_of b.file expires) (form_one is_date_text _ a.expires b.expires p.expires q.expires)

leaps_one : (member : Option Json) (a b : Option ManifestLeaps) → AreLeaps member a → AreLeaps member b → a ≡ b
leaps_one None None None p q = refl
leaps_one None None (Some y) p q = absurd q
leaps_one None (Some x) b p q = absurd p
leaps_one (Some d) None b p q = absurd p
leaps_one (Some d) (Some x) None p q = absurd q
leaps_one (Some d) (Some x) (Some y) p q = ap Some (leap_one d x y p q)

-- ---- the stamp

true_from_T : (b : Bool) → T b → b ≡ true
true_from_T true h = refl
true_from_T false h = absurd h

both_true : (a b : Bool) → (a && b) ≡ true → (a ≡ true) × (b ≡ true)
both_true true b h = (refl, h)
both_true false b h = cc

within_test : (m : ℤ) → HasMeaning m → has_meaning m ≡ true
within_test m h =
    let low : int_le LO m ≡ true = true_from_T _ h.0.le in
    let high : int_lt m HI ≡ true = true_from_T _ h.1.lt in
    rw (low, high)

within_fact : (m : ℤ) → has_meaning m ≡ true → HasMeaning m
within_fact m h =
    let tests = both_true (int_le LO m) (int_lt m HI) h in
    (le_z_yes (T_from_true _ tests.0), lt_z_yes (T_from_true _ tests.1))

stamp_passes : (member : Option Json) (m : Moment) → IsStampOf member m
    → first_failing (form_checks is_stamp_text path.Stamp member) ≡ None
unfolding form_checks is_stamp_text
stamp_passes member m is = rw (is.is, is.spells, within_test m.seconds is.within)

stamp_there : (member : Option Json) → first_failing (form_checks is_stamp_text path.Stamp member) ≡ None
    → (m : Moment) × IsStampOf member m
unfolding is_stamp_text
stamp_there member h =
    let text = form_there is_stamp_text path.Stamp member h in
    let found = spelled (moment_in text.0) text.1.fits in
    (record { seconds = found.0 }, record { text = text.0; is = text.1.is; spells = found.1; within = within_fact found.0 found.2 })

abbrev moment_at : ℤ → Moment
moment_at seconds = record { seconds = seconds }

stamp_one : (member : Option Json) (a b : Moment) → IsStampOf member a → IsStampOf member b → a ≡ b
stamp_one member a b p q =
    let same : p.text ≡ q.text = same_Some p.text q.text (sym p.is ∙ q.is) in
    let seconds : a.seconds ≡ b.seconds = same_Some a.seconds b.seconds (sym p.spells ∙ ap moment_in same ∙ q.spells) in
    ap moment_at seconds

-- ---- the whole

pub no_fault : (d : Json) (m : Manifest) → IsManifest d m → document_fault d ≡ None
unfolding document_fault manifest_checks
no_fault d m is =
    simp (
      first_failing-append,
      object_passes path.Whole d (codes "publisher") m.publisher is.publisher.is,
      form_passes is_label path.Publisher (get (codes "publisher") d) m.publisher is.publisher,
      form_passes is_label path.Version (get (codes "version") d) m.version is.version,
      stamp_passes (get (codes "stamp") d) m.stamp is.stamp,
      zones_pass (get (codes "zones") d) m.zones is.zones,
      leaps_pass (get (codes "leapseconds") d) m.leaps is.leaps,
    )

pub has_manifest : (d : Json) → document_fault d ≡ None → (m : Manifest) × IsManifest d m
unfolding document_fault manifest_checks
has_manifest d h =
    let last = none_of_both
    (object_checks path.Whole d ++ form_checks is_label path.Publisher (get (codes "publisher") d)
    ++ form_checks is_label path.Version (get (codes "version") d)
    ++ form_checks is_stamp_text path.Stamp (get (codes "stamp") d)
    ++ zones_checks (get (codes "zones") d)) (leap_checks (get (codes "leapseconds") d)) h in
    let four = none_of_both
    (object_checks path.Whole d ++ form_checks is_label path.Publisher (get (codes "publisher") d)
    ++ form_checks is_label path.Version (get (codes "version") d)
    ++ form_checks is_stamp_text path.Stamp (get (codes "stamp") d)) (zones_checks (get (codes "zones") d)) last.0 in
    let parts = none_of_four (object_checks path.Whole d) (form_checks is_label path.Publisher (get (codes "publisher") d))
    (form_checks is_label path.Version (get (codes "version") d))
    (form_checks is_stamp_text path.Stamp (get (codes "stamp") d)) four.0 in
    let publisher = form_there is_label _ _ parts.1 in
    let version = form_there is_label _ _ parts.2 in
    let stamp = stamp_there _ parts.3 in
    let zones = zones_there _ four.1 in
    let leaps = leaps_there _ last.1 in (
      record { publisher = publisher.0; version = version.0; stamp = stamp.0; zones = zones.0; leaps = leaps.0 },
      record { publisher = publisher.1; version = version.1; stamp = stamp.1; zones = zones.1; leaps = leaps.1 },
    )

abbrev manifest_of : List ℕ → List ℕ → Moment → List ManifestZone → Option ManifestLeaps → Manifest
manifest_of publisher version stamp zones leaps =
    record { publisher = publisher; version = version; stamp = stamp; zones = zones; leaps = leaps }

pub one_manifest : (d : Json) (a b : Manifest) → IsManifest d a → IsManifest d b → a ≡ b
one_manifest d a b p q =
    ap (λ publisher. manifest_of publisher a.version a.stamp a.zones a.leaps)
    (form_one is_label _ a.publisher b.publisher p.publisher q.publisher)
    ∙ ap (λ version. manifest_of b.publisher version a.stamp a.zones a.leaps)
    (form_one is_label _ a.version b.version p.version q.version)
    ∙ ap (λ stamp. manifest_of b.publisher b.version stamp a.zones a.leaps) (stamp_one _ a.stamp b.stamp p.stamp q.stamp)
    ∙ ap (λ zones. manifest_of b.publisher b.version b.stamp zones a.leaps) (zones_one _ a.zones b.zones p.zones q.zones)
    ∙ ap (λ leaps. manifest_of b.publisher b.version b.stamp b.zones leaps) (leaps_one _ a.leaps b.leaps p.leaps q.leaps)
