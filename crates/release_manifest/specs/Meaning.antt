-- The manifest that a JSON value is.
use Rattle.std.specs.Prelude.{◌≡◌, ℕ, List, [], ◌∷◌, codes, Bool, true, Option, None, Some}
use Rattle.std.specs.Prelude.{option_and_then, ⊤}
use Rattle.json.specs.Json.{Json, Items, no_items, item}
use Rattle.json.specs.Find.{get, as_str, as_array}
use Rattle.td_base.specs.Names.{is_label, is_file_name}
use Rattle.td_civil.specs.Bounds.{HasMeaning}
use Rattle.td_civil.specs.Reading.{moment_in, is_date_text}
use Rattle.td_civil.specs.declared.moment_type.Moment.{Moment}
use Rattle.release_manifest.specs.declared.manifest_type.Manifest.{Manifest}
use Rattle.release_manifest.specs.declared.manifest_type.ManifestZone.{ManifestZone}
use Rattle.release_manifest.specs.declared.manifest_type.ManifestLeaps.{ManifestLeaps}

-- the member is this text, which has the form
pub record IsForm (form : List ℕ → Bool) (member : Option Json) (text : List ℕ) : Type 0 where
  pub is : option_and_then as_str member ≡ Some text
  pub fits : form text ≡ true

-- the member is the text of this moment, which is within bounds
pub record IsStampOf (member : Option Json) (m : Moment) : Type 0 where
  pub text : List ℕ
  pub is : option_and_then as_str member ≡ Some text
  pub spells : moment_in text ≡ Some m.seconds
  pub within : HasMeaning m.seconds

-- the items are these, one for one
abbrev pub AllAre : {X : Type 0} → (Json → X → Type 0) → Items → List X → Type 0
AllAre Is no_items [] = ⊤
AllAre Is no_items (x ∷ xs) = ⊥
AllAre Is (item d ds) [] = ⊥
AllAre Is (item d ds) (x ∷ xs) = Is d x × AllAre Is ds xs

-- the value is this text
abbrev pub IsText : Json → List ℕ → Type 0
IsText d text = as_str d ≡ Some text

-- the member is a list of these texts, or it is left out and there are none
abbrev pub AreAliases : Option Json → List (List ℕ) → Type 0
AreAliases None texts = texts ≡ []
AreAliases (Some d) texts = (items : Items) × (as_array d ≡ Some items) × AllAre IsText items texts

-- the value is this zone
pub record IsZone (d : Json) (z : ManifestZone) : Type 0 where
  pub tzid : option_and_then as_str (get (codes "tzid") d) ≡ Some z.tzid
  pub file : IsForm is_file_name (get (codes "file") d) z.file
  pub aliases : AreAliases (get (codes "aliases") d) z.aliases

-- the member is a list of these zones
pub record AreZonesOf (member : Option Json) (zs : List ManifestZone) : Type 0 where
  pub items : Items
  pub is : option_and_then as_array member ≡ Some items
  pub zones : AllAre IsZone items zs

-- the value is these leap seconds
pub record IsLeaps (d : Json) (l : ManifestLeaps) : Type 0 where
  pub file : IsForm is_file_name (get (codes "file") d) l.file
  pub expires : IsForm is_date_text (get (codes "expires") d) l.expires

-- the member is these leap seconds, or it is left out and there are none
abbrev pub AreLeaps : Option Json → Option ManifestLeaps → Type 0
AreLeaps None None = ⊤
AreLeaps None (Some l) = ⊥
AreLeaps (Some d) None = ⊥
AreLeaps (Some d) (Some l) = IsLeaps d l

-- the value is this manifest
pub record IsManifest (d : Json) (m : Manifest) : Type 0 where
  pub publisher : IsForm is_label (get (codes "publisher") d) m.publisher
  pub version : IsForm is_label (get (codes "version") d) m.version
  pub stamp : IsStampOf (get (codes "stamp") d) m.stamp
  pub zones : AreZonesOf (get (codes "zones") d) m.zones
  pub leaps : AreLeaps (get (codes "leapseconds") d) m.leaps
