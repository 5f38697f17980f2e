-- The leap seconds of a manifest that was read expire on a date.
use Rattle.std.proofs.Common.{◌≡◌, true, Option, None, Some, IfSome}
use Rattle.json.specs.Json.{Json}
use Rattle.td_civil.specs.Reading.{is_date_text}
use Rattle.release_manifest.specs.Meaning.{AreLeaps}
use Rattle.release_manifest.specs.declared.manifest_type.ManifestLeaps.{ManifestLeaps}

pub expiry_is_date : (member : Option Json) (leaps : Option ManifestLeaps) → AreLeaps member leaps → IfSome leaps (λ l. is_date_text l.expires ≡ true)
expiry_is_date None None h = tt
expiry_is_date None (Some l) h = absurd h
expiry_is_date (Some d) None h = absurd h
expiry_is_date (Some d) (Some l) h = h.expires.fits
