-- Which histories a catalogue of zones stands for.
use Rattle.std.specs.Prelude.{ℕ, List}
use Rattle.catalogue.specs.Releases.{ReleaseData}
use Rattle.catalogue.specs.Holdings.{ForEachHistory, HasHistory}
use Rattle.catalogue.specs.declared.holding.Catalogue.{Catalogue}
use Rattle.zone_meaning.specs.Sound.{IsSound}

-- the bytes of a zone's file, as which a zone is seen
abbrev pub zone_bytes : List ℕ → List ℕ
zone_bytes zone = zone

-- a fact of each history that the catalogue stands for
abbrev pub ForEachZoneHistory : Catalogue (List ℕ) → (List ReleaseData → Type 0) → Type 0
ForEachZoneHistory c P = ForEachHistory zone_bytes IsSound c P

-- the catalogue stands for some history
abbrev pub HasZoneHistory : Catalogue (List ℕ) → Type 0
HasZoneHistory c = HasHistory zone_bytes IsSound c
