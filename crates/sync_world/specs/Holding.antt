-- That a mirror holds the last release of a history, and nothing else.
use Rattle.std.specs.Prelude.{List, [], length, map, None, Some, ◌≡◌}
use Rattle.catalogue.specs.Histories.{token_of}
use Rattle.catalogue.specs.Lookups.{zones_of}
use Rattle.catalogue.specs.Releases.{ContentData, ReleaseData}
use Rattle.sync_core.specs.Mirrors.{MirrorState, ZoneFile}
use Rattle.sync_core.specs.Steps.{settles}
use Rattle.sync_core.specs.declared.heard_type.Heard.{Heard}
use Rattle.sync_core.specs.declared.heard_type.Settled.TheVariants.{Holds}
use Rattle.sync_world.specs.Primaries.{Service, list_told}

-- the file that a zone has under its identifier
abbrev pub file_of : Service → ContentData → ZoneFile
file_of P c = record { tzid = c.tzid; bytes = P.served c.tzid c }

-- the token of its place, its list, and the file of each of its zones; nothing is pending and no
-- token is coming
pub record HoldsLast (P : Service) (s : MirrorState) (G : List ReleaseData) : Type 0 where
  pub token : s.token ≡ Some (token_of G (length G))
  pub entries : s.entries ≡ list_told G
  pub files : s.files ≡ map (file_of P) (zones_of G)
  pub pending : s.pending ≡ []
  pub coming : s.coming ≡ None

-- the mirror says that it holds what the primary has
abbrev pub SaysHolds : MirrorState → Heard → Type 0
SaysHolds s h = settles s h ≡ Holds
