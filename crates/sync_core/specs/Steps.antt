-- What each thing that a mirror hears does to it.
use Rattle.std.specs.Prelude.{ℕ, List, [], ◌∷◌, map, filter, Bool, not, Option, None, Some, ⊤}
use Rattle.std.specs.List.{list_any}
use Rattle.std.specs.Str.{bytes_eq}
use Rattle.td_base.specs.declared.report.Ask.{Ask}
use Rattle.td_base.specs.declared.report.Ask.TheVariants as ask
use Rattle.json_forms.specs.declared.zone_list.ListDoc.{ListDoc}
use Rattle.json_forms.specs.declared.zone_list.ListZone.{ListZone}
use Rattle.sync_core.specs.Mirrors.{MirrorState, ZoneFile, entry_name, file_name}
use Rattle.sync_core.specs.Names.{put_in, put_all}
use Rattle.sync_core.specs.declared.heard_type.Heard.{Heard}
use Rattle.sync_core.specs.declared.heard_type.Heard.TheVariants as heard
use Rattle.sync_core.specs.declared.heard_type.Settled.{Settled}
use Rattle.sync_core.specs.declared.heard_type.Settled.TheVariants.{Holds, More}

-- what is heard is of the kind that answers the ask; only a list since a token is answered by a
-- refusal of the token
abbrev pub IsAnswerTo : Ask → Heard → Type 0
IsAnswerTo (ask.List token) (heard.List doc) = ⊤
IsAnswerTo (ask.List token) (heard.Zone bytes) = ⊥
IsAnswerTo (ask.List (Some token)) heard.BadToken = ⊤
IsAnswerTo (ask.List None) heard.BadToken = ⊥
IsAnswerTo (ask.Get tzid) (heard.List doc) = ⊥
IsAnswerTo (ask.Get tzid) (heard.Zone bytes) = ⊤
IsAnswerTo (ask.Get tzid) heard.BadToken = ⊥

-- whether a name is an alias in a list
abbrev pub is_alias : List ListZone → List ℕ → Bool
is_alias zones name = list_any (λ z. list_any (bytes_eq name) z.aliases) zones

-- the zones of a list, rising; of two with one identifier the later one stands
abbrev pub rising_zones : List ListZone → List ListZone
rising_zones zones = put_all entry_name zones []

-- entries and files without those whose identifiers are aliases in a list
abbrev pub kept_entries : List ListZone → List ListZone → List ListZone
kept_entries zones entries = filter (λ z. not (is_alias zones z.tzid)) entries

abbrev pub kept_files : List ListZone → List ZoneFile → List ZoneFile
kept_files zones files = filter (λ f. not (is_alias zones f.tzid)) files

-- a list of all zones: the entries are its own, no file is kept, and all are pending
abbrev pub after_full : MirrorState → ListDoc → MirrorState
after_full s doc = record s {
  coming = Some doc.token;
  entries = rising_zones doc.zones;
  files = [];
  pending = map entry_name (rising_zones doc.zones);
}

-- zones that changed: what became an alias goes, the listed zones replace or join the entries, and
-- their files are pending
abbrev pub with_changes : MirrorState → List ℕ → List ListZone → MirrorState
with_changes s token zones = record s {
  coming = Some token;
  entries = put_all entry_name zones (kept_entries zones s.entries);
  files = kept_files zones s.files;
  pending = map entry_name (rising_zones zones);
}

-- a list of changes; where it is empty, the mirror has what the primary has, and the token moves
abbrev pub after_changes : MirrorState → List ℕ → List ListZone → MirrorState
after_changes s token [] = record s { token = Some token }
after_changes s token (z ∷ zs) = with_changes s token (z ∷ zs)

-- a list, by whether it was asked for with a token
abbrev pub after_list : Option (List ℕ) → MirrorState → ListDoc → MirrorState
after_list None s doc = after_full s doc
after_list (Some since) s doc = after_changes s doc.token doc.zones

-- the file of the first identifier that is pending
abbrev pub after_file : List (List ℕ) → MirrorState → List ℕ → MirrorState
after_file [] s bytes = s
after_file (tzid ∷ tzids) s bytes = record s {
  files = put_in file_name (record { tzid = tzid; bytes = bytes }) s.files;
  pending = tzids;
}

abbrev pub after_heard : MirrorState → Heard → MirrorState
after_heard s (heard.List doc) = after_list s.token s doc
after_heard s (heard.Zone bytes) = after_file s.pending s bytes
after_heard s heard.BadToken = record s { token = None }

-- where nothing is pending, a coming token becomes the token
abbrev pub settle : List (List ℕ) → Option (List ℕ) → MirrorState → MirrorState
settle [] None s = s
settle [] (Some token) s = record s { token = Some token; coming = None }
settle (tzid ∷ tzids) coming s = s

abbrev pub settled : MirrorState → MirrorState
settled s = settle s.pending s.coming s

-- the state after what was heard
unfoldable pub sync_step : MirrorState → Heard → MirrorState
sync_step s h = settled (after_heard s h)

-- the mirror holds what the primary has where a list since a token shows no changes, and at nothing
-- else
abbrev pub list_settles : Option (List ℕ) → List ListZone → Settled
list_settles None zones = More
list_settles (Some since) [] = Holds
list_settles (Some since) (z ∷ zs) = More

abbrev pub settles : MirrorState → Heard → Settled
settles s (heard.List doc) = list_settles s.token doc.zones
settles s (heard.Zone bytes) = More
settles s heard.BadToken = More
