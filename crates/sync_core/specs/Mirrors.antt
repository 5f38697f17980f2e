-- What a mirror holds, and what it asks next.
use Rattle.std.specs.Prelude.{ℕ, List, [], ◌∷◌, map, Option, None}
use Rattle.td_base.specs.declared.report.Ask.{Ask}
use Rattle.td_base.specs.declared.report.Ask.TheVariants as ask
use Rattle.json_forms.specs.declared.zone_list.ListZone.{ListZone}

-- the bytes of a zone's file
pub record ZoneFile : Type 0 where
  pub tzid : List ℕ
  pub bytes : List ℕ

-- by what entries and files rise
abbrev pub entry_name : ListZone → List ℕ
entry_name z = z.tzid

abbrev pub file_name : ZoneFile → List ℕ
file_name f = f.tzid

-- the token since which changes are asked, or none; the token that takes its place once nothing is
-- pending, or none; the entries that are known and the files, each rising by identifier; and the
-- identifiers whose files are still to be got, rising
pub record MirrorState : Type 0 where
  pub token : Option (List ℕ)
  pub coming : Option (List ℕ)
  pub entries : List ListZone
  pub files : List ZoneFile
  pub pending : List (List ℕ)

abbrev pub empty_mirror : MirrorState
empty_mirror = record { token = None; coming = None; entries = []; files = []; pending = [] }

abbrev pub ask_for : List (List ℕ) → Option (List ℕ) → Ask
ask_for [] token = ask.List token
ask_for (tzid ∷ tzids) token = ask.Get tzid

-- the file of the first identifier that is pending, and else a list since the token
abbrev pub ask_of : MirrorState → Ask
ask_of s = ask_for s.pending s.token

-- the files that a map keeps
abbrev pub files_kept : List (List ℕ × List ℕ) → List ZoneFile
files_kept entries = map (λ e. record { tzid = e.0; bytes = e.1 }) entries
