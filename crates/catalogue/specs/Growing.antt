-- What becomes of an entry with the next release of a history.
use Rattle.std.specs.Prelude.{ℕ, List, if◌then◌else◌}
use Rattle.catalogue.specs.Releases.{ContentData, ReleaseData}
use Rattle.catalogue.specs.Histories.{EntryData, entry_from, entry_of, has_content}

-- the entry of a zone of the next release, at its place: the one of before where the last release
-- has the content
abbrev pub entry_next : List ReleaseData → ReleaseData → ReleaseData → ℕ → ContentData → EntryData
entry_next H last next place c =
    if has_content c last then entry_of H last c else entry_from next place c
