-- What a catalogue holds of a zone.
use Rattle.std.specs.Prelude.{ℕ, ◌+◌, List, [], ◌∷◌, ◌++◌, map}
use Rattle.std.specs.Arc.{arc_value}
use Rattle.std.specs.Global.{Global}
use Rattle.std.specs.declared.sync.Arc.{Arc}
use Rattle.catalogue.specs.Releases.{ContentData, content_as_is}
use Rattle.catalogue.specs.Histories.{EntryData}
use Rattle.catalogue.specs.declared.entries.Entry.{Entry}
use Rattle.catalogue.specs.declared.entries.Held.{Held}
use Rattle.catalogue.specs.declared.names.Name.{Name}

-- an entry as plain data, where `bytes` tells the bytes of a zone's file
abbrev pub entry_data : {Z : Type 0} → (Z → List ℕ) → Entry Z → EntryData
entry_data bytes e = record {
  content = content_as_is bytes e.content;
  tag = e.tag;
  changed = e.changed;
  stamp = e.stamp.seconds;
  publisher = e.publisher;
  version = e.version;
}

-- what is held of a zone: its entry, its content and its digest
abbrev pub held_entry : {Z : Type 0} → (Z → List ℕ) → Arc (Held Z) Global → EntryData
held_entry {Z} bytes h = entry_data bytes (arc_value {X = Held Z} h).entry

abbrev pub held_content : {Z : Type 0} → (Z → List ℕ) → Arc (Held Z) Global → ContentData
held_content {Z} bytes h = content_as_is bytes (arc_value {X = Held Z} h).entry.content

abbrev pub held_digest : {Z : Type 0} → Arc (Held Z) Global → List ℕ
held_digest {Z} h = (arc_value {X = Held Z} h).digest

-- the place of its last change
abbrev pub held_change : {Z : Type 0} → Arc (Held Z) Global → ℕ
held_change {Z} h = (arc_value {X = Held Z} h).entry.changed

-- the names of a zone: its identifier and its aliases
abbrev pub held_names : {Z : Type 0} → Arc (Held Z) Global → List (List ℕ)
held_names {Z} h =
    (arc_value {X = Held Z} h).entry.content.tzid ∷ (arc_value {X = Held Z} h).entry.content.aliases

-- names, each with the number of its zone
abbrev pub names_at : ℕ → List (List ℕ) → List Name
names_at n texts = map (λ t. record { text = t; zone = n }) texts

-- an index of names
abbrev pub indexed_names : Arc (List Name) Global → List Name
indexed_names index = arc_value {X = List Name} index

-- the names of zones that are numbered from this number on
abbrev pub numbered : ℕ → List (List (List ℕ)) → List Name
numbered n [] = []
numbered n (texts ∷ rest) = names_at n texts ++ numbered (n + 1) rest
