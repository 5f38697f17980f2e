-- A mirror's state by what is found in it under a name.
use Rattle.std.proofs.Common.{ℕ, Bool, true, false, cond, Option, None, Some, List, [], ◌∷◌, map, option_map}
use Rattle.std.specs.Option.{option_or}
use Rattle.std.specs.Str.{bytes_eq}
use Rattle.td_base.specs.declared.report.Ask.{Ask}
use Rattle.json_forms.specs.declared.zone_list.ListDoc.{ListDoc}
use Rattle.json_forms.specs.declared.zone_list.ListZone.{ListZone}
use Rattle.sync_core.specs.Mirrors.{MirrorState, ZoneFile, ask_for, entry_name, file_name}
use Rattle.sync_core.specs.Names.{at_text}
use Rattle.sync_core.specs.Published.{bytes_of}
use Rattle.sync_core.specs.Steps.{is_alias, rising_zones}
use Rattle.sync_core.specs.declared.heard_type.Heard.{Heard}
use Rattle.sync_core.specs.declared.heard_type.Heard.TheVariants as heard

-- entries and files under a name
pub record StateData : Type 0 where
  pub token : Option (List ℕ)
  pub coming : Option (List ℕ)
  pub entries : List ℕ → Option ListZone
  pub files : List ℕ → Option (List ℕ)
  pub pending : List (List ℕ)

abbrev pub state_ask : StateData → Ask
state_ask s = ask_for s.pending s.token

-- the zone that a list names so
abbrev pub known : List ListZone → List ℕ → Option ListZone
known zones t = at_text entry_name zones t

abbrev pub unless : {X : Type 0} → Bool → Option X → Option X
unless true y = None
unless false y = y

abbrev pub joined : (List ℕ → Option ListZone) → List ListZone → List ℕ → Option ListZone
joined old zones t = option_or (known zones t) (unless (is_alias zones t) (old t))

abbrev pub kept : (List ℕ → Option (List ℕ)) → List ListZone → List ℕ → Option (List ℕ)
kept old zones t = unless (is_alias zones t) (old t)

abbrev pub with_file : (List ℕ → Option (List ℕ)) → List ℕ → List ℕ → List ℕ → Option (List ℕ)
with_file old name bytes t = cond (bytes_eq t name) (Some bytes) (old t)

abbrev pub pending_of : List ListZone → List (List ℕ)
pending_of zones = map entry_name (rising_zones zones)

abbrev pub token_then : List (List ℕ) → Option (List ℕ) → Option (List ℕ) → Option (List ℕ)
token_then [] coming token = option_or coming token
token_then (t ∷ ts) coming token = token

abbrev pub coming_then : List (List ℕ) → Option (List ℕ) → Option (List ℕ)
coming_then [] coming = None
coming_then (t ∷ ts) coming = coming

-- where nothing is pending, a coming token becomes the token
abbrev pub settled : StateData → StateData
settled s = record {
  token = token_then s.pending s.coming s.token;
  coming = coming_then s.pending s.coming;
  entries = s.entries;
  files = s.files;
  pending = s.pending;
}

abbrev pub after_all : StateData → ListDoc → StateData
after_all s doc = record {
  token = s.token;
  coming = Some doc.token;
  entries = known (rising_zones doc.zones);
  files = λ t. None;
  pending =
      pending_of doc.zones;
}

abbrev pub after_changes : StateData → List ℕ → List ListZone → StateData
after_changes s token [] = record { token = Some token; coming = s.coming; entries = s.entries; files = s.files; pending = s.pending }
after_changes s token (z ∷ zs) = record {
  token = s.token;
  coming = Some token;
  entries = λ t. option_or (known (rising_zones (z ∷ zs)) t) (unless (is_alias (z ∷ zs) t) (s.entries t));
  files = kept s.files (z ∷ zs);
  pending = pending_of (z ∷ zs);
}

abbrev pub after_list : Option (List ℕ) → StateData → ListDoc → StateData
after_list None s doc = after_all s doc
after_list (Some token) s doc = after_changes s doc.token doc.zones

abbrev pub after_file : List (List ℕ) → StateData → List ℕ → StateData
after_file [] s bytes = s
after_file (t ∷ ts) s bytes = record { token = s.token; coming = s.coming; entries = s.entries; files = with_file s.files t bytes; pending = ts }

abbrev pub after_heard : StateData → Heard → StateData
after_heard s (heard.List doc) = after_list s.token s doc
after_heard s (heard.Zone bytes) = after_file s.pending s bytes
after_heard s heard.BadToken = record { token = None; coming = s.coming; entries = s.entries; files = s.files; pending = s.pending }

abbrev pub state_after : StateData → Heard → StateData
state_after s h = settled (after_heard s h)

-- ---- the state as lists, so looked at

abbrev pub bytes_found : Option ZoneFile → Option (List ℕ)
bytes_found o = option_map bytes_of o

abbrev pub looked_up : MirrorState → StateData
looked_up m = record {
  token = m.token;
  coming = m.coming;
  entries = known m.entries;
  files = λ t. bytes_found (at_text file_name m.files t);
  pending = m.pending;
}
