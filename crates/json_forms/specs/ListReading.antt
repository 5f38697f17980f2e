-- A list of time zones as it is read (RFC 7808, section 6.2): what is judged of it, and what is
-- taken.
use Rattle.std.specs.Prelude.{ℕ, ◌+◌, pos, List, [], ◌∷◌, codes, Bool, true, false, ◌&&◌, nat_le}
use Rattle.std.specs.Prelude.{if◌then◌else◌, Option, None, Some, is_some, unwrap_or}
use Rattle.std.specs.Prelude.{option_and_then, Result, Ok, Err}
use Rattle.std.specs.Option.{option_map_or}
use Rattle.serde_json.specs.Data.{Data, Items, no_items, item}
use Rattle.serde_json.specs.Events.{items_len}
use Rattle.serde_json.specs.Find.{get, as_str, as_array}
use Rattle.td_base.specs.Names.{is_identifier, is_label}
use Rattle.td_civil.specs.Reading.{moment_in}
use Rattle.catalogue.specs.Plain.{is_token}
use Rattle.catalogue.specs.declared.limits.TheConstants.{MOST_ZONES, MOST_NAMES}
use Rattle.json_forms.specs.declared.list_fault.BadList.{BadList}
use Rattle.json_forms.specs.declared.list_fault.BadList.TheVariants as bad
use Rattle.json_forms.specs.declared.zone_list.ListDoc.{ListDoc}
use Rattle.json_forms.specs.declared.zone_list.ListZone.{ListZone}
use Rattle.json_forms.specs.JsonTexts.{json_in}

-- the text that a member is, if it is there and is one
abbrev pub text_member : List ℕ → Data → Option (List ℕ)
text_member name d = option_and_then as_str (get name d)

-- the array that a member is, if it is there and is one
abbrev pub array_member : List ℕ → Data → Option Items
array_member name d = option_and_then as_array (get name d)

-- ---- what is judged

-- whether a member is a text of the form
unfoldable pub has_text : (List ℕ → Bool) → List ℕ → Data → Bool
has_text form name d = option_map_or form (text_member name d) false

abbrev pub is_any_text : List ℕ → Bool
is_any_text text = true

abbrev pub is_moment_text : List ℕ → Bool
is_moment_text text = is_some (moment_in text)

-- whether each item is an identifier
abbrev pub are_identifiers : Items → Bool
are_identifiers no_items = true
are_identifiers (item d ds) = option_map_or is_identifier (as_str d) false && are_identifiers ds

-- the aliases may be left out
abbrev pub aliases_pass : Option Data → Bool
aliases_pass None = true
aliases_pass (Some d) = option_map_or are_identifiers (as_array d) false

unfoldable pub is_entry : Data → Bool
is_entry d =
    has_text is_identifier (codes "tzid") d && has_text is_any_text (codes "etag") d
    && has_text is_moment_text (codes "last-modified") d && has_text is_label (codes "publisher") d
    && has_text is_label (codes "version") d && aliases_pass (get (codes "aliases") d)

-- how many aliases an entry has
unfoldable pub alias_count : Data → ℕ
alias_count d = option_map_or items_len (array_member (codes "aliases") d) 0

-- how many names the entries have
abbrev pub name_count : Items → ℕ
name_count no_items = 0
name_count (item d ds) = 1 + alias_count d + name_count ds

-- the entries are an array within the limits of a release
abbrev pub entries_pass : Option Items → Bool
entries_pass None = false
entries_pass (Some entries) =
    nat_le (items_len entries) MOST_ZONES && nat_le (name_count entries) MOST_NAMES

-- whether the value is a list, whatever its entries are
unfoldable pub is_list : Data → Bool
is_list d =
    has_text is_token (codes "synctoken") d && entries_pass (array_member (codes "timezones") d)

abbrev pub entries : Data → Items
entries d = unwrap_or (array_member (codes "timezones") d) no_items

-- the first of the entries that is none, counted from this number
abbrev pub entry_fault : ℕ → Items → Option ℕ
entry_fault n no_items = None
entry_fault n (item d ds) = if is_entry d then entry_fault (n + 1) ds else Some n

-- where a value is no list: 0 for the value itself, and the numbers from 1 for its entries
unfoldable pub list_fault : Data → Option ℕ
list_fault d = if is_list d then entry_fault 1 (entries d) else Some 0

-- ---- what is taken

unfoldable pub text_in : List ℕ → Data → List ℕ
text_in name d = unwrap_or (text_member name d) []

abbrev pub texts_of : Items → List (List ℕ)
texts_of no_items = []
texts_of (item d ds) = unwrap_or (as_str d) [] ∷ texts_of ds

unfoldable pub zone_in : Data → ListZone
zone_in d = record {
  tzid = text_in (codes "tzid") d;
  etag = text_in (codes "etag") d;
  stamp = record { seconds = unwrap_or (moment_in (text_in (codes "last-modified") d)) (pos 0) };
  publisher = text_in (codes "publisher") d;
  version = text_in (codes "version") d;
  aliases = texts_of (unwrap_or (array_member (codes "aliases") d) no_items);
}

abbrev pub zones_read : Items → List ListZone
zones_read no_items = []
zones_read (item d ds) = zone_in d ∷ zones_read ds

unfoldable pub list_of : Data → ListDoc
list_of d = record { token = text_in (codes "synctoken") d; zones = zones_read (entries d) }

-- ---- both

-- the list, unless there is a fault at a place
abbrev pub list_unless : Option ℕ → ListDoc → Result ListDoc BadList
list_unless None list = Ok list
list_unless (Some place) list = Err (bad.BadList place)

-- the list that a value is, or where it is none
unfoldable pub list_found : Data → Result ListDoc BadList
list_found d = list_unless (list_fault d) (list_of d)

-- the list that bytes are, or where they are none; bytes that are no value are none at 0
unfoldable pub list_read : List ℕ → Result ListDoc BadList
list_read text = option_map_or list_found (json_in text) (Err (bad.BadList 0))
