-- An answer with data is the calendar of a zone, or its file.
use Rattle.std.proofs.Common.{◌≡◌, ◌≢◌, ◌⊎◌, ℕ, List, Bool, true, false, Option, None, Some, Result, Ok, inl, inr, refl, sym, ap, ap₂, ◌∙◌, cond}
use Rattle.std.specs.List.{All, Contains}
use Rattle.std.specs.Option.{IfSome}
use Rattle.std.specs.Prelude.{ℤ, ◌<◌, length, option_and_then, IsTrue}
use Rattle.std.specs.Str.{bytes_eq}
use Rattle.std.proofs.lemmas.Slice.Eq.{bytes_eq-Decides}
use Rattle.serde_json.specs.Read.{read}
use Rattle.td_base.specs.declared.report.Role.{Role}
use Rattle.td_civil.specs.Bounds.{HasMeaning, IsWithinBounds}
use Rattle.td_civil.specs.declared.local_time.Local.{Local}
use Rattle.td_civil.specs.declared.moment_type.Moment.{Moment}
use Rattle.catalogue.specs.Histories.{IsHistory}
use Rattle.catalogue.specs.Releases.{ContentData, ReleaseData}
use Rattle.http_answer.specs.declared.answer.Answer.{Answer}
use Rattle.http_answer.specs.declared.answer.Kind.{Kind}
use Rattle.http_answer.specs.declared.answer.Kind.TheVariants as kind
use Rattle.http_request.specs.declared.head.Head.{Head}
use Rattle.jcal.specs.Reading.{spelled as spelled_by_tree}
use Rattle.jcal.specs.Tree.{calendar as json_calendar, tree}
use Rattle.negotiate.specs.declared.choosing.Format.{Format}
use Rattle.negotiate.specs.declared.choosing.Format.TheVariants as format
use Rattle.posix_footer.specs.Carried.{IsCarriedIfAny}
use Rattle.recurrence.specs.InForce.{GivesState}
use Rattle.recurrence.specs.Spellable.{IsSpellable}
use Rattle.recurrence.specs.Spelling.{Spelling}
use Rattle.recurrence.specs.declared.part_types.Part.{Part}
use Rattle.recurrence.specs.declared.part_types.Range.{Range}
use Rattle.target.specs.Actions.{asks}
use Rattle.target.specs.declared.asked_types.Asked.TheVariants as ask
use Rattle.target.specs.declared.asked_types.Param.{Param}
use Rattle.target.specs.declared.asked_types.Param.TheVariants as param
use Rattle.tzif_reader.specs.Cut.{lists_of}
use Rattle.vtimezone.specs.Ranges.{IsAmong, IsEndOf, end_in}
use Rattle.vtimezone.specs.Spelled.{spelled}
use Rattle.vtimezone.specs.ZoneParts.{range_parts}
use Rattle.zone_meaning.specs.Faults.{zone_fault}
use Rattle.zone_meaning.specs.Names.{has_printable_names}
use Rattle.zone_meaning.specs.Sound.{IsSound, IsSoundFile}
use Rattle.zone_meaning.specs.State.{footer_meant, zone_state}
use Rattle.actions.specs.Action.{action}
use Rattle.actions.specs.Bounds.{AreBounds, begin_of, bounds_in, end_bound, end_if_any, range_between, start_bound}
use Rattle.actions.specs.Formats.{AreTexts, alias_of, calendar_text, format_data, json_text, zone_spelling}
use Rattle.actions.specs.declared.bounds.Bound.{Bound}
use Rattle.actions.specs.declared.bounds.Bounds.{Bounds}
use Rattle.actions.specs.declared.bounds.BoundRule.TheVariants as rule
use Rattle.answer_laws.specs.Calendars.{HasInForce, IsAliasOf, IsCalendarOf, spelled_as_json}
use Rattle.answer_laws.specs.Files.{IsFileOf}
use Rattle.answer_laws.specs.Requested.{IsBegin, IsBetween, IsFinish, IsNamed}
use Rattle.answer_laws.proofs.Between.{HasBounds, begin_meant, between_among, bounds_are, finish_ends, finishes, starts}
use Rattle.answer_laws.proofs.Got.{IsGot, IsGotBy, IsOfData, got_by}
use Rattle.answer_laws.proofs.Named.{found_named, name_is_safe, tzid_is_safe, zone_is_sound}

-- ---- the alias

alias_as : (name tzid : List ℕ) (b : Bool) → bytes_eq name tzid ≡ b → IsAliasOf name tzid (cond b None (Some tzid))
alias_as name tzid true is = inl ((bytes_eq-Decides name tzid).0 is, refl)
alias_as name tzid false is =
    inr ((λ same. let yes : bytes_eq name tzid ≡ true = (bytes_eq-Decides name tzid).1 same in let no : false ≡ true = sym is ∙ yes in absurd cc), refl)

alias_is : (name tzid : List ℕ) → IsAliasOf name tzid (alias_of name tzid)
alias_is name tzid = alias_as name tzid (bytes_eq name tzid) refl

-- ---- formats by what their content is

calendar_format : (f : Format) → (format_data f).kind ≡ kind.Calendar → f ≡ format.Calendar
calendar_format format.Calendar is = refl
calendar_format format.Tzif is = absurd cc
calendar_format format.CalendarJson is = absurd cc

json_format : (f : Format) → (format_data f).kind ≡ kind.CalendarJson → f ≡ format.CalendarJson
json_format format.Calendar is = absurd cc
json_format format.Tzif is = absurd cc
json_format format.CalendarJson is = refl

file_format : (f : Format) → (format_data f).kind ≡ kind.Tzif → f ≡ format.Tzif
file_format format.Calendar is = absurd cc
file_format format.Tzif is = refl
file_format format.CalendarJson is = absurd cc

-- ---- calendars

-- the laws that are called
abbrev SpellsInLines : Type 0
SpellsInLines =
    (name : List ℕ) (c : ContentData) (bounds : Bounds) → IsSoundFile c.file → AreTexts name c.tzid → AreBounds bounds
    → spelled (calendar_text name c bounds) ≡ Some (zone_spelling name c bounds)

abbrev SpellsByTree : Type 0
SpellsByTree =
    (name : List ℕ) (c : ContentData) (bounds : Bounds) → IsSoundFile c.file → AreTexts name c.tzid → AreBounds bounds
    → spelled_by_tree (tree name (alias_of name c.tzid) (range_parts c.file (range_between bounds)) (end_if_any bounds.end)) ≡ Some (zone_spelling name c bounds)

abbrev ReadsTrees : Type 0
ReadsTrees =
    (tzid : List ℕ) (alias : Option (List ℕ)) (parts : List Part) (until : Option Moment) → All IsSpellable parts
    → read (json_calendar tzid alias parts until) ≡ Some (tree tzid alias parts until)

abbrev MeanZones : Type 0
MeanZones =
    (file : List ℕ) (range : Range) → zone_fault file ≡ None → IsCarriedIfAny (footer_meant (lists_of file).footer)
    → HasMeaning range.from.seconds → IsEndOf range.from.seconds (end_in range) → (t : ℤ) → IsAmong range.from.seconds (end_in range) t
    → GivesState (range_parts file range) t (zone_state file t)

abbrev AreSpellable : Type 0
AreSpellable =
    (file : List ℕ) (range : Range) → zone_fault file ≡ None → IsTrue (has_printable_names file) → IsCarriedIfAny (footer_meant (lists_of file).footer)
    → HasMeaning range.from.seconds → IsEndOf range.from.seconds (end_in range)
    → (0 < length (range_parts file range)) × (All IsSpellable (range_parts file range) × IfSome range.until (λ m. IsWithinBounds m.seconds))

in_force : (parts : List Part) (t : ℤ) (state : Local) → GivesState parts t state → HasInForce parts t state
in_force parts t state gives = record {
  part = gives.0;
  in_force = gives.1.0;
  offset = ap (λ (s : Local). s.offset) gives.1.1;
  dst = ap (λ (s : Local). s.dst) gives.1.1;
  name = ap (λ (s : Local). s.name) gives.1.1;
}

-- what is known of the range of a calendar
record HasRange (start end : Param) (bounds : Bounds) : Type 0 where
  begins : IsBegin start (begin_of bounds.start)
  ends : IsFinish (begin_of bounds.start) end (end_if_any bounds.end)

has_range : (start end : Param) (bounds : Bounds) → bounds_in rule.Optional start end ≡ Ok bounds → HasRange start end bounds
has_range start end bounds is =
    let both = bounds_are rule.Optional start end bounds is in
    record { begins = starts start bounds.start both.start_is; ends = finishes bounds.start end bounds.end both.end_is }

range_bounds : (start end : Param) (bounds : Bounds) → HasRange start end bounds → AreBounds bounds
range_bounds start end bounds has = record {
  start = begin_meant start (begin_of bounds.start) has.begins;
  end = finish_ends (begin_of bounds.start) end (end_if_any bounds.end) has.ends;
}

texts : (H : List ReleaseData) (name : List ℕ) (c : ContentData) → IsHistory IsSound H → IsNamed H name c → AreTexts name c.tzid
texts H name c history named = record { name = name_is_safe H name c history named; tzid = tzid_is_safe H name c history named }

-- a calendar of a zone that was found, between bounds that the head requests
made : (reads : List ℕ → Option Spelling) (H : List ReleaseData) (head : Head) (k : Kind) (a : Answer) (by : IsGotBy H (asks head.target) k a) → MeanZones
    → IsHistory IsSound H → HasRange by.start by.end by.got.bounds
    → reads a.body ≡ Some (zone_spelling by.name by.got.entry.content by.got.bounds) → IsCalendarOf reads H head a
made reads H head k a by mean history has spells =
    let zone = by.got.entry.content in
    let bounds = by.got.bounds in
    let named = found_named H by.name by.got.entry by.got.found in
    let sound = zone_is_sound H by.name zone history named in
    let are = range_bounds by.start by.end bounds has in
    record {
      name = by.name;
      start = by.start;
      end = by.end;
      requested = by.requested;
      zone = zone;
      named = named;
      from = begin_of bounds.start;
      begins = has.begins;
      until = end_if_any bounds.end;
      ends = has.ends;
      status = by.got.status;
      alias_of = alias_of by.name zone.tzid;
      alias_is = alias_is by.name zone.tzid;
      parts = range_parts zone.file (range_between bounds);
      spells = spells;
      tells = λ t between. in_force (range_parts zone.file (range_between bounds)) t (zone_state zone.file t)
          (mean zone.file (range_between bounds) sound.no_fault sound.carried are.start are.end t
          (between_among (begin_of bounds.start) (end_if_any bounds.end) t are.start between));
    }

pub tells_in_lines : SpellsInLines → MeanZones → (H : List ReleaseData) (role : Role) (head : Head) → IsHistory IsSound H
    → (action H role head).kind ≡ Some kind.Calendar → IsCalendarOf spelled H head (action H role head)
tells_in_lines spell mean H role head history is =
    let by = got_by H role head kind.Calendar (record { json = λ e. absurd cc; problem = λ e. absurd cc }) is in
    let zone = by.got.entry.content in
    let bounds = by.got.bounds in
    let format_is = calendar_format by.got.format by.got.kind_is in
    let bounded : bounds_in rule.Optional by.start by.end ≡ Ok bounds = sym (ap (λ (f : Format). bounds_in (format_data f).bounds by.start by.end) format_is) ∙ by.got.bounded in
    let body : (action H role head).body ≡ calendar_text by.name zone bounds = by.got.body ∙ ap (λ (f : Format). (format_data f).text by.name zone bounds) format_is in
    let has = has_range by.start by.end bounds bounded in
    let named = found_named H by.name by.got.entry by.got.found in
    made spelled H head kind.Calendar (action H role head) by mean history has
    (ap spelled body ∙ spell by.name zone bounds (zone_is_sound H by.name zone history named) (texts H by.name zone history named) (range_bounds by.start by.end bounds has))

json_text_is : (name : List ℕ) (c : ContentData) (bounds : Bounds)
    → json_text name c bounds ≡ json_calendar name (alias_of name c.tzid) (range_parts c.file (range_between bounds)) (end_if_any bounds.end)
unfolding json_text
json_text_is name c bounds = refl

pub tells_as_json : SpellsByTree → ReadsTrees → MeanZones → AreSpellable → (H : List ReleaseData) (role : Role) (head : Head) → IsHistory IsSound H
    → (action H role head).kind ≡ Some kind.CalendarJson → IsCalendarOf spelled_as_json H head (action H role head)
tells_as_json spell trees mean spellable H role head history is =
    let by = got_by H role head kind.CalendarJson (record { json = λ e. absurd cc; problem = λ e. absurd cc }) is in
    let zone = by.got.entry.content in
    let bounds = by.got.bounds in
    let format_is = json_format by.got.format by.got.kind_is in
    let bounded : bounds_in rule.Optional by.start by.end ≡ Ok bounds = sym (ap (λ (f : Format). bounds_in (format_data f).bounds by.start by.end) format_is) ∙ by.got.bounded in
    let body : (action H role head).body ≡ json_text by.name zone bounds = by.got.body ∙ ap (λ (f : Format). (format_data f).text by.name zone bounds) format_is in
    let has = has_range by.start by.end bounds bounded in
    let named = found_named H by.name by.got.entry by.got.found in
    let sound = zone_is_sound H by.name zone history named in
    let are = range_bounds by.start by.end bounds has in
    let parts = range_parts zone.file (range_between bounds) in
    let each = (spellable zone.file (range_between bounds) sound.no_fault sound.names sound.carried are.start are.end).1.0 in
    made spelled_as_json H head kind.CalendarJson (action H role head) by mean history has
    (ap spelled_as_json (body ∙ json_text_is by.name zone bounds)
    ∙ ap (option_and_then spelled_by_tree) (trees by.name (alias_of by.name zone.tzid) parts (end_if_any bounds.end) each)
    ∙ spell by.name zone bounds sound (texts H by.name zone history named) are)

-- ---- files

absent_start : (p : Param) (b : Bound) → start_bound rule.Refused p ≡ Some b → p ≡ param.Absent
unfolding start_bound
absent_start param.Absent b e = refl
absent_start (param.Once text) b e = absurd cc
absent_start param.Repeated b e = absurd cc

absent_end : (s : Bound) (p : Param) (b : Bound) → end_bound rule.Refused s p ≡ Some b → p ≡ param.Absent
unfolding end_bound
absent_end s param.Absent b e = refl
absent_end s (param.Once text) b e = absurd cc
absent_end s param.Repeated b e = absurd cc

pub tells_the_file : (H : List ReleaseData) (role : Role) (head : Head) → IsHistory IsSound H → (action H role head).kind ≡ Some kind.Tzif
    → IsFileOf H head (action H role head)
tells_the_file H role head history is =
    let by = got_by H role head kind.Tzif (record { json = λ e. absurd cc; problem = λ e. absurd cc }) is in
    let zone = by.got.entry.content in
    let bounds = by.got.bounds in
    let format_is = file_format by.got.format by.got.kind_is in
    let bounded : bounds_in rule.Refused by.start by.end ≡ Ok bounds = sym (ap (λ (f : Format). bounds_in (format_data f).bounds by.start by.end) format_is) ∙ by.got.bounded in
    let both = bounds_are rule.Refused by.start by.end bounds bounded in
    record {
      name = by.name;
      requested = by.requested ∙ ap₂ (λ (s e : Param). ask.Get by.name s e) (absent_start by.start bounds.start both.start_is)
          (absent_end bounds.start by.end bounds.end both.end_is);
      zone = zone;
      named = found_named H by.name by.got.entry by.got.found;
      status = by.got.status;
      bytes = by.got.body ∙ ap (λ (f : Format). (format_data f).text by.name zone bounds) format_is;
    }
