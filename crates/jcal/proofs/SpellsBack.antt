-- The calendar spells what was written.
use Rattle.std.proofs.Common.{◌≡◌, ℕ, suc, ◌<◌, ◌++◌, Bool, true, false, refl, ap, ◌∙◌, arith, ℤ, Option, None, Some, List, [], ◌∷◌, codes, length, map}
use Rattle.std.specs.List.{All, AllByRecursion}
use Rattle.std.specs.Option.{IfSome, option_map, option_and_then}
use Rattle.jiff_core.specs.Calendar.{IsWithin}
use Rattle.serde_json.specs.Data.{Data, string}
use Rattle.serde_json.specs.View.{items_of}
use Rattle.td_civil.specs.declared.moment_type.Moment.{Moment}
use Rattle.td_civil.specs.Bounds.{IsWithinBounds}
use Rattle.td_civil.specs.Calendar.{text_of}
use Rattle.td_civil.proofs.lemmas.Shown.{bounds_text, local_bounds_text}
use Rattle.recurrence.specs.declared.part_types.Part.{Part}
use Rattle.recurrence.specs.declared.rule_types.Rule.{Rule}
use Rattle.recurrence.specs.AllRead.{all_read}
use Rattle.recurrence.specs.PartFields.{Recur, part_with_fields}
use Rattle.recurrence.specs.Spellable.{IsSpellable}
use Rattle.recurrence.specs.Spelling.{spelling_with}
use Rattle.recurrence.specs.Valid.{IsValidForm}
use Rattle.recurrence.proofs.lemmas.AllRead.{read_more, read_append}
use Rattle.recurrence.proofs.lemmas.PartFields.{local_at, recur_for, part_back}
use Rattle.jcal.specs.Reading.{Property, Component, items_of_data, property_in, component_with, component_in, string_in, dates_or_none, part_of_properties}
use Rattle.jcal.specs.Reading.{part_in_properties, part_in}
use Rattle.jcal.specs.Reading.{zone_of, calendar_of_tree, spelled, recur_in_data}
use Rattle.jcal.specs.Tree.{component, component_kind, change_properties, date_data, dates_properties, rule_properties, part_properties, part_data, recur_data}
use Rattle.jcal.specs.Tree.{alias_properties, end_properties, zone_properties, calendar_data, calendar_properties, tree}
use Rattle.jcal.specs.Values.{local_text, jcal_offset_text, jcal_local_in, jcal_utc_in, jcal_offset_in}
use Rattle.jcal.proofs.RecursBack.{recur_back}
use Rattle.jcal.proofs.ValuesBack.{local_back, utc_back, offset_back}

list_back : (ds : List Data) → items_of_data (items_of ds) ≡ ds
list_back [] = refl
list_back (d ∷ ds) = ap (λ l. d ∷ l) (list_back ds)

-- ---- properties, read one by one

abbrev one : List ℕ → List ℕ → List ℕ → Property
one name kind value = record { name = name; kind = kind; values = string value ∷ [] }

abbrev change_read : Part → List Property
change_read p =
    one (codes "dtstart") (codes "date-time") (local_text p.start.seconds p.from) ∷ one (codes "tzoffsetfrom") (codes "utc-offset") (jcal_offset_text p.from)
    ∷ one (codes "tzoffsetto") (codes "utc-offset") (jcal_offset_text p.to) ∷ one (codes "tzname") (codes "text") p.name ∷ []

abbrev dates_read : List Moment → ℤ → List Property
dates_read [] offset = []
dates_read (d ∷ ds) offset = record { name = codes "rdate"; kind = codes "date-time"; values = map (date_data offset) (d ∷ ds) } ∷ []

abbrev rule_read : Option Rule → Option Moment → List Property
rule_read None until = []
rule_read (Some rule) until = record { name = codes "rrule"; kind = codes "recur"; values = recur_data rule.form until ∷ [] } ∷ []

abbrev part_read : Part → List Moment → Option Rule → List Property
part_read p dates rule = change_read p ++ dates_read dates p.from ++ rule_read rule p.until

change_is : (p : Part) → all_read property_in (change_properties p) ≡ Some (change_read p)
unfolding change_properties property_in
change_is p = refl

dates_are : (dates : List Moment) (offset : ℤ) → all_read property_in (dates_properties dates offset) ≡ Some (dates_read dates offset)
unfolding dates_properties property_in
dates_are [] offset = refl
dates_are (d ∷ ds) offset =
    ap (λ vs. Some (record { name = codes "rdate"; kind = codes "date-time"; values = vs } ∷ [])) (list_back (map (date_data offset) (d ∷ ds)))

rule_is : (rule : Option Rule) (until : Option Moment) → all_read property_in (rule_properties rule until) ≡ Some (rule_read rule until)
unfolding rule_properties property_in
rule_is None until = refl
rule_is (Some rule) until = refl

properties_are : (p : Part) → all_read property_in (part_properties p) ≡ Some (part_read p p.dates p.rule)
properties_are p =
    read_append property_in (change_properties p ++ dates_properties p.dates p.from) (rule_properties p.rule p.until)
    (change_read p ++ dates_read p.dates p.from) (rule_read p.rule p.until)
    (read_append property_in (change_properties p) (dates_properties p.dates p.from) (change_read p) (dates_read p.dates p.from) (change_is p)
    (dates_are p.dates p.from)) (rule_is p.rule p.until)

-- ---- a part

abbrev dates_given : List Moment → ℤ → Option (List ℤ)
dates_given [] offset = Some []
dates_given (d ∷ ds) offset = dates_or_none (option_map Some (all_read (string_in jcal_local_in) (map (date_data offset) (d ∷ ds))))

abbrev rule_given : Option Rule → Option Moment → Option (Option Recur)
rule_given None until = Some None
rule_given (Some rule) until = option_map Some (recur_in_data (recur_data rule.form until))

content_read : (p : Part) (dates : List Moment) (rule : Option Rule)
    → part_of_properties p.dst (part_read p dates rule)
    ≡ part_with_fields p.dst (jcal_local_in (local_text p.start.seconds p.from)) (jcal_offset_in (jcal_offset_text p.from)) (jcal_offset_in (jcal_offset_text p.to)) (Some p.name)
    (dates_given dates p.from) (rule_given rule p.until)
unfolding part_of_properties
content_read p [] None = refl
content_read p [] (Some rule) = refl
content_read p (d ∷ ds) None = refl
content_read p (d ∷ ds) (Some rule) = refl

texts_back : (dates : List Moment) (offset : ℤ) → AllByRecursion (λ d. IsWithinBounds d.seconds) dates → IsWithin 86399 offset
    → all_read (string_in jcal_local_in) (map (date_data offset) dates) ≡ Some (map (local_at offset) dates)
texts_back [] offset h within = refl
texts_back (d ∷ ds) offset h within =
    read_more (string_in jcal_local_in) (date_data offset d) (map (date_data offset) ds) (local_at offset d) (map (local_at offset) ds)
    (local_back d.seconds offset (local_bounds_text d.seconds offset h.0 within)) (texts_back ds offset h.1 within)

dates_back : (dates : List Moment) (offset : ℤ) → AllByRecursion (λ d. IsWithinBounds d.seconds) dates → IsWithin 86399 offset
    → dates_given dates offset ≡ Some (map (local_at offset) dates)
dates_back [] offset h within = refl
dates_back (d ∷ ds) offset h within = ap (λ o. dates_or_none (option_map Some o)) (texts_back (d ∷ ds) offset h within)

rule_back : (rule : Option Rule) (until : Option Moment) → IfSome rule (λ r. IsValidForm r.form) → IfSome until (λ m. IsWithinBounds m.seconds)
    → rule_given rule until ≡ Some (recur_for rule until)
rule_back None until h within = refl
rule_back (Some rule) until h within = ap (option_map Some) (recur_back rule.form until h within)

each_within : (ds : List Moment) → All (λ d. IsWithinBounds d.seconds) ds → AllByRecursion (λ d. IsWithinBounds d.seconds) ds
each_within [] h = tt
each_within (d ∷ ds) h = (h 0 d (omega arith), each_within ds (λ i e lt. h (suc i) e (omega arith)))

part_with_same : (dst : Bool) (s s₂ f f₂ t t₂ : Option ℤ) (n n₂ : Option (List ℕ)) (d d₂ : Option (List ℤ)) (r r₂ : Option (Option Recur))
    → s ≡ s₂ → f ≡ f₂ → t ≡ t₂ → n ≡ n₂ → d ≡ d₂ → r ≡ r₂ → part_with_fields dst s f t n d r ≡ part_with_fields dst s₂ f₂ t₂ n₂ d₂ r₂
part_with_same dst s s₂ f f₂ t t₂ n n₂ d d₂ r r₂ start from to name dates recur = rw (start, from, to, name, dates, recur) refl

content_back : (p : Part) → IsSpellable p → part_of_properties p.dst (part_read p p.dates p.rule) ≡ Some p
content_back p h =
    let w = h.writable in
    content_read p p.dates p.rule
    ∙ part_with_same p.dst _ _ _ _ _ _ _ _ _ _ _ _
    (local_back p.start.seconds p.from (local_bounds_text p.start.seconds p.from w.start w.from))
    (offset_back p.from w.from)
    (offset_back p.to w.to)
    refl
    (dates_back p.dates p.from (each_within p.dates w.dates) w.from)
    (rule_back p.rule p.until w.rule w.until)
    ∙ part_back p h.time

kind_is : (dst : Bool) (ps : List Property) → part_in_properties (component_kind dst) ps [] ≡ part_of_properties dst ps
kind_is true ps = refl
kind_is false ps = refl

-- what a component is read as
component_read : (name : List ℕ) (properties components : List Data) (read : List Property) → all_read property_in properties ≡ Some read
    → component_in (component name properties components) ≡ Some (record { name = name; properties = read; components = components })
unfolding component_in
component_read name properties components read is =
    ap (λ ps. component_with name (all_read property_in ps) (items_of_data (items_of components))) (list_back properties)
    ∙ ap (λ o. component_with name o (items_of_data (items_of components))) is
    ∙ ap (λ cs. component_with name (Some read) cs) (list_back components)

one_part_back : (p : Part) → IsSpellable p → part_in (part_data p) ≡ Some p
unfolding part_in part_data
one_part_back p h =
    ap (option_and_then (λ (c : Component). part_in_properties c.name c.properties c.components))
    (component_read (component_kind p.dst) (part_properties p) [] (part_read p p.dates p.rule) (properties_are p))
    ∙ kind_is p.dst (part_read p p.dates p.rule) ∙ content_back p h

parts_back : (ps : List Part) → AllByRecursion IsSpellable ps → all_read part_in (map part_data ps) ≡ Some ps
parts_back [] h = refl
parts_back (p ∷ ps) h = read_more part_in (part_data p) (map part_data ps) p ps (one_part_back p h.0) (parts_back ps h.1)

each_spellable : (ps : List Part) → All IsSpellable ps → AllByRecursion IsSpellable ps
each_spellable [] h = tt
each_spellable (p ∷ ps) h = (h 0 p (omega arith), each_spellable ps (λ i d lt. h (suc i) d (omega arith)))

-- ---- the time zone and the calendar

abbrev alias_read : Option (List ℕ) → List Property
alias_read None = []
alias_read (Some tzid) = one (codes "tzid-alias-of") (codes "text") tzid ∷ []

abbrev end_read : Option Moment → List Property
end_read None = []
end_read (Some end) = one (codes "tzuntil") (codes "date-time") (text_of end.seconds) ∷ []

abbrev zone_read : List ℕ → Option (List ℕ) → Option Moment → List Property
zone_read tzid alias_of until = one (codes "tzid") (codes "text") tzid ∷ alias_read alias_of ++ end_read until

zone_is : (tzid : List ℕ) (alias_of : Option (List ℕ)) (until : Option Moment)
    → all_read property_in (zone_properties tzid alias_of until) ≡ Some (zone_read tzid alias_of until)
unfolding alias_properties end_properties property_in
zone_is tzid None None = refl
zone_is tzid None (Some end) = refl
zone_is tzid (Some alias_of) None = refl
zone_is tzid (Some alias_of) (Some end) = refl

abbrev zone_component : List ℕ → Option (List ℕ) → List Part → Option Moment → Component
zone_component tzid alias_of parts until =
    record { name = codes "vtimezone"; properties = zone_read tzid alias_of until; components = map part_data parts }

abbrev end_given : Option Moment → Option (Option Moment)
end_given None = Some None
end_given (Some end) = option_map Some (jcal_utc_in (text_of end.seconds))

zone_with : (tzid : List ℕ) (alias_of : Option (List ℕ)) (parts : List Part) (until : Option Moment)
    → zone_of (zone_component tzid alias_of parts until)
    ≡ spelling_with (Some tzid) (Some alias_of) (end_given until) (all_read part_in (map part_data parts))
unfolding zone_of
zone_with tzid None parts None = refl
zone_with tzid None parts (Some end) = refl
zone_with tzid (Some alias_of) parts None = refl
zone_with tzid (Some alias_of) parts (Some end) = refl

end_back : (until : Option Moment) → IfSome until (λ m. IsWithinBounds m.seconds) → end_given until ≡ Some until
end_back None h = refl
end_back (Some end) h = ap (option_map Some) (utc_back end (bounds_text end.seconds h))

abbrev calendar_read : List Property
calendar_read = one (codes "version") (codes "text") (codes "2.0") ∷ one (codes "prodid") (codes "text") (codes "-//tzdistd//RFC 7808//EN") ∷ []

calendar_is : all_read property_in calendar_properties ≡ Some calendar_read
unfolding calendar_properties property_in
calendar_is = refl

calendar_with : (d : Data)
    → calendar_of_tree (record { name = codes "vcalendar"; properties = calendar_read; components = d ∷ [] }) ≡ option_and_then zone_of (component_in d)
unfolding calendar_of_tree
calendar_with d = refl

pub calendar_back : (tzid : List ℕ) (alias_of : Option (List ℕ)) (ps : List Part) (until : Option Moment)
    → IfSome until (λ m. IsWithinBounds m.seconds) → 0 < length ps → All IsSpellable ps
    → spelled (tree tzid alias_of ps until) ≡ Some (record { tzid = tzid; alias_of = alias_of; until = until; parts = ps })
unfolding spelled tree calendar_data
calendar_back tzid alias_of [] until within some all = absurd (omega arith)
calendar_back tzid alias_of (p ∷ ps) until within some all =
    let zone = component (codes "vtimezone") (zone_properties tzid alias_of until) (map part_data (p ∷ ps)) in
    ap (option_and_then calendar_of_tree) (component_read (codes "vcalendar") calendar_properties (zone ∷ []) calendar_read calendar_is)
    ∙ calendar_with zone
    ∙ ap (option_and_then zone_of)
    (component_read (codes "vtimezone") (zone_properties tzid alias_of until) (map part_data (p ∷ ps)) (zone_read tzid alias_of until)
    (zone_is tzid alias_of until))
    ∙ zone_with tzid alias_of (p ∷ ps) until
    ∙ ap (λ o. spelling_with (Some tzid) (Some alias_of) o (all_read part_in (map part_data (p ∷ ps)))) (end_back until within)
    ∙ ap (spelling_with (Some tzid) (Some alias_of) (Some until)) (parts_back (p ∷ ps) (each_spellable (p ∷ ps) all))
