-- The text of a calendar as JSON reads as its tree.
use Rattle.std.proofs.Common.{◌≡◌, ℕ, suc, ◌+◌, ◌≤◌, ℤ, pos, negsuc, ◌+ℤ◌, ◌≤ℤ◌, FitsSigned, w32, List, [], ◌∷◌, ◌++◌, map, codes, Option, None, Some, refl}
use Rattle.std.proofs.Common.{arith}
use Rattle.std.specs.List.{All, AllByRecursion}
use Rattle.std.specs.Option.{IfSome}
use Rattle.serde_json.specs.Data.{Data, string, array, object, Members, no_members, member}
use Rattle.serde_json.specs.View.{items_of}
use Rattle.serde_json.specs.Read.{read, max_depth}
use Rattle.jiff_core.proofs.CalendarLemmas.{days_in_month_bounds}
use Rattle.jiff_core.proofs.SignedLemmas.{signed_arith}
use Rattle.td_civil.specs.declared.moment_type.Moment.{Moment}
use Rattle.recurrence.specs.declared.part_types.Part.{Part}
use Rattle.recurrence.specs.declared.rule_types.Form.{Form}
use Rattle.recurrence.specs.declared.rule_types.Form.TheVariants as form
use Rattle.recurrence.specs.declared.rule_types.Rule.{Rule}
use Rattle.recurrence.specs.Spellable.{IsSpellable}
use Rattle.recurrence.specs.Valid.{IsMonth, IsFirstDay, IsValidForm}
use Rattle.jcal.specs.Tree.{property, component, integer, seven_data, form_members, last_members, recur_data, component_kind, change_properties, date_data}
use Rattle.jcal.specs.Tree.{dates_properties}
use Rattle.jcal.specs.Tree.{rule_properties, part_properties, part_data, alias_properties, end_properties, zone_properties, calendar_data, calendar_properties}
use Rattle.jcal.specs.Tree.{tree, calendar}
use Rattle.format_laws.proofs.Readable.{IsReadable, array_readable, string_readable, deeper, integer_readable, read_back}

abbrev AreReadable : ℕ → List Data → Type 0
AreReadable most = AllByRecursion (IsReadable most)

both : (most : ℕ) (ds es : List Data) → AreReadable most ds → AreReadable most es → AreReadable most (ds ++ es)
both most [] es hd he = he
both most (d ∷ ds) es hd he = (hd.0, both most ds es hd.1 he)

-- ---- properties and components

no_parameters : IsReadable 1 (object no_members)
no_parameters = record { same = refl; shallow = omega arith; numbers = tt }

property_readable : (most : ℕ) (name kind : List ℕ) (values : List Data) → 1 ≤ most → AreReadable most values → IsReadable (most + 1) (property name kind values)
property_readable most name kind values le all =
    array_readable most (string name ∷ object no_members ∷ string kind ∷ values)
    (string_readable most name, (deeper 1 most _ le no_parameters, (string_readable most kind, all)))

text_readable : (name kind value : List ℕ) → IsReadable 2 (property name kind (string value ∷ []))
text_readable name kind value = property_readable 1 name kind (string value ∷ []) (omega arith) (string_readable 1 value, tt)

component_readable : (most : ℕ) (name : List ℕ) (ps cs : List Data) → AreReadable most ps → AreReadable most cs → IsReadable (most + 1 + 1) (component name ps cs)
component_readable most name ps cs hp hc =
    array_readable (most + 1) (string name ∷ array (items_of ps) ∷ array (items_of cs) ∷ [])
    (string_readable (most + 1) name, (array_readable most ps hp, (array_readable most cs hc, tt)))

-- ---- integers of rules

small_fits : (z : ℤ) → negsuc 399 ≤ℤ z → z ≤ℤ pos 400 → FitsSigned w32 z
small_fits (pos n) low high = omega (arith, signed_arith)
small_fits (negsuc n) low high = omega (arith, signed_arith)

small_readable : (most : ℕ) (z : ℤ) → negsuc 399 ≤ℤ z → z ≤ℤ pos 400 → IsReadable most (integer z)
small_readable most z low high = integer_readable most z (small_fits z low high)

month_readable : (most month : ℕ) → IsMonth month → IsReadable most (integer (pos month))
month_readable most month h = let top = h.1 in small_readable most (pos month) (omega (arith, signed_arith)) (omega (arith, signed_arith))

seven_readable : (z : ℤ) → negsuc 364 ≤ℤ z → z ≤ℤ pos 359 → IsReadable 1 (seven_data z)
seven_readable z low high =
    array_readable 0 (integer z ∷ integer (z +ℤ pos 1) ∷ integer (z +ℤ pos 2) ∷ integer (z +ℤ pos 3) ∷ integer (z +ℤ pos 4) ∷ integer (z +ℤ pos 5) ∷ integer (z +ℤ pos 6) ∷ []) (
      small_readable 0 z (omega (arith, signed_arith)) (omega (arith, signed_arith)),
      (
        small_readable 0 (z +ℤ pos 1) (omega (arith, signed_arith)) (omega (arith, signed_arith)),
        (
          small_readable 0 (z +ℤ pos 2) (omega (arith, signed_arith)) (omega (arith, signed_arith)),
          (
            small_readable 0 (z +ℤ pos 3) (omega (arith, signed_arith)) (omega (arith, signed_arith)),
            (
              small_readable 0 (z +ℤ pos 4) (omega (arith, signed_arith)) (omega (arith, signed_arith)),
              (
                small_readable 0 (z +ℤ pos 5) (omega (arith, signed_arith)) (omega (arith, signed_arith)),
                (small_readable 0 (z +ℤ pos 6) (omega (arith, signed_arith)) (omega (arith, signed_arith)), tt),
              ),
            ),
          ),
        ),
      ),
    )

-- ---- the objects of rules

abbrev yearly : Option Moment → Members
yearly until = member (codes "freq") (string (codes "YEARLY")) (last_members until)

day_in_month : (day : List ℕ) (month : Data) (until : Option Moment) → IsReadable 1 month
    → IsReadable 2 (object (member (codes "byday") (string day) (member (codes "bymonth") month (yearly until))))
unfolding last_members
day_in_month day month None m = record { same = rw m.same refl; shallow = omega (arith, m.shallow); numbers = (tt, (m.numbers, (tt, tt))) }
day_in_month day month (Some last) m = record { same = rw m.same refl; shallow = omega (arith, m.shallow); numbers = (tt, (m.numbers, (tt, (tt, tt)))) }

days_in_month_named : (day : List ℕ) (month days : Data) (until : Option Moment) → IsReadable 1 month → IsReadable 1 days
    → IsReadable 2 (object (member (codes "byday") (string day) (member (codes "bymonth") month (member (codes "bymonthday") days (yearly until)))))
unfolding last_members
days_in_month_named day month days None m d =
    record { same = rw (m.same, d.same) refl; shallow = omega (arith, m.shallow, d.shallow); numbers = (tt, (m.numbers, (d.numbers, (tt, tt)))) }
days_in_month_named day month days (Some last) m d =
    record { same = rw (m.same, d.same) refl; shallow = omega (arith, m.shallow, d.shallow); numbers = (tt, (m.numbers, (d.numbers, (tt, (tt, tt))))) }

days_of_year : (day : List ℕ) (days : Data) (until : Option Moment) → IsReadable 1 days
    → IsReadable 2 (object (member (codes "byday") (string day) (member (codes "byyearday") days (yearly until))))
unfolding last_members
days_of_year day days None d = record { same = rw d.same refl; shallow = omega (arith, d.shallow); numbers = (tt, (d.numbers, (tt, tt))) }
days_of_year day days (Some last) d = record { same = rw d.same refl; shallow = omega (arith, d.shallow); numbers = (tt, (d.numbers, (tt, (tt, tt)))) }

date_of_year : (month day : Data) (until : Option Moment) → IsReadable 1 month → IsReadable 1 day
    → IsReadable 2 (object (member (codes "bymonth") month (member (codes "bymonthday") day (yearly until))))
unfolding last_members
date_of_year month day None m d = record { same = rw (m.same, d.same) refl; shallow = omega (arith, m.shallow, d.shallow); numbers = (m.numbers, (d.numbers, (tt, tt))) }
date_of_year month day (Some last) m d =
    record { same = rw (m.same, d.same) refl; shallow = omega (arith, m.shallow, d.shallow); numbers = (m.numbers, (d.numbers, (tt, (tt, tt)))) }

first_low : (first : ℤ) → IsFirstDay first → negsuc 364 ≤ℤ first
first_low (pos n) h = omega (arith, signed_arith)
first_low (negsuc n) h = let top = h.1 in omega (arith, signed_arith)

first_high : (first : ℤ) → IsFirstDay first → first ≤ℤ pos 359
first_high (pos n) h = let top = h.1 in omega (arith, signed_arith)
first_high (negsuc n) h = omega (arith, signed_arith)

recur_readable : (f : Form) (until : Option Moment) → IsValidForm f → IsReadable 2 (recur_data f until)
unfolding recur_data form_members
recur_readable (form.NthDay month nth weekday) until h = day_in_month _ (integer (pos month)) until (month_readable 1 month h.0)
recur_readable (form.MonthDays month first weekday) until h =
    let inside = h.1.1 in
    let most = days_in_month_bounds (pos 2001) month in
    days_in_month_named _ (integer (pos month)) (seven_data (pos first)) until (month_readable 1 month h.0)
    (seven_readable (pos first) (omega (arith, signed_arith)) (omega (arith, signed_arith, inside, most)))
recur_readable (form.YearDays first weekday) until h = days_of_year _ (seven_data first) until (seven_readable first (first_low first h.0) (first_high first h.0))
recur_readable (form.FixedDate month day) until h =
    let inside = h.1.1 in
    let most = days_in_month_bounds (pos 2001) month in
    date_of_year (integer (pos month)) (integer (pos day)) until (month_readable 1 month h.0)
    (small_readable 1 (pos day) (omega (arith, signed_arith)) (omega (arith, signed_arith, inside, most)))

-- ---- parts

change_readable : (p : Part) → AreReadable 3 (change_properties p)
unfolding change_properties
change_readable p = (
  deeper 2 3 _ (omega arith) (text_readable _ _ _),
  (deeper 2 3 _ (omega arith) (text_readable _ _ _), (deeper 2 3 _ (omega arith) (text_readable _ _ _), (deeper 2 3 _ (omega arith) (text_readable _ _ _), tt))),
)

dates_are_texts : (offset : ℤ) (dates : List Moment) → AreReadable 1 (map (date_data offset) dates)
dates_are_texts offset [] = tt
dates_are_texts offset (d ∷ ds) = (string_readable 1 _, dates_are_texts offset ds)

dates_readable : (dates : List Moment) (offset : ℤ) → AreReadable 3 (dates_properties dates offset)
unfolding dates_properties
dates_readable [] offset = tt
dates_readable (d ∷ ds) offset =
    (deeper 2 3 _ (omega arith) (property_readable 1 (codes "rdate") (codes "date-time") (map (date_data offset) (d ∷ ds)) (omega arith) (dates_are_texts offset (d ∷ ds))), tt)

rule_readable : (rule : Option Rule) (until : Option Moment) → IfSome rule (λ r. IsValidForm r.form) → AreReadable 3 (rule_properties rule until)
unfolding rule_properties
rule_readable None until valid = tt
rule_readable (Some rule) until valid =
    (property_readable 2 (codes "rrule") (codes "recur") (recur_data rule.form until ∷ []) (omega arith) (recur_readable rule.form until valid, tt), tt)

part_readable : (p : Part) → IsSpellable p → IsReadable 5 (part_data p)
unfolding part_data
part_readable p h =
    component_readable 3 (component_kind p.dst) (part_properties p) []
    (both 3 (change_properties p ++ dates_properties p.dates p.from) (rule_properties p.rule p.until)
    (both 3 (change_properties p) (dates_properties p.dates p.from) (change_readable p) (dates_readable p.dates p.from))
    (rule_readable p.rule p.until h.writable.rule)) tt

parts_readable : (parts : List Part) → AllByRecursion IsSpellable parts → AreReadable 5 (map part_data parts)
parts_readable [] all = tt
parts_readable (p ∷ ps) all = (part_readable p all.0, parts_readable ps all.1)

-- ---- the time zone and the calendar

alias_readable : (alias_of : Option (List ℕ)) → AreReadable 5 (alias_properties alias_of)
unfolding alias_properties
alias_readable None = tt
alias_readable (Some tzid) = (deeper 2 5 _ (omega arith) (text_readable _ _ _), tt)

end_readable : (until : Option Moment) → AreReadable 5 (end_properties until)
unfolding end_properties
end_readable None = tt
end_readable (Some end) = (deeper 2 5 _ (omega arith) (text_readable _ _ _), tt)

zone_readable : (tzid : List ℕ) (alias_of : Option (List ℕ)) (parts : List Part) (until : Option Moment) → AllByRecursion IsSpellable parts
    → IsReadable 7 (calendar_data tzid alias_of parts until)
unfolding calendar_data
zone_readable tzid alias_of parts until all =
    component_readable 5 (codes "vtimezone") (zone_properties tzid alias_of until) (map part_data parts)
    (deeper 2 5 _ (omega arith) (text_readable _ _ _), both 5 (alias_properties alias_of) (end_properties until) (alias_readable alias_of) (end_readable until))
    (parts_readable parts all)

calendar_properties_readable : AreReadable 7 calendar_properties
unfolding calendar_properties
calendar_properties_readable = (deeper 2 7 _ (omega arith) (text_readable _ _ _), (deeper 2 7 _ (omega arith) (text_readable _ _ _), tt))

tree_readable : (tzid : List ℕ) (alias_of : Option (List ℕ)) (parts : List Part) (until : Option Moment) → AllByRecursion IsSpellable parts
    → IsReadable 9 (tree tzid alias_of parts until)
unfolding tree
tree_readable tzid alias_of parts until all =
    component_readable 7 (codes "vcalendar") calendar_properties (calendar_data tzid alias_of parts until ∷ []) calendar_properties_readable
    (zone_readable tzid alias_of parts until all, tt)

each_spellable : (ps : List Part) → All IsSpellable ps → AllByRecursion IsSpellable ps
each_spellable [] all = tt
each_spellable (p ∷ ps) all = (all 0 p (omega arith), each_spellable ps (λ k d lt. all (suc k) d (omega arith)))

pub calendar_reads : (tzid : List ℕ) (alias_of : Option (List ℕ)) (parts : List Part) (until : Option Moment) → All IsSpellable parts
    → read (calendar tzid alias_of parts until) ≡ Some (tree tzid alias_of parts until)
unfolding calendar
calendar_reads tzid alias_of parts until all =
    read_back (tree tzid alias_of parts until)
    (deeper 9 max_depth (tree tzid alias_of parts until) (omega arith) (tree_readable tzid alias_of parts until (each_spellable parts all)))
