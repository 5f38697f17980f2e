-- What is printed for the tokens of a tree, and trees whose tokens are written call by call.
use Rattle.std.proofs.Common.{◌≡◌, ℕ, ℤ, Option, None, Some, List, [], ◌∷◌, ◌++◌, codes, map, refl, sym, ap, ap₂, ◌∙◌, append_assoc, append-nil}
use Rattle.std.proofs.lemmas.Grind.{flat_map-append}
use Rattle.json.specs.Print.{print}
use Rattle.json.specs.Token as token
use Rattle.json.specs.Token.{Token}
use Rattle.json.specs.Tree.{items_tokens, members_tokens}
use Rattle.serde_json.specs.Data.{Data, string, Members, member}
use Rattle.serde_json.specs.View.{items_of}
use Rattle.serde_json.specs.Written.{items_outline, members_outline, compact_text}
use Rattle.serde_json.proofs.Texts.{print-outline}
use Rattle.td_civil.specs.declared.moment_type.Moment.{Moment}
use Rattle.td_civil.specs.Calendar.{text_of}
use Rattle.recurrence.specs.declared.part_types.Part.{Part}
use Rattle.recurrence.specs.declared.rule_types.Form.{Form}
use Rattle.recurrence.specs.declared.rule_types.Form.TheVariants as form
use Rattle.recurrence.specs.declared.rule_types.Rule.{Rule}
use Rattle.jcal.specs.Tree.{string_property, component, form_members, last_members, recur_data, change_properties, date_data, dates_property, rule_properties}
use Rattle.jcal.specs.Tree.{alias_properties, end_properties, zone_properties, calendar_properties}
use Rattle.jcal.specs.TreeTokens.{tree_tokens, row_tokens, property_begin, component_begin, components_begin, component_end, form_tokens, last_tokens}
use Rattle.jcal.specs.Values.{local_text, jcal_offset_text}

-- a document that stands alone, from what is ensured where the writer is made, where the tree is
-- written, and at the end
pub text_of_tree : (d : Data) (held before after text whole : List ℕ) (ts us : List Token)
    → held ≡ [] → before ≡ held → ts ≡ [] → after ≡ before → us ≡ ts ++ tree_tokens d → text ≡ after ++ print us → whole ≡ text → whole ≡ compact_text d
text_of_tree d held before after text whole ts us nothing made none kept written printed same =
    same ∙ printed ∙ ap₂ (λ b xs. b ++ print xs) (kept ∙ made ∙ nothing) (written ∙ ap (λ xs. xs ++ tree_tokens d) none) ∙ print-outline d

-- one call after another
then : (t₀ a t₁ b t₂ : List Token) → t₁ ≡ t₀ ++ a → t₂ ≡ t₁ ++ b → t₂ ≡ t₀ ++ (a ++ b)
then t₀ a t₁ b t₂ first second = second ∙ ap (λ ts. ts ++ b) first ∙ append_assoc t₀ a b

then_two : (t₀ a t₁ b t₂ c t₃ : List Token) → t₁ ≡ t₀ ++ a → t₂ ≡ t₁ ++ b → t₃ ≡ t₂ ++ c → t₃ ≡ t₀ ++ (a ++ (b ++ c))
then_two t₀ a t₁ b t₂ c t₃ h₁ h₂ h₃ = then t₀ a t₁ (b ++ c) t₃ h₁ (then t₁ b t₂ c t₃ h₂ h₃)

then_three : (t₀ a t₁ b t₂ c t₃ d t₄ : List Token) → t₁ ≡ t₀ ++ a → t₂ ≡ t₁ ++ b → t₃ ≡ t₂ ++ c → t₄ ≡ t₃ ++ d → t₄ ≡ t₀ ++ (a ++ (b ++ (c ++ d)))
then_three t₀ a t₁ b t₂ c t₃ d t₄ h₁ h₂ h₃ h₄ = then t₀ a t₁ (b ++ (c ++ d)) t₄ h₁ (then_two t₁ b t₂ c t₃ d t₄ h₂ h₃ h₄)

-- the items of an array one after another, and its end
items_ended : (ds : List Data) (more : List Token) → row_tokens ds ++ (token.end_array ∷ more) ≡ items_tokens (items_outline (items_of ds)) ++ more
items_ended [] more = refl
items_ended (d ∷ ds) more =
    append_assoc (tree_tokens d) (row_tokens ds) _ ∙ ap (λ ts. tree_tokens d ++ ts) (items_ended ds more)
    ∙ rw (append_assoc (tree_tokens d) (items_tokens (items_outline (items_of ds))) more) refl

row_ended : (ds : List Data) → row_tokens ds ++ (token.end_array ∷ []) ≡ items_tokens (items_outline (items_of ds))
row_ended ds = items_ended ds [] ∙ append-nil (items_tokens (items_outline (items_of ds)))

-- ---- components

component_tokens : (name : List ℕ) (ps cs : List Data)
    → component_begin name ++ (row_tokens ps ++ (components_begin ++ (row_tokens cs ++ component_end))) ≡ tree_tokens (component name ps cs)
component_tokens name ps cs =
    ap (λ ts. component_begin name ++ ts)
    (items_ended ps (token.begin_array ∷ (row_tokens cs ++ component_end))
    ∙ ap (λ ts. items_tokens (items_outline (items_of ps)) ++ (token.begin_array ∷ ts)) (items_ended cs (token.end_array ∷ [])))

pub component_written : (name : List ℕ) (ps cs : List Data) (t₀ t₁ t₂ t₃ t₄ t₅ : List Token)
    → t₁ ≡ t₀ ++ component_begin name → t₂ ≡ t₁ ++ row_tokens ps → t₃ ≡ t₂ ++ components_begin → t₄ ≡ t₃ ++ row_tokens cs → t₅ ≡ t₄ ++ component_end
    → t₅ ≡ t₀ ++ tree_tokens (component name ps cs)
component_written name ps cs t₀ t₁ t₂ t₃ t₄ t₅ h₁ h₂ h₃ h₄ h₅ =
    then t₀ (component_begin name) t₁ (row_tokens ps ++ (components_begin ++ (row_tokens cs ++ component_end))) t₅ h₁
    (then_three t₁ (row_tokens ps) t₂ components_begin t₃ (row_tokens cs) t₄ component_end t₅ h₂ h₃ h₄ h₅)
    ∙ ap (λ ts. t₀ ++ ts) (component_tokens name ps cs)

-- nothing is written
pub none_written : (ts : List Token) → ts ≡ ts ++ row_tokens []
none_written ts = sym (append-nil ts)

-- one tree is a row
pub one_written : (d : Data) (ts us : List Token) → us ≡ ts ++ tree_tokens d → us ≡ ts ++ row_tokens (d ∷ [])
one_written d ts us h = h ∙ ap (λ xs. ts ++ xs) (sym (append-nil (tree_tokens d)))

-- ---- rules

-- the members that name the days of a rule
form_written : (f : Form) (ms : Members) → members_tokens (members_outline (form_members f ms)) ≡ form_tokens f ++ members_tokens (members_outline ms)
unfolding form_members
form_written (form.NthDay month nth weekday) ms = refl
form_written (form.MonthDays month first weekday) ms = refl
form_written (form.YearDays first weekday) ms = refl
form_written (form.FixedDate month day) ms = refl

last_written : (until : Option Moment) → last_tokens until ++ (token.end_object ∷ []) ≡ members_tokens (members_outline (last_members until))
unfolding last_members
last_written None = refl
last_written (Some last) = refl

pub recur_written : (f : Form) (until : Option Moment) (t₀ t₁ t₂ t₃ t₄ t₅ t₆ : List Token)
    → t₁ ≡ t₀ ++ (token.begin_object ∷ []) → t₂ ≡ t₁ ++ form_tokens f → t₃ ≡ t₂ ++ (token.key (codes "freq") ∷ [])
    → t₄ ≡ t₃ ++ (token.string (codes "YEARLY") ∷ []) → t₅ ≡ t₄ ++ last_tokens until → t₆ ≡ t₅ ++ (token.end_object ∷ [])
    → t₆ ≡ t₀ ++ tree_tokens (recur_data f until)
unfolding recur_data
recur_written f until t₀ t₁ t₂ t₃ t₄ t₅ t₆ h₁ h₂ h₃ h₄ h₅ h₆ =
    then_two t₀ (token.begin_object ∷ []) t₁ (form_tokens f) t₂
    (token.key (codes "freq") ∷ token.string (codes "YEARLY") ∷ (last_tokens until ++ (token.end_object ∷ []))) t₆ h₁ h₂
    (then_three t₂ (token.key (codes "freq") ∷ []) t₃ (token.string (codes "YEARLY") ∷ []) t₄ (last_tokens until) t₅ (token.end_object ∷ []) t₆ h₃ h₄ h₅ h₆)
    ∙ ap (λ ts. t₀ ++ (token.begin_object ∷ ts))
    (ap (λ ts. form_tokens f ++ (token.key (codes "freq") ∷ token.string (codes "YEARLY") ∷ ts)) (last_written until)
    ∙ sym (form_written f (member (codes "freq") (string (codes "YEARLY")) (last_members until))))

-- ---- properties of parts

-- a value that is another text of the same bytes
pub property_written : (name kind value same : List ℕ) (ts us : List Token) → us ≡ ts ++ tree_tokens (string_property name kind value) → value ≡ same
    → us ≡ ts ++ tree_tokens (string_property name kind same)
property_written name kind value same ts us h is = h ∙ ap (λ v. ts ++ tree_tokens (string_property name kind v)) is

pub change_written : (p : Part) (t₀ t₁ t₂ t₃ t₄ : List Token)
    → t₁ ≡ t₀ ++ tree_tokens (string_property (codes "dtstart") (codes "date-time") (local_text p.start.seconds p.from))
    → t₂ ≡ t₁ ++ tree_tokens (string_property (codes "tzoffsetfrom") (codes "utc-offset") (jcal_offset_text p.from))
    → t₃ ≡ t₂ ++ tree_tokens (string_property (codes "tzoffsetto") (codes "utc-offset") (jcal_offset_text p.to))
    → t₄ ≡ t₃ ++ tree_tokens (string_property (codes "tzname") (codes "text") p.name)
    → t₄ ≡ t₀ ++ row_tokens (change_properties p)
unfolding change_properties
change_written p t₀ t₁ t₂ t₃ t₄ h₁ h₂ h₃ h₄ =
    then_three t₀ (tree_tokens (string_property (codes "dtstart") (codes "date-time") (local_text p.start.seconds p.from))) t₁
    (tree_tokens (string_property (codes "tzoffsetfrom") (codes "utc-offset") (jcal_offset_text p.from))) t₂
    (tree_tokens (string_property (codes "tzoffsetto") (codes "utc-offset") (jcal_offset_text p.to))) t₃
    (tree_tokens (string_property (codes "tzname") (codes "text") p.name)) t₄ h₁ h₂ h₃ h₄

pub dates_written : (first : Moment) (dates : List Moment) (offset : ℤ) (text : List ℕ) (t₀ t₁ t₂ t₃ t₄ : List Token)
    → t₁ ≡ t₀ ++ property_begin (codes "rdate") (codes "date-time") → t₂ ≡ t₁ ++ (token.string text ∷ []) → text ≡ local_text first.seconds offset
    → t₃ ≡ t₂ ++ row_tokens (map (date_data offset) dates) → t₄ ≡ t₃ ++ (token.end_array ∷ [])
    → t₄ ≡ t₀ ++ tree_tokens (dates_property first dates offset)
dates_written first dates offset text t₀ t₁ t₂ t₃ t₄ h₁ h₂ is h₃ h₄ =
    then_three t₀ (property_begin (codes "rdate") (codes "date-time")) t₁ (token.string (local_text first.seconds offset) ∷ []) t₂
    (row_tokens (map (date_data offset) dates)) t₃ (token.end_array ∷ []) t₄ h₁ (h₂ ∙ ap (λ v. t₁ ++ (token.string v ∷ [])) is) h₃ h₄
    ∙ ap (λ ts. t₀ ++ (property_begin (codes "rdate") (codes "date-time") ++ (token.string (local_text first.seconds offset) ∷ ts)))
    (row_ended (map (date_data offset) dates))

pub rule_written : (rule : Option Rule) (r : Rule) (until : Option Moment) (t₀ t₁ t₂ t₃ : List Token)
    → t₁ ≡ t₀ ++ property_begin (codes "rrule") (codes "recur") → t₂ ≡ t₁ ++ tree_tokens (recur_data r.form until) → t₃ ≡ t₂ ++ (token.end_array ∷ [])
    → rule ≡ Some r → t₃ ≡ t₀ ++ row_tokens (rule_properties rule until)
unfolding rule_properties
rule_written rule r until t₀ t₁ t₂ t₃ h₁ h₂ h₃ is =
    rw is
    (then_two t₀ (property_begin (codes "rrule") (codes "recur")) t₁ (tree_tokens (recur_data r.form until)) t₂ (token.end_array ∷ []) t₃ h₁ h₂ h₃
    ∙ ap (λ ts. t₀ ++ (property_begin (codes "rrule") (codes "recur") ++ ts)) (sym (append-nil (tree_tokens (recur_data r.form until) ++ (token.end_array ∷ [])))))

-- ---- properties of a zone and of the calendar

pub alias_written : (alias_of : Option (List ℕ)) (tzid : List ℕ) (ts us : List Token)
    → us ≡ ts ++ tree_tokens (string_property (codes "tzid-alias-of") (codes "text") tzid) → alias_of ≡ Some tzid
    → us ≡ ts ++ row_tokens (alias_properties alias_of)
unfolding alias_properties
alias_written alias_of tzid ts us h is = rw is h

pub end_written : (until : Option Moment) (end : Moment) (text : List ℕ) (ts us : List Token)
    → us ≡ ts ++ tree_tokens (string_property (codes "tzuntil") (codes "date-time") text) → text ≡ text_of end.seconds → until ≡ Some end
    → us ≡ ts ++ row_tokens (end_properties until)
unfolding end_properties
end_written until end text ts us h exact is =
    rw is (property_written (codes "tzuntil") (codes "date-time") text (text_of end.seconds) ts us h exact)

pub zone_properties_written : (tzid : List ℕ) (alias_of : Option (List ℕ)) (until : Option Moment) (t₀ t₁ t₂ t₃ : List Token)
    → t₁ ≡ t₀ ++ tree_tokens (string_property (codes "tzid") (codes "text") tzid) → t₂ ≡ t₁ ++ row_tokens (alias_properties alias_of)
    → t₃ ≡ t₂ ++ row_tokens (end_properties until) → t₃ ≡ t₀ ++ row_tokens (zone_properties tzid alias_of until)
zone_properties_written tzid alias_of until t₀ t₁ t₂ t₃ h₁ h₂ h₃ =
    then_two t₀ (tree_tokens (string_property (codes "tzid") (codes "text") tzid)) t₁ (row_tokens (alias_properties alias_of)) t₂
    (row_tokens (end_properties until)) t₃ h₁ h₂ h₃
    ∙ ap (λ ts. t₀ ++ (tree_tokens (string_property (codes "tzid") (codes "text") tzid) ++ ts))
    (sym (flat_map-append tree_tokens (alias_properties alias_of) (end_properties until)))

pub calendar_properties_written : (t₀ t₁ t₂ : List Token) → t₁ ≡ t₀ ++ tree_tokens (string_property (codes "version") (codes "text") (codes "2.0"))
    → t₂ ≡ t₁ ++ tree_tokens (string_property (codes "prodid") (codes "text") (codes "-//tzdistd//RFC 7808//EN"))
    → t₂ ≡ t₀ ++ row_tokens calendar_properties
unfolding calendar_properties
calendar_properties_written t₀ t₁ t₂ h₁ h₂ =
    then t₀ (tree_tokens (string_property (codes "version") (codes "text") (codes "2.0"))) t₁
    (tree_tokens (string_property (codes "prodid") (codes "text") (codes "-//tzdistd//RFC 7808//EN"))) t₂ h₁ h₂
