-- The format that an Accept field chooses.
use Rattle.std.specs.Prelude.{◌≡◌, ℕ, List, [], ◌∷◌, find, max, ◌==◌, if◌then◌else◌, Option, Some}
use Rattle.std.specs.Prelude.{None}
use Rattle.std.specs.Prelude.{option_map, codes}
use Rattle.negotiate.specs.Qualities.{quality_of_range}
use Rattle.negotiate.specs.declared.choosing.Format.{Format}
use Rattle.negotiate.specs.declared.choosing.Format.TheVariants.{Calendar, Tzif, CalendarJson}
use Rattle.negotiate.specs.declared.choosing.Offer.{Offer}

-- the first of the qualities that there is, or none at all
abbrev pub first_choice : Option ℕ → Option ℕ → Option ℕ → ℕ
first_choice (Some exact) group any = exact
first_choice None (Some group) any = group
first_choice None None (Some any) = any
first_choice None None None = 0

-- the quality of a format is that of the most specific range that names it
unfoldable pub quality_of : List ℕ → List ℕ → List ℕ → ℕ
quality_of exact group field =
    first_choice (quality_of_range exact field) (quality_of_range group field)
    (quality_of_range (codes "*/*") field)

-- a format, with its media type and the range of all subtypes of its type
pub record NamedFormat : Type 0 where
  pub format : Format
  pub exact : List ℕ
  pub group : List ℕ

abbrev pub calendar_format : NamedFormat
calendar_format =
    record { format = Calendar; exact = codes "text/calendar"; group = codes "text/*" }

abbrev pub file_format : NamedFormat
file_format = record { format = Tzif; exact = codes "application/tzif"; group = codes "application/*" }

abbrev pub json_format : NamedFormat
json_format = record {
  format = CalendarJson;
  exact = codes "application/calendar+json";
  group = codes "application/*";
}

-- the formats, in the order in which they are preferred
abbrev pub formats : List NamedFormat
formats = calendar_format ∷ file_format ∷ json_format ∷ []

abbrev pub format_quality : List ℕ → NamedFormat → ℕ
format_quality field f = quality_of f.exact f.group field

abbrev pub largest_quality : List ℕ → List NamedFormat → ℕ
largest_quality field [] = 0
largest_quality field (f ∷ fs) = max (format_quality field f) (largest_quality field fs)

-- the first format of the largest quality, if that is not 0
abbrev pub best_format : List ℕ → List NamedFormat → Option Format
best_format field fs =
    if largest_quality field fs == 0 then None
    else option_map (λ f. f.format)
    (find (λ f. format_quality field f == largest_quality field fs) fs)

-- the format that a field chooses among some; without a field calendars are chosen
abbrev pub chosen_among : List NamedFormat → Option (List ℕ) → Option Format
chosen_among fs None = Some Calendar
chosen_among fs (Some field) = best_format field fs

-- among all formats
unfoldable pub chosen_format : Option (List ℕ) → Option Format
chosen_format accept = chosen_among formats accept

-- no element of the field names the format, by a range with a well-formed quality
pub record IsUnnamed (field : List ℕ) (f : NamedFormat) : Type 0 where
  pub exact : quality_of_range f.exact field ≡ None
  pub group : quality_of_range f.group field ≡ None
  pub any : quality_of_range (codes "*/*") field ≡ None

-- the format as the code offers it
abbrev pub named_offer : Offer → NamedFormat
named_offer offer = record {
  format = offer.format;
  exact = offer.exact.now;
  group = offer.group.now;
}
