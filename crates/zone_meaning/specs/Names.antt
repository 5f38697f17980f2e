-- Which zones have names alone that can be printed: letters, digits, `+` and `-`, at least one.
use Rattle.std.specs.Prelude.{ℕ, List, [], ◌∷◌, ◌++◌, map, Bool, false, Option, None, Some}
use Rattle.std.specs.List.{list_all}
use Rattle.tzif_reader.specs.Cut.{lists_of}
use Rattle.posix_footer.specs.Items.{is_designation_byte}
use Rattle.posix_footer.specs.declared.rule_types.Footer.{Footer}
use Rattle.posix_footer.specs.declared.rule_types.DstRule.{DstRule}
use Rattle.zone_meaning.specs.State.{footer_meant}

-- at least one such byte
abbrev pub is_printable_name : List ℕ → Bool
is_printable_name [] = false
is_printable_name (b ∷ bs) = list_all is_designation_byte (b ∷ bs)

-- the names that a footer gives
abbrev pub rule_names : Option DstRule → List (List ℕ)
rule_names None = []
rule_names (Some rule) = rule.dst.name ∷ []

abbrev pub footer_names : Option Footer → List (List ℕ)
footer_names None = []
footer_names (Some footer) = footer.std.name ∷ rule_names footer.dst

-- each name of a zone file's types, used or not, and of its footer is such a name
unfoldable pub has_printable_names : List ℕ → Bool
has_printable_names bytes =
    list_all is_printable_name
    (map (λ kind. kind.name) (lists_of bytes).kinds
    ++ footer_names (footer_meant (lists_of bytes).footer))
