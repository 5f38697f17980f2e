-- The names of a zone are those of its types and of its TZ string.
use Rattle.std.proofs.Common.{◌≡◌, ◌∙◌, ℕ, Bool, false, ◌&&◌, List, ◌++◌, map, Option, ap, sym, refl}
use Rattle.std.specs.List.{list_all}
use Rattle.std.proofs.lemmas.List.Folds.{list_all-append}
use Rattle.td_civil.specs.declared.local_time.Local.{Local}
use Rattle.tzif_reader.specs.Cut.{lists_of}
use Rattle.tzif_reader.specs.declared.zone_file.ZoneFile.{ZoneFile}
use Rattle.posix_footer.specs.declared.rule_types.Footer.{Footer}
use Rattle.zone_meaning.specs.Names.{footer_names, has_printable_names, is_printable_name}
use Rattle.zone_meaning.specs.State.{footer_meant}

names_joined : (kinds : List Local) (footer : Option Footer) (of_kinds of_footer : Bool)
    → of_kinds ≡ list_all is_printable_name (map (λ kind. kind.name) kinds) → of_footer ≡ list_all is_printable_name (footer_names footer)
    → (of_kinds && of_footer) ≡ list_all is_printable_name (map (λ kind. kind.name) kinds ++ footer_names footer)
names_joined kinds footer of_kinds of_footer k f =
    rw (k, f) (sym (list_all-append is_printable_name (map (λ kind. kind.name) kinds) (footer_names footer)))

pub names_judged : (bytes : List ℕ) (z : ZoneFile) (kinds : List Local) (footer : Option Footer) (of_kinds of_footer : Bool)
    → z ≡ lists_of bytes → kinds ≡ z.kinds → footer ≡ footer_meant (lists_of bytes).footer
    → of_kinds ≡ list_all is_printable_name (map (λ kind. kind.name) kinds) → of_footer ≡ list_all is_printable_name (footer_names footer)
    → (of_kinds && of_footer) ≡ has_printable_names bytes
unfolding has_printable_names
names_judged bytes z kinds footer of_kinds of_footer zi ki fi k f =
    names_joined kinds footer of_kinds of_footer k f
    ∙ ap (λ ks. list_all is_printable_name (map (λ kind. kind.name) ks ++ footer_names footer)) (ki ∙ ap (λ y. y.kinds) zi)
    ∙ ap (λ g. list_all is_printable_name (map (λ kind. kind.name) (lists_of bytes).kinds ++ footer_names g)) fi

-- names of types alone that cannot be printed
first_refused : (bytes : List ℕ) (b : Bool) → (false && b) ≡ has_printable_names bytes → false ≡ has_printable_names bytes
first_refused bytes b h = h

pub names_refused : (bytes : List ℕ) (z : ZoneFile) (kinds : List Local) (of_kinds : Bool) → z ≡ lists_of bytes → kinds ≡ z.kinds → of_kinds ≡ false
    → of_kinds ≡ list_all is_printable_name (map (λ kind. kind.name) kinds) → of_kinds ≡ has_printable_names bytes
names_refused bytes z kinds of_kinds zi ki none k =
    let footer = footer_meant (lists_of bytes).footer in
    let rest = list_all is_printable_name (footer_names footer) in
    none ∙ first_refused bytes rest (ap (λ b. b && rest) (sym none) ∙ names_judged bytes z kinds footer of_kinds rest zi ki refl k refl)
