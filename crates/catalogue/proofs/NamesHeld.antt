-- The names of the release that a catalogue holds are those of its index.
use Rattle.std.proofs.Common.{◌≡◌, ℕ, ◌+◌, Bool, true, false, if◌then◌else◌, List, [], ◌∷◌, ◌++◌, length, map, refl, ap, sym, ◌∙◌}
use Rattle.std.proofs.lemmas.List.{map-append, length-map}
use Rattle.std.proofs.lemmas.Simd.{map-map}
use Rattle.catalogue.specs.HeldZones.{held_content, held_names, indexed_names, names_at, numbered}
use Rattle.catalogue.specs.Holdings.{names_held}
use Rattle.catalogue.specs.Order.{is_before, put_by, rising_by}
use Rattle.catalogue.specs.Releases.{ContentData}
use Rattle.catalogue.specs.declared.holding.Catalogue.{Catalogue}
use Rattle.catalogue.specs.declared.names.Name.{Name}
use Rattle.catalogue.proofs.lemmas.NameIndex.{joined_names, joined-names_of}

-- the texts of sorted items are the sorted texts
texts_put : {X : Type 0} (text : X → List ℕ) (x : X) (xs : List X) → map text (put_by text x xs) ≡ put_by (λ t. t) (text x) (map text xs)
texts_put text x [] = refl
texts_put {X} text x (y ∷ ys) = by (is_before (text y) (text x)) (texts_put text x ys)
  where
    by : (b : Bool) → map text (put_by text x ys) ≡ put_by (λ t. t) (text x) (map text ys)
        → map text (if b then y ∷ put_by text x ys else x ∷ y ∷ ys)
        ≡ (if b then text y ∷ put_by (λ t. t) (text x) (map text ys) else text x ∷ text y ∷ map text ys)
    by true later = ap (λ ts. text y ∷ ts) later
    by false later = refl

texts_rising : {X : Type 0} (text : X → List ℕ) (xs : List X) → map text (rising_by text xs) ≡ rising_by (λ t. t) (map text xs)
texts_rising text [] = refl
texts_rising text (x ∷ xs) = texts_put text x (rising_by text xs) ∙ ap (put_by (λ t. t) (text x)) (texts_rising text xs)

-- names with their numbers have the texts of the zones
texts_at : (n : ℕ) (texts : List (List ℕ)) → map (λ (m : Name). m.text) (names_at n texts) ≡ texts
texts_at n [] = refl
texts_at n (t ∷ ts) = ap (λ xs. t ∷ xs) (texts_at n ts)

texts_numbered : (n : ℕ) (xss : List (List (List ℕ))) → map (λ (m : Name). m.text) (numbered n xss) ≡ joined_names xss
texts_numbered n [] = refl
texts_numbered n (texts ∷ rest) =
    map-append (λ (m : Name). m.text) (names_at n texts) (numbered (n + 1) rest)
    ∙ ap (λ xs. xs ++ map (λ (m : Name). m.text) (numbered (n + 1) rest)) (texts_at n texts)
    ∙ ap (λ xs. texts ++ xs) (texts_numbered (n + 1) rest)

pub names_indexed : {Z : Type 0} (bytes : Z → List ℕ) (c : Catalogue Z) → map (λ n. n.text) (indexed_names c.names) ≡ names_held bytes c
unfolding names_held
names_indexed bytes c =
    ap (map (λ (n : Name). n.text)) c.indexed
    ∙ texts_rising (λ (n : Name). n.text) (numbered 0 (map held_names c.held))
    ∙ ap (rising_by (λ t. t)) (texts_numbered 0 (map held_names c.held)
    ∙ ap joined_names (sym (map-map (λ (d : ContentData). d.tzid ∷ d.aliases) (held_content bytes) c.held))
    ∙ joined-names_of (map (held_content bytes) c.held))

pub name_count_held : {Z : Type 0} (bytes : Z → List ℕ) (c : Catalogue Z) → length (indexed_names c.names) ≡ length (names_held bytes c)
name_count_held bytes c = sym (length-map (indexed_names c.names) (λ (n : Name). n.text)) ∙ ap length (names_indexed bytes c)
