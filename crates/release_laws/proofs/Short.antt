-- Each length in a release of a sound history fits in four bytes.
use Rattle.std.proofs.Common.{◌≡◌, ℕ, ◌<◌, ◌≤◌, ◌^◌, List, [], ◌∷◌, ◌++◌, length, true, sym, ◌∙◌, arith, length-append}
use Rattle.std.specs.Prelude.{nat_le}
use Rattle.std.specs.List.{AllByRecursion, list_all}
use Rattle.std.proofs.lemmas.Bool.{leb-true, and_parts}
use Rattle.std.proofs.lemmas.List.Folds.{list_all-append}
use Rattle.td_base.specs.Names.{is_identifier, is_path, is_segment, segments}
use Rattle.catalogue.specs.Releases.{ContentData, names_of, IsShort}

short_identifier : (text : List ℕ) → is_identifier text ≡ true → length text < 2 ^ 32
unfolding is_path
short_identifier text h =
    let most : length text ≤ 64 = leb-true _ _ (and_parts (nat_le (length text) 64) (list_all is_segment (segments text)) h).0 in
    omega arith

short_aliases : (texts : List (List ℕ)) → list_all is_identifier texts ≡ true → AllByRecursion (λ a. length a < 2 ^ 32) texts
short_aliases [] h = tt
short_aliases (x ∷ xs) h =
    let both = and_parts (is_identifier x) (list_all is_identifier xs) h in
    (short_identifier x both.0, short_aliases xs both.1)

pub short_contents : (most : ℕ) (cs : List ContentData) → most < 2 ^ 32 → list_all is_identifier (names_of cs) ≡ true → length (names_of cs) ≤ most
    → AllByRecursion (λ c. length c.file < 2 ^ 32) cs → AllByRecursion IsShort cs
short_contents most [] fits h few files = tt
short_contents most (c ∷ cs) fits h few files =
    let one = and_parts (is_identifier c.tzid) (list_all is_identifier (c.aliases ++ names_of cs)) h in
    let both = and_parts (list_all is_identifier c.aliases) (list_all is_identifier (names_of cs))
    (sym (list_all-append is_identifier c.aliases (names_of cs)) ∙ one.1) in (
      record {
        tzid = short_identifier c.tzid one.0;
        count = omega (arith, length-append c.aliases (names_of cs));
        aliases = short_aliases c.aliases both.0;
        file = files.0;
      },
      short_contents most cs fits both.1 (omega (arith, length-append c.aliases (names_of cs))) files.1,
    )
