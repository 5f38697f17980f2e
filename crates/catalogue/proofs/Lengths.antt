-- Each length of a content fits in four bytes where its names are identifiers.
use Rattle.std.proofs.Common.{◌≡◌, ℕ, ◌<◌, ◌≤◌, ◌^◌, Bool, true, false, ◌&&◌, List, [], ◌∷◌, ◌++◌, length, refl, sym, ◌∙◌, map, arith, length-append}
use Rattle.std.specs.Prelude.{nat_le}
use Rattle.std.specs.List.{AllByRecursion, list_all}
use Rattle.std.proofs.lemmas.List.Folds.{list_all-append}
use Rattle.td_base.specs.Names.{is_identifier, is_path, is_segment, segments}
use borrow.Author.Tests.{leb-true}
use Rattle.catalogue.specs.Releases.{ContentData, names_of, IsShort}
use Rattle.catalogue.specs.declared.limits.TheConstants.{MOST_NAMES}

pub and-left : (a b : Bool) → (a && b) ≡ true → a ≡ true
and-left true b h = refl
and-left false b h = h

pub and-right : (a b : Bool) → (a && b) ≡ true → b ≡ true
and-right true b h = h
and-right false b h = absurd (cc)

short_identifier : (text : List ℕ) → is_identifier text ≡ true → length text < 2 ^ 32
unfolding is_path
short_identifier text h =
    let short : nat_le (length text) 64 ≡ true = and-left (nat_le (length text) 64) (list_all is_segment (segments text)) h in
    omega (arith, leb-true (length text) 64 short)

short_aliases : (texts : List (List ℕ)) → list_all is_identifier texts ≡ true → AllByRecursion (λ a. length a < 2 ^ 32) texts
short_aliases [] h = tt
short_aliases (x ∷ xs) h = (
  short_identifier x (and-left (is_identifier x) (list_all is_identifier xs) h),
  short_aliases xs
      (and-right (is_identifier x) (list_all is_identifier xs) h),
)

pub short_contents : (cs : List ContentData) → list_all is_identifier (names_of cs) ≡ true → length (names_of cs) ≤ MOST_NAMES
    → AllByRecursion (λ c. length c.file < 2 ^ 32) cs → AllByRecursion IsShort cs
short_contents [] h few files = tt
short_contents (c ∷ cs) h few files =
    let rest : list_all is_identifier (c.aliases ++ names_of cs) ≡ true =
    and-right (is_identifier c.tzid) (list_all is_identifier (c.aliases ++ names_of cs)) h in
    let both : (list_all is_identifier c.aliases && list_all is_identifier (names_of cs)) ≡ true = sym (list_all-append is_identifier c.aliases (names_of cs))
    ∙ rest in (
      record {
        tzid = short_identifier c.tzid (and-left (is_identifier c.tzid) (list_all is_identifier (c.aliases ++ names_of cs)) h);
        count = omega (arith, length-append c.aliases (names_of cs));
        aliases = short_aliases c.aliases (and-left (list_all is_identifier c.aliases) (list_all is_identifier (names_of cs)) both);
        file = files.0;
      },
      short_contents cs (and-right (list_all is_identifier c.aliases) (list_all is_identifier (names_of cs)) both)
          (omega (arith, length-append c.aliases (names_of cs))) files.1,
    )

pub each_mapped : {X Y : Type 0} (f : X → Y) (P : Y → Type 0) (xs : List X) → AllByRecursion P (map f xs) → AllByRecursion (λ x. P (f x)) xs
each_mapped f P [] h = tt
each_mapped f P (x ∷ xs) h = (h.0, each_mapped f P xs h.1)
