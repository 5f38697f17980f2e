-- How zones are counted off.
use Rattle.std.proofs.Common.{◌≡◌, ℕ, suc, ◌+◌, ◌-◌, ◌%◌, ◌<◌, ◌≤◌, ◌==◌, List, [], ◌∷◌, ◌++◌, length, map, Bool, true, false, cond, sym, ap, ◌∙◌, subst, arith}
use Rattle.std.proofs.Common.{append-nil, append_assoc}
use Rattle.std.specs.List.{filter, range_with_len}
use Rattle.td_base.specs.Views.{File, file_at}
use Rattle.release_manifest.specs.declared.manifest_type.ManifestZone.{ManifestZone}
use Rattle.made_load.specs.Releases.{HasMadeFiles, made_file, made_zone, zone_numbers}

-- ---- moves

abbrev is_moved : ℕ → ℕ → Bool
is_moved zone k = k % 50 == zone

-- one release more
pub moved_on : (zone place last moves one total : ℕ) → place < last → one ≡ cond (is_moved zone place) 1 0
    → moves + length (filter (is_moved zone) (range_with_len place (last - place))) ≡ total
    → (moves + one) + length (filter (is_moved zone) (range_with_len (place + 1) (last - (place + 1)))) ≡ total
moved_on zone place last moves one total less is h =
    let left : last - place ≡ suc (last - (place + 1)) = omega (arith, less) in
    by (is_moved zone place) (filter (is_moved zone) (range_with_len (place + 1) (last - (place + 1)))) is
    (subst (λ n. moves + length (filter (is_moved zone) (range_with_len place n)) ≡ total) left h)
  where
    by : (t : Bool) (others : List ℕ) → one ≡ cond t 1 0 → moves + length (cond t (place ∷ others) others) ≡ total
        → (moves + one) + length others ≡ total
    by true others e k = omega (arith, e, k)
    by false others e k = omega (arith, e, k)

-- ---- what a manifest names

-- one zone more, after the others
pub named_on : (zones now : List ManifestZone) (zone : ℕ) → zone < 50 → now ≡ zones ++ made_zone zone ∷ []
    → zones ++ map made_zone (range_with_len zone (50 - zone)) ≡ map made_zone (range_with_len 0 50)
    → now ++ map made_zone (range_with_len (zone + 1) (50 - (zone + 1))) ≡ map made_zone (range_with_len 0 50)
named_on zones now zone less is h =
    let left : 50 - zone ≡ suc (50 - (zone + 1)) = omega (arith, less) in
    let others = map made_zone (range_with_len (zone + 1) (50 - (zone + 1))) in
    ap (λ l. l ++ others) is ∙ append_assoc zones (made_zone zone ∷ []) others
    ∙ subst (λ n. zones ++ map made_zone (range_with_len zone n) ≡ map made_zone (range_with_len 0 50)) left h

pub all_named : (zones : List ManifestZone) (zone : ℕ) → 50 ≤ zone
    → zones ++ map made_zone (range_with_len zone (50 - zone)) ≡ map made_zone (range_with_len 0 50) → zones ≡ map made_zone zone_numbers
unfolding zone_numbers
all_named zones zone most h =
    let none : 50 - zone ≡ 0 = omega (arith, most) in
    sym (append-nil zones) ∙ subst (λ n. zones ++ map made_zone (range_with_len zone n) ≡ map made_zone (range_with_len 0 50)) none h

-- ---- files

-- the files of all zones
pub all_files : (r zone : ℕ) (files : List File) → zone ≡ 0
    → ((path : List ℕ) → file_at files path ≡ file_at (map (made_file r) (range_with_len zone (50 - zone))) path) → HasMadeFiles r files
unfolding zone_numbers
all_files r zone files none h = λ path.
    subst (λ z. file_at files path ≡ file_at (map (made_file r) (range_with_len z (50 - z))) path) none (h path)
