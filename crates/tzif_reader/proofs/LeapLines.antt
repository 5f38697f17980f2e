-- How many leap lines there can be: each takes twelve bytes of a block within the file.
use Rattle.std.proofs.Common.{◌≡◌, ℕ, ◌+◌, ◌*◌, ◌≤◌, List, [], ◌∷◌, ◌++◌, length, ap, ◌∙◌, arith, length-append}
use Rattle.tzif_reader.specs.Layout.{AreJoined, IsZoneFile, IsLeapLine}
use Rattle.tzif_reader.specs.declared.zone_file.ZoneFile.{ZoneFile}

joined_length : {A : Type 0} (size : ℕ) (Is : List ℕ → A → Type 0) (text : List ℕ) (xs : List A)
    → AreJoined size Is text xs → length text ≡ size * length xs
joined_length size Is text [] h = rw h (omega arith)
joined_length size Is text (x ∷ xs) h =
    let rest : length h.1 ≡ size * length xs = joined_length size Is h.1 xs h.5 in
    let whole : length text ≡ length h.0 + length h.1 = ap length h.2 ∙ length-append h.0 h.1 in
    grind (arith, rest, whole, h.3)

-- a part of five is no longer than the whole
within : (a b c d e f : List ℕ) (text : List ℕ) → text ≡ a ++ (b ++ (c ++ (d ++ (e ++ f)))) → length e ≤ length text
within a b c d e f text is = rw is (grind (arith, length-append))

pub few_leap_lines : (bytes : List ℕ) (z : ZoneFile) → IsZoneFile bytes z → length z.leaps ≤ 65536
few_leap_lines bytes z is =
    let block = is.second_block_is in
    let leaps : length block.leaps ≡ 12 * length z.leaps = joined_length 12 IsLeapLine block.leaps z.leaps block.leaps_are in
    let inside : length block.leaps ≤ length is.second_block =
    within block.times z.numbers block.types block.designations block.leaps (block.standard ++ block.ut) is.second_block block.whole in
    let whole : length is.second_block ≤ length bytes =
    within is.first_header is.first_block is.second_header [] is.second_block (10 ∷ (z.footer ++ (10 ∷ []))) bytes is.whole in
    let size : length bytes ≤ 65536 = is.size in
    omega (arith, leaps, inside, whole, size)
