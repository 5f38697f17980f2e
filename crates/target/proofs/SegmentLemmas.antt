-- Decoding the segments of a path one by one.
use Rattle.std.proofs.Common.{◌≡◌, ◌<◌, ◌≤◌, ℕ, ◌+◌, Bool, true, false, List, [], ◌∷◌, ◌++◌, length, drop, get_or, Option, Some, None, option_map, refl, sym}
use Rattle.std.proofs.Common.{ap, ◌∙◌, append_assoc}
use Rattle.std.specs.Option.{option_and_then}
use Rattle.std.specs.Str.{IsUtf8, is_utf8}
use Rattle.std.proofs.lemmas.Str.{is_utf8-from_IsUtf8, IsUtf8-from_is_utf8}
use Rattle.std.proofs.lemmas.List.{append-nil, drop_more, drop_all}
use Rattle.percent_encoding.specs.Percent.{percent_decode}
use Rattle.target.specs.Paths.{decode_segment, decode_segments}

pub segment_of_text : (raw : List ℕ) → IsUtf8 (percent_decode raw) → decode_segment raw ≡ Some (percent_decode raw)
unfolding decode_segment
segment_of_text raw h = rw (is_utf8-from_IsUtf8 (percent_decode raw) h)

segment_by : (t : Bool) (raw : List ℕ) → is_utf8 (percent_decode raw) ≡ t → (IsUtf8 (percent_decode raw) → ⊥) → decode_segment raw ≡ None
unfolding decode_segment
segment_by true raw e h = absurd (h (IsUtf8-from_is_utf8 (percent_decode raw) e))
segment_by false raw e h = rw e

pub segment_of_no_text : (raw : List ℕ) → (IsUtf8 (percent_decode raw) → ⊥) → decode_segment raw ≡ None
segment_of_no_text raw h = segment_by (is_utf8 (percent_decode raw)) raw refl h

-- texts with others before them
abbrev pub with_before : List (List ℕ) → Option (List (List ℕ)) → Option (List (List ℕ))
with_before prefix texts = option_map (λ ts. prefix ++ ts) texts

with_before-first : (prefix : List (List ℕ)) (text : List ℕ) (texts : Option (List (List ℕ)))
    → with_before prefix (option_map (λ ts. text ∷ ts) texts) ≡ with_before (prefix ++ text ∷ []) texts
with_before-first prefix text None = refl
with_before-first prefix text (Some ts) = rw append_assoc

-- past a segment
pub past_segment : (all : List (List ℕ)) (i : ℕ) (prefix : List (List ℕ)) (raw text : List ℕ) → i < length all → raw ≡ get_or all i raw
    → Some text ≡ decode_segment raw → with_before prefix (decode_segments (drop i all)) ≡ decode_segments all
    → with_before (prefix ++ text ∷ []) (decode_segments (drop (i + 1) all)) ≡ decode_segments all
unfolding decode_segments
past_segment all i prefix raw text within e decoded so_far =
    let at : drop i all ≡ raw ∷ drop (i + 1) all = drop_more all i raw within ∙ ap (λ r. r ∷ drop (i + 1) all) (sym e) in
    sym (with_before-first prefix text (decode_segments (drop (i + 1) all)))
    ∙ ap (λ d. with_before prefix (option_and_then (λ t. option_map (λ ts. t ∷ ts) (decode_segments (drop (i + 1) all))) d)) decoded
    ∙ ap (λ l. with_before prefix (decode_segments l)) (sym at)
    ∙ so_far

-- at a segment that is no text
pub at_no_text : (all : List (List ℕ)) (i : ℕ) (prefix : List (List ℕ)) (raw : List ℕ) → i < length all → raw ≡ get_or all i raw
    → None ≡ decode_segment raw → with_before prefix (decode_segments (drop i all)) ≡ decode_segments all
    → None ≡ decode_segments all
unfolding decode_segments
at_no_text all i prefix raw within e decoded so_far =
    let at : drop i all ≡ raw ∷ drop (i + 1) all = drop_more all i raw within ∙ ap (λ r. r ∷ drop (i + 1) all) (sym e) in
    ap (λ d. with_before prefix (option_and_then (λ t. option_map (λ ts. t ∷ ts) (decode_segments (drop (i + 1) all))) d)) decoded
    ∙ ap (λ l. with_before prefix (decode_segments l)) (sym at)
    ∙ so_far

-- past all
pub past_all : (all : List (List ℕ)) (i : ℕ) (prefix : List (List ℕ)) → length all ≤ i
    → with_before prefix (decode_segments (drop i all)) ≡ decode_segments all → Some prefix ≡ decode_segments all
unfolding decode_segments
past_all all i prefix end so_far =
    ap Some (sym (append-nil prefix)) ∙ ap (λ l. with_before prefix (decode_segments l)) (sym (drop_all i all end)) ∙ so_far
