-- Cutting a text at its slashes.
use Rattle.std.proofs.Common.{◌≡◌, ◌≢◌, ◌<◌, ◌≤◌, ℕ, ◌+◌, ◌-◌, List, [], ◌∷◌, ◌++◌}
use Rattle.std.proofs.Common.{length, take, drop, get_or, refl, sym, ap, ◌∙◌, append_assoc, add-one, drop-cons, arith}
use Rattle.std.proofs.lemmas.List.{append-nil, take_rest, take_all, take_more, drop_all}
use Rattle.td_base.specs.Names.{with_first, segments}

-- the bytes before the first piece
abbrev pub with_prefix : List ℕ → List (List ℕ) → List (List ℕ)
with_prefix prefix [] = prefix ∷ []
with_prefix prefix (piece ∷ pieces) = (prefix ++ piece) ∷ pieces

pub with_prefix-with_first : (prefix : List ℕ) (b : ℕ) (pieces : List (List ℕ))
    → with_prefix prefix (with_first b pieces) ≡ with_prefix (prefix ++ b ∷ []) pieces
with_prefix-with_first prefix b [] = refl
with_prefix-with_first prefix b (piece ∷ pieces) = rw append_assoc

with_prefix-none : (b : ℕ) (pieces : List (List ℕ)) → with_prefix [] (with_first b pieces) ≡ with_first b pieces
with_prefix-none b [] = refl
with_prefix-none b (piece ∷ pieces) = refl

-- nothing before the segments
pub with_prefix-segments : (text : List ℕ) → with_prefix [] (segments text) ≡ segments text
unfolding segments
with_prefix-segments [] = refl
with_prefix-segments (b ∷ bs) = grind (arith, with_prefix-none)

-- the segments of a text that begins with a slash, or with another byte
pub segments_slash : (b : ℕ) (bs : List ℕ) → b ≡ 47 → segments (b ∷ bs) ≡ [] ∷ segments bs
unfolding segments
segments_slash b bs e = rw e

pub segments_other : (b : ℕ) (bs : List ℕ) → b ≢ 47 → segments (b ∷ bs) ≡ with_first b (segments bs)
unfolding segments
segments_other b bs e = grind arith

next_byte : (text : List ℕ) (i : ℕ) → i < length text → drop i text ≡ get_or text i 0 ∷ drop (i + 1) text
next_byte text i h = rw (add-one, drop-cons text i 0)

-- at the first slash
pub cut_at_slash : (text : List ℕ) (i : ℕ) → i < length text → get_or text i 0 ≡ 47
    → segments text ≡ with_prefix (take i text) (segments (drop i text))
    → segments text ≡ take i text ∷ segments (take (length text - (i + 1)) (drop (i + 1) text))
cut_at_slash text i h e so_far =
    so_far ∙ ap (λ r. with_prefix (take i text) (segments r)) (next_byte text i h)
    ∙ ap (λ pieces. with_prefix (take i text) pieces) (segments_slash (get_or text i 0) (drop (i + 1) text) e)
    ∙ rw (append-nil, take_rest)

-- past another byte
pub past_byte : (text : List ℕ) (i : ℕ) → i < length text → get_or text i 0 ≢ 47
    → segments text ≡ with_prefix (take i text) (segments (drop i text))
    → segments text ≡ with_prefix (take (i + 1) text) (segments (drop (i + 1) text))
past_byte text i h e so_far =
    so_far ∙ ap (λ r. with_prefix (take i text) (segments r)) (next_byte text i h)
    ∙ ap (λ pieces. with_prefix (take i text) pieces) (segments_other (get_or text i 0) (drop (i + 1) text) e)
    ∙ with_prefix-with_first (take i text) (get_or text i 0) (segments (drop (i + 1) text))
    ∙ ap (λ prefix. with_prefix prefix (segments (drop (i + 1) text))) (sym (take_more text i 0 h))

-- without a slash
pub cut_at_end : (text : List ℕ) (i : ℕ) → length text ≤ i
    → segments text ≡ with_prefix (take i text) (segments (drop i text)) → segments text ≡ text ∷ []
unfolding segments
cut_at_end text i end so_far =
    so_far ∙ ap (λ r. with_prefix (take i text) (segments r)) (drop_all i text end)
    ∙ ap (λ prefix. prefix ∷ []) (append-nil (take i text) ∙ take_all i text end)
