-- The front of a list, by its window and its room.
use Rattle.std.proofs.Common.{◌≡◌, ℕ, List, length, take, true, false, ◌&&◌, nat_le, cond, Some, None, sym, ap, ◌∙◌}
use Rattle.http_request.specs.Ends.{feeds, fits, window, is_full}
use Rattle.http_request.specs.declared.limits.TheConstants.{MOST_HEAD_BYTES, MOST_FEEDS}
use Rattle.stretches.specs.Fronts.{front_by, front_length}

-- whether an end is within the limits, by the count of line feeds before it
pub fits_is : (bytes : List ℕ) (n count : ℕ) → count ≡ feeds (take n bytes)
    → fits bytes n ≡ (nat_le n MOST_HEAD_BYTES && nat_le count MOST_FEEDS)
fits_is bytes n count c = ap (λ k. nat_le n MOST_HEAD_BYTES && nat_le k MOST_FEEDS) (sym c)

pub front_within : (bytes : List ℕ) (n : ℕ) → window bytes ≡ cond (fits bytes n) (Some n) None → fits bytes n ≡ true → front_length bytes ≡ n
front_within bytes n w f = ap (front_by bytes) (w ∙ ap (λ t. cond t (Some n) None) f)

pub front_past : (bytes : List ℕ) (n : ℕ) → window bytes ≡ cond (fits bytes n) (Some n) None → fits bytes n ≡ false → is_full bytes ≡ true
    → front_length bytes ≡ length bytes
front_past bytes n w f g = ap (front_by bytes) (w ∙ ap (λ t. cond t (Some n) None) f) ∙ ap (λ t. cond t (length bytes) 0) g

pub front_full : (bytes : List ℕ) → window bytes ≡ None → is_full bytes ≡ true → front_length bytes ≡ length bytes
front_full bytes w g = ap (front_by bytes) w ∙ ap (λ t. cond t (length bytes) 0) g

pub front_none : (bytes : List ℕ) → window bytes ≡ None → is_full bytes ≡ false → front_length bytes ≡ 0
front_none bytes w g = ap (front_by bytes) w ∙ ap (λ t. cond t (length bytes) 0) g
