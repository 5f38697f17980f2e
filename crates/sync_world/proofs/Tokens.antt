-- Tokens find their places while these are among the last.
use Rattle.std.proofs.Common.{inl, inr, ◌≡◌, ℕ, ◌+◌, ◌<◌, ◌≤◌, None, Some, List, length, take, refl, subst, arith, length-take}
use Rattle.std.proofs.lemmas.Bool.{cases_lt}
use Rattle.catalogue.specs.Histories.{IsHistory, token_of}
use Rattle.catalogue.specs.Lookups.{place_of}
use Rattle.catalogue.specs.Releases.{ReleaseData}
use Rattle.catalogue.specs.declared.limits.TheConstants.{KEPT_TOKENS, MOST_RELEASES}
use Rattle.catalogue.proofs.lemmas.Tokens.{place_found, place_missed, tokens_apart}
use Rattle.zone_meaning.specs.Sound.{IsSound}
use Rattle.sync_world.specs.Hearing.{action_service}
use Rattle.sync_world.specs.Primaries.{FindsNoOther, FindsPlaces, IsPlace}
use Rattle.sync_world.proofs.Aliases.{cut}
use Rattle.sync_world.proofs.Places.{token_of_take}

-- a history has no more places than fit
pub few_places : (sound : ReleaseData → Type 0) (H : List ReleaseData) → IsHistory sound H → 1 ≤ length H → length H ≤ MOST_RELEASES
few_places sound H h some =
    let c = cut H (length H) (some, omega arith) in
    let places : length c.A < MOST_RELEASES = (subst (IsHistory sound) c.whole h c.A c.x c.X refl).fits.places in
    omega (arith, places, c.place)

place_is_found : (H : List ReleaseData) (m n : ℕ) → IsHistory IsSound H → IsPlace H m → m ≤ n → n ≤ length H → n < m + KEPT_TOKENS
    → place_of (take n H) (token_of H m) ≡ Some m
place_is_found H m n h place le upto late =
    let low : 1 ≤ m = place.0 in
    let few = few_places IsSound H h (omega arith) in
    subst (λ text. place_of (take n H) text ≡ Some m) (token_of_take H m n le)
    (place_found (take n H) m place.0 (omega (arith, length-take n H)) (omega (arith, length-take n H, late)) (omega (arith, length-take n H, few)))

-- the token of a place that is none of the last ones is not found
place_is_missed : (H : List ReleaseData) (m n : ℕ) → IsHistory IsSound H → IsPlace H m → m ≤ n → n ≤ length H → m + KEPT_TOKENS ≤ n
    → place_of (take n H) (token_of H m) ≡ None
place_is_missed H m n h place le upto late =
    let low : 1 ≤ m = place.0 in
    let few = few_places IsSound H h (omega arith) in
    place_missed (take n H) (token_of H m) (λ k above upto_n e.
    let same : k ≡ m = tokens_apart (take n H) H k m (omega (arith, upto_n, length-take n H, few)) (omega (arith, le, upto, few)) e in
    absurd (omega (arith, same, above, late, upto, length-take n H)))

pub finds : FindsPlaces IsSound action_service
finds H m n h place le upto late = place_is_found H m n h place le upto late

pub finds_no_other : FindsNoOther IsSound action_service
finds_no_other H m n h place le upto = elim (cases_lt n (m + KEPT_TOKENS)) [
  | inl late ↦ inl (place_is_found H m n h place le upto late)
  | inr retired ↦ inr (place_is_missed H m n h place le upto retired)
]
