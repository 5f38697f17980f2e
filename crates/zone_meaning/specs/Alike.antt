-- The transitions that two zone files have alike.
use Rattle.std.specs.Prelude.{◌≡◌, ℕ, ◌<◌, length, slice_index_or}
use Rattle.td_civil.specs.declared.moment_type.Moment.{Moment}
use Rattle.tzif_reader.specs.declared.zone_file.ZoneFile.{ZoneFile}
use Rattle.zone_meaning.specs.State.{after}

-- both have a transition of this place, at the same moment, and the same state before it
pub record IsAlikeAt (one two : ZoneFile) (place : ℕ) : Type 0 where
  pub inside : place < length one.moments
  pub other_inside : place < length two.moments
  pub moment : (d : Moment)
      → (slice_index_or one.moments place d).seconds ≡ (slice_index_or two.moments place d).seconds
  pub state : after one place ≡ after two place

-- so it is at the first n places
abbrev pub AreAlikeUpTo : ZoneFile → ZoneFile → ℕ → Type 0
AreAlikeUpTo one two n = (place : ℕ) → place < n → IsAlikeAt one two place
