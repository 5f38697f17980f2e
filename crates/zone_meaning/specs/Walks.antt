-- How a walk over a zone's changes stands, and where it goes next.
use Rattle.std.specs.Prelude.{◌≡◌, ℕ, suc, ◌+◌, ◌<◌, ◌≤◌, min, List, length, slice_index_or, ℤ}
use Rattle.std.specs.Prelude.{◌≤ℤ◌, ◌<ℤ◌, Option, None, Some}
use Rattle.std.specs.Option.{IfSome}
use Rattle.td_civil.specs.declared.moment_type.Moment.{Moment}
use Rattle.td_civil.specs.declared.moment_type.TheConstants.{LO, HI}
use Rattle.td_civil.specs.declared.local_time.Local.{Local}
use Rattle.tzif_reader.specs.declared.zone_file.ZoneFile.{ZoneFile}
use Rattle.posix_footer.specs.declared.rule_types.Footer.{Footer}
use Rattle.posix_footer.specs.declared.ahead.Ahead.{Ahead}
use Rattle.posix_footer.specs.Lawful.{IsLawful}
use Rattle.posix_footer.specs.NextOnset.{IsAhead}
use Rattle.zone_meaning.specs.Kept.{HasTypes}
use Rattle.zone_meaning.specs.State.{state_at}

-- the first n moments are not after t, and the one after them is
pub record HaveBegun (moments : List Moment) (t : ℤ) (n : ℕ) : Type 0 where
  pub bound : n ≤ length moments
  pub last : (k : ℕ) (d : Moment) → suc k ≡ n → (slice_index_or moments k d).seconds ≤ℤ t
  pub next : (d : Moment) → n < length moments → t <ℤ (slice_index_or moments n d).seconds

-- the onsets of a footer that are ahead of t
pub record IsAheadOf (footer : Footer) (t : ℤ) (ahead : Ahead) : Type 0 where
  pub after : ahead.after.seconds ≡ t
  pub onsets : IsAhead footer.dst footer.std.offset ahead

-- the onsets that are known, if they are, are those of the footer, if there is one
abbrev pub IsKnownAhead : Option Footer → ℤ → Option Ahead → Type 0
IsKnownAhead footer t known = IfSome known (λ ahead. IfSome footer (λ f. IsAheadOf f t ahead))

-- what a walk keeps: the moment that it has reached, with the transitions that have come by then
-- and the onsets that are known to come, and its end
pub record IsWalk (lists : ZoneFile) (footer : Option Footer) (t end : ℤ) (count : ℕ)
    (state : Local) (known : Option Ahead) : Type 0 where
  pub types : HasTypes lists
  pub lawful : IfSome footer IsLawful
  pub from : LO ≤ℤ t
  pub before_end : t <ℤ end
  pub end_in : end ≤ℤ HI
  pub begun : HaveBegun lists.moments t count
  pub state_is : state ≡ state_at lists footer t
  pub ahead : IsKnownAhead footer t known

-- from t to before u the state stays
abbrev pub StaysUntil : (ℤ → Local) → ℤ → ℤ → Type 0
StaysUntil state t u = (v : ℤ) → t ≤ℤ v → v <ℤ u → state v ≡ state t

-- the state stays up to a later moment, at which one more transition may have come
pub record IsTurn (lists : ZoneFile) (footer : Option Footer) (t : ℤ) (count : ℕ)
    (m : ℤ) : Type 0 where
  pub later : t <ℤ m
  pub stays : StaysUntil (state_at lists footer) t m
  pub begun : HaveBegun lists.moments m (min (count + 1) (length lists.moments))

-- the next such moment, or none, where the state stays for ever
abbrev pub IsNextTurn : ZoneFile → Option Footer → ℤ → ℕ → Option Moment → Type 0
IsNextTurn lists footer t count None =
    (v : ℤ) → t ≤ℤ v → state_at lists footer v ≡ state_at lists footer t
IsNextTurn lists footer t count (Some m) = IsTurn lists footer t count m.seconds

-- the same before an end
pub record IsStop (lists : ZoneFile) (footer : Option Footer) (t end : ℤ) (count : ℕ)
    (m : ℤ) : Type 0 where
  pub turn : IsTurn lists footer t count m
  pub before_end : m <ℤ end

abbrev pub IsNextStop : ZoneFile → Option Footer → ℤ → ℤ → ℕ → Option Moment → Type 0
IsNextStop lists footer t end count None = StaysUntil (state_at lists footer) t end
IsNextStop lists footer t end count (Some m) = IsStop lists footer t end count m.seconds
