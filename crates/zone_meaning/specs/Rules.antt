-- The rules by which a zone file gives the state of local time (RFC 9636, section 3.2 and 3.3),
-- each for the moments of which it speaks.
use Rattle.std.specs.Prelude.{◌≡◌, ℕ, suc, ◌<◌, [], length, ℤ, pos, ◌≤ℤ◌, ◌<ℤ◌, slice_index}
use Rattle.std.specs.Prelude.{slice_index_or, Option, None, Some}
use Rattle.td_civil.specs.declared.local_time.Local.{Local}
use Rattle.tzif_reader.specs.declared.zone_file.ZoneFile.{ZoneFile}
use Rattle.posix_footer.specs.declared.rule_types.Footer.{Footer}
use Rattle.posix_footer.specs.StateAt.{state_of}
use Rattle.zone_meaning.specs.State.{state_of_type}

-- when transition i comes
abbrev pub transition : ZoneFile → ℕ → ℤ
transition z i = (slice_index_or z.moments i (record { seconds = pos 0 })).seconds

-- the footer's state, or without a footer a type's
abbrev pub by_footer_or : ZoneFile → Option Footer → ℤ → ℕ → Local
by_footer_or z None t number = state_of_type z number
by_footer_or z (Some footer) t number = state_of footer t

pub record FollowsRules (z : ZoneFile) (footer : Option Footer) (t : ℤ) (state : Local)
    : Type 0 where
  -- before the first transition the first type holds
  pub before : 0 < length z.moments → t <ℤ transition z 0 → state ≡ state_of_type z 0
  -- from a transition to the next one that transition's type holds
  pub between : (i : ℕ) → suc i < length z.moments → transition z i ≤ℤ t → t <ℤ transition z (suc i)
      → state ≡ state_of_type z (slice_index z.numbers i)
  -- from the last transition on the footer decides; without a footer that transition's type goes on
  pub from_last : (i : ℕ) → suc i ≡ length z.moments → transition z i ≤ℤ t
      → state ≡ by_footer_or z footer t (slice_index z.numbers i)
  -- where there is no transition the footer decides everywhere; without a footer the first type
  -- holds
  pub alone : z.moments ≡ [] → state ≡ by_footer_or z footer t 0
