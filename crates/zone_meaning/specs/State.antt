-- The state of local time at a moment (RFC 9636, section 3.2 on types and section 3.3 on the
-- footer).
use Rattle.std.specs.Prelude.{ℕ, zero, suc, List, [], ◌∷◌, length, ◌==◌, if◌then◌else◌, false, ℤ}
use Rattle.std.specs.Prelude.{pos, int_le, slice_index, slice_index_or, count_by, Option, None}
use Rattle.std.specs.Prelude.{Some}
use Rattle.std.specs.Result.{result_ok}
use Rattle.td_civil.specs.declared.moment_type.Moment.{Moment}
use Rattle.td_civil.specs.declared.local_time.Local.{Local}
use Rattle.tzif_reader.specs.declared.zone_file.ZoneFile.{ZoneFile}
use Rattle.tzif_reader.specs.Cut.{lists_of}
use Rattle.posix_footer.specs.declared.rule_types.Footer.{Footer}
use Rattle.posix_footer.specs.Grammar.{footer_in}
use Rattle.posix_footer.specs.StateAt.{state_of}

-- how many transitions are not after t
abbrev pub begun : ℤ → List Moment → ℕ
begun t moments = count_by (λ m. int_le m.seconds t) moments

-- the state of a type; a file has each type that it names
abbrev pub state_of_type : ZoneFile → ℕ → Local
state_of_type z number =
    slice_index_or z.kinds number (record { offset = pos 0; dst = false; name = [] })

-- before the first transition type 0 holds, and after so many of them the type of the last one
abbrev pub after : ZoneFile → ℕ → Local
after z zero = state_of_type z 0
after z (suc n) = state_of_type z (slice_index z.numbers n)

-- Once every transition has begun, and everywhere where there is none, the footer decides. Without
-- a footer the last transition's type goes on, or type 0.
abbrev pub state_at : ZoneFile → Option Footer → ℤ → Local
state_at z None t = after z (begun t z.moments)
state_at z (Some footer) t =
    if begun t z.moments == length z.moments then state_of footer t else after z (begun t z.moments)

-- the footer that a text spells: an empty text is none
abbrev pub footer_meant : List ℕ → Option Footer
footer_meant [] = None
footer_meant (b ∷ bs) = result_ok (footer_in (b ∷ bs))

-- the state that a zone file gives at t
unfoldable pub zone_state : List ℕ → ℤ → Local
zone_state bytes t = state_at (lists_of bytes) (footer_meant (lists_of bytes).footer) t
