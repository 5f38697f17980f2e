-- Whether a footer goes on from where the transitions end (RFC 9636, section 3.3).
use Rattle.std.specs.Prelude.{◌-◌, length, Bool, true, ◌||◌, int_lt, Option, None, Some}
use Rattle.std.specs.List.{slice_get}
use Rattle.td_civil.specs.declared.moment_type.Moment.{Moment}
use Rattle.td_civil.specs.declared.moment_type.TheConstants.{LO}
use Rattle.td_civil.specs.SameLocal.{same_local}
use Rattle.tzif_reader.specs.declared.zone_file.ZoneFile.{ZoneFile}
use Rattle.posix_footer.specs.declared.rule_types.Footer.{Footer}
use Rattle.posix_footer.specs.StateAt.{state_of}
use Rattle.zone_meaning.specs.State.{after, footer_meant}

-- at the last transition the footer gives the state that this transition begins: offset, flag and
-- name. A transition before the moments that have a meaning is not asked for it
unfoldable pub goes_on : ZoneFile → Footer → Moment → Bool
goes_on z footer last =
    int_lt last.seconds LO || same_local (state_of footer last.seconds) (after z (length z.moments))

-- where there is a footer and a last transition
abbrev pub goes_on_if_any : ZoneFile → Option Footer → Option Moment → Bool
goes_on_if_any z None last = true
goes_on_if_any z (Some footer) None = true
goes_on_if_any z (Some footer) (Some last) = goes_on z footer last

-- whether the footer of a zone file does
unfoldable pub footer_agrees : ZoneFile → Bool
footer_agrees z =
    goes_on_if_any z (footer_meant z.footer) (slice_get z.moments (length z.moments - 1))
