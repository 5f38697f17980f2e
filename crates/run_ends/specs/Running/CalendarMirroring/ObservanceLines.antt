-- The lines of a zone, and of an observance of it.
use Rattle.std.specs.Prelude.{ℕ, List, [], ◌∷◌, ◌++◌, codes}
use Rattle.std.specs.Fmt.{signed_decimal}
use Rattle.td_civil.specs.Calendar.{text_of}
use Rattle.td_civil.specs.declared.local_time.Local.{Local}
use Rattle.td_civil.specs.declared.local_time.Observance.{Observance}
use Rattle.run_ends.specs.Running.StateLine.{state_line}

-- zone TZID
abbrev pub zone_line : List ℕ → List ℕ
zone_line tzid = codes "zone " ++ (tzid ++ codes "\n")

-- a dash stands for an empty name
abbrev pub shown_name : List ℕ → List ℕ
shown_name [] = codes "-"
shown_name (b ∷ bs) = b ∷ bs

-- the state from the onset on, with a name that is shown
abbrev pub shown_state : Observance → Local
shown_state o = record { offset = o.to; dst = o.dst; name = shown_name o.name }

-- ONSET FROM TO std NAME, or ONSET FROM TO dst NAME
abbrev pub observance_line : Observance → List ℕ
observance_line o =
    text_of o.onset.seconds
    ++ (codes " " ++ (signed_decimal o.from ++ (codes " " ++ state_line (shown_state o))))
