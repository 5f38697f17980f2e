-- The values of properties (RFC 7265, section 3.6): local times, moments and offsets.
use Rattle.std.specs.Prelude.{ℕ, ◌+◌, ◌*◌, ◌/◌, ◌%◌, ◌==◌, List, [], ◌∷◌, ◌++◌, length, take, codes}
use Rattle.std.specs.Prelude.{◌&&◌, if◌then◌else◌, ℤ, pos, neg_ℤ, ◌+ℤ◌, int_lt, nat_le}
use Rattle.std.specs.Prelude.{unsigned_abs}
use Rattle.std.specs.Prelude.{Option, None, Some, slice_index}
use Rattle.std.specs.Option.{option_map}
use Rattle.std.specs.Str.{bytes_eq}
use Rattle.td_civil.specs.declared.moment_type.Moment.{Moment}
use Rattle.td_civil.specs.Calendar.{text_of}
use Rattle.td_civil.specs.Reading.{moment_in, two_at}
use Rattle.td_civil.specs.Stamp.{two_digits}

-- YYYY-MM-DDTHH:MM:SS of a moment, as clocks show it that are so many seconds east of UTC
unfoldable pub local_text : ℤ → ℤ → List ℕ
local_text m offset = take 19 (text_of (m +ℤ offset))

-- a sign, hours and minutes, and seconds where they are not 0; no offset is +00:00
abbrev pub jcal_sign_of : ℤ → ℕ
jcal_sign_of offset = if int_lt offset (pos 0) then 45 else 43

abbrev pub jcal_seconds_text : ℕ → List ℕ
jcal_seconds_text seconds = if seconds == 0 then [] else 58 ∷ two_digits seconds

unfoldable pub jcal_offset_text : ℤ → List ℕ
jcal_offset_text offset =
    let size = unsigned_abs offset in
    jcal_sign_of offset ∷ two_digits (size / 3600) ++ (58 ∷ two_digits (size % 3600 / 60))
    ++ jcal_seconds_text (size % 60)

-- ---- the same, read

-- a local time, told by the moment at which UTC shows it
unfoldable pub jcal_local_in : List ℕ → Option ℤ
jcal_local_in text = if length text == 19 then moment_in (text ++ codes "Z") else None

unfoldable pub jcal_utc_in : List ℕ → Option Moment
jcal_utc_in text = option_map (λ m. record { seconds = m }) (moment_in text)

-- the fields of an offset stand at fixed places, and the text is that of the fields
abbrev pub jcal_size_in : List ℕ → ℕ
jcal_size_in text =
    3600 * two_at text 1 + 60 * two_at text 4 + (if length text == 9 then two_at text 7 else 0)

abbrev pub jcal_signed_by : ℕ → ℕ → ℤ
jcal_signed_by sign size = if sign == 45 then neg_ℤ (pos size) else pos size

unfoldable pub jcal_offset_in : List ℕ → Option ℤ
jcal_offset_in text =
    let offset = jcal_signed_by (slice_index text 0) (jcal_size_in text) in
    if nat_le (unsigned_abs offset) 86399 && bytes_eq text (jcal_offset_text offset)
    then Some offset
    else None
