-- Values of content lines, read: local times, moments, offsets and texts (RFC 5545, sections 3.3.5,
-- 3.3.11 and 3.3.14).
use Rattle.std.specs.Prelude.{ℕ, ◌+◌, ◌*◌, ◌==◌, nat_lt, List, [], ◌∷◌, length, take, drop}
use Rattle.std.specs.Prelude.{codes, Bool, true, false, not, ◌&&◌, ◌||◌, if◌then◌else◌, ℤ, pos}
use Rattle.std.specs.Prelude.{neg_ℤ, Option, None, Some, slice_index}
use Rattle.std.specs.Option.{option_map}
use Rattle.std.specs.Str.{all_ascii_digits, bytes_eq}
use Rattle.vtimezone.specs.Cutting.{cut_at}
use Rattle.td_civil.specs.declared.moment_type.Moment.{Moment}
use Rattle.td_civil.specs.Stamp.{Stamp, moment_at}
use Rattle.td_civil.specs.Reading.{two_at, four_at, is_stamp}
use Rattle.recurrence.specs.AllRead.{put_before, all_read}
use Rattle.recurrence.specs.Spellable.{is_safe}

-- the fields at their places in YYYYMMDDTHHMMSS
abbrev pub fields_in : List ℕ → Stamp
fields_in text = record {
  year = four_at text 0;
  month = two_at text 4;
  day = two_at text 6;
  hour = two_at text 9;
  minute = two_at text 11;
  second = two_at text 13;
}

-- eight digits, T and six digits
abbrev pub is_date_time : List ℕ → Bool
is_date_time text =
    length text == 15 && all_ascii_digits (take 8 text) && slice_index text 8 == 84
    && all_ascii_digits (drop 9 text)

-- A local date and time of day that there are, told by the moment at which UTC shows them
unfoldable pub local_in : List ℕ → Option ℤ
local_in text =
    if is_date_time text && is_stamp (fields_in text) then Some (moment_at (fields_in text))
    else None

-- local times with commas between them
unfoldable pub locals_in : List ℕ → Option (List ℤ)
locals_in text = all_read local_in (cut_at 44 text)

-- a moment: the same in UTC, with a Z at its end
unfoldable pub utc_in : List ℕ → Option Moment
utc_in text =
    if bytes_eq (drop 15 text) (codes "Z")
    then option_map (λ m. record { seconds = m }) (local_in (take 15 text)) else None

-- HHMM or HHMMSS
abbrev pub seconds_in : List ℕ → ℕ
seconds_in digits = if length digits == 6 then two_at digits 4 else 0

abbrev pub is_hours : List ℕ → Bool
is_hours digits =
    (length digits == 4 || length digits == 6) && all_ascii_digits digits
    && nat_lt (two_at digits 0) 24 && nat_lt (two_at digits 2) 60 && nat_lt (seconds_in digits) 60

abbrev pub size_in : List ℕ → ℕ
size_in digits = 3600 * two_at digits 0 + 60 * two_at digits 2 + seconds_in digits

-- seconds east of UTC; there is no -0000
abbrev pub signed_by : ℕ → ℕ → Option ℤ
signed_by sign size =
    if sign == 43 then Some (pos size)
    else if sign == 45 && not (size == 0) then Some (neg_ℤ (pos size)) else None

-- an offset: a sign and hours
unfoldable pub offset_in : List ℕ → Option ℤ
offset_in [] = None
offset_in (sign ∷ digits) = if is_hours digits then signed_by sign (size_in digits) else None

-- the byte that one after a backslash stands for: itself, or a line feed for N
abbrev pub byte_of_escape : ℕ → Option ℕ
byte_of_escape b =
    if b == 44 || b == 59 || b == 92 then Some b else if b == 78 || b == 110 then Some 10 else None

-- a text; the flag says that a backslash stands before it
unfoldable pub text_after : Bool → List ℕ → Option (List ℕ)
text_after false [] = Some []
text_after true [] = None
text_after false (b ∷ bs) =
    if b == 92 then text_after true bs
    else put_before (if is_safe b then Some b else None) (text_after false bs)
text_after true (b ∷ bs) = put_before (byte_of_escape b) (text_after false bs)

abbrev pub text_value : List ℕ → Option (List ℕ)
text_value text = text_after false text
