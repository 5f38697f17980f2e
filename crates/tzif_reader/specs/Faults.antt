-- The first fault of a file, in the order in which faults are told.
use Rattle.std.specs.Prelude.{ℕ, ◌+◌, ◌-◌, ◌*◌, ◌&&◌, ◌||◌, not, List, length, pos, negsuc, int_lt}
use Rattle.std.specs.Prelude.{int_le, Bool, true, nat_lt, nat_le, ◌==◌, slice_index, Option, Some}
use Rattle.std.specs.Prelude.{None}
use Rattle.std.specs.Option.{option_map, option_map_or}
use Rattle.std.specs.List.{starts_with}
use Rattle.std.specs.Bool.{nat_eq}
use Rattle.td_base.specs.FirstFault.{when, ◌or_else◌, least}
use Rattle.td_civil.specs.declared.moment_type.TheConstants.{HI}
use Rattle.tzif_reader.specs.declared.tzif_fault.TzifFault.{TzifFault}
use Rattle.tzif_reader.specs.declared.tzif_fault.TzifFault.TheVariants.{Magic, Version, Short}
use Rattle.tzif_reader.specs.declared.tzif_fault.TzifFault.TheVariants.{Counts as BadCounts, Order}
use Rattle.tzif_reader.specs.declared.tzif_fault.TzifFault.TheVariants.{TypeNumber, Designation}
use Rattle.tzif_reader.specs.declared.tzif_fault.TzifFault.TheVariants.{Indicator, OffsetBeyond}
use Rattle.tzif_reader.specs.declared.tzif_fault.TzifFault.TheVariants.{TooLarge, TooLate}
use Rattle.tzif_reader.specs.declared.tzif_fault.TzifFault.TheVariants.{FooterFrame, Trailing}
use Rattle.tzif_reader.specs.declared.counts.Counts.{Counts}
use Rattle.tzif_reader.specs.declared.zone_file.TheConstants.{MOST_BYTES, MOST_TRANSITIONS}
use Rattle.tzif_reader.specs.Layout.{magic, first_block_size, second_block_size}
use Rattle.tzif_reader.specs.Cut.{Parts, version_in, counts_in, long_at, type_offset_at, flag_at}
use Rattle.tzif_reader.specs.Cut.{designation_at, piece, first_header, second_place, second_header}
use Rattle.tzif_reader.specs.Cut.{counts_of, block_place, parts_of, footer_place, footer_of}

-- ---- frame

-- no room from a place on
abbrev pub room_fault : ℕ → ℕ → List ℕ → Option TzifFault
room_fault place size bytes = when (nat_lt (length bytes) (place + size)) (Short place)

unfoldable pub header_fault : ℕ → List ℕ → Option TzifFault
header_fault place bytes =
    room_fault place 44 bytes
    or_else when (not (starts_with nat_eq (piece place 44 bytes) magic)) Magic

abbrev pub stands_for_all : ℕ → ℕ → Bool
stands_for_all count types = count == 0 || count == types

unfoldable pub counts_fault : Counts → Option TzifFault
counts_fault c =
    when (c.typecnt == 0 || c.charcnt == 0 || not (stands_for_all c.isutcnt c.typecnt)
    || not (stands_for_all c.isstdcnt c.typecnt)) BadCounts
    or_else when (nat_lt MOST_TRANSITIONS c.timecnt) TooLarge

-- what is wrong with the size, the headers and the room for the blocks
unfoldable pub frame_fault : List ℕ → Option TzifFault
frame_fault bytes =
    when (nat_lt MOST_BYTES (length bytes)) TooLarge
    or_else header_fault 0 bytes
    or_else when (not (nat_le 50 (version_in (first_header bytes))
    && nat_le (version_in (first_header bytes)) 52)) Version
    or_else room_fault 44 (first_block_size (counts_in (first_header bytes))) bytes
    or_else header_fault (second_place bytes) bytes
    or_else when (not (version_in (second_header bytes) == version_in (first_header bytes))) Version
    or_else counts_fault (counts_of bytes)
    or_else room_fault (block_place bytes) (second_block_size (counts_of bytes)) bytes

-- ---- contents

-- transition i is not above the one before it
abbrev pub is_unordered : List ℕ → ℕ → Bool
is_unordered times i = nat_lt 0 i && int_le (long_at (8 * i) times) (long_at (8 * (i - 1)) times)

-- transition i has no type
abbrev pub is_unknown : ℕ → List ℕ → ℕ → Bool
is_unknown typecnt numbers i = nat_le typecnt (slice_index numbers i)

-- no NUL ends the name of type i, or it is longer than 32 bytes
abbrev pub is_unnamed : List ℕ → List ℕ → ℕ → Bool
is_unnamed designations types i =
    option_map_or (λ name. nat_lt 32 (length name)) (designation_at designations types i) true

-- a flag of type i is neither 0 nor 1; an indicator that is not there reads as 0
abbrev pub is_unflagged : Parts → ℕ → Bool
is_unflagged p i =
    nat_lt 1 (flag_at p.types i) || nat_lt 1 (slice_index p.standard i)
    || nat_lt 1 (slice_index p.ut i)

-- the offset of type i is a day or more
abbrev pub is_beyond : List ℕ → ℕ → Bool
is_beyond types i =
    int_lt (type_offset_at types i) (negsuc 86398) || int_lt (pos 86399) (type_offset_at types i)

-- the last transition is at the end of the moments that have a meaning, or after it
abbrev pub is_too_late : ℕ → List ℕ → Bool
is_too_late timecnt times = nat_lt 0 timecnt && int_le HI (long_at (8 * (timecnt - 1)) times)

unfoldable pub contents_fault : Counts → Parts → Option TzifFault
contents_fault c p =
    option_map Order (least c.timecnt (is_unordered p.times))
    or_else option_map TypeNumber (least c.timecnt (is_unknown c.typecnt p.numbers))
    or_else option_map Designation (least c.typecnt (is_unnamed p.designations p.types))
    or_else option_map Indicator (least c.typecnt (is_unflagged p))
    or_else option_map OffsetBeyond (least c.typecnt (is_beyond p.types))
    or_else when (is_too_late c.timecnt p.times) TooLate

-- ---- footer

-- no text stands between line feeds, or bytes follow from a place on
abbrev pub ending_fault : ℕ → ℕ → Option (List ℕ) → Option TzifFault
ending_fault size place None = Some FooterFrame
ending_fault size place (Some text) =
    when (nat_lt (place + length text + 2) size) (Trailing (place + length text + 2))

unfoldable pub footer_fault : List ℕ → Option TzifFault
footer_fault bytes = ending_fault (length bytes) (footer_place bytes) (footer_of bytes)

-- ---- the whole file

unfoldable pub first_fault : List ℕ → Option TzifFault
first_fault bytes =
    frame_fault bytes
    or_else contents_fault (counts_of bytes) (parts_of bytes)
    or_else footer_fault bytes
