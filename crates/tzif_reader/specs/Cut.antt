-- A file cut into its parts at the places that the counts of its headers give. Each definition has
-- a value for every list of bytes, and the meaning that its name says where the list has no fault.
use Rattle.std.specs.Prelude.{ℕ, ◌+◌, ◌*◌, List, [], ◌∷◌, take, drop, map, ℤ, ◌==◌, if◌then◌else◌}
use Rattle.std.specs.Prelude.{slice_index, Option, Some, None}
use Rattle.std.specs.Option.{option_map, unwrap_or}
use Rattle.std.specs.List.{range_with_len}
use Rattle.std.specs.Int.{w32, w64, from_be_bytes, cast_signed}
use Rattle.td_civil.specs.declared.moment_type.Moment.{Moment}
use Rattle.td_civil.specs.declared.local_time.Local.{Local}
use Rattle.tzif_reader.specs.declared.zone_file.ZoneFile.{ZoneFile}
use Rattle.tzif_reader.specs.declared.zone_file.LeapLine.{LeapLine}
use Rattle.tzif_reader.specs.declared.counts.Counts.{Counts}
use Rattle.tzif_reader.specs.Layout.{first_block_size, second_block_size}

-- so many bytes from a place on
abbrev pub piece : ℕ → ℕ → List ℕ → List ℕ
piece place size bytes = take size (drop place bytes)

-- the numbers of 4 and 8 bytes at a place
unfoldable pub unsigned_at : ℕ → List ℕ → ℕ
unsigned_at place bytes = from_be_bytes w32 (piece place 4 bytes)

unfoldable pub short_at : ℕ → List ℕ → ℤ
short_at place bytes = cast_signed w32 (from_be_bytes w32 (piece place 4 bytes))

unfoldable pub long_at : ℕ → List ℕ → ℤ
long_at place bytes = cast_signed w64 (from_be_bytes w64 (piece place 8 bytes))

-- the text before the first such byte, if there is one
abbrev pub before : ℕ → List ℕ → Option (List ℕ)
before mark [] = None
before mark (b ∷ bs) = if b == mark then Some [] else option_map (λ text. b ∷ text) (before mark bs)

-- what f gives at 0, 1 and so on, n of them
abbrev pub items : {A : Type 0} → ℕ → (ℕ → A) → List A
items n f = map f (range_with_len 0 n)

-- ---- a header

abbrev pub version_in : List ℕ → ℕ
version_in header = slice_index header 4

abbrev pub counts_in : List ℕ → Counts
counts_in header = record {
  isutcnt = unsigned_at 20 header;
  isstdcnt = unsigned_at 24 header;
  leapcnt = unsigned_at 28 header;
  timecnt = unsigned_at 32 header;
  typecnt = unsigned_at 36 header;
  charcnt = unsigned_at 40 header;
}

-- ---- the second block

pub record Parts : Type 0 where
  pub times : List ℕ
  pub numbers : List ℕ
  pub types : List ℕ
  pub designations : List ℕ
  pub leaps : List ℕ
  pub standard : List ℕ
  pub ut : List ℕ

unfoldable pub parts_in : Counts → List ℕ → Parts
parts_in c block = record {
  times = piece 0 (8 * c.timecnt) block;
  numbers = piece (8 * c.timecnt) c.timecnt block;
  types = piece (8 * c.timecnt + c.timecnt) (6 * c.typecnt) block;
  designations = piece (8 * c.timecnt + c.timecnt + 6 * c.typecnt) c.charcnt block;
  leaps = piece (8 * c.timecnt + c.timecnt + 6 * c.typecnt + c.charcnt) (12 * c.leapcnt) block;
  standard = piece
      (8 * c.timecnt + c.timecnt + 6 * c.typecnt + c.charcnt + 12 * c.leapcnt)
      c.isstdcnt block;
  ut = piece
      (8 * c.timecnt + c.timecnt + 6 * c.typecnt + c.charcnt + 12 * c.leapcnt + c.isstdcnt)
      c.isutcnt block;
}

-- transition i
abbrev pub transition_at : List ℕ → ℕ → Moment
transition_at times i = record { seconds = long_at (8 * i) times }

-- type record i: its offset, its flag, and where its name begins
abbrev pub type_offset_at : List ℕ → ℕ → ℤ
type_offset_at types i = short_at (6 * i) types

abbrev pub flag_at : List ℕ → ℕ → ℕ
flag_at types i = slice_index types (6 * i + 4)

abbrev pub index_at : List ℕ → ℕ → ℕ
index_at types i = slice_index types (6 * i + 5)

-- the name of type i, if a NUL ends it
unfoldable pub designation_at : List ℕ → List ℕ → ℕ → Option (List ℕ)
designation_at designations types i = before 0 (drop (index_at types i) designations)

abbrev pub kind_at : List ℕ → List ℕ → ℕ → Local
kind_at designations types i = record {
  offset = type_offset_at types i;
  dst = flag_at types i == 1;
  name = unwrap_or (designation_at designations types i) [];
}

-- leap line i
abbrev pub leap_at : List ℕ → ℕ → LeapLine
leap_at leaps i = record { at = long_at (12 * i) leaps; correction = short_at (12 * i + 8) leaps }

-- ---- the whole file

abbrev pub first_header : List ℕ → List ℕ
first_header bytes = piece 0 44 bytes

abbrev pub second_place : List ℕ → ℕ
second_place bytes = 44 + first_block_size (counts_in (first_header bytes))

abbrev pub second_header : List ℕ → List ℕ
second_header bytes = piece (second_place bytes) 44 bytes

unfoldable pub counts_of : List ℕ → Counts
counts_of bytes = counts_in (second_header bytes)

unfoldable pub block_place : List ℕ → ℕ
block_place bytes = second_place bytes + 44

abbrev pub footer_place : List ℕ → ℕ
footer_place bytes = block_place bytes + second_block_size (counts_of bytes)

unfoldable pub parts_of : List ℕ → Parts
parts_of bytes =
    parts_in (counts_of bytes)
    (piece (block_place bytes) (second_block_size (counts_of bytes)) bytes)

-- the text between the line feeds, where the file ends in it
abbrev pub text_between : List ℕ → Option (List ℕ)
text_between [] = None
text_between (b ∷ bs) = if b == 10 then before 10 bs else None

unfoldable pub footer_of : List ℕ → Option (List ℕ)
footer_of bytes = text_between (drop (footer_place bytes) bytes)

-- the zone of a file that has no fault
abbrev pub zone_from : Counts → Parts → List ℕ → ZoneFile
zone_from c p footer = record {
  moments = items c.timecnt (transition_at p.times);
  numbers = p.numbers;
  kinds = items c.typecnt (kind_at p.designations p.types);
  leaps = items c.leapcnt (leap_at p.leaps);
  footer = footer;
}

abbrev pub lists_of : List ℕ → ZoneFile
lists_of bytes = zone_from (counts_of bytes) (parts_of bytes) (unwrap_or (footer_of bytes) [])
