-- A slim file: a zone file of version 2 whose first block has the one type and the one designation
-- that it must have, and whose second block is given by a plan. It is written one part after
-- another.
use Rattle.std.specs.Prelude.{◌≡◌, ◌≢◌, ℕ, ◌+◌, ◌-◌, ◌^◌, ◌<◌, ◌≤◌, min, ◌==◌, List, [], ◌∷◌, ◌++◌}
use Rattle.std.specs.Prelude.{length, map, drop, All, slice_get, IfSome, ℤ, pos, negsuc, ◌<ℤ◌, ◌≤ℤ◌}
use Rattle.std.specs.Prelude.{FitsSigned}
use Rattle.std.specs.Option.{unwrap_or, IsSomeAnd}
use Rattle.std.specs.List.{flat_map}
use Rattle.std.specs.Int.{w32, w64, to_be_bytes, cast_unsigned}
use Rattle.td_civil.specs.declared.moment_type.Moment.{Moment}
use Rattle.td_civil.specs.declared.moment_type.TheConstants.{HI}
use Rattle.td_civil.specs.declared.local_time.Local.{Local}
use Rattle.tzif_reader.specs.declared.zone_file.ZoneFile.{ZoneFile}
use Rattle.tzif_reader.specs.declared.zone_file.LeapLine.{LeapLine}
use Rattle.tzif_reader.specs.declared.zone_file.TheConstants.{MOST_BYTES}
use Rattle.tzif_reader.specs.declared.counts.Counts.{Counts}
use Rattle.tzif_reader.specs.declared.slim_file.Plan.{Plan}
use Rattle.tzif_reader.specs.Layout.{counts_listed, AreCounts, AreRising, second_block_size}
use Rattle.tzif_reader.specs.Cut.{before}

-- a plan without where its lists lie in memory
pub record PlanLists : Type 0 where
  pub times : List ℤ
  pub numbers : List ℕ
  pub types : List (ℤ × ℕ × ℕ)
  pub designations : List ℕ
  pub leaps : List (ℤ × ℤ)
  pub standard : List ℕ
  pub ut : List ℕ
  pub footer : List ℕ

abbrev pub plan_lists : Plan → PlanLists
plan_lists p = record {
  times = p.times.now;
  numbers = p.numbers.now;
  types = p.types.now;
  designations = p.designations.now;
  leaps = p.leaps.now;
  standard = p.standard.now;
  ut = p.ut.now;
  footer = p.footer.now;
}

-- ---- the bytes

-- numbers of 4 and 8 bytes
unfoldable pub unsigned_bytes : ℕ → List ℕ
unsigned_bytes number = to_be_bytes w32 number

unfoldable pub short_bytes : ℤ → List ℕ
short_bytes number = to_be_bytes w32 (cast_unsigned w32 number)

unfoldable pub long_bytes : ℤ → List ℕ
long_bytes number = to_be_bytes w64 (cast_unsigned w64 number)

-- a type record, of offset, flag and index
unfoldable pub type_bytes : ℤ × ℕ × ℕ → List ℕ
type_bytes row = short_bytes row.0 ++ (row.1 ∷ row.2 ∷ [])

-- a leap line, of second and correction
unfoldable pub leap_bytes : ℤ × ℤ → List ℕ
leap_bytes row = long_bytes row.0 ++ short_bytes row.1

-- "TZif2" and 15 bytes of no meaning
unfoldable pub header_start : List ℕ
header_start =
    84 ∷ 90 ∷ 105 ∷ 102 ∷ 50
    ∷ (0 ∷ 0 ∷ 0 ∷ 0 ∷ 0 ∷ 0 ∷ 0 ∷ 0 ∷ 0 ∷ 0 ∷ 0 ∷ 0 ∷ 0 ∷ 0 ∷ 0 ∷ [])

unfoldable pub header_bytes : Counts → List ℕ
header_bytes c = header_start ++ flat_map unsigned_bytes (counts_listed c)

abbrev pub first_counts : Counts
first_counts = record {
  isutcnt = 0;
  isstdcnt = 0;
  leapcnt = 0;
  timecnt = 0;
  typecnt = 1;
  charcnt = 1;
}

-- a type of offset 0, with a name of no letters
unfoldable pub first_block : List ℕ
first_block = 0 ∷ 0 ∷ 0 ∷ 0 ∷ 0 ∷ 0 ∷ 0 ∷ []

-- how many there are, where 4 bytes can hold it
abbrev pub count_of : {A : Type 0} → List A → ℕ
count_of xs = min (length xs) (2 ^ 32 - 1)

abbrev pub counts_of_plan : PlanLists → Counts
counts_of_plan p = record {
  isutcnt = count_of p.ut;
  isstdcnt = count_of p.standard;
  leapcnt = count_of p.leaps;
  timecnt = count_of p.times;
  typecnt = count_of p.types;
  charcnt = count_of p.designations;
}

unfoldable pub block_of : PlanLists → List ℕ
block_of p =
    flat_map long_bytes p.times
    ++ (p.numbers ++ (flat_map type_bytes p.types ++ (p.designations
    ++ (flat_map leap_bytes p.leaps ++ (p.standard ++ p.ut)))))

unfoldable pub footer_line : List ℕ → List ℕ
footer_line footer = 10 ∷ (footer ++ 10 ∷ [])

unfoldable pub slim_of : PlanLists → List ℕ
slim_of p =
    header_bytes first_counts
    ++ (first_block ++ (header_bytes (counts_of_plan p) ++ (block_of p ++ footer_line p.footer)))

-- ---- the zone

abbrev pub moment_of_plan : ℤ → Moment
moment_of_plan seconds = record { seconds = seconds }

abbrev pub moments_of_plan : PlanLists → List Moment
moments_of_plan p = map moment_of_plan p.times

-- the type of a row, whose name ends before a NUL
abbrev pub kind_of_plan : List ℕ → ℤ × ℕ × ℕ → Local
kind_of_plan designations row = record {
  offset = row.0;
  dst = row.1 == 1;
  name = unwrap_or (before 0 (drop row.2 designations)) [];
}

abbrev pub leap_of_plan : ℤ × ℤ → LeapLine
leap_of_plan row = record { at = row.0; correction = row.1 }

-- what a plan tells of
abbrev pub zone_of_plan : PlanLists → ZoneFile
zone_of_plan p = record {
  moments = moments_of_plan p;
  numbers = p.numbers;
  kinds = map (kind_of_plan p.designations) p.types;
  leaps = map leap_of_plan p.leaps;
  footer = p.footer;
}

-- ---- the plans that a file can hold

-- a type record and a leap line whose numbers have room in a file
abbrev pub FitsType : ℤ × ℕ × ℕ → Type 0
FitsType row = FitsSigned w32 row.0

abbrev pub FitsLeap : ℤ × ℤ → Type 0
FitsLeap row = FitsSigned w64 row.0 × FitsSigned w32 row.1

-- Each number has room in its field, and each time has a number of a type.
pub record FitsFile (p : PlanLists) : Type 0 where
  pub times : length p.times < 2 ^ 32
  pub types : length p.types < 2 ^ 32
  pub designations : length p.designations < 2 ^ 32
  pub leaps : length p.leaps < 2 ^ 32
  pub standard : length p.standard < 2 ^ 32
  pub ut : length p.ut < 2 ^ 32
  pub numbers : length p.numbers ≡ length p.times
  pub moments : All (FitsSigned w64) p.times
  pub offsets : All FitsType p.types
  pub lines : All FitsLeap p.leaps

-- ---- the plans of files without fault

-- an offset of less than a day, a flag of 0 or 1, and a name of at most 32 bytes before a NUL
pub record IsSoundType (designations : List ℕ) (row : ℤ × ℕ × ℕ) : Type 0 where
  pub low : negsuc 86398 ≤ℤ row.0
  pub high : row.0 ≤ℤ pos 86399
  pub flag : row.1 ≤ 1
  pub name : IsSomeAnd (before 0 (drop row.2 designations)) (λ name. length name ≤ 32)

-- What is asked of a plan, so that its file has no fault: what is asked of the counts, the block
-- and the footer of any zone file, and that the file is not too long. Its headers, its first block
-- and its two line feeds have 97 bytes.
pub record IsSoundPlan (p : PlanLists) : Type 0 where
  pub size : 97 + second_block_size (counts_of_plan p) + length p.footer ≤ MOST_BYTES
  pub counts : AreCounts (counts_of_plan p)
  pub rising : AreRising (moments_of_plan p)
  pub ends : IfSome
      (slice_get (moments_of_plan p) (length (moments_of_plan p) - 1)) (λ m. m.seconds <ℤ HI)
  pub known : All (λ n. n < length p.types) p.numbers
  pub types_are : All (IsSoundType p.designations) p.types
  pub standard_flags : All (λ byte. byte ≤ 1) p.standard
  pub ut_flags : All (λ byte. byte ≤ 1) p.ut
  pub footer_is : All (λ byte. byte ≢ 10) p.footer
