-- The layout of a TZif file (RFC 9636, section 3) of version 2 to 4, as this service takes it: the
-- whole file is its parts, one after another. Numbers are big-endian, and signed ones are in two's
-- complement.
use Rattle.std.specs.Prelude.{◌≡◌, ◌≢◌, ℕ, suc, ◌+◌, ◌-◌, ◌*◌, ◌<◌, ◌≤◌, ◌⊎◌, List, [], ◌∷◌, ◌++◌}
use Rattle.std.specs.Prelude.{length, All, slice_index_or, slice_get, IfSome, ℤ, pos, negsuc, ◌<ℤ◌}
use Rattle.std.specs.Prelude.{◌≤ℤ◌}
use Rattle.std.specs.Int.{Width, w32, w64, from_be_bytes, cast_signed, from_bool}
use Rattle.td_civil.specs.declared.moment_type.Moment.{Moment}
use Rattle.td_civil.specs.declared.moment_type.TheConstants.{HI}
use Rattle.td_civil.specs.declared.local_time.Local.{Local}
use Rattle.tzif_reader.specs.declared.counts.Counts.{Counts}
use Rattle.tzif_reader.specs.declared.zone_file.ZoneFile.{ZoneFile}
use Rattle.tzif_reader.specs.declared.zone_file.LeapLine.{LeapLine}
use Rattle.tzif_reader.specs.declared.zone_file.TheConstants.{MOST_BYTES, MOST_TRANSITIONS}

-- The text is these items, one after another, each a piece of so many bytes.
abbrev pub AreJoined : {A : Type 0} → ℕ → (List ℕ → A → Type 0) → List ℕ → List A → Type 0
AreJoined size Is text [] = text ≡ []
AreJoined size Is text (x ∷ xs) =
    (piece : List ℕ) × (rest : List ℕ) × (text ≡ piece ++ rest) × (length piece ≡ size) × Is piece x
    × AreJoined size Is rest xs

abbrev pub IsUnsigned : Width → List ℕ → ℕ → Type 0
IsUnsigned w piece n = n ≡ from_be_bytes w piece

abbrev pub IsSigned : Width → List ℕ → ℤ → Type 0
IsSigned w piece z = z ≡ cast_signed w (from_be_bytes w piece)

-- ---- headers (section 3.1)

-- the six counts of a header, in the order of the file
abbrev pub counts_listed : Counts → List ℕ
counts_listed c = c.isutcnt ∷ c.isstdcnt ∷ c.leapcnt ∷ c.timecnt ∷ c.typecnt ∷ c.charcnt ∷ []

-- "TZif"
abbrev pub magic : List ℕ
magic = 84 ∷ 90 ∷ 105 ∷ 102 ∷ []

-- magic, version, 15 bytes of no meaning, six counts of 4 bytes
pub record IsHeader (text : List ℕ) (version : ℕ) (counts : Counts) : Type 0 where
  pub reserved : List ℕ
  pub numbers : List ℕ
  pub whole : text ≡ magic ++ (version ∷ (reserved ++ numbers))
  pub reserved_size : length reserved ≡ 15
  pub six : AreJoined 4 (IsUnsigned w32) numbers (counts_listed counts)

-- '2', '3' or '4'
abbrev pub IsVersion : ℕ → Type 0
IsVersion v = (50 ≤ v) × (v ≤ 52)

-- ---- data blocks (section 3.2)

-- how long a block is whose times have 4 bytes, and one whose times have 8
abbrev pub first_block_size : Counts → ℕ
first_block_size c =
    4 * c.timecnt + c.timecnt + 6 * c.typecnt + c.charcnt + 8 * c.leapcnt + c.isstdcnt + c.isutcnt

abbrev pub second_block_size : Counts → ℕ
second_block_size c =
    8 * c.timecnt + c.timecnt + 6 * c.typecnt + c.charcnt + 12 * c.leapcnt + c.isstdcnt + c.isutcnt

-- 8 bytes of seconds
abbrev pub IsMoment : List ℕ → Moment → Type 0
IsMoment piece m = IsSigned w64 piece m.seconds

-- A type record: 4 bytes of offset, a flag for daylight saving time, and where its name begins in
-- the designations. The name is what stands there up to a NUL.
pub record IsKind (designations piece : List ℕ) (kind : Local) : Type 0 where
  pub offset : List ℕ
  pub index : ℕ
  pub before : List ℕ
  pub after : List ℕ
  pub whole : piece ≡ offset ++ from_bool kind.dst ∷ index ∷ []
  pub offset_size : length offset ≡ 4
  pub offset_is : IsSigned w32 offset kind.offset
  pub low : negsuc 86398 ≤ℤ kind.offset
  pub high : kind.offset ≤ℤ pos 86399
  pub name_place : length before ≡ index
  pub name_is : designations ≡ before ++ (kind.name ++ 0 ∷ after)
  pub name_ends : All (λ byte. byte ≢ 0) kind.name
  pub name_size : length kind.name ≤ 32

-- 8 bytes of seconds, and 4 bytes of correction
pub record IsLeapLine (piece : List ℕ) (line : LeapLine) : Type 0 where
  pub time : List ℕ
  pub correction : List ℕ
  pub whole : piece ≡ time ++ correction
  pub time_size : length time ≡ 8
  pub at_is : IsSigned w64 time line.at
  pub correction_is : IsSigned w32 correction line.correction

-- each moment is above the one before it
abbrev pub AreRising : List Moment → Type 0
AreRising moments =
    (i : ℕ) (d : Moment) → suc i < length moments
    → (slice_index_or moments i d).seconds <ℤ (slice_index_or moments (suc i) d).seconds

-- A block of version 2 or later, with the zone that it tells of: transition times, transition
-- types, type records, designations, leap lines, standard/wall indicators and UT/local indicators.
pub record IsBlock (text : List ℕ) (counts : Counts) (z : ZoneFile) : Type 0 where
  pub times : List ℕ
  pub types : List ℕ
  pub designations : List ℕ
  pub leaps : List ℕ
  pub standard : List ℕ
  pub ut : List ℕ
  pub whole : text
      ≡ times ++ (z.numbers ++ (types ++ (designations ++ (leaps ++ (standard ++ ut)))))
  pub moments_are : AreJoined 8 IsMoment times z.moments
  pub kinds_are : AreJoined 6 (IsKind designations) types z.kinds
  pub leaps_are : AreJoined 12 IsLeapLine leaps z.leaps
  pub moment_count : length z.moments ≡ counts.timecnt
  pub number_count : length z.numbers ≡ counts.timecnt
  pub kind_count : length z.kinds ≡ counts.typecnt
  pub designation_count : length designations ≡ counts.charcnt
  pub leap_count : length z.leaps ≡ counts.leapcnt
  pub standard_count : length standard ≡ counts.isstdcnt
  pub ut_count : length ut ≡ counts.isutcnt
  pub rising : AreRising z.moments
  pub known : All (λ n. n < counts.typecnt) z.numbers
  pub standard_flags : All (λ byte. byte ≤ 1) standard
  pub ut_flags : All (λ byte. byte ≤ 1) ut
  pub ends : IfSome (slice_get z.moments (length z.moments - 1)) (λ m. m.seconds <ℤ HI)

-- what the counts of a block may be: there is a type and a designation, and indicators stand for
-- all types or none
pub record AreCounts (c : Counts) : Type 0 where
  pub types : 0 < c.typecnt
  pub designations : 0 < c.charcnt
  pub ut : (c.isutcnt ≡ 0) ⊎ (c.isutcnt ≡ c.typecnt)
  pub standard : (c.isstdcnt ≡ 0) ⊎ (c.isstdcnt ≡ c.typecnt)
  pub times : c.timecnt ≤ MOST_TRANSITIONS

-- ---- the file (section 3)

-- A header, a block of which nothing but its size is asked, a header of the same version, a block,
-- and the footer between two line feeds (section 3.3).
pub record IsZoneFile (bytes : List ℕ) (z : ZoneFile) : Type 0 where
  pub first_header : List ℕ
  pub first_block : List ℕ
  pub second_header : List ℕ
  pub second_block : List ℕ
  pub version : ℕ
  pub first_counts : Counts
  pub counts : Counts
  pub whole : bytes
      ≡ first_header
      ++ (first_block ++ (second_header ++ (second_block ++ (10 ∷ (z.footer ++ (10 ∷ []))))))
  pub size : length bytes ≤ MOST_BYTES
  pub first_header_is : IsHeader first_header version first_counts
  pub version_is : IsVersion version
  pub first_block_is : length first_block ≡ first_block_size first_counts
  pub second_header_is : IsHeader second_header version counts
  pub counts_are : AreCounts counts
  pub second_block_is : IsBlock second_block counts z
  pub footer_is : All (λ byte. byte ≢ 10) z.footer
