-- The rows of a plan, as they are written and as they are read.
use Rattle.std.proofs.Common.{◌≡◌, ℕ, ◌*◌, ◌<◌, ◌^◌, List, [], ◌∷◌, length, get_or, All, take, map, ℤ, FitsSigned, refl, sym, ap, ◌∙◌, arith}
use Rattle.std.specs.List.{flat_map}
use Rattle.std.specs.Int.{w32, w64, from_be_bytes, cast_signed, cast_unsigned}
use Rattle.std.proofs.Math.Facts.{Fits-of_z}
use Rattle.std.proofs.lemmas.Int.{to_z-of_z}
use Rattle.std.proofs.lemmas.Nat.{from_be_bytes-to_be_bytes_4, from_be_bytes-to_be_bytes_8}
use Rattle.std.proofs.lemmas.List.{take_at}
use Rattle.std.proofs.lemmas.List.Elements.{All-head, All-tail}
use Rattle.std.proofs.lemmas.List.FromFn.{fill_by_all}
use Rattle.td_civil.specs.declared.local_time.Local.{Local}
use Rattle.tzif_reader.specs.Layout.{AreJoined, IsUnsigned, IsSigned, IsMoment, IsLeapLine}
use Rattle.tzif_reader.specs.Cut.{piece, items, short_at, type_offset_at, flag_at, index_at, designation_at, kind_at}
use Rattle.tzif_reader.specs.Slim.{unsigned_bytes, short_bytes, long_bytes, type_bytes, leap_bytes, moment_of_plan, kind_of_plan, leap_of_plan, FitsType}
use Rattle.tzif_reader.specs.Slim.{FitsLeap}
use Rattle.tzif_reader.proofs.lemmas.Joined.{joined_at}
use Rattle.tzif_reader.proofs.Records.{piece_front, piece_cell, cell_of}

-- ---- numbers

pub unsigned_size : (n : ℕ) → length (unsigned_bytes n) ≡ 4
unfolding unsigned_bytes
unsigned_size n = refl

pub unsigned_back : (n : ℕ) → n < 2 ^ 32 → IsUnsigned w32 (unsigned_bytes n) n
unfolding unsigned_bytes
unsigned_back n lt = sym (from_be_bytes-to_be_bytes_4 n lt)

pub short_size : (z : ℤ) → length (short_bytes z) ≡ 4
unfolding short_bytes
short_size z = refl

pub short_back : (z : ℤ) → FitsSigned w32 z → IsSigned w32 (short_bytes z) z
unfolding short_bytes
short_back z fits = sym (ap (cast_signed w32) (from_be_bytes-to_be_bytes_4 (cast_unsigned w32 z) (Fits-of_z fits).fits) ∙ to_z-of_z w32 z fits)

pub long_size : (z : ℤ) → length (long_bytes z) ≡ 8
unfolding long_bytes
long_size z = refl

pub long_back : (z : ℤ) → FitsSigned w64 z → IsSigned w64 (long_bytes z) z
unfolding long_bytes
long_back z fits = sym (ap (cast_signed w64) (from_be_bytes-to_be_bytes_8 (cast_unsigned w64 z) (Fits-of_z fits).fits) ∙ to_z-of_z w64 z fits)

-- ---- rows of one size

-- each row is written in so many bytes, of which its item can be read
pub rows_joined : {A B : Type 0} (size : ℕ) (Is : List ℕ → B → Type 0) (row : A → List ℕ) (f : A → B) (P : A → Type 0)
    → ((x : A) → length (row x) ≡ size) → ((x : A) → P x → Is (row x) (f x)) → (xs : List A) → All P xs
    → AreJoined size Is (flat_map row xs) (map f xs)
rows_joined size Is row f P sized back [] all = refl
rows_joined size Is row f P sized back (x ∷ xs) all =
    (row x, flat_map row xs, refl, sized x, back x (All-head P x xs all), rows_joined size Is row f P sized back xs (All-tail P x xs all))

-- what is read at each place is the list
pub items_back : {A : Type 0} (size : ℕ) (Is : List ℕ → A → Type 0) (at : ℕ → A) (text : List ℕ) (xs : List A) (n : ℕ) (d : A)
    → AreJoined size Is text xs → length xs ≡ n → ((i : ℕ) (x : A) → Is (piece (size * i) size text) x → x ≡ at i)
    → items n at ≡ xs
items_back size Is at text xs n d joined len each =
    sym (fill_by_all at xs n d len (λ k lt. each k (get_or xs k d) (joined_at size Is text xs k d joined (omega (arith, len)))))

-- ---- moments, leap lines and types

pub moment_back : (z : ℤ) → FitsSigned w64 z → IsMoment (long_bytes z) (moment_of_plan z)
moment_back z fits = long_back z fits

pub leap_size : (row : ℤ × ℤ) → length (leap_bytes row) ≡ 12
unfolding leap_bytes long_bytes short_bytes
leap_size row = refl

pub leap_back : (row : ℤ × ℤ) → FitsLeap row → IsLeapLine (leap_bytes row) (leap_of_plan row)
unfolding leap_bytes
leap_back row fits = record {
  time = long_bytes row.0;
  correction = short_bytes row.1;
  whole = refl;
  time_size = long_size row.0;
  at_is = long_back row.0 fits.0;
  correction_is = short_back row.1 fits.1;
}

-- a piece is the bytes of a row, and the type is the row's
pub record IsRow (designations piece : List ℕ) (kind : Local) : Type 0 where
  pub row : ℤ × ℕ × ℕ
  pub bytes : piece ≡ type_bytes row
  pub fits : FitsType row
  pub kind_is : kind ≡ kind_of_plan designations row

pub type_size : (row : ℤ × ℕ × ℕ) → length (type_bytes row) ≡ 6
unfolding type_bytes short_bytes
type_size row = refl

pub type_back : (designations : List ℕ) (row : ℤ × ℕ × ℕ) → FitsType row → IsRow designations (type_bytes row) (kind_of_plan designations row)
type_back designations row fits = record { row = row; bytes = refl; fits = fits; kind_is = refl }

same_kind : (designations types : List ℕ) (i : ℕ) (row : ℤ × ℕ × ℕ)
    → type_offset_at types i ≡ row.0 → flag_at types i ≡ row.1 → index_at types i ≡ row.2 → kind_of_plan designations row ≡ kind_at designations types i
unfolding designation_at
same_kind designations types i row a b c = rw (a, b, c) refl

-- what stands in the piece of a row
pub record Fields (types : List ℕ) (i : ℕ) (row : ℤ × ℕ × ℕ) : Type 0 where
  pub offset : type_offset_at types i ≡ row.0
  pub flag : flag_at types i ≡ row.1
  pub index : index_at types i ≡ row.2

pub row_fields : (types : List ℕ) (i : ℕ) (row : ℤ × ℕ × ℕ) → piece (6 * i) 6 types ≡ type_bytes row → FitsType row → Fields types i row
unfolding type_bytes short_at
row_fields types i row bytes fits =
    let offset : piece (6 * i) 4 types ≡ short_bytes row.0
    = sym (piece_front (6 * i) 6 4 types (omega arith)) ∙ (ap (take 4) bytes ∙ take_at (short_bytes row.0) (row.1 ∷ row.2 ∷ []) 4 (short_size row.0)) in
    record {
      offset = ap (λ (p : List ℕ). cast_signed w32 (from_be_bytes w32 p)) offset ∙ sym (short_back row.0 fits);
      flag = sym (piece_cell (6 * i) 6 4 types (omega arith))
          ∙ (ap (λ (p : List ℕ). get_or p 4 0) bytes ∙ cell_of (short_bytes row.0) (row.1 ∷ row.2 ∷ []) 0 (short_size row.0));
      index = sym (piece_cell (6 * i) 6 5 types (omega arith))
          ∙ (ap (λ (p : List ℕ). get_or p 5 0) bytes ∙ cell_of (short_bytes row.0) (row.1 ∷ row.2 ∷ []) 1 (short_size row.0));
    }

pub row_cuts : (designations types : List ℕ) (i : ℕ) (kind : Local) → IsRow designations (piece (6 * i) 6 types) kind → kind ≡ kind_at designations types i
row_cuts designations types i kind is =
    let f = row_fields types i is.row is.bytes is.fits in
    is.kind_is ∙ same_kind designations types i is.row f.offset f.flag f.index
