-- What the rest of a pattern begins with.
use Rattle.std.specs.Prelude.{ℕ, ◌<◌, ◌≤◌, ⊤, List, [], ◌∷◌, length, ◌==◌, if◌then◌else◌}
use Rattle.find_pattern.specs.Patterns.{is_star, is_backslash, is_special}
use Rattle.find_pattern.specs.declared.reading.Piece.{Piece}
use Rattle.find_pattern.specs.declared.reading.Piece.TheVariants as piece

-- the byte after a backslash stands for itself if it needs the backslash
abbrev pub escaped_piece : List ℕ → Piece
escaped_piece [] = piece.Fault
escaped_piece (c ∷ rest) = if is_special c then piece.Byte c 2 else piece.Fault

abbrev pub first_piece : List ℕ → Piece
first_piece [] = piece.Fault
first_piece (b ∷ rest) =
    if is_star b then (if length rest == 0 then piece.LastStar else piece.Fault)
    else if is_backslash b then escaped_piece rest
    else piece.Byte b 1

-- a byte is written with at least one byte, and with no more than are left
abbrev pub IsWithin : ℕ → Piece → Type 0
IsWithin len (piece.Byte b n) = (0 < n) × (n ≤ len)
IsWithin len piece.LastStar = ⊤
IsWithin len piece.Fault = ⊤
