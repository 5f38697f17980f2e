-- The bytes that part the fields of negotiation, and those of a quality.
use Rattle.std.specs.Prelude.{ℕ}

-- b','
abbrev pub comma : ℕ
comma = 44

-- b';'
abbrev pub semicolon : ℕ
semicolon = 59

-- b'.'
abbrev pub full_stop : ℕ
full_stop = 46

-- b'0'
abbrev pub digit_zero : ℕ
digit_zero = 48

-- b'1'
abbrev pub digit_one : ℕ
digit_one = 49
