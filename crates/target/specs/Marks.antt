-- The bytes that have a meaning of their own in a target.
use Rattle.std.specs.Prelude.{ℕ}

-- b'%'
abbrev pub percent_sign : ℕ
percent_sign = 37

-- b'/'
abbrev pub slash : ℕ
slash = 47

-- b'?'
abbrev pub question_mark : ℕ
question_mark = 63
