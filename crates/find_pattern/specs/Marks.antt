-- The bytes that have a meaning of their own in patterns, and those that are compared as one.
use Rattle.std.specs.Prelude.{ℕ}

-- b'*'
abbrev pub star : ℕ
star = 42

-- b'\\'
abbrev pub backslash : ℕ
backslash = 92

-- b'_'
abbrev pub underscore : ℕ
underscore = 95

-- b' '
abbrev pub space : ℕ
space = 32
