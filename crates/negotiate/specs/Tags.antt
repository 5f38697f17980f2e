-- Entity tags in an If-None-Match field (RFC 9110, sections 8.8.3 and 13.1.2).
use Rattle.std.specs.Prelude.{ℕ, List, take, drop, Bool, ◌||◌, if◌then◌else◌, codes, bytes_eq}
use Rattle.std.specs.List.{list_any}
use Rattle.negotiate.specs.Marks.{comma}
use Rattle.td_base.specs.Texts.{trim, pieces}

-- the tag without the mark of a weak one
abbrev pub strong_tag : List ℕ → List ℕ
strong_tag tag = if bytes_eq (take 2 tag) (codes "W/") then drop 2 tag else tag

-- a piece of the field is this tag
abbrev pub is_tag : List ℕ → List ℕ → Bool
is_tag tag piece = bytes_eq (strong_tag (trim piece)) tag

-- the field is a star, or one of its pieces is the tag
unfoldable pub none_match : List ℕ → List ℕ → Bool
none_match field tag = bytes_eq field (codes "*") || list_any (is_tag tag) (pieces comma field)
