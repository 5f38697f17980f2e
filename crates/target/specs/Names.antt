-- The targets of zones, by their names.
use Rattle.std.specs.Prelude.{ℕ, ◌<◌, List, ◌++◌, length, Bool, ◌&&◌, All, codes, IsUtf8}
use Rattle.percent_encoding.specs.declared.ascii_set.AsciiSet.{AsciiSet}
use Rattle.percent_encoding.specs.AsciiSet.{contains}
use Rattle.percent_encoding.specs.Percent.{percent_encode}
use Rattle.target.specs.Marks.{percent_sign, slash, question_mark}

-- the target of a zone, of whose name the bytes of this set are percent-encoded
abbrev pub zone_target : AsciiSet → List ℕ → List ℕ
zone_target set tzid = codes "/tzdist/zones/" ++ percent_encode set tzid

-- the bytes that have a meaning of their own in a path, `%`, `/` and `?`, are in the set
abbrev pub has_marks : AsciiSet → Bool
has_marks set = contains set percent_sign && (contains set slash && contains set question_mark)

-- bytes that are UTF-8, and at least one
pub record IsUtf8Name (tzid : List ℕ) : Type 0 where
  pub bytes : All (λ b. b < 256) tzid
  pub text : IsUtf8 tzid
  pub some : 0 < length tzid
