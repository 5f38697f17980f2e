-- The pieces of the text of an observance.
use Rattle.std.specs.Prelude.{◌≡◌, ℕ, ℤ, List, ◌++◌, codes}
use Rattle.std.specs.Fmt.{signed_decimal}
use Rattle.json.specs.Print.{escape}
use Rattle.td_civil.specs.Calendar.{text_of}
use Rattle.td_civil.specs.declared.local_time.Observance.{Observance}

-- what comes before the moment, with a comma
abbrev pub head_text : List ℕ → List ℕ
head_text name = codes ",{\"name\":\"" ++ (escape name ++ codes "\",\"onset\":\"")

-- what comes after it
abbrev pub tail_text : ℤ → ℤ → List ℕ
tail_text from to =
    codes "\",\"utc-offset-from\":"
    ++ (signed_decimal from ++ (codes ",\"utc-offset-to\":" ++ (signed_decimal to ++ codes "}")))

-- the pieces are those of the observance
pub record HasPieces (o : Observance) (head onset tail : List ℕ) : Type 0 where
  pub head_is : head ≡ head_text o.name
  pub onset_is : onset ≡ text_of o.onset.seconds
  pub tail_is : tail ≡ tail_text o.from o.to
