-- Parts of what is written in reply to a line.
use Rattle.std.specs.Prelude.{ℕ, List, length, codes}
use Rattle.catalogue.specs.Histories.{token_of}
use Rattle.catalogue.specs.Releases.{ReleaseData}

-- the token of the last place
abbrev pub last_token : List ReleaseData → List ℕ
last_token H = token_of H (length H)

-- why there is no news: nobody has subscribed under that number
abbrev pub nobody_text : List ℕ
nobody_text = codes "20 NoWatch"
