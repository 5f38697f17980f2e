-- Which requests of a mirror are heads that a primary reads.
use Rattle.std.specs.Prelude.{ℕ, ◌+◌, ◌*◌, ◌<◌, ◌≤◌, List, [], length, All, IsTrue, IsUtf8, None}
use Rattle.std.specs.Prelude.{Some, ⊤}
use Rattle.td_base.specs.declared.report.Ask.{Ask}
use Rattle.td_base.specs.declared.report.Ask.TheVariants as ask
use Rattle.http_request.specs.Judging.{is_host}

-- the token or the name in the target of what is asked
abbrev pub text_asked : Ask → List ℕ
text_asked (ask.List None) = []
text_asked (ask.List (Some token)) = token
text_asked (ask.Get name) = name

abbrev pub HasName : Ask → Type 0
HasName (ask.List token) = ⊤
HasName (ask.Get name) = 0 < length name

-- the bytes of the host are those of a host and a port, the token or the name is UTF-8, a name has
-- a byte, and both fit in a head
pub record IsAskable (host : List ℕ) (a : Ask) : Type 0 where
  pub is_host : IsTrue (is_host host)
  pub bytes : All (λ b. b < 256) (text_asked a)
  pub text : IsUtf8 (text_asked a)
  pub named : HasName a
  pub fits : length host + 3 * length (text_asked a) ≤ 16_000
