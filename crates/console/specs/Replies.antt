-- The texts of the replies: each is one line but that of news.
use Rattle.std.specs.Prelude.{ℕ, List, ◌++◌, codes, decimal, ⊤}
use Rattle.std.specs.List.{flat_map}
use Rattle.subscribers.specs.declared.notice.Notice.{Notice}
use Rattle.console.specs.declared.said.Said.{Said}
use Rattle.console.specs.declared.said.Said.TheVariants as said

abbrev pub reply_text : Said → List ℕ
reply_text (said.Ready token) = codes "ready " ++ (token ++ codes "\n")
reply_text (said.Installed token) = codes "installed " ++ (token ++ codes "\n")
reply_text (said.Unchanged token) = codes "unchanged " ++ (token ++ codes "\n")
reply_text (said.Refused fault) = codes "refused " ++ (fault ++ codes "\n")
reply_text said.NoMemory = codes "no memory\n"
reply_text (said.Serving token zones) =
    codes "serving " ++ (token ++ (codes " " ++ (decimal zones ++ codes "\n")))
reply_text (said.Watching number) = codes "watching " ++ (decimal number ++ codes "\n")
reply_text said.Bye = codes "bye\n"
reply_text said.Unknown = codes "unknown\n"

-- a reply of bounded length: any but a refusal
abbrev pub IsBoundedReply : Said → Type 0
IsBoundedReply (said.Refused fault) = ⊥
IsBoundedReply (said.Ready token) = ⊤
IsBoundedReply (said.Installed token) = ⊤
IsBoundedReply (said.Unchanged token) = ⊤
IsBoundedReply said.NoMemory = ⊤
IsBoundedReply (said.Serving token zones) = ⊤
IsBoundedReply (said.Watching number) = ⊤
IsBoundedReply said.Bye = ⊤
IsBoundedReply said.Unknown = ⊤

-- each name after a space
abbrev pub spaced : List ℕ → List ℕ
spaced name = codes " " ++ name

-- what one install changed: its place, and the zones
abbrev pub notice_text : Notice → List ℕ
notice_text notice =
    codes "news " ++ (decimal notice.place ++ (flat_map spaced notice.tzids ++ codes "\n"))

-- the reply to `news`: each notice in its order, and an end
unfoldable pub news_text : List Notice → List ℕ
news_text notices = flat_map notice_text notices ++ codes "end\n"
