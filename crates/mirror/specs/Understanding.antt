-- What an answer's bytes are to what was asked.
use Rattle.std.specs.Prelude.{◌≡◌, ℕ, ◌<◌, ◌≤◌, ◌==◌, ◌&&◌, List, length, Bool, true, false}
use Rattle.std.specs.Prelude.{if◌then◌else◌, Option, Some, Result, Ok, Err}
use Rattle.td_base.specs.declared.report.Ask.{Ask}
use Rattle.td_base.specs.declared.report.Ask.TheVariants as ask
use Rattle.json_forms.specs.ListReading.{list_read}
use Rattle.json_forms.specs.ProblemDocument.{problem_in}
use Rattle.json_forms.specs.declared.list_fault.BadList.{BadList}
use Rattle.json_forms.specs.declared.list_fault.BadList.TheVariants as bad_list
use Rattle.json_forms.specs.declared.problem_type.Problem.{Problem}
use Rattle.json_forms.specs.declared.problem_type.Problem.TheVariants.{InvalidChangedsince}
use Rattle.json_forms.specs.declared.zone_list.ListDoc.{ListDoc}
use Rattle.http_client.specs.Replies.{IsReading}
use Rattle.http_client.specs.declared.reply.BadReply.{BadReply}
use Rattle.http_client.specs.declared.reply.BadReply.TheVariants as bad_reply
use Rattle.http_client.specs.declared.reply.Reply.{Reply}
use Rattle.sync_core.specs.declared.heard_type.Heard.TheVariants as heard
use Rattle.mirror.specs.declared.limits.TheConstants.{MOST_ANSWER}
use Rattle.mirror.specs.declared.understood_type.Understood.{Understood}
use Rattle.mirror.specs.declared.understood_type.Understood.TheVariants as understood

-- a body that is no list is unreadable from its fault's place on
abbrev pub list_heard : Result ListDoc BadList → Understood
list_heard (Ok list) = understood.Hears (heard.List list)
list_heard (Err (bad_list.BadList place)) = understood.Unreadable place
list_heard (Err bad_list.NoMemory) = understood.Unreadable 0

-- the body of what was asked for
abbrev pub body_heard : Ask → List ℕ → Understood
body_heard (ask.List token) body = list_heard (list_read body)
body_heard (ask.Get name) body = understood.Hears (heard.Zone body)

abbrev pub names_changedsince : Option Problem → Bool
names_changedsince (Some InvalidChangedsince) = true
names_changedsince other = false

-- a token that was asked with is refused (RFC 7808, section 5.2)
abbrev pub refuses_token : Ask → Reply → Bool
refuses_token (ask.List (Some token)) reply =
    reply.status == 400 && names_changedsince (problem_in reply.body)
refuses_token other reply = false

-- what a reply says
unfoldable pub reply_heard : Ask → Reply → Understood
reply_heard a reply =
    if reply.status == 200 then body_heard a reply.body
    else if refuses_token a reply then understood.Hears heard.BadToken
    else understood.Refuses reply.status

-- bytes that are no reply are unreadable from its fault's place on
abbrev pub fault_heard : BadReply → Understood
fault_heard (bad_reply.BadReply place) = understood.Unreadable place
fault_heard bad_reply.NoMemory = understood.Unreadable 0

abbrev pub reading_heard : Ask → Result Reply BadReply → Understood
reading_heard a (Ok reply) = reply_heard a reply
reading_heard a (Err fault) = fault_heard fault

-- what the bytes of an answer are: too many, or what they read as
pub data Means (a : Ask) (answer : List ℕ) (u : Understood) : Type 0 where
  too_long : MOST_ANSWER ≤ length answer → u ≡ understood.Unreadable MOST_ANSWER → Means a answer u
  short : (reading : Result Reply BadReply) → length answer < MOST_ANSWER
      → IsReading answer reading → u ≡ reading_heard a reading → Means a answer u
