-- What the lines of a talk are to those who hear of installs, and that each of them is told every
-- change once and in order.
use Rattle.std.specs.Prelude.{◌≡◌, ℕ, List, [], ◌∷◌, ◌++◌, IfSome, Some}
use Rattle.catalogue.specs.Releases.{ReleaseData}
use Rattle.console.specs.declared.line.Line.{Line}
use Rattle.subscribers.specs.Hearing.{Audience, Event, after_all, cleared_by_all}
use Rattle.subscribers.specs.News.{news, numbered_from}
use Rattle.run_ends.specs.Operator.{GetsAnswer, Talk, Talks, audience, changed, handled, more, none}

-- what a line was to those who hear of installs
abbrev pub event_of : {whole : List ReleaseData} → {t u : Talk} → {asked : Line} → {answer : List ℕ}
    → GetsAnswer whole t asked answer u → Event
event_of (handled (Some r) feed handles is) = Event.Grows r
event_of (changed event changes history is) = event
event_of other = Event.IsRefused

-- what they were, one after the other
abbrev pub events_of : {whole : List ReleaseData} → {t u : Talk} → {asked : List Line}
    → {told : List (List ℕ)} → Talks whole t asked told u → List Event
events_of (none t) = []
events_of (more t u v asked told next answer talks goes gets) =
    events_of talks ++ event_of gets ∷ []

-- What the lines of a talk were to those who hear of installs made its audience, from a first one
-- of nobody. So what was told of a subscriber, followed by what it holds, is what it is owed.
pub record TellsEachChange (first : Audience) (events : List Event) (last : Talk) : Type 0 where
  pub nobody : first.subscribers ≡ []
  pub audience_is : audience last ≡ after_all first events
  pub once : (number : ℕ) → IfSome (numbered_from last.subscribers number)
      (λ s. cleared_by_all number first events ++ s.held ≡ news last.published s.from s.wish)
