-- What the lines of a talk are to those who hear of installs.
use Rattle.std.proofs.Common.{◌≡◌, ℕ, List, [], ◌∷◌, ◌++◌, IfSome, None, Some, refl, sym, ap, ◌∙◌, subst}
use Rattle.catalogue.specs.Releases.{ReleaseData}
use Rattle.console.specs.declared.line.Line.{Line}
use Rattle.subscribers.specs.Hearing.{Audience, Event, audience_after, after_all, cleared_by_all}
use Rattle.subscribers.specs.News.{news, numbered_from}
use Rattle.subscribers.proofs.lemmas.Hearing.{hears_each_change_once}
use Rattle.run_ends.specs.Audiences.{TellsEachChange, event_of, events_of}
use Rattle.run_ends.specs.Feeds.{FeedView}
use Rattle.run_ends.specs.Operator.{GetsAnswer, Talk, Talks, audience, changed, handled, more, no_memory, none, only_told, talk_begun, unknown}

after_more : (a : Audience) (events : List Event) (e : Event) → after_all a (events ++ e ∷ []) ≡ audience_after (after_all a events) e
after_more a [] e = refl
after_more a (x ∷ events) e = after_more (audience_after a x) events e

line_heard : {whole : List ReleaseData} → {t u : Talk} → {asked : Line} → {answer : List ℕ} → (gets : GetsAnswer whole t asked answer u)
    → audience u ≡ audience_after (audience t) (event_of gets)
line_heard (handled None feed handles is) = ap audience is
line_heard (handled (Some r) feed handles is) = ap audience is
line_heard {t = t} (changed event changes history is) =
    ap audience is ∙ ap (λ H. record { history = H; subscribers = (audience_after (audience t) event).subscribers }) (sym history)
line_heard (only_told least tells is) = ap audience is
line_heard (unknown a b c is) = ap audience is
line_heard (no_memory a b is) = ap audience is

talk_heard : {whole : List ReleaseData} → {t u : Talk} → {asked : List Line} → {told : List (List ℕ)} → (talks : Talks whole t asked told u)
    → audience u ≡ after_all (audience t) (events_of talks)
talk_heard (none t) = refl
talk_heard (more t u v asked told next answer talks goes gets) =
    line_heard gets ∙ ap (λ a. audience_after a (event_of gets)) (talk_heard talks) ∙ sym (after_more (audience t) (events_of talks) (event_of gets))

pub tells_each_change : (whole opening : List ReleaseData) (feed : FeedView) (asked : List Line) (told : List (List ℕ)) (last : Talk)
    → (talks : Talks whole (talk_begun opening feed) asked told last) → TellsEachChange (audience (talk_begun opening feed)) (events_of talks) last
tells_each_change whole opening feed asked told last talks = record {
  nobody = refl;
  audience_is = talk_heard talks;
  once = λ number.
      subst (λ a. IfSome (numbered_from a.subscribers number)
      (λ s. cleared_by_all number (audience (talk_begun opening feed)) (events_of talks) ++ s.held ≡ news a.history s.from s.wish))
      (sym (talk_heard talks)) (hears_each_change_once opening (events_of talks) number);
}
