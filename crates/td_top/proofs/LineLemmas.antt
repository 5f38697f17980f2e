-- What one line of an operator makes of a talk.
use Rattle.std.proofs.Common.{◌≡◌, ℕ, ◌≤◌, List, [], ◌∷◌, length, Option, None, Some, refl, sym, subst, ap, ◌∙◌, length-append, arith}
use Rattle.std.proofs.lemmas.List.{length-map}
use Rattle.td_base.proofs.lemmas.Beginnings.{prefix_length}
use Rattle.catalogue.specs.HeldZones.{held_content}
use Rattle.catalogue.specs.Histories.{meta}
use Rattle.catalogue.specs.Holdings.{release_held, zone_count, history_of}
use Rattle.catalogue.specs.Releases.{ReleaseData}
use Rattle.catalogue.specs.declared.holding.Catalogue.{Catalogue}
use Rattle.catalogue.specs.declared.limits.TheConstants.{MOST_ZONES}
use Rattle.catalogue.proofs.lemmas.HistoryLemmas.{history_length}
use Rattle.catalogue.proofs.lemmas.LastRelease.{last_of}
use Rattle.console.specs.Replies.{reply_text}
use Rattle.console.specs.declared.line.Line.{Line}
use Rattle.console.specs.declared.line.Line.TheVariants as line
use Rattle.console.specs.declared.said.Said.TheVariants as said
use Rattle.zone_meaning.specs.Sound.{IsSound}
use Rattle.zone_meaning.specs.ZoneHistories.{HasZoneHistory}
use Rattle.run_ends.specs.Feeds.{FeedView, Grows, Handles, LaterFeed}
use Rattle.run_ends.specs.Replies.{last_token}
use Rattle.run_ends.specs.Sessions.{AnswersLine, BeginsWhole, LaterSession, StandsAt}
use Rattle.run_ends.specs.Operator.{GetsAnswer, IsForFeed, Talk, TakesMemory, TellsOnly, grown, handled, heard_by, least_after}
use Rattle.run_ends.specs.Operator.{no_memory, only_told, unknown, with_joined}
use Rattle.run_ends.specs.declared.session.Session.{Session}
use Rattle.run_ends.proofs.lemmas.SessionLemmas.{session_refl}
use Rattle.td_top.proofs.lemmas.FeedLemmas.{feed_refl}

-- a release has at most so many zones
pub few_zones : (c : Catalogue (List ℕ)) → HasZoneHistory c → zone_count c ≤ MOST_ZONES
few_zones c h =
    let last = last_of IsSound h.0 (release_held (λ f. f) c) h.1.history h.1.last in
    omega (arith, last.release.fits.zones, length-map c.held (held_content (λ f. f)))

-- ---- lines

-- a line that changes nothing of a talk but the least place that a status may tell
gets : (g : FeedView) (old new : Session) (asked : Line) (answer : List ℕ) → LaterSession old new → new.installer ≡ old.installer
    → ((whole : List ReleaseData) (talk : Talk) → BeginsWhole new whole → StandsAt g old talk
    → (least : ℕ) × (least ≤ length new.desk.seen) × GetsAnswer whole talk asked answer (record talk { least = least })) → AnswersLine g g old new asked answer
unfolding AnswersLine
gets g old new asked answer later same answers = record {
  feed = feed_refl g;
  later = later;
  answers = λ whole talk begins stands.
      let got = answers whole talk begins stands in (
        record talk { least = got.0 },
        record {
          published = stands.published ∙ ap (λ i. history_of i.list) (sym same);
          least = got.1;
          feed = stands.feed;
          subscribers = stands.subscribers ∙ ap (λ i. i.subscribers) (sym same);
        },
        got.2,
      );
}

-- a line that leaves the talk as it is
pub stays : (g : FeedView) (old new : Session) (asked : Line) (answer : List ℕ) → LaterSession old new → new.installer ≡ old.installer
    → ((whole : List ReleaseData) (talk : Talk) → StandsAt g old talk → GetsAnswer whole talk asked answer talk) → AnswersLine g g old new asked answer
stays g old new asked answer later same answers =
    gets g old new asked answer later same
    (λ whole talk begins stands. (talk.least, omega (arith, stands.least, prefix_length old.desk.seen new.desk.seen later.seen), answers whole talk stands))

pub starved : (g : FeedView) (a : Session) (asked : Line) → TakesMemory asked → AnswersLine g g a a asked (reply_text said.NoMemory)
starved g a asked takes = stays g a a asked (reply_text said.NoMemory) (session_refl a) refl (λ whole talk is. no_memory takes refl refl)

-- a line that asks for nothing that is done
pub is_unknown : (g : FeedView) (a : Session) (asked : Line) → IsForFeed asked → (Grows g asked → ⊥)
    → AnswersLine g g a a asked (reply_text said.Unknown)
is_unknown g a asked others other =
    stays g a a asked (reply_text said.Unknown) (session_refl a) refl
    (λ whole talk stands. unknown others (subst (λ h. Grows h asked → ⊥) (sym stands.feed) other) refl refl)

-- a line that tells something
pub tells : (g : FeedView) (old new : Session) (asked : Line) (answer : List ℕ) → LaterSession old new → new.installer ≡ old.installer
    → ((whole : List ReleaseData) (talk : Talk) → BeginsWhole new whole → StandsAt g old talk
    → (least : ℕ) × (least ≤ length new.desk.seen) × TellsOnly whole talk asked answer least) → AnswersLine g g old new asked answer
tells g old new asked answer later same answers =
    gets g old new asked answer later same
    (λ whole talk begins stands. let says = answers whole talk begins stands in (says.0, says.1, only_told says.0 says.2 refl))

-- such a line that leaves the desk as it is
pub tells_on : (g : FeedView) (old new : Session) (asked : Line) (answer : List ℕ) → LaterSession old new → new.installer ≡ old.installer
    → ((whole : List ReleaseData) (talk : Talk) → StandsAt g old talk → TellsOnly whole talk asked answer talk.least) → AnswersLine g g old new asked answer
tells_on g old new asked answer later same answers =
    stays g old new asked answer later same (λ whole talk stands. only_told talk.least (answers whole talk stands) refl)

pub is_quit : (g : FeedView) (a : Session) → AnswersLine g g a a line.Quit (reply_text said.Bye)
is_quit g a = tells_on g a a line.Quit (reply_text said.Bye) (session_refl a) refl (λ whole talk stands. (refl, refl))

-- a status
pub is_shown : (g : FeedView) (old new : Session) (answer : List ℕ) → LaterSession old new → new.installer ≡ old.installer
    → answer ≡ reply_text (said.Serving (last_token (history_of new.desk.seen)) (length (meta (history_of new.desk.seen))))
    → AnswersLine g g old new line.Status answer
is_shown g old new answer later same is =
    tells g old new line.Status answer later same (λ whole talk begins stands.
    let longer : length old.desk.seen ≤ length new.desk.seen = prefix_length old.desk.seen new.desk.seen later.seen in
    let size = history_length new.desk.seen in (
      length (history_of new.desk.seen),
      omega (arith, size),
      (history_of new.desk.seen, begins.seen, omega (arith, size, longer, stands.least), refl, is),
    ))

-- the least place that may be shown was shown
least_stands : (g : FeedView) (talk : Talk) (joined : Option ReleaseData) (old new : Session) → StandsAt g old talk → LaterSession old new
    → history_of new.installer.list ≡ with_joined (history_of old.installer.list) joined → length new.installer.list ≤ length new.desk.seen
    → least_after talk joined ≤ length new.desk.seen
least_stands g talk None old new stands later grows knows = omega (arith, stands.least, prefix_length old.desk.seen new.desk.seen later.seen)
least_stands g talk (Some r) old new stands later grows knows =
    omega (
      arith,
      knows,
      history_length new.installer.list,
      ap length grows,
      ap length stands.published,
      length-append (history_of old.installer.list) (r ∷ []),
    )

-- a line that makes the history grow, by a release or by none
pub is_done : (g h : FeedView) (old new : Session) (asked : Line) (answer : List ℕ) (joined : Option ReleaseData) → LaterFeed g h → LaterSession old new
    → Handles (history_of old.installer.list) g asked answer joined h
    → history_of new.installer.list ≡ with_joined (history_of old.installer.list) joined
    → new.installer.subscribers ≡ heard_by old.installer.subscribers (history_of old.installer.list) joined
    → length new.installer.list ≤ length new.desk.seen → AnswersLine g h old new asked answer
unfolding AnswersLine
is_done g h old new asked answer joined feed later handles grows hears knows = record {
  feed = feed;
  later = later;
  answers = λ whole talk begins stands. (
    grown talk joined h,
    record {
      published = ap (λ H. with_joined H joined) stands.published ∙ sym grows;
      least = least_stands g talk joined old new stands later grows knows;
      feed = refl;
      subscribers = rw (stands.subscribers, stands.published) (sym hears);
    },
    handled joined h
        (subst (λ H. Handles H talk.feed asked answer joined h) (sym stands.published)
        (subst (λ k. Handles (history_of old.installer.list) k asked answer joined h) (sym stands.feed) handles))
        refl,
  );
}

pub said_as : (g h : FeedView) (old new : Session) (asked : Line) (a b : List ℕ) → b ≡ a → AnswersLine g h old new asked a
    → AnswersLine g h old new asked b
said_as g h old new asked a b e answers = subst (λ (x : List ℕ). AnswersLine g h old new asked x) (sym e) answers
