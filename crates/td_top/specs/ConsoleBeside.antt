-- What the console of a server makes of all that it was lent, beside the workers.
use Rattle.std.specs.Prelude.{◌≡◌, ℕ, List, Option}
use Rattle.admission.specs.declared.rules.Chosen.{Chosen}
use Rattle.td_base.specs.Views.{SinkView, SourceView}
use Rattle.run_ends.specs.Feeds.{FeedView}
use Rattle.run_ends.specs.Site.{console}
use Rattle.run_ends.specs.Talking.{ComesTo, Scene, scene}
use Rattle.td_top.specs.declared.console_beside.Console.{Console}
use Rattle.td_top.specs.declared.console_beside.TalkOver.{TalkOver}
use Rattle.run_ends.specs.declared.talk_end.TalkEnd.{TalkEnd}

-- what a console talks over
abbrev pub scene_of : {Q G C K : Type 0} → (Q → List Chosen) → (G → List Chosen → FeedView)
    → (C → SourceView) → (K → SinkView) → Console Q G C K → Scene
scene_of chosen feed input output c =
    scene (console (feed c.feed.now (chosen c.asked.now)) (input c.input.now)
    (output c.output.now)) c.session.now

-- which objects it was lent: a session, what the history grows by, an input, an output, and what
-- tells the end of its talk
abbrev pub lent_to : {Q G C K : Type 0} → Console Q G C K → ℕ × ℕ × ℕ × ℕ × ℕ
lent_to c = (
  c.session.ghost_name,
  c.feed.ghost_name,
  c.input.ghost_name,
  c.output.ghost_name,
  c.over.ghost_name,
)

-- what stays as it is while the talk goes on: what is asked of releases and of wishes, what tells
-- its end, and which objects were lent
abbrev pub steady : {Q G C K : Type 0} → Console Q G C K → Q × TalkOver × (ℕ × ℕ × ℕ × ℕ × ℕ)
steady c = (c.asked.now, c.over.now, lent_to c)

-- a console: what it talks over, the rules that it asks of releases, how its talk ended, if it did
-- and memory served, and which objects it was lent
pub record BesideView : Type 0 where
  pub scene : Scene
  pub rules : List Chosen
  pub end : Option TalkEnd
  pub lent : ℕ × ℕ × ℕ × ℕ × ℕ

abbrev pub beside_of : {Q G C K : Type 0} → (Q → List Chosen) → (G → List Chosen → FeedView)
    → (C → SourceView) → (K → SinkView) → Console Q G C K → BesideView
beside_of chosen feed input output c = record {
  scene = scene_of chosen feed input output c;
  rules = chosen c.asked.now;
  end = c.over.now.end;
  lent = lent_to c;
}

-- the talk came to its end, if memory did not run out, under the same rules and over the same
-- objects
pub record Ran (before now : BesideView) : Type 0 where
  pub talk : ComesTo before.scene now.scene now.end
  pub rules : now.rules ≡ before.rules
  pub lent : now.lent ≡ before.lent

-- the flag was raised, and nothing else was done
abbrev pub Halted : BesideView → BesideView → Type 0
Halted before now = now ≡ before
