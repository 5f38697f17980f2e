-- How a talk with an operator goes on by a turn, and ends.
use Rattle.std.proofs.Common.{◌≡◌, ℕ, ◌+◌, ◌≤◌, List, [], ◌∷◌, ◌++◌, length, flat_map, Option, Some}
use Rattle.std.proofs.Common.{refl, sym, subst, ap, ◌∙◌, append_assoc, append-nil, arith}
use Rattle.std.specs.Io.KnownBytes.{Consumes, IsAtEnd}
use Rattle.std.specs.List.{AllByRecursion}
use Rattle.std.proofs.KnownBytes.{Consumes-nil, Consumes-trans}
use Rattle.std.proofs.lemmas.List.Concat.{flat_map-append}
use Rattle.td_base.specs.Views.{SourceFailed, LaterSink, LaterSource, SinkView, SourceView}
use Rattle.td_base.specs.Transfer.{WritesAll}
use Rattle.td_base.specs.declared.transfer.Written.{Written}
use Rattle.td_base.specs.declared.transfer.Written.TheVariants as written
use Rattle.td_base.proofs.lemmas.LaterLemmas.{sink_trans, source_refl, source_then_failed}
use Rattle.td_base.proofs.lemmas.LaterLemmas.{source_trans}
use Rattle.td_base.proofs.lemmas.LaterLemmas.{writes_all_later}
use Rattle.catalogue.specs.Holdings.{history_of}
use Rattle.catalogue.specs.Releases.{ReleaseData}
use Rattle.catalogue.proofs.lemmas.HistoryLemmas.{history_length, history_longer}
use Rattle.console.specs.Lines.{lines_from, lines_of}
use Rattle.console.specs.Replies.{reply_text}
use Rattle.console.specs.Steps.{GivesLines}
use Rattle.console.specs.declared.line.Line.{Line}
use Rattle.console.specs.declared.line.Line.TheVariants as line
use Rattle.console.specs.declared.said.Said.TheVariants as said
use Rattle.td_base.proofs.lemmas.Beginnings.{prefix_trans}
use Rattle.run_ends.specs.Feeds.{FeedView}
use Rattle.run_ends.specs.Replies.{last_token}
use Rattle.run_ends.specs.Sessions.{AnswersLine, BeginsWhole, LaterSession}
use Rattle.run_ends.specs.Site.{console}
use Rattle.run_ends.specs.Operator.{KeepsTalking, more, none}
use Rattle.run_ends.specs.Talking.{ComesTo, IsAt, IsReadNeeded, LaterScene, Scene, TalksOver, at_ready, at_reply, talk_begun_at, scene, talk_text}
use Rattle.td_top.specs.TalkingSteps.{FeedsHeld, FeedsTalk, HasNone, IsNextLine, Reaches, SaysBye}
use Rattle.td_top.specs.TalkingSteps.{SaysText}
use Rattle.run_ends.specs.declared.talk_end.TheConstants.{PIECE}
use Rattle.td_top.specs.declared.talking.TalkTurn.{TalkTurn}
use Rattle.td_top.specs.declared.talking.TalkTurn.TheVariants as turn
use Rattle.run_ends.specs.declared.session.Session.{Session}
use Rattle.run_ends.specs.declared.talk_end.TalkEnd.{TalkEnd}
use Rattle.run_ends.specs.declared.talk_end.TalkEnd.TheVariants as end
use Rattle.run_ends.proofs.lemmas.WrittenTexts.{written_more}
use Rattle.td_top.proofs.lemmas.FeedLemmas.{feed_refl, feed_trans}
use Rattle.run_ends.proofs.lemmas.SessionLemmas.{session_refl, session_trans}

-- ---- histories

begins_before : (a b : Session) (whole : List ReleaseData) → LaterSession a b → BeginsWhole b whole → BeginsWhole a whole
begins_before a b whole later begins = record {
  published = prefix_trans (history_of a.installer.list) (history_of b.installer.list) whole
      (history_longer a.installer.list b.installer.list later.published) begins.published;
  seen = prefix_trans (history_of a.desk.seen) (history_of b.desk.seen) whole (history_longer a.desk.seen b.desk.seen later.seen) begins.seen;
}

-- ---- lines

-- all lines of what was fed are those asked and those of what is held
lines_held : (all held : List ℕ) (given : List Line) → GivesLines all given held → lines_of all ≡ given ++ lines_of held
lines_held all held given g = ap lines_of (sym (append-nil all)) ∙ (g [] ∙ ap (λ (l : List ℕ). given ++ lines_of l) (append-nil held))

gives_more : (all held read : List ℕ) (given : List Line) → GivesLines all given held → GivesLines (all ++ read) given (held ++ read)
gives_more all held read given g = λ rest.
    ap lines_of (append_assoc all read rest) ∙ (g (read ++ rest) ∙ ap (λ (l : List ℕ). given ++ lines_of l) (sym (append_assoc held read rest)))

pub ready_text : (a b : List ℕ) → a ≡ b → reply_text (said.Ready a) ≡ reply_text (said.Ready b)
ready_text a b e = ap (λ (t : List ℕ). reply_text (said.Ready t)) e

pub gives_none : GivesLines [] [] []
gives_none = λ more. refl

all_more : {A : Type 0} (P : A → Type 0) (xs : List A) (x : A) → AllByRecursion P xs → P x → AllByRecursion P (xs ++ x ∷ [])
all_more P [] x h p = (p, tt)
all_more P (y ∷ ys) x h p = (h.0, all_more P ys x h.1 p)

-- ---- what was read

needs_none : IsReadNeeded [] []
unfolding lines_from
needs_none = ([], [], [], refl, omega arith, refl)

needs_more : (read : List ℕ) (asked : List Line) (next : Line) → IsReadNeeded read asked → IsReadNeeded read (asked ++ next ∷ [])
needs_more read asked next h =
    (h.0, h.1, h.2 ++ next ∷ [], h.3, h.4, ap (λ (ls : List Line). ls ++ next ∷ []) h.5 ∙ append_assoc (lines_of h.0) h.2 (next ∷ []))

needs_piece : (before piece : List ℕ) (asked : List Line) → lines_of before ≡ asked → length piece ≤ PIECE → IsReadNeeded (before ++ piece) asked
needs_piece before piece asked all few = (before, piece, [], refl, few, sym (append-nil (lines_of before) ∙ all))

-- ---- texts

text_more : (H : List ReleaseData) (told : List (List ℕ)) (a : List ℕ) → talk_text H told ++ a ≡ talk_text H (told ++ a ∷ [])
text_more H told a =
    append_assoc (reply_text (said.Ready (last_token H))) (flat_map (λ (text : List ℕ). text) told) a
    ∙ ap (λ (l : List ℕ). reply_text (said.Ready (last_token H)) ++ l)
    (ap (λ (l : List ℕ). flat_map (λ (text : List ℕ). text) told ++ l) (sym (append-nil a)) ∙ sym (flat_map-append (λ (text : List ℕ). text) told (a ∷ [])))

first_text : (H : List ReleaseData) → reply_text (said.Ready (last_token H)) ≡ talk_text H []
first_text H = sym (append-nil (reply_text (said.Ready (last_token H))))

as_text : (a b : SinkView) (one two : List ℕ) (how : Written) → one ≡ two → WritesAll a b one how → WritesAll a b two how
as_text a b one two how e h = subst (λ (t : List ℕ). WritesAll a b t how) e h

-- ---- the beginning

nothing_asked : (s : FeedView) (i : SourceView) (o p : SinkView) (x : Session) → length x.installer.list ≤ length x.desk.seen → LaterSink o p
    → TalksOver (scene (console s i o) x) (scene (console s i p) x) [] []
nothing_asked s i o p x knows sink = record {
  later = record { console = record { feed = feed_refl s; input = source_refl i; output = sink }; session = session_refl x };
  talks = λ whole begins. (
    talk_begun_at (scene (console s i o) x),
    record {
      published = refl;
      least = omega (arith, history_length x.installer.list, knows);
      feed = refl;
      subscribers = refl;
    },
    none (talk_begun_at (scene (console s i o) x)),
  );
}

pub starts : (s : FeedView) (i : SourceView) (o p : SinkView) (x : Session) (text : List ℕ) → length x.installer.list ≤ length x.desk.seen
    → text ≡ reply_text (said.Ready (last_token (history_of x.installer.list))) → WritesAll o p text written.Whole
    → GivesLines [] [] [] → IsAt (scene (console s i o) x) (scene (console s i p) x) []
starts s i o p x text knows is h gives = record {
  read = [];
  asked = [];
  told = [];
  consumed = Consumes-nil i.left;
  gives = gives;
  needed = needs_none;
  goes_on = tt;
  steady = refl;
  over = nothing_asked s i o p x knows (writes_all_later o p text written.Whole h);
  written = as_text o p text (talk_text (history_of x.installer.list) []) written.Whole (is ∙ first_text (history_of x.installer.list)) h;
}

pub cut_at_once : (s : FeedView) (i : SourceView) (o p : SinkView) (x : Session) (text : List ℕ) → length x.installer.list ≤ length x.desk.seen
    → text ≡ reply_text (said.Ready (last_token (history_of x.installer.list))) → WritesAll o p text written.Cut
    → GivesLines [] [] [] → ComesTo (scene (console s i o) x) (scene (console s i p) x) (Some end.NotWritten)
cut_at_once s i o p x text knows is h gives = record {
  read = [];
  asked = [];
  ignored = lines_of [];
  told = [];
  reads = (Consumes-nil i.left, refl);
  needed = needs_none;
  over = nothing_asked s i o p x knows (writes_all_later o p text written.Cut h);
  written = at_ready (as_text o p text (reply_text (said.Ready (last_token (history_of x.installer.list)))) written.Cut is h);
  ends = tt;
  fails = refl;
}

-- ---- a piece of the input

later_input : (start : Scene) (s : FeedView) (i j : SourceView) (o : SinkView) (x : Session) → LaterScene start (scene (console s i o) x) → LaterSource i j
    → LaterScene start (scene (console s j o) x)
later_input start s i j o x later input = record {
  console = record {
    feed = later.console.feed;
    input = source_trans start.console.input i j later.console.input input;
    output = later.console.output;
  };
  session = later.session;
}

over_input : (start : Scene) (s : FeedView) (i j : SourceView) (o : SinkView) (x : Session) (asked : List Line) (told : List (List ℕ)) → LaterSource i j
    → TalksOver start (scene (console s i o) x) asked told → TalksOver start (scene (console s j o) x) asked told
over_input start s i j o x asked told input over = record { later = later_input start s i j o x over.later input; talks = over.talks }

fed : (start : Scene) (s : FeedView) (i j : SourceView) (o : SinkView) (x : Session) (held held' new : List ℕ)
    → IsAt start (scene (console s i o) x) held → HasNone held held' → LaterSource i j → FeedsHeld i j held' new
    → IsAt start (scene (console s j o) x) new
fed start s i j o x held held' new at whole input f = record {
  read = at.read ++ f.read;
  asked = at.asked;
  told = at.told;
  consumed = Consumes-trans start.console.input.left i.left j.left at.read f.read at.consumed f.consumed;
  gives = subst (λ (l : List ℕ). GivesLines (at.read ++ f.read) at.asked l) (sym f.joined)
      (gives_more at.read held' f.read at.asked (whole at.read at.asked at.gives).0);
  needed = needs_piece at.read f.read at.asked (whole at.read at.asked at.gives).1 f.few;
  goes_on = at.goes_on;
  steady = f.steady ∙ at.steady;
  over = over_input start s i j o x at.asked at.told input at.over;
  written = at.written;
}

consumed_on : (a b c : Option (List ℕ)) (bs : List ℕ) → Consumes a b bs → Consumes b c [] → Consumes a c bs
consumed_on a b c bs h k = subst (λ (l : List ℕ). Consumes a c l) (append-nil bs) (Consumes-trans a b c bs [] h k)

input_done : (start : Scene) (s : FeedView) (i j : SourceView) (o : SinkView) (x : Session) (held held' : List ℕ)
    → IsAt start (scene (console s i o) x) held → HasNone held held' → LaterSource i j → Consumes i.left j.left [] → IsAtEnd j.left
    → j.faults ≡ i.faults → ComesTo start (scene (console s j o) x) (Some end.InputEnded)
input_done start s i j o x held held' at whole input consumed ended steady = record {
  read = at.read;
  asked = at.asked;
  ignored = [];
  told = at.told;
  reads = (consumed_on start.console.input.left i.left j.left at.read at.consumed consumed, (whole at.read at.asked at.gives).1 ∙ sym (append-nil at.asked));
  needed = at.needed;
  over = over_input start s i j o x at.asked at.told input at.over;
  written = at.written;
  ends = (at.goes_on, refl, ended);
  fails = steady ∙ at.steady;
}

input_failed : (start : Scene) (s : FeedView) (i j : SourceView) (o : SinkView) (x : Session) (held held' : List ℕ)
    → IsAt start (scene (console s i o) x) held → HasNone held held' → LaterSource i j → Consumes i.left j.left [] → SourceFailed i j
    → j.faults ≤ i.faults + 1 → ComesTo start (scene (console s j o) x) (Some end.NotRead)
input_failed start s i j o x held held' at whole input consumed failed once = record {
  read = at.read;
  asked = at.asked;
  ignored = [];
  told = at.told;
  reads = (consumed_on start.console.input.left i.left j.left at.read at.consumed consumed, (whole at.read at.asked at.gives).1 ∙ sym (append-nil at.asked));
  needed = at.needed;
  over = over_input start s i j o x at.asked at.told input at.over;
  written = at.written;
  ends = (at.goes_on, refl, source_then_failed start.console.input i j at.over.later.console.input failed);
  fails = subst (λ n. j.faults ≤ n + 1) at.steady once;
}

-- a turn that reads
pub read_turn : (start : Scene) (s : FeedView) (i j : SourceView) (o : SinkView) (x : Session) (held held' new : List ℕ) (r : TalkTurn)
    → IsAt start (scene (console s i o) x) held → HasNone held held' → LaterSource i j → FeedsTalk i j held' new r
    → Reaches start (scene (console s j o) x) new r
read_turn start s i j o x held held' new turn.On at whole input f = fed start s i j o x held held' new at whole input f
read_turn start s i j o x held held' new (turn.End end.InputEnded) at whole input f = input_done start s i j o x held held' at whole input f.0 f.1 f.2
read_turn start s i j o x held held' new (turn.End end.NotRead) at whole input f = input_failed start s i j o x held held' at whole input f.0 f.1 f.2
read_turn start s i j o x held held' new (turn.End end.Quit) at whole input f = absurd f
read_turn start s i j o x held held' new (turn.End end.NotWritten) at whole input f = absurd f
read_turn start s i j o x held held' new turn.NoMemory at whole input f = later_input start s i j o x at.over.later input

-- ---- a line

over_more : (start : Scene) (s t : FeedView) (i : SourceView) (o p : SinkView) (x y : Session) (asked : List Line) (told : List (List ℕ)) (next : Line)
    (a : List ℕ)
    → AllByRecursion KeepsTalking asked → LaterSink o p → TalksOver start (scene (console s i o) x) asked told → AnswersLine s t x y next a
    → TalksOver start (scene (console t i p) y) (asked ++ next ∷ []) (told ++ a ∷ [])
unfolding AnswersLine
over_more start s t i o p x y asked told next a goes sink over answers = record {
  later = record {
    console = record {
      feed = feed_trans start.console.feed s t over.later.console.feed answers.feed;
      input = over.later.console.input;
      output = sink_trans start.console.output o p over.later.console.output sink;
    };
    session = session_trans start.session x y over.later.session answers.later;
  };
  talks = λ whole begins.
      let before = over.talks whole (begins_before x y whole answers.later begins) in
      let after = answers.answers whole before.0 begins before.1 in (
        after.0,
        after.1,
        more (talk_begun_at start) before.0 after.0 asked told next a before.2 goes after.2,
      );
}

cut_by : (start : Scene) (s t : FeedView) (i : SourceView) (o p : SinkView) (x y : Session) (held new : List ℕ) (next : Line) (a : List ℕ)
    → IsAt start (scene (console s i o) x) held → IsNextLine held new next → AnswersLine s t x y next a → WritesAll o p a written.Cut
    → ComesTo start (scene (console t i p) y) (Some end.NotWritten)
cut_by start s t i o p x y held new next a at is answers h = record {
  read = at.read;
  asked = at.asked ++ next ∷ [];
  ignored = lines_of new;
  told = at.told ++ a ∷ [];
  reads = (at.consumed, lines_held at.read new (at.asked ++ next ∷ []) (is at.read at.asked at.gives));
  needed = needs_more at.read at.asked next at.needed;
  over = over_more start s t i o p x y at.asked at.told next a at.goes_on (writes_all_later o p a written.Cut h) at.over answers;
  written = at_reply at.told a o at.written h;
  ends = tt;
  fails = at.steady;
}

said_whole : (start : Scene) (o p : SinkView) (told : List (List ℕ)) (a : List ℕ)
    → WritesAll start.console.output o (talk_text (history_of start.session.installer.list) told) written.Whole → WritesAll o p a written.Whole
    → WritesAll start.console.output p (talk_text (history_of start.session.installer.list) (told ++ a ∷ [])) written.Whole
said_whole start o p told a g h =
    as_text start.console.output p (talk_text (history_of start.session.installer.list) told ++ a)
    (talk_text (history_of start.session.installer.list) (told ++ a ∷ [])) written.Whole (text_more (history_of start.session.installer.list) told a)
    (written_more start.console.output o p (talk_text (history_of start.session.installer.list) told) a g h)

answered : (start : Scene) (s t : FeedView) (i : SourceView) (o p : SinkView) (x y : Session) (held new : List ℕ) (next : Line) (a : List ℕ)
    → KeepsTalking next → IsAt start (scene (console s i o) x) held → IsNextLine held new next → AnswersLine s t x y next a
    → WritesAll o p a written.Whole → IsAt start (scene (console t i p) y) new
answered start s t i o p x y held new next a goes at is answers h = record {
  read = at.read;
  asked = at.asked ++ next ∷ [];
  told = at.told ++ a ∷ [];
  consumed = at.consumed;
  gives = is at.read at.asked at.gives;
  needed = needs_more at.read at.asked next at.needed;
  goes_on = all_more KeepsTalking at.asked next at.goes_on goes;
  steady = at.steady;
  over = over_more start s t i o p x y at.asked at.told next a at.goes_on (writes_all_later o p a written.Whole h) at.over answers;
  written = said_whole start o p at.told a at.written h;
}

pub line_turn : (start : Scene) (s t : FeedView) (i : SourceView) (o p : SinkView) (x y : Session) (held new : List ℕ) (next : Line) (a : List ℕ) (r : TalkTurn)
    → KeepsTalking next → IsAt start (scene (console s i o) x) held → IsNextLine held new next → AnswersLine s t x y next a → SaysText o p a r
    → Reaches start (scene (console t i p) y) new r
line_turn start s t i o p x y held new next a turn.On goes at is answers h = answered start s t i o p x y held new next a goes at is answers h
line_turn start s t i o p x y held new next a (turn.End end.NotWritten) goes at is answers h = cut_by start s t i o p x y held new next a at is answers h
line_turn start s t i o p x y held new next a (turn.End end.Quit) goes at is answers h = absurd h
line_turn start s t i o p x y held new next a (turn.End end.InputEnded) goes at is answers h = absurd h
line_turn start s t i o p x y held new next a (turn.End end.NotRead) goes at is answers h = absurd h
line_turn start s t i o p x y held new next a turn.NoMemory goes at is answers h = absurd h

-- the last line
quit_by : (start : Scene) (s : FeedView) (i : SourceView) (o p : SinkView) (x : Session) (held new : List ℕ)
    → IsAt start (scene (console s i o) x) held → IsNextLine held new line.Quit → AnswersLine s s x x line.Quit (reply_text said.Bye)
    → WritesAll o p (reply_text said.Bye) written.Whole → ComesTo start (scene (console s i p) x) (Some end.Quit)
quit_by start s i o p x held new at is answers h = record {
  read = at.read;
  asked = at.asked ++ line.Quit ∷ [];
  ignored = lines_of new;
  told = at.told ++ reply_text said.Bye ∷ [];
  reads = (at.consumed, lines_held at.read new (at.asked ++ line.Quit ∷ []) (is at.read at.asked at.gives));
  needed = needs_more at.read at.asked line.Quit at.needed;
  over = over_more start s s i o p x x at.asked at.told line.Quit (reply_text said.Bye) at.goes_on (writes_all_later o p (reply_text said.Bye) written.Whole h)
      at.over
      answers;
  written = said_whole start o p at.told (reply_text said.Bye) at.written h;
  ends = (at.asked, refl);
  fails = at.steady;
}

pub quit_turn : (start : Scene) (s : FeedView) (i : SourceView) (o p : SinkView) (x : Session) (held new : List ℕ) (ended : TalkEnd)
    → IsAt start (scene (console s i o) x) held → IsNextLine held new line.Quit → AnswersLine s s x x line.Quit (reply_text said.Bye)
    → SaysBye o p ended → Reaches start (scene (console s i p) x) new (turn.End ended)
quit_turn start s i o p x held new end.Quit at is answers h = quit_by start s i o p x held new at is answers h
quit_turn start s i o p x held new end.NotWritten at is answers h = cut_by start s s i o p x x held new line.Quit (reply_text said.Bye) at is answers h
quit_turn start s i o p x held new end.InputEnded at is answers h = absurd h
quit_turn start s i o p x held new end.NotRead at is answers h = absurd h
