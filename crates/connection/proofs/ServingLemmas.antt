-- How the end of a connection that is served over a desk follows from its parts.
use Rattle.std.proofs.Common.{if◌then◌else◌, ◌≡◌, ℕ, ◌+◌, ◌<◌, ◌≤◌, List, [], ◌∷◌, ◌++◌, length, take, drop, Bool, true}
use Rattle.std.proofs.Common.{false, inl, inr, Option, Some, None, Result, Ok, Err, refl, sym, ap, ◌∙◌, subst, arith}
use Rattle.std.specs.Io.KnownBytes.{IsAtEnd}
use mathlib.Core.List.{IsPrefix}
use Rattle.catalogue.specs.Holdings.{history_of}
use Rattle.catalogue.specs.Releases.{ReleaseData}
use Rattle.catalogue.specs.declared.holding.Catalogue.{Catalogue}
use Rattle.http_answer.specs.Replies.{fixed, reply}
use Rattle.http_answer.specs.declared.answer.Answer.{Answer}
use Rattle.http_request.specs.Asks.{Asks, Gives, Rest}
use Rattle.http_request.specs.declared.head.Head.{Head}
use Rattle.publication.specs.Views.{DeskView}
use Rattle.td_base.proofs.lemmas.Beginnings.{prefix_self, prefix_trans, prefix_length}
use Rattle.td_base.specs.Views.{ConnView}
use Rattle.td_base.specs.declared.no_memory.NoMemory.{NoMemory}
use Rattle.td_base.specs.declared.report.End.{End}
use Rattle.td_base.specs.declared.report.End.TheVariants as end
use Rattle.td_base.specs.declared.report.Role.{Role}
use Rattle.td_base.specs.declared.report.TheConstants.{MOST_PLACES}
use Rattle.td_base.specs.declared.transfer.Written.{Written}
use Rattle.td_base.specs.declared.transfer.Written.TheVariants as written
use Rattle.connection.specs.Answering.{AnswersOne, HasReplied, IsAnswered, IsAnsweredInPart, IsReplyAt, IsServing, IsUnanswered, ServesOn, TakesPlace}
use Rattle.connection.specs.FaultCounts.{AreLater, ReadFailed, WriteFailed, faults_of}
use Rattle.connection.specs.Hearing.{Hears, joined_reads}
use Rattle.connection.specs.Keeping.{IsReplyNow}
use Rattle.connection.specs.Replies.{is_last, reply_at}
use Rattle.connection.specs.Served.{ArePlaces, IsStarved, Transcript}
use Rattle.connection.specs.Sending.{GivesUp, IsCutOff, IsSent, Refuses, SendsReply}
use Rattle.connection.specs.Serving.{ServesConn, ServesPart, answer_at}
use Rattle.connection.specs.Traffic.{Passes, Traffic}
use Rattle.connection.specs.declared.hearing.Arrival.{Arrival}
use Rattle.connection.specs.declared.hearing.Arrival.TheVariants as arrival
use Rattle.connection.proofs.TrafficLemmas.{passes_none, passes_read, passes_written, read_on, wrote_on}
use Rattle.connection.proofs.EnteringLemmas.{entered}
use Rattle.connection.proofs.ServedLemmas as served
use Rattle.catalogue.proofs.lemmas.HistoryLemmas.{history_length, history_longer}

pub starts : (desk : DeskView (Catalogue (List ℕ))) (role : Role) (a : ConnView) → IsServing desk role a a [] []
starts desk role a = record {
  read = [];
  written = [];
  given = [];
  passes = passes_none a;
  gives = refl;
  needed = served.needed_none;
  open_after = served.open_none;
  placed = refl;
  are = served.places_none (length desk.seen);
  replied = λ H st. served.replied_none (answer_at H role);
}

-- there is room for one more place
pub room : (desk : DeskView (Catalogue (List ℕ))) (role : Role) (a b : ConnView) (held places : List ℕ) → IsServing desk role a b held places
    → length places < MOST_PLACES
room desk role a b held places s = omega (arith, s.placed, s.open_after.few)

-- ---- histories

-- a longer history has no fewer places
size : (desk : DeskView (Catalogue (List ℕ))) (H : List ReleaseData) → IsPrefix (history_of desk.seen) H → length desk.seen ≤ length H
size desk H p = omega (arith, history_length desk.seen, prefix_length (history_of desk.seen) H p)

-- the desk has seen more
pub grown : (desk later : DeskView (Catalogue (List ℕ))) (role : Role) (a b : ConnView) (held places : List ℕ)
    → IsPrefix desk.seen later.seen → IsServing desk role a b held places → IsServing later role a b held places
grown desk later role a b held places more s = record {
  read = s.read;
  written = s.written;
  given = s.given;
  passes = s.passes;
  gives = s.gives;
  needed = s.needed;
  open_after = s.open_after;
  placed = s.placed;
  are = served.wider (length desk.seen) (length later.seen) places (prefix_length desk.seen later.seen more) s.are;
  replied = λ H st. s.replied H (prefix_trans (history_of desk.seen) (history_of later.seen) H (history_longer desk.seen later.seen more) st);
}

-- the reply at the place of what the desk holds, where nothing but the number of requests before
-- tells whether it closes the connection
pub told : (desk : DeskView (Catalogue (List ℕ))) (role : Role) (before : ℕ) (head : Head) (place : ℕ) (close : Bool) (bytes : List ℕ)
    → place ≡ length desk.seen → close ≡ is_last before head → IsReplyNow desk role head close bytes
    → IsReplyAt desk role before head place bytes
told desk role before head place close bytes e c r = λ H st.
    r H st
    ∙ (ap (λ k. reply (answer_at H role (length desk.seen) head) head.head_only k) c
    ∙ ap (λ n. reply (answer_at H role n head) head.head_only (is_last before head)) (sym e))

-- ---- what became of one request, once the desk had entered for it, its place was told, and its
-- reply was made

module _ (desk later : DeskView (Catalogue (List ℕ))) (role : Role) (head : Head) (a b : ConnView) (old new : List ℕ) (place : ℕ) (close : Bool)
    (step : (later.enters ≡ desk.enters + 1) × (later.seen ≡ later.entered)) (pair : later.pair ≡ desk.pair)
    (longer : IsPrefix desk.seen later.seen) (over : desk.ended ≡ true → (later.seen ≡ desk.seen) × (later.ended ≡ true))
    (is_place : place ≡ length later.seen) (some : 1 ≤ place) (e : new ≡ old ++ place ∷ []) where
  takes : TakesPlace desk later old new
  takes = record {
    place = place;
    enters = entered desk later place step pair longer over is_place;
    some = some;
    places_are = e;
  }

  -- there was no memory for the reply
  pub without_reply : b ≡ a → IsUnanswered desk later role head a b old new
  without_reply kept = record { kept = kept; why = inl takes }

  module _ (is : close ≡ is_last (length old) head) where
    is_reply : (bytes : List ℕ) → IsReplyNow later role head close bytes → IsReplyAt later role (length old) head place bytes
    is_reply bytes r = told later role (length old) head place close bytes is_place is r

    answered_by : IsSent a b (IsReplyNow later role head close) → IsAnswered desk later role head a b old new
    unfolding takes
    answered_by p = record { takes = takes; sent = record { reply = p.reply; passes = p.passes; is = is_reply p.reply p.is } }

    kept_open : (c : Bool) → c ≡ is_last (length old) head → IsAnswered desk later role head a b old new
        → AnswersOne desk later role head a b old new (Ok (if c then Some end.Closed else None))
    kept_open true i x = (x, sym i)
    kept_open false i x = (x, sym i)

    -- what was said of the sending, of a reply that was sent or cut
    sent_so : (w v : Written) → SendsReply (IsReplyNow later role head close) a b w → w ≡ v → SendsReply (IsReplyNow later role head close) a b v
    sent_so w v p i = subst (λ x. SendsReply (IsReplyNow later role head close) a b x) i p

    -- the reply was sent
    pub whole : (w : Written) → SendsReply (IsReplyNow later role head close) a b w → w ≡ written.Whole
        → (r : Option End) → r ≡ (if close then Some end.Closed else None) → AnswersOne desk later role head a b old new (Ok r)
    whole w p i r ends =
        subst (λ x. AnswersOne desk later role head a b old new (Ok x)) (sym ends)
        (kept_open close is (answered_by (sent_so w written.Whole p i)))

    -- a write of the reply failed
    pub in_part : (w : Written) → SendsReply (IsReplyNow later role head close) a b w → w ≡ written.Cut
        → IsAnsweredInPart desk later role head a b old new
    unfolding takes
    in_part w p i =
        let cut : IsCutOff a b (IsReplyNow later role head close) = sent_so w written.Cut p i in
        record { takes = takes; cut = record { reply = cut.reply; cut = cut.cut; is = is_reply cut.reply cut.is } }

-- the heads before the last stand at the beginning too
gives_before : (bytes : List ℕ) (given : List Head) (head : Head) (held : List ℕ) → Gives bytes (given ++ head ∷ []) held
    → (rest : List ℕ) × Gives bytes given rest
gives_before bytes [] head held g = (bytes, refl)
gives_before bytes (h ∷ hs) head held g = let r = gives_before (drop g.0 bytes) hs head held g.2 in (r.0, (g.0, g.1, r.1))

-- ---- the ends, each after what was heard

-- what was said of the hearing, of what came
pub heard : (b c : ConnView) (held new : List ℕ) (r s : Arrival) → r ≡ s → Hears b c held new (Ok r) → Hears b c held new (Ok s)
heard b c held new r s e h = subst (λ x. Hears b c held new (Ok x)) e h

-- what was read by then, where no read failed
module _ (desk : DeskView (Catalogue (List ℕ))) (role : Role) (a b c : ConnView) (held places : List ℕ) (s : IsServing desk role a b held places) where
  heard_passes : (more : List ℕ) → Traffic b c more [] → faults_of c ≡ faults_of b → Passes a c (s.read ++ more) s.written
  heard_passes more t e = passes_read a b c s.read more s.written s.passes (record { traffic = t; steady = e })

  are_over : (H : List ReleaseData) → IsPrefix (history_of desk.seen) H → ArePlaces (length H) places
  are_over H st = served.wider (length desk.seen) (length H) places (size desk H st) s.are

  -- the input ended
  pub closed_by_input : (new : List ℕ) → Hears b c held new (Ok arrival.Ended) → ServesConn desk role a c places end.Closed
  closed_by_input new h =
      let asks : Asks (s.read ++ joined_reads h.pieces) s.given (Rest new) × IsAtEnd c.left = h.comes s.read s.given s.gives in
      let p = heard_passes (joined_reads h.pieces) h.traffic h.fails in
      record {
        read = s.read ++ joined_reads h.pieces;
        written = s.written;
        traffic = p.traffic;
        served = λ H st.
            served.closed_by_input (answer_at H role) (length H) (s.read ++ joined_reads h.pieces) c.left (faults_of a) (faults_of c)
            (h.needed s.read s.given s.gives s.open_after s.needed) s.written places s.given new (are_over H st) (s.replied H st) asks.0 s.open_after
            asks.1 p.steady;
      }

  -- a read failed
  pub read_failed : (new : List ℕ) → Hears b c held new (Ok arrival.ReadFault) → ServesConn desk role a c places end.ReadFault
  read_failed new h = record {
    read = s.read ++ joined_reads h.pieces;
    written = s.written;
    traffic = read_on a b c s.read (joined_reads h.pieces) s.written s.passes.traffic h.traffic;
    served = λ H st.
        served.read_failed (answer_at H role) (length H) (s.read ++ joined_reads h.pieces) c.left (faults_of a) (faults_of c)
        (h.needed s.read s.given s.gives s.open_after s.needed) s.written places s.given new (are_over H st) (s.replied H st)
        (h.comes s.read s.given s.gives) s.open_after (subst (λ n. ReadFailed n (faults_of c)) s.passes.steady h.fails);
  }

  -- a head was refused
  pub refused : (d : ConnView) (new : List ℕ) (status : ℕ) (e : End) → Hears b c held new (Ok (arrival.Refused status)) → Refuses c d status e
      → ServesConn desk role a d places e
  refused d new status end.Closed h p =
      let q = passes_written a c d (s.read ++ joined_reads h.pieces) s.written (fixed status) (heard_passes (joined_reads h.pieces) h.traffic h.fails) p in
      record {
        read = s.read ++ joined_reads h.pieces;
        written = s.written ++ fixed status;
        traffic = q.traffic;
        served = λ H st.
            served.closed_by_refusal (answer_at H role) (length H) (s.read ++ joined_reads h.pieces) d.left (faults_of a) (faults_of d)
            (h.needed s.read s.given s.gives s.open_after s.needed) s.written places s.given status (are_over H st) (s.replied H st)
            (h.comes s.read s.given s.gives) s.open_after q.steady;
      }
  refused d new status end.WriteFault h p =
      let q = heard_passes (joined_reads h.pieces) h.traffic h.fails in
      record {
        read = s.read ++ joined_reads h.pieces;
        written = s.written ++ take p.sent (fixed status);
        traffic = wrote_on a c d (s.read ++ joined_reads h.pieces) s.written (take p.sent (fixed status)) q.traffic p.traffic;
        served = λ H st.
            served.refusal_cut (answer_at H role) (length H) (s.read ++ joined_reads h.pieces) d.left (faults_of a) (faults_of d)
            (h.needed s.read s.given s.gives s.open_after s.needed) s.written places s.given status p.sent (are_over H st) (s.replied H st)
            (h.comes s.read s.given s.gives) s.open_after (subst (λ n. WriteFailed n (faults_of d)) q.steady p.cause);
      }
  refused d new status end.ReadFault h p = absurd p
  refused d new status end.NoMemory h p = absurd p

  -- there was no memory for a head
  pub no_memory : (new : List ℕ) (fault : NoMemory) → Hears b c held new (Err fault) → ServesPart desk role a c places
  no_memory new fault h =
      let given : (rest : List ℕ) × Gives (s.read ++ joined_reads h.pieces) s.given rest = h.comes s.read s.given s.gives in
      record {
        read = s.read ++ joined_reads h.pieces;
        written = s.written;
        passes = heard_passes (joined_reads h.pieces) h.traffic h.fails;
        needed = h.needed s.read s.given s.gives s.open_after s.needed;
        are = s.are;
        starved = λ H st.
            served.starved (answer_at H role) (s.read ++ joined_reads h.pieces) c.left s.written places s.given given.0 (s.replied H st) given.1
            s.open_after;
      }

  module _ (new : List ℕ) (head : Head) (h : Hears b c held new (Ok (arrival.Request head))) where
    -- the enter for a request was refused
    pub enter_refused : ServesPart desk role a c places
    enter_refused =
        let given : (rest : List ℕ) × Gives (s.read ++ joined_reads h.pieces) s.given rest =
        gives_before (s.read ++ joined_reads h.pieces) s.given head new (h.comes s.read s.given s.gives) in
        record {
          read = s.read ++ joined_reads h.pieces;
          written = s.written;
          passes = heard_passes (joined_reads h.pieces) h.traffic h.fails;
          needed = h.needed s.read s.given s.gives s.open_after s.needed;
          are = s.are;
          starved = λ H st.
              served.starved (answer_at H role) (s.read ++ joined_reads h.pieces) c.left s.written places s.given given.0 (s.replied H st) given.1
              s.open_after;
        }

    -- the request has this place
    module _ (place : ℕ) (is_place : place ≡ length desk.seen) (some : 1 ≤ place) where
      one_more : ArePlaces (length desk.seen) (places ++ place ∷ [])
      one_more = served.places_more (length desk.seen) place places is_place some s.are

      are_more : (H : List ReleaseData) → IsPrefix (history_of desk.seen) H → ArePlaces (length H) (places ++ place ∷ [])
      are_more H st = served.wider (length desk.seen) (length H) (places ++ place ∷ []) (size desk H st) one_more

      -- there was no memory for the reply
      pub no_reply : ServesPart desk role a c (places ++ place ∷ [])
      no_reply = record {
        read = s.read ++ joined_reads h.pieces;
        written = s.written;
        passes = heard_passes (joined_reads h.pieces) h.traffic h.fails;
        needed = h.needed s.read s.given s.gives s.open_after s.needed;
        are = one_more;
        starved = λ H st.
            served.starved_begun (answer_at H role) (s.read ++ joined_reads h.pieces) c.left s.written places s.given head new place (s.replied H st)
            (h.comes s.read s.given s.gives) s.open_after;
      }

      told_at : (H : List ReleaseData) → IsPrefix (history_of desk.seen) H → (bytes : List ℕ)
          → IsReplyAt desk role (length places) head place bytes → bytes ≡ reply_at (answer_at H role) (length s.given) head place
      told_at H st bytes r = r H st ∙ ap (λ n. reply_at (answer_at H role) n head place) s.placed

      module _ (d : ConnView) (p : IsSent c d (IsReplyAt desk role (length places) head place)) where
        passes_reply : Passes a d (s.read ++ joined_reads h.pieces) (s.written ++ p.reply)
        passes_reply =
            passes_written a c d (s.read ++ joined_reads h.pieces) s.written p.reply (heard_passes (joined_reads h.pieces) h.traffic h.fails) p.passes

        replied_more : (H : List ReleaseData) → IsPrefix (history_of desk.seen) H
            → HasReplied (answer_at H role) (s.given ++ head ∷ []) (places ++ place ∷ []) (s.written ++ p.reply)
        replied_more H st =
            served.replied_more (answer_at H role) s.given places s.written head place p.reply (s.replied H st) (told_at H st p.reply p.is)

        -- a request was replied to, and the connection stays open
        pub replied : is_last (length places) head ≡ false → IsServing desk role a d new (places ++ place ∷ [])
        replied stays = record {
          read = s.read ++ joined_reads h.pieces;
          written = s.written ++ p.reply;
          given = s.given ++ head ∷ [];
          passes = passes_reply;
          gives = h.comes s.read s.given s.gives;
          needed = h.needed s.read s.given s.gives s.open_after s.needed;
          open_after = served.open_more s.given head s.open_after (ap (λ n. is_last n head) (sym s.placed) ∙ stays);
          placed = served.both_longer places place s.given head s.placed;
          are = one_more;
          replied = replied_more;
        }

        -- a request was replied to that closes the connection
        pub closed_by_request : is_last (length places) head ≡ true → ServesConn desk role a d (places ++ place ∷ []) end.Closed
        closed_by_request closes = record {
          read = s.read ++ joined_reads h.pieces;
          written = s.written ++ p.reply;
          traffic = passes_reply.traffic;
          served = λ H st.
              served.closed_by_request (answer_at H role) (length H) (s.read ++ joined_reads h.pieces) d.left (faults_of a) (faults_of d)
              (h.needed s.read s.given s.gives s.open_after s.needed) (s.written ++ p.reply) (places ++ place ∷ []) s.given head new
              (are_more H st) (replied_more H st) (h.comes s.read s.given s.gives) s.open_after
              (ap (λ n. is_last n head) (sym s.placed) ∙ closes) passes_reply.steady;
        }

      -- a write of the reply failed
      pub cut_in_reply : (d : ConnView) → IsCutOff c d (IsReplyAt desk role (length places) head place)
          → ServesConn desk role a d (places ++ place ∷ []) end.WriteFault
      cut_in_reply d p =
          let q = heard_passes (joined_reads h.pieces) h.traffic h.fails in
          record {
            read = s.read ++ joined_reads h.pieces;
            written = s.written ++ take p.cut.sent p.reply;
            traffic = wrote_on a c d (s.read ++ joined_reads h.pieces) s.written (take p.cut.sent p.reply) q.traffic p.cut.traffic;
            served = λ H st.
                served.reply_cut (answer_at H role) (length H) (s.read ++ joined_reads h.pieces) d.left (faults_of a) (faults_of d)
                (h.needed s.read s.given s.gives s.open_after s.needed) s.written places s.given head new place p.reply p.cut.sent
                (are_more H st) (s.replied H st) (h.comes s.read s.given s.gives) s.open_after (told_at H st p.reply p.is)
                (subst (λ n. WriteFailed n (faults_of d)) q.steady p.cut.cause);
          }

-- ---- what one request adds

module _ (desk later : DeskView (Catalogue (List ℕ))) (role : Role) (a b c d : ConnView) (held new places more : List ℕ) (head : Head)
    (s : IsServing desk role a b held places) (h : Hears b c held new (Ok (arrival.Request head))) where
  -- the connection as it was served by then, over what the desk has seen since
  longer : TakesPlace desk later places more → IsServing later role a b held places
  longer t = grown desk later role a b held places t.enters.goes_on.longer s

  at_more : (P : List ℕ → Type 0) → (t : TakesPlace desk later places more) → P (places ++ t.place ∷ []) → P more
  at_more P t x = subst P (sym t.places_are) x

  unanswered : IsUnanswered desk later role head c d places more → ServesPart later role a d more
  unanswered u = subst (λ e. ServesPart later role a e more) (sym u.kept) (elim u.why [
    | inl t ↦
        at_more (λ ps. ServesPart later role a c ps) t
        (no_reply later role a b c held places (longer t) new head h t.place t.enters.place_is t.some)
    | inr r ↦
        subst (λ ps. ServesPart later role a c ps) (sym r.1)
        (enter_refused later role a b c held places (grown desk later role a b held places r.0.goes_on.longer s) new head h)
  ])

  pub answered : (result : Result (Option End) NoMemory) → AnswersOne desk later role head c d places more result
      → ServesOn later role a d new more result
  answered (Ok None) x =
      let t = x.0.takes in
      at_more (λ ps. IsServing later role a d new ps) t
      (replied later role a b c held places (longer t) new head h t.place t.enters.place_is t.some d x.0.sent x.1)
  answered (Ok (Some end.Closed)) x =
      let t = x.0.takes in
      at_more (λ ps. ServesConn later role a d ps end.Closed) t
      (closed_by_request later role a b c held places (longer t) new head h t.place t.enters.place_is t.some d x.0.sent x.1)
  answered (Ok (Some end.WriteFault)) x =
      let t = x.takes in
      at_more (λ ps. ServesConn later role a d ps end.WriteFault) t
      (cut_in_reply later role a b c held places (longer t) new head h t.place t.enters.place_is t.some d x.cut)
  answered (Ok (Some end.ReadFault)) x = absurd x
  answered (Ok (Some end.NoMemory)) x = absurd x
  answered (Err fault) x = unanswered x

-- served to an end, by what one step came to
pub ended : (desk : DeskView (Catalogue (List ℕ))) (role : Role) (a b : ConnView) (held places : List ℕ) (r : Option End) (e : End)
    → r ≡ Some e → ServesOn desk role a b held places (Ok r) → ServesConn desk role a b places e
ended desk role a b held places r e i s =
    let on : ServesOn desk role a b held places (Ok (Some e)) = subst (λ x. ServesOn desk role a b held places (Ok x)) i s in on

-- ---- memory ran out, and that is told

other_end : (answer : ℕ → Head → Answer) (s t : Transcript) → s.read ≡ t.read → s.written ≡ t.written → s.places ≡ t.places → IsStarved answer s
    → IsStarved answer t
other_end answer s t r w p x = record {
  heads = x.heads;
  places = x.places;
  begun = x.begun;
  begins = rw r at x.begins;
  open_after = x.open_after;
  placed = (x.placed.0, sym p ∙ x.placed.1);
  written = sym w ∙ x.written;
}

pub gave_up : (desk : DeskView (Catalogue (List ℕ))) (role : Role) (a c d : ConnView) (places : List ℕ) → ServesPart desk role a c places → GivesUp c d
    → ServesConn desk role a d places end.NoMemory
gave_up desk role a c d places s (inl p) =
    let q = passes_written a c d s.read s.written (fixed 503) s.passes p in
    record {
      read = s.read;
      written = s.written ++ fixed 503;
      traffic = q.traffic;
      served = λ H st.
          served.out_of_memory (answer_at H role) (length H) s.read d.left (faults_of a) (faults_of d) s.needed s.written (s.written ++ fixed 503) places
          (served.wider (length desk.seen) (length H) places (size desk H st) s.are) (other_end (answer_at H role) _ _ refl refl refl (s.starved H st))
          (inl (refl, q.steady));
    }
gave_up desk role a c d places s (inr p) = record {
  read = s.read;
  written = s.written ++ take p.sent (fixed 503);
  traffic = wrote_on a c d s.read s.written (take p.sent (fixed 503)) s.passes.traffic p.traffic;
  served = λ H st.
      served.out_of_memory (answer_at H role) (length H) s.read d.left (faults_of a) (faults_of d) s.needed s.written
      (s.written ++ take p.sent (fixed 503)) places
      (served.wider (length desk.seen) (length H) places (size desk H st) s.are) (other_end (answer_at H role) _ _ refl refl refl (s.starved H st))
      (inr (p.sent, refl, subst (λ n. WriteFailed n (faults_of d)) s.passes.steady p.cause));
}

-- no count of a connection that was served fell
pub counts_later : (desk : DeskView (Catalogue (List ℕ))) (role : Role) (a b : ConnView) (places : List ℕ) (e : End) → ServesConn desk role a b places e
    → AreLater (faults_of a) (faults_of b)
counts_later desk role a b places e s =
    served.later _ _ _ _ _ e (s.served (history_of desk.seen) (prefix_self (history_of desk.seen)))
