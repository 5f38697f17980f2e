-- How the counts of a load follow from what is served and published.
use Rattle.std.proofs.Common.{◌≡◌, ℕ, ◌+◌, ◌≤◌, List, [], ◌∷◌, ◌++◌, length, drop, max, None, Some, Ok, refl, sym, ap, ◌∙◌, subst, arith, append-nil}
use Rattle.std.proofs.Common.{length-append}
use Rattle.std.specs.List.{AllByRecursion}
use Rattle.std.proofs.Math.Seq.{drop-append_seam}
use mathlib.Core.List.{IsPrefix}
use Rattle.admission.specs.declared.rules.Chosen.{Chosen}
use Rattle.td_base.specs.MemoryDoors.{memory_conn}
use Rattle.td_base.specs.Views.{ConnView, File}
use Rattle.td_base.specs.declared.memory_conn.MemoryConn.{MemoryConn}
use Rattle.td_base.specs.declared.report.End.{End}
use Rattle.td_base.specs.declared.report.End.TheVariants as end
use Rattle.td_base.specs.declared.report.Role.TheVariants as role
use Rattle.td_base.proofs.lemmas.Beginnings.{prefix_length, prefix_whole}
use Rattle.catalogue.specs.Holdings.{history_of}
use Rattle.catalogue.specs.Releases.{ReleaseData}
use Rattle.catalogue.specs.declared.holding.Catalogue.{Catalogue}
use Rattle.catalogue.proofs.lemmas.HistoryLemmas.{history_length}
use Rattle.installer.specs.Installing.{refusal}
use Rattle.publication.specs.Views.{DeskView}
use Rattle.release_manifest.specs.declared.manifest_type.Manifest.{Manifest}
use Rattle.release_check.specs.Before.{before_of}
use Rattle.release_check.specs.Folder.{examined_in}
use Rattle.connection.specs.FaultCounts.{FaultCounts, faults_of, no_faults}
use Rattle.connection.specs.Served.{IsClosed, Transcript}
use Rattle.connection.specs.Serving.{ServedOver, ServesConn, answer_at, session_of}
use Rattle.made_load.specs.Counts.{CountsReply, no_counts, with_release}
use Rattle.made_load.specs.Releases.{HasMadeFiles, made_manifest}
use Rattle.made_load.specs.Requests.{made_requests}
use Rattle.made_load.specs.declared.counts.LoadCounts.{LoadCounts}
use Rattle.http_answer.specs.declared.answer.Answer.{Answer}
use Rattle.http_request.specs.declared.head.Head.{Head}
use Rattle.run_ends.specs.Running.Loading.{AreCounted, IsRequestAnswered, IsFirstHead, Loads, begun, more, next, none}
use Rattle.plain_commands.specs.LoadSteps.{AnswersCounted, ClosesOver, JoinsMade}

-- ---- what a desk sees

-- a desk that holds the catalogue of as many releases as before has seen nothing more
pub saw_no_more : (old new : List (Catalogue (List ℕ))) (before after : ℕ) → IsPrefix old new → before ≡ length (history_of old)
    → after ≡ length (history_of new) → after ≡ before → new ≡ old
saw_no_more old new before after longer is has same =
    sym (prefix_whole old new longer (omega (arith, history_length old, history_length new, is, has, same)))

-- places from a number on, and up to it
all_latest : (n : ℕ) (places : List ℕ) → AllByRecursion (λ p. n ≤ p) places → AllByRecursion (λ p. (1 ≤ p) × (p ≤ n)) places
    → AllByRecursion (λ p. p ≡ n) places
all_latest n [] least within = tt
all_latest n (p ∷ ps) least within = (omega (arith, least.0, within.0), all_latest n ps least.1 within.1)

-- there is one of them
one_place : (n : ℕ) (places : List ℕ) → AllByRecursion (λ p. p ≡ n) places → length places ≡ 1 → places ≡ n ∷ []
one_place n [] all one = absurd (omega (arith, one))
one_place n (p ∷ []) all one = ap (λ q. q ∷ []) all.0
one_place n (p ∷ q ∷ ps) all one = absurd (omega (arith, one))

-- over what the desk had seen, where it has seen nothing more
served_over : (desk : DeskView (Catalogue (List ℕ))) (seen : List (Catalogue (List ℕ))) (before now : ConnView) (places : List ℕ)
    → desk.seen ≡ seen → (h : ServesConn desk role.Primary before now places end.Closed)
    → ServedOver (history_of seen) role.Primary before now (session_of now h.read h.written places) end.Closed
served_over desk seen before now places same h =
    subst (λ (all : List (Catalogue (List ℕ))). ServedOver (history_of all) role.Primary before now (session_of now h.read h.written places) end.Closed) same
    (h.served (history_of desk.seen) ([], append-nil (history_of desk.seen)))

pub closes_over : (desk : DeskView (Catalogue (List ℕ))) (seen : List (Catalogue (List ℕ))) (before now : ConnView) (places : List ℕ) (e : End)
    → e ≡ end.Closed → desk.seen ≡ seen → length places ≡ 1 → AllByRecursion (λ p. length seen ≤ p) places → ServesConn desk role.Primary before now places e
    → ClosesOver (history_of seen) before now
closes_over desk seen before now places e closed same one least h =
    let at_close = subst (λ (x : End). ServesConn desk role.Primary before now places x) closed h in
    let s = served_over desk seen before now places same at_close in
    let last = length (history_of seen) in
    let latest = all_latest last places (subst (λ n. AllByRecursion (λ p. n ≤ p) places) (sym (history_length seen)) least) s.places.within in
    record {
      read = at_close.read;
      written = at_close.written;
      traffic = at_close.traffic;
      closed = subst
          (λ (ps : List ℕ). IsClosed (answer_at (history_of seen) role.Primary) (session_of now at_close.read at_close.written ps) (faults_of before)
          (faults_of now)) (one_place last places latest one) s.ends;
    }

-- ---- one request

-- a close says nothing of the counts of failed calls but that they stay
unfaulted : (answer : ℕ → Head → Answer) (s : Transcript) (before now : FaultCounts) → IsClosed answer s before now → IsClosed answer s no_faults no_faults
unfaulted answer s before now c = record {
  heads = c.heads;
  finish = c.finish;
  finishes = c.finishes;
  placed = c.placed;
  written = c.written;
  steady = refl;
}

-- what a connection took while it was served is the reply
pub answered : (H : List ReleaseData) (request : List ℕ) (before now : MemoryConn) → before.source.left ≡ request
    → ClosesOver H (memory_conn before) (memory_conn now) → IsRequestAnswered H request (drop (length before.sink.taken) now.sink.taken)
answered H request before now is c =
    let reply : drop (length before.sink.taken) now.sink.taken ≡ c.written =
    ap (drop (length before.sink.taken)) c.traffic.taken ∙ drop-append_seam before.sink.taken c.written in
    record {
      read = c.read;
      unread = now.source.left;
      brought = sym is ∙ c.traffic.consumed;
      closed = subst
          (λ (w : List ℕ). IsClosed (answer_at H role.Primary)
          (record { read = c.read; left = Some now.source.left; written = w; places = length H ∷ [] }) no_faults no_faults)
          (sym reply) (unfaulted (answer_at H role.Primary) (session_of (memory_conn now) c.read c.written (length H ∷ [])) _ _ c.closed);
    }

-- so its bytes were counted, where they are what was counted
pub request_counted : (H : List ReleaseData) (request : List ℕ) (before now : MemoryConn) (bytes : List ℕ) (old new : LoadCounts)
    → before.source.left ≡ request → ClosesOver H (memory_conn before) (memory_conn now)
    → bytes ≡ drop (length before.sink.taken) now.sink.taken → CountsReply bytes old new → AnswersCounted H request old new
request_counted H request before now bytes old new is c same counted = record {
  reply = drop (length before.sink.taken) now.sink.taken;
  answered = answered H request before now is c;
  counted = subst (λ (l : List ℕ). CountsReply l old new) same counted;
}

-- ---- requests

-- the first of some, and then the others
pub counted_more : (seen old : List (Catalogue (List ℕ))) (requests request rest : List ℕ) (before now end : LoadCounts) → seen ≡ old
    → IsFirstHead requests request rest → AnswersCounted (history_of seen) request before now → AreCounted (history_of old) rest now end
    → AreCounted (history_of old) requests before end
counted_more seen old requests request rest before now end same first a others =
    let here : AnswersCounted (history_of old) request before now =
    subst (λ (s : List (Catalogue (List ℕ))). AnswersCounted (history_of s) request before now) same a in
    next requests request rest here.reply before now end first here.answered here.counted others

pub counted_all : (H : List ReleaseData) (rest : List ℕ) (now : LoadCounts) → rest ≡ [] → AreCounted H rest now now
counted_all H rest now is = subst (λ (l : List ℕ). AreCounted H l now now) (sym is) (none now)

-- ---- releases

-- a made release was published
pub joins_made : (rules : List Chosen) (old told now : List (Catalogue (List ℕ))) (files : List File) (m : Manifest) (r : ℕ) → told ≡ now → r ≡ length old + 1
    → m ≡ made_manifest r → HasMadeFiles r files
    → (release : ReleaseData) × (examined_in files [] (before_of (history_of old)) m ≡ Ok release)
    × (refusal rules (history_of old) release ≡ None) × (history_of told ≡ history_of old ++ release ∷ [])
    → JoinsMade old now
joins_made rules old told now files m r same number_is is has joined =
    let number : r ≡ length (history_of old) + 1 = number_is ∙ ap (λ n. n + 1) (sym (history_length old)) in
    record {
      release = joined.0;
      made = record {
        files = files;
        has = subst (λ n. HasMadeFiles n files) number has;
        gives = subst (λ (k : Manifest). examined_in files [] (before_of (history_of old)) k ≡ Ok joined.0) (is ∙ ap made_manifest number) joined.1;
      };
      now_is = ap history_of (sym same) ∙ joined.3;
    }

-- and so there is one more
pub joins_longer : (old now : List (Catalogue (List ℕ))) → JoinsMade old now → length now ≡ length old + 1
joins_longer old now joins =
    let same : length (history_of now) ≡ length (history_of old ++ joins.release ∷ []) = ap length joins.now_is in
    omega (arith, same, length-append (history_of old) (joins.release ∷ []), history_length old, history_length now)

-- a desk that had seen all has seen all again, once it has learnt what was published
pub learnt_all : (seen new old told now : List (Catalogue (List ℕ))) → IsPrefix told new → length new ≡ max (length seen) (length told) → seen ≡ old
    → IsPrefix old told → told ≡ now → new ≡ now
learnt_all seen new old told now begins larger same longer is =
    let fewer : length seen ≤ length told = subst (λ (l : List (Catalogue (List ℕ))). length l ≤ length told) (sym same) (prefix_length old told longer) in
    sym (prefix_whole told new begins (omega (arith, larger, fewer))) ∙ is

-- the requests of a release that has joined were counted
pub loads_more : (seen old now : List (Catalogue (List ℕ))) (before counts : LoadCounts) → seen ≡ now → Loads (history_of old) before → JoinsMade old now
    → AreCounted (history_of seen) (made_requests (history_of seen)) (with_release before) counts → Loads (history_of now) counts
loads_more seen old now before counts same loads joins counted =
    subst (λ (H : List ReleaseData). Loads H counts) (sym joins.now_is)
    (more (history_of old) joins.release before counts loads joins.made
    (subst (λ (H : List ReleaseData). AreCounted H (made_requests H) (with_release before) counts) (ap history_of same ∙ joins.now_is) counted))

-- those of the first
pub loads_first : (seen now : List (Catalogue (List ℕ))) (before counts : LoadCounts) → seen ≡ now → before ≡ no_counts → JoinsMade [] now
    → AreCounted (history_of seen) (made_requests (history_of seen)) (with_release before) counts → Loads (history_of now) counts
loads_first seen now before counts same is joins counted =
    loads_more seen [] now no_counts counts same begun joins
    (subst (λ (c : LoadCounts). AreCounted (history_of seen) (made_requests (history_of seen)) (with_release c) counts) is counted)
