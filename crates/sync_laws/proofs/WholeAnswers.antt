-- No answer of a primary is cut, so each one in a world is taken.
use Rattle.std.proofs.Common.{◌<◌, ◌≤◌, ℕ, List, [], ◌∷◌, length, take, ap, ◌∙◌, subst, arith, length-take}
use Rattle.std.specs.Prelude.{⊤}
use Rattle.std.specs.List.{AllByRecursion}
use Rattle.td_base.specs.declared.report.Ask.{Ask}
use Rattle.td_base.specs.declared.upstream.Exchange.{Exchange}
use Rattle.catalogue.specs.Histories.{IsHistory}
use Rattle.catalogue.specs.Releases.{ReleaseData}
use Rattle.http_request.specs.declared.head.Head.{Head}
use Rattle.negotiate.specs.declared.choosing.Format.{Format}
use Rattle.negotiate.specs.declared.choosing.Format.TheVariants.{Calendar, Tzif}
use Rattle.zone_meaning.specs.Sound.{IsSound}
use Rattle.sync_core.specs.declared.heard_type.Heard.{Heard}
use Rattle.mirror.specs.declared.limits.TheConstants.{MOST_ANSWER}
use Rattle.mirror.specs.declared.understood_type.Understood.{Understood}
use Rattle.sync_world.specs.Hearing.{IsDataHeadOf}
use Rattle.sync_world.specs.Worlds.{Leads, Sent, SyncWorld, WorldStep, world_begun}
use Rattle.mirror_world.specs.Answers.{AreAnswered, IsAnswered, IsDataAnsweredOver, reply_over}
use Rattle.mirror_world.specs.Logs.{Logs}
use Rattle.mirror_world.proofs.lemmas.Histories.{front_history, stays_history}
use Rattle.mirror_world.proofs.lemmas.Worlds.{SentStands, begins, led, stood_on}
use Rattle.calendar_world.specs.Endings.{AreCalendarsAnswered}
use Rattle.sync_laws.specs.WorldAnswers.{AnswersIn}

-- that replies fit
abbrev pub Fit : Format → Type 0
Fit f =
    (G : List ReleaseData) (a : Ask) (head : Head) → IsHistory IsSound G → 1 ≤ length G → IsDataHeadOf f a head → length (reply_over G head) < MOST_ANSWER

-- whatever is heard
abbrev Anything : List ReleaseData → Ask → Heard → Type 0
Anything G a h = ⊤

module _ (f : Format) (fit : Fit f) where
  answer_fits : (G : List ReleaseData) (a : Ask) (x : Exchange) → IsHistory IsSound G → 1 ≤ length G → IsDataAnsweredOver f G a x
      → length x.answer < MOST_ANSWER
  answer_fits G a x history some o =
      let whole = fit G a o.head history some o.is_request.asks_so in
      let size = ap length o.is_answer ∙ length-take x.most (reply_over G o.head) in
      omega (arith, whole, size)

  module _ (means : Ask → List ℕ → Understood → Type 0) (H : List ReleaseData) (steps : List WorldStep) (xs : List Exchange) (w : SyncWorld)
      (history : IsHistory IsSound H) (some : 1 ≤ length H) (logs : Logs IsSound (IsDataAnsweredOver f) means (world_begun H) steps xs w) where
    leads : Leads IsSound Anything (world_begun H) steps w
    leads = led IsSound (IsDataAnsweredOver f) means Anything (λ G a x h over is. tt) (world_begun H) steps xs w logs

    fits_in : (n : ℕ) (sent : Sent) (x : Exchange) → IsAnswered (IsDataAnsweredOver f) w n sent x → length x.answer < MOST_ANSWER
    fits_in n sent x is =
        let stands = stood_on IsSound Anything (length H) (world_begun H) steps w leads (begins H) in
        let least = (subst (SentStands (length H) w.mirror) is.outstanding stands.sent).1 in
        let from : sent.since ≤ n = is.from in
        let upto : n ≤ length w.history = is.upto in
        answer_fits (take n w.history) sent.ask x (front_history w.history n (stays_history Anything (world_begun H) steps w leads history))
        (omega (arith, some, least, from, upto, length-take n w.history)) is.is_over

module _ (fit : Fit Tzif) (means : Ask → List ℕ → Understood → Type 0) (H : List ReleaseData) (steps : List WorldStep) (xs : List Exchange) (w : SyncWorld)
    (history : IsHistory IsSound H) (some : 1 ≤ length H) (logs : Logs IsSound (IsDataAnsweredOver Tzif) means (world_begun H) steps xs w) where
  pub files_whole : (untaken : List Exchange) → AllByRecursion (AnswersIn (IsDataAnsweredOver Tzif) w) untaken → AreAnswered w untaken
  files_whole [] all = tt
  files_whole (x ∷ untaken) all =
      let is = all.0.2 in
      (all.0.0, all.0.1, is, fits_in Tzif fit means H steps xs w history some logs all.0.0 all.0.1 x is, files_whole untaken all.1)

module _ (fit : Fit Calendar) (means : Ask → List ℕ → Understood → Type 0) (H : List ReleaseData) (steps : List WorldStep) (xs : List Exchange)
    (w : SyncWorld) (history : IsHistory IsSound H) (some : 1 ≤ length H)
    (logs : Logs IsSound (IsDataAnsweredOver Calendar) means (world_begun H) steps xs w) where
  pub calendars_whole : (untaken : List Exchange) → AllByRecursion (AnswersIn (IsDataAnsweredOver Calendar) w) untaken → AreCalendarsAnswered w untaken
  calendars_whole [] all = tt
  calendars_whole (x ∷ untaken) all =
      let is = all.0.2 in
      (all.0.0, all.0.1, is, fits_in Calendar fit means H steps xs w history some logs all.0.0 all.0.1 x is, calendars_whole untaken all.1)
