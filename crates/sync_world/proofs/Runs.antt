-- The invariant over every list of steps, and the law.
use Rattle.std.proofs.Common.{inl, inr, ◌≡◌, ℕ, ◌≤◌, Option, None, Some, List, [], ◌∷◌, ◌++◌, length, take, refl, sym, ap, ◌∙◌, subst, arith, length-append}
use Rattle.std.proofs.Common.{length-take}
use Rattle.td_base.specs.declared.report.Ask.{Ask}
use Rattle.td_base.specs.declared.report.Ask.TheVariants as ask
use Rattle.catalogue.specs.Histories.{IsHistory, token_of}
use Rattle.catalogue.specs.Lookups.{named, zone_at, zones_of}
use Rattle.catalogue.specs.Releases.{ContentData, ReleaseData}
use Rattle.catalogue.proofs.lemmas.Growing.{history_grown}
use Rattle.json_forms.specs.declared.zone_list.ListDoc.{ListDoc}
use Rattle.sync_core.specs.Mirrors.{MirrorState, ask_for}
use Rattle.sync_core.specs.declared.heard_type.Heard.{Heard}
use Rattle.sync_core.specs.declared.heard_type.Heard.TheVariants as heard
use Rattle.sync_world.specs.Primaries.{HeardIsTold, FindsPlaces, FindsNoOther, Service, served_for, told_by, list_at, list_told, changes_of, changes_at}
use Rattle.sync_world.specs.Primaries.{IsPlace}
use Rattle.sync_world.specs.Worlds as world
use Rattle.sync_world.specs.Worlds.{SyncWorld, Sent, WorldStep, LeadsTo, Leads, world_after, world_begun, sent_then}
use Rattle.sync_world.proofs.Aliases.{cut}
use Rattle.sync_world.proofs.Changes.{end, ends_distinct}
use Rattle.sync_world.proofs.Files.{zones_are, named_of_zone, history_front}
use Rattle.sync_world.proofs.Looks.{StateData, state_ask, settled, after_changes, after_list, state_after, looked_up, known}
use Rattle.sync_world.proofs.Shown.{IsRisingMirror, shown, rising_after, none_rise}
use Rattle.sync_world.proofs.Standing.{FileStands, TokensStand, Stands, IsFresh, Invariant, fresh, stands, later, grown, own_token}
use Rattle.sync_world.proofs.Steps.{good, some_changes, changes_answer, own_or_none}
use Rattle.sync_world.proofs.Zones.{Distinct}

-- the state by look-ups, with what is outstanding
abbrev pub SentStands : Service → List ReleaseData → StateData → Option Sent → Type 0
SentStands P H s None = Invariant P H (length H) s
SentStands P H s (Some sent) = (sent.ask ≡ state_ask s) × (1 ≤ sent.since) × (sent.since ≤ length H) × Invariant P H sent.since s

pub record WorldStands (P : Service) (sound : ReleaseData → Type 0) (w : SyncWorld) : Type 0 where
  pub history : IsHistory sound w.history
  pub some : 1 ≤ length w.history
  pub state : SentStands P w.history (looked_up w.mirror) w.sent
  pub rises : IsRisingMirror w.mirror

module _ (P : Service) (H : List ReleaseData) (s : StateData) where
  -- the invariant over the whole history, whatever was sent
  at_end_of : (sent : Option Sent) → SentStands P H s sent → Invariant P H (length H) s
  at_end_of None i = i
  at_end_of (Some sent) i = later P H sent.since (length H) s i.2 (omega arith) i.3

  installed : (r : ReleaseData) (sent : Option Sent) → SentStands P H s sent → SentStands P (H ++ r ∷ []) s sent
  installed r None i = later P (H ++ r ∷ []) (length H) (length (H ++ r ∷ [])) s (omega (arith, length-append H (r ∷ []))) (omega arith)
      (grown P H (r ∷ []) (length H) s i)
  installed r (Some sent) i = let up : sent.since ≤ length H = i.2 in (i.0, i.1, omega (arith, length-append H (r ∷ [])), grown P H (r ∷ []) sent.since s i.3)

  refused : (since : ℕ) (token : List ℕ) → ask.List (Some token) ≡ state_ask s → Invariant P H since s → IsFresh (state_after s heard.BadToken)
  refused since token e (fresh f) = record { token = rw (f.pending, f.coming); coming = rw f.pending; pending = f.pending }
  refused since token e (stands m k) = by s.pending refl
    where
      by : (p : List (List ℕ)) → s.pending ≡ p → IsFresh (state_after s heard.BadToken)
      by [] none =
          let tokens : TokensStand H m [] s.token s.coming = subst (λ p. TokensStand H m p s.token s.coming) none k.tokens in
          record { token = rw (none, tokens.1); coming = rw none; pending = none }
      by (t ∷ ts) some =
          let other : ask.List (Some token) ≡ ask.Get t = e ∙ ap (λ p. ask_for p s.token) some in
          absurd (cc)

  module _ (sound : ReleaseData → Type 0) (finds : FindsPlaces sound P) (no_other : FindsNoOther sound P) (h : IsHistory sound H) where
    answered : (n : ℕ) (sent : Sent) (said : Heard) → SentStands P H s (Some sent) → sent.since ≤ n → n ≤ length H → told_by P (take n H) sent.ask ≡ Some said
        → Invariant P H (length H) (state_after s said)
    answered n sent said i from upto e =
        let low : 1 ≤ sent.since = i.1 in
        let g = good P sound finds no_other H sent.since n h (omega arith, upto) from s i.3 in
        let same : Some g.said ≡ Some said = sym g.is ∙ ap (told_by P (take n H)) (sym i.0) ∙ e in
        let one : g.said ≡ said = cc in
        later P H n (length H) (state_after s said) upto (omega arith) (subst (λ x. Invariant P H n (state_after s x)) one g.next)

asked : (P : Service) (H : List ReleaseData) (m : MirrorState) → 1 ≤ length H → (sent : Option Sent) → SentStands P H (looked_up m) sent
    → SentStands P H (looked_up m) (Some (sent_then sent m (length H)))
asked P H m some None i = (refl, some, omega arith, i)
asked P H m some (Some sent) i = i

module _ (P : Service) (sound : ReleaseData → Type 0) (hears : List ReleaseData → Ask → Heard → Type 0) (so : HeardIsTold sound hears P) where
  pub told_so : (H : List ReleaseData) (n : ℕ) (a : Ask) (h : Heard) → IsHistory sound H → 1 ≤ n → n ≤ length H → hears (take n H) a h
      → told_by P (take n H) a ≡ Some h
  told_so H n a h history low upto is = so (take n H) a h (history_front sound H n history) (omega (arith, length-take n H)) is

taken : (P : Service) (sound : ReleaseData → Type 0) (w : SyncWorld) (h : Heard) → WorldStands P sound w
    → Invariant P w.history (length w.history) (state_after (looked_up w.mirror) h) → WorldStands P sound (world_after w h)
taken P sound w h i k = record {
  history = i.history;
  some = i.some;
  state = subst (Invariant P w.history (length w.history)) (sym (shown w.mirror h)) k;
  rises = rising_after w.mirror h i.rises;
}

module _ (P : Service) (sound : ReleaseData → Type 0) (hears : List ReleaseData → Ask → Heard → Type 0) (so : HeardIsTold sound hears P)
    (finds : FindsPlaces sound P) (no_other : FindsNoOther sound P) where
  pub step : (w : SyncWorld) (x : WorldStep) (v : SyncWorld) → WorldStands P sound w → LeadsTo sound hears w x v → WorldStands P sound v
  step w (world.install r) v i is =
      subst (WorldStands P sound) (sym is.1) (record {
        history = history_grown sound w.history r i.history is.0;
        some = omega (arith, length-append w.history (r ∷ []));
        state = installed P w.history (looked_up w.mirror) r w.sent i.state;
        rises = i.rises;
      })
  step w world.asks v i is =
      subst (WorldStands P sound) (sym is)
      (record { history = i.history; some = i.some; state = asked P w.history w.mirror i.some w.sent i.state; rises = i.rises })
  step w (world.answer n) v i is =
      let a = is.2 in
      let sent = subst (SentStands P w.history (looked_up w.mirror)) a.outstanding i.state in
      let low : 1 ≤ (is.0).since = sent.1 in
      let from : (is.0).since ≤ n = a.from in
      let tells_it = told_so P sound hears so w.history n (is.0).ask is.1 i.history (omega arith) a.upto a.is_heard in
      subst (WorldStands P sound) (sym a.is_taken)
      (taken P sound w is.1 i (answered P w.history (looked_up w.mirror) sound finds no_other i.history n is.0 is.1 sent a.from a.upto tells_it))
  step w world.refuse_token v i is =
      let a = is.2 in
      let sent = subst (SentStands P w.history (looked_up w.mirror)) a.outstanding i.state in
      subst (WorldStands P sound) (sym a.is_taken)
      (taken P sound w heard.BadToken i (fresh (refused P w.history (looked_up w.mirror) is.0 is.1 sent.0 sent.3)))
  step w world.lose v i is = subst (WorldStands P sound) (sym is) i
  step w world.restart v i is =
      subst (WorldStands P sound) (sym is)
      (record {
        history = i.history;
        some = i.some;
        state =
            at_end_of P w.history (looked_up w.mirror) w.sent i.state;
        rises = i.rises;
      })
  step w world.restart_empty v i is =
      subst (WorldStands P sound) (sym is)
      (record { history = i.history; some = i.some; state = fresh (record { token = refl; coming = refl; pending = refl }); rises = none_rise })

  steps : (w : SyncWorld) (xs : List WorldStep) (v : SyncWorld) → WorldStands P sound w → Leads sound hears w xs v → WorldStands P sound v
  steps w [] v i is = subst (WorldStands P sound) (sym is) i
  steps w (x ∷ xs) v i is = steps is.0 xs v (step w x is.0 i is.1) is.2

  pub always : (H : List ReleaseData) (xs : List WorldStep) (w : SyncWorld) → IsHistory sound H → 1 ≤ length H → Leads sound hears (world_begun H) xs w
      → WorldStands P sound w
  always H xs w h some is =
      steps (world_begun H) xs w (record {
        history = h;
        some = some;
        state = fresh (record { token = refl; coming = refl; pending = refl });
        rises =
            none_rise;
      }) is

-- the state by look-ups holds the last release
pub record HoldsState (P : Service) (s : StateData) (H : List ReleaseData) : Type 0 where
  pub token : s.token ≡ Some (token_of H (length H))
  pub entries : (t : List ℕ) → s.entries t ≡ known (list_told H) t
  pub files : (t : List ℕ) → s.files t ≡ served_for P t (zone_at (zones_of H) t)
  pub pending : s.pending ≡ []
  pub coming : s.coming ≡ None

-- where nothing is pending after the last answer, the state holds exactly what answered
held_file : (P : Service) (H : List ReleaseData) (n : ℕ) (t : List ℕ) (held : Option (List ℕ)) (o : Option ContentData)
    → ((c : ContentData) → o ≡ Some c → named (zones_of (take n H)) t ≡ Some c) → FileStands P H n n [] t held o → held ≡ served_for P t o
held_file P H n t held None f k = k
held_file P H n t held (Some c) f (inl wrong) = absurd (cc)
held_file P H n t held (Some c) f (inr g) =
    let low : n ≤ g.q = g.from in
    let high : g.q ≤ n = g.upto in
    let same : g.q ≡ n = omega arith in
    g.is ∙ ap (λ q. served_for P t (named (zones_of (take q H)) t)) same ∙ ap (served_for P t) (f c refl)

holds : (P : Service) (sound : ReleaseData → Type 0) (H : List ReleaseData) (n : ℕ) (s : StateData) → IsHistory sound H → IsPlace H n → Stands P H n n s
    → s.pending ≡ [] → HoldsState P s (take n H)
holds P sound H n s h place k none =
    let tokens : TokensStand H n [] s.token s.coming = subst (λ p. TokensStand H n p s.token s.coming) none k.tokens in
    let low : 1 ≤ n = place.0 in
    let high : n ≤ length H = place.1 in
    let own = own_token H n place in
    let c = cut (take n H) n (low, omega (arith, length-take n H)) in
    let g : IsHistory sound (c.A ++ c.x ∷ c.X) = subst (IsHistory sound) c.whole (history_front sound H n h) in
    let zs : zones_of (take n H) ≡ (end c.x c.X).contents = ap zones_of c.whole ∙ zones_are c.A c.x c.X in
    let d : Distinct (zones_of (take n H)) = subst Distinct (sym zs) (ends_distinct sound c.A c.x c.X g) in
    record {
      token = tokens.0 ∙ ap Some (sym own);
      entries = k.entries;
      files = λ t. held_file P H n t (s.files t) (zone_at (zones_of (take n H)) t) (λ z e. named_of_zone (zones_of (take n H)) t z d e)
          (subst (λ p. FileStands P H n n p t (s.files t) (zone_at (zones_of (take n H)) t)) none (k.files t));
      pending = none;
      coming = tokens.1;
    }

quiet : (s : StateData) (token : List ℕ) (doc : ListDoc) → s.token ≡ Some token → doc.zones ≡ [] → s.pending ≡ []
    → (state_after s (heard.List doc)).pending ≡ []
quiet s token doc some empty none =
    subst (λ o. (settled (after_list o s doc)).pending ≡ []) (sym some)
    (subst (λ zs. (settled (after_changes s doc.token zs)).pending ≡ []) (sym empty) none)

module _ (P : Service) (sound : ReleaseData → Type 0) (finds : FindsPlaces sound P) (no_other : FindsNoOther sound P) (H : List ReleaseData) (s : StateData)
    (h : IsHistory sound H) (n since : ℕ) (token : List ℕ) (doc : ListDoc) (from : since ≤ n) (place : IsPlace H n) (empty : doc.zones ≡ [])
    (asked_so : ask.List (Some token) ≡ state_ask s)
    (answer_is : told_by P (take n H) (ask.List (Some token)) ≡ Some (heard.List doc)) where
  pub settled_holds : Invariant P H since s → HoldsState P (state_after s (heard.List doc)) (take n H)
  settled_holds (fresh f) =
      let other : ask.List (Some token) ≡ ask.List None = asked_so ∙ ap (λ p. ask_for p s.token) f.pending ∙ ap ask.List f.token in
      absurd (cc)
  settled_holds (stands m k) = by s.pending refl
    where
      by : (p : List (List ℕ)) → s.pending ≡ p → HoldsState P (state_after s (heard.List doc)) (take n H)
      by (t ∷ ts) e =
          let other : ask.List (Some token) ≡ ask.Get t = asked_so ∙ ap (λ p. ask_for p s.token) e in
          absurd (cc)
      by [] none =
          let ask_is : ask.List (Some token) ≡ ask.List s.token = asked_so ∙ ap (λ p. ask_for p s.token) none in
          let token_is : s.token ≡ Some token = cc in
          let same : Some (changes_at (take n H) (P.place (take n H) (token_of H m))) ≡ Some (heard.List doc) =
          sym (changes_answer P sound finds no_other H m since n h place from s k none) ∙ ap (told_by P (take n H)) (sym asked_so) ∙ answer_is in
          let one : changes_at (take n H) (P.place (take n H) (token_of H m)) ≡ heard.List doc = cc in
          elim (own_or_none P sound finds no_other H m since n h place from s k) [
            | inl found ↦
                let list : list_at (take n H) (changes_of (take n H) m) ≡ heard.List doc = sym (ap (changes_at (take n H)) found) ∙ one in
                let after : Stands P H n n (state_after s (heard.List doc)) =
                subst (λ x. Stands P H n n (state_after s x)) list (some_changes P sound finds no_other H m since n h place from s k none) in
                holds P sound H n (state_after s (heard.List doc)) h place after (quiet s token doc token_is empty none)
            | inr gone ↦
                let bad : heard.BadToken ≡ heard.List doc = sym (ap (changes_at (take n H)) gone) ∙ one in
                absurd (cc)
          ]
