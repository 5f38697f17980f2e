-- Asks and answers lead a mirror on to where it says that it holds what the primary has.
use Rattle.std.proofs.Common.{inl, inr, ◌⊎◌, ◌≡◌, ℕ, ◌+◌, ◌≤◌, true, false, Option, None, Some, List, [], ◌∷◌, ◌++◌, length, take, refl, sym, ap, ◌∙◌}
use Rattle.std.proofs.Common.{subst, arith, nat_lt, length-append, option_map}
use Rattle.std.specs.List.{AllByRecursion, list_all}
use Rattle.std.proofs.lemmas.Bool.{le-ltb}
use Rattle.std.proofs.lemmas.List.{take_all}
use Rattle.td_base.specs.declared.report.Ask.{Ask}
use Rattle.td_base.specs.declared.report.Ask.TheVariants as ask
use Rattle.catalogue.specs.Histories.{IsHistory, has_content, last_change, token_of}
use Rattle.catalogue.specs.Lookups.{named, zones_of}
use Rattle.catalogue.specs.Releases.{ContentData, ReleaseData}
use Rattle.json_forms.specs.declared.zone_list.ListZone.{ListZone}
use Rattle.sync_core.specs.Mirrors.{MirrorState, ask_for, ask_of}
use Rattle.sync_core.specs.Steps.{list_settles, settles, sync_step}
use Rattle.sync_core.specs.declared.heard_type.Heard.{Heard}
use Rattle.sync_core.specs.declared.heard_type.Heard.TheVariants as heard
use Rattle.sync_core.specs.declared.heard_type.Settled.TheVariants.{Holds}
use Rattle.sync_world.specs.Primaries.{HeardIsTold, FindsPlaces, FindsNoOther, IsPlace, Service, changes_at, changes_of, file_told, list_at, list_told}
use Rattle.sync_world.specs.Primaries.{served_for, told_by}
use Rattle.sync_world.specs.Reaching.{ComesToHold, IsExchange, ToldIsHeard}
use Rattle.sync_world.specs.Worlds as world
use Rattle.sync_world.specs.Worlds.{IsAnswer, Leads, Sent, SyncWorld, WorldStep, world_begun}
use Rattle.sync_world.proofs.Aliases.{cut}
use Rattle.sync_world.proofs.Changes.{at_change, changes_are, end, stays}
use Rattle.sync_world.proofs.Looks.{StateData, looked_up, pending_of, settled, after_file, after_list, state_after, token_then}
use Rattle.sync_world.proofs.Runs.{SentStands, WorldStands, always, step}
use Rattle.sync_world.proofs.Shown.{shown}
use Rattle.sync_world.proofs.Standing.{Invariant, TokensStand, fresh, stands}
use Rattle.sync_world.proofs.Standing.{settles as tokens_settle}
use Rattle.sync_world.proofs.Steps.{good}
use Rattle.sync_world.proofs.Zones.{among, changed_by, more_there, same_itself}

-- ---- nothing changed after the last place

more_among : (d : ContentData) (cs xs : List ContentData) → AllByRecursion (λ c. among c cs ≡ true) xs → AllByRecursion (λ c. among c (d ∷ cs) ≡ true) xs
more_among d cs [] all = tt
more_among d cs (x ∷ xs) all = (more_there x d cs all.0, more_among d cs xs all.1)

each_among : (cs : List ContentData) → AllByRecursion (λ c. among c cs ≡ true) cs
each_among [] = tt
each_among (c ∷ cs) = (rw (same_itself c), more_among c cs cs (each_among cs))

quiet_part : (f : ContentData → ReleaseData) (g : ContentData → ℕ) (n : ℕ) (cs : List ContentData) → AllByRecursion (λ c. nat_lt n (g c) ≡ false) cs
    → changed_by f g n cs ≡ []
quiet_part f g n [] all = refl
quiet_part f g n (c ∷ cs) all = rw all.0 (quiet_part f g n cs all.1)

module _ (A : List ReleaseData) (x : ReleaseData) where
  each_quiet : (xs : List ContentData) → AllByRecursion (λ c. among c x.contents ≡ true) xs
      → AllByRecursion (λ c. nat_lt (length A + 1) (last_change (A ++ x ∷ []) c) ≡ false) xs
  each_quiet [] all = tt
  each_quiet (c ∷ cs) all =
      let has : list_all (has_content c) (x ∷ []) ≡ true = rw all.0 in
      (le-ltb _ _ (stays A x [] c has).before, each_quiet cs all.1)

  none_after : changes_of (A ++ x ∷ []) (length A + 1) ≡ []
  none_after =
      changes_are A x [] (length A + 1)
      ∙ quiet_part (at_change (A ++ x ∷ []) (end x [])) (last_change (A ++ x ∷ [])) (length A + 1) x.contents (each_quiet x.contents (each_among x.contents))

none_changed : (H : List ReleaseData) → 1 ≤ length H → changes_of H (length H) ≡ []
none_changed H some = let c = cut H (length H) (some, omega arith) in by c.A c.x c.X c.whole c.place
  where
    by : (A : List ReleaseData) (x : ReleaseData) (X : List ReleaseData) → H ≡ A ++ x ∷ X → length H ≡ length A + 1 → changes_of H (length H) ≡ []
    by A x [] whole place = ap (changes_of H) place ∙ ap (λ G. changes_of G (length A + 1)) whole ∙ none_after A x
    by A x (y ∷ Y) whole place = absurd (omega (arith, ap length whole, length-append A (x ∷ y ∷ Y), place))

-- ---- one exchange after another

-- a world in which nothing is outstanding, and one in which the mirror has just asked
abbrev still : List ReleaseData → MirrorState → SyncWorld
still H m = record { history = H; mirror = m; sent = None }

abbrev sent_of : List ReleaseData → MirrorState → Sent
sent_of H m = record { ask = ask_of m; since = length H }

abbrev asking : List ReleaseData → MirrorState → SyncWorld
asking H m = record { history = H; mirror = m; sent = Some (sent_of H m) }

-- what is known of the tokens and of what is pending
abbrev Tokens : List ReleaseData → ℕ → StateData → Type 0
Tokens H k s = TokensStand H k s.pending s.token s.coming

module _ (P : Service) (sound : ReleaseData → Type 0) (hears : List ReleaseData → Ask → Heard → Type 0) (so : HeardIsTold sound hears P)
    (finds : FindsPlaces sound P) (no_other : FindsNoOther sound P) (told : ToldIsHeard sound hears P) (kept : 1 ≤ P.kept)
    (H : List ReleaseData) (history : IsHistory sound H) (some : 1 ≤ length H) where
  record Reaches (m : MirrorState) : Type 0 where
    more : List WorldStep
    exchanges : AllByRecursion IsExchange more
    last : MirrorState
    leads : Leads sound hears (still H m) more (asking H last)
    said : Heard
    is_told : told_by P H (ask_of last) ≡ Some said
    holds : settles last said ≡ Holds

  answered : (m : MirrorState) (h : Heard) → told_by P H (ask_of m) ≡ Some h
      → IsAnswer hears (asking H m) (length H) (still H (sync_step m h)) (sent_of H m) h
  answered m h e = record {
    outstanding = refl;
    from = omega arith;
    upto = omega arith;
    is_heard = subst (λ G. hears G (ask_of m) h) (sym (take_all (length H) H (omega arith))) (told H (ask_of m) h history some e);
    is_taken = refl;
  }

  at_once : (m : MirrorState) (h : Heard) → told_by P H (ask_of m) ≡ Some h → settles m h ≡ Holds → Reaches m
  at_once m h e holds = record {
    more = world.asks ∷ [];
    exchanges = (tt, tt);
    last = m;
    leads = (asking H m, refl, refl);
    said = h;
    is_told = e;
    holds = holds;
  }

  later : (m : MirrorState) (h : Heard) → told_by P H (ask_of m) ≡ Some h → Reaches (sync_step m h) → Reaches m
  later m h e r = record {
    more = world.asks ∷ world.answer (length H) ∷ r.more;
    exchanges = (tt, (tt, r.exchanges));
    last = r.last;
    leads = (asking H m, refl, (still H (sync_step m h), (sent_of H m, h, answered m h e), r.leads));
    said = r.said;
    is_told = r.is_told;
    holds = r.holds;
  }

  abbrev Stand : MirrorState → Type 0
  Stand m = WorldStands P sound (still H m)

  next : (m : MirrorState) (h : Heard) → Stand m → told_by P H (ask_of m) ≡ Some h → Stand (sync_step m h)
  next m h i e =
      step P sound hears so finds no_other (asking H m) (world.answer (length H)) (still H (sync_step m h))
      (step P sound hears so finds no_other (still H m) world.asks (asking H m) i refl) (sent_of H m, h, answered m h e)

  -- a mirror with the token of the last place holds at once
  held : (m : MirrorState) → m.pending ≡ [] → m.token ≡ Some (token_of H (length H)) → Reaches m
  held m none token =
      let whole : take (length H) H ≡ H = take_all (length H) H (omega arith) in
      let found : P.place H (token_of H (length H)) ≡ Some (length H) =
      subst (λ G. P.place G (token_of H (length H)) ≡ Some (length H)) whole
      (finds H (length H) (length H) history (some, omega arith) (omega arith) (omega arith) (omega arith)) in
      let asks : ask_of m ≡ ask.List (Some (token_of H (length H))) = ap (λ p. ask_for p m.token) none ∙ ap ask.List token in
      let is : told_by P H (ask_of m) ≡ Some (list_at H []) =
      ap (told_by P H) asks ∙ ap (λ o. Some (changes_at H o)) found ∙ ap (λ zones. Some (list_at H zones)) (none_changed H some) in
      at_once m (list_at H []) is (ap (λ o. list_settles o []) token)

  -- after a list with the token of the last place
  tokens_listed : (m : MirrorState) (h : Heard) → Tokens H (length H) (state_after (looked_up m) h) → Tokens H (length H) (looked_up (sync_step m h))
  tokens_listed m h t = subst (Tokens H (length H)) (sym (shown m h)) t

  -- files are got until none is pending
  gets : (k : ℕ) → ((m : MirrorState) → Stand m → m.pending ≡ [] → TokensStand H k [] m.token m.coming → Reaches m)
      → (ps : List (List ℕ)) (m : MirrorState) → Stand m → m.pending ≡ ps → TokensStand H k ps m.token m.coming → Reaches m
  gets k then [] m i e t = then m i e t
  gets k then (p ∷ ps) m i e t =
      let n = length H in
      let whole : take n H ≡ H = take_all n H (omega arith) in
      let g = good P sound finds no_other H n n history (some, omega arith) (omega arith) (looked_up m) i.state in
      let is : told_by P H (ask_of m) ≡ Some g.said = ap (λ G. told_by P G (ask_of m)) (sym whole) ∙ g.is in
      by (gets k then ps) (named (zones_of H) p) g.said is (sym (ap (λ q. told_by P H (ask_for q m.token)) e) ∙ is)
    where
      file : ((u : MirrorState) → Stand u → u.pending ≡ ps → TokensStand H k ps u.token u.coming → Reaches u)
          → (said : Heard) (b : List ℕ) → said ≡ heard.Zone b → told_by P H (ask_of m) ≡ Some said → Reaches m
      file again said b one is =
          let file_is : told_by P H (ask_of m) ≡ Some (heard.Zone b) = is ∙ ap Some one in
          let after : looked_up (sync_step m (heard.Zone b)) ≡ settled (after_file (p ∷ ps) (looked_up m) b) =
          shown m (heard.Zone b) ∙ ap (λ q. settled (after_file q (looked_up m) b)) e in
          let tokens : Tokens H k (settled (after_file (p ∷ ps) (looked_up m) b)) = rw t (tokens_settle H k ps m.token) in
          let pending : (sync_step m (heard.Zone b)).pending ≡ ps = ap (λ (s : StateData). s.pending) after in
          later m (heard.Zone b) file_is
          (again (sync_step m (heard.Zone b)) (next m (heard.Zone b) i file_is) pending
          (subst (λ q. TokensStand H k q (sync_step m (heard.Zone b)).token (sync_step m (heard.Zone b)).coming) pending
          (subst (Tokens H k) (sym after) tokens)))

      by : ((u : MirrorState) → Stand u → u.pending ≡ ps → TokensStand H k ps u.token u.coming → Reaches u)
          → (o : Option ContentData) (said : Heard) → told_by P H (ask_of m) ≡ Some said → option_map file_told (served_for P p o) ≡ Some said
          → Reaches m
      by again None said is told_so = absurd (cc)
      by again (Some c) said is told_so = let one : heard.Zone (P.served p c) ≡ said = cc in file again said (P.served p c) (sym one) is

  -- from a list with the token of the last place on
  last_place : (m : MirrorState) → Stand m → Tokens H (length H) (looked_up m) → Reaches m
  last_place m i t = gets (length H) (λ u j none tokens. held u none tokens.0) m.pending m i refl t

  -- a mirror without a token asks for the whole list
  anew : (m : MirrorState) → Stand m → m.pending ≡ [] → m.token ≡ None → Reaches m
  anew m i none token =
      let list = list_at H (list_told H) in
      let is : told_by P H (ask_of m) ≡ Some list = ap (λ p. told_by P H (ask_for p m.token)) none ∙ ap (λ o. told_by P H (ask.List o)) token in
      let tokens : Tokens H (length H) (state_after (looked_up m) list) =
      subst (λ o. Tokens H (length H) (settled (after_list o (looked_up m) (record { token = token_of H (length H); zones = list_told H })))) (sym token)
      (tokens_settle H (length H) (pending_of (list_told H)) m.token) in
      later m list is (last_place (sync_step m list) (next m list i is) (tokens_listed m list tokens))

  -- and one with the token of a place for the changes since
  since : (k : ℕ) (m : MirrorState) → IsPlace H k → Stand m → m.pending ≡ [] → TokensStand H k [] m.token m.coming → Reaches m
  since k m place i none t =
      by (subst (λ G. (P.place G (token_of H k) ≡ Some k) ⊎ (P.place G (token_of H k) ≡ None)) (take_all (length H) H (omega arith))
      (no_other H k (length H) history place place.1 (omega arith)))
    where
      is : (o : Option ℕ) → P.place H (token_of H k) ≡ o → told_by P H (ask_of m) ≡ Some (changes_at H o)
      is o e =
          ap (λ p. told_by P H (ask_for p m.token)) none ∙ ap (λ q. told_by P H (ask.List q)) t.0 ∙ ap (λ o. Some (changes_at H o)) e

      changed : (zones : List ListZone) → told_by P H (ask_of m) ≡ Some (list_at H zones) → Reaches m
      changed [] e = at_once m (list_at H []) e (ap (λ o. list_settles o []) t.0)
      changed (z ∷ zs) e =
          let list = list_at H (z ∷ zs) in
          let tokens : Tokens H (length H) (state_after (looked_up m) list) =
          subst (λ o. Tokens H (length H) (settled (after_list o (looked_up m) (record { token = token_of H (length H); zones = z ∷ zs })))) (sym t.0)
          (tokens_settle H (length H) (pending_of (z ∷ zs)) m.token) in
          later m list e (last_place (sync_step m list) (next m list i e) (tokens_listed m list tokens))

      by : (P.place H (token_of H k) ≡ Some k) ⊎ (P.place H (token_of H k) ≡ None) → Reaches m
      by (inl found) = changed (changes_of H k) (is (Some k) found)
      by (inr gone) =
          let bad : told_by P H (ask_of m) ≡ Some heard.BadToken = is None gone in
          let after : looked_up (sync_step m heard.BadToken) ≡ state_after (looked_up m) heard.BadToken = shown m heard.BadToken in
          let pending : (sync_step m heard.BadToken).pending ≡ [] = ap (λ (s : StateData). s.pending) after ∙ none in
          let token : (sync_step m heard.BadToken).token ≡ None =
          ap (λ (s : StateData). s.token) after ∙ ap (λ p. token_then p m.coming None) none ∙ ap (λ o. token_then [] o None) t.1 in
          later m heard.BadToken bad (anew (sync_step m heard.BadToken) (next m heard.BadToken i bad) pending token)

  from_still : (m : MirrorState) → Stand m → Reaches m
  from_still m i = by i.state
    where
      by : Invariant P H (length H) (looked_up m) → Reaches m
      by (fresh f) = anew m i f.pending f.token
      by (stands k known) =
          let within : k ≤ length H = known.within in
          gets k (λ u j none tokens. since k u (known.low, within) j none tokens) m.pending m i refl known.tokens

  pub reached : (m : MirrorState) → WorldStands P sound (still H m) → ComesToHold sound hears (still H m)
  reached m i =
      let r = from_still m i in
      record {
        steps = r.more;
        exchanges = r.exchanges;
        before = asking H r.last;
        leads = r.leads;
        after = still H (sync_step r.last r.said);
        sent = sent_of H r.last;
        heard = r.said;
        answer = answered r.last r.said r.is_told;
        holds = r.holds;
      }

module _ (P : Service) (sound : ReleaseData → Type 0) (hears : List ReleaseData → Ask → Heard → Type 0) (so : HeardIsTold sound hears P)
    (finds : FindsPlaces sound P) (no_other : FindsNoOther sound P) (told : ToldIsHeard sound hears P) (kept : 1 ≤ P.kept) where
  -- from any world, where what is outstanding is answered first
  comes_to_hold : (w : SyncWorld) → WorldStands P sound w → ComesToHold sound hears w
  comes_to_hold w i = by w.sent refl
    where
      by : (o : Option Sent) → w.sent ≡ o → ComesToHold sound hears w
      by None e =
          let same : still w.history w.mirror ≡ w = ap (λ o. record { history = w.history; mirror = w.mirror; sent = o }) (sym e) in
          subst (ComesToHold sound hears) same
          (reached P sound hears so finds no_other told kept w.history i.history i.some w.mirror (subst (WorldStands P sound) (sym same) i))
      by (Some sent) e =
          let k = subst (SentStands P w.history (looked_up w.mirror)) e i.state in
          let upto : sent.since ≤ length w.history = k.2 in
          let whole : take (length w.history) w.history ≡ w.history = take_all (length w.history) w.history (omega arith) in
          let some : 1 ≤ length w.history = i.some in
          let g = good P sound finds no_other w.history sent.since (length w.history) i.history (some, omega arith) upto (looked_up w.mirror) k.3 in
          let is : told_by P w.history sent.ask ≡ Some g.said =
          ap (λ G. told_by P G sent.ask) (sym whole) ∙ ap (told_by P (take (length w.history) w.history)) k.0 ∙ g.is in
          let a : IsAnswer hears w (length w.history) (still w.history (sync_step w.mirror g.said)) sent g.said =
          record {
            outstanding = e;
            from = upto;
            upto = omega arith;
            is_heard = subst (λ G. hears G sent.ask g.said) (sym whole) (told w.history sent.ask g.said i.history i.some is);
            is_taken = refl;
          } in
          let v = still w.history (sync_step w.mirror g.said) in
          let j : WorldStands P sound v = step P sound hears so finds no_other w (world.answer (length w.history)) v i (sent, g.said, a) in
          let c = reached P sound hears so finds no_other told kept w.history i.history i.some (sync_step w.mirror g.said) j in
          record {
            steps = world.answer (length w.history) ∷ c.steps;
            exchanges = (tt, c.exchanges);
            before = c.before;
            leads = (v, (sent, g.said, a), c.leads);
            after = c.after;
            sent = c.sent;
            heard = c.heard;
            answer = c.answer;
            holds = c.holds;
          }

  pub holding_comes : (H : List ReleaseData) (xs : List WorldStep) (w : SyncWorld) → IsHistory sound H → 1 ≤ length H → Leads sound hears (world_begun H) xs w
      → ComesToHold sound hears w
  holding_comes H xs w h some leads = comes_to_hold w (always P sound hears so finds no_other H xs w h some leads)
