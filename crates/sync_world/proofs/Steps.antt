-- One answer keeps the invariant.
use Rattle.std.proofs.Common.{inl, inr, ◌⊎◌, ◌≡◌, ℕ, ◌+◌, ◌-◌, ◌≤◌, Bool, true, false, cond, ◌||◌, Option, None, Some, List, [], ◌∷◌, ◌++◌, length, take, refl}
use Rattle.std.proofs.Common.{sym, ap, ◌∙◌, subst, arith, length-take}
use Rattle.std.specs.Prelude.{option_map, is_some}
use Rattle.std.specs.List.{AllByRecursion}
use Rattle.std.specs.Str.{bytes_eq}
use Rattle.std.proofs.lemmas.List.{take-take}
use Rattle.catalogue.specs.Releases.{ContentData, ReleaseData, names_of}
use Rattle.catalogue.specs.Histories.{IsHistory, last_change, token_of}
use Rattle.sync_world.proofs.Looks.{StateData, state_ask, known, unless, joined, kept, with_file, pending_of, settled, after_changes, after_list, after_file}
use Rattle.sync_world.proofs.Looks.{state_after}
use Rattle.json_forms.specs.declared.zone_list.ListZone.{ListZone}
use Rattle.sync_core.specs.Mirrors.{ask_for, entry_name}
use Rattle.sync_core.specs.declared.heard_type.Heard.TheVariants as heard
use Rattle.sync_core.specs.Steps.{is_alias}
use Rattle.std.specs.Option.{option_or}
use Rattle.sync_world.specs.Primaries.{FindsPlaces, FindsNoOther, file_told, told_by, changes_at, list_at, list_told, changes_of, Service, served_for, IsPlace}
use Rattle.catalogue.specs.Lookups.{named, zone_at, zones_of}
use Rattle.sync_core.proofs.lemmas.Puts.{Rising, bytes_same}
use Rattle.sync_world.proofs.Zones.{has_text, Role, a_zone, an_alias, no_name, IsZone, role, known_none}
use Rattle.sync_world.proofs.Changes.{end, ends_distinct, still_named, at_change, changes_are}
use Rattle.sync_world.proofs.Aliases.{zone_named, stays_at, cut, joined_at}
use Rattle.sync_world.proofs.Files.{zones_are, history_front, take_past, news, news_rises, known_put, alias_goes, none_before, IsKept, zone_kept, steady}
use Rattle.sync_world.proofs.Files.{known_pending, each_pending}
use Rattle.sync_world.proofs.Standing.{IsGot, FileStands, TokensStand, Stands, IsFresh, Invariant, fresh, stands, IsGood, settles, own_token, whole_list}

none_unless : {X : Type 0} (b : Bool) → unless {X = X} b None ≡ None
none_unless true = refl
none_unless false = refl

none_of : {X : Type 0} (o : Option X) → o ≡ None → (b : Bool) → unless b o ≡ None
none_of o e b = ap (unless b) e ∙ none_unless b

-- the files after a list of changes, at a history cut at the place that the mirror has
module _ (P : Service) (sound : ReleaseData → Type 0) (H : List ReleaseData) (m l n : ℕ) (A : List ReleaseData) (x : ReleaseData) (X : List ReleaseData)
    (h : IsHistory sound (A ++ x ∷ X)) (whole : take n H ≡ A ++ x ∷ X) (place : m ≡ length A + 1) (le : l ≤ n) where
  at_place : (q : ℕ) → m ≤ q → q ≤ n → take q H ≡ A ++ x ∷ take (q - m) X
  at_place q low high =
      let e : q ≡ length A + 1 + (q - m) = omega arith in
      sym (take-take q n H high) ∙ ap (take q) whole ∙ ap (λ k. take k (A ++ x ∷ X)) e ∙ take_past A x X (q - m)

  got_now : (t : List ℕ) (c : ContentData) (held : Option (List ℕ)) → IsZone (end x X).contents t c → IsKept sound A x X h t c → IsGot P H m l t held
      → IsGot P H n n t held
  got_now t c held is k g =
      let up : g.q ≤ l = g.upto in
      let there : named (zones_of (A ++ x ∷ take (g.q - m) X)) t ≡ Some c =
      subst (λ u. named (zones_of (A ++ x ∷ take (g.q - m) X)) u ≡ Some c) (sym is.is) (steady sound A x X h (g.q - m) c k.all) in
      let old : named (zones_of (take g.q H)) t ≡ Some c = ap (λ F. named (zones_of F) t) (at_place g.q g.from (omega arith)) ∙ there in
      let now : named (zones_of (take n H)) t ≡ Some c = ap (λ F. named (zones_of F) t) whole ∙ ap (λ cs. named cs t) (zones_are A x X) ∙ is.named in
      record { q = n; from = omega arith; upto = omega arith; is = g.is ∙ ap (served_for P t) (old ∙ sym now) }

  file_after : (t : List ℕ) (held : Option (List ℕ)) → FileStands P H m l [] t held (zone_at x.contents t) → Role (end x X).contents t
      → FileStands P H n n (pending_of (news sound A x X h)) t (unless (is_alias (news sound A x X h) t) held) (zone_at (end x X).contents t)
  file_after t held old (a_zone c is) = rw is.at (by (zone_kept sound A x X h t c is))
    where
      before : IsKept sound A x X h t c → FileStands P H m l [] t held (Some c)
      before k = subst (FileStands P H m l [] t held) (subst (λ u. zone_at x.contents u ≡ Some c) (sym is.is) (stays_at sound A x X h c k.all)) old

      got : IsKept sound A x X h t c → FileStands P H m l [] t held (Some c) → (has_text (pending_of (news sound A x X h)) t ≡ true) ⊎ IsGot P H n n t held
      got k (inl wrong) = absurd (cc)
      got k (inr g) = inr (got_now t c held is k g)

      by : (is_some (known (news sound A x X h) t) ≡ true) ⊎ IsKept sound A x X h t c
          → (has_text (pending_of (news sound A x X h)) t ≡ true) ⊎ IsGot P H n n t (unless (is_alias (news sound A x X h) t) held)
      by (inl k) = inl (known_pending (news sound A x X h) t (news_rises sound A x X h) k)
      by (inr k) = rw k.not_alias (got k (before k))
  file_after t held old (an_alias c is) = rw is.at (by (alias_goes sound A x X h t c is))
    where
      by : (is_alias (news sound A x X h) t ≡ true) ⊎ (zone_at x.contents t ≡ None) → unless (is_alias (news sound A x X h) t) held ≡ None
      by (inl a) = rw a
      by (inr none) = none_of held (subst (FileStands P H m l [] t held) none old) (is_alias (news sound A x X h) t)
  file_after t held old (no_name is) =
      let gone : held ≡ None = subst (FileStands P H m l [] t held) (none_before sound A x X h t is) old in
      rw is.at (none_of held gone (is_alias (news sound A x X h) t))

some_known : (sound : ReleaseData → Type 0) (A : List ReleaseData) (x : ReleaseData) (X : List ReleaseData) (h : IsHistory sound (A ++ x ∷ X)) (t : List ℕ)
    → is_some (known (news sound A x X h) t) ≡ true → is_some (zone_at (end x X).contents t) ≡ true
some_known sound A x X h t k = by (zone_at (end x X).contents t) refl
  where
    by : (o : Option ContentData) → zone_at (end x X).contents t ≡ o → is_some (zone_at (end x X).contents t) ≡ true
    by None e =
        let none : known (news sound A x X h) t ≡ None =
        known_none (at_change (A ++ x ∷ X) (end x X)) (last_change (A ++ x ∷ X)) (length A + 1) (end x X).contents t e in
        absurd (cc)
    by (Some c) e = rw e

-- what stands of entries, files and pending names after a list of changes Z
record AfterChanges (P : Service) (H : List ReleaseData) (n : ℕ) (s : StateData) (Z : List ListZone) : Type 0 where
  entries : (t : List ℕ) → joined s.entries Z t ≡ known (list_told (take n H)) t
  files : (t : List ℕ) → FileStands P H n n (pending_of Z) t (kept s.files Z t) (zone_at (zones_of (take n H)) t)
  pending : AllByRecursion (λ t. is_some (zone_at (zones_of (take n H)) t) ≡ true) (pending_of Z)
  rises : Rising entry_name Z

after_cut : (P : Service) (sound : ReleaseData → Type 0) (H : List ReleaseData) (m l n : ℕ) (A : List ReleaseData) (x : ReleaseData)
    (X T G : List ReleaseData) (s : StateData)
    → (h : IsHistory sound (A ++ x ∷ X)) → take n H ≡ A ++ x ∷ X → G ≡ A ++ x ∷ X → T ≡ A ++ x ∷ [] → m ≡ length A + 1 → l ≤ n
    → ((t : List ℕ) → FileStands P H m l [] t (s.files t) (zone_at (zones_of T) t))
    → ((t : List ℕ) → FileStands P H n n (pending_of (changes_of G m)) t (kept s.files (changes_of G m) t) (zone_at (zones_of G) t))
    × AllByRecursion (λ t. is_some (zone_at (zones_of G) t) ≡ true) (pending_of (changes_of G m)) × Rising entry_name (changes_of G m)
after_cut P sound H m l n A x X T G s h whole same front place le old =
    let Z : changes_of G m ≡ news sound A x X h = ap (λ F. changes_of F m) same ∙ ap (changes_of (A ++ x ∷ X)) place ∙ changes_are A x X (length A + 1) in
    let zs : zones_of G ≡ (end x X).contents = ap zones_of same ∙ zones_are A x X in
    let os : zones_of T ≡ x.contents = ap zones_of front ∙ zones_are A x [] in (
      λ t.
          let k : FileStands P H m l [] t (s.files t) (zone_at x.contents t) = subst (λ cs. FileStands P H m l [] t (s.files t) (zone_at cs t)) os (old t) in
          let f = file_after P sound H m l n A x X h whole place le t (s.files t) k (role (end x X).contents t (ends_distinct sound A x X h)) in
          rw (Z, zs) f,
      rw (Z, zs) (each_pending (news sound A x X h) (λ t. is_some (zone_at (end x X).contents t) ≡ true) (news_rises sound A x X h) (some_known sound A x X h)),
      rw Z (news_rises sound A x X h),
    )

module _ (P : Service) (sound : ReleaseData → Type 0) (finds : FindsPlaces sound P) (no_other : FindsNoOther sound P) (H : List ReleaseData) (m l n : ℕ)
    (h : IsHistory sound H) (place : IsPlace H n) (le : l ≤ n) (s : StateData) (k : Stands P H m l s) where
  in_front : IsPlace (take n H) m
  in_front =
      let low : 1 ≤ m = k.low in
      let w : m ≤ l = k.within in
      let up : n ≤ length H = place.1 in
      (low, omega (arith, length-take n H))

  front_same : take m (take n H) ≡ take m H
  front_same = let w : m ≤ l = k.within in take-take m n H (omega arith)

  after_them : s.pending ≡ [] → AfterChanges P H n s (changes_of (take n H) m)
  after_them none =
      let c = cut (take n H) m in_front in
      let g : IsHistory sound (take n H) = history_front sound H n h in
      let old : (t : List ℕ) → FileStands P H m l [] t (s.files t) (zone_at (zones_of (take m H)) t) =
      λ t. subst (λ p. FileStands P H m l p t (s.files t) (zone_at (zones_of (take m H)) t)) none (k.files t) in
      let both = after_cut P sound H m l n c.A c.x c.X (take m H) (take n H) s (subst (IsHistory sound) c.whole g) c.whole c.whole
      (sym front_same ∙ c.front) c.place le old in
      record {
        entries = λ t.
            ap (λ o. option_or (known (changes_of (take n H) m) t) (unless (is_alias (changes_of (take n H) m) t) o))
            (k.entries t ∙ ap (λ F. known (list_told F) t) (sym front_same))
            ∙ joined_at sound (take n H) m g in_front t;
        files = both.0;
        pending = both.1;
        rises = both.2;
      }

  settled_changes : (Z : List ListZone) (token : List ℕ) → s.pending ≡ [] → s.coming ≡ None → token ≡ token_of H n → AfterChanges P H n s Z
      → Stands P H n n (settled (after_changes s token Z))
  settled_changes [] token none coming own a =
      record {
        low = place.0;
        within = omega arith;
        high = place.1;
        tokens = rw (none, coming) (ap Some own, refl);
        entries = a.entries;
        files = λ t. subst (λ p. FileStands P H n n p t (s.files t) (zone_at (zones_of (take n H)) t)) (sym none) (a.files t);
        pending = subst (AllByRecursion (λ t. is_some (zone_at (zones_of (take n H)) t) ≡ true)) (sym none) tt;
      }
  settled_changes (z ∷ zs) token none coming own a =
      record {
        low = place.0;
        within = omega arith;
        high = place.1;
        tokens = rw own (settles H n (pending_of (z ∷ zs)) s.token);
        entries = λ t. ap (λ o. option_or o (unless (is_alias (z ∷ zs) t) (s.entries t))) (known_put (z ∷ zs) t a.rises) ∙ a.entries t;
        files = a.files;
        pending = a.pending;
      }

  pub some_changes : s.pending ≡ [] → Stands P H n n (state_after s (list_at (take n H) (changes_of (take n H) m)))
  some_changes none =
      let tokens : TokensStand H m [] s.token s.coming = subst (λ p. TokensStand H m p s.token s.coming) none k.tokens in
      let own = own_token H n place in
      let after = settled_changes (changes_of (take n H) m) (token_of (take n H) (length (take n H))) none tokens.1 own (after_them none) in
      subst (λ o. Stands P H n n (settled (after_list o s (record { token = token_of (take n H) (length (take n H)); zones = changes_of (take n H) m }))))
      (sym tokens.0) after

  record IsNamed (t : List ℕ) : Type 0 where
    zone : ContentData
    is : named (zones_of (take n H)) t ≡ Some zone

  still_there : (t : List ℕ) → is_some (zone_at (zones_of (take m H)) t) ≡ true → IsNamed t
  still_there t some =
      let c = cut (take n H) m in_front in
      let g : IsHistory sound (c.A ++ c.x ∷ c.X) = subst (IsHistory sound) c.whole (history_front sound H n h) in
      let os : zones_of (take m H) ≡ c.x.contents = ap zones_of (sym front_same ∙ c.front) ∙ zones_are c.A c.x [] in
      let zs : zones_of (take n H) ≡ (end c.x c.X).contents = ap zones_of c.whole ∙ zones_are c.A c.x c.X in
      by (end c.x c.X).contents zs
      (name c.x.contents (zone_at c.x.contents t) refl (ap (λ cs. is_some (zone_at cs t)) (sym os) ∙ some) (still_named sound c.A c.x c.X g t))
      (role (end c.x c.X).contents t (ends_distinct sound c.A c.x c.X g))
    where
      name : {P : Type 0} (cs : List ContentData) (o : Option ContentData) → zone_at cs t ≡ o → is_some (zone_at cs t) ≡ true
          → (has_text (names_of cs) t ≡ true → P) → P
      name cs None e k f = absurd (cc)
      name cs (Some c) e k f = f (zone_named cs t c e)

      by : (cs : List ContentData) → zones_of (take n H) ≡ cs → has_text (names_of cs) t ≡ true → Role cs t → IsNamed t
      by cs e k (a_zone c is) = record { zone = c; is = ap (λ zs. named zs t) e ∙ is.named }
      by cs e k (an_alias c is) = record { zone = c; is = ap (λ zs. named zs t) e ∙ is.named }
      by cs e k (no_name is) = let no = is.not_name in absurd (cc)

  got_file : (t : List ℕ) (ts : List (List ℕ)) (file : List ℕ) (u : List ℕ) (o : Option ContentData)
      → Some file ≡ served_for P t (named (zones_of (take n H)) t) → is_some o ≡ true ⊎ (bytes_eq u t ≡ false)
      → FileStands P H m l (t ∷ ts) u (s.files u) o → FileStands P H m n ts u (with_file s.files t file u) o
  got_file t ts file u o is other old = by (bytes_eq u t) refl o other old
    where
      has : (b : Bool) → bytes_eq u t ≡ b → (bytes_eq u t || has_text ts u) ≡ true → bytes_eq u t ≡ false → has_text ts u ≡ true
      has true e p q = absurd (cc)
      has false e p q = sym (ap (λ z. z || has_text ts u) e) ∙ p

      by : (b : Bool) → bytes_eq u t ≡ b → (o : Option ContentData) → is_some o ≡ true ⊎ (bytes_eq u t ≡ false) → FileStands P H m l (t ∷ ts) u (s.files u) o
          → FileStands P H m n ts u (cond b (Some file) (s.files u)) o
      by true e None (inl wrong) old = absurd (cc)
      by true e None (inr wrong) old = absurd (cc)
      by true e (Some c) other old =
          let w : m ≤ l = k.within in
          inr (record {
            q = n;
            from = omega arith;
            upto = omega arith;
            is =
                subst (λ v. Some file ≡ served_for P v (named (zones_of (take n H)) v)) (sym (bytes_same u t e)) is;
          })
      by false e None other old = old
      by false e (Some c) other (inl p) = inl (has false e p e)
      by false e (Some c) other (inr g) = let up : g.q ≤ l = g.upto in inr (record { q = g.q; from = g.from; upto = omega arith; is = g.is })

  pub one_file : (t : List ℕ) (ts : List (List ℕ)) → s.pending ≡ t ∷ ts → IsGood P H n s
  one_file t ts e =
      let w : m ≤ l = k.within in
      let all : AllByRecursion (λ u. is_some (zone_at (zones_of (take m H)) u) ≡ true) (t ∷ ts) =
      subst (AllByRecursion (λ u. is_some (zone_at (zones_of (take m H)) u) ≡ true)) e k.pending in
      let z = still_there t all.0 in
      let coming : s.coming ≡ Some (token_of H m) = subst (λ p. TokensStand H m p s.token s.coming) e k.tokens in
      let after : Stands P H m n (settled (after_file (t ∷ ts) s (P.served t z.zone))) =
      record {
        low = k.low;
        within = omega arith;
        high = place.1;
        tokens = rw coming (settles H m ts s.token);
        entries = k.entries;
        files = λ u. got_file t ts (P.served t z.zone) u (zone_at (zones_of (take m H)) u) (sym (ap (served_for P t) z.is)) (case u t all.0 (bytes_eq u t) refl)
            (subst (λ p. FileStands P H m l p u (s.files u) (zone_at (zones_of (take m H)) u)) e (k.files u));
        pending = all.1;
      } in
      record {
        said = heard.Zone (P.served t z.zone);
        is = subst (λ p. told_by P (take n H) (ask_for p s.token) ≡ Some (heard.Zone (P.served t z.zone))) (sym e)
            (ap (λ o. option_map file_told (served_for P t o)) z.is);
        known_token = λ wide no. cc;
        next = stands m (subst (λ p. Stands P H m n (settled (after_file p s (P.served t z.zone)))) (sym e) after);
      }
    where
      case : (u v : List ℕ) → is_some (zone_at (zones_of (take m H)) v) ≡ true → (b : Bool) → bytes_eq u v ≡ b
          → is_some (zone_at (zones_of (take m H)) u) ≡ true ⊎ (bytes_eq u v ≡ false)
      case u v some true same = inl (subst (λ w. is_some (zone_at (zones_of (take m H)) w) ≡ true) (sym (bytes_same u v same)) some)
      case u v some false other = inr other

  -- what a list with the token of place m is answered with
  pub changes_answer : s.pending ≡ [] → told_by P (take n H) (state_ask s) ≡ Some (changes_at (take n H) (P.place (take n H) (token_of H m)))
  changes_answer none =
      let tokens : TokensStand H m [] s.token s.coming = subst (λ p. TokensStand H m p s.token s.coming) none k.tokens in
      rw (none, tokens.0)

  own_place : IsPlace H m
  own_place = let w : m ≤ l = k.within in (k.low, omega (arith, k.high))

  pub own_or_none : (P.place (take n H) (token_of H m) ≡ Some m) ⊎ (P.place (take n H) (token_of H m) ≡ None)
  own_or_none = let w : m ≤ l = k.within in no_other H m n h own_place (omega arith) place.1

  pub after_bad : s.pending ≡ [] → IsFresh (state_after s heard.BadToken)
  after_bad none =
      let tokens : TokensStand H m [] s.token s.coming = subst (λ p. TokensStand H m p s.token s.coming) none k.tokens in
      record { token = rw (none, tokens.1); coming = rw none; pending = none }

  pub no_pending : s.pending ≡ [] → IsGood P H n s
  no_pending none = by own_or_none
    where
      kept_so : (P.place (take n H) (token_of H m) ≡ None) → length H ≤ P.kept → ⊥
      kept_so gone wide =
          let w : m ≤ l = k.within in
          let up : n ≤ length H = place.1 in
          let low : 1 ≤ m = k.low in
          let found : P.place (take n H) (token_of H m) ≡ Some m = finds H m n h own_place (omega arith) place.1 (omega arith) in
          cc

      by : (P.place (take n H) (token_of H m) ≡ Some m) ⊎ (P.place (take n H) (token_of H m) ≡ None) → IsGood P H n s
      by (inl found) = record {
        said = list_at (take n H) (changes_of (take n H) m);
        is = changes_answer none ∙ ap (λ o. Some (changes_at (take n H) o)) found;
        known_token = λ wide no. cc;
        next = stands n (some_changes none);
      }
      by (inr gone) = record {
        said = heard.BadToken;
        is = changes_answer none ∙ ap (λ o. Some (changes_at (take n H) o)) gone;
        known_token = λ wide no. kept_so gone wide;
        next = fresh (after_bad none);
      }

pub good : (P : Service) (sound : ReleaseData → Type 0) → FindsPlaces sound P → FindsNoOther sound P
    → (H : List ReleaseData) (l n : ℕ) (h : IsHistory sound H) (place : IsPlace H n) (le : l ≤ n) (s : StateData)
    → Invariant P H l s → IsGood P H n s
good P sound finds no_other H l n h place le s (fresh f) = record {
  said = list_at (take n H) (list_told (take n H));
  is = rw (f.pending, f.token);
  known_token = λ wide no. cc;
  next = stands n (whole_list P sound H n h place s f.token);
}
good P sound finds no_other H l n h place le s (stands m k) = by s.pending refl
  where
    by : (p : List (List ℕ)) → s.pending ≡ p → IsGood P H n s
    by [] e = no_pending P sound finds no_other H m l n h place le s k e
    by (t ∷ ts) e = one_file P sound finds no_other H m l n h place le s k t ts e
