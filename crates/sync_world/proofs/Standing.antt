-- The invariant of a mirror: what its state knows of a primary's history.
use Rattle.std.proofs.Common.{inl, inr, ◌⊎◌, ◌≡◌, ℕ, ◌≤◌, true, Option, None, Some, List, [], ◌∷◌, ◌++◌, length, take, refl, sym, ap, ◌∙◌, subst, arith}
use Rattle.std.proofs.Common.{length-append, length-take}
use Rattle.std.specs.Prelude.{option_map, is_some}
use Rattle.std.specs.List.{AllByRecursion}
use Rattle.std.proofs.lemmas.List.{take-append-le}
use Rattle.catalogue.specs.Releases.{ContentData, ReleaseData}
use Rattle.catalogue.specs.Histories.{IsHistory, token_of}
use Rattle.sync_world.proofs.Looks.{StateData, state_ask, known, pending_of, token_then, coming_then, settled, after_all, after_list, state_after}
use Rattle.sync_core.specs.declared.heard_type.Heard.{Heard}
use Rattle.sync_core.specs.declared.heard_type.Heard.TheVariants as heard
use Rattle.sync_world.specs.Primaries.{told_by, list_at, list_told, Service, served_for, IsPlace}
use Rattle.catalogue.specs.Lookups.{named, zone_at, zones_of}
use Rattle.sync_world.proofs.Places.{token_of_take}
use Rattle.sync_world.proofs.Zones.{has_text}
use Rattle.sync_world.proofs.Changes.{end, known_is}
use Rattle.sync_world.proofs.Aliases.{cut}
use Rattle.sync_world.proofs.Files.{zones_are, history_front, known_put, known_pending, each_pending, list_rises}

-- a file that some place from m to l answered for the name
pub record IsGot (P : Service) (H : List ReleaseData) (m l : ℕ) (t : List ℕ) (held : Option (List ℕ)) : Type 0 where
  pub q : ℕ
  pub from : m ≤ q
  pub upto : q ≤ l
  pub is : held ≡ served_for P t (named (zones_of (take q H)) t)

-- the file of a name: none where place m has no such zone, and else still to be got, or got
abbrev pub FileStands : Service → List ReleaseData → ℕ → ℕ → List (List ℕ) → List ℕ → Option (List ℕ) → Option ContentData → Type 0
FileStands P H m l pending t held None = held ≡ None
FileStands P H m l pending t held (Some c) = (has_text pending t ≡ true) ⊎ IsGot P H m l t held

-- the token of place m is coming while files are to be got, and is the token after that
abbrev pub TokensStand : List ReleaseData → ℕ → List (List ℕ) → Option (List ℕ) → Option (List ℕ) → Type 0
TokensStand H m [] token coming = (token ≡ Some (token_of H m)) × (coming ≡ None)
TokensStand H m (t ∷ ts) token coming = coming ≡ Some (token_of H m)

pub record Stands (P : Service) (H : List ReleaseData) (m l : ℕ) (s : StateData) : Type 0 where
  pub low : 1 ≤ m
  pub within : m ≤ l
  pub high : l ≤ length H
  pub tokens : TokensStand H m s.pending s.token s.coming
  pub entries : (t : List ℕ) → s.entries t ≡ known (list_told (take m H)) t
  pub files : (t : List ℕ) → FileStands P H m l s.pending t (s.files t) (zone_at (zones_of (take m H)) t)
  pub pending : AllByRecursion (λ t. is_some (zone_at (zones_of (take m H)) t) ≡ true) s.pending

-- nothing is relied on: the next ask is for the whole list
pub record IsFresh (s : StateData) : Type 0 where
  pub token : s.token ≡ None
  pub coming : s.coming ≡ None
  pub pending : s.pending ≡ []

pub data Invariant (P : Service) (H : List ReleaseData) (l : ℕ) (s : StateData) : Type 0 where
  fresh : IsFresh s → Invariant P H l s
  stands : (m : ℕ) → Stands P H m l s → Invariant P H l s

-- later answers, and a longer history
file_later : (P : Service) (H : List ReleaseData) (m l n : ℕ) (pending : List (List ℕ)) (t : List ℕ) (held : Option (List ℕ)) (o : Option ContentData)
    → l ≤ n → FileStands P H m l pending t held o → FileStands P H m n pending t held o
file_later P H m l n pending t held None le f = f
file_later P H m l n pending t held (Some c) le (inl p) = inl p
file_later P H m l n pending t held (Some c) le (inr g) = let u : g.q ≤ l = g.upto in inr (record { q = g.q; from = g.from; upto = omega arith; is = g.is })

pub later : (P : Service) (H : List ReleaseData) (l n : ℕ) (s : StateData) → l ≤ n → n ≤ length H → Invariant P H l s → Invariant P H n s
later P H l n s le upto (fresh f) = fresh f
later P H l n s le upto (stands m k) = stands m (record {
  low = k.low;
  within = let w : m ≤ l = k.within in omega arith;
  high = upto;
  tokens = k.tokens;
  entries = k.entries;
  files = λ t. file_later P H m l n s.pending t (s.files t) (zone_at (zones_of (take m H)) t) le (k.files t);
  pending = k.pending;
})

file_grown : (P : Service) (H X : List ReleaseData) (m l : ℕ) (pending : List (List ℕ)) (t : List ℕ) (held : Option (List ℕ)) (o : Option ContentData)
    → l ≤ length H → FileStands P H m l pending t held o → FileStands P (H ++ X) m l pending t held o
file_grown P H X m l pending t held None le f = f
file_grown P H X m l pending t held (Some c) le (inl p) = inl p
file_grown P H X m l pending t held (Some c) le (inr g) =
    let u : g.q ≤ l = g.upto in
    let same : take g.q (H ++ X) ≡ take g.q H = take-append-le g.q H X (omega arith) in
    inr (record { q = g.q; from = g.from; upto = g.upto; is = g.is ∙ ap (λ G. served_for P t (named (zones_of G) t)) (sym same) })

token_grown : (H X : List ReleaseData) (m : ℕ) → m ≤ length H → token_of (H ++ X) m ≡ token_of H m
unfolding token_of
token_grown H X m le = ap (λ G. Rattle.catalogue.specs.Digests.token_text m (Rattle.catalogue.specs.Digests.chain_of G)) (take-append-le m H X le)

pub grown : (P : Service) (H X : List ReleaseData) (l : ℕ) (s : StateData) → Invariant P H l s → Invariant P (H ++ X) l s
grown P H X l s (fresh f) = fresh f
grown P H X l s (stands m k) =
    let w : m ≤ l = k.within in
    let h : l ≤ length H = k.high in
    let same : take m (H ++ X) ≡ take m H = take-append-le m H X (omega arith) in
    let token : token_of (H ++ X) m ≡ token_of H m = token_grown H X m (omega arith) in
    stands m (record {
      low = k.low;
      within = k.within;
      high = omega (arith, length-append H X);
      tokens = tokens_grown s.pending token k.tokens;
      entries = λ t. k.entries t ∙ ap (λ G. known (list_told G) t) (sym same);
      files = λ t. subst (λ G. FileStands P (H ++ X) m l s.pending t (s.files t) (zone_at (zones_of G) t)) (sym same)
          (file_grown P H X m l s.pending t (s.files t) (zone_at (zones_of (take m H)) t) h (k.files t));
      pending = subst (λ G. AllByRecursion (λ t. is_some (zone_at (zones_of G) t) ≡ true) s.pending) (sym same) k.pending;
    })
  where
    tokens_grown : (pending : List (List ℕ)) → token_of (H ++ X) m ≡ token_of H m → TokensStand H m pending s.token s.coming
        → TokensStand (H ++ X) m pending s.token s.coming
    tokens_grown [] e t = (t.0 ∙ ap Some (sym e), t.1)
    tokens_grown (p ∷ ps) e t = t ∙ ap Some (sym e)

-- what is answered at place n, and that the invariant holds there
pub record IsGood (P : Service) (H : List ReleaseData) (n : ℕ) (s : StateData) : Type 0 where
  pub said : Heard
  pub is : told_by P (take n H) (state_ask s) ≡ Some said
  pub known_token : length H ≤ P.kept → said ≡ heard.BadToken → ⊥
  pub next : Invariant P H n (state_after s said)

pub settles : (H : List ReleaseData) (n : ℕ) (pending : List (List ℕ)) (token : Option (List ℕ))
    → TokensStand H n pending (token_then pending (Some (token_of H n)) token) (coming_then pending (Some (token_of H n)))
settles H n [] token = (refl, refl)
settles H n (t ∷ ts) token = refl

-- a list knows the identifiers of its place's zones
pub known_zone : (G : List ReleaseData) (t : List ℕ) → 1 ≤ length G
    → is_some (known (list_told G) t) ≡ is_some (zone_at (zones_of G) t)
known_zone G t long =
    let c = cut G (length G) (long, omega arith) in
    subst (λ F. is_some (known (list_told F) t) ≡ is_some (zone_at (zones_of F) t)) (sym c.whole) (by c.A c.x c.X)
  where
    some_map : {B : Type 0} (f : ContentData → B) (o : Option ContentData) → is_some (option_map f o) ≡ is_some o
    some_map f None = refl
    some_map f (Some c) = refl

    by : (A : List ReleaseData) (x : ReleaseData) (X : List ReleaseData)
        → is_some (known (list_told (A ++ x ∷ X)) t) ≡ is_some (zone_at (zones_of (A ++ x ∷ X)) t)
    by A x X = ap is_some (known_is A x X t) ∙ some_map _ (zone_at (end x X).contents t) ∙ ap (λ cs. is_some (zone_at cs t)) (sym (zones_are A x X))

module _ (H : List ReleaseData) (n : ℕ) (place : IsPlace H n) where
  pub long : length (take n H) ≡ n
  long = let p : n ≤ length H = place.1 in omega (arith, length-take n H)

  pub own_token : token_of (take n H) (length (take n H)) ≡ token_of H n
  own_token = ap (token_of (take n H)) long ∙ token_of_take H n n (omega arith)

module _ (P : Service) (sound : ReleaseData → Type 0) (H : List ReleaseData) (n : ℕ) (h : IsHistory sound H) (place : IsPlace H n) where
  -- after the whole list
  all_files : (t : List ℕ) (o : Option ContentData) → zone_at (zones_of (take n H)) t ≡ o → FileStands P H n n (pending_of (list_told (take n H))) t None o
  all_files t None e = refl
  all_files t (Some c) e =
      let low : 1 ≤ n = place.0 in
      inl (known_pending (list_told (take n H)) t (list_rises sound (take n H) (history_front sound H n h) (omega (arith, long H n place)))
      (known_zone (take n H) t (omega (arith, long H n place)) ∙ ap is_some e))

  pub whole_list : (s : StateData) → s.token ≡ None → Stands P H n n (state_after s (list_at (take n H) (list_told (take n H))))
  whole_list s none =
      let low : 1 ≤ n = place.0 in
      let rises = list_rises sound (take n H) (history_front sound H n h) (omega (arith, long H n place)) in
      let after : Stands P H n n (settled (after_all s (record { token = token_of (take n H) (length (take n H)); zones = list_told (take n H) }))) =
      record {
        low = place.0;
        within = omega arith;
        high = place.1;
        tokens = rw (own_token H n place) (settles H n (pending_of (list_told (take n H))) s.token);
        entries = λ t. known_put (list_told (take n H)) t rises;
        files = λ t. all_files t (zone_at (zones_of (take n H)) t) refl;
        pending = each_pending (list_told (take n H)) (λ t. is_some (zone_at (zones_of (take n H)) t) ≡ true) rises
            (λ t k. sym (known_zone (take n H) t (omega (arith, long H n place))) ∙ k);
      } in
      subst (λ o. Stands P H n n (settled (after_list o s (record { token = token_of (take n H) (length (take n H)); zones = list_told (take n H) }))))
      (sym none) after
