-- Tables whose keys are equal exactly where they are the same.
use Rattle.std.proofs.Common.{◌≡◌, ℕ, Bool, true, false, ◌⊎◌, inl, inr, List, [], ◌∷◌, slice_get, Contains, Option, Some, None, option_map, is_some}
use Rattle.std.proofs.Common.{refl, ap, sym, ◌∙◌, subst, nat_eq, ◌&&◌, Result, Ok, Err, OnOk, OnErr}
use Rattle.std.proofs.lemmas.Bool.{eqb-true, eq-eqb}
use Rattle.std.proofs.lemmas.Map.Views.{Contains-from_lookup}
use lib.Pointwise.{bytes_decides}
use Rattle.std.specs.Cmp.Lexicographic.{pointwise}
use Rattle.std.specs.Map.{lookup, lookup_entry, remove_entry}
use Rattle.std.specs.Option.{option_eq, option_map_or}
use Rattle.lru.proofs.CallerLemmas.{Contains-lookup_entry, Contains-put_entries}
use Rattle.lru.proofs.Pairs.{lookup-lookup_entry}
use Rattle.lru.proofs.Splits.{Contains-cons, Contains-nil}
use Rattle.lru.specs.LruCache.{LruCache, lru_cache, promoted, put_entries}
use Rattle.answer_cache.specs.contracts.key.KeyPartialEq.TheImpl as keys
use Rattle.answer_cache.specs.declared.key.Key.{Key}

-- ---- keys

texts_same : (xs ys : List ℕ) → pointwise nat_eq xs ys ≡ true → xs ≡ ys
texts_same xs ys h = (bytes_decides xs ys).0 h

texts_own : (xs : List ℕ) → pointwise nat_eq xs xs ≡ true
texts_own xs = (bytes_decides xs xs).1 refl

fields_same : (a b : Option (List ℕ)) → option_eq (pointwise nat_eq) a b ≡ true → a ≡ b
fields_same None None h = refl
fields_same None (Some y) h = cc
fields_same (Some x) None h = cc
fields_same (Some x) (Some y) h = ap Some (texts_same x y h)

fields_own : (a : Option (List ℕ)) → option_eq (pointwise nat_eq) a a ≡ true
fields_own None = refl
fields_own (Some x) = texts_own x

both : (s t : Bool) → (s && t) ≡ true → (s ≡ true) × (t ≡ true)
both true t h = (refl, h)
both false t h = cc

both_true : (s t : Bool) → s ≡ true → t ≡ true → (s && t) ≡ true
both_true s t p q = ap (λ b. b && t) p ∙ q

-- as keys are compared
abbrev pub alike_keys : Key → Key → Bool
alike_keys = keys.eq-value.it

alike_is : (x y : Key) → alike_keys x y
    ≡ (nat_eq x.place y.place
    && (pointwise nat_eq x.target y.target
    && (option_eq (pointwise nat_eq) x.accept y.accept && option_eq (pointwise nat_eq) x.none_match y.none_match)))
alike_is x y = refl

pub keys_same : (x y : Key) → alike_keys x y ≡ true → x ≡ y
keys_same x y h =
    let p = both _ _ (sym (alike_is x y) ∙ h) in
    let q = both _ _ p.1 in
    let r = both _ _ q.1 in
    let a : x.place ≡ y.place = eqb-true x.place y.place p.0 in
    let b : x.target ≡ y.target = texts_same x.target y.target q.0 in
    let c : x.accept ≡ y.accept = fields_same x.accept y.accept r.0 in
    let d : x.none_match ≡ y.none_match = fields_same x.none_match y.none_match r.1 in
    λ i. record { place = a i; target = b i; accept = c i; none_match = d i }

pub keys_own : (x : Key) → alike_keys x x ≡ true
keys_own x =
    alike_is x x
    ∙ both_true _ _ (eq-eqb x.place x.place refl) (both_true _ _ (texts_own x.target) (both_true _ _ (fields_own x.accept) (fields_own x.none_match)))

-- ---- look-ups

module _ {K V : Type 0} (alike : K → K → Bool) (same : (x y : K) → alike x y ≡ true → x ≡ y) (own : (x : K) → alike x x ≡ true) (k : K) where
  is_kept_by : (es : List (K × V)) (o : Option V) → lookup (alike k) es ≡ o → is_some o ≡ true → (v : V) × Contains es (k, v)
  is_kept_by es None e h = cc
  is_kept_by es (Some v) e h = (v, Contains-from_lookup same k v es e)

  -- a key is found exactly where a pair with it is kept
  pub is_kept : (es : List (K × V)) → is_some (lookup (alike k) es) ≡ true → (v : V) × Contains es (k, v)
  is_kept es h = is_kept_by es (lookup (alike k) es) refl h

  pub is_found : (es : List (K × V)) (v : V) → Contains es (k, v) → is_some (lookup (alike k) es) ≡ true
  is_found [] v c = absurd (Contains-nil (k, v) c)
  is_found (f ∷ es) v c = elim (Contains-cons f es (k, v) c) [
    | inl e ↦ let t : alike k f.0 ≡ true = ap (λ p. alike k p.0) e ∙ own k in rw t refl
    | inr d ↦ (elim (alike k f.0) as (λ y. alike k f.0 ≡ y → is_some (lookup (alike k) (f ∷ es)) ≡ true) [
      | true ↦ λ t. rw t refl
      | false ↦ λ t. rw t (is_found es v d)
    ]) refl
  ]

  first_by : (es : List (K × V)) (o : Option (K × V)) → lookup_entry (alike k) es ≡ o → is_some (lookup (alike k) es) ≡ true
      → (v : V) × (slice_get (option_map_or (λ f. f ∷ remove_entry (alike k) es) o es) 0 ≡ Some (k, v))
  first_by es None e h =
      let none : lookup (alike k) es ≡ None = sym (lookup-lookup_entry (alike k) es) ∙ ap (option_map (λ f. f.1)) e in
      let not : false ≡ true = sym (ap is_some none) ∙ h in
      cc
  first_by es (Some f) e h =
      let found = Contains-lookup_entry (alike k) es f e in
      (f.1, ap (λ j. Some (j, f.1)) (sym (same k f.0 found.1)))

  -- what was found is the first then
  pub is_first : (es : List (K × V)) → is_some (lookup (alike k) es) ≡ true
      → (v : V) × (slice_get (promoted (alike k) es) 0 ≡ Some (k, v))
  is_first es h = first_by es (lookup_entry (alike k) es) refl h

  -- a pair that is put is the only one that is added
  pub is_added : (c : LruCache K V) (v : V) (other : K) (w : V) → Contains (put_entries alike c k v) (other, w)
      → Contains c.entries (other, w) ⊎ ((other ≡ k) × (w ≡ v))
  is_added c v other w h = elim (Contains-put_entries alike c k v (other, w) h) [
    | inl was ↦ inl was
    | inr is ↦ inr (elim is.1 [ inl e ↦ e | inr x ↦ sym (same k other x.2) ], is.0)
  ]

  pub put_adds : {T F : Type 0} (r : Result T F) (before now : LruCache K V) (v : V)
      → OnOk r (now ≡ lru_cache (put_entries alike before k v) before.cap) → OnErr r (now ≡ before) → (other : K) (w : V)
      → Contains now.entries (other, w) → Contains before.entries (other, w) ⊎ ((other ≡ k) × (w ≡ v))
  put_adds (Ok x) before now v ok err other w h = is_added before v other w (subst (λ (c : LruCache K V). Contains c.entries (other, w)) ok h)
  put_adds (Err y) before now v ok err other w h = inl (subst (λ (c : LruCache K V). Contains c.entries (other, w)) err h)
