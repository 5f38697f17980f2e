-- A walk does not go past an empty list of changes.
use Rattle.std.proofs.Common.{◌≡◌, ℕ, ◌+◌, Option, None, Some, List, [], ◌∷◌, ◌++◌, Result, Ok, Err, refl, sym, ap, ◌∙◌, subst, append-nil}
use Rattle.td_base.specs.declared.report.Ask.{Ask}
use Rattle.td_base.specs.declared.report.Ask.TheVariants as ask
use Rattle.td_base.specs.declared.upstream.Exchange.{Exchange}
use Rattle.sync_core.specs.Mirrors.{MirrorState, ask_for, ask_of, empty_mirror}
use Rattle.sync_core.specs.Steps.{list_settles, settles, sync_step}
use Rattle.sync_core.specs.declared.heard_type.Heard.{Heard}
use Rattle.sync_core.specs.declared.heard_type.Heard.TheVariants as heard
use Rattle.sync_core.specs.declared.heard_type.Settled.{Settled}
use Rattle.sync_core.specs.declared.heard_type.Settled.TheVariants.{Holds, More}
use Rattle.mirror.specs.Shares.{SyncEnds, WalksOn, failed, lists_in, not_settled, refused, settled, starved, unreadable}
use Rattle.mirror.specs.declared.limits.TheConstants.{MOST_LISTS}
use Rattle.mirror.specs.declared.sync_fault.SyncFault.{SyncFault}
use Rattle.mirror.specs.declared.understood_type.Understood.{Understood}
use Rattle.mirror.specs.declared.understood_type.Understood.TheVariants as understood
use Rattle.mirror_world.specs.Settling.{IsEmptyList, IsEmptyOrLater, IsSettled, NextListIsEmpty, SecondListIsEmpty}
use Rattle.mirror_world.proofs.lemmas.Syncing.{OneMeaning}

-- ---- an empty list of changes settles a mirror

asks_since : (pending : List (List ℕ)) (known : Option (List ℕ)) (token : List ℕ) → ask_for pending known ≡ ask.List (Some token) → known ≡ Some token
asks_since [] known token e = cc
asks_since (name ∷ names) known token e = absurd (cc)

holds_by : (s : MirrorState) (token : List ℕ) (h : Heard) → s.token ≡ Some token → IsEmptyList h → settles s h ≡ Holds
holds_by s token (heard.List doc) knows empty = ap (λ k. list_settles k doc.zones) knows ∙ ap (list_settles (Some token)) empty
holds_by s token (heard.Zone bytes) knows empty = absurd empty
holds_by s token heard.BadToken knows empty = absurd empty

not_both : (is : Settled) → is ≡ Holds → is ≡ More → ⊥
not_both is holds more = cc

-- so what does not settle it was no answer to a list
later_so : (s : MirrorState) (h : Heard) (later : Type 0) → IsEmptyOrLater (ask_of s) h later → settles s h ≡ More → later
later_so s h later empty more = by (ask_of s) refl empty
  where
    by : (a : Ask) → ask_of s ≡ a → IsEmptyOrLater a h later → later
    by (ask.List None) is k = absurd k
    by (ask.List (Some token)) is k = absurd (not_both (settles s h) (holds_by s token h (asks_since s.pending s.token token is) k) more)
    by (ask.Get name) is k = k

-- ---- lists of exchanges

same_first : (x y : Exchange) (xs ys : List Exchange) → x ∷ xs ≡ y ∷ ys → x ≡ y
same_first x y xs ys e = cc

same_rest : (x y : Exchange) (xs ys : List Exchange) → x ∷ xs ≡ y ∷ ys → xs ≡ ys
same_rest x y xs ys e = cc

not_none : (x : Exchange) (xs : List Exchange) → [] ≡ x ∷ xs → ⊥
not_none x xs e = absurd (cc)

module _ (written : Ask → List ℕ) (means : Ask → List ℕ → Understood → Type 0) (one : OneMeaning means) where
  -- some exchange is left, and its answer means something that is heard
  pub record Awaits (t : MirrorState) (left : List Exchange) : Type 0 where
    pub next : Exchange
    pub rest : List Exchange
    pub parts : left ≡ next ∷ rest
    pub heard : Heard
    pub is_meant : means (ask_of t) next.answer (understood.Hears heard)

  same_heard : (a : Ask) (x y : Exchange) (h k : Heard) → x ≡ y → means a x.answer (understood.Hears h) → means a y.answer (understood.Hears k) → h ≡ k
  same_heard a x y h k same p q =
      let is : understood.Hears h ≡ understood.Hears k =
      one a y.answer (understood.Hears h) (understood.Hears k) (subst (λ (z : Exchange). means a z.answer (understood.Hears h)) same p) q in
      cc

  awaits : (x : Exchange) (left rest : List Exchange) (s t : MirrorState) (h : Heard) → left ≡ x ∷ rest → t ≡ s
      → means (ask_of s) x.answer (understood.Hears h) → Awaits t left
  awaits x left rest s t h parts same is_meant = record {
    next = x;
    rest = rest;
    parts = parts;
    heard = h;
    is_meant = subst (λ m. means (ask_of m) x.answer (understood.Hears h)) (sym same) is_meant;
  }

  -- the next list is as empty after an answer that did not settle the mirror
  still_empty : (s : MirrorState) (x y : Exchange) (xs : List Exchange) (h : Heard) → y ≡ x → means (ask_of s) y.answer (understood.Hears h)
      → settles s h ≡ More → NextListIsEmpty means s (x ∷ xs) → NextListIsEmpty means (sync_step s h) xs
  still_empty s x y xs h same is_meant more empty =
      let k : h ≡ empty.0 = same_heard (ask_of s) y x h empty.0 same is_meant empty.1 in
      subst (λ g. NextListIsEmpty means (sync_step s g) xs) (sym k)
      (later_so s empty.0 (NextListIsEmpty means (sync_step s empty.0) xs) empty.2 (subst (λ g. settles s g ≡ More) k more))

  not_past : (xs taken left more : List Exchange) (before lists : ℕ) (s t : MirrorState) → NextListIsEmpty means s xs
      → taken ++ left ≡ xs ++ more → WalksOn written means s taken before lists t → Awaits t left
  not_past [] taken left more before lists s t empty parts walks = absurd empty
  not_past (x ∷ xs) [] left more before lists s t empty parts walks = awaits x left (xs ++ more) s t empty.0 parts walks.0 empty.1
  not_past (x ∷ xs) (y ∷ taken) left more before lists s t empty parts walks =
      let same = same_first y x (taken ++ left) (xs ++ more) parts in
      not_past xs taken left more (before + lists_in (ask_of s)) lists (sync_step s walks.0) t
      (still_empty s x y xs walks.0 same (walks.1).is_meant walks.2 empty) (same_rest y x (taken ++ left) (xs ++ more) parts) walks.4

  pub second_not_past : (xs taken left more : List Exchange) (lists : ℕ) (t : MirrorState) → SecondListIsEmpty means xs
      → taken ++ left ≡ xs ++ more → WalksOn written means empty_mirror taken 0 lists t → Awaits t left
  second_not_past xs [] left more lists t k parts walks =
      awaits k.first left (k.later ++ more) empty_mirror t k.heard (parts ∙ ap (λ l. l ++ more) k.parts) walks.0 k.is_meant
  second_not_past xs (y ∷ taken) left more lists t k parts walks =
      let whole : y ∷ (taken ++ left) ≡ k.first ∷ (k.later ++ more) = parts ∙ ap (λ l. l ++ more) k.parts in
      let same = same_first y k.first (taken ++ left) (k.later ++ more) whole in
      let h : walks.0 ≡ k.heard = same_heard (ask_of empty_mirror) y k.first walks.0 k.heard same (walks.1).is_meant k.is_meant in
      not_past k.later taken left more (0 + lists_in (ask_of empty_mirror)) lists (sync_step empty_mirror walks.0) t
      (subst (λ g. NextListIsEmpty means (sync_step empty_mirror g) k.later) (sym h) k.second)
      (same_rest y k.first (taken ++ left) (k.later ++ more) whole) walks.4

  -- ---- so a sync ends there

  -- what is left is one exchange, whose answer means this and so is heard
  meant_so : (t : MirrorState) (x : Exchange) (left : List Exchange) (u : Understood) (k : Awaits t left) → left ≡ x ∷ []
      → means (ask_of t) x.answer u → understood.Hears k.heard ≡ u
  meant_so t x left u k is meant =
      one (ask_of t) k.next.answer (understood.Hears k.heard) u k.is_meant
      (subst (λ (z : Exchange). means (ask_of t) z.answer u) (same_first x k.next [] k.rest (sym is ∙ k.parts)) meant)

  not_unreadable : (h : Heard) (place : ℕ) → understood.Hears h ≡ understood.Unreadable place → ⊥
  not_unreadable h place e = absurd (cc)

  not_refused : (h : Heard) (status : ℕ) → understood.Hears h ≡ understood.Refuses status → ⊥
  not_refused h status e = absurd (cc)

  pub is_settled : (xs more : List Exchange) (t : MirrorState) (taken left : List Exchange) (result : Result (Unit {0}) SyncFault)
      → SecondListIsEmpty means xs → taken ++ left ≡ xs ++ more → SyncEnds written means empty_mirror t taken left result → IsSettled result
  is_settled xs more t taken left result k parts (settled first last u h asks says is all none ok) = subst IsSettled (sym ok) tt
  is_settled xs more t taken left result k parts (unreadable x place asks is fault) =
      let next = second_not_past xs taken left more asks.lists t k parts asks.walks in
      absurd (not_unreadable next.heard place (meant_so t x left (understood.Unreadable place) next is asks.is_for.is_meant))
  is_settled xs more t taken left result k parts (refused x status asks is fault) =
      let next = second_not_past xs taken left more asks.lists t k parts asks.walks in
      absurd (not_refused next.heard status (meant_so t x left (understood.Refuses status) next is asks.is_for.is_meant))
  is_settled xs more t taken left result k parts (not_settled walks none fault) =
      let next = second_not_past xs taken left more MOST_LISTS t k parts walks in
      absurd (not_none next.next next.rest (sym none ∙ next.parts))
  is_settled xs more t taken left result k parts (failed lists walks few none fault) = subst IsSettled (sym fault) tt
  is_settled xs more t taken left result k parts (starved lists walks few is fault) = subst IsSettled (sym fault) tt

  -- ---- and took no more than these exchanges

  ends_within : (xs first : List Exchange) (last : Exchange) (more : List Exchange) (before lists : ℕ) (s u : MirrorState) → NextListIsEmpty means s xs
      → first ++ last ∷ [] ≡ xs ++ more → WalksOn written means s first before lists u → (rest : List Exchange) × (xs ≡ (first ++ last ∷ []) ++ rest)
  ends_within [] first last more before lists s u empty parts walks = absurd empty
  ends_within (x ∷ xs) [] last more before lists s u empty parts walks =
      (xs, ap (λ (z : Exchange). z ∷ xs) (sym (same_first last x [] (xs ++ more) parts)))
  ends_within (x ∷ xs) (y ∷ first) last more before lists s u empty parts walks =
      let same = same_first y x (first ++ last ∷ []) (xs ++ more) parts in
      let k = ends_within xs first last more (before + lists_in (ask_of s)) lists (sync_step s walks.0) u
      (still_empty s x y xs walks.0 same (walks.1).is_meant walks.2 empty) (same_rest y x (first ++ last ∷ []) (xs ++ more) parts) walks.4 in
      (k.0, ap (λ (z : Exchange). z ∷ xs) (sym same) ∙ ap (λ l. y ∷ l) k.1)

  second_within : (xs first : List Exchange) (last : Exchange) (more : List Exchange) (lists : ℕ) (u : MirrorState) → SecondListIsEmpty means xs
      → first ++ last ∷ [] ≡ xs ++ more → WalksOn written means empty_mirror first 0 lists u
      → (rest : List Exchange) × (xs ≡ (first ++ last ∷ []) ++ rest)
  second_within xs [] last more lists u k parts walks =
      let same = same_first last k.first [] (k.later ++ more) (parts ∙ ap (λ l. l ++ more) k.parts) in
      (k.later, k.parts ∙ ap (λ (z : Exchange). z ∷ k.later) (sym same))
  second_within xs (y ∷ first) last more lists u k parts walks =
      let whole : y ∷ (first ++ last ∷ []) ≡ k.first ∷ (k.later ++ more) = parts ∙ ap (λ l. l ++ more) k.parts in
      let same = same_first y k.first (first ++ last ∷ []) (k.later ++ more) whole in
      let h : walks.0 ≡ k.heard = same_heard (ask_of empty_mirror) y k.first walks.0 k.heard same (walks.1).is_meant k.is_meant in
      let r = ends_within k.later first last more (0 + lists_in (ask_of empty_mirror)) lists (sync_step empty_mirror walks.0) u
      (subst (λ g. NextListIsEmpty means (sync_step empty_mirror g) k.later) (sym h) k.second)
      (same_rest y k.first (first ++ last ∷ []) (k.later ++ more) whole) walks.4 in
      (r.0, k.parts ∙ ap (λ (z : Exchange). z ∷ k.later) (sym same) ∙ ap (λ l. y ∷ l) r.1)

  not_ok : (result : Result (Unit {0}) SyncFault) (f : SyncFault) → result ≡ Err f → result ≡ Ok tt → ⊥
  not_ok result f is ok = let wrong : Err f ≡ Ok tt = sym is ∙ ok in cc

  -- where it ended well
  pub took_first : (xs more : List Exchange) (t : MirrorState) (taken left : List Exchange) (result : Result (Unit {0}) SyncFault)
      → SecondListIsEmpty means xs → taken ++ left ≡ xs ++ more → SyncEnds written means empty_mirror t taken left result → result ≡ Ok tt
      → (rest : List Exchange) × (xs ≡ taken ++ rest)
  took_first xs more t taken left result k parts (settled first last u h asks says is all none ok) good =
      let whole : first ++ last ∷ [] ≡ xs ++ more =
      sym all ∙ sym (append-nil taken) ∙ ap (λ l. taken ++ l) (sym none) ∙ parts in
      let r = second_within xs first last more asks.lists u k whole asks.walks in
      (r.0, r.1 ∙ ap (λ l. l ++ r.0) (sym all))
  took_first xs more t taken left result k parts (unreadable x place asks is fault) good = absurd (not_ok result _ fault good)
  took_first xs more t taken left result k parts (refused x status asks is fault) good = absurd (not_ok result _ fault good)
  took_first xs more t taken left result k parts (not_settled walks none fault) good = absurd (not_ok result _ fault good)
  took_first xs more t taken left result k parts (failed lists walks few none fault) good = absurd (not_ok result _ fault good)
  took_first xs more t taken left result k parts (starved lists walks few is fault) good = absurd (not_ok result _ fault good)
