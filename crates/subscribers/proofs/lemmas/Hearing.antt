-- What a subscriber is owed as a history grows, and that it is told exactly that.
use Rattle.std.proofs.Common.{◌≡◌, ◌≢◌, ℕ, zero, suc, ◌+◌, ◌-◌, ◌≤◌, ◌==◌, true, false, if◌then◌else◌, List, [], ◌∷◌, ◌++◌, length, map, take, Option}
use Rattle.std.proofs.Common.{None, Some, IfSome, refl, sym, ap, ◌∙◌, subst, arith, true≢false, append_assoc, append-nil, ◌⊎◌, inl, inr}
use Rattle.std.specs.List.{filter_map, range_with_len}
use Rattle.std.specs.Option.{option_map, option_map_or}
use Rattle.std.proofs.lemmas.Bool.{eq-eqb, eqb-true}
use Rattle.std.proofs.lemmas.List.{length_push, take-append-le}
use Rattle.std.proofs.lemmas.List.Elements.{filter_map-append}
use Rattle.admission.specs.Differences.{difference}
use Rattle.catalogue.specs.Releases.{ReleaseData}
use Rattle.subscribers.specs.Hearing.{Audience, Event, HearsEachChangeOnce, audience_after, after_all, all_hear, cleared_by, cleared_by_all}
use Rattle.subscribers.specs.News.{news, notice_at, notice_of, numbered_from}
use Rattle.subscribers.specs.Views.{PreparedView, SubscriberView, and_then, changed_numbered, committed, emptied, newcomer, prepared, subscribers_of}
use Rattle.subscribers.specs.Views.{with_notice}
use Rattle.subscribers.specs.declared.notice.Notice.{Notice}
use Rattle.subscribers.specs.declared.wish.Wish.{Wish}
use Rattle.subscribers.proofs.lemmas.Numbered.{numbered_before, numbered_changed, numbered_last, numbered_map, numbered_pushed, numbered_unchanged}
use Rattle.subscribers.proofs.lemmas.Numbered.{numbered_none}

-- ---- the notice of a place

pub notice_at_last : (H : List ReleaseData) (r : ReleaseData) (wish : Wish)
    → notice_at (H ++ r ∷ []) wish (length H + 1) ≡ notice_of wish (length H + 1) (difference H r)
notice_at_last H r wish =
    let less : length H + 1 - 1 ≡ length H = omega arith in
    let before : take (length H + 1 - 1) (H ++ r ∷ []) ≡ H =
    ap (λ n. take n (H ++ r ∷ [])) less ∙ take-append-le (length H) H (r ∷ []) (omega arith) ∙ take_whole H in
    rw (numbered_last H r, before) refl
  where
    take_whole : {A : Type 0} (xs : List A) → take (length xs) xs ≡ xs
    take_whole [] = refl
    take_whole (x ∷ xs) = ap (λ ys. x ∷ ys) (take_whole xs)

notice_at_before : (H : List ReleaseData) (r : ReleaseData) (wish : Wish) (k : ℕ) → k ≤ length H → notice_at (H ++ r ∷ []) wish k ≡ notice_at H wish k
notice_at_before H r wish k le =
    rw (numbered_before H r k le, take-append-le (k - 1) H (r ∷ []) (omega arith)) refl

-- ---- what is owed

same_places : (H : List ReleaseData) (r : ReleaseData) (wish : Wish) (a n : ℕ) → a + n ≤ length H + 1
    → filter_map (notice_at (H ++ r ∷ []) wish) (range_with_len a n) ≡ filter_map (notice_at H wish) (range_with_len a n)
same_places H r wish a zero le = refl
same_places H r wish a (suc n) le =
    rw (notice_at_before H r wish a (omega arith), same_places H r wish (a + 1) n (omega arith)) refl

range_more : (a n : ℕ) → range_with_len a (n + 1) ≡ range_with_len a n ++ (a + n) ∷ []
range_more a zero = let same : a ≡ a + 0 = omega arith in ap (λ k. k ∷ []) same
range_more a (suc n) =
    let outer : suc n + 1 ≡ suc (n + 1) = omega arith in
    let place : a + 1 + n ≡ a + suc n = omega arith in
    ap (range_with_len a) outer ∙ ap (λ ks. a ∷ ks) (range_more (a + 1) n ∙ ap (λ k. range_with_len (a + 1) n ++ k ∷ []) place)

one_kept : (f : ℕ → Option Notice) (k : ℕ) (held : List Notice) → held ++ filter_map f (k ∷ []) ≡ and_then held (f k)
one_kept f k held =
    elim (f k) as (λ o. f k ≡ o → held ++ filter_map f (k ∷ []) ≡ and_then held o) [
      | None ↦ λ e. rw e (append-nil held)
      | Some notice ↦ λ e. rw e refl
    ] refl

-- a release more is a place more
pub news_grow : (H : List ReleaseData) (r : ReleaseData) (from : ℕ) (wish : Wish) → from ≤ length H
    → news (H ++ r ∷ []) from wish ≡ and_then (news H from wish) (notice_at (H ++ r ∷ []) wish (length (H ++ r ∷ [])))
unfolding news
news_grow H r from wish le =
    let more : length (H ++ r ∷ []) - from ≡ (length H - from) + 1 = rw length_push (omega arith) in
    let place : from + 1 + (length H - from) ≡ length (H ++ r ∷ []) = rw length_push (omega arith) in
    rw (
      more,
      range_more (from + 1) (length H - from),
      place,
      filter_map-append (notice_at (H ++ r ∷ []) wish) (range_with_len (from + 1) (length H - from)) (length (H ++ r ∷ []) ∷ []),
      same_places H r wish (from + 1) (length H - from) (omega arith),
    )
    (one_kept (notice_at (H ++ r ∷ []) wish) (length (H ++ r ∷ [])) _)

pub news_begin : (H : List ReleaseData) (wish : Wish) → news H (length H) wish ≡ []
unfolding news
news_begin H wish = let none : length H - length H ≡ 0 = omega arith in rw none refl

-- ---- what is prepared and then committed is what the new place brings

pub commits_news : (H : List ReleaseData) (r : ReleaseData) (place : ℕ) (all : List PreparedView) → place ≡ length (H ++ r ∷ [])
    → subscribers_of (map committed (map (prepared place (difference H r)) all)) ≡ all_hear (H ++ r ∷ []) (subscribers_of all)
commits_news H r place [] e = refl
commits_news H r place (p ∷ all) e =
    let at : place ≡ length H + 1 = e ∙ length_push H r in
    let one : notice_of p.subscriber.wish place (difference H r) ≡ notice_at (H ++ r ∷ []) p.subscriber.wish (length (H ++ r ∷ [])) =
    rw (length_push, at) (sym (notice_at_last H r p.subscriber.wish)) in
    rw (one, commits_news H r place all e) refl

-- ---- it is told exactly what it is owed

-- these notices were cleared for a subscriber, which holds the rest of what it is owed; or nothing
-- was, and there is none
abbrev pub IsTold : List ReleaseData → List Notice → Option SubscriberView → Type 0
IsTold H given None = given ≡ []
IsTold H given (Some s) = (s.from ≤ length H) × (given ++ s.held ≡ news H s.from s.wish)

none_more : (H : List ReleaseData) (given : List Notice) (o : Option SubscriberView) → IsTold H given o → IsTold H (given ++ []) o
none_more H given o told = subst (λ g. IsTold H g o) (sym (append-nil given)) told

and_then_after : (given held : List Notice) (o : Option Notice) → given ++ and_then held o ≡ and_then (given ++ held) o
and_then_after given held None = refl
and_then_after given held (Some notice) = sym (append_assoc given held (notice ∷ []))

hears_more : (H : List ReleaseData) (r : ReleaseData) (given : List Notice) (o : Option SubscriberView) → IsTold H given o
    → IsTold (H ++ r ∷ []) given (option_map (λ s. with_notice (notice_at (H ++ r ∷ []) s.wish (length (H ++ r ∷ []))) s) o)
hears_more H r given None told = told
hears_more H r given (Some s) told =
    let longer : s.from ≤ length (H ++ r ∷ []) = let le = told.0 in rw length_push (omega arith) in (
      longer,
      and_then_after given s.held _ ∙ ap (λ held. and_then held (notice_at (H ++ r ∷ []) s.wish (length (H ++ r ∷ [])))) told.1
          ∙ sym (news_grow H r s.from s.wish told.0),
    )

is_cleared : (H : List ReleaseData) (given : List Notice) (o : Option SubscriberView) → IsTold H given o
    → IsTold H (given ++ option_map_or (λ s. s.held) o []) (option_map emptied o)
is_cleared H given None told = append-nil given ∙ told
is_cleared H given (Some s) told = (told.0, append-nil (given ++ s.held) ∙ told.1)

pub event_told : (number : ℕ) (a : Audience) (e : Event) (given : List Notice) → IsTold a.history given (numbered_from a.subscribers number)
    → IsTold (audience_after a e).history (given ++ cleared_by number a e) (numbered_from (audience_after a e).subscribers number)
event_told number a (Event.Subscribes wish) given told =
    none_more a.history given _ (added (numbered_pushed a.subscribers (newcomer wish (length a.history)) number))
  where
    added : {o : Option SubscriberView} → (o ≡ numbered_from a.subscribers number) ⊎ ((numbered_from a.subscribers number ≡ None) × (o ≡ Some (newcomer wish (length a.history))))
        → IsTold a.history given o
    added (inl same) = subst (IsTold a.history given) (sym same) told
    added (inr here) =
        let none : given ≡ [] = subst (IsTold a.history given) here.0 told in
        subst (IsTold a.history given) (sym here.1) (omega arith, rw none (sym (news_begin a.history wish)))
event_told number a (Event.Grows r) given told =
    none_more (a.history ++ r ∷ []) given _
    (subst (IsTold (a.history ++ r ∷ []) given) (sym (numbered_map _ a.subscribers number)) (hears_more a.history r given _ told))
event_told number a Event.IsRefused given told = none_more a.history given _ told
event_told number a (Event.Clears other) given told =
    elim (number == other) as (λ b. number == other ≡ b
    → IsTold a.history (given ++ (if b then option_map_or (λ s. s.held) (numbered_from a.subscribers number) [] else []))
    (numbered_from (changed_numbered emptied other a.subscribers) number)) [
      | true ↦ λ e.
          let same : number ≡ other = eqb-true number other e in
          subst (IsTold a.history (given ++ option_map_or (λ s. s.held) (numbered_from a.subscribers number) []))
          (sym (ap (λ k. numbered_from (changed_numbered emptied k a.subscribers) number) (sym same) ∙ numbered_changed emptied number a.subscribers))
          (is_cleared a.history given _ told)
      | false ↦ λ e.
          none_more a.history given _ (subst (IsTold a.history given)
          (sym (numbered_unchanged emptied other number a.subscribers (λ same. true≢false (sym (eq-eqb number other (sym same)) ∙ e)))) told)
    ] refl

-- of several events
pub events_told : (number : ℕ) (events : List Event) (a : Audience) (given : List Notice) → IsTold a.history given (numbered_from a.subscribers number)
    → IsTold (after_all a events).history (given ++ cleared_by_all number a events) (numbered_from (after_all a events).subscribers number)
events_told number [] a given told = none_more a.history given _ told
events_told number (e ∷ events) a given told =
    subst (λ g. IsTold (after_all (audience_after a e) events).history g (numbered_from (after_all (audience_after a e) events).subscribers number))
    (append_assoc given (cleared_by number a e) (cleared_by_all number (audience_after a e) events))
    (events_told number events (audience_after a e) (given ++ cleared_by number a e) (event_told number a e given told))

pub told_is_owed : (H : List ReleaseData) (given : List Notice) (o : Option SubscriberView) → IsTold H given o
    → IfSome o (λ s. given ++ s.held ≡ news H s.from s.wish)
told_is_owed H given None told = tt
told_is_owed H given (Some s) told = told.1

pub hears_each_change_once : (H : List ReleaseData) (events : List Event) (number : ℕ) → HearsEachChangeOnce H events number
hears_each_change_once H events number =
    told_is_owed _ _ _ (events_told number events (record { history = H; subscribers = [] }) [] (subst (IsTold H []) (sym (numbered_none number)) refl))
