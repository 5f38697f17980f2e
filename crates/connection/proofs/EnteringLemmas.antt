-- What becomes of a desk that enters for one request after the other.
use Rattle.std.proofs.Common.{◌≡◌, ℕ, ◌+◌, ◌≤◌, List, [], ◌∷◌, ◌++◌, length, true, inl, inr, Ok, Err, Some, None, Result, Option, refl, sym, ap, ◌∙◌}
use Rattle.std.proofs.Common.{subst, arith}
use Rattle.std.specs.List.{AllByRecursion}
use mathlib.Core.List.{IsPrefix}
use Rattle.publication.specs.Views.{DeskView}
use Rattle.td_base.proofs.lemmas.Beginnings.{prefix_self, prefix_trans, prefix_length}
use Rattle.td_base.specs.declared.report.End.{End}
use Rattle.td_base.specs.declared.report.End.TheVariants as end
use Rattle.td_base.specs.Views.{ConnView}
use Rattle.td_base.specs.declared.no_memory.NoMemory.{NoMemory}
use Rattle.td_base.specs.declared.report.Role.{Role}
use Rattle.catalogue.specs.declared.holding.Catalogue.{Catalogue}
use Rattle.http_request.specs.declared.head.Head.{Head}
use Rattle.connection.specs.Answering.{AnswersOne, EntersOn, IsUnanswered, TakesPlace}
use Rattle.connection.specs.Entering.{EntersFor, EntersAt, EntersEach, GoesOn, HasCounted, IsRefused}

-- one enter for each place, and none more
none_more : (n before : ℕ) (ps : List ℕ) (e : End) → n ≡ before + length ps → HasCounted before ps n e
none_more n before ps e h = (omega (arith, h), omega (arith, h))

module _ {V : Type 0} where
  pub enters_more : (a b c : DeskView V) (ps : List ℕ) (p : ℕ) → EntersEach a ps b → EntersAt b p c → EntersEach a (ps ++ p ∷ []) c
  enters_more a b c [] p e x = (c, subst (λ z. EntersAt z p c) e x, refl)
  enters_more a b c (q ∷ ps) p e x = (e.0, e.1, enters_more e.0 b c ps p e.2 x)

  pub entered : (a b : DeskView V) (p : ℕ) → (b.enters ≡ a.enters + 1) × (b.seen ≡ b.entered) → b.pair ≡ a.pair → IsPrefix a.seen b.seen
      → (a.ended ≡ true → (b.seen ≡ a.seen) × (b.ended ≡ true)) → p ≡ length b.seen → EntersAt a p b
  entered a b p step pair longer over place = record {
    enters = step.0;
    holds = step.1;
    place_is = place;
    goes_on = record { pair = pair; longer = longer; ended = over };
  }

  -- the enter was refused
  pub not_entered : (a b : DeskView V) → (b.seen ≡ a.seen) × (b.ended ≡ a.ended) × (a.enters ≤ b.enters) × (b.enters ≤ a.enters + 1)
      → b.pair ≡ a.pair → IsPrefix a.seen b.seen → (a.ended ≡ true → (b.seen ≡ a.seen) × (b.ended ≡ true)) → IsRefused a b
  not_entered a b e pair longer over = record {
    enters = (e.2, e.3);
    seen = e.0;
    goes_on = record { pair = pair; longer = longer; ended = over };
  }

  -- ---- a desk goes on

  pub goes_on_same : (a b : DeskView V) → b ≡ a → GoesOn a b
  goes_on_same a b e = record {
    pair = ap (λ d. d.pair) e;
    longer = subst (λ l. IsPrefix a.seen l) (sym (ap (λ d. d.seen) e)) (prefix_self a.seen);
    ended = λ h. (ap (λ d. d.seen) e, ap (λ d. d.ended) e ∙ h);
  }

  pub goes_on_both : (a b c : DeskView V) → GoesOn a b → GoesOn b c → GoesOn a c
  goes_on_both a b c p q = record {
    pair = q.pair ∙ p.pair;
    longer = prefix_trans a.seen b.seen c.seen p.longer q.longer;
    ended = λ h. ((q.ended (p.ended h).1).0 ∙ (p.ended h).0, (q.ended (p.ended h).1).1);
  }

  each_goes_on : (a b : DeskView V) (ps : List ℕ) → EntersEach a ps b → GoesOn a b
  each_goes_on a b [] e = goes_on_same a b e
  each_goes_on a b (p ∷ ps) e = goes_on_both a e.0 b e.1.goes_on (each_goes_on e.0 b ps e.2)

  pub goes_on : (a b : DeskView V) (ps : List ℕ) (e : End) → EntersFor a ps b e → GoesOn a b
  goes_on a b ps end.Closed h = each_goes_on a b ps h
  goes_on a b ps end.ReadFault h = each_goes_on a b ps h
  goes_on a b ps end.WriteFault h = each_goes_on a b ps h
  goes_on a b ps end.NoMemory (c, h, inl same) = goes_on_both a c b (each_goes_on a c ps h) (goes_on_same c b same)
  goes_on a b ps end.NoMemory (c, h, inr refused) = goes_on_both a c b (each_goes_on a c ps h) refused.goes_on

  -- ---- how often it entered

  each_counted : (a b : DeskView V) (ps : List ℕ) → EntersEach a ps b → b.enters ≡ a.enters + length ps
  each_counted a b [] e = omega (arith, ap (λ d. d.enters) e)
  each_counted a b (p ∷ ps) e = omega (arith, e.1.enters, each_counted e.0 b ps e.2)

  pub counted : (a b : DeskView V) (ps : List ℕ) (e : End) → EntersFor a ps b e → HasCounted a.enters ps b.enters e
  counted a b ps end.Closed h = none_more b.enters a.enters ps end.Closed (each_counted a b ps h)
  counted a b ps end.ReadFault h = none_more b.enters a.enters ps end.ReadFault (each_counted a b ps h)
  counted a b ps end.WriteFault h = none_more b.enters a.enters ps end.WriteFault (each_counted a b ps h)
  counted a b ps end.NoMemory (c, h, inl same) =
      let n = each_counted a c ps h in
      let m = ap (λ d. d.enters) same in (omega (arith, n, m), omega (arith, n, m))
  counted a b ps end.NoMemory (c, h, inr refused) =
      let n = each_counted a c ps h in (omega (arith, n, refused.enters.0), omega (arith, n, refused.enters.1))

  -- one enter for each place is what there is at any end
  pub for_each : (a b : DeskView V) (ps : List ℕ) (e : End) → EntersEach a ps b → EntersFor a ps b e
  for_each a b ps end.Closed h = h
  for_each a b ps end.ReadFault h = h
  for_each a b ps end.WriteFault h = h
  for_each a b ps end.NoMemory h = (b, h, inl refl)

  -- ---- the places

  each_from : (n : ℕ) (a b : DeskView V) (ps : List ℕ) → n ≤ length a.seen → EntersEach a ps b → AllByRecursion (λ p. n ≤ p) ps
  each_from n a b [] le e = tt
  each_from n a b (p ∷ ps) le e =
      let longer : length a.seen ≤ length e.0.seen = prefix_length a.seen e.0.seen e.1.goes_on.longer in
      (omega (arith, le, longer, e.1.place_is), each_from n e.0 b ps (omega (arith, le, longer)) e.2)

  pub first : (a b : DeskView V) (ps : List ℕ) (e : End) → EntersFor a ps b e → AllByRecursion (λ p. length a.seen ≤ p) ps
  first a b ps end.Closed h = each_from (length a.seen) a b ps (omega arith) h
  first a b ps end.ReadFault h = each_from (length a.seen) a b ps (omega arith) h
  first a b ps end.WriteFault h = each_from (length a.seen) a b ps (omega arith) h
  first a b ps end.NoMemory h = each_from (length a.seen) a h.0 ps (omega arith) h.1

  each_at : (n : ℕ) (a b : DeskView V) (ps : List ℕ) → length a.seen ≡ n → a.ended ≡ true → EntersEach a ps b → AllByRecursion (λ p. p ≡ n) ps
  each_at n a b [] is over e = tt
  each_at n a b (p ∷ ps) is over e =
      let same = e.1.goes_on.ended over in
      let size : length e.0.seen ≡ n = ap length same.0 ∙ is in (e.1.place_is ∙ size, each_at n e.0 b ps size same.1 e.2)

  -- a desk that has seen the end answers at the last place
  pub at_end : (a b : DeskView V) (ps : List ℕ) (e : End) → EntersFor a ps b e → a.ended ≡ true → AllByRecursion (λ p. p ≡ length a.seen) ps
  at_end a b ps end.Closed h over = each_at (length a.seen) a b ps refl over h
  at_end a b ps end.ReadFault h over = each_at (length a.seen) a b ps refl over h
  at_end a b ps end.WriteFault h over = each_at (length a.seen) a b ps refl over h
  at_end a b ps end.NoMemory h over = each_at (length a.seen) a h.0 ps refl over h.1

-- ---- one request

module _ (first desk later : DeskView (Catalogue (List ℕ))) (role : Role) (head : Head) (a b : ConnView) (places more : List ℕ)
    (e : EntersEach first places desk) where
  placed : TakesPlace desk later places more → EntersEach first more later
  placed t = subst (λ ps. EntersEach first ps later) (sym t.places_are) (enters_more first desk later places t.place e t.enters)

  unanswered : IsUnanswered desk later role head a b places more → EntersFor first more later end.NoMemory
  unanswered u = elim u.why [
    | inl t ↦ (later, placed t, inl refl)
    | inr r ↦ subst (λ ps. EntersFor first ps later end.NoMemory) (sym r.1) (desk, e, inr r.0)
  ]

  pub answered : (result : Result (Option End) NoMemory) → AnswersOne desk later role head a b places more result
      → EntersOn first more later result
  answered (Ok None) x = placed x.0.takes
  answered (Ok (Some end.Closed)) x = placed x.0.takes
  answered (Ok (Some end.WriteFault)) x = placed x.takes
  answered (Ok (Some end.ReadFault)) x = absurd x
  answered (Ok (Some end.NoMemory)) x = absurd x
  answered (Err fault) x = unanswered x
