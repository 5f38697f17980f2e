-- Each step keeps the rule of the flag.
use Rattle.std.proofs.Common.{◌≡◌, ◌≢◌, ℕ, Bool, true, false, List, [], ◌∷◌, set, slice_index, refl, sym, ap, subst, ◌∙◌, ⊎_elim}
use mathlib.Core.Option.{some, none}
use lib.ListN.{get_elem?}
use Rattle.atomic_table.proofs.Lists.{at_set, at_snoc, set_again}
use Rattle.atomic_table.specs.Table.{step, Allows, Splits, keeps}
use Rattle.desk_pool.specs.declared.knows.Knows.{Knows}
use Rattle.desk_pool.specs.Flag.{knows, shared_right, word_of, FitsFlag, Holds, Raises, LooksAtFlag}

no_mark : {A : Type 0} → false ≡ true → A
no_mark e = absurd (cc e)

set_fits : (views : List Knows) (seat : ℕ) (w : Knows) (raised : Bool) (flag : ℕ) → FitsFlag w.owns w.raised raised flag seat
    → ((j : ℕ) (u : Knows) → j ≢ seat → get_elem? views j ≡ some u → FitsFlag u.owns u.raised raised flag j)
    → (j : ℕ) (u : Knows) → get_elem? (set views seat w) j ≡ some u → FitsFlag u.owns u.raised raised flag j
set_fits views seat w raised flag mine others j u e =
    ⊎_elim (λ (t : (j ≡ seat) × (w ≡ u)).
    subst (λ (z : Knows). FitsFlag z.owns z.raised raised flag j) t.1 (subst (λ (k : ℕ). FitsFlag w.owns w.raised raised flag k) (sym t.0) mine))
    (λ (t : (j ≢ seat) × (get_elem? views j ≡ some u)). others j u t.0 t.1)
    (at_set views seat j w u e)

others_raised : (owns raised is : Bool) (flag j : ℕ) → j ≢ flag → FitsFlag owns raised is flag j → FitsFlag owns raised true flag j
others_raised true raised is flag j other h = absurd (other h.0)
others_raised false raised is flag j other h = λ e. refl

pub raises : (slots id : ℕ) (v : Knows) (m : List (ℕ × Unit {0})) → v.owns ≡ true
    → Allows Holds slots id (v, m) 0 (λ _. 1) (λ _. Raises (step slots 0 1 0 none) (v, m) 1)
raises slots id v m owns s h size at fits =
    let mine : (id ≡ h.flag) × (v.raised ≡ h.raised) = subst (λ (b : Bool). FitsFlag b v.raised h.raised h.flag id) owns (h.seats id v at) in (
      knows true true,
      keeps,
      tt,
      record {
        raised = true;
        flag = id;
        words = ap (λ (ws : List ℕ). set ws 0 1) h.words;
        seats = set_fits s.views id (knows true true) true id (refl, refl)
            (λ j u other e. others_raised u.owns u.raised h.raised id j other
            (subst (λ (k : ℕ). FitsFlag u.owns u.raised h.raised k j) (sym mine.0) (h.seats j u e)));
      },
      refl,
    )

pub looks : (slots id : ℕ) (v : Knows) (m : List (ℕ × Unit {0})) → v.owns ≡ false
    → Allows Holds slots id (v, m) 0 (λ n. n) (LooksAtFlag (step slots 0 0 0 none) (v, m))
looks slots id v m owns s h size at fits =
    let mine : v.raised ≡ true → h.raised ≡ true = subst (λ (b : Bool). FitsFlag b v.raised h.raised h.flag id) owns (h.seats id v at) in
    let word : slice_index s.words 0 ≡ word_of h.raised = ap (λ (ws : List ℕ). slice_index ws 0) h.words in (
      knows false h.raised,
      keeps,
      tt,
      record {
        raised = h.raised;
        flag = h.flag;
        words = ap (λ (ws : List ℕ). set ws 0 (slice_index s.words 0)) h.words ∙ ap (λ (n : ℕ). n ∷ []) word;
        seats = set_fits s.views id (knows false h.raised) h.raised h.flag (λ e. e) (λ j u other e. h.seats j u e);
      },
      (h.raised, word, refl, mine),
    )

pub forks : (id : ℕ) (v : Knows) → Splits Holds id v v (shared_right v)
forks id v s h at = record {
  raised = h.raised;
  flag = h.flag;
  words = h.words;
  seats = λ j u e. ⊎_elim
      (λ (a : get_elem? (set s.views id v) j ≡ some u). h.seats j u (subst (λ (l : List Knows). get_elem? l j ≡ some u) (set_again s.views id v at) a))
      (λ (w : knows false false ≡ u). subst (λ (z : Knows). FitsFlag z.owns z.raised h.raised h.flag j) w (λ e. no_mark e))
      (at_snoc (set s.views id v) (shared_right v) u j e);
}
