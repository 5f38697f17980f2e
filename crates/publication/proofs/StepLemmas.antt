-- Each step keeps the rule.
use Rattle.std.proofs.Common.{◌≡◌, ◌≢◌, ℕ, ◌<◌, List, [], ◌∷◌, length, set, Option, Some, None, refl, ap, sym, subst, ◌∙◌, ⊎_elim, arith}
use mathlib.Core.Option.{some, some-ne-none}
use mathlib.Core.List.{IsPrefix}
use lib.ListN.{get_elem?}
use Rattle.publication.specs.declared.view.Home.{Home}
use Rattle.atomic_table.proofs.Lists.{at_set, at_snoc, set_again}
use Rattle.crossbeam_utils.specs.Register.{Admits, TurnsAt, Turns, Forks, Merges}
use Rattle.publication.specs.declared.view.View.{View}
use Rattle.publication.specs.declared.view.SeatRole.{SeatRole}
use Rattle.publication.specs.declared.view.SeatRole.TheVariants.{Spent, Publisher, Desk}
use Rattle.publication.specs.ShownRule.{no_home, spent, FitsAs, opened, told, taken_over, entered_view, logged, homed, ShownHolds, OpensView, Publishes}
use Rattle.publication.specs.ShownRule.{Enters}
use Rattle.td_base.proofs.lemmas.Beginnings.{prefix_self, prefix_trans, prefix_length}

module _ {V : Type 0} where
  -- every seat fits once the one that moved does, and the others do
  set_fits : (list : List V) (home : Home) (publisher seat : ℕ) (views : List (View V)) (w : View V) → FitsAs w.role list home publisher seat w
      → ((j : ℕ) (u : View V) → j ≢ seat → get_elem? views j ≡ some u → FitsAs u.role list home publisher j u)
      → (j : ℕ) (u : View V) → get_elem? (set views seat w) j ≡ some u → FitsAs u.role list home publisher j u
  set_fits list home publisher seat views w mine others j u e =
      ⊎_elim (λ (t : (j ≡ seat) × (w ≡ u)). subst (λ (z : View V). FitsAs z.role list home publisher j z) t.1
      (subst (λ (k : ℕ). FitsAs w.role list home publisher k w) (sym t.0) mine))
      (λ (t : (j ≢ seat) × (get_elem? views j ≡ some u)). others j u t.0 t.1)
      (at_set views seat j w u e)

  -- where nothing is shown yet, each seat is spent
  first_grows : (r : SeatRole) (list : List V) (home : Home) (publisher : ℕ) (new : List V) (newhome : Home) (seat j : ℕ) (u : View V)
      → length list ≡ 0 → FitsAs r list home publisher j u → FitsAs r new newhome seat j u
  first_grows Spent list home publisher new newhome seat j u none h = tt
  first_grows Publisher list home publisher new newhome seat j u none h = absurd (omega (arith, h.3, none))
  first_grows Desk list home publisher new newhome seat j u none h = absurd (omega (arith, h.0, prefix_length u.list list h.1, none))

  grows : (r : SeatRole) (list : List V) (home : Home) (publisher j : ℕ) (u : View V) (new : List V) → IsPrefix list new → j ≢ publisher
      → FitsAs r list home publisher j u → FitsAs r new home publisher j u
  grows Spent list home publisher j u new more other h = tt
  grows Publisher list home publisher j u new more other h = absurd (other h.0)
  grows Desk list home publisher j u new more other h = (h.0, prefix_trans u.list list new h.1 more, h.2)

module _ {X V : Type 0} (log : X → List V) (book : X → Home) where
  -- a list that is not empty is that of an entry
  shown_entry : (o : Option X) (list : List V) (home : Home) → logged log book o ≡ list → homed log book home o ≡ home → 0 < length list
      → (e : X) × (o ≡ Some e) × (log e ≡ list) × (book e ≡ home)
  shown_entry (Some e) list home is at size = (e, refl, is, at)
  shown_entry None list home is at size = absurd (let l = ap length is in omega (arith, l, size))

module _ {T X V : Type 0} (content : T → Option X) (log : X → List V) (book : X → Home) where
  pub admits : Admits (ShownHolds content log book) spent
  admits x views h = record {
    list = h.list;
    home = h.home;
    publisher = h.publisher;
    shown = h.shown;
    shown_home = h.shown_home;
    fits = λ j u e. ⊎_elim (h.fits j u) (λ (s : spent ≡ u). subst (λ (z : View V). FitsAs z.role h.list h.home h.publisher j z) s tt)
        (at_snoc views spent u j e);
  }

  pub starts : (x : T) → content x ≡ None → ShownHolds content log book x (spent ∷ [])
  starts x none = record {
    list = [];
    home = no_home;
    publisher = 0;
    shown = ap (logged log book) none;
    shown_home = ap (homed log book no_home) none;
    fits = λ j u e. ⊎_elim (λ (a : get_elem? [] j ≡ some u). absurd (some-ne-none u (sym a)))
        (λ (s : spent ≡ u). subst (λ (z : View V). FitsAs z.role [] no_home 0 j z) s tt) (at_snoc [] spent u j e);
  }

  pub opens : (seat : ℕ) (v : View V) (x y : T) (e : X) → content x ≡ None → content y ≡ Some e → 0 < length (log e)
      → TurnsAt (ShownHolds content log book) seat v x y (OpensView content log book)
  opens seat v x y e none shows some_value views h at =
      let empty : length h.list ≡ 0 = ap length (sym h.shown ∙ ap (logged log book) none) in (
        opened (book e) (log e),
        record {
          list = log e;
          home = book e;
          publisher = seat;
          shown = ap (logged log book) shows;
          shown_home = ap (homed log book (book e)) shows;
          fits = set_fits (log e) (book e) seat seat views (opened (book e) (log e)) (refl, refl, refl, some_value)
              (λ j u other a. first_grows u.role h.list h.home h.publisher (log e) (book e) seat j u empty (h.fits j u a));
        },
        (e, shows, refl),
      )

  pub publishes : (seat : ℕ) (v : View V) (x y : T) (e : X) → v.role ≡ Publisher → content y ≡ Some e → IsPrefix v.list (log e) → book e ≡ v.home
      → TurnsAt (ShownHolds content log book) seat v x y (Publishes content log book)
  publishes seat v x y e role shows more same views h at =
      let mine : (seat ≡ h.publisher) × (v.list ≡ h.list) × (v.home ≡ h.home) × (0 < length h.list) =
      subst (λ (r : SeatRole). FitsAs r h.list h.home h.publisher seat v) role (h.fits seat v at) in
      let w : View V = record v { list = log e } in
      let longer : IsPrefix h.list (log e) = subst (λ (l : List V). IsPrefix l (log e)) mine.1 more in
      let size : 0 < length (log e) = omega (arith, mine.3, prefix_length h.list (log e) longer) in (
        w,
        record {
          list = log e;
          home = h.home;
          publisher = seat;
          shown = ap (logged log book) shows;
          shown_home = ap (homed log book h.home) shows ∙ (same ∙ mine.2);
          fits = set_fits (log e) h.home seat seat views w
              (subst (λ (r : SeatRole). FitsAs r (log e) h.home seat seat w) (sym role) (refl, refl, mine.2, size))
              (λ j u other a. grows u.role h.list h.home seat j u (log e) longer other
              (subst (λ (k : ℕ). FitsAs u.role h.list h.home k j u) (sym mine.0) (h.fits j u a)));
        },
        (e, shows, refl),
      )

  pub enters : (seat : ℕ) (v : View V) → v.role ≡ Desk → Turns (ShownHolds content log book) seat v (λ x. x) (Enters content log book)
  enters seat v role x views h at =
      let mine : (0 < length v.list) × IsPrefix v.list h.list × (v.home ≡ h.home) =
      subst (λ (r : SeatRole). FitsAs r h.list h.home h.publisher seat v) role (h.fits seat v at) in
      let size : 0 < length h.list = omega (arith, mine.0, prefix_length v.list h.list mine.1) in
      let s = shown_entry log book (content x) h.list h.home h.shown h.shown_home size in
      let w : View V = entered_view v (log s.0) in
      let size' : 0 < length (log s.0) = subst (λ (l : List V). 0 < length l) (sym s.2) size in
      let all : IsPrefix (log s.0) h.list = subst (λ (l : List V). IsPrefix l h.list) (sym s.2) (prefix_self h.list) in (
        w,
        record {
          list = h.list;
          home = h.home;
          publisher = h.publisher;
          shown = h.shown;
          shown_home = h.shown_home;
          fits = set_fits h.list h.home h.publisher seat views w (size', all, mine.2) (λ j u other a. h.fits j u a);
        },
        (s.0, s.1, refl, subst (λ (l : List V). IsPrefix v.list l) (sym s.2) mine.1, s.3 ∙ sym mine.2),
      )

  pub forks : (seat : ℕ) (v : View V) → v.role ≡ Publisher → Forks (ShownHolds content log book) seat v v (told v)
  forks seat v role x views h at =
      let mine : (seat ≡ h.publisher) × (v.list ≡ h.list) × (v.home ≡ h.home) × (0 < length h.list) =
      subst (λ (r : SeatRole). FitsAs r h.list h.home h.publisher seat v) role (h.fits seat v at) in
      let fit : FitsAs Desk h.list h.home h.publisher seat (told v) =
      (subst (λ (l : List V). 0 < length l) (sym mine.1) mine.3, subst (λ (l : List V). IsPrefix v.list l) mine.1 (prefix_self v.list), mine.2) in
      record {
        list = h.list;
        home = h.home;
        publisher = h.publisher;
        shown = h.shown;
        shown_home = h.shown_home;
        fits = λ j u e. ⊎_elim
            (λ (a : get_elem? (set views seat v) j ≡ some u). h.fits j u
            (subst (λ (l : List (View V)). get_elem? l j ≡ some u) (set_again views seat v at) a))
            (λ (s : told v ≡ u). subst (λ (z : View V). FitsAs z.role h.list h.home h.publisher j z) s fit)
            (at_snoc (set views seat v) (told v) u j e);
      }

  pub takes_over : (seat : ℕ) (v : View V) (other : ℕ) (n : View V) → n.role ≡ Desk
      → Merges (ShownHolds content log book) seat v other n (taken_over v n) spent
  takes_over seat v other n role x views h at apart there =
      let both = taken_over v n in
      let theirs : get_elem? views other ≡ some n =
      ⊎_elim (λ (t : (other ≡ seat) × (both ≡ n)). absurd (apart t.0)) (λ (t : (other ≢ seat) × (get_elem? views other ≡ some n)). t.1)
      (at_set views seat other both n there) in
      let fit : (0 < length n.list) × IsPrefix n.list h.list × (n.home ≡ h.home) =
      subst (λ (r : SeatRole). FitsAs r h.list h.home h.publisher other n) role (h.fits other n theirs) in
      record {
        list = h.list;
        home = h.home;
        publisher = h.publisher;
        shown = h.shown;
        shown_home = h.shown_home;
        fits = set_fits h.list h.home h.publisher other (set views seat both) spent tt
            (λ j u e at'. set_fits h.list h.home h.publisher seat views both fit (λ k t o a. h.fits k t a) j u at');
      }
