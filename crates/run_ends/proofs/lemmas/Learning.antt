-- Desks that learn, one after the other, what was published before.
use Rattle.std.proofs.Common.{◌≡◌, ℕ, List, [], ◌∷◌, ◌++◌, length, All, sym, subst, ap, ◌∙◌, arith}
use Rattle.std.proofs.Common.{append_assoc, append-nil}
use Rattle.std.proofs.lemmas.List.{length-append}
use Rattle.std.proofs.lemmas.List.Elements.{All-push}
use mathlib.Core.List.{IsPrefix}
use Rattle.td_base.proofs.lemmas.Beginnings.{prefix_length}
use Rattle.catalogue.specs.declared.holding.Catalogue.{Catalogue}
use Rattle.logbook.specs.Pages.{Book}
use Rattle.publication.specs.Views.{DeskView}
use Rattle.run_ends.specs.Opening.{HasSeen}

-- what was taken off a list, with one more, and what is left of it
pub takes_more : {T : Type 0} (done left : List T) (t : T) (rest all : List T) → done ++ left ≡ all → left ≡ t ∷ rest → done ++ t ∷ [] ++ rest ≡ all
takes_more done left t rest all whole next = append_assoc done (t ∷ []) rest ∙ ap (λ ts. done ++ ts) (sym next) ∙ whole

pub took_all : {T : Type 0} (done left all : List T) → done ++ left ≡ all → left ≡ [] → done ≡ all
took_all done left all whole none = sym (append-nil done) ∙ (ap (λ ts. done ++ ts) (sym none) ∙ whole)

pub seen_more : (pair : Book) (list : List (Catalogue (List ℕ))) (desks desks' : List (DeskView (Catalogue (List ℕ)))) (d : DeskView (Catalogue (List ℕ)))
    → All (HasSeen pair (length list)) desks → desks' ≡ desks ++ d ∷ [] → d.pair ≡ pair → IsPrefix list d.seen → All (HasSeen pair (length list)) desks'
seen_more pair list desks desks' d h e is longer =
    subst (All (HasSeen pair (length list))) (sym e)
    (All-push (HasSeen pair (length list)) desks d h (record { pair_is = is; many = prefix_length list d.seen longer }))

-- as many were taken as are there, with one more
pub as_many : {A B : Type 0} (xs : List A) (x : A) (ys ys' : List B) (y : B) → length ys ≡ length xs → ys' ≡ ys ++ y ∷ [] → length ys' ≡ length (xs ++ x ∷ [])
as_many xs x ys ys' y same e = omega (arith, same, ap length e, length-append ys (y ∷ []), length-append xs (x ∷ []))
