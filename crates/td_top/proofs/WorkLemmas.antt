-- Works that are made one after the other, and workers that learn one after the other.
use Rattle.std.proofs.Common.{◌≡◌, ℕ, List, [], ◌∷◌, ◌++◌, length, map, Bool, true, false, ◌||◌, All, Option, Some, IfSome, refl, sym, subst, ap, ◌∙◌, arith}
use Rattle.std.specs.List.{list_any}
use Rattle.std.specs.Option.{option_to_list}
use Rattle.std.proofs.lemmas.List.{map-append, length-append}
use Rattle.std.proofs.lemmas.List.Elements.{All-pop, All-push}
use Rattle.std.proofs.lemmas.List.Folds.{list_any-append}
use mathlib.Core.List.{IsPrefix}
use Rattle.td_base.specs.DoorViews.{DoorView}
use Rattle.td_base.specs.declared.report.Role.{Role}
use Rattle.catalogue.specs.declared.holding.Catalogue.{Catalogue}
use Rattle.connection.specs.DoorWorks.{WorkView}
use Rattle.connection.specs.declared.door_work.DoorDone.{DoorDone}
use Rattle.logbook.specs.Pages.{Book}
use Rattle.desk_pool.specs.Flag.{Sight}
use Rattle.publication.specs.Views.{DeskView}
use Rattle.run_ends.proofs.lemmas.Learning.{took_all}
use Rattle.td_top.specs.Works.{AreWorks, HasWorks, Learnt}
use Rattle.run_ends.specs.Opening.{HasSeen}

-- one fewer is left on each of two lists
pub still_as_many : {A B : Type 0} (xs xs' : List A) (x : A) (ys ys' : List B) (r : Option B) (y : B) → length xs ≡ length ys → xs ≡ x ∷ xs'
    → ys ≡ ys' ++ option_to_list r → r ≡ Some y → length xs' ≡ length ys'
still_as_many xs xs' x ys ys' r y many one other some =
    let popped : ys ≡ ys' ++ y ∷ [] = other ∙ ap (λ o. ys' ++ option_to_list o) some in
    omega (arith, many, ap length one, ap length popped, length-append ys' (y ∷ []))

-- ---- works

abbrev pub IsWork : Role → Book → ℕ → DoorView → WorkView → Type 0
IsWork server pair least door w = (w.role ≡ server) × (w.door ≡ door) × HasSeen pair least w.desk

works_after : (server : Role) (pair : Book) (least : ℕ) (doors : List DoorView) (works : List WorkView) (door : DoorView) (w : WorkView)
    → AreWorks server pair least doors works
    → IsWork server pair least door w → AreWorks server pair least (doors ++ door ∷ []) (works ++ w ∷ [])
works_after server pair least [] [] door w h is = (is, tt)
works_after server pair least [] (v ∷ vs) door w h is = absurd h
works_after server pair least (d ∷ ds) [] door w h is = absurd h
works_after server pair least (d ∷ ds) (v ∷ vs) door w h is = (h.0, works_after server pair least ds vs door w h.1 is)

pub works_more : {D : Type 0} (seen : D → DoorView) (server : Role) (pair : Book) (least : ℕ) (doors : List D) (works works' : List WorkView) (door : D)
    (w : WorkView)
    → AreWorks server pair least (map seen doors) works → works' ≡ works ++ w ∷ [] → IsWork server pair least (seen door) w
    → AreWorks server pair least (map seen (doors ++ door ∷ [])) works'
works_more seen server pair least doors works works' door w h e is =
    subst (λ ds. AreWorks server pair least ds works') (sym (map-append seen doors (door ∷ [])))
    (subst (λ ws. AreWorks server pair least (map seen doors ++ seen door ∷ []) ws) (sym e)
    (works_after server pair least (map seen doors) works (seen door) w h is))

-- a work of a desk that was one of such desks
pub is_work : (server : Role) (pair : Book) (least : ℕ) (door : DoorView) (w v : WorkView) (all left : List (DeskView (Catalogue (List ℕ))))
    (r : Option (DeskView (Catalogue (List ℕ))))
    (desk : DeskView (Catalogue (List ℕ))) → w ≡ v → v.role ≡ server → v.door ≡ door → v.desk ≡ desk → all ≡ left ++ option_to_list r → r ≡ Some desk
    → All (HasSeen pair least) all → IsWork server pair least door w
is_work server pair least door w v all left r desk e role_is door_is desk_is popped some h =
    let held : IfSome r (HasSeen pair least) = (All-pop (HasSeen pair least) all left r popped h).1 in
    let has : HasSeen pair least desk = subst (λ o. IfSome o (HasSeen pair least)) some held in
    (ap (λ u. u.role) e ∙ role_is, ap (λ u. u.door) e ∙ door_is, subst (HasSeen pair least) (sym (ap (λ u. u.desk) e ∙ desk_is)) has)

-- every work has the flag's sign, also with one more, as the flag stays
pub signs_more : (flag flag' sign : Sight) (works works' : List WorkView) (w : WorkView) → All (λ v. v.stop ≡ flag) works → works' ≡ works ++ w ∷ []
    → flag' ≡ flag → w.stop ≡ sign → sign ≡ flag → All (λ v. v.stop ≡ flag') works'
signs_more flag flag' sign works works' w h more same is of =
    subst (λ f. All (λ (v : WorkView). v.stop ≡ f) works') (sym same)
    (subst (λ vs. All (λ (v : WorkView). v.stop ≡ flag) vs) (sym more) (All-push (λ v. v.stop ≡ flag) works w h (is ∙ of)))

pub has_works : (server : Role) (pair : Book) (least : ℕ) (doors : List DoorView) (works : List WorkView) → AreWorks server pair least doors works
    → HasWorks pair works
has_works server pair least doors works are = (server, least, doors, are)

-- ---- workers that learn

or_false : (b : Bool) → (b || false) ≡ b
or_false true = refl
or_false false = refl

pub any_more : {A : Type 0} (p : A → Bool) (xs : List A) (x : A) (b c : Bool) → b ≡ list_any p xs → c ≡ (b || p x) → c ≡ list_any p (xs ++ x ∷ [])
any_more p xs x b c all one =
    one ∙ (ap (λ a. a || p x) all ∙ (ap (λ a. list_any p xs || a) (sym (or_false (p x))) ∙ sym (list_any-append p xs (x ∷ []))))

pub doors_more : {D C : Type 0} (dones : List (DoorDone D C)) (done : DoorDone D C) (doors doors' : List D) → doors ≡ map (λ d. d.door) dones
    → doors' ≡ doors ++ done.door ∷ [] → doors' ≡ map (λ d. d.door) (dones ++ done ∷ [])
doors_more dones done doors doors' all one =
    one ∙ (ap (λ ds. ds ++ done.door ∷ []) all ∙ sym (map-append (λ d. d.door) dones (done ∷ [])))

pub learnt_all : {D C : Type 0} (list : List (Catalogue (List ℕ))) (yielded left dones : List (DoorDone D C)) (doors : List D) (worn : Bool)
    → yielded ++ left ≡ dones → left ≡ [] → doors ≡ map (λ d. d.door) yielded → worn ≡ list_any (λ d. d.worn) yielded
    → All (λ d. IsPrefix d.desk.seen list) yielded → Learnt list dones doors worn
learnt_all list yielded left dones doors worn whole none are any seen =
    subst (λ ds. Learnt list ds doors worn) (took_all yielded left dones whole none) (record { doors_are = are; worn_is = any; seen = seen })
