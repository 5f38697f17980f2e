-- Folders that give releases are not refused.
use Rattle.std.proofs.Common.{◌≡◌, ℕ, List, [], ◌∷◌, ◌++◌, Option, None, Some, Result, Ok, Err, refl, sym, ap, ◌∙◌, subst, append_assoc}
use Rattle.td_base.specs.Views.{File, Rose, StoreView}
use Rattle.admission.specs.declared.rules.Chosen.{Chosen}
use Rattle.catalogue.specs.Releases.{ReleaseData}
use Rattle.installer.specs.declared.install_fault.InstallFault.{InstallFault}
use Rattle.installer.specs.declared.install_fault.InstallFault.TheVariants as install
use Rattle.release_check.specs.Before.{Before, before_of}
use Rattle.release_check.specs.Folder.{FolderGives}
use Rattle.release_check.specs.declared.check_fault.CheckFault.{CheckFault}
use Rattle.installer.specs.Installing.{refusal}
use Rattle.run_ends.specs.Completing.{FoldersAreGiven, IsComplete}
use Rattle.run_ends.specs.Folders.{FoldersGive, GivesAfter, IsRefusal, ServesNothing, StopsAtFault}
use Rattle.run_ends.specs.Folders as folders
use Rattle.run_ends.specs.Outside.{Outside}
use Rattle.run_ends.specs.declared.status.Status.{Status}
use Rattle.run_ends.proofs.lemmas.Completing.{memory}

-- a folder gives one thing alone
abbrev pub OneFolder : Type 0
OneFolder =
    (files : List File) (dir : List ℕ) (before : Before) (a b : Result ReleaseData CheckFault) → FolderGives files dir before a
    → FolderGives files dir before b → a ≡ b

same_ok : (r q : ReleaseData) (a b : Result ReleaseData CheckFault) → a ≡ b → a ≡ Ok r → b ≡ Ok q → r ≡ q
same_ok r q a b e is other = cc

not_fault : (r : ReleaseData) (f : CheckFault) (a b : Result ReleaseData CheckFault) → a ≡ b → a ≡ Ok r → b ≡ Err f → ⊥
not_fault r f a b e is other = cc

not_some : (k : ℕ) (o : Option ℕ) → o ≡ None → o ≡ Some k → ⊥
not_some k o e is = cc

-- the last of a list, if it has one
pub record HasLast (xs : List (List ℕ)) : Type 0 where
  pub init : List (List ℕ)
  pub last : List ℕ
  pub parts : xs ≡ init ++ last ∷ []

last_of : (x : List ℕ) (xs : List (List ℕ)) → HasLast (x ∷ xs)
last_of x [] = record { init = []; last = x; parts = refl }
last_of x (y ∷ ys) =
    let k = last_of y ys in
    record { init = x ∷ k.init; last = k.last; parts = ap (λ l. x ∷ l) k.parts }

not_empty : (xs : List (List ℕ)) (x : List ℕ) (rest : List (List ℕ)) → [] ≡ xs ++ x ∷ rest → ⊥
not_empty [] x rest e = absurd (cc)
not_empty (y ∷ ys) x rest e = absurd (cc)

same_front : (xs ys : List (List ℕ)) (x y : List ℕ) → xs ++ x ∷ [] ≡ ys ++ y ∷ [] → xs ≡ ys
same_front [] [] x y e = refl
same_front [] (b ∷ ys) x y e = absurd (not_empty ys y [] (cc))
same_front (a ∷ xs) [] x y e = absurd (not_empty xs x [] (cc))
same_front (a ∷ xs) (b ∷ ys) x y e =
    let rest : xs ++ x ∷ [] ≡ ys ++ y ∷ [] = cc in
    let first : a ≡ b = cc in
    ap (λ l. a ∷ l) (same_front xs ys x y rest) ∙ ap (λ z. z ∷ ys) first

same_last : (xs ys : List (List ℕ)) (x y : List ℕ) → xs ++ x ∷ [] ≡ ys ++ y ∷ [] → x ≡ y
same_last [] [] x y e = cc
same_last [] (b ∷ ys) x y e = absurd (not_empty ys y [] (cc))
same_last (a ∷ xs) [] x y e = absurd (not_empty xs x [] (cc))
same_last (a ∷ xs) (b ∷ ys) x y e =
    let rest : xs ++ x ∷ [] ≡ ys ++ y ∷ [] = cc in
    same_last xs ys x y rest

module _ (one : OneFolder) (files : List File) (rules : List Chosen) where
  same_release : (H : List ReleaseData) (dir : List ℕ) (r q : ReleaseData) → GivesAfter (Some files) rules H dir (Ok r)
      → GivesAfter (Some files) rules H dir (Ok q) → r ≡ q
  same_release H dir r q a b = same_ok r q (Ok r) (Ok q) (one files dir (before_of H) (Ok r) (Ok q) a.1 b.1) refl refl

  never_refuses : (H : List ReleaseData) (dir : List ℕ) (r : ReleaseData) (e : InstallFault) → GivesAfter (Some files) rules H dir (Ok r)
      → GivesAfter (Some files) rules H dir (Err e) → IsRefusal e → ⊥
  never_refuses H dir r install.NoMemory a b is = is
  never_refuses H dir r (install.Check f) a b is =
      not_fault r f (Ok r) (Err f) (one files dir (before_of H) (Ok r) (Err f) a.1 (b.1 is.0 is.1)) refl refl
  never_refuses H dir r (install.Policy k) a b is =
      let q = (b.1).0 in
      let same : r ≡ q = same_ok r q (Ok r) (Ok q) (one files dir (before_of H) (Ok r) (Ok q) a.1 (b.1).1) refl refl in
      not_some k (refusal rules H q) (subst (λ z. refusal rules H z ≡ None) same a.0) (b.1).2

  same_history : (D : List (List ℕ)) (H : List ReleaseData) (E : List (List ℕ)) (G : List ReleaseData) → FoldersGive (Some files) rules D H
      → FoldersGive (Some files) rules E G → D ≡ E → H ≡ G
  same_history D H E G folders.none folders.none same = refl
  same_history D H E G folders.none (folders.more dirs hs dir r give gives) same = absurd (not_empty dirs dir [] same)
  same_history D H E G (folders.more dirs hs dir r give gives) folders.none same = absurd (not_empty dirs dir [] (sym same))
  same_history D H E G (folders.more dirs hs dir r give gives) (folders.more others gs other q given given_by) same =
      let front = same_front dirs others dir other same in
      let name = same_last dirs others dir other same in
      let history = same_history dirs hs others gs give given front in
      let again : GivesAfter (Some files) rules hs dir (Ok q) =
      subst (λ h. GivesAfter (Some files) rules h dir (Ok q)) (sym history)
      (subst (λ d. GivesAfter (Some files) rules gs d (Ok q)) (sym name) given_by) in
      ap (λ h. h ++ r ∷ []) history ∙ ap (λ z. gs ++ z ∷ []) (same_release hs dir r q gives again)

  never_stops : (D : List (List ℕ)) (H : List ReleaseData) (first : List (List ℕ)) (dir : List ℕ) (rest : List (List ℕ)) (G : List ReleaseData)
      (e : InstallFault) → FoldersGive (Some files) rules D H → D ≡ first ++ dir ∷ rest → FoldersGive (Some files) rules first G
      → GivesAfter (Some files) rules G dir (Err e) → IsRefusal e → ⊥
  never_stops D H first dir rest G e folders.none parts give refused is = not_empty first dir rest parts
  never_stops D H first dir [] G e (folders.more dirs hs last r before gives) parts give refused is =
      let front = same_front dirs first last dir parts in
      let name = same_last dirs first last dir parts in
      let history = same_history dirs hs first G before give front in
      never_refuses G dir r e
      (subst (λ h. GivesAfter (Some files) rules h dir (Ok r)) history (subst (λ d. GivesAfter (Some files) rules hs d (Ok r)) name gives)) refused is
  never_stops D H first dir (x ∷ xs) G e (folders.more dirs hs last r before gives) parts give refused is =
      let k = last_of x xs in
      let whole : dirs ++ last ∷ [] ≡ (first ++ dir ∷ k.init) ++ k.last ∷ [] =
      parts ∙ ap (λ l. first ++ dir ∷ l) k.parts ∙ sym (append_assoc first (dir ∷ k.init) (k.last ∷ [])) in
      never_stops dirs hs first dir k.init G e before (same_front dirs (first ++ dir ∷ k.init) last k.last whole) give refused is

-- of a store that tells its files
pub never_stopped : OneFolder → (store : StoreView) (rules : List Chosen) (dirs : List (List ℕ)) (H : List ReleaseData) (e : InstallFault)
    → FoldersAreGiven store rules dirs → StopsAtFault store.files rules dirs H e → ⊥
never_stopped one store rules dirs H e k stops =
    let s = subst (λ o. StopsAtFault o rules dirs H e) k.told stops in
    never_stops one k.files rules dirs k.releases s.first s.dir s.rest H e k.give s.dirs_are s.give s.gives s.is_refusal

pub nothing_complete : OneFolder → (rules : List Chosen) (dirs : List (List ℕ)) (before after : Outside) (is : Status)
    → ServesNothing rules dirs before after is → FoldersAreGiven before.store rules dirs → (Rose before.store.faults after.store.faults → ⊥) → IsComplete is
nothing_complete one rules dirs before after is (folders.refused H e end stops printed input) k none =
    absurd (never_stopped one before.store rules dirs H e k stops)
nothing_complete one rules dirs before after is (folders.unread failed left) k none = absurd (none failed)
nothing_complete one rules dirs before after is (folders.out_of_memory left) k none = memory
