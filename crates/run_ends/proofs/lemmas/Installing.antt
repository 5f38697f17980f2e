-- How a row of folders is installed, one after another.
use Rattle.std.proofs.Common.{◌≡◌, ℕ, ◌+◌, ◌-◌, ◌<◌, List, [], ◌∷◌, ◌++◌, length, take, drop}
use Rattle.std.proofs.Common.{get_or, false, All, Option, None, Some, IfSome, IsErrOf, Result, Ok}
use Rattle.std.proofs.Common.{Err, refl, sym, subst, ap, ◌∙◌, append_assoc, arith}
use Rattle.std.proofs.lemmas.List.{length-append, take-append-drop, take_all}
use Rattle.std.specs.Option.{option_to_list}
use Rattle.std.proofs.lemmas.List.Elements.{All-pop, All-weaker}
use Rattle.admission.specs.Rules.{first_refusing}
use Rattle.admission.specs.declared.rules.Chosen.{Chosen}
use Rattle.td_base.specs.Views.{File, LaterStore, StoreView}
use Rattle.td_base.proofs.lemmas.LaterLemmas.{store_refl, store_trans}
use Rattle.catalogue.specs.Releases.{ReleaseData}
use Rattle.catalogue.specs.declared.holding.Catalogue.{Catalogue}
use Rattle.installer.specs.Installing.{GrowsBy, Installed, Installs, refusal}
use Rattle.catalogue.specs.Holdings.{history_of}
use Rattle.installer.specs.declared.install_fault.InstallFault.{InstallFault}
use Rattle.installer.specs.declared.install_fault.InstallFault.TheVariants as install
use Rattle.json_forms.proofs.lemmas.ListSteps.{take_next}
use Rattle.logbook.specs.Pages.{Book}
use Rattle.publication.specs.Views.{DeskView, IsNewDesk}
use Rattle.release_check.specs.declared.check_fault.CheckFault.TheVariants as fault
use Rattle.run_ends.specs.Folders.{FoldersGive, GivesAfter, IsOfRule, IsRefusal, StopsAtFault, none, more}
use Rattle.run_ends.specs.Opening.{Extends, InstallsAll, InstallsRest, Refused}
use Rattle.run_ends.specs.Opening.{HasSeen}
use Rattle.release_check.specs.Before.{before_of}
use Rattle.release_check.specs.Folder.{FolderGives}

-- ---- rows

-- one item more
pub taken_more : {X : Type 0} (dirs : List X) (i : ℕ) (d : X) → i < length dirs → d ≡ get_or dirs i d → take (i + 1) dirs ≡ take i dirs ++ d ∷ []
taken_more dirs i d less is = sym (take_next dirs i d d less is refl)

-- an item between those before it and those after it
pub parted : (dirs : List (List ℕ)) (i : ℕ) (d : List ℕ) → i < length dirs → d ≡ get_or dirs i d → dirs ≡ take i dirs ++ d ∷ drop (i + 1) dirs
parted dirs i d less is =
    sym (take-append-drop (i + 1) dirs)
    ∙ ap (λ (front : List (List ℕ)). front ++ drop (i + 1) dirs) (taken_more dirs i d less is)
    ∙ append_assoc (take i dirs) (d ∷ []) (drop (i + 1) dirs)

-- the first item of a row
pub headed : (dirs : List (List ℕ)) (d : List ℕ) → 0 < length dirs → d ≡ get_or dirs 0 d → dirs ≡ d ∷ drop 1 dirs
headed [] d less is = absurd (omega (arith, less))
headed (x ∷ xs) d less is = ap (λ (y : List ℕ). y ∷ xs) (sym is)

-- the others of a row
pub others_are : (dirs : List (List ℕ)) → take (length dirs - 1) (drop 1 dirs) ≡ drop 1 dirs
others_are [] = refl
others_are (x ∷ xs) = take_all (length (x ∷ xs) - 1) xs (omega arith)

-- the last of a list
last_same : (H : List ReleaseData) (a b : ReleaseData) → H ++ a ∷ [] ≡ H ++ b ∷ [] → a ≡ b
last_same [] a b e = cc
last_same (x ∷ H) a b e = last_same H a b (cc)

-- ---- rules

-- without rules none refuses
pub no_refusal : (H : List ReleaseData) (r : ReleaseData) → refusal [] H r ≡ None
unfolding first_refusing
no_refusal [] r = refl
no_refusal (h ∷ H) r = refl

-- ---- one folder

-- what an install told of a release that joined the history
gave : (o : Option (List File)) (dir : List ℕ) (rules : List Chosen) (H : List ReleaseData) {A : Type 0} (history : A → List ReleaseData) (a : A)
    (r : ReleaseData) → history a ≡ H ++ r ∷ [] → refusal rules H r ≡ None → IfSome o (λ files. Installed files dir rules H history (Ok a))
    → GivesAfter o rules H dir (Ok r)
gave None dir rules H history a r is allowed told = (allowed, tt)
gave (Some fs) dir rules H history a r is allowed told =
    (allowed, subst (λ (x : ReleaseData). FolderGives fs dir (before_of H) (Ok x)) (last_same H told.0 r (sym told.3 ∙ is)) told.1)

pub gives : {A : Type 0} (s t : StoreView) (dir : List ℕ) (rules : List Chosen) (H : List ReleaseData) (history : A → List ReleaseData) (a : A)
    (r : ReleaseData) → history a ≡ H ++ r ∷ [] → refusal rules H r ≡ None → Installs s t dir rules H history (Ok a)
    → GivesAfter s.files rules H dir (Ok r)
gives s t dir rules H history a r is allowed h = gave s.files dir rules H history a r is allowed h.told

-- and of a refusal
of_rule : {A : Type 0} (s t : StoreView) (dir : List ℕ) (rules : List Chosen) (H : List ReleaseData) (history : A → List ReleaseData) (e : InstallFault)
    → Installs {A = A} s t dir rules H history (Err e) → IsOfRule rules H e
of_rule s t dir rules H history install.NoMemory h = tt
of_rule s t dir rules H history (install.Check f) h = tt
of_rule s t dir rules H history (install.Policy k) h = h.policy k refl

refused_after : (o : Option (List File)) (dir : List ℕ) (rules : List Chosen) (H : List ReleaseData) {A : Type 0} (history : A → List ReleaseData)
    (e : InstallFault) → IsOfRule rules H e → IfSome o (λ files. Installed {A = A} files dir rules H history (Err e))
    → GivesAfter o rules H dir (Err e)
refused_after None dir rules H history e of told = (of, tt)
refused_after (Some fs) dir rules H history e of told = (of, told)

pub gives_fault : {A : Type 0} (s t : StoreView) (dir : List ℕ) (rules : List Chosen) (H : List ReleaseData) (history : A → List ReleaseData)
    (e : InstallFault) → Installs {A = A} s t dir rules H history (Err e) → GivesAfter s.files rules H dir (Err e)
gives_fault s t dir rules H history e h = refused_after s.files dir rules H history e (of_rule s t dir rules H history e h) h.told

-- no rule is asked of a first folder
pub under : {A : Type 0} (rules : List Chosen) (s t : StoreView) (d : List ℕ) (history : A → List ReleaseData) (result : Result A InstallFault)
    → Installs s t d [] [] history result → Installs s t d rules [] history result
under rules s t d history (Ok a) h = record {
  later = h.later;
  told = h.told;
  policy = λ k wrong. absurd (cc wrong);
  failed = λ wrong. absurd (cc wrong);
  memory = λ wrong. absurd (cc wrong);
}
under rules s t d history (Err install.NoMemory) h =
    record { later = h.later; told = h.told; policy = λ k wrong. absurd (cc wrong); failed = h.failed; memory = h.memory }
under rules s t d history (Err (install.Check f)) h =
    record { later = h.later; told = h.told; policy = λ k wrong. absurd (cc wrong); failed = h.failed; memory = h.memory }
under rules s t d history (Err (install.Policy k)) h = absurd (cc (h.policy k refl).refused)

-- an error of one result as that of another
err_as : {A B : Type 0} (e x : InstallFault) → IsErrOf {T = A} (Err e) x → IsErrOf {T = B} (Err e) x
err_as e x h = let same : e ≡ x = cc in ap Err same

-- ---- a row of folders

pub stops_here : (files : Option (List File)) (rules : List Chosen) (first : List (List ℕ)) (dir : List ℕ) (rest dirs : List (List ℕ))
    (H : List ReleaseData) (f : InstallFault) → dirs ≡ first ++ dir ∷ rest → FoldersGive files rules first H → GivesAfter files rules H dir (Err f)
    → IsRefusal f → StopsAtFault files rules dirs H f
stops_here files rules first dir rest dirs H f is give after of = record {
  first = first;
  dir = dir;
  rest = rest;
  dirs_are = is;
  give = give;
  gives = after;
  is_refusal = of;
}

-- one folder more
extends_more : (files : Option (List File)) (rules : List Chosen) (dirs : List (List ℕ)) (i : ℕ) (d : List ℕ) (old now next : List ReleaseData)
    → i < length dirs → d ≡ get_or dirs i d → Extends files rules (take i dirs) old now → (r : ReleaseData) → next ≡ now ++ r ∷ []
    → GivesAfter files rules now d (Ok r) → Extends files rules (take (i + 1) dirs) old next
extends_more files rules dirs i d old now next less is extends r next_is after = λ first give.
    let row : (first ++ take i dirs) ++ d ∷ [] ≡ first ++ take (i + 1) dirs =
    append_assoc first (take i dirs) (d ∷ []) ∙ ap (λ (front : List (List ℕ)). first ++ front) (sym (taken_more dirs i d less is)) in
    let one : FoldersGive files rules ((first ++ take i dirs) ++ d ∷ []) (now ++ r ∷ []) =
    more (first ++ take i dirs) now d r (extends first give) after in
    subst (λ (H : List ReleaseData). FoldersGive files rules (first ++ take (i + 1) dirs) H) (sym next_is)
    (subst (λ (front : List (List ℕ)). FoldersGive files rules front (now ++ r ∷ [])) row one)

-- the files are those of the beginning
pub kept_gives : (s t : StoreView) (rules : List Chosen) (H : List ReleaseData) (dir : List ℕ) (r : Result ReleaseData InstallFault) → LaterStore s t
    → GivesAfter t.files rules H dir r → GivesAfter s.files rules H dir r
kept_gives s t rules H dir r store h = subst (λ (files : Option (List File)). GivesAfter files rules H dir r) store.kept h

pub rest_more : {A : Type 0} (s t u : StoreView) (rules : List Chosen) (dirs : List (List ℕ)) (i : ℕ) (d : List ℕ) (old now next : List ReleaseData)
    (history : A → List ReleaseData) (a : A) → i < length dirs → d ≡ get_or dirs i d → LaterStore s t → Extends s.files rules (take i dirs) old now
    → Installs t u d rules now history (Ok a) → GrowsBy rules now (history a) → history a ≡ next → Extends s.files rules (take (i + 1) dirs) old next
rest_more s t u rules dirs i d old now next history a less is store extends h grows same =
    extends_more s.files rules dirs i d old now next less is extends grows.release (sym same ∙ grows.now_is)
    (kept_gives s t rules now d (Ok grows.release) store (gives t u d rules now history a grows.release grows.now_is grows.allowed h))

-- a folder that is refused
refused_at : {A : Type 0} (s t u : StoreView) (rules : List Chosen) (dirs : List (List ℕ)) (i : ℕ) (d : List ℕ) (old now : List ReleaseData)
    (history : A → List ReleaseData) (e : InstallFault) → i < length dirs → d ≡ get_or dirs i d → LaterStore s t
    → Extends s.files rules (take i dirs) old now → Installs {A = A} t u d rules now history (Err e) → (first : List (List ℕ))
    → FoldersGive s.files rules first old → Refused s.files rules (first ++ dirs) e
refused_at s t u rules dirs i d old now history e less is store extends h first give = λ of.
    let row : first ++ dirs ≡ (first ++ take i dirs) ++ d ∷ drop (i + 1) dirs =
    ap (λ (all : List (List ℕ)). first ++ all) (parted dirs i d less is) ∙ sym (append_assoc first (take i dirs) (d ∷ drop (i + 1) dirs)) in (
      now,
      stops_here s.files rules (first ++ take i dirs) d (drop (i + 1) dirs) (first ++ dirs) now e row (extends first give)
          (kept_gives s t rules now d (Err e) store (gives_fault t u d rules now history e h)) of,
    )

pub rest_refused : {A : Type 0} (s t u : StoreView) (rules : List Chosen) (dirs : List (List ℕ)) (i : ℕ) (d : List ℕ)
    (old now end : List (Catalogue (List ℕ))) (history : A → List ReleaseData) (e : InstallFault) → i < length dirs → d ≡ get_or dirs i d
    → LaterStore s t → Extends s.files rules (take i dirs) (history_of old) (history_of now)
    → Installs {A = A} t u d rules (history_of now) history (Err e) → InstallsRest rules dirs s u old end (Err e)
rest_refused {A = A} s t u rules dirs i d old now end history e less is store extends h = record {
  later = store_trans s t u store h.later;
  failed = λ same. omega (arith, store.later, h.failed (err_as {A = Unit} {B = A} e (install.Check fault.ReadFault) same));
  memory = λ same. h.memory (err_as {A = Unit} {B = A} e (install.Check fault.NoMemory) same);
  came = refused_at s t u rules dirs i d (history_of old) (history_of now) history e less is store extends h;
}

-- the first folder
pub first_gives : (files : Option (List File)) (rules : List Chosen) (d : List ℕ) (H : List ReleaseData) (r : ReleaseData) → H ≡ [] ++ r ∷ []
    → GivesAfter files rules [] d (Ok r) → FoldersGive files rules (d ∷ []) H
first_gives files rules d H r is after = subst (λ (x : List ReleaseData). FoldersGive files rules (d ∷ []) x) (sym is) (more [] [] d r none after)

pub first_refused : {A : Type 0} (s t : StoreView) (rules : List Chosen) (d : List ℕ) (rest dirs : List (List ℕ)) (history : A → List ReleaseData)
    (e : InstallFault) → dirs ≡ d ∷ rest → Installs {A = A} s t d [] [] history (Err e) → Refused s.files rules dirs e
first_refused s t rules d rest dirs history e is h = λ of. (
  [],
  stops_here s.files rules [] d rest dirs [] e is none (gives_fault s t d rules [] history e (under rules s t d history (Err e) h)) of,
)

-- ---- all folders

-- memory ran out before the first
pub all_starved : (s : StoreView) (rules : List Chosen) (dirs : List (List ℕ)) → InstallsAll rules dirs s s (Err install.NoMemory)
all_starved s rules dirs = record {
  later = store_refl s;
  failed = λ wrong. absurd (cc wrong);
  memory = λ wrong. absurd (cc wrong);
  came = λ of. absurd of;
}

-- the first of them is refused
pub all_refused : {A : Type 0} (s t : StoreView) (rules : List Chosen) (d : List ℕ) (rest dirs : List (List ℕ))
    (history : A → List ReleaseData) (e : InstallFault) → dirs ≡ d ∷ rest → Installs {A = A} s t d [] [] history (Err e)
    → InstallsAll rules dirs s t (Err e)
all_refused {A = A} s t rules d rest dirs history e is h = record {
  later = h.later;
  failed = λ same. h.failed (err_as {A = List (Catalogue (List ℕ))} {B = A} e (install.Check fault.ReadFault) same);
  memory = λ same. h.memory (err_as {A = List (Catalogue (List ℕ))} {B = A} e (install.Check fault.NoMemory) same);
  came = first_refused s t rules d rest dirs history e is h;
}

-- the first was installed
first_came : {A : Type 0} (s t : StoreView) (rules : List Chosen) (d : List ℕ) (history : A → List ReleaseData) (a : A)
    (list : List (Catalogue (List ℕ))) → Installs s t d [] [] history (Ok a) → GrowsBy [] [] (history a) → history a ≡ history_of list
    → FoldersGive s.files rules (d ∷ []) (history_of list)
first_came s t rules d history a list h grows same =
    first_gives s.files rules d (history_of list) grows.release (sym same ∙ grows.now_is)
    (gives s t d rules [] history a grows.release grows.now_is refl (under rules s t d history (Ok a) h))

-- one of the others is refused
pub all_stopped : {A : Type 0} (s t u : StoreView) (rules : List Chosen) (d : List ℕ) (rest dirs : List (List ℕ))
    (history : A → List ReleaseData) (a : A) (list end : List (Catalogue (List ℕ))) (e : InstallFault) → dirs ≡ d ∷ rest
    → Installs s t d [] [] history (Ok a) → GrowsBy [] [] (history a) → history a ≡ history_of list → InstallsRest rules rest t u list end (Err e)
    → InstallsAll rules dirs s u (Err e)
all_stopped s t u rules d rest dirs history a list end e is h grows same others =
    let before : FoldersGive t.files rules (d ∷ []) (history_of list) =
    subst (λ (files : Option (List File)). FoldersGive files rules (d ∷ []) (history_of list)) (sym h.later.kept)
    (first_came s t rules d history a list h grows same) in
    record {
      later = store_trans s t u h.later others.later;
      failed = λ wrong. omega (arith, h.later.later, others.failed (err_as {A = List (Catalogue (List ℕ))} {B = Unit} e (install.Check fault.ReadFault) wrong));
      memory = λ wrong. others.memory (err_as {A = List (Catalogue (List ℕ))} {B = Unit} e (install.Check fault.NoMemory) wrong);
      came = subst (λ (all : List (List ℕ)). Refused s.files rules all e) (sym is)
          (subst (λ (files : Option (List File)). Refused files rules (d ∷ rest) e) h.later.kept (others.came (d ∷ []) before));
    }

-- all were installed
pub all_came : {A : Type 0} (s t u : StoreView) (rules : List Chosen) (d : List ℕ) (rest dirs : List (List ℕ))
    (history : A → List ReleaseData) (a : A) (list end : List (Catalogue (List ℕ))) (unit : Unit) → dirs ≡ d ∷ rest
    → Installs s t d [] [] history (Ok a) → GrowsBy [] [] (history a) → history a ≡ history_of list → InstallsRest rules rest t u list end (Ok unit)
    → InstallsAll rules dirs s u (Ok end)
all_came s t u rules d rest dirs history a list end unit is h grows same others =
    let before : FoldersGive t.files rules (d ∷ []) (history_of list) =
    subst (λ (files : Option (List File)). FoldersGive files rules (d ∷ []) (history_of list)) (sym h.later.kept)
    (first_came s t rules d history a list h grows same) in
    let whole : FoldersGive s.files rules (d ∷ rest) (history_of end) =
    subst (λ (files : Option (List File)). FoldersGive files rules (d ∷ rest) (history_of end)) h.later.kept (others.came (d ∷ []) before) in
    record {
      later = store_trans s t u h.later others.later;
      failed = λ wrong. cc;
      memory = λ wrong. cc;
      came = subst (λ (all : List (List ℕ)). FoldersGive s.files rules all (history_of end)) (sym is) whole;
    }

-- all were installed, and memory ran out then
pub came_starved : (s t : StoreView) (rules : List Chosen) (dirs : List (List ℕ)) (list : List (Catalogue (List ℕ))) → InstallsAll rules dirs s t (Ok list)
    → InstallsAll rules dirs s t (Err install.NoMemory)
came_starved s t rules dirs list h = record { later = h.later; failed = λ wrong. cc; memory = λ wrong. cc; came = λ of. absurd of }

-- ---- desks

-- the desks that are left once one was taken off new ones
pub parts_desks : (pair now : Book) (list : List (Catalogue (List ℕ))) (all first : List (DeskView (Catalogue (List ℕ))))
    (last : Option (DeskView (Catalogue (List ℕ))))
    (desk : DeskView (Catalogue (List ℕ))) (n : ℕ) → now ≡ pair → all ≡ first ++ option_to_list last → last ≡ Some desk → length all ≡ n + 1
    → All (IsNewDesk pair list false) all → (length first ≡ n) × All (HasSeen now (length list)) first
parts_desks pair now list all first last desk n same is some many new =
    let parts = All-pop (IsNewDesk pair list false) all first last is new in
    let taken : all ≡ first ++ desk ∷ [] = is ∙ ap (λ o. first ++ option_to_list o) some in (
      omega (arith, many, ap length taken, length-append first (desk ∷ [])),
      All-weaker (IsNewDesk pair list false) (HasSeen now (length list))
          (λ d h. record { pair_is = h.1 ∙ sym same; many = omega (arith, ap length h.0) }) first parts.0,
    )

pub same_pair : (pair : Book) (least : ℕ) (desks : List (DeskView (Catalogue (List ℕ)))) → All (HasSeen pair least) desks → All (λ d. d.pair ≡ pair) desks
same_pair pair least desks h = All-weaker (HasSeen pair least) (λ d. d.pair ≡ pair) (λ d has. has.pair_is) desks h
