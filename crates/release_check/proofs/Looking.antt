-- How looks into a store follow one another.
use Rattle.std.proofs.Common.{◌≡◌, List, Option, None, Some, Result, Ok, Err, IfSome, IsErrOf, ap}
use Rattle.std.proofs.Common.{subst, arith}
use Rattle.td_base.specs.Views.{StoreFailed, File, StoreView}
use Rattle.td_base.proofs.lemmas.LaterLemmas.{store_refl, store_trans}
use Rattle.release_check.specs.Found.{FindsIn}
use Rattle.release_check.specs.declared.check_fault.CheckFault.{CheckFault}
use Rattle.release_check.specs.declared.check_fault.CheckFault.TheVariants as fault

-- what is told follows from what is told
pub if_all : {A : Type 0} (o : Option A) (P : A → Type 0) → ((x : A) → P x) → IfSome o P
if_all None P f = tt
if_all (Some x) P f = f x

pub if_told : {A : Type 0} (o : Option A) (P Q : A → Type 0) → ((x : A) → P x → Q x) → IfSome o P → IfSome o Q
if_told None P Q f h = tt
if_told (Some x) P Q f h = f x h

pub if_both : {A : Type 0} (o : Option A) (P Q R : A → Type 0) → ((x : A) → P x → Q x → R x) → IfSome o P → IfSome o Q → IfSome o R
if_both None P Q R f h k = tt
if_both (Some x) P Q R f h k = f x h k

-- nothing was looked at
pub finds_none : {T : Type 0} (v : StoreView) (r : Result T CheckFault) (P : List File → Type 0)
    → ((files : List File) → P files) → (IsErrOf r fault.ReadFault → ⊥) → FindsIn v v r P
finds_none v r P all never = record {
  later = store_refl v;
  told = if_all v.files P all;
  failed = λ e. absurd (never e);
}

-- one answer is turned into another
pub finds_as : {T U : Type 0} (a b : StoreView) (r : Result T CheckFault) (s : Result U CheckFault) (P Q : List File → Type 0)
    → ((files : List File) → P files → Q files) → (IsErrOf s fault.ReadFault → IsErrOf r fault.ReadFault) → FindsIn a b r P → FindsIn a b s Q
finds_as a b r s P Q turned same found = record {
  later = found.later;
  told = if_told a.files P Q turned found.told;
  failed = λ e. found.failed (same e);
}

-- one look after another
pub finds_then : {T U V : Type 0} (a b c : StoreView) (r : Result T CheckFault) (s : Result U CheckFault) (t : Result V CheckFault)
    (P Q R : List File → Type 0) → ((files : List File) → P files → Q files → R files)
    → (IsErrOf t fault.ReadFault → IsErrOf s fault.ReadFault) → FindsIn a b r P → FindsIn b c s Q → FindsIn a c t R
finds_then a b c r s t P Q R joined same first second =
    let later = second.later.later in
    let before = first.later.later in
    record {
      later = store_trans a b c first.later second.later;
      told = if_both a.files P Q R joined first.told (subst (λ (o : Option (List File)). IfSome o Q) first.later.kept second.told);
      failed = λ e. (let rose : StoreFailed b c = second.failed (same e) in omega arith);
    }

-- errors that are handed on
pub same_err : {T U : Type 0} (e f : CheckFault) → IsErrOf {T = T} (Err e) f → IsErrOf {T = U} (Err e) f
same_err {T} {U} e f h =
    let same : e ≡ f = cc in
    let as_err : CheckFault → Result U CheckFault = λ x. Err x in
    ap as_err same

pub err_is : {T : Type 0} (e f : CheckFault) → IsErrOf {T = T} (Err e) f → e ≡ f
err_is e f h = cc

pub ok_is_no_err : {T : Type 0} (x : T) (f : CheckFault) → IsErrOf (Ok x) f → ⊥
ok_is_no_err x f h = cc
