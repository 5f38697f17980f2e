-- How it is found whether something is so, over the files of a store.
use Rattle.std.proofs.Common.{◌≡◌, ◌↔◌, inl, ℕ, ◌+◌, length, Bool, true, false, List, Option, None, Some, Result, Ok, Err}
use Rattle.std.proofs.Common.{IfSome, IfOk, IsTrue, refl, sym, subst, arith}
use Rattle.std.specs.Prelude.{⊤}
use Rattle.td_base.specs.Views.{StoreFailed, File, LaterStore, StoreView, file_at}
use Rattle.td_base.specs.Outside.{FileTells, Looks}
use Rattle.td_base.specs.declared.outside.FileRead.TheVariants as file
use Rattle.td_base.proofs.lemmas.LaterLemmas.{store_refl, store_trans}
use Rattle.catalogue.specs.Order.{rising_by}
use Rattle.catalogue.specs.Releases.{ReleaseData}
use Rattle.release_manifest.specs.declared.manifest_type.Manifest.{Manifest}
use Rattle.release_manifest.specs.declared.manifest_type.ManifestZone.{ManifestZone}
use Rattle.installer.specs.Serving.{FindsWhether, HasHead, IsStated, stated_contents}
use Rattle.installer.proofs.Stated.{file_is, release_is}
use Rattle.installer.specs.declared.install_fault.InstallFault.{InstallFault}
use Rattle.installer.specs.declared.install_fault.InstallFault.TheVariants as fault

pub each_told : {A : Type 0} (o : Option A) (P : A → Type 0) → ((x : A) → P x) → IfSome o P
each_told None P f = tt
each_told (Some x) P f = f x

pub both_told : {A : Type 0} (o : Option A) (P Q R : A → Type 0) → ((x : A) → P x → Q x → R x) → IfSome o P → IfSome o Q → IfSome o R
both_told None P Q R f h k = tt
both_told (Some x) P Q R f h k = f x h k

-- what is not so
never : {P : Type 0} (so : Bool) → so ≡ false → (P → ⊥) → IsTrue so ↔ P
never so e refuted = (λ t. absurd (cc), λ p. absurd (refuted p))

-- ---- without a look

pub known : (v : StoreView) (IsSo : List File → Type 0) (so : Bool) → ((files : List File) → IsTrue so ↔ IsSo files) → FindsWhether v v IsSo (Ok so)
known v IsSo so is = record {
  later = store_refl v;
  told = each_told v.files (λ files. IsTrue so ↔ IsSo files) is;
  failed = λ e. absurd (cc e);
  causes = tt;
}

pub known_not : (v : StoreView) (IsSo : List File → Type 0) → ((files : List File) → IsSo files → ⊥) → FindsWhether v v IsSo (Ok false)
known_not v IsSo refuted = known v IsSo false (λ files. never false refl (refuted files))

pub no_memory : (v : StoreView) (IsSo : List File → Type 0) (e : InstallFault) → e ≡ fault.NoMemory → FindsWhether v v IsSo (Err e)
no_memory v IsSo e is = record {
  later = store_refl v;
  told = each_told v.files (λ files. ⊤) (λ files. tt);
  failed = λ f. absurd (cc (is, f));
  causes = inl is;
}

-- ---- with one

told_as : (o : Option (List File)) (r : Result Bool InstallFault) (P Q : List File → Type 0) → ((files : List File) → P files ↔ Q files)
    → IfSome o (λ files. IfOk r (λ so. IsTrue so ↔ P files)) → IfSome o (λ files. IfOk r (λ so. IsTrue so ↔ Q files))
told_as None r P Q same h = tt
told_as (Some files) (Ok so) P Q same h = (λ t. (same files).0 (h.0 t), λ q. h.1 ((same files).1 q))
told_as (Some files) (Err e) P Q same h = tt

-- the answer is this one
pub whether_is : (a b : StoreView) (P : List File → Type 0) (so answer : Bool) → so ≡ answer → FindsWhether a b P (Ok so) → FindsWhether a b P (Ok answer)
whether_is a b P so answer is found = subst (λ (x : Bool). FindsWhether a b P (Ok x)) is found

-- what is so where the other is
pub whether_as : (a b : StoreView) (P Q : List File → Type 0) (r : Result Bool InstallFault) → ((files : List File) → P files ↔ Q files)
    → FindsWhether a b P r → FindsWhether a b Q r
whether_as a b P Q r same found = record {
  later = found.later;
  told = told_as a.files r P Q same found.told;
  failed = found.failed;
  causes = found.causes;
}

-- ---- a file that was found

found_told : (o : Option (List File)) (path bytes found : List ℕ) (so : Bool) → FileTells o path (length bytes + 1) (file.Found found)
    → IsTrue so ↔ (found ≡ bytes) → IfSome o (λ files. IsTrue so ↔ (file_at files path ≡ Some bytes))
found_told None path bytes found so told same = tt
found_told (Some files) path bytes found so told same =
    let is = file_is files path bytes found told in
    (λ t. is.0 (same.0 t), λ e. same.1 (is.1 e))

pub whether_found : (old new : StoreView) (path bytes found : List ℕ) (so : Bool) → Looks old new path (length bytes + 1) (file.Found found)
    → IsTrue so ↔ (found ≡ bytes) → FindsWhether old new (λ files. file_at files path ≡ Some bytes) (Ok so)
whether_found old new path bytes found so look same = record {
  later = record { kept = look.kept; later = look.later };
  told = found_told old.files path bytes found so look.told same;
  failed = λ e. absurd (cc e);
  causes = tt;
}

-- ---- a release whose head is known

pub release_found : (a b : StoreView) (m : Manifest) (r : ReleaseData) (zs : List ManifestZone) (result : Result Bool InstallFault) → HasHead m r
    → zs ≡ rising_by (λ z. z.tzid) m.zones → FindsWhether a b (λ files. stated_contents files zs ≡ Some r.contents) result
    → FindsWhether a b (λ files. IsStated files m r) result
release_found a b m r zs result head are found =
    whether_as a b (λ files. stated_contents files zs ≡ Some r.contents) (λ files. IsStated files m r) result
    (λ files. subst (λ (ys : List ManifestZone). (stated_contents files ys ≡ Some r.contents) ↔ IsStated files m r) (sym are) (release_is files m r head)) found

-- ---- step by step

-- after some looks, what is so is exactly what is left to find
pub record LeavesToFind (old new : StoreView) (IsSo IsLeft : List File → Type 0) : Type 0 where
  pub later : LaterStore old new
  pub told : IfSome old.files (λ files. IsSo files ↔ IsLeft files)

pub all_left : (v : StoreView) (IsSo IsLeft : List File → Type 0) → ((files : List File) → IsSo files ↔ IsLeft files) → LeavesToFind v v IsSo IsLeft
all_left v IsSo IsLeft same = record {
  later = store_refl v;
  told = each_told v.files (λ files. IsSo files ↔ IsLeft files) same;
}

kept_told : (a b : StoreView) (P : List File → Type 0) → LaterStore a b → IfSome b.files P → IfSome a.files P
kept_told a b P later told = subst (λ (o : Option (List File)). IfSome o P) later.kept told

-- one part is so
pub less_left : (a b c : StoreView) (IsSo IsLeft IsPart IsNext : List File → Type 0) → ((files : List File) → IsLeft files ↔ (IsPart files × IsNext files))
    → LeavesToFind a b IsSo IsLeft → FindsWhether b c IsPart (Ok true) → LeavesToFind a c IsSo IsNext
less_left a b c IsSo IsLeft IsPart IsNext parts so_far part = record {
  later = store_trans a b c so_far.later part.later;
  told = both_told a.files (λ files. IsSo files ↔ IsLeft files) (λ files. IsTrue true ↔ IsPart files) (λ files. IsSo files ↔ IsNext files)
      (λ files h k. (λ s. ((parts files).0 (h.0 s)).1, λ n. h.1 ((parts files).1 (k.0 refl, n))))
      so_far.told (kept_told a b (λ files. IsTrue true ↔ IsPart files) so_far.later part.told);
}

-- one part is not
pub not_left : (a b c : StoreView) (IsSo IsLeft IsPart : List File → Type 0) → ((files : List File) → IsLeft files → IsPart files)
    → LeavesToFind a b IsSo IsLeft → FindsWhether b c IsPart (Ok false) → FindsWhether a c IsSo (Ok false)
not_left a b c IsSo IsLeft IsPart part_of so_far part = record {
  later = store_trans a b c so_far.later part.later;
  told = both_told a.files (λ files. IsSo files ↔ IsLeft files) (λ files. IsTrue false ↔ IsPart files) (λ files. IsTrue false ↔ IsSo files)
      (λ files h k. (λ t. absurd (cc t), λ s. k.1 (part_of files (h.0 s))))
      so_far.told (kept_told a b (λ files. IsTrue false ↔ IsPart files) so_far.later part.told);
  failed = λ e. absurd (cc e);
  causes = tt;
}

-- it was not found out of one
pub fault_left : (a b c : StoreView) (IsSo IsLeft IsPart : List File → Type 0) (e : InstallFault)
    → LeavesToFind a b IsSo IsLeft → FindsWhether b c IsPart (Err e) → FindsWhether a c IsSo (Err e)
fault_left a b c IsSo IsLeft IsPart e so_far part = record {
  later = store_trans a b c so_far.later part.later;
  told = each_told a.files (λ files. ⊤) (λ files. tt);
  failed = λ f. (let rose : StoreFailed b c = part.failed f in let before = so_far.later.later in omega arith);
  causes = part.causes;
}

-- nothing is left
pub none_left : (a b : StoreView) (IsSo IsLeft : List File → Type 0) → ((files : List File) → IsLeft files) → LeavesToFind a b IsSo IsLeft
    → FindsWhether a b IsSo (Ok true)
none_left a b IsSo IsLeft all so_far = record {
  later = so_far.later;
  told = both_told a.files (λ files. IsSo files ↔ IsLeft files) (λ files. ⊤) (λ files. IsTrue true ↔ IsSo files)
      (λ files h k. (λ t. h.1 (all files), λ s. refl)) so_far.told (each_told a.files (λ files. ⊤) (λ files. tt));
  failed = λ e. absurd (cc e);
  causes = tt;
}
