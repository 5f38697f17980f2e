-- A directory gives one thing, and one alone.
use Rattle.std.proofs.Common.{◌≡◌, ℕ, List, Option, None, Some, Result, Err, refl, ap, ◌∙◌, subst}
use Rattle.td_base.specs.Views.{File, file_at}
use Rattle.catalogue.specs.Releases.{ReleaseData}
use Rattle.release_manifest.specs.Reading.{IsManifestText, manifest_text_fault}
use Rattle.release_manifest.specs.declared.manifest_fault.ManifestFault.{ManifestFault}
use Rattle.release_manifest.specs.declared.manifest_type.Manifest.{Manifest}
use Rattle.release_check.specs.Before.{Before}
use Rattle.release_check.specs.Folder.{FolderGives, absent, refused, read, release_in}
use Rattle.release_check.specs.Folder.{manifest_path}
use Rattle.release_check.specs.declared.check_fault.CheckFault.{CheckFault}
use Rattle.release_check.specs.declared.check_fault.CheckFault.TheVariants as fault

-- what release_manifest says of texts: what has no fault has a manifest, and the other way round,
-- and one alone
pub record Readings : Type 0 where
  pub found : (text : List ℕ) → manifest_text_fault text ≡ None → (m : Manifest) × IsManifestText text m
  pub sound : (text : List ℕ) (m : Manifest) → IsManifestText text m → manifest_text_fault text ≡ None
  pub one : (text : List ℕ) (m n : Manifest) → IsManifestText text m → IsManifestText text n → m ≡ n

-- one file, one text
one_text : (found : Option (List ℕ)) (a b : List ℕ) → found ≡ Some a → found ≡ Some b → a ≡ b
one_text found a b h k = cc

none_and_some : (found : Option (List ℕ)) (a : List ℕ) (P : Type 0) → found ≡ None → found ≡ Some a → P
none_and_some found a P h k = cc

-- one text, one fault
same_fault : (a b : List ℕ) (f g : ManifestFault) → a ≡ b → manifest_text_fault a ≡ Some f → manifest_text_fault b ≡ Some g → f ≡ g
same_fault a b f g e h k = let t = ap manifest_text_fault e in cc

-- a text with a fault is no manifest
fault_and_manifest : (laws : Readings) (a b : List ℕ) (f : ManifestFault) (m : Manifest) (P : Type 0) → a ≡ b → manifest_text_fault a ≡ Some f
    → IsManifestText b m → P
fault_and_manifest laws a b f m P e h is = let t = ap manifest_text_fault e in let n = laws.sound b m is in absurd (clash h (t ∙ n))
  where
    clash : manifest_text_fault a ≡ Some f → manifest_text_fault a ≡ None → ⊥
    clash x y = cc

pub one_result : (laws : Readings) (files : List File) (dir : List ℕ) (before : Before) (a b : Result ReleaseData CheckFault)
    → FolderGives files dir before a → FolderGives files dir before b → a ≡ b
one_result laws files dir before _ _ (absent h) (absent k) = refl
one_result laws files dir before _ _ (absent h) (refused text f k is) = none_and_some _ text _ h k
one_result laws files dir before _ _ (absent h) (read text m k is) = none_and_some _ text _ h k
one_result laws files dir before _ _ (refused text f h is) (absent k) = none_and_some _ text _ k h
one_result laws files dir before _ _ (refused text f h is) (refused other g k also) =
    ap (λ x. Err (fault.Manifest x)) (same_fault text other f g (one_text _ text other h k) is also)
one_result laws files dir before _ _ (refused text f h is) (read other m k also) =
    fault_and_manifest laws text other f m _ (one_text _ text other h k) is also
one_result laws files dir before _ _ (read text m h is) (absent k) = none_and_some _ text _ k h
one_result laws files dir before _ _ (read text m h is) (refused other g k also) =
    fault_and_manifest laws other text g m _ (one_text _ other text k h) also is
one_result laws files dir before _ _ (read text m h is) (read other n k also) =
    ap (release_in files dir before) (laws.one other m n (subst (λ (t : List ℕ). IsManifestText t m) (one_text _ text other h k) is) also)

-- something it gives
pub some_result : (laws : Readings) (files : List File) (dir : List ℕ) (before : Before) → (r : Result ReleaseData CheckFault) × FolderGives files dir before r
some_result laws files dir before = by_file (file_at files (manifest_path dir)) refl
  where
    by_fault : (text : List ℕ) (o : Option ManifestFault) → file_at files (manifest_path dir) ≡ Some text → manifest_text_fault text ≡ o
        → (r : Result ReleaseData CheckFault) × FolderGives files dir before r
    by_fault text (Some f) is has = (_, refused text f is has)
    by_fault text None is has = let m = laws.found text has in (_, read text m.0 is m.1)

    by_file : (o : Option (List ℕ)) → file_at files (manifest_path dir) ≡ o → (r : Result ReleaseData CheckFault) × FolderGives files dir before r
    by_file None is = (_, absent is)
    by_file (Some text) is = by_fault text (manifest_text_fault text) is refl
