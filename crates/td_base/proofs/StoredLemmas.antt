-- Looking up a path in the map of a store, and putting one there.
use Rattle.std.proofs.Common.{◌≡◌, ℕ, List, [], ◌∷◌, Some, true, false, cond, refl, sym, ap, ◌∙◌}
use Rattle.std.proofs.Common.{⊎_elim}
use Rattle.std.proofs.lemmas.Bool.{cases_Bool, cond-true, cond-false}
use Rattle.std.proofs.lemmas.Map.Text.{is_eq-slice_cmp}
use Rattle.std.specs.Cmp.{eq_by_cmp_equiv}
use Rattle.std.specs.Cmp.Lexicographic.{slice_cmp, bytes_decides, nat_list_cmp_total}
use Rattle.std.specs.Cmp.Lexicographic.{nat_list_eq_equiv}
use Rattle.std.specs.Map.{lookup, KeepsOthers}
use Rattle.std.specs.Ordering.{is_eq, nat_cmp, eq_by_cmp}
use Rattle.std.specs.Str.{bytes_eq}
use Rattle.std.specs.declared.vec.Vec.{Vec}
use Rattle.td_base.specs.Views.{file_at}
use Rattle.td_base.specs.Stored.{files_of}

-- a key is that path, whichever is compared with the other
same_path : (path key : List ℕ) → is_eq (slice_cmp nat_cmp path key) ≡ bytes_eq key path
same_path path key = is_eq-slice_cmp path key ∙ nat_list_eq_equiv.symm path key

-- paths that are not the same are not the same as one key
apart : (path asked key : List ℕ) → bytes_eq path asked ≡ false → is_eq (slice_cmp nat_cmp path key) ≡ true
    → is_eq (slice_cmp nat_cmp asked key) ≡ false
apart path asked key differ same =
    is_eq-slice_cmp asked key ∙ nat_list_eq_equiv.symm asked key
    ∙ sym (nat_list_eq_equiv.congr path key asked (sym (is_eq-slice_cmp path key) ∙ same)) ∙ differ

module _ {Z : Type 0} where
  -- the file found is the value that the map finds
  pub file_looked_up : (path : List ℕ) (es : List (Vec ℕ Z × List ℕ))
      → lookup (λ k. is_eq (slice_cmp nat_cmp path k.items)) es ≡ file_at (files_of es) path
  file_looked_up path [] = refl
  file_looked_up path (e ∷ es) = rw (same_path path e.0.items, file_looked_up path es) refl

  other_file : (path asked : List ℕ) (old new : List (Vec ℕ Z × List ℕ))
      → KeepsOthers (eq_by_cmp (λ x y. slice_cmp nat_cmp x.items y.items)) (λ k. is_eq (slice_cmp nat_cmp path k.items)) old new
      → bytes_eq path asked ≡ false
      → lookup (λ k. is_eq (slice_cmp nat_cmp asked k.items)) new ≡ lookup (λ k. is_eq (slice_cmp nat_cmp asked k.items)) old
  unfolding KeepsOthers
  other_file path asked old new others differ =
      others (λ k. is_eq (slice_cmp nat_cmp asked k.items))
      (λ x y. (eq_by_cmp_equiv nat_list_cmp_total).congr asked x.items y.items)
      (λ k. apart path asked k.items differ)

  -- after a put the path has its bytes, and each other path what it had
  pub file_put : (path asked bytes : List ℕ) (old new : List (Vec ℕ Z × List ℕ))
      → lookup (λ k. is_eq (slice_cmp nat_cmp path k.items)) new ≡ Some bytes
      → KeepsOthers (eq_by_cmp (λ x y. slice_cmp nat_cmp x.items y.items)) (λ k. is_eq (slice_cmp nat_cmp path k.items)) old new
      → file_at (files_of new) asked ≡ cond (bytes_eq path asked) (Some bytes) (file_at (files_of old) asked)
  file_put path asked bytes old new here others =
      let wanted = file_at (files_of old) asked in
      ⊎_elim
      (λ same. sym (ap (file_at (files_of new)) ((bytes_decides path asked).0 same))
      ∙ sym (file_looked_up path new) ∙ here ∙ sym (cond-true (bytes_eq path asked) (Some bytes) wanted same))
      (λ differ. sym (file_looked_up asked new) ∙ other_file path asked old new others differ
      ∙ file_looked_up asked old ∙ sym (cond-false (bytes_eq path asked) (Some bytes) wanted differ))
      (cases_Bool (bytes_eq path asked))
