-- What is read of lists that are put together.
use Rattle.std.proofs.Common.{◌≡◌, refl, ap, ◌∙◌, Option, None, Some, List, [], ◌∷◌, ◌++◌, map}
use Rattle.recurrence.specs.AllRead.{put_before, all_read}

pub read_more : {A B : Type 0} (f : A → Option B) (x : A) (xs : List A) (y : B) (ys : List B) → f x ≡ Some y → all_read f xs ≡ Some ys
    → all_read f (x ∷ xs) ≡ Some (y ∷ ys)
read_more f x xs y ys e r = ap (λ o. put_before o (all_read f xs)) e ∙ ap (put_before (Some y)) r

some_cons : {B : Type 0} (o : Option B) (r : Option (List B)) (us : List B) → put_before o r ≡ Some us
    → (b : B) × (bs : List B) × (o ≡ Some b) × (r ≡ Some bs) × (us ≡ b ∷ bs)
some_cons None r us e = absurd (cc)
some_cons (Some b) None us e = absurd (cc)
some_cons (Some b) (Some bs) us e = (b, bs, refl, refl, cc)

pub read_append : {A B : Type 0} (f : A → Option B) (xs ys : List A) (us bs : List B) → all_read f xs ≡ Some us → all_read f ys ≡ Some bs
    → all_read f (xs ++ ys) ≡ Some (us ++ bs)
read_append f [] ys [] bs e r = r
read_append f [] ys (a ∷ us) bs e r = absurd (cc)
read_append f (x ∷ xs) ys us bs e r =
    let parts = some_cons (f x) (all_read f xs) us e in
    rw parts.4 (read_more f x (xs ++ ys) parts.0 (parts.1 ++ bs) parts.2 (read_append f xs ys parts.1 bs parts.3 r))
