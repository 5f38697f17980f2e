-- What an enter leaves true of a desk.
use Rattle.std.proofs.Common.{◌≡◌, Some, ap}
use Rattle.publication.specs.declared.view.View.{View}

pub same_view : {V : Type 0} (a b : View V) → Some a ≡ Some b → a ≡ b
same_view a b e = cc e

pub same_list : {V : Type 0} (a b : View V) → Some a ≡ Some b → a.list ≡ b.list
same_list a b e = ap (λ t. t.list) (same_view a b e)
