-- Which kinds of wishes have a test.
use Rattle.std.proofs.Common.{◌≡◌, [], ◌∷◌, refl}
use Rattle.subscribers.specs.Wishes.{WantsAll}
use Rattle.subscribers.specs.declared.wish.WishKind.{WishKind}
use Rattle.subscribers.specs.declared.wish.WishKind.TheVariants as kind

-- a test of each kind
pub three_wanted : (a b c : WishKind) → a ≡ kind.Any → b ≡ kind.Under → c ≡ kind.Past → WantsAll (a ∷ b ∷ c ∷ [])
three_wanted a b c is_a is_b is_c = rw (is_a, is_b, is_c) each
  where
    each : WantsAll (kind.Any ∷ kind.Under ∷ kind.Past ∷ [])
    each kind.Any = refl
    each kind.Under = refl
    each kind.Past = refl
