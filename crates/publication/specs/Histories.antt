-- A history of published values: each value in order, and a mark at the end, where it has ended.
use Rattle.std.specs.Prelude.{◌≡◌, List, [], ◌∷◌, ◌++◌, map}
use Rattle.std.specs.Prelude.{Option, Some, None, Bool, true, false}
use mathlib.Core.List.{IsPrefix}

module _ {A : Type 0} where
  -- the values of a history
  abbrev pub values : List (Option A) → List A
  values [] = []
  values (Some x ∷ log) = x ∷ values log
  values (None ∷ log) = values log

  -- whether a history has the mark of the end
  abbrev pub ended_in : List (Option A) → Bool
  ended_in [] = false
  ended_in (Some x ∷ log) = ended_in log
  ended_in (None ∷ log) = true

  -- nothing follows the mark
  abbrev pub Sealed : List (Option A) → Type 0
  Sealed [] = Unit {0}
  Sealed (Some x ∷ log) = Sealed log
  Sealed (None ∷ log) = log ≡ []

-- each value stands for the list of the last elements of the values up to it
module _ {V E : Type 0} (last : V → E) (stands : V → List E → Type 0) where
  abbrev pub StandFrom : List V → List V → Type 0
  StandFrom before [] = Unit {0}
  StandFrom before (x ∷ xs) =
      stands x (map last (before ++ x ∷ [])) × StandFrom (before ++ x ∷ []) xs

  abbrev pub Stand : List V → Type 0
  Stand xs = StandFrom [] xs

  -- two prefixes of one history, in which each value stands for what is up to it and nothing
  -- follows the mark
  pub record AreOfOne (one other : List (Option V)) : Type 0 where
    pub log : List (Option V)
    pub this : IsPrefix one log
    pub that : IsPrefix other log
    pub seal : Sealed log
    pub stand : Stand (values log)
