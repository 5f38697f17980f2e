-- The heads of a whole list, by repeated steps, with the refusal or the rest at their end.
use Rattle.std.specs.Prelude.{◌≡◌, ℕ, List, [], ◌∷◌, ◌++◌, drop, ⊤}
use Rattle.http_request.specs.declared.head.Head.{Head}
use Rattle.http_request.specs.declared.head.Next.{Next}
use Rattle.http_request.specs.declared.head.Next.TheVariants as next
use Rattle.http_request.specs.Steps.{IsStep, Taken, Refused, Waiting}

-- what comes after the last head: a refusal, or bytes in which nothing stands yet
pub data Ending : Type 0 where
  Bad : (status : ℕ) → Ending
  Rest : (left : List ℕ) → Ending

-- the list asks these heads, and ends so
abbrev pub Asks : List ℕ → List Head → Ending → Type 0
Asks bytes [] (Bad status) = IsStep bytes (Refused status)
Asks bytes [] (Rest left) = IsStep bytes Waiting × (bytes ≡ left)
Asks bytes (head ∷ heads) end =
    (len : ℕ) × IsStep bytes (Taken head len) × Asks (drop len bytes) heads end

-- these heads stand at the beginning of the list, and after them what is held
abbrev pub Gives : List ℕ → List Head → List ℕ → Type 0
Gives bytes [] held = bytes ≡ held
Gives bytes (head ∷ heads) held =
    (len : ℕ) × IsStep bytes (Taken head len) × Gives (drop len bytes) heads held

-- what the next call answers of the list, after these heads were given, with what it leaves
abbrev pub Continues : List ℕ → List Head → Next → List ℕ → Type 0
Continues all given (next.Request head) held = Gives all (given ++ head ∷ []) held
Continues all given (next.Bad status) held = Asks all given (Bad status)
Continues all given next.More held = Asks all given (Rest held)

-- a refusal at the end of a prefix is the end of the whole, and no head comes before it
abbrev pub KeepsBad : Ending → List Head → Ending → Type 0
KeepsBad (Bad status) later end = (later ≡ []) × (end ≡ Bad status)
KeepsBad (Rest left) later end = ⊤

-- the heads of a prefix are a prefix of the heads of the whole
pub record IsPrefixOf (heads : List Head) (end : Ending)
    (all : List Head) (all_end : Ending) : Type 0 where
  pub later : List Head
  pub all_is : all ≡ heads ++ later
  pub bad : KeepsBad end later all_end
