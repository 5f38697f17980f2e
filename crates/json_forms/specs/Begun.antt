-- A document that is being written, one item of its array after another.
use Rattle.std.specs.Prelude.{◌≡◌, ℕ, ℤ, Bool, List, [], ◌∷◌, ◌++◌, flat_map, map, codes}
use Rattle.json.specs.Print.{ends_value, print}
use Rattle.json.specs.Token as token
use Rattle.json.specs.Token.{Token}
use Rattle.json.specs.Written.{Written}
use Rattle.serde_json.specs.Data.{Data}
use Rattle.td_civil.specs.Calendar.{text_of}
use Rattle.td_civil.specs.declared.local_time.Observance.{Observance}
use Rattle.json_forms.specs.declared.zone_list.ListZone.{ListZone}
use Rattle.json_forms.specs.ExpansionDocument.{observance_data}
use Rattle.json_forms.specs.ListDocument.{zone_data}
use Rattle.json_forms.specs.TreeTokens.{tree_tokens}

-- the bytes stand there, and after them what opens a document and the items of its array so far
pub record HasBegun
    (before : List ℕ) (opening : List Token) (items : List Data) (w : Written) : Type 0 where
  pub after : w.before ≡ before
  pub so_far : w.tokens ≡ opening ++ flat_map tree_tokens items

-- what stands in a list of time zones before its first zone
abbrev pub list_opening : List ℕ → List Token
list_opening text =
    token.begin_object ∷ token.key (codes "synctoken") ∷ token.string text
    ∷ token.key (codes "timezones") ∷ token.begin_array ∷ []

-- the bytes stand there, and after them a list with this token as far as these zones
abbrev pub IsListBegun : List ℕ → List ℕ → List ListZone → Written → Type 0
IsListBegun before text zones w = HasBegun before (list_opening text) (map zone_data zones) w

-- what stands in the document of a range with this end before the first observance
abbrev pub expansion_opening : ℤ → List Token
expansion_opening until =
    token.begin_object ∷ token.key (codes "end") ∷ token.string (text_of until)
    ∷ token.key (codes "observances") ∷ token.begin_array ∷ []

-- the tokens of that document as far as these observances
abbrev pub expansion_tokens : ℤ → List Observance → List Token
expansion_tokens until observances =
    expansion_opening until ++ flat_map tree_tokens (map observance_data observances)

-- a text that is being written, and whether a value was written last, so that a comma comes before
-- the next one
pub record TextSoFar : Type 0 where
  pub text : List ℕ
  pub after_value : Bool

-- the bytes stand there, and after them the document of a range with this end as far as these
-- observances
pub record IsExpansionBegun
    (before : List ℕ) (until : ℤ) (observances : List Observance) (w : TextSoFar) : Type 0 where
  pub so_far : w.text ≡ before ++ print (expansion_tokens until observances)
  pub place : w.after_value ≡ ends_value (expansion_tokens until observances)

-- these observances are appended to what was written
abbrev pub Appends : TextSoFar → TextSoFar → List Observance → Type 0
Appends old new more =
    (before : List ℕ) (until : ℤ) (observances : List Observance)
    → IsExpansionBegun before until observances old
    → IsExpansionBegun before until (observances ++ more) new
