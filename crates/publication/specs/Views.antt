-- What clauses see of a publisher, a desk and a receipt.
use Rattle.std.specs.Prelude.{◌≡◌, ℕ, List, Bool}
use Rattle.logbook.specs.Pages.{Book}

-- A publisher, or what one leaves that has ended: the history that it writes, which all that is
-- made with it has in common, the values published, the earliest first, whether a value stands
-- in that history which was not shown, so that nothing more is published, and how often that
-- history was asked to grow (0 after the end).
pub record PublishedView (V : Type 0) : Type 0 where
  pub pair : Book
  pub list : List V
  pub stuck : Bool
  pub tries : ℕ

-- A desk. `seen`: the published values up to the one that it holds; `ended`: whether it knows that
-- nothing follows. As the rule of what is shown counts them, `enters` is the number of its enters,
-- and `entered` the published values up to the one of its last enter.
pub record DeskView (V : Type 0) : Type 0 where
  pub pair : Book
  pub seen : List V
  pub ended : Bool
  pub entered : List V
  pub enters : ℕ

-- A receipt: the values published, up to the one that it carries, and whether nothing follows.
pub record ReceiptView (V : Type 0) : Type 0 where
  pub pair : Book
  pub list : List V
  pub ended : Bool

-- a desk that was just made, and was told of these values
abbrev pub IsNewDesk : {V : Type 0} → Book → List V → Bool → DeskView V → Type 0
IsNewDesk pair list ended d =
    (d.seen ≡ list) × (d.pair ≡ pair) × (d.ended ≡ ended) × (d.enters ≡ 0)
