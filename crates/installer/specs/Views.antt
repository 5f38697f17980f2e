-- What clauses see of an installer.
use Rattle.std.specs.Prelude.{◌≡◌, ℕ, List, [], Option, None, Some, Bool}
use Rattle.logbook.specs.Pages.{Book}
use Rattle.admission.specs.Differences.{difference}
use Rattle.admission.specs.declared.delta.Delta.{Delta}
use Rattle.catalogue.specs.Releases.{ReleaseData}
use Rattle.catalogue.specs.declared.holding.Catalogue.{Catalogue}
use Rattle.subscribers.specs.Views.{SubscriberView}

-- The history that it writes, which all that is made with it has in common; the catalogues
-- published, the earliest first; whether one stands in that history which was not shown, so that
-- nothing more is published; how often that history was asked to grow; and those who hear of
-- installs. Between its calls nothing is prepared for these.
pub record InstallerView : Type 0 where
  pub pair : Book
  pub list : List (Catalogue (List ℕ))
  pub stuck : Bool
  pub tries : ℕ
  pub subscribers : List SubscriberView

-- with these subscribers, and else the same
abbrev pub with_subscribers : List SubscriberView → InstallerView → InstallerView
with_subscribers subscribers i = record {
  pair = i.pair;
  list = i.list;
  stuck = i.stuck;
  tries = i.tries;
  subscribers = subscribers;
}

-- what a release changes of the one before it, where that was made out. It may be left out only
-- where nobody subscribed.
abbrev pub IsMadeOut : {A : Type 0} → List A → Option Delta → List ReleaseData → ReleaseData
    → Type 0
IsMadeOut subscribers None H r = subscribers ≡ []
IsMadeOut subscribers (Some delta) H r = delta ≡ difference H r
