-- What a catalogue holds is what its histories leave.
use Rattle.std.proofs.Common.{◌≡◌, ◌∙◌, ℕ, List, length, Option, None, Some, Result, Ok, Err, IfOk}
use Rattle.std.proofs.Common.{ap, sym, subst}
use Rattle.catalogue.specs.Counts.{stands_count}
use Rattle.catalogue.specs.Histories.{Fits}
use Rattle.catalogue.specs.Holdings.{StandsFor, release_held}
use Rattle.catalogue.specs.Releases.{ReleaseData, release_data}
use Rattle.catalogue.specs.declared.release.Release.{Release}
use Rattle.td_base.specs.Views.{File, StoreView}
use Rattle.release_check.specs.Found.{FindsIn}
use Rattle.release_check.specs.declared.check_fault.CheckFault.{CheckFault}
use Rattle.release_check.proofs.Looking.{finds_as}
use Rattle.catalogue.specs.declared.holding.Catalogue.{Catalogue}
use Rattle.zone_meaning.specs.Sound.{IsSound}
use Rattle.zone_meaning.specs.ZoneHistories.{zone_bytes}
use Rattle.release_check.specs.Before.{Before, ForEachBefore, Follows, before_of, before_held}

made : Option ReleaseData → ℕ → Before
made last count = record { last = last; count = count }

pub held_is : (c : Catalogue (List ℕ)) (H : List ReleaseData) → StandsFor zone_bytes IsSound c H → before_of H ≡ before_held (Some c)
unfolding made
held_is c H s =
    ap (λ l. made l (length H)) s.last
    ∙ ap (made (Some (release_held zone_bytes c))) (stands_count zone_bytes IsSound c H s)

-- what holds after what is held holds after each history
pub for_each : (last : Option (Catalogue (List ℕ))) (P : Before → Type 0) → P (before_held last) → ForEachBefore last (λ H. P (before_of H))
for_each None P h = h
for_each (Some c) P h = λ H s. subst P (sym (held_is c H s)) h

pub fits_each : (last : Option (Catalogue (List ℕ))) (r : ReleaseData) → Follows (before_held last) r → ForEachBefore last (λ H. Fits H r)
fits_each last r h = for_each last (λ b. Follows b r) h

-- what an answer says after what is held it says after each history
pub found_each : {T : Type 0} (a b : StoreView) (last : Option (Catalogue (List ℕ))) (r : Result T CheckFault) (P : Before → List File → Type 0)
    → FindsIn a b r (P (before_held last)) → FindsIn a b r (λ files. ForEachBefore last (λ H. P (before_of H) files))
found_each a b last r P found = finds_as a b r r _ _ (λ files h. for_each last (λ x. P x files) h) (λ e. e) found

pub fits_result : (last : Option (Catalogue (List ℕ))) (r : Result (Release (List ℕ)) CheckFault)
    → IfOk r (λ x. Follows (before_held last) (release_data zone_bytes x))
    → IfOk r (λ x. ForEachBefore last (λ H. Fits H (release_data zone_bytes x)))
fits_result last (Ok x) h = fits_each last (release_data zone_bytes x) h
fits_result last (Err e) h = tt
