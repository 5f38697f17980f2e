use Rattle.std.proofs.Common.{Option, ℕ, sym, subst}
use Rattle.catalogue.specs.Releases.{ReleaseData}
use Rattle.catalogue.specs.Histories.{FitsAfter, last_release}
use Rattle.catalogue.specs.Holdings.{place_count}
use Rattle.catalogue.proofs.lemmas.Growing.{places_are}
use Rattle.catalogue.proofs.laws.fits_what_is_held.Goals as goal

pub returns-clause-follows : goal.returns-clause-follows
returns-clause-follows g c = λ k H r s fits.
    subst (λ (o : Option ReleaseData). FitsAfter o (place_count k) r) s.last
    (subst (λ (n : ℕ). FitsAfter (last_release H) n r) (sym (places_are g.Z.ZoneData.bytes g.Z.ZoneData.sound k H s)) fits)

pub returns-clause-fits : goal.returns-clause-fits
returns-clause-fits g c = λ k H r s fits.
    subst (λ (n : ℕ). FitsAfter (last_release H) n r) (places_are g.Z.ZoneData.bytes g.Z.ZoneData.sound k H s)
    (subst (λ (o : Option ReleaseData). FitsAfter o (place_count k) r) (sym s.last) fits)
