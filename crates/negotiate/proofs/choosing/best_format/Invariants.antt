use Rattle.std.proofs.Common.{◌≡◌, map, drop}
use Rattle.negotiate.specs.Choices.{named_offer, best_format}
use Rattle.negotiate.proofs.BestLemmas.{best_after}
use Rattle.negotiate.proofs.choosing.best_format.Given as goal

abbrev pub invariant-loop-offer : goal.invariant-loop-offer
invariant-loop-offer l =
    best_after l.field l.best l.largest (map named_offer (drop l.offer-index l.offers)) ≡ best_format l.field (map named_offer l.offers)
