use Rattle.std.proofs.Common.{refl}
use Rattle.installer.specs.Installing.{ManifestGives}
use Rattle.installer.proofs.InstallLemmas.{allowed_held, grew, made_out_held, stands_held}
use Rattle.installer.proofs.admitting.admitted_stated.Goals as goal

pub returns-clause-found : goal.returns-clause-found
returns-clause-found g c = λ H s.
    grew (ManifestGives c.args.manifest.now) c.args.rules.now.chosen _ _ _ H _ _ _ _ s c.in_ok-release.ensures.found (c.in_ok-delta.ensures.allowed H s)
    (c.in_ok-catalogue.ensures H s) refl

pub returns-clause-stands : goal.returns-clause-stands
returns-clause-stands g c = λ H s. stands_held _ H _ (c.in_ok-catalogue.ensures H s)

pub returns-clause-allowed : goal.returns-clause-allowed
returns-clause-allowed g c = λ H s. allowed_held _ H _ c.args.rules.now.chosen (c.in_ok-catalogue.ensures H s) (c.in_ok-delta.ensures.allowed H s)

pub returns-clause-made_out : goal.returns-clause-made_out
returns-clause-made_out g c = λ H s. made_out_held c.args.subscribers.now _ _ H _ (c.in_ok-catalogue.ensures H s) (c.in_ok-delta.ensures.made_out H s)
