use Rattle.std.proofs.Common.{◌≡◌, refl, ap, ◌∙◌, ◌∷◌, List}
use Rattle.std.specs.Prelude.{ℤ}
use Rattle.td_civil.specs.declared.local_time.Local.{Local}
use Rattle.td_civil.specs.declared.local_time.Observance.{Observance}
use Rattle.zone_meaning.specs.Observed.{observance, observed, changes_between}
use Rattle.zone_meaning.specs.State.{state_at, zone_state}
use Rattle.zone_meaning.specs.WalkLeft.{left}
use Rattle.zone_meaning.proofs.lemmas.ChangeLists.{made_is, observed_is}
use Rattle.zone_meaning.proofs.lemmas.Types.{state_offset, read_offset}
use Rattle.zone_meaning.proofs.observing.Changes.new.Goals as goal

pub returns : goal.returns
returns c =
    let w = c.walk_from-walk.result in
    let a = c.args.a.seconds in
    let b = c.args.b.seconds in
    let s = w.state in
    let now : ℤ → Local = zone_state c.args.zone.now in
    let sound = c.walk_from-walk.ensures.sound in
    let offset = read_offset s (state_at w.lists w.footer.now w.at.seconds) sound.state_is (state_offset w.lists w.footer.now w.at.seconds sound.types sound.lawful) in
    let made = made_is c.args.a s s _ _ s.dst c.copy.result offset offset refl c.copy.ensures in
    let first : observance a s.offset s ≡ observance a (now a).offset (now a) = ap (λ (x : Local). observance a x.offset x) c.walk_from-walk.ensures.state in
    ap (λ (o : Observance). o ∷ left w) (made ∙ first)
    ∙ ap (λ (os : List Observance). observance a (now a).offset (now a) ∷ os) c.walk_from-walk.ensures.left
    ∙ observed_is now a b
