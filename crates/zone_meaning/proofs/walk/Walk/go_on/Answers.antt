use Rattle.std.proofs.Common.{◌≡◌, ◌≢◌, ◌+◌, min, true≢false, refl, sym, ap, ◌∙◌, ◌∷◌}
use Rattle.std.specs.Prelude.{ℤ}
use Rattle.td_civil.specs.declared.local_time.Local.{Local}
use Rattle.td_civil.specs.declared.local_time.Observance.{Observance}
use Rattle.zone_meaning.specs.Observed.{observance, change_at, changes_between}
use Rattle.zone_meaning.specs.State.{state_at}
use Rattle.zone_meaning.proofs.lemmas.ChangeLists.{same_left, change_left, change_is, made_is}
use Rattle.zone_meaning.proofs.lemmas.Types.{state_offset, read_offset}
use Rattle.zone_meaning.proofs.walk.Walk.go_on.Goals as goal

pub state_from-state-requires-clause-begun : goal.state_from-state-requires-clause-begun
state_from-state-requires-clause-begun c =
    c.one_more-begun.ensures ∙ ap (min (c.args.self.now.begun + 1)) c.len.ensures.moments

pub returns-then-same-clause-left : goal.returns-then-same-clause-left
returns-then-same-clause-left c =
    let state : ℤ → Local = state_at c.args.self.now.lists c.args.self.now.footer.now in
    let same : c.state_from-state.result ≡ c.args.self.now.state = c.is_same-same.ensures.equal.0 (c.if-same.true) in
    same_left state c.args.self.now.at.seconds c.args.stop.at.seconds c.args.self.now.end.seconds c.requires.stop.turn.later c.requires.stop.before_end
    c.requires.stop.turn.stays
    (sym c.state_from-state.ensures ∙ same ∙ c.requires.sound.state_is)

pub returns-else-same-clause-left : goal.returns-else-same-clause-left
returns-else-same-clause-left c =
    let z = c.args.self.now.lists in
    let footer = c.args.self.now.footer.now in
    let state : ℤ → Local = state_at z footer in
    let t = c.args.self.now.at.seconds in
    let m = c.args.stop.at.seconds in
    let old = c.args.self.now.state in
    let new = c.state_from-state.result in
    let other : new ≢ old = λ e. true≢false (sym (c.is_same-same.ensures.equal.1 e) ∙ c.if-same.false) in
    let from = read_offset old (state t) c.requires.sound.state_is (state_offset z footer t c.requires.sound.types c.requires.sound.lawful) in
    let to = read_offset new (state m) c.state_from-state.ensures (state_offset z footer m c.requires.sound.types c.requires.sound.lawful) in
    let made = made_is c.args.stop.at old new _ _ new.dst c.copy.result from to refl c.copy.ensures in
    let is : observance m old.offset new ≡ change_at state m =
    ap (λ (s : Local). observance m s.offset new) c.requires.sound.state_is ∙ ap (λ (s : Local). observance m (state t).offset s) c.state_from-state.ensures
    ∙ change_is state t m c.requires.stop.turn.later c.requires.stop.turn.stays in
    change_left state t m c.args.self.now.end.seconds c.requires.stop.turn.later c.requires.stop.before_end c.requires.stop.turn.stays
    (λ e. other (c.state_from-state.ensures ∙ e ∙ sym c.requires.sound.state_is))
    ∙ ap (λ (o : Observance). o ∷ changes_between state m c.args.self.now.end.seconds) (sym (made ∙ is))
