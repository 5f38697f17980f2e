use Rattle.std.proofs.Common.{◌∙◌, ap, sym, map, Some}
use Rattle.catalogue.specs.Holdings.{names_held}
use Rattle.zone_meaning.specs.ZoneHistories.{zone_bytes}
use Rattle.release_check.specs.declared.check_fault.CheckFault.TheVariants as fault
use Rattle.release_check.proofs.Missing.{missing_next, missing_here}
use Rattle.release_check.proofs.history_judging.judge_names.Goals as goal

pub returns-then-not-is_among : goal.returns-then-not-is_among
returns-then-not-is_among c = (
  λ e. cc,
  λ _. missing_here (names_held zone_bytes c.args.last.now) (map (λ n. n.now) c.args.new.now.keys) c.loop-at.at c.name-name.result.now
      c.name-name.ensures (sym c.is_among.ensures ∙ c.if-not-is_among.true) c.loop-at.invariant
      ∙ ap (λ name. Some (fault.Drops name)) (sym c.in_ok-from_slice.ensures),
)

pub loop-at-preserved : goal.loop-at-preserved
loop-at-preserved c =
    missing_next (names_held zone_bytes c.args.last.now) (map (λ n. n.now) c.args.new.now.keys) c.loop-at.at c.name-name.result.now
    c.name-name.ensures (sym c.is_among.ensures ∙ c.if-not-is_among.false) c.loop-at.invariant
