use Rattle.std.proofs.Common.{◌≡◌, ◌*◌, length, Some, sym, ap, ◌∙◌, subst, ◌<◌, arith}
use Rattle.std.specs.Prelude.{slice_get}
use Rattle.tzif_reader.specs.declared.zone_file.ZoneFile.{ZoneFile}
use Rattle.tzif_reader.proofs.Places.{item_at, length_items}
use Rattle.tzif_reader.proofs.zone_lists.ZoneLists.moment.Goals as goal

pub moment_at-requires : goal.moment_at-requires
moment_at-requires c =
    let all : length c.self.inside.numbers.now ≡ length c.args.self.now.moments =
    sym (length_items _ _) ∙ ap (λ (z : ZoneFile). length z.moments) c.self.view_is in
    let times : length c.self.inside.times.now ≡ 8 * length c.self.inside.numbers.now = c.self.invariant in
    omega (arith, c.requires, all, times)

pub returns : goal.returns
returns c =
    let all : length c.args.self.now.moments ≡ length c.self.inside.numbers.now =
    ap (λ (z : ZoneFile). length z.moments) (sym c.self.view_is) ∙ length_items _ _ in
    ap (λ (z : ZoneFile). slice_get z.moments c.args.i) (sym c.self.view_is)
    ∙ item_at _ c.args.i _ (subst (λ n. c.args.i < n) all c.requires) ∙ ap Some (sym c.moment_at.ensures)
