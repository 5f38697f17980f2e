use Rattle.std.proofs.Common.{◌≡◌, ◌++◌, cond, drop, sym, subst}
use Rattle.json.specs.Print.{print_from}
use Rattle.td_civil.specs.declared.local_time.Observance.{Observance}
use Rattle.json_forms.specs.ExpansionDocument.{observance_data}
use Rattle.json_forms.specs.TreeTokens.{tree_tokens}
use Rattle.json_forms.proofs.PieceTexts.{pieces_appended, head_is_long}
use Rattle.json_forms.proofs.observance_text.ObservanceText.put.Goals as goal

pub opening-requires : goal.opening-requires
opening-requires c = rw (c.as_slice.ensures.value) (head_is_long _ _ _ _ c.self.invariant)

pub returns : goal.returns
returns c =
    let P : Observance → Type 0 = λ o. c.append-3.new.self ≡ c.args.out.now ++ print_from c.args.after_value (tree_tokens (observance_data o)) in
    subst P c.self.view_is
    (rw (
      c.in_ok-append-3.ensures.ok,
      c.as_slice-3.ensures.value,
      c.in_ok-append-2.ensures.ok,
      c.as_slice-2.ensures,
      c.in_ok-append.ensures.ok,
      c.opening.ensures,
      c.as_slice.ensures.value,
    )
    (pieces_appended c.args.out.now c.self.inside.head c.self.inside.onset c.self.inside.tail c.args.after_value c.self.inside.observance c.self.invariant))
