use Rattle.std.proofs.Common.{rules, ◌≡◌, ◌<◌, ◌∷◌, ◌++◌, [], length, get_or, sym, ap, ◌∙◌, None, Some}
use Rattle.vtimezone.specs.Gathering.{place_from}
use Rattle.vtimezone.proofs.Joined.{joined_by, joined_nowhere}
use Rattle.vtimezone.proofs.change_parts.join.Goals as goal

pub returns-in_ok-push-in-Some : goal.returns-in_ok-push-in-Some
returns-in_ok-push-in-Some c =
    let items = c.args.parts.now.items in
    let place : Some c.in-Some.place ≡ place_from 0 items c.args.change =
    c.in-Some.ensures.place ∙ ap (λ ps. place_from 0 ps c.args.change) c.as_slice.ensures.value in
    let inside : c.in-Some.place < length items = search rules in
    let is : get_or items c.in-Some.place c.index_mut.result.now ≡ c.index_mut.result.now = search rules in
    joined_by items c.args.change c.in-Some.place c.index_mut.result.now _ place is inside c.in_ok-push-in-Some.ensures.ok

pub returns-in_ok-push-in-None : goal.returns-in_ok-push-in-None
returns-in_ok-push-in-None c =
    let items = c.args.parts.now.items in
    let place : None ≡ place_from 0 items c.args.change =
    c.in-None.ensures.place ∙ ap (λ ps. place_from 0 ps c.args.change) c.as_slice.ensures.value in
    c.in_ok-push-in-None.ensures.items ∙ ap (λ p. items ++ p ∷ []) c.part_alone.ensures ∙ sym (joined_nowhere items c.args.change 0 (sym place))
