use Rattle.std.proofs.Common.{rules, ◌≡◌, ◌++◌, ◌∷◌, ◌∙◌, [], List, map, length, arith, ap, append_assoc, length-append}
use Rattle.std.proofs.lemmas.List.{map-append}
use Rattle.std.specs.Vec.Iter.{into_iter_items}
use Rattle.catalogue.specs.Releases.{content_as_is}
use Rattle.catalogue.proofs.holding.Catalogue.all_next.Goals as goal

-- what is done grows by what the next item gives
moved : {X Y Z : Type 0} (f : X → Z) (g : Y → Z) (done : List X) (x : X) (y : Y) (rest : List Y) → f x ≡ g y
    → map f (done ++ x ∷ []) ++ map g rest ≡ map f done ++ map g (y ∷ rest)
moved f g done x y rest e =
    ap (λ zs. zs ++ map g rest) (map-append f done (x ∷ [])) ∙ append_assoc (map f done) (f x ∷ []) (map g rest)
    ∙ ap (λ z. map f done ++ z ∷ map g rest) e

pub loop-content-preserved : goal.loop-content-preserved
loop-content-preserved g c =
    let bytes = g.Z.ZoneData.bytes in
    let before = c.loop-content.invariant in
    let items : into_iter_items c.loop-content.content-iterator ≡ c.in-Some.content ∷ into_iter_items c.next.new.self = search rules in
    let pushed : c.push.new.self.items ≡ c.loop-content.held.items ++ c.in_ok-held_next.field-0 ∷ [] = search rules in
    let one = c.in_ok-held_next.ensures in
    record {
      count = omega (arith, before.count, ap length items, ap length pushed, length-append c.loop-content.held.items (c.in_ok-held_next.field-0 ∷ []));
      entries = λ H s. rw pushed (moved _ _ _ _ (content_as_is bytes c.in-Some.content) (map (content_as_is bytes) (into_iter_items c.next.new.self)) (one.entry H s)
          ∙ (rw items at before.entries H s));
      digests = λ H s. rw pushed (moved _ _ _ _ (content_as_is bytes c.in-Some.content) (map (content_as_is bytes) (into_iter_items c.next.new.self)) (one.digest H s)
          ∙ (rw items at before.digests H s));
      short = (rw items at before.short).1;
    }
