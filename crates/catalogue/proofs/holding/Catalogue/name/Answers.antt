use Rattle.std.proofs.Common.{◌∙◌, ap, sym, map}
use Rattle.catalogue.proofs.NamesHeld.{name_count_held, names_indexed}
use Rattle.catalogue.specs.declared.names.Name.{Name}
use Rattle.std.specs.List.{slice_get}
use Rattle.catalogue.proofs.holding.Catalogue.name.Goals as goal

pub text_at-requires : goal.text_at-requires
text_at-requires g c = rw (c.as_slice.ensures, c.deref.ensures, name_count_held g.Z.ZoneData.bytes c.args.self.now) c.requires

pub returns : goal.returns
returns g c =
    sym (ap (λ xs. slice_get xs c.args.i) (ap (map (λ (n : Name). n.text)) (c.as_slice.ensures ∙ c.deref.ensures) ∙ names_indexed g.Z.ZoneData.bytes c.args.self.now))
    ∙ c.text_at.ensures
