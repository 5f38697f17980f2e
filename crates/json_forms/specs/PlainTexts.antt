-- What the texts of a document have to be.
use Rattle.std.specs.Prelude.{⊤}
use Rattle.std.specs.List.{AllByRecursion}
use Rattle.td_base.specs.Names.{IsPlain}
use Rattle.td_base.specs.declared.report.Role.{Role}
use Rattle.td_base.specs.declared.report.Role.TheVariants.{Primary, Secondary}
use Rattle.td_civil.specs.Bounds.{IsWithinBounds}
use Rattle.td_civil.specs.declared.local_time.Observance.{Observance}
use Rattle.json_forms.specs.declared.zone_list.ListZone.{ListZone}

-- the texts of a listed zone are plain, and its moment has a text
pub record IsPlainZone (z : ListZone) : Type 0 where
  pub tzid : IsPlain z.tzid
  pub etag : IsPlain z.etag
  pub stamp : IsWithinBounds z.stamp.seconds
  pub publisher : IsPlain z.publisher
  pub version : IsPlain z.version
  pub aliases : AllByRecursion IsPlain z.aliases

-- the name of an observance is plain, and its moment has a text
pub record IsPlainObservance (o : Observance) : Type 0 where
  pub name : IsPlain o.name
  pub onset : IsWithinBounds o.onset.seconds

-- the address of the server that a secondary follows is plain
abbrev pub IsPlainRole : Role → Type 0
IsPlainRole Primary = ⊤
IsPlainRole (Secondary upstream) = IsPlain upstream
