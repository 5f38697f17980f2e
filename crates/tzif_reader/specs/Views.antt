-- What the code keeps, as the definitions see it.
use Rattle.std.specs.Prelude.{◌≡◌, ◌*◌, length}
use Rattle.tzif_reader.specs.declared.counts.Counts.{Counts}
use Rattle.tzif_reader.specs.declared.block.Block.{Block}
use Rattle.tzif_reader.specs.Cut.{Parts}

-- the fields of a block without where they lie in memory
abbrev pub parts_view : Block → Parts
parts_view b = record {
  times = b.times.now;
  numbers = b.numbers.now;
  types = b.types.now;
  designations = b.designations.now;
  leaps = b.leaps.now;
  standard = b.standard.now;
  ut = b.ut.now;
}

-- the fields have the lengths that the counts give
pub record AreSized (c : Counts) (p : Parts) : Type 0 where
  pub times : length p.times ≡ 8 * c.timecnt
  pub numbers : length p.numbers ≡ c.timecnt
  pub types : length p.types ≡ 6 * c.typecnt
  pub designations : length p.designations ≡ c.charcnt
  pub leaps : length p.leaps ≡ 12 * c.leapcnt
  pub standard : length p.standard ≡ c.isstdcnt
  pub ut : length p.ut ≡ c.isutcnt
