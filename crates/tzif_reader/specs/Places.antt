-- Where the transitions of a zone file stand in its bytes.
use Rattle.std.specs.Prelude.{◌≡◌, ◌≤◌, ◌+◌, ◌*◌, ℕ, List, length}
use Rattle.tzif_reader.specs.declared.zone_lists.ZoneRest.{ZoneRest}
use Rattle.tzif_reader.specs.Cut.{block_place, counts_of, lists_of}

-- what is kept of a file beside its bytes: the place and the number of its transitions, and the
-- other lists
pub record IsRestOf (file : List ℕ) (rest : ZoneRest) : Type 0 where
  pub place : rest.block_at ≡ block_place file
  pub count : rest.count ≡ (counts_of file).timecnt
  pub room : rest.block_at + 9 * rest.count ≤ length file
  pub kinds : rest.kinds ≡ (lists_of file).kinds
  pub leaps : rest.leaps ≡ (lists_of file).leaps
  pub footer : rest.footer ≡ (lists_of file).footer
