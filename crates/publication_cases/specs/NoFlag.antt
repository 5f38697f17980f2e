-- Which flag stops works that never look at one.
use Rattle.std.specs.Prelude.{[]}
use Rattle.atomic_table.specs.Seated.{TableId}

-- no table has it
abbrev pub no_flag : TableId
no_flag = record {
  words = 0;
  slots = 0;
  views_name = 0;
  atom = 0;
  block = 0;
  offset = 0;
  slot_names = [];
}
