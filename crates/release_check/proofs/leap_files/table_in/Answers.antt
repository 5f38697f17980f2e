use Rattle.std.proofs.Common.{◌≡◌, ◌∙◌, ap, sym, None}
use Rattle.tzif_reader.specs.Cut.{lists_of}
use Rattle.tzif_reader.specs.Faults.{first_fault}
use Rattle.release_check.proofs.LeapFiles.{refused_by_reader, refused_by_table, clear_table, table_made}
use Rattle.release_check.proofs.leap_files.table_in.Goals as goal

pub returns-in-Err-clause-judged : goal.returns-in-Err-clause-judged
returns-in-Err-clause-judged c =
    rw (c.of_leap_reader.ensures) (refused_by_reader c.args.file.now c.in-Err.fault (λ ne. ap first_fault (sym c.as_slice.ensures) ∙ c.in-Err.ensures.fault ne))

pub returns-in-Ok-from_file-clause-table : goal.returns-in-Ok-from_file-clause-table
returns-in-Ok-from_file-clause-table c =
    table_made c.args.file.now c.args.expires.now c.in-Ok.lists c.in-Ok-from_file.table (c.in-Ok.ensures.exact ∙ ap lists_of c.as_slice.ensures)
    (c.in-Ok-from_file.ensures.file ∙ c.as_slice-2.ensures) c.in-Ok-from_file.ensures.expires c.in-Ok-from_file.ensures.steps

pub returns-in-Ok-from_file-clause-judged : goal.returns-in-Ok-from_file-clause-judged
returns-in-Ok-from_file-clause-judged c =
    let none : first_fault c.args.file.now ≡ None = ap first_fault (sym c.as_slice.ensures) ∙ c.in-Ok.ensures.no_fault in
    clear_table c.args.file.now c.in-Ok.lists none (c.in-Ok.ensures.exact ∙ ap lists_of c.as_slice.ensures) c.in-Ok-from_file.ensures.fault

pub returns-clause-judged : goal.returns-clause-judged
returns-clause-judged c =
    let none : first_fault c.args.file.now ≡ None = ap first_fault (sym c.as_slice.ensures) ∙ c.in-Ok.ensures.no_fault in
    rw (c.of_table.ensures) (refused_by_table c.args.file.now c.in-Ok.lists c.in-Err-from_file.fault none
    (c.in-Ok.ensures.exact ∙ ap lists_of c.as_slice.ensures) c.in-Err-from_file.ensures.fault)
