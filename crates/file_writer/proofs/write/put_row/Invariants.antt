-- `file_writer::write::put_row` meets its contract: at each turn the numbers of the columns so far are put. Assumes nothing.
use Rattle.std.proofs.Common.{◌≡◌, map, take, Some}
use Rattle.file.specs.Written.{row_at}
use Rattle.file_writer.specs.Writing.{Buffer, column_of, put_all}
use Rattle.file_writer.proofs.write.put_row.Given as goal

abbrev pub invariant-loop-column : goal.invariant-loop-column
invariant-loop-column l =
    ◌≡◌ {A = Buffer} (Some l.at, l.buffer) (put_all (Some l.start) (row_at (map column_of (take l.column-index l.columns)) l.row) l.initial.buffer)
