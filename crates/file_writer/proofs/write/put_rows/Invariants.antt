-- `file_writer::write::put_rows` meets its contract: at each turn the rows so far are put. Assumes nothing.
use Rattle.std.proofs.Common.{◌≡◌, map, Some}
use Rattle.file.specs.Written.{rows_from}
use Rattle.file_writer.specs.Writing.{Buffer, column_of, put_all}
use Rattle.file_writer.proofs.write.put_rows.Given as goal

abbrev pub invariant-loop-row : goal.invariant-loop-row
invariant-loop-row l =
    ◌≡◌ {A = Buffer} (Some l.at, l.buffer) (put_all (Some l.start) (rows_from (map column_of l.columns) l.row 0) l.initial.buffer)
