-- `file_writer::write::put_table` meets its contract: the count, and behind it the rows (WriteLaws.antt). Assumes nothing.
use Rattle.std.proofs.Common.{ℕ, sym, ◌∙◌, ap, map, Some}
use Rattle.file.specs.Written.{rows_from}
use Rattle.file_writer.specs.Writing.{column_of, put_all, counted}
use Rattle.file_writer.specs.WroteLaws.{stays_full}
use Rattle.file_writer.proofs.WriteLaws.{put_first}
use Rattle.file_writer.proofs.write.put_table.Goals as goal

pub returns-in_err-at : goal.returns-in_err-at
unfolding counted
returns-in_err-at c = let a = c.args in
    rw (c.from_residual.ensures, ← c.narrow-rows.ensures)
    (sym (stays_full _ c.write_number.new.out) ∙ put_first c.narrow-rows.result a.start _ a.buffer.now _ c.write_number.new.out (rw c.in_err-at.was at c.write_number.ensures))

pub returns : goal.returns
unfolding counted
returns c = let a = c.args in
    rw (← c.narrow-rows.ensures)
    (c.put_rows.ensures
    ∙ (ap (λ (n : ℕ). put_all (Some c.in_ok-at.at) (rows_from (map column_of a.columns.now) n 0) c.write_number.new.out) c.from.ensures
    ∙ put_first c.narrow-rows.result a.start _ a.buffer.now _ c.write_number.new.out (rw c.in_ok-at.was at c.write_number.ensures)))
