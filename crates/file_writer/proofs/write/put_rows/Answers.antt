-- `file_writer::write::put_rows` meets its contract: each turn puts one row more, and where there is no room none behind it is put
-- (WriteLaws.antt). Assumes nothing.
use Rattle.std.proofs.Common.{ℕ, ◌+◌, ◌-◌, List, ◌++◌, sym, ◌∙◌, ap, refl, arith, map, Some}
use Rattle.file.specs.Written.{row_at, rows_from}
use Rattle.file_writer.specs.Writing.{column_of, put_all}
use Rattle.file_writer.proofs.WriteLaws.{put_more, put_stops, rows_next, rows_rest}
use Rattle.file_writer.proofs.write.put_rows.Goals as goal

pub loop-row-init : goal.loop-row-init
unfolding put_all rows_from
loop-row-init c = refl

pub returns-in_err-at : goal.returns-in_err-at
returns-in_err-at c = let l = c.loop-row in
    let a = c.args in
    let t = map column_of a.columns.now in
    let front = (rw c.in_err-at.was at c.put_row.ensures) ∙ put_more (rows_from t l.row 0) (row_at t l.row) (Some a.start) a.buffer.now (Some l.at) l.buffer l.invariant in
    rw c.from_residual.ensures
    (put_stops (rows_from t l.row 0 ++ row_at t l.row) (rows_from t (a.count - (l.row + 1)) (l.row + 1)) (Some a.start) a.buffer.now c.put_row.new.buffer front
    ∙ ap (λ (ns : List ℕ). put_all (Some a.start) ns a.buffer.now) (sym (rows_rest t l.row a.count (omega arith))))

pub loop-row-preserved : goal.loop-row-preserved
loop-row-preserved c = let l = c.loop-row in
    let a = c.args in
    let t = map column_of a.columns.now in
    (rw c.in_ok-at.was at c.put_row.ensures)
    ∙ (put_more (rows_from t l.row 0) (row_at t l.row) (Some a.start) a.buffer.now (Some l.at) l.buffer l.invariant
    ∙ ap (λ (ns : List ℕ). put_all (Some a.start) ns a.buffer.now) (sym (rows_next t l.row)))
