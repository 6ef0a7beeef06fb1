-- `file_writer::write::write_all` meets its contract: each call goes on where the one before it ended, and where there is no room nothing
-- behind it is put (WriteLaws.antt). Assumes nothing.
use Rattle.std.proofs.Common.{sym, ◌∙◌, length, Some, None}
use Rattle.file_writer.specs.Writing.{columns_of, fit, all_numbers}
use Rattle.file_writer.specs.WroteLaws.{stays_full}
use Rattle.file_writer.proofs.WriteLaws.{put_first, put_more, put_none, no_code, then_code}
use Rattle.file_writer.proofs.write.write_all.Goals as goal

pub returns-in_err-at : goal.returns-in_err-at
unfolding all_numbers
returns-in_err-at c = let a = c.args in
    rw c.from_residual.ensures
    (no_code a.pool (columns_of a.tables.now) a.buffer.now c.write_number.new.out
    (sym (stays_full _ c.write_number.new.out)
    ∙ (put_first a.pool 0 _ a.buffer.now None c.write_number.new.out (rw c.in_err-at.was at c.write_number.ensures))))

pub returns-in_err-at-2 : goal.returns-in_err-at-2
unfolding all_numbers
returns-in_err-at-2 c = let a = c.args in
    rw c.from_residual-in_err-at-2.ensures
    (no_code a.pool (columns_of a.tables.now) a.buffer.now c.put_table.new.buffer
    (sym (stays_full _ c.put_table.new.buffer)
    ∙ (put_more _ _ (Some c.in_ok-at.at) c.write_number.new.out None c.put_table.new.buffer (rw c.in_err-at-2.was at c.put_table.ensures)
    ∙ (put_first a.pool 0 _ a.buffer.now (Some c.in_ok-at.at) c.write_number.new.out (rw c.in_ok-at.was at c.write_number.ensures)))))

pub returns-in_err-at-3 : goal.returns-in_err-at-3
unfolding all_numbers
returns-in_err-at-3 c = let a = c.args in
    rw c.from_residual-in_err-at-3.ensures
    (no_code a.pool (columns_of a.tables.now) a.buffer.now c.put_table-2.new.buffer
    (sym (stays_full _ c.put_table-2.new.buffer)
    ∙ (put_more _ _ (Some c.in_ok-at-2.at) c.put_table.new.buffer None c.put_table-2.new.buffer (rw c.in_err-at-3.was at c.put_table-2.ensures)
    ∙ (put_more _ _ (Some c.in_ok-at.at) c.write_number.new.out (Some c.in_ok-at-2.at) c.put_table.new.buffer (rw c.in_ok-at-2.was at c.put_table.ensures)
    ∙ (put_first a.pool 0 _ a.buffer.now (Some c.in_ok-at.at) c.write_number.new.out (rw c.in_ok-at.was at c.write_number.ensures))))))

pub returns-in_err-at-4 : goal.returns-in_err-at-4
unfolding all_numbers
returns-in_err-at-4 c = let a = c.args in
    rw c.from_residual-in_err-at-4.ensures
    (no_code a.pool (columns_of a.tables.now) a.buffer.now c.put_table-3.new.buffer
    (sym (stays_full _ c.put_table-3.new.buffer)
    ∙ (put_more _ _ (Some c.in_ok-at-3.at) c.put_table-2.new.buffer None c.put_table-3.new.buffer (rw c.in_err-at-4.was at c.put_table-3.ensures)
    ∙ (put_more _ _ (Some c.in_ok-at-2.at) c.put_table.new.buffer (Some c.in_ok-at-3.at) c.put_table-2.new.buffer (rw c.in_ok-at-3.was at c.put_table-2.ensures)
    ∙ (put_more _ _ (Some c.in_ok-at.at) c.write_number.new.out (Some c.in_ok-at-2.at) c.put_table.new.buffer (rw c.in_ok-at-2.was at c.put_table.ensures)
    ∙ (put_first a.pool 0 _ a.buffer.now (Some c.in_ok-at.at) c.write_number.new.out (rw c.in_ok-at.was at c.write_number.ensures)))))))

pub returns-in_err-at-5 : goal.returns-in_err-at-5
unfolding all_numbers
returns-in_err-at-5 c = let a = c.args in
    rw c.from_residual-in_err-at-5.ensures
    (no_code a.pool (columns_of a.tables.now) a.buffer.now c.put_table-4.new.buffer
    (sym (stays_full _ c.put_table-4.new.buffer)
    ∙ (put_more _ _ (Some c.in_ok-at-4.at) c.put_table-3.new.buffer None c.put_table-4.new.buffer (rw c.in_err-at-5.was at c.put_table-4.ensures)
    ∙ (put_more _ _ (Some c.in_ok-at-3.at) c.put_table-2.new.buffer (Some c.in_ok-at-4.at) c.put_table-3.new.buffer (rw c.in_ok-at-4.was at c.put_table-3.ensures)
    ∙ (put_more _ _ (Some c.in_ok-at-2.at) c.put_table.new.buffer (Some c.in_ok-at-3.at) c.put_table-2.new.buffer (rw c.in_ok-at-3.was at c.put_table-2.ensures)
    ∙ (put_more _ _ (Some c.in_ok-at.at) c.write_number.new.out (Some c.in_ok-at-2.at) c.put_table.new.buffer (rw c.in_ok-at-2.was at c.put_table.ensures)
    ∙ (put_first a.pool 0 _ a.buffer.now (Some c.in_ok-at.at) c.write_number.new.out (rw c.in_ok-at.was at c.write_number.ensures))))))))

pub returns-in_err-start : goal.returns-in_err-start
unfolding all_numbers
returns-in_err-start c = let a = c.args in
    rw c.from_residual-in_err-start.ensures
    (no_code a.pool (columns_of a.tables.now) a.buffer.now c.write_number-2.new.out
    (sym (stays_full _ c.write_number-2.new.out)
    ∙ (put_first (fit (length a.tables.now.code.now)) c.in_ok-at-5.at _ c.put_table-4.new.buffer None c.write_number-2.new.out (rw (c.in_err-start.was, c.narrow.ensures) at c.write_number-2.ensures)
    ∙ (put_more _ _ (Some c.in_ok-at-4.at) c.put_table-3.new.buffer (Some c.in_ok-at-5.at) c.put_table-4.new.buffer (rw c.in_ok-at-5.was at c.put_table-4.ensures)
    ∙ (put_more _ _ (Some c.in_ok-at-3.at) c.put_table-2.new.buffer (Some c.in_ok-at-4.at) c.put_table-3.new.buffer (rw c.in_ok-at-4.was at c.put_table-3.ensures)
    ∙ (put_more _ _ (Some c.in_ok-at-2.at) c.put_table.new.buffer (Some c.in_ok-at-3.at) c.put_table-2.new.buffer (rw c.in_ok-at-3.was at c.put_table-2.ensures)
    ∙ (put_more _ _ (Some c.in_ok-at.at) c.write_number.new.out (Some c.in_ok-at-2.at) c.put_table.new.buffer (rw c.in_ok-at-2.was at c.put_table.ensures)
    ∙ (put_first a.pool 0 _ a.buffer.now (Some c.in_ok-at.at) c.write_number.new.out (rw c.in_ok-at.was at c.write_number.ensures)))))))))

pub returns : goal.returns
unfolding all_numbers
returns c = let a = c.args in
    then_code a.pool (columns_of a.tables.now) a.buffer.now (Some c.in_ok-start.start) c.write_number-2.new.out _
    (sym (put_none (Some c.in_ok-start.start) c.write_number-2.new.out)
    ∙ (put_first (fit (length a.tables.now.code.now)) c.in_ok-at-5.at _ c.put_table-4.new.buffer (Some c.in_ok-start.start) c.write_number-2.new.out (rw (c.in_ok-start.was, c.narrow.ensures) at c.write_number-2.ensures)
    ∙ (put_more _ _ (Some c.in_ok-at-4.at) c.put_table-3.new.buffer (Some c.in_ok-at-5.at) c.put_table-4.new.buffer (rw c.in_ok-at-5.was at c.put_table-4.ensures)
    ∙ (put_more _ _ (Some c.in_ok-at-3.at) c.put_table-2.new.buffer (Some c.in_ok-at-4.at) c.put_table-3.new.buffer (rw c.in_ok-at-4.was at c.put_table-3.ensures)
    ∙ (put_more _ _ (Some c.in_ok-at-2.at) c.put_table.new.buffer (Some c.in_ok-at-3.at) c.put_table-2.new.buffer (rw c.in_ok-at-3.was at c.put_table-2.ensures)
    ∙ (put_more _ _ (Some c.in_ok-at.at) c.write_number.new.out (Some c.in_ok-at-2.at) c.put_table.new.buffer (rw c.in_ok-at-2.was at c.put_table.ensures)
    ∙ (put_first a.pool 0 _ a.buffer.now (Some c.in_ok-at.at) c.write_number.new.out (rw c.in_ok-at.was at c.write_number.ensures))))))))
    c.put_bytes.ensures
