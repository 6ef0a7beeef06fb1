-- `file_writer::write_file` meets its contract: what was made in the buffer is the program's bench file, or it has no room there (WroteLaws.antt).
-- Assumes nothing.
use Rattle.std.proofs.Common.{ℕ, ◌≡◌, sym, ◌∙◌, ap, Some, None}
use Rattle.std.proofs.Math.ListN.{length-replicate}
use Rattle.std.specs.Result.{result_ok}
use Rattle.std.proofs.lemmas.Result.{err_from_is_err_and}
use Rattle.file.specs.Stated.{Bench}
use Rattle.file_writer.specs.Writing.{columns_of, refused_to_write}
use Rattle.file_writer.specs.WroteLaws.{gives_31, gives_no_room, gives_file}
use Rattle.file_writer.proofs.write_file.Goals as goal

pub returns-then-refused : goal.returns-then-refused
unfolding refused_to_write
returns-then-refused c = let a = c.args in
    let p : Bench = record { pool = a.pool; tables = columns_of a.tables.now } in
    gives_31 p a.out.now (sym c.refused.ensures ∙ c.if-refused.true)

pub returns-in_err-size : goal.returns-in_err-size
unfolding refused_to_write
returns-in_err-size c = let a = c.args in
    let p : Bench = record { pool = a.pool; tables = columns_of a.tables.now } in
    let none : c.write_all.result ≡ None = c.ok_or.ensures.ok_part ∙ ap result_ok c.in_err-size.was in
    let q = err_from_is_err_and c.from_residual.result c.from_residual.ensures.1 in
    rw (q.1, q.2, sym c.in_err-size.was ∙ (rw none at c.ok_or.ensures.value))
    (gives_no_room p a.out.now _ _ (sym c.refused.ensures ∙ c.if-refused.false) (length-replicate {A = ℕ} 65536 0) (rw none at c.write_all.ensures))

pub returns : goal.returns
unfolding refused_to_write
returns c = let a = c.args in
    let p : Bench = record { pool = a.pool; tables = columns_of a.tables.now } in
    let some : c.write_all.result ≡ Some c.in_ok-size.size = c.ok_or.ensures.ok_part ∙ ap result_ok c.in_ok-size.was in
    gives_file p a.out.now _ _ c.in_ok-size.size _ _ (sym c.refused.ensures ∙ c.if-refused.false) (length-replicate {A = ℕ} 65536 0) (rw some at c.write_all.ensures) c.deliver.ensures
