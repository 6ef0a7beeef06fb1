-- `pool::pool_check` meets its contract: the refusals first, then the program of an input that is taken.
-- Assumes nothing.
use mathlib.Core.Path.{◌∙◌, sym}
use Rattle.std.proofs.lemmas.Result.{err_from_is_err_and}
use Rattle.pool.proofs.Calling.{call_taken, call_refused, call_answers, scratch_zero, scratch_kept}
use Rattle.pool.proofs.pool_check.Goals as goal

pub returns-in_err-pool_input-clause-value : goal.returns-in_err-pool_input-clause-value
returns-in_err-pool_input-clause-value c = let p = err_from_is_err_and c.from_residual.result c.from_residual.ensures.1 in rw (p.1, p.2) (call_refused _ _ _ _ (sym c.in_err-pool_input.was ∙ (rw c.room.ensures at c.pool_input.ensures)))

pub returns-in_err-pool_input-clause-marks_after : goal.returns-in_err-pool_input-clause-marks_after
returns-in_err-pool_input-clause-marks_after c = let p = err_from_is_err_and c.from_residual.result c.from_residual.ensures.1 in rw (p.1, p.2) (scratch_kept _ _, (scratch_kept _ _, (scratch_kept _ _, (scratch_kept _ _, scratch_kept _ _))))

pub checked-requires : goal.checked-requires
checked-requires c = call_taken _ _ _ (sym c.in_ok-pool_input.was ∙ (rw c.room.ensures at c.pool_input.ensures))

pub returns-clause-value : goal.returns-clause-value
returns-clause-value c = call_answers _ _ _ (sym c.in_ok-pool_input.was ∙ (rw c.room.ensures at c.pool_input.ensures)) _ c.checked.ensures.value

pub returns-clause-marks_after : goal.returns-clause-marks_after
returns-clause-marks_after c = let e = c.checked.ensures in let z = e.zero_after in (scratch_zero _ _ _ _ e.value z.0, (scratch_zero _ _ _ _ e.value z.1.0, (scratch_zero _ _ _ _ e.value z.1.1.0, (scratch_zero _ _ _ _ e.value z.1.1.1.0, scratch_zero _ _ _ _ e.value z.1.1.1.1))))
