-- `pool::bodies::run` meets its contract: by how the decoding ends; the marks that it leaves fit the body.
-- Assumes nothing.
use mathlib.Core.Path.{◌∙◌, sym}
use native.Mathlib.Omega.{arith}
use Rattle.cells.specs.Zeros.{length_zeros}
use Rattle.tables.specs.Packed.{size_in}
use Rattle.std.proofs.lemmas.Result.{err_from_is_err_and}
use Rattle.callees.specs.Stated.{temps_in, opens_in}
use Rattle.pool.proofs.Running.{decoding_stops, body_walks, marks_fitting, begins_walk}
use Rattle.pool.proofs.bodies.run.Goals as goal

pub returns-in_err-mark_starts : goal.returns-in_err-mark_starts
returns-in_err-mark_starts c = let p = err_from_is_err_and c.from_residual.result c.from_residual.ensures.1 in rw (p.1, p.2) (decoding_stops _ _ _ _ c.args.body.now _ _ _ c.in_err-mark_starts.was c.mark_starts.ensures.0)

pub bounds-numbers-0 : goal.bounds-numbers-0
bounds-numbers-0 c = omega (arith, length_zeros _ _ c.requires.marks_value.1.0)

pub walk-requires-clause-numbers_value : goal.walk-requires-clause-numbers_value
walk-requires-clause-numbers_value c = let p = c.requires.marks_value in (begins_walk _ _ p.1.0, p.1.1)

pub walk-requires-clause-fitting : goal.walk-requires-clause-fitting
walk-requires-clause-fitting c = let p = c.requires in (marks_fitting _ c.args.body.now c.mark_starts.new.marks _ c.mark_starts.ensures.1 p.marks_value.0, p.body_len_bound)

pub returns : goal.returns
returns c = let a = c.args in body_walks (size_in a.rules.now.sizes.now) (temps_in a.rules.now.sources) (opens_in a.rules.now.sources) a.rules.now.sources.program.pool a.body.now c.mark_starts.new.marks _ _ _ c.mark_starts.ensures.1 c.requires.marks_value.0 (sym c.in_ok-mark_starts.was ∙ c.mark_starts.ensures.0) c.walk.ensures
