-- The loop of `pool::bodies::all`: what it has done up to a row (proofs/Going.antt).
-- Assumes nothing.
use Rattle.pool.specs.Stated.{walk_in, GivenBack}
use Rattle.pool.proofs.Going.{Going}
use Rattle.pool.proofs.bodies.all.Given as goal

abbrev pub invariant-loop-row : goal.invariant-loop-row
invariant-loop-row l =
    Going (walk_in l.rules.sizes.now l.rules.sources) l.rules.sources.program.program.functions.ids.now l.initial.cells l.cells l.weights l.peaks l.row
    × GivenBack l.initial.scratch l.scratch
