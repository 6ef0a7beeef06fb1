-- `pool::bodies::all` meets its contract: a law of proofs/Going.antt for each way that a row can go.
-- Assumes nothing.
use Prim.Native.Nat.{◌<◌}
use native.Mathlib.Omega.{arith}
use mathlib.Core.Path.{refl}
use Rattle.pool.proofs.Running.{lays_small}
use Rattle.pool.proofs.Giving.{given_first, given_on}
use Rattle.pool.proofs.Going.{row_walk, going_first, going_end, going_stopped, going_more}
use Rattle.pool.proofs.bodies.all.Goals as goal

pub loop-row-init : goal.loop-row-init
loop-row-init c = let p = c.requires.cleared in (going_first _ _ _ _ _ p.1.1.1 refl refl, given_first _ p.0)

pub overflow_cast-weights : goal.overflow_cast-weights
overflow_cast-weights c = let s = lays_small _ _ _ _ _ _ _ _ _ _ c.at_row-used.ensures.0 c.in-Ok.is in omega (arith, c.args.rules.now.pool_bounded)

pub returns-in-Err-clause-found : goal.returns-in-Err-clause-found
returns-in-Err-clause-found c = going_stopped _ _ _ _ _ _ _ c.loop-row.invariant.0 c.loop-row-test.true _ _ _ _ (row_walk _ _ _ c.args.rules.now.sources.program.program.code.now _ _ _ _ _ _ _ _ c.at.ensures c.at-in-loop-row.ensures c.part-body.ensures c.at_row-used.ensures.0) _ c.in-Err.is _ _ c.of.ensures

pub returns-in-Err-clause-given_back : goal.returns-in-Err-clause-given_back
returns-in-Err-clause-given_back c = given_on _ _ _ c.loop-row.invariant.1 c.at_row-used.ensures.1

pub loop-row-preserved : goal.loop-row-preserved
loop-row-preserved c = let a = c.at_row-used in let l : c.loop-row.row < 128 = omega (arith, c.loop-row-test.true, c.requires.functions_limit) in (going_more _ _ _ _ _ _ _ c.loop-row.invariant.0 c.loop-row-test.true l _ _ _ (row_walk _ _ _ c.args.rules.now.sources.program.program.code.now _ _ _ _ _ _ _ _ c.at.ensures c.at-in-loop-row.ensures c.part-body.ensures c.at_row-used.ensures.0) c.in-Ok.is a.auto.cells, given_on _ _ _ c.loop-row.invariant.1 a.ensures.1)

pub returns-clause-found : goal.returns-clause-found
returns-clause-found c = going_end _ _ _ _ _ _ _ c.loop-row.invariant.0 c.loop-row-test.false c.requires.functions_limit _ refl refl
