-- `program::pool_rest` meets its contract: the one pool that is refused.
-- Assumes nothing.
use borrow.Author.Tests.{eq-eqb, ne_eqb}
use Rattle.program.specs.Refusals.{on_pool}
use Rattle.program.proofs.pool_rest.Goals as goal

pub returns-then-pool-eq65535 : goal.returns-then-pool-eq65535
unfolding on_pool
returns-then-pool-eq65535 c = rw (eq-eqb c.args.pool 65535 c.if-pool-eq65535.true)

pub returns : goal.returns
unfolding on_pool
returns c = rw (ne_eqb c.args.pool 65535 c.if-pool-eq65535.false)
