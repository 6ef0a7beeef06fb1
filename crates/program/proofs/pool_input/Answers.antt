-- `program::pool_input` meets its contract: what it says of 31, 30 and 35 besides is what the definition says.
-- Assumes nothing.
use Rattle.program.specs.Refusals.{pool_input}
use Rattle.program.proofs.pool_input.Goals as goal

pub returns : goal.returns
unfolding pool_input
returns c = rw (c.pool_too_many-many.ensures, c.pool_rest.ensures) at c.ordered.ensures
