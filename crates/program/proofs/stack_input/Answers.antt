-- `program::stack_input` meets its contract: nothing besides the refusals of both calls.
-- Assumes nothing.
use Rattle.program.specs.Refusals.{stack_input}
use Rattle.program.proofs.stack_input.Goals as goal

pub returns : goal.returns
unfolding stack_input
returns c = c.ordered.ensures
