-- `flow::starts::skip_ones` meets its contract: `Skipped` is the invariant; an opcode of one byte other than RET is passed.
-- Assumes nothing.
use Rattle.tables.specs.Packed.{size_in}
use Rattle.flow.specs.Marked.{Skipped}
use Rattle.flow.proofs.starts.skip_ones.Given as goal

abbrev pub invariant-loop-at : goal.invariant-loop-at
invariant-loop-at l = Skipped (size_in l.sizes) l.body l.from l.at
