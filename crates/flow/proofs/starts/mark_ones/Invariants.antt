-- `flow::starts::mark_ones` meets its contract: `Marked` is the invariant; an opcode of one byte is an instruction.
-- Assumes nothing.
use Rattle.tables.specs.Packed.{size_in}
use Rattle.flow.specs.Marked.{Marked}
use Rattle.flow.proofs.starts.mark_ones.Given as goal

abbrev pub invariant-loop-at : goal.invariant-loop-at
invariant-loop-at l = Marked (size_in l.sizes) l.body l.from l.initial.marks l.at l.marks
