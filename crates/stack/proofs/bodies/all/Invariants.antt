-- `stack::bodies::all` meets its contract. The invariant is `Going`: the rows from this one on give what all give, over scratch that is zero.
-- Assumes nothing.
use Rattle.tables.specs.Packed.{size_in}
use Rattle.program.specs.Stated.{program_in}
use Rattle.effects.specs.Stated.{known_in}
use Rattle.stack.proofs.Running.{Going}
use Rattle.stack.proofs.bodies.all.Given as goal

abbrev pub invariant-loop-row : goal.invariant-loop-row
invariant-loop-row l = Going (size_in l.rules.sizes.now) (known_in l.rules.sources) (program_in l.rules.sources.program) l.initial.marks l.initial.depths l.initial.queue l.marks l.depths l.queue l.row
