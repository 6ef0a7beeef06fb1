-- `stack::walk::walk` meets its contract. The invariant is `Walking`: the definition, run from the entry in hand and what waits, gives what it gives from the start; where no turn is left both accept.
-- Assumes nothing.
use Prim.Native.Nat.{◌+◌, ◌-◌}
use lib.ListN.{length}
use Rattle.rules.specs.Look.{look_of}
use Rattle.effects.specs.Stated.{known_in}
use Rattle.stack.proofs.Walking.{Walking}
use Rattle.stack.proofs.walk.walk.Given as goal

abbrev pub invariant-loop-i : goal.invariant-loop-i
invariant-loop-i l = Walking (look_of (known_in l.rules.sources) l.marks l.body l.maximum) (length l.body + 1) l.queue.depths.now l.queue.places.now l.head l.queue.tail l.entry.offset l.entry.depth (length l.body + 1 - l.i)
