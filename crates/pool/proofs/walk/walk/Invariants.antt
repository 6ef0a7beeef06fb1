-- The loop of `pool::walk::walk`: the definition, run from the entry in hand and the queue, gives what it gives from the start (proofs/Walking.antt).
-- Assumes nothing.
use Prim.Native.Nat.{◌+◌, ◌*◌}
use lib.ListN.{length}
use Rattle.buffers.specs.Walk.{slack}
use Rattle.pool.specs.Stated.{rule_in}
use Rattle.pool.proofs.Walking.{Walking}
use Rattle.pool.proofs.walk.walk.Given as goal

abbrev pub invariant-loop-to : goal.invariant-loop-to
invariant-loop-to l =
    Walking (rule_in l.rules.sources l.marks l.body) (2 * length l.body + 2) l.rules.sources.program.pool (length l.body + 1) l.numbers l.ring.places.now l.ring.carried.now l.row l.ring.head l.ring.count l.entry.offset l.entry.held l.weight l.peak l.met

abbrev pub decreases-loop-to : goal.decreases-loop-to
decreases-loop-to l =
    2 * slack l.rules.sources.program.pool l.numbers + l.ring.count
