-- The loop of `pool::ring::Ring::first`: what waits gives what the whole queue gave, in columns as long as before.
-- Assumes nothing.
use Rattle.pool.specs.Stated.{queue_in, SameRoom}
use Rattle.pool.proofs.Raising.{Skipping}
use Rattle.pool.proofs.ring.Ring.first.Given as goal

abbrev pub invariant-loop-self : goal.invariant-loop-self
invariant-loop-self l = Skipping l.numbers l.self.places.now l.self.carried.now (queue_in l.initial.self) l.self.head l.self.count × SameRoom l.initial.self l.self

abbrev pub decreases-loop-self : goal.decreases-loop-self
decreases-loop-self l = l.self.count
