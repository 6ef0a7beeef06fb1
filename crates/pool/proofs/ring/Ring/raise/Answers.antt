-- `pool::ring::Ring::raise` meets its contract, by the recorded number and the queue's room.
-- Assumes nothing.
use Prim.Native.Nat.{◌<◌}
use native.Mathlib.Omega.{arith}
use mathlib.Core.Path.{refl}
use lib.ListN.{length}
use Rattle.pool.proofs.Raising.{raises_kept, raises_full, raises_new, at_inside}
use Rattle.pool.proofs.ring.Ring.raise.Goals as goal

inside : (c : goal.After-seat-at) → c.seat-at.result < length c.args.self.now.places.now
inside c = at_inside _ _ _ _ _ c.args.sum c.args.to c.requires.ready _ c.seat-at.ensures c.if-room-self.false

pub returns-then-sum-numbers-clause-raises : goal.returns-then-sum-numbers-clause-raises
returns-then-sum-numbers-clause-raises c = raises_kept _ _ _ _ _ _ _ c.requires.ready _ refl c.if-sum-numbers.true

pub returns-then-room-self-clause-raises : goal.returns-then-room-self-clause-raises
returns-then-room-self-clause-raises c = raises_full _ _ _ _ _ _ _ c.requires.ready _ refl c.if-sum-numbers.false c.if-room-self.true

pub offset_bounds-self-at : goal.offset_bounds-self-at
offset_bounds-self-at c = let w = inside c in omega arith

pub bounds-self-at : goal.bounds-self-at
bounds-self-at c = inside c

pub offset_bounds-self-at-2 : goal.offset_bounds-self-at-2
offset_bounds-self-at-2 c = let w = inside c in omega (arith, c.requires.ready.alike)

pub bounds-self-at-2 : goal.bounds-self-at-2
bounds-self-at-2 c = let w = inside c in omega (arith, c.requires.ready.alike)

pub returns-clause-raises : goal.returns-clause-raises
returns-clause-raises c = raises_new _ _ _ _ _ _ _ c.requires.ready _ _ refl c.if-sum-numbers.false c.if-room-self.false c.seat-at.ensures
