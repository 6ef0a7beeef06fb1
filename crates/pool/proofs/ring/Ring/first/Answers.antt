-- `pool::ring::Ring::first` meets its contract: entries are skipped up to the first that is not, or to the queue's end.
-- Assumes nothing.
use mathlib.Core.Path.{refl}
use native.Mathlib.Omega.{arith}
use Rattle.pool.proofs.Raising.{skipping_first, skipping_end, skipping_takes, skipping_on}
use Rattle.pool.proofs.ring.Ring.first.Goals as goal

pub loop-self-init : goal.loop-self-init
loop-self-init c = (skipping_first _ _ _ _ _ c.requires, refl)

pub returns-then-at-held-clause-firsts : goal.returns-then-at-held-clause-firsts
returns-then-at-held-clause-firsts c = skipping_takes _ _ _ _ _ _ c.loop-self.invariant.0 _ _ _ _ c.loop-self-test.true refl refl c.seat-self.ensures c.at.ensures c.if-at-held.true (omega arith)

pub loop-self-preserved : goal.loop-self-preserved
loop-self-preserved c = (skipping_on _ _ _ _ _ _ c.loop-self.invariant.0 _ _ _ _ c.loop-self-test.true refl refl c.seat-self.ensures c.at.ensures c.if-at-held.false, c.loop-self.invariant.1)

pub returns-clause-firsts : goal.returns-clause-firsts
returns-clause-firsts c = skipping_end _ _ _ _ _ _ c.loop-self.invariant.0 c.loop-self-test.false
