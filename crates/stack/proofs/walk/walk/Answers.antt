-- `stack::walk::walk` meets its contract. The invariant is `Walking`: the definition, run from the entry in hand and what waits, gives what it gives from the start; where no turn is left both accept.
-- Assumes nothing.
use Rattle.std.specs.Prelude.{Ok}
use borrow.Author.Tests.{eqb-true}
use Prim.Native.Nat.{◌+◌, ◌-◌}
use mathlib.Core.Path.{◌≡◌, refl, ◌∙◌, ap}
use native.Mathlib.Omega.{arith}
use lib.ListN.{length}
use Rattle.rules.proofs.Counting.{count_le}
use Rattle.stack.proofs.Walking.{begins_ready, walking_first, walking_over, walking_empty, walking_go, walking_on}
use Rattle.stack.proofs.walk.walk.Goals as goal

pub invariant_of-queue : goal.invariant_of-queue
invariant_of-queue c = let p = c.requires.begins in
    record { ready = begins_ready _ _ _ p.0 (omega arith) p.1.0 (omega (arith, p)) }

pub loop-i-init : goal.loop-i-init
loop-i-init c = let p = c.requires.begins in
    let z : length c.args.body.now + 1 - 0 ≡ length c.args.body.now + 1 = omega arith in
    rw z (walking_first _ _ _ _ _ p.0 refl (omega arith) (begins_ready _ _ _ p.0 (omega arith) p.1.0 (omega (arith, p))))

pub loop-i-preserved-in-Some : goal.loop-i-preserved-in-Some
loop-i-preserved-in-Some c = let l = c.loop-i in
    let t = c.turn_at in
    let n = length c.args.body.now + 1 in
    let e : n - (l.i + 1) ≡ n - l.i - 1 = omega arith in
    let g = rw (c.in_ok-next.was ∙ ap Ok c.in-Some.is) at t.ensures.turns in
    rw (e, g.0) (walking_on _ _ l.queue.depths.now l.queue.places.now l.head l.queue.tail l.entry.offset l.entry.depth _ l.invariant (omega (arith, c.loop-i-test.true)) t.new.queue.depths.now t.new.queue.places.now c.in-Some.next _ t.ensures.same (eqb-true _ _ g.1.0) (g.0, (refl, g.1.1))).0

pub returns-then-queue-head : goal.returns-then-queue-head
returns-then-queue-head c = let l = c.loop-i in
    let t = c.turn_at in
    let g = rw (c.in_ok-next.was ∙ ap Ok c.in_default.is) at t.ensures.turns in
    walking_empty _ _ l.queue.depths.now l.queue.places.now l.head l.queue.tail l.entry.offset l.entry.depth _ l.invariant (omega (arith, c.loop-i-test.true)) t.new.queue.depths.now t.new.queue.places.now _ t.ensures.same g c.if-queue-head.true

pub overflow_add-head : goal.overflow_add-head
overflow_add-head c = let k = count_le c.turn_at.new.queue.depths.now in omega (arith, k, c)

pub loop-i-preserved : goal.loop-i-preserved
loop-i-preserved c = let l = c.loop-i in
    let t = c.turn_at in
    let n = length c.args.body.now + 1 in
    let e : n - (l.i + 1) ≡ n - l.i - 1 = omega arith in
    let g = rw (c.in_ok-next.was ∙ ap Ok c.in_default.is) at t.ensures.turns in
    let h = c.entry_at-entry.ensures in
    rw e (walking_go _ _ l.queue.depths.now l.queue.places.now l.head l.queue.tail l.entry.offset l.entry.depth _ l.invariant (omega (arith, c.loop-i-test.true)) t.new.queue.depths.now t.new.queue.places.now _ t.ensures.same g _ _ c.if-queue-head.false h.0 h.1.0 h.1.1)

pub returns : goal.returns
returns c = let l = c.loop-i in
    walking_over _ _ l.queue.depths.now l.queue.places.now l.head l.queue.tail l.entry.offset l.entry.depth _ l.invariant (omega (arith, c.loop-i-test.false))
