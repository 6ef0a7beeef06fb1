-- `flow::move_by` meets its contract: each answer is a clause of `moved`.
-- Assumes nothing.
use borrow.Author.Tests.{lt-ltb, le-ltb, le-leb, lt-leb}
use Rattle.flow.specs.Decode.{moved}
use Rattle.flow.proofs.move_by.Goals as goal

pub returns-then-next-gt65536 : goal.returns-then-next-gt65536
unfolding moved
returns-then-next-gt65536 c = simp (lt-ltb _ _ c.if-next-gt65536.true)

pub returns-then-n-lt32768 : goal.returns-then-n-lt32768
unfolding moved
returns-then-n-lt32768 c = simp (le-ltb _ _ c.if-next-gt65536.false, lt-ltb _ _ c.if-n-lt32768.true)

pub returns-then-back-next : goal.returns-then-back-next
unfolding moved
returns-then-back-next c = simp (le-ltb _ _ c.if-next-gt65536.false, le-ltb _ _ c.if-n-lt32768.false, le-leb _ _ c.if-back-next.true)

pub returns-else-back-next : goal.returns-else-back-next
unfolding moved
returns-else-back-next c = simp (le-ltb _ _ c.if-next-gt65536.false, le-ltb _ _ c.if-n-lt32768.false, lt-leb _ _ c.if-back-next.false)
