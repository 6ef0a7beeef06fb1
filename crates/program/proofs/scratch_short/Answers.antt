-- `program::scratch_short` meets its contract: one test after the other, as in the definition.
-- Assumes nothing.
use Prim.Native.Nat.{◌+◌, ◌*◌}
use borrow.Author.Tests.{lt-ltb, le-ltb}
use Rattle.program.specs.Refusals.{scratch_short}
use Rattle.program.proofs.scratch_short.Goals as goal

pub returns-then-room-code : goal.returns-then-room-code
unfolding scratch_short
returns-then-room-code c = rw (lt-ltb c.args.room.marks c.args.code c.if-room-code.true)

pub returns-then-room-code-2 : goal.returns-then-room-code-2
unfolding scratch_short
returns-then-room-code-2 c = let a = c.args in
    rw (le-ltb a.room.marks a.code c.if-room-code.false, lt-ltb a.room.depths (a.code + 1) c.if-room-code-2.true)

pub returns-then-room-code-3 : goal.returns-then-room-code-3
unfolding scratch_short
returns-then-room-code-3 c = let a = c.args in
    rw (
      le-ltb a.room.marks a.code c.if-room-code.false,
      le-ltb a.room.depths (a.code + 1) c.if-room-code-2.false,
      lt-ltb a.room.queue (2 * a.code + 2) c.if-room-code-3.true,
    )

pub returns : goal.returns
unfolding scratch_short
returns c = let a = c.args in
    rw (
      le-ltb a.room.marks a.code c.if-room-code.false,
      le-ltb a.room.depths (a.code + 1) c.if-room-code-2.false,
      le-ltb a.room.queue (2 * a.code + 2) c.if-room-code-3.false,
    )
