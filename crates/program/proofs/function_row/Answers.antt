-- `program::function_row` meets its contract: the two ways in which an id is not at its own number both go on row after row.
-- Assumes nothing.
use native.Mathlib.Omega.{arith}
use borrow.Author.Tests.{lt-ltb, le-ltb, eq-eqb, ne_eqb}
use borrow.Author.Rules.{rules}
use lib.ListN.{length, get_or}
use Rattle.program.specs.Seat.{seat_of}
use Rattle.program.proofs.function_row.Goals as goal
use Rattle.program.proofs.function_row.Goals.{then-own-ids+else-ids-own, else-own-ids}

pub returns-then-ids-own : goal.returns-then-ids-own
unfolding seat_of
returns-then-ids-own c = let a = c.args in
    rw (lt-ltb a.id (length a.ids.now) c.if-own-ids.true, eq-eqb (get_or a.ids.now a.id 0) a.id c.if-ids-own.true)

pub returns : goal.returns
unfolding seat_of
returns c = let a = c.args in
    elim c.if-own-ids.branch [
      | then-own-ids+else-ids-own w ↦ rw (lt-ltb a.id (length a.ids.now) (omega (arith, w.if-own-ids.true)), ne_eqb (get_or a.ids.now a.id 0) a.id (search rules)) c.first_row.ensures
      | else-own-ids w ↦ rw (le-ltb a.id (length a.ids.now) (omega (arith, w.if-own-ids.false))) c.first_row.ensures
    ]
