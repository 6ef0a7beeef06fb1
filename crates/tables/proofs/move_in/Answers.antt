-- `tables::move_in` meets its contract: three sorts by themselves, and the others by the word's effect.
-- Assumes nothing.
use mathlib.Core.Path.{ap}
use borrow.Author.Tests.{ne_eqb}
use Rattle.tables.specs.declared.Move.TheVariants.{Fixed}
use Rattle.tables.specs.Packed.{move_in}
use Rattle.tables.proofs.move_in.Goals as goal

pub returns-in-4 : goal.returns-in-4
unfolding move_in
returns-in-4 c = rw c.in-4.is

pub returns-in-5 : goal.returns-in-5
unfolding move_in
returns-in-5 c = rw c.in-5.is

pub returns-in-6 : goal.returns-in-6
unfolding move_in
returns-in-6 c = rw c.in-6.is

pub returns-in_default : goal.returns-in_default
unfolding move_in
returns-in_default c = rw (ne_eqb _ 4 c.in_default.in_default-own.rest.0.0.1, ne_eqb _ 5 c.in_default.in_default-own.rest.0.1, ne_eqb _ 6 c.in_default.in_default-own.rest.1) (ap Fixed c.effect_in.ensures)
