-- `tables::temp_in` meets its contract: one field of the word, by its two codes and the rest.
-- Assumes nothing.
use mathlib.Core.Path.{sym, ap}
use borrow.Author.Tests.{ne_eqb}
use Rattle.tables.specs.Packed.{temp_in, temp_by}
use Rattle.tables.proofs.temp_in.Goals as goal

pub returns-in-1 : goal.returns-in-1
unfolding temp_in
returns-in-1 c = sym (ap temp_by c.in-1.is)

pub returns-in-2 : goal.returns-in-2
unfolding temp_in
returns-in-2 c = sym (ap temp_by c.in-2.is)

pub returns-in_default : goal.returns-in_default
unfolding temp_in
returns-in_default c = simp (ne_eqb _ 1 c.in_default.in_default-own.rest.0.1, ne_eqb _ 2 c.in_default.in_default-own.rest.1)
