-- `program::directory` meets its contract.
-- Assumes nothing.
use mathlib.Core.Path.{◌∙◌, sym}
use Rattle.program.specs.Refusals.{directory_of}
use Rattle.program.proofs.directory.Goals as goal

pub returns-in-Some : goal.returns-in-Some
unfolding directory_of
returns-in-Some c = rw (sym c.repeated.ensures ∙ c.in-Some.is)

pub returns-in-Some-outside_row : goal.returns-in-Some-outside_row
unfolding directory_of
returns-in-Some-outside_row c = rw (sym c.repeated.ensures ∙ c.in_default.is, sym c.outside_row.ensures ∙ c.in-Some-outside_row.is)

pub returns : goal.returns
unfolding directory_of
returns c = rw (sym c.repeated.ensures ∙ c.in_default.is, sym c.outside_row.ensures ∙ c.in_default-outside_row.is)
