-- `codes::entry_at` meets its contract: both columns read at the row, or nothing.
-- Assumes nothing.
use mathlib.Core.Path.{refl}
use Rattle.codes.proofs.entry_at.Goals as goal

pub returns-in_err-row : goal.returns-in_err-row
returns-in_err-row c = rw (c.from_residual.ensures, c.in_err-row.was) refl

pub returns : goal.returns
returns c = rw (c.in_ok-row.was, c.at.ensures, c.at-2.ensures) refl
