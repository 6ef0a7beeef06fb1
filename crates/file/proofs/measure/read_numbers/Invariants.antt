-- `file::measure::read_numbers` meets its contract: at each turn the numbers so far are read and stand in the front of the cells. Assumes nothing.
use Rattle.std.proofs.Common.{◌≡◌, Ok}
use Rattle.file.specs.Columns.{over}
use Rattle.file.specs.Numbers.{run_of, numbers}
use Rattle.file.proofs.measure.read_numbers.Given as goal

abbrev pub invariant-loop-cell : goal.invariant-loop-cell
invariant-loop-cell l = (run_of l.cell-index l.file l.start ≡ Ok l.at) × (l.cells ≡ over (numbers l.cell-index l.file l.start) l.initial.cells)
