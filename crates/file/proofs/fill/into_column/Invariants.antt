-- `file::fill::into_column` meets its contract: at each turn it has filled the column as far as it has come. Assumes nothing.
use Rattle.std.proofs.Common.{◌≡◌}
use Rattle.std.specs.Prelude.{map}
use Rattle.file.specs.Columns.{column_of, over}
use Rattle.file.proofs.fill.into_column.Given as goal

abbrev pub invariant-loop-i : goal.invariant-loop-i
invariant-loop-i g l = map g.T.Holds.number l.column ≡ over (column_of l.width l.index l.i l.numbers) (map g.T.Holds.number l.initial.column)
