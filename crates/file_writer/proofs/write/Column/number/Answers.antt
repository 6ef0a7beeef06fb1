-- `file_writer::write::Column::number` meets its contract: a wide cell, made narrow. Assumes nothing.
use Rattle.std.proofs.Common.{◌∙◌, ap}
use Rattle.file_writer.specs.Writing.{fit}
use Rattle.file_writer.proofs.WriteLaws.{fit_at}
use Rattle.file_writer.proofs.write.Column.number.Goals as goal

pub returns-in-Wide : goal.returns-in-Wide
returns-in-Wide c = rw c.in-Wide.is (c.narrow.ensures ∙ (ap fit c.at-in-Wide.ensures ∙ fit_at c.in-Wide.cells.now c.args.row))
