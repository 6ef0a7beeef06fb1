-- `file_writer::write::deliver` meets its contract: the tests of `delivered`, and what `copy_from_slice` says. Assumes nothing.
use Rattle.std.proofs.Common.{arith}
use Rattle.std.proofs.lemmas.Grind.{common_steps}
use Rattle.std.proofs.lemmas.Bool.Decides.{nat_tests}
use Rattle.file_writer.specs.Writing.{delivered}
use Rattle.file_writer.proofs.WriteLaws.{handed}
use Rattle.file_writer.proofs.write.deliver.Goals as goal

pub returns-then-buffer-size : goal.returns-then-buffer-size
unfolding delivered
returns-then-buffer-size c = grind (arith, common_steps, nat_tests)

pub returns : goal.returns
returns c = handed c.args.buffer.now c.args.out.now c.copy_from_slice.new.self c.args.size c.if-buffer-size.false c.if-out-size.false c.copy_from_slice.ensures.after
