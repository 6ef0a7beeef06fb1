-- `desk::check_file` meets its contract: the fronts of the local columns are the columns that the file states. Assumes nothing.
use Rattle.std.proofs.Common.{◌∙◌, ap}
use Rattle.std.proofs.lemmas.Result.{err_from_is_err_and}
use Rattle.desk.specs.Desk.{program_answer}
use Rattle.desk.proofs.DeskLaws.{gave_refusal, gave_program}
use Rattle.desk.proofs.check_file.Goals as goal

pub returns-in_err-sizes : goal.returns-in_err-sizes
returns-in_err-sizes c = let p = err_from_is_err_and c.from_residual.result c.from_residual.ensures.1 in
    rw (p.1, p.2) (gave_refusal c.args.file.now _ c.read_file.ensures.outcome c.in_err-sizes.was)

pub returns : goal.returns
returns c = c.check_program.ensures ∙ (ap program_answer c.fronts.ensures ∙ gave_program c.args.file.now _ c.read_file.ensures.outcome _ c.read_file.ensures.left c.in_ok-sizes.was)
