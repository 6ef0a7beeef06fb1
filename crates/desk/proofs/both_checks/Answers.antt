-- `desk::both_checks` meets its contract: the scratch of the second check is as long as that of the first. Assumes nothing.
use Rattle.std.proofs.Common.{ℕ, ap, length, ◌∙◌}
use lib.ListN.{length-replicate}
use Rattle.program.specs.Stated.{pool_program_in}
use Rattle.stack.proofs.Lengths.{length-scratch_after}
use Rattle.desk.proofs.DeskLaws.{both}
use Rattle.desk.proofs.both_checks.Goals as goal

pub returns : goal.returns
returns c =
    let verdict = c.stack_check.result in
    let left = c.stack_check.ensures.marks_after in
    let marks = length-replicate {A = ℕ} 12288 0 in
    let depths = length-replicate {A = ℕ} 12289 0 in
    let queue = length-replicate {A = ℕ} 24578 0 in
    both (pool_program_in c.args.program.now) c.fields-stack.ensures c.fields-pool.ensures c.stack_check.ensures.value c.pool_check.ensures.value
    marks depths queue queue
    (ap length left.0 ∙ (length-scratch_after verdict _ ∙ marks))
    (ap length left.1.0 ∙ (length-scratch_after verdict _ ∙ depths))
    (ap length left.1.1.0 ∙ (length-scratch_after verdict _ ∙ queue))
    (ap length left.1.1.1 ∙ (length-scratch_after verdict _ ∙ queue))
    (length-replicate {A = ℕ} 16384 0)
