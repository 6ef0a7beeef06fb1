-- `stack::look::look` meets its contract. A plain instruction has the effect of the table and goes on, so that testing it first changes nothing; every other return is a case of `look_of`.
-- Assumes nothing.
use Rattle.std.proofs.lemmas.Result.{err_from_is_err_and}
use Prim.Native.Nat.{ℕ, ◌+◌}
use mathlib.Core.Path.{◌∙◌, ap, sym}
use Rattle.stack.specs.Moves.{on_moved}
use Rattle.stack.proofs.Looking.{look_moved}
use Rattle.stack.proofs.look.look.Goals as goal

pub returns-in_err-out-2 : goal.returns-in_err-out-2
returns-in_err-out-2 c = let a = c.args in
    let n = ap (λ (m : ℕ). a.offset + m) c.from.ensures in
    let p = err_from_is_err_and c.from_residual-in_err-out-2.result c.from_residual-in_err-out-2.ensures.1 in
    rw (p.1, p.2) (sym (look_moved a.rules.now.sources a.marks.now a.body.now _ _ _ _ _ c.if-body-offset.false c.at-size.ensures n _ c.operands_of-operands.ensures _ _ (sym c.effect_at.ensures ∙ c.in_ok-effect.was) c.moved_by-2.ensures ∙ ap (on_moved _) c.in_err-out-2.was))

pub returns : goal.returns
returns c = let a = c.args in
    let n = ap (λ (m : ℕ). a.offset + m) c.from.ensures in
    c.flows.ensures ∙ sym (look_moved a.rules.now.sources a.marks.now a.body.now _ _ _ _ _ c.if-body-offset.false c.at-size.ensures n _ c.operands_of-operands.ensures _ _ (sym c.effect_at.ensures ∙ c.in_ok-effect.was) c.moved_by-2.ensures ∙ ap (on_moved _) c.in_ok-out-2.was)
