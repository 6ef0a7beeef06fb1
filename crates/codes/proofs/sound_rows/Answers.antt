-- `codes::sound_rows` meets its contract: row 0 has no id before it. Assumes nothing.
use Rattle.std.proofs.Common.{rules, ◌≡◌, ℕ, suc, zero, ◌<◌, ◌≤◌, List, get_or, false, arith}
use Rattle.codes.specs.Rows.{faulty}
use Rattle.codes.specs.Laws.{sound_row}
use Rattle.codes.proofs.sound_rows.Goals as goal

first_row : (ids flags : List ℕ) → get_or flags 0 0 ≤ 1 → (k : ℕ) → k < 1 → faulty ids flags k ≡ false
first_row ids flags h zero l = sound_row ids flags zero (omega arith) h
first_row ids flags h (suc k) l = absurd (omega arith)

pub loop-row-init : goal.loop-row-init
loop-row-init c =
    record { begun = omega arith; inside = search (rules, c); sound = first_row c.args.ids.now c.args.flags.now (search (rules, c)) }
