-- The instructions of a body in decoded order. Decoding starts at 0 and stops at the first unassigned byte or cut instruction.
-- Assumes nothing.
use Rattle.std.specs.Prelude.{ℕ, zero, suc, ◌+◌, Bool, true, false, cond, List, eqb, length, set, Ok, Err, Result, Some, None}
use Rattle.cells.specs.Zeros.{zeros}
use Rattle.flow.specs.declared.Stop.{Stop}
use Rattle.flow.specs.Decode.{Step, step_by}

-- how decoding ends: at the body's end, or at the first unassigned byte or cut instruction
abbrev pub Decoded : Type 0
Decoded = Result (Unit {0}) Stop

pub data Walk : Type 0 where
  -- the offset where decoding stops, and how
  stops : ℕ → Decoded → Walk
  -- offset, opcode, size, and what follows
  instr : ℕ → ℕ → ℕ → Walk → Walk

abbrev pub on_step : ℕ → (ℕ → Walk) → Step → Walk
-- decoding ends at the first unassigned byte or cut instruction
on_step at rest (Err stop) = stops at (Err stop)
on_step at rest (Ok None) = stops at (Ok tt)
on_step at rest (Ok (Some i)) = instr at i.opcode i.size (rest (at + i.size))

abbrev pub walk_in : ℕ → (ℕ → ℕ) → List ℕ → ℕ → Walk
walk_in zero sizes body at = stops at (Ok tt)
walk_in (suc left) sizes body at = on_step at (walk_in left sizes body) (step_by sizes body at)

-- from an offset on; each instruction has a byte at least, so there are no more of them than bytes
unfoldable pub walk_by : (ℕ → ℕ) → List ℕ → ℕ → Walk
walk_by sizes body at = walk_in (length body) sizes body at

-- how decoding ends
abbrev pub end_of : Walk → Decoded
end_of (stops at d) = d
end_of (instr at op size w) = end_of w

-- the instruction's size at each instruction's offset, the other marks as they were
abbrev pub mark_all : Walk → List ℕ → List ℕ
mark_all (stops at d) marks = marks
mark_all (instr at op size w) marks = mark_all w (set marks at size)

-- a body's start marks: an instruction's size at its first byte, 0 elsewhere
unfoldable pub marks_of : (ℕ → ℕ) → List ℕ → List ℕ
marks_of sizes body = mark_all (walk_by sizes body 0) (zeros (length body))

-- whether RET is among the instructions before the first decoding stop, reached or not
abbrev pub has_ret : Walk → Bool
has_ret (stops at d) = false
has_ret (instr at op size w) = cond (eqb op 0x88) true (has_ret w)

-- whether an instruction starts at an offset
abbrev pub is_start : Walk → ℕ → Bool
is_start (stops at d) offset = false
is_start (instr at op size w) offset = cond (eqb offset at) true (is_start w offset)
