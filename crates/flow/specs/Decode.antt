-- What stands at an offset of a body, its operands, where control goes from there, and which targets are legal. `sizes` gives each
-- opcode's size, 0 where it is unassigned; 01's is `size_of`.
-- Assumes nothing.
use Rattle.std.specs.Prelude.{ℕ, ◌+◌, ◌-◌, ◌*◌, cond, List, ltb, leb, eqb, length, get_or, take, drop, Ok, Err, Result, Some, None, Option}
use Rattle.flow.specs.declared.Instruction.{Instruction}
use Rattle.flow.specs.declared.Stop.{Stop}
use Rattle.flow.specs.declared.Flow.{Flow}
use Rattle.flow.specs.declared.Flow.TheVariants.{Next, Jump, Branch, Return}
use Rattle.flow.specs.declared.Spot.{Spot}
use Rattle.flow.specs.declared.Spot.TheVariants.{At, Before}

-- what stands at an offset: an instruction, none at the body's end and past it, or a decoding stop
abbrev pub Step : Type 0
Step = Result (Option Instruction) Stop

abbrev pub found : ℕ → ℕ → Step
found op size = Ok (Some (record { opcode = op; size = size }))

-- the step at a byte op, with n bytes from it to the body's end
abbrev pub step_op : (ℕ → ℕ) → ℕ → ℕ → ℕ → Step
step_op sizes at n op =
    cond (eqb (sizes op) 0) (Err (Stop.Unknown at op))
    (cond (leb (sizes op) n) (found op (sizes op))
    (Err (Stop.Truncated at op)))

unfoldable pub step_by : (ℕ → ℕ) → List ℕ → ℕ → Step
step_by sizes body at = cond (leb (length body) at) (Ok None) (step_op sizes at (length body - at) (get_or body at 0))

-- the bytes after the opcode, up to the instruction's size
unfoldable pub operands_at : List ℕ → ℕ → ℕ → List ℕ
operands_at body at size = take (size - 1) (drop (at + 1) body)

-- operands are low byte first
unfoldable pub word_at : List ℕ → ℕ → ℕ
word_at operands i = get_or operands i 0 + get_or operands (i + 1) 0 * 256

-- JMP and JMP_IF_NOT carry their signed offset at operand byte 0, CMP_BR at 5; RET and RET_VOID leave
unfoldable pub flow_of : ℕ → List ℕ → Flow
flow_of op operands =
    cond (eqb op 0x7C) (Jump (word_at operands 0))
    (cond (eqb op 0x80) (Branch (word_at operands 0))
    (cond (eqb op 0xF4) (Branch (word_at operands 5))
    (cond (eqb op 0xF5) (Branch (word_at operands 5))
    (cond (eqb op 0x88) Return
    (cond (eqb op 0x8C) Return
    Next)))))

-- the offset counts from the next instruction: next + word, where the word is read as a signed number of 16 bits
unfoldable pub moved : ℕ → ℕ → Spot
moved next word =
    cond (ltb 65536 next) (At next)
    (cond (ltb word 32768) (At (next + word))
    (cond (leb (65536 - word) next) (At (next - (65536 - word)))
    (Before (65536 - word - next))))

-- a branch's target, or the place that is none
abbrev pub Target : Type 0
Target = Result ℕ Spot

-- a target is legal if it is the body length or an instruction start; marks hold a size at each start and 0 elsewhere
unfoldable pub target_of : List ℕ → ℕ → Spot → Target
target_of marks end (Before n) = Err (Before n)
target_of marks end (At to) =
    cond (eqb to end) (Ok to)
    (cond (ltb end to) (Err (At to))
    (cond (eqb (get_or marks to 0) 0) (Err (At to))
    (Ok to)))
