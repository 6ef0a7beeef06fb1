-- 01's answer table: the number and the values a, b, c of each case, as fields of 32 bits.
-- Assumes nothing.
use Rattle.std.specs.Prelude.{ℕ, ◌-◌, ◌%◌, cond, eqb}
use Rattle.flow.specs.declared.Spot.{Spot}
use Rattle.program.specs.Refusals.{input_number, input_place, Input}
use Rattle.rules.specs.declared.Violation.{Violation}
use Rattle.answers.specs.declared.Fields.{Fields}

-- 32 bits
abbrev pub word : ℕ → ℕ
word n = n % 4294967296

-- two's complement
abbrev pub signed_word : Spot → ℕ
signed_word (Spot.At n) = word n
signed_word (Spot.Before n) = word (4294967296 - word n)

-- number, function, offset, a, b, c
unfoldable pub fields_by : ℕ → ℕ → ℕ → ℕ → ℕ → ℕ → Fields
fields_by n f o x y z = record { number = n; function = f; offset = word o; a = word x; b = word y; c = word z }

abbrev pub no_fields : Fields
no_fields = record { number = 0; function = 0; offset = 0; a = 0; b = 0; c = 0 }

unfoldable pub violation_fields : ℕ → Violation → Fields
violation_fields f (Violation.UnknownOpcode offset byte) = fields_by 1 f offset byte 0 0
violation_fields f (Violation.TruncatedInstruction offset opcode) = fields_by 2 f offset opcode 0 0
violation_fields f (Violation.UnknownBuiltin offset id) = fields_by 3 f offset id 0 0
violation_fields f (Violation.UnknownCallee offset callee) = fields_by 4 f offset callee 0 0
violation_fields f (Violation.Underflow offset opcode needs has) = fields_by 5 f offset opcode needs has
violation_fields f (Violation.ExceedsDeclaredMax offset depth declared) = fields_by 6 f offset depth declared 0
violation_fields f (Violation.InvalidJumpTarget offset target) = fields_by 7 f offset (signed_word target) 0 0
violation_fields f (Violation.MergeConflict offset existing incoming) = fields_by 8 f offset existing incoming 0
violation_fields f (Violation.UnbalancedReturn offset expected actual) = fields_by 9 f offset expected actual 0

-- 30 to 35 carry a place
unfoldable pub refusal_fields : Input → Fields
refusal_fields input = fields_by (input_number input) 0 (input_place input) 0 0 0

-- 8 is 200, 5 is 202, 6 is 203, 7 is 400, 1 is 1, 3 is 510, 4 is 2, 20 is 204; the others have none
unfoldable pub rule_number : ℕ → ℕ
rule_number n =
    cond (eqb n 8) 200
    (cond (eqb n 5) 202
    (cond (eqb n 6) 203
    (cond (eqb n 7) 400
    (cond (eqb n 1) 1
    (cond (eqb n 3) 510
    (cond (eqb n 4) 2
    (cond (eqb n 20) 204
    0)))))))
