-- The instruction set: a row for each assigned opcode, as `declare_instruction_set!`, `effect_of` and `temp_effect` have it. An opcode is
-- class x 4 + tag; a row gives it as one byte.
-- Assumes nothing.
use Rattle.std.specs.Prelude.{ℕ, ◌+◌, Bool, true, false, cond, List, [], ◌∷◌, eqb}
use Rattle.tables.specs.declared.Effect.{Effect}
use Rattle.tables.specs.declared.Move.{Move}
use Rattle.tables.specs.declared.Move.TheVariants.{Fixed, Builtin, Call, Method}
use Rattle.tables.specs.declared.TempEffect.{TempEffect}
use Rattle.tables.specs.declared.TempEffect.TheVariants.{Keeps, Borrows, GivesBack}
use Rattle.tables.specs.declared.Operand.{Operand}
use Rattle.tables.specs.declared.Operand.TheVariants.{ConstIndex, VarIndex, RefIndex, ArrayDescIndex, DataOffset, FieldIndex, FbTypeId, FunctionId, BuiltinId, JumpOffset, CmpOp, MaxLength, CharWidth, NumFields, FieldVarOffset, ParamVarOffset}

abbrev pub effect : ℕ → ℕ → Effect
effect t l = record { takes = t; leaves = l }

-- the effect that moves nothing has a name of its own
abbrev pub no_movement : Effect
no_movement = effect 0 0

-- an operand's width in bytes
abbrev pub width : Operand → ℕ
width ConstIndex = 2
width VarIndex = 2
width RefIndex = 2
width ArrayDescIndex = 2
width DataOffset = 4
width FieldIndex = 1
width FbTypeId = 2
width FunctionId = 2
width BuiltinId = 2
width JumpOffset = 2
width CmpOp = 1
width MaxLength = 2
width CharWidth = 1
width NumFields = 1
width FieldVarOffset = 2
width ParamVarOffset = 2

abbrev pub widths : List Operand → ℕ
widths [] = 0
widths (k ∷ ks) = width k + widths ks

-- one row: opcode, operands, what it does to the stack, what it does to the temp buffers
pub data Row : Type 0 where
  row : ℕ → List Operand → Move → TempEffect → Row

abbrev pub fixed : ℕ → ℕ → Move
fixed t l = Fixed (effect t l)

unfoldable pub instruction_set : List Row
instruction_set =
    -- LOAD_CONST_I32
    row 0x00 (ConstIndex ∷ []) (fixed 0 1) Keeps ∷
    -- LOAD_CONST_I64
    row 0x01 (ConstIndex ∷ []) (fixed 0 1) Keeps ∷
    -- LOAD_CONST_F32
    row 0x02 (ConstIndex ∷ []) (fixed 0 1) Keeps ∷
    -- LOAD_CONST_F64
    row 0x03 (ConstIndex ∷ []) (fixed 0 1) Keeps ∷
    -- LOAD_FALSE
    row 0x04 [] (fixed 0 1) Keeps ∷
    -- LOAD_TRUE
    row 0x05 [] (fixed 0 1) Keeps ∷
    -- LOAD_CONST_STR
    row 0x08 (ConstIndex ∷ []) (fixed 0 1) Borrows ∷
    -- LOAD_VAR_I32
    row 0x0C (VarIndex ∷ []) (fixed 0 1) Keeps ∷
    -- LOAD_VAR_I64
    row 0x0D (VarIndex ∷ []) (fixed 0 1) Keeps ∷
    -- LOAD_VAR_F32
    row 0x0E (VarIndex ∷ []) (fixed 0 1) Keeps ∷
    -- LOAD_VAR_F64
    row 0x0F (VarIndex ∷ []) (fixed 0 1) Keeps ∷
    -- STORE_VAR_I32
    row 0x10 (VarIndex ∷ []) (fixed 1 0) Keeps ∷
    -- STORE_VAR_I64
    row 0x11 (VarIndex ∷ []) (fixed 1 0) Keeps ∷
    -- STORE_VAR_F32
    row 0x12 (VarIndex ∷ []) (fixed 1 0) Keeps ∷
    -- STORE_VAR_F64
    row 0x13 (VarIndex ∷ []) (fixed 1 0) Keeps ∷
    -- LOAD_INDIRECT
    row 0x14 [] (fixed 1 1) Keeps ∷
    -- STORE_INDIRECT
    row 0x18 [] (fixed 2 0) Keeps ∷
    -- TRUNC_I8
    row 0x1C [] (fixed 1 1) Keeps ∷
    -- TRUNC_U8
    row 0x1D [] (fixed 1 1) Keeps ∷
    -- TRUNC_I16
    row 0x1E [] (fixed 1 1) Keeps ∷
    -- TRUNC_U16
    row 0x1F [] (fixed 1 1) Keeps ∷
    -- ADD_I32
    row 0x20 [] (fixed 2 1) Keeps ∷
    -- ADD_I64
    row 0x21 [] (fixed 2 1) Keeps ∷
    -- ADD_F32
    row 0x22 [] (fixed 2 1) Keeps ∷
    -- ADD_F64
    row 0x23 [] (fixed 2 1) Keeps ∷
    -- SUB_I32
    row 0x24 [] (fixed 2 1) Keeps ∷
    -- SUB_I64
    row 0x25 [] (fixed 2 1) Keeps ∷
    -- SUB_F32
    row 0x26 [] (fixed 2 1) Keeps ∷
    -- SUB_F64
    row 0x27 [] (fixed 2 1) Keeps ∷
    -- MUL_I32
    row 0x28 [] (fixed 2 1) Keeps ∷
    -- MUL_I64
    row 0x29 [] (fixed 2 1) Keeps ∷
    -- MUL_F32
    row 0x2A [] (fixed 2 1) Keeps ∷
    -- MUL_F64
    row 0x2B [] (fixed 2 1) Keeps ∷
    -- NEG_I32
    row 0x2C [] (fixed 1 1) Keeps ∷
    -- NEG_I64
    row 0x2D [] (fixed 1 1) Keeps ∷
    -- NEG_F32
    row 0x2E [] (fixed 1 1) Keeps ∷
    -- NEG_F64
    row 0x2F [] (fixed 1 1) Keeps ∷
    -- DIV_I32
    row 0x30 [] (fixed 2 1) Keeps ∷
    -- DIV_I64
    row 0x31 [] (fixed 2 1) Keeps ∷
    -- DIV_F32
    row 0x32 [] (fixed 2 1) Keeps ∷
    -- DIV_F64
    row 0x33 [] (fixed 2 1) Keeps ∷
    -- DIV_U32
    row 0x34 [] (fixed 2 1) Keeps ∷
    -- DIV_U64
    row 0x35 [] (fixed 2 1) Keeps ∷
    -- MOD_I32
    row 0x38 [] (fixed 2 1) Keeps ∷
    -- MOD_I64
    row 0x39 [] (fixed 2 1) Keeps ∷
    -- MOD_U32
    row 0x3C [] (fixed 2 1) Keeps ∷
    -- MOD_U64
    row 0x3D [] (fixed 2 1) Keeps ∷
    -- EQ_I32
    row 0x40 [] (fixed 2 1) Keeps ∷
    -- EQ_I64
    row 0x41 [] (fixed 2 1) Keeps ∷
    -- EQ_F32
    row 0x42 [] (fixed 2 1) Keeps ∷
    -- EQ_F64
    row 0x43 [] (fixed 2 1) Keeps ∷
    -- NE_I32
    row 0x44 [] (fixed 2 1) Keeps ∷
    -- NE_I64
    row 0x45 [] (fixed 2 1) Keeps ∷
    -- NE_F32
    row 0x46 [] (fixed 2 1) Keeps ∷
    -- NE_F64
    row 0x47 [] (fixed 2 1) Keeps ∷
    -- LT_I32
    row 0x48 [] (fixed 2 1) Keeps ∷
    -- LT_I64
    row 0x49 [] (fixed 2 1) Keeps ∷
    -- LT_F32
    row 0x4A [] (fixed 2 1) Keeps ∷
    -- LT_F64
    row 0x4B [] (fixed 2 1) Keeps ∷
    -- LE_I32
    row 0x4C [] (fixed 2 1) Keeps ∷
    -- LE_I64
    row 0x4D [] (fixed 2 1) Keeps ∷
    -- LE_F32
    row 0x4E [] (fixed 2 1) Keeps ∷
    -- LE_F64
    row 0x4F [] (fixed 2 1) Keeps ∷
    -- GT_I32
    row 0x50 [] (fixed 2 1) Keeps ∷
    -- GT_I64
    row 0x51 [] (fixed 2 1) Keeps ∷
    -- GT_F32
    row 0x52 [] (fixed 2 1) Keeps ∷
    -- GT_F64
    row 0x53 [] (fixed 2 1) Keeps ∷
    -- GE_I32
    row 0x54 [] (fixed 2 1) Keeps ∷
    -- GE_I64
    row 0x55 [] (fixed 2 1) Keeps ∷
    -- GE_F32
    row 0x56 [] (fixed 2 1) Keeps ∷
    -- GE_F64
    row 0x57 [] (fixed 2 1) Keeps ∷
    -- LT_U32
    row 0x58 [] (fixed 2 1) Keeps ∷
    -- LT_U64
    row 0x59 [] (fixed 2 1) Keeps ∷
    -- LE_U32
    row 0x5C [] (fixed 2 1) Keeps ∷
    -- LE_U64
    row 0x5D [] (fixed 2 1) Keeps ∷
    -- GT_U32
    row 0x60 [] (fixed 2 1) Keeps ∷
    -- GT_U64
    row 0x61 [] (fixed 2 1) Keeps ∷
    -- GE_U32
    row 0x64 [] (fixed 2 1) Keeps ∷
    -- GE_U64
    row 0x65 [] (fixed 2 1) Keeps ∷
    -- BIT_AND_32
    row 0x68 [] (fixed 2 1) Keeps ∷
    -- BIT_AND_64
    row 0x69 [] (fixed 2 1) Keeps ∷
    -- BIT_OR_32
    row 0x6C [] (fixed 2 1) Keeps ∷
    -- BIT_OR_64
    row 0x6D [] (fixed 2 1) Keeps ∷
    -- BIT_XOR_32
    row 0x70 [] (fixed 2 1) Keeps ∷
    -- BIT_XOR_64
    row 0x71 [] (fixed 2 1) Keeps ∷
    -- BIT_NOT_32
    row 0x74 [] (fixed 1 1) Keeps ∷
    -- BIT_NOT_64
    row 0x75 [] (fixed 1 1) Keeps ∷
    -- BOOL_AND
    row 0x78 [] (fixed 2 1) Keeps ∷
    -- BOOL_OR
    row 0x79 [] (fixed 2 1) Keeps ∷
    -- BOOL_XOR
    row 0x7A [] (fixed 2 1) Keeps ∷
    -- BOOL_NOT
    row 0x7B [] (fixed 1 1) Keeps ∷
    -- JMP
    row 0x7C (JumpOffset ∷ []) (fixed 0 0) Keeps ∷
    -- JMP_IF_NOT
    row 0x80 (JumpOffset ∷ []) (fixed 1 0) Keeps ∷
    -- CALL
    row 0x84 (FunctionId ∷ ParamVarOffset ∷ []) Call Keeps ∷
    -- RET
    row 0x88 [] (fixed 0 0) Keeps ∷
    -- RET_VOID
    row 0x8C [] (fixed 0 0) Keeps ∷
    -- POP
    row 0x90 [] (fixed 1 0) Keeps ∷
    -- DUP
    row 0x91 [] (fixed 0 1) Keeps ∷
    -- SWAP
    row 0x92 [] (fixed 2 2) Keeps ∷
    -- BUILTIN
    row 0x94 (BuiltinId ∷ []) Builtin Keeps ∷
    -- FB_LOAD_INSTANCE
    row 0x98 (VarIndex ∷ []) (fixed 0 1) Keeps ∷
    -- FB_STORE_PARAM
    row 0x9C (FieldIndex ∷ []) (fixed 1 0) Keeps ∷
    -- FB_LOAD_PARAM
    row 0xA0 (FieldIndex ∷ []) (fixed 0 1) Keeps ∷
    -- FB_CALL
    row 0xA4 (FbTypeId ∷ []) (fixed 0 0) Keeps ∷
    -- LOAD_ARRAY
    row 0xA8 (VarIndex ∷ ArrayDescIndex ∷ []) (fixed 1 1) Keeps ∷
    -- STORE_ARRAY
    row 0xAC (VarIndex ∷ ArrayDescIndex ∷ []) (fixed 2 0) Keeps ∷
    -- COPY_REGION
    row 0xAD (VarIndex ∷ ArrayDescIndex ∷ ArrayDescIndex ∷ []) (fixed 1 0) Keeps ∷
    -- COPY_REGION_DEREF
    row 0xAE (RefIndex ∷ ArrayDescIndex ∷ ArrayDescIndex ∷ []) (fixed 1 0) Keeps ∷
    -- LOAD_ARRAY_DEREF
    row 0xB0 (RefIndex ∷ ArrayDescIndex ∷ []) (fixed 1 1) Keeps ∷
    -- STORE_ARRAY_DEREF
    row 0xB4 (RefIndex ∷ ArrayDescIndex ∷ []) (fixed 2 0) Keeps ∷
    -- STR_INIT
    row 0xB8 (DataOffset ∷ MaxLength ∷ CharWidth ∷ []) (fixed 0 0) Keeps ∷
    -- STR_LOAD_VAR
    row 0xBC (DataOffset ∷ []) (fixed 0 1) Borrows ∷
    -- STR_STORE_VAR
    row 0xC0 (DataOffset ∷ []) (fixed 1 0) GivesBack ∷
    -- LEN_STR
    row 0xC4 (DataOffset ∷ []) (fixed 0 1) Keeps ∷
    -- FIND_STR
    row 0xC8 (DataOffset ∷ DataOffset ∷ []) (fixed 0 1) Keeps ∷
    -- REPLACE_STR
    row 0xCC (DataOffset ∷ DataOffset ∷ []) (fixed 2 1) Borrows ∷
    -- INSERT_STR
    row 0xD0 (DataOffset ∷ DataOffset ∷ []) (fixed 1 1) Borrows ∷
    -- DELETE_STR
    row 0xD4 (DataOffset ∷ []) (fixed 2 1) Borrows ∷
    -- LEFT_STR
    row 0xD8 (DataOffset ∷ []) (fixed 1 1) Borrows ∷
    -- RIGHT_STR
    row 0xDC (DataOffset ∷ []) (fixed 1 1) Borrows ∷
    -- MID_STR
    row 0xE0 (DataOffset ∷ []) (fixed 2 1) Borrows ∷
    -- CONCAT_STR
    row 0xE4 (DataOffset ∷ DataOffset ∷ []) (fixed 0 1) Borrows ∷
    -- STR_INIT_ARRAY
    row 0xE8 (VarIndex ∷ ArrayDescIndex ∷ []) (fixed 0 0) Keeps ∷
    -- STR_LOAD_ARRAY_ELEM
    row 0xEC (VarIndex ∷ ArrayDescIndex ∷ []) (fixed 1 1) Borrows ∷
    -- STR_LOAD_ARRAY_DEREF
    row 0xED (RefIndex ∷ ArrayDescIndex ∷ []) (fixed 1 1) Borrows ∷
    -- STR_STORE_ARRAY_ELEM
    row 0xF0 (VarIndex ∷ ArrayDescIndex ∷ []) (fixed 2 0) GivesBack ∷
    -- STR_STORE_ARRAY_DEREF
    row 0xF1 (RefIndex ∷ ArrayDescIndex ∷ []) (fixed 2 0) GivesBack ∷
    -- CMP_BR_I32
    row 0xF4 (CmpOp ∷ VarIndex ∷ ConstIndex ∷ JumpOffset ∷ []) (fixed 0 0) Keeps ∷
    -- CMP_BR_I64
    row 0xF5 (CmpOp ∷ VarIndex ∷ ConstIndex ∷ JumpOffset ∷ []) (fixed 0 0) Keeps ∷
    -- METHOD_CALL
    row 0xF8 (FunctionId ∷ FieldVarOffset ∷ NumFields ∷ ParamVarOffset ∷ []) Method Keeps ∷
    []

-- what stands at an opcode
pub data Found : Type 0 where
  unassigned : Found
  assigned : Row → Found

abbrev pub opcode_of : Row → ℕ
opcode_of (row op ks m t) = op

abbrev pub find : List Row → ℕ → Found
find [] op = unassigned
find (r ∷ rs) op = cond (eqb op (opcode_of r)) (assigned r) (find rs op)

-- size is 1 plus the widths; 0 where the opcode is unassigned
abbrev pub size_found : Found → ℕ
size_found unassigned = 0
size_found (assigned (row op ks m t)) = 1 + widths ks

abbrev pub move_found : Found → Move
move_found unassigned = Fixed no_movement
move_found (assigned (row op ks m t)) = m

abbrev pub temp_found : Found → TempEffect
temp_found unassigned = Keeps
temp_found (assigned (row op ks m t)) = t

unfoldable pub size_of : ℕ → ℕ
size_of op = size_found (find instruction_set op)

unfoldable pub move_of : ℕ → Move
move_of op = move_found (find instruction_set op)

unfoldable pub temp_of : ℕ → TempEffect
temp_of op = temp_found (find instruction_set op)

abbrev pub is_assigned : Found → Bool
is_assigned unassigned = false
is_assigned (assigned r) = true

unfoldable pub assigned_of : ℕ → Bool
assigned_of op = is_assigned (find instruction_set op)

-- what an effect from the table takes and leaves; 0 where the operands say
abbrev pub takes_move : Move → ℕ
takes_move (Fixed e) = e.takes
takes_move Builtin = 0
takes_move Call = 0
takes_move Method = 0

abbrev pub leaves_move : Move → ℕ
leaves_move (Fixed e) = e.leaves
leaves_move Builtin = 0
leaves_move Call = 0
leaves_move Method = 0
