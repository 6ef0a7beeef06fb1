-- On an input that is not refused, what the code reads is 01's: hints and a function's own number find the row that reading row after row finds. An
-- instruction that is plain does to the buffers what the table says and opens nothing. A cell is at most 128.
-- Assumes nothing.
use Rattle.codes.specs.First.{Place}
use Rattle.std.specs.Prelude.{ℕ, ◌+◌, ◌≤◌, ◌≡◌, refl, Bool, true, false, List, eqb, ltb, get_or, Some, None}
use Rattle.std.proofs.Common.{arith, ◌∙◌, ltb-true}
use Rattle.std.proofs.Math.Path.{ap}
use Rattle.std.proofs.Math.Bool.{cond}
use Rattle.tables.specs.declared.Effect.{Effect}
use Rattle.tables.specs.declared.Move.{Move}
use Rattle.tables.specs.declared.Move.TheVariants.{Fixed, Builtin, Call, Method}
use Rattle.tables.specs.declared.TempEffect.{TempEffect}
use Rattle.flow.specs.Decode.{word_at}
use Rattle.codes.specs.Lookup.{place_of, hinted_of}
use Rattle.codes.proofs.LookupLaws.{hinted_place}
use Rattle.program.specs.declared.Room.{Room}
use Rattle.program.specs.Program.{Program}
use Rattle.program.specs.Seat.{seat_of}
use Rattle.program.specs.Laws.{seat_place}
use Rattle.program.specs.Taken.{StackTaken}
use Rattle.callees.specs.Callees.{temp_by, temps_by, cell_at, block_by, open_by, opens_by}

-- in any table, an instruction whose effect is the table's
module _ (moves : ℕ → Move) (op : ℕ) (e : Effect) (fixed : moves op ≡ Fixed e) (operands : List ℕ) where
  pub temps_fixed : (temps : ℕ → TempEffect) (find : ℕ → Place) (flags : List ℕ) → temps_by moves temps find flags op operands ≡ temps op
  unfolding temps_by
  temps_fixed temps find flags = ap (temp_by find flags operands (temps op)) fixed

  pub opens_fixed : (row : ℕ → Place) (types callees : List ℕ) → eqb op 0xA4 ≡ false → opens_by moves row types callees op operands ≡ 0
  unfolding opens_by
  opens_fixed row types callees n = ap (open_by row types callees op operands) fixed ∙ ap (λ (b : Bool). cond b (block_by row callees (place_of types (word_at operands 0))) 0) n

-- a cell is at most 128
cell_by : (k : ℕ) (b : Bool) → ltb k 128 ≡ b → cond b (k + 1) 0 ≤ 128
cell_by k true e = let l = ltb-true k 128 e in omega arith
cell_by k false e = omega arith

cell_le : (p : Place) → cell_at p ≤ 128
cell_le (Some k) = cell_by k (ltb k 128) refl
cell_le None = omega arith

-- a cell that is opened is some function's: what bounds those bounds it
module _ (x : ℕ) (row : ℕ → Place) (cells : (id : ℕ) → cell_at (row id) ≤ x) (types callees : List ℕ) where
  block_within : (p : Place) → block_by row callees p ≤ x
  block_within (Some k) = cells (get_or callees k 0)
  block_within None = omega arith

  block_by_lem : (p : Place) (b : Bool) → cond b (block_by row callees p) 0 ≤ x
  block_by_lem p true = block_within p
  block_by_lem p false = omega arith

  open_within : (op : ℕ) (operands : List ℕ) (m : Move) → open_by row types callees op operands m ≤ x
  open_within op operands (Fixed e) = block_by_lem (place_of types (word_at operands 0)) (eqb op 0xA4)
  open_within op operands Builtin = omega arith
  open_within op operands Call = cells (word_at operands 0)
  open_within op operands Method = cells (word_at operands 0)

  pub opens_within : (moves : ℕ → Move) (op : ℕ) (operands : List ℕ) → opens_by moves row types callees op operands ≤ x
  unfolding opens_by
  opens_within moves op operands = open_within op operands (moves op)

pub opens_le : (moves : ℕ → Move) (row : ℕ → Place) (types callees : List ℕ) (op : ℕ) (operands : List ℕ) → opens_by moves row types callees op operands ≤ 128
opens_le moves row types callees op operands = opens_within 128 row (λ id. cell_le (row id)) types callees moves op operands

module _ (p : Program) (room : Room) (t : StackTaken p room) where
  pub temps_are : (hints : List ℕ) (moves : ℕ → Move) (temps : ℕ → TempEffect) → temps_by moves temps (hinted_of hints p.list.ids) p.list.flags ≡ temps_by moves temps (place_of p.list.ids) p.list.flags
  temps_are hints moves temps =
      ap (λ (find : ℕ → Place). temps_by moves temps find p.list.flags) (λ i id. hinted_place p.list.ids p.list.flags t.list_rises id hints i)

  pub opens_are : (moves : ℕ → Move) (types callees : List ℕ) → opens_by moves (seat_of p.functions.ids) types callees ≡ opens_by moves (place_of p.functions.ids) types callees
  opens_are moves types callees =
      ap (λ (row : ℕ → Place). opens_by moves row types callees) (λ i id. seat_place p.functions.ids id t.ids_distinct i)
