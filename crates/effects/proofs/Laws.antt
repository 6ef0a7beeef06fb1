-- On an input that is not refused, what the code reads of an effect is 01's: the halving finds the row that reading row after row finds, a function's
-- own number is its row, and where a METHOD_CALL stands the filled column holds what decoding each callee says.
-- Assumes nothing.
use Rattle.std.specs.Prelude.{ℕ, zero, suc, ◌+◌, ◌≤◌, ◌<◌, ◌≡◌, Bool, true, false, length, set, Some, None, Ok}
use Rattle.std.proofs.Common.{arith, ◌∙◌, sym, length-set, get_or-set_same, get_or-set_other}
use Rattle.std.proofs.Math.Decide.{ℕ_discrete}
use Rattle.std.proofs.Math.Path.{refl, ap}
use Rattle.std.proofs.Math.Bool.{cond}
use mathlib.Core.List.{List}
use Rattle.std.proofs.Math.ListN.{get_or}
use Rattle.tables.specs.declared.Effect.{Effect}
use Rattle.tables.specs.declared.Move.{Move}
use Rattle.tables.specs.declared.Move.TheVariants.{Fixed, Builtin, Call, Method}
use Rattle.tables.specs.Set.{effect, size_of}
use Rattle.flow.specs.Decode.{word_at}
use Rattle.flow.specs.Walk.{walk_by, has_ret}
use Rattle.codes.specs.First.{Place}
use Rattle.codes.specs.Lookup.{place_of}
use Rattle.codes.specs.LookupLaws.{place_in, place_nowhere, place_missing}
use Rattle.codes.proofs.LookupLaws.{hinted_up_lem}
use Rattle.program.specs.declared.Room.{Room}
use Rattle.program.specs.Program.{CodeList, Program, body_of, body_is}
use Rattle.program.specs.Seat.{seat_of}
use Rattle.program.specs.Laws.{seat_place}
use Rattle.program.specs.Taken.{StackTaken}
use Rattle.effects.specs.Effects.{Directory, directory_of, on_entry, on_place, builtin_by, call_by, method_by, move_by, known_by, gives_back, fill_from, filled, is_there, names_method, given_back, move_of_program, known_of}

-- cells before the row are as they were
before : (value : ℕ → ℕ) (left row : ℕ) (column : List ℕ) (k : ℕ) → k < row → get_or (fill_from value left row column) k 0 ≡ get_or column k 0
before value zero row column k h = refl
before value (suc left) row column k h = before value left (suc row) (set column row (value row)) k (omega arith) ∙ get_or-set_other column row k (value row) 0 (λ e. omega arith)

cell_by : (value : ℕ → ℕ) (left row : ℕ) (column : List ℕ) (k : ℕ) → ((k : ℕ) → suc row ≤ k → k < suc row + left → get_or (fill_from value left (suc row) (set column row (value row))) k 0 ≡ value k)
    → row ≤ k → k < row + suc left → row < length column → Dec (k ≡ row) → get_or (fill_from value left (suc row) (set column row (value row))) k 0 ≡ value k
cell_by value left row column k go l h r (yes e) =
    before value left (suc row) (set column row (value row)) k (omega arith) ∙ rw e (get_or-set_same column row (value row) 0 r)
cell_by value left row column k go l h r (no n) = go k (omega arith) (omega arith)

cell : (value : ℕ → ℕ) (left row : ℕ) (column : List ℕ) → row + left ≤ length column → (k : ℕ) → row ≤ k → k < row + left → get_or (fill_from value left row column) k 0 ≡ value k
cell value zero row column r k l h = absurd (omega arith)
cell value (suc left) row column r k l h =
    let n : suc row + left ≤ length (set column row (value row)) = simp length-set (omega arith) in
    cell_by value left row column k (λ j a b. cell value left (suc row) (set column row (value row)) n j a b) l h (omega arith) (ℕ_discrete k row)

pub length_filled : (value : ℕ → ℕ) (left row : ℕ) (column : List ℕ) → length (fill_from value left row column) ≡ length column
length_filled value zero row column = refl
length_filled value (suc left) row column = length_filled value left (suc row) (set column row (value row)) ∙ length-set column row (value row)

-- a cell of the filled column
pub given_at : (sizes : ℕ → ℕ) (offsets lengths code column : List ℕ) (k : ℕ) → length offsets ≤ length column → k < length offsets
    → get_or (filled sizes offsets lengths code column) k 0 ≡ gives_back sizes code (get_or offsets k 0) (get_or lengths k 0)
unfolding filled
given_at sizes offsets lengths code column k r h = cell (λ row. gives_back sizes code (get_or offsets row 0) (get_or lengths row 0)) (length offsets) 0 column (omega arith) k (omega arith) (omega arith)

-- METHOD_CALL's byte is named where a byte of the code is it, and only there
named_by : (code : List ℕ) (k : ℕ) → k < length code → get_or code k 0 ≡ 0xF8 → (o : Place) → place_of code 0xF8 ≡ o → is_there o ≡ true
named_by code k h e (Some j) w = refl
named_by code k h e None w = absurd (place_missing code 0xF8 w k h e)

pub method_named : (code : List ℕ) (k : ℕ) → k < length code → get_or code k 0 ≡ 0xF8 → names_method code ≡ true
unfolding names_method
method_named code k h e = named_by code k h e (place_of code 0xF8) refl

pub method_not_named : (code : List ℕ) → ((j : ℕ) → j < length code → get_or code j 0 ≡ 0xF8 → ⊥) → names_method code ≡ false
unfolding names_method
method_not_named code miss = ap is_there (place_nowhere code 0xF8 miss)

module _ (p : Program) (room : Room) (t : StackTaken p room) (column : List ℕ) (wide : 128 ≤ length column) where
  abbrev all : List ℕ
  all = filled size_of p.functions.offsets p.functions.lengths p.code column

  abbrev given : List ℕ
  given = given_back size_of p.functions.offsets p.functions.lengths p.code column

  abbrev columns : Directory
  columns = directory_of p.functions.ids p.functions.parameters given

  method_by_lem : (id : ℕ) (o : Place) → place_of p.functions.ids id ≡ o
      → on_place p.functions.parameters (λ k. get_or all k 0) id o ≡ on_place p.functions.parameters (λ k. cond (has_ret (walk_by size_of (body_of p k) 0)) 1 0) id o
  unfolding gives_back
  method_by_lem id (Some k) e =
      let h = place_in p.functions.ids id k e in
      let g = given_at size_of p.functions.offsets p.functions.lengths p.code column k (omega (arith, t.offsets_length, t.functions_limit)) (omega (arith, t.offsets_length)) in
      ap (λ (n : ℕ). Ok (effect (get_or p.functions.parameters k 0) n)) (g ∙ ap (λ (b : List ℕ). cond (has_ret (walk_by size_of b 0)) 1 0) (sym (body_is p k)))
  method_by_lem id None e = refl

  move_known : (hints operands : List ℕ) (m : Move) → (m ≡ Method → given ≡ all) → move_by hints p.list columns operands m ≡ move_of_program p operands m
  unfolding builtin_by call_by method_by
  move_known hints operands (Fixed e) g = refl
  move_known hints operands Builtin g = ap (on_entry (word_at operands 0)) (hinted_up_lem p.list.ids p.list.flags t.list_rises (word_at operands 0) hints p.list.counts)
  move_known hints operands Call g = ap (on_place p.functions.parameters (λ k. 1) (word_at operands 0)) (seat_place p.functions.ids (word_at operands 0) t.ids_distinct)
  move_known hints operands Method g =
      ap (λ (c : List ℕ). on_place p.functions.parameters (λ k. get_or c k 0) (word_at operands 0) (seat_of p.functions.ids (word_at operands 0))) (g refl)
      ∙ ap (on_place p.functions.parameters (λ k. get_or all k 0) (word_at operands 0)) (seat_place p.functions.ids (word_at operands 0) t.ids_distinct)
      ∙ method_by_lem (word_at operands 0) (place_of p.functions.ids (word_at operands 0)) refl

  given_all : names_method p.code ≡ true → given ≡ all
  unfolding given_back
  given_all e = ap (λ (b : Bool). cond b all column) e

  -- at each byte of the code the effects that the code reads are the program's, whatever the hints hold
  pub known_is : (hints : List ℕ) (moves : ℕ → Move) → ((op : ℕ) → moves op ≡ Method → op ≡ 0xF8) → (k : ℕ) → k < length p.code → (op : ℕ) → get_or p.code k 0 ≡ op → (operands : List ℕ)
      → known_by moves hints p.list columns op operands ≡ known_of moves p op operands
  unfolding known_by known_of
  known_is hints moves only k h op e operands = move_known hints operands (moves op) (λ m. given_all (method_named p.code k h (e ∙ only op m)))

-- an effect of the table
pub known_fixed : (moves : ℕ → Move) (hints : List ℕ) (list : CodeList) (d : Directory) (op : ℕ) (operands : List ℕ) (e : Effect) → moves op ≡ Fixed e → known_by moves hints list d op operands ≡ Ok e
unfolding known_by
known_fixed moves hints list d op operands e w = ap (move_by hints list d operands) w
