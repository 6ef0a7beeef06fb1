-- No call leads out of the directory: a callee's cell is 0, or the row of its id and 1; the callees of a walk are cells that it opened, by its own
-- theorem; so every function that an entry reaches has a row. By cases on the instruction, and by induction on the calls.
-- Assumes nothing.
use Rattle.std.specs.Prelude.{Some, None}
use Rattle.codes.specs.First.{Place}
use borrow.Author.Tests.{lt-ltb}
use Prim.Native.Nat.{ℕ, suc, ◌+◌, ◌-◌, ◌*◌, ◌≤◌, ◌<◌}
use native.Mathlib.Omega.{arith}
use mathlib.Core.Path.{◌≡◌, refl}
use mathlib.Core.Bool.{Bool, true, false, cond}
use mathlib.Core.Logic.{◌⊎◌, inl, inr, ⊎_elim}
use mathlib.Core.List.{List, [], ◌∷◌}
use lib.Dec.{ltb}
use lib.ListN.{length}
use Rattle.tables.specs.Set.{size_of, move_of}
use Rattle.flow.specs.Walk.{marks_of}
use Rattle.flow.proofs.Next.{body_fits}
use Rattle.codes.specs.Lookup.{place_of}
use Rattle.codes.specs.LookupLaws.{place_in}
use Rattle.program.specs.Program.{PoolProgram, body_of}
use Rattle.buffers.specs.Walk.{Walked, undecodable, crowded, unfinished, walked, callees_of}
use Rattle.buffers.specs.Meaning as meaning
use Rattle.buffers.proofs.Cases.{tread_opens}
use Rattle.buffers.proofs.Theorems.{callees_met}
use Rattle.callees.specs.Callees.{cell_at, temps_of, opens_of}
use Rattle.callees.specs.Laws.{opens_within}
use Rattle.visit.specs.Graph.{Among, Calls, Reaches, same, more}
use Rattle.pool.specs.Pool.{rows_in, walk_at}
use Rattle.pool.specs.Accepts.{function_count, call_graph, Reached}
use Rattle.pool.proofs.Ending.{body_walked}

-- ---- cells
-- a cell is 0, or the row of the id and 1
pub cell_is : (ids : List ℕ) (id : ℕ) → (cell_at (place_of ids id) ≡ 0) ⊎ ((row : ℕ) × (row < length ids) × (place_of ids id ≡ Some row) × (cell_at (place_of ids id) ≡ suc row))
cell_is ids id = by (place_of ids id) refl
  where
    cell : (row : ℕ) (b : Bool) → (cond b (row + 1) 0 ≡ 0) ⊎ (cond b (row + 1) 0 ≡ suc row)
    cell row true = inr (omega arith)
    cell row false = inl refl

    by : (p : Place) → place_of ids id ≡ p → (cell_at p ≡ 0) ⊎ ((row : ℕ) × (row < length ids) × (p ≡ Some row) × (cell_at p ≡ suc row))
    by (Some row) e = ⊎_elim (λ z. inl z) (λ z. inr (row, place_in ids id row e, refl, z)) (cell row (ltb row 128))
    by None e = inl refl

-- in a directory of at most 128 functions every row has its cell
pub row_cell : (ids : List ℕ) (id row : ℕ) → length ids ≤ 128 → place_of ids id ≡ Some row → cell_at (place_of ids id) ≡ suc row
row_cell ids id row few e =
    let l = place_in ids id row e in
    let z : row + 1 ≡ suc row = omega arith in
    rw (e, lt-ltb row 128 (omega arith)) z

cell_inside : (ids : List ℕ) (id : ℕ) → cell_at (place_of ids id) ≤ length ids
cell_inside ids id = ⊎_elim (λ z. omega (arith, z)) (λ r. omega (arith, r.1, r.3)) (cell_is ids id)

-- ---- what an instruction opens
pub opens_inside : (q : PoolProgram) (op : ℕ) (operands : List ℕ) → opens_of q op operands ≤ function_count q
opens_inside q op operands =
    opens_within (function_count q) (place_of q.program.functions.ids) (cell_inside q.program.functions.ids) q.descriptors.types q.descriptors.callees move_of op operands

-- ---- cells as rows
pub cell_row : (cells : List ℕ) (row : ℕ) → meaning.Among (suc row) cells → Among row (rows_in cells)
cell_row [] row i = i
cell_row (c ∷ cells) row i = ⊎_elim (λ z. inl (omega (arith, z))) (λ j. inr (cell_row cells row j)) i

pub row_of_cell : (cells : List ℕ) (row : ℕ) → Among row (rows_in cells) → (c : ℕ) × meaning.Among c cells × (c - 1 ≡ row)
row_of_cell [] row i = absurd i
row_of_cell (c ∷ cells) row i = ⊎_elim (λ z. (c, inl refl, z)) (λ j. let r = row_of_cell cells row j in (r.0, inr r.1, r.2)) i

module _ (q : PoolProgram) where
  -- each callee of a walk is a cell of the directory
  pub callee_inside : (row : ℕ) (w : Walked) → walk_at q row ≡ w → (cell : ℕ) → meaning.Among cell (callees_of w) → (cell ≡ 0 → ⊥) × (cell ≤ function_count q)
  callee_inside row undecodable e cell i = absurd i
  callee_inside row crowded e cell i = absurd i
  callee_inside row unfinished e cell i = absurd i
  callee_inside row (walked numbers u) e cell i =
      let body = body_of q.program row in
      let marks = marks_of size_of body in
      let d = body_walked size_of (temps_of q) (opens_of q) q.pool body numbers u e in
      let o = ((callees_met (temps_of q) (opens_of q) marks body q.pool (2 * length body + 2) (body_fits size_of body) numbers u d.1).exactly cell).0 i in (
        o.0,
        omega (
          arith,
          tread_opens (temps_of q) (opens_of q) marks body q.pool o.1.0.offset o.1.0.held (function_count q) (opens_inside q),
          o.1.2,
        ),
      )

  pub calls_inside : (g h : ℕ) → Calls (call_graph q) g h → h < function_count q
  calls_inside g h c = by (ltb g (function_count q)) c.0
    where
      by : (b : Bool) → Among h (cond b (rows_in (callees_of (walk_at q g))) []) → h < function_count q
      by true i =
          let r = row_of_cell (callees_of (walk_at q g)) h i in
          let k = callee_inside g (walk_at q g) refl r.0 r.1 in
          below r.0 k.0 k.1 r.2
        where
          below : (cell : ℕ) → (cell ≡ 0 → ⊥) → cell ≤ function_count q → cell - 1 ≡ h → h < function_count q
          below cell n l e = omega arith
      by false i = absurd i

  pub reaches_inside : (f row : ℕ) → f < function_count q → Reaches (call_graph q) f row → row < function_count q
  reaches_inside f _ h same = h
  reaches_inside f row h (more {h = g} c r) = reaches_inside g row (calls_inside f g c) r

  -- every function that an entry reaches has a row
  pub reached_inside : (row : ℕ) → Reached q row → row < function_count q
  reached_inside row r = reaches_inside r.0 row (place_in q.program.functions.ids r.1.0 r.0 r.1.2) r.2
