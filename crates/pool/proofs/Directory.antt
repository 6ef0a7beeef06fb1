-- The directory row after row: either every walk ended and the answer is the visit's, or a row is the first whose walk gave 22 or 23, all earlier ones
-- having ended, and the answer is that with its id. By induction on the rows that are left, over any walks.
-- Assumes nothing.
use Rattle.std.specs.Prelude.{Err, Ok}
use Prim.Native.Nat.{ℕ, zero, suc, ◌+◌, ◌≤◌, ◌<◌}
use native.Mathlib.Omega.{arith}
use native.Mathlib.Nat.{eq-or-lt_of_le}
use mathlib.Core.Path.{◌≡◌, refl}
use mathlib.Core.Logic.{⊎_elim}
use mathlib.Core.List.{List}
use lib.ListN.{get_or}
use Rattle.buffers.specs.declared.Usage as told
use Rattle.buffers.specs.declared.Unwalked.{Unwalked}
use Rattle.buffers.specs.Walk.{Walked, used_of, Used}
use Rattle.pool.specs.declared.Fault.{Fault}
use Rattle.pool.specs.Pool.{on_used, functions_from, Verdict}

-- no refusal
abbrev pub Judged : Verdict → Type 0
Judged (Ok _) = Unit {0}
Judged (Err (Fault.Refused refusal)) = ⊥
Judged (Err (Fault.ExceedsDeclaredPool function offset depth declared)) = Unit {0}
Judged (Err (Fault.RecursiveCallGraph function)) = Unit {0}
Judged (Err (Fault.Undecodable function)) = Unit {0}
Judged (Err (Fault.QueueFull function)) = Unit {0}

module _ (walk : ℕ → Walked) (ids : List ℕ) where
  -- a row whose walk gave a weight and a peak offset
  abbrev pub Ended : ℕ → Type 0
  Ended row = (u : told.Usage) × (used_of (walk row) ≡ Ok u)

  -- the answer of so many rows from a row on, where the visit answers `rest`
  pub data From (rest : Verdict) (left row : ℕ) : Verdict → Type 0 where
    all : ((k : ℕ) → row ≤ k → k < row + left → Ended k) → From rest left row rest
    stray : (k : ℕ) → row ≤ k → k < row + left → ((j : ℕ) → row ≤ j → j < k → Ended j) → used_of (walk k) ≡ Err Unwalked.Undecodable
        → From rest left row (Err (Fault.Undecodable (get_or ids k 0)))
    full : (k : ℕ) → row ≤ k → k < row + left → ((j : ℕ) → row ≤ j → j < k → Ended j) → used_of (walk k) ≡ Err Unwalked.QueueFull
        → From rest left row (Err (Fault.QueueFull (get_or ids k 0)))

  -- one row more, in front
  also : (row : ℕ) (P : ℕ → Type 0) → Ended row → ((j : ℕ) → suc row ≤ j → P j → Ended j) → (j : ℕ) → row ≤ j → P j → Ended j
  also row P a on j l p = ⊎_elim (λ w. rw (← w) a) (λ w. on j w p) (eq-or-lt_of_le l)

  longer : (rest : Verdict) (left row : ℕ) → Ended row → (v : Verdict) → From rest left (suc row) v → From rest (suc left) row v
  longer rest left row a _ (all on) = all (also row (λ j. j < row + suc left) a (λ j l h. on j l (omega arith)))
  longer rest left row a _ (stray k l h on e) = stray k (omega arith) (omega arith) (also row (λ j. j < k) a on) e
  longer rest left row a _ (full k l h on e) = full k (omega arith) (omega arith) (also row (λ j. j < k) a on) e

  pub from : (rest : Verdict) (left row : ℕ) → From rest left row (functions_from walk ids rest left row)
  from rest zero row = all (λ k l h. absurd (omega arith))
  from rest (suc left) row = by (used_of (walk row)) refl (from rest left (suc row))
    where
      by : (u : Used) → used_of (walk row) ≡ u → From rest left (suc row) (functions_from walk ids rest left (suc row))
          → From rest (suc left) row (on_used (get_or ids row 0) u (functions_from walk ids rest left (suc row)))
      by (Err Unwalked.Undecodable) e on = stray row (omega arith) (omega arith) (λ j l h. absurd (omega arith)) e
      by (Err Unwalked.QueueFull) e on = full row (omega arith) (omega arith) (λ j l h. absurd (omega arith)) e
      by (Ok u) e on = longer rest left row (u, e) (functions_from walk ids rest left (suc row)) on

  -- where every walk ended, the answer is the visit's
  pub all_ended : (rest : Verdict) (left row : ℕ) → ((k : ℕ) → row ≤ k → k < row + left → Ended k) → functions_from walk ids rest left row ≡ rest
  all_ended rest zero row a = refl
  all_ended rest (suc left) row a =
      let e = a row (omega arith) (omega arith) in
      rw e.1 (all_ended rest left (suc row) (λ k l h. a k (omega arith) (omega arith)))

  -- up to a row whose walk did not end, the answer is what that row says
  pub up_to : (rest : Verdict) (left row k : ℕ) (v : Verdict) → row ≤ k → k < row + left → ((j : ℕ) → row ≤ j → j < k → Ended j)
      → ((after : Verdict) → on_used (get_or ids k 0) (used_of (walk k)) after ≡ v) → functions_from walk ids rest left row ≡ v
  up_to rest zero row k v l h a e = absurd (omega arith)
  up_to rest (suc left) row k v l h a e =
      ⊎_elim (λ w. rw w (e (functions_from walk ids rest left (suc k))))
      (λ w. rw (a row (omega arith) w).1 (up_to rest left (suc row) k v w (omega arith) (λ j i g. a j (omega arith) g) e))
      (eq-or-lt_of_le l)
