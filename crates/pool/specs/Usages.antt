-- What the loop over the directory leaves: how it ended, and for each function its row of callee cells, its weight and its peak offset.
-- Assumes nothing.
use Rattle.std.specs.Prelude.{ℕ, ◌≤◌, ◌<◌, ◌≡◌, List, [], length, get_or, take, drop, Result, Ok, Err}
use Rattle.buffers.specs.Walk.{Walked, callees_of}
use Rattle.visit.specs.Cells.{callees_in}
use Rattle.pool.specs.declared.Fault.{Fault}
use Rattle.pool.specs.declared.bodies.Usages.{Usages}
use Rattle.pool.specs.Pool.{Verdict, weight_of, peak_of, rows_in, functions_from}

-- the walk of each body, out of the columns that say where it stands in the code
unfoldable pub walks_by : (List ℕ → Walked) → List ℕ → List ℕ → List ℕ → ℕ → Walked
walks_by walk offsets lengths code row = walk (take (get_or lengths row 0) (drop (get_or offsets row 0) code))

-- what the end says of the functions' answer, whatever comes after them
unfoldable pub Told : Result Usages Fault → (ℕ → Walked) → List ℕ → Type 0
Told (Ok usages) walk ids = (rest : Verdict) → functions_from walk ids rest (length ids) 0 ≡ rest
Told (Err fault) walk ids = (rest : Verdict) → functions_from walk ids rest (length ids) 0 ≡ Err fault

-- the first n functions are on record, and the others are blank
pub record Recorded (walk : ℕ → Walked) (n : ℕ) (cells weights peaks : List ℕ) : Type 0 where
  pub calls : (f : ℕ) → f < n → callees_in cells f ≡ rows_in (callees_of (walk f))
  pub blank_calls : (f : ℕ) → n ≤ f → f < 128 → callees_in cells f ≡ []
  pub weighs : (f : ℕ) → f < n → get_or weights f 0 ≡ weight_of (walk f)
  pub blank_weights : (f : ℕ) → n ≤ f → get_or weights f 0 ≡ 0
  pub peak_at : (f : ℕ) → f < n → get_or peaks f 0 ≡ peak_of (walk f)
  pub blank_peaks : (f : ℕ) → n ≤ f → get_or peaks f 0 ≡ 0

-- where all were walked
unfoldable pub IfWalked : Result Usages Fault → (Usages → Type 0) → Type 0
IfWalked (Ok usages) A = A usages
IfWalked (Err fault) A = Unit {0}

pub record Found (r : Result Usages Fault) (cells : List ℕ) (walk : ℕ → Walked) (ids : List ℕ) : Type 0 where
  pub told : Told r walk ids
  pub recorded : IfWalked r (λ u. Recorded walk (length ids) cells u.weights u.peaks)

-- 22 and 23, else what comes after the bodies
unfoldable pub judged_of : Result Usages Fault → (Usages → Verdict) → Verdict
judged_of (Ok usages) rest = rest usages
judged_of (Err fault) rest = Err fault
