-- The rows of the callee cells: one is lent out of the middle and comes back, the others stay; what a row holds is what the visit reads; and the
-- directory's loop, which fills row after row.
-- Assumes nothing.
use Prim.Native.Nat.{ℕ, zero, suc, ◌+◌, ◌-◌, ◌*◌, ◌≤◌, ◌<◌}
use native.Mathlib.Omega.{arith}
use mathlib.Core.Path.{◌≡◌, refl, ◌∙◌, ap, ap₂, sym}
use mathlib.Core.List.{List, [], ◌∷◌, ◌++◌}
use lib.ListN.{length, get_or, take, drop, get_or-append, length-drop}
use lib.Seq.{length-take-le, get_or-take, get_or-drop, get_or-append-add}
use Rattle.cells.specs.Zeros.{copies, zeros}
use Rattle.buffers.specs.Walk.{Walked, Used}
use Rattle.visit.specs.Cells.{callees_in}
use Rattle.visit.proofs.Laws.{row_holds, callees_are, same_cells}
use Rattle.pool.specs.Columns.{Walks, Listed, Blank, Laid, Lays}
use Rattle.pool.specs.Pool.{rows_in}
use Rattle.pool.proofs.Listing.{has_at}

-- a column whose cells are all zero
all_zero : (column : List ℕ) → ((i : ℕ) → i < length column → get_or column i 0 ≡ 0) → column ≡ zeros (length column)
unfolding copies
all_zero [] z = refl
all_zero (x ∷ column) z = ap₂ (λ (a : ℕ) (l : List ℕ). a ∷ l) (z 0 (omega arith)) (all_zero column (λ i h. z (suc i) (omega arith)))

-- the row that is lent out is zero
pub row_blank : (row : ℕ) (cells : List ℕ) (n : ℕ) → Blank row cells → n ≡ 128 → take n (drop (row * 128) cells) ≡ zeros 128
row_blank row cells n b e =
    let l : length (take 128 (drop (row * 128) cells)) ≡ 128 = length-take-le 128 (drop (row * 128) cells) (omega (arith, length-drop (row * 128) cells, b.within)) in
    rw e (all_zero (take 128 (drop (row * 128) cells)) (λ i h. get_or-take 128 (drop (row * 128) cells) i 0 (omega arith) ∙ get_or-drop (row * 128) cells i 0 ∙ b.blank (row * 128 + i) (omega arith)) ∙ ap zeros l)

-- the row came back
module _ (at : ℕ) (first found : List ℕ) (within : at + 128 ≤ length first) (wide : length found ≡ 128) where
  abbrev whole : List ℕ
  whole = take at first ++ (found ++ drop 128 (drop at first))

  front_length : length (take at first) ≡ at
  front_length = length-take-le at first (omega arith)

  before : (i : ℕ) → i < at → get_or whole i 0 ≡ get_or first i 0
  before i h = get_or-append (take at first) (found ++ drop 128 (drop at first)) 0 i (let l = front_length in omega arith) ∙ get_or-take at first i 0 h

  from : (i : ℕ) → get_or whole (at + i) 0 ≡ get_or (found ++ drop 128 (drop at first)) i 0
  from i = ap (λ (n : ℕ). get_or whole (n + i) 0) (sym front_length) ∙ get_or-append-add (take at first) (found ++ drop 128 (drop at first)) i 0

  here : (i : ℕ) → i < 128 → get_or whole (at + i) 0 ≡ get_or found i 0
  here i h = from i ∙ get_or-append found (drop 128 (drop at first)) 0 i (omega arith)

  after : (i : ℕ) → at + 128 ≤ i → get_or whole i 0 ≡ get_or first i 0
  after i h =
      let j : ℕ = i - (at + 128) in
      ap (λ (n : ℕ). get_or whole n 0) (let e : i ≡ at + (128 + j) = omega arith in e)
      ∙ from (128 + j)
      ∙ ap (λ (n : ℕ). get_or (found ++ drop 128 (drop at first)) (n + j) 0) (sym wide)
      ∙ get_or-append-add found (drop 128 (drop at first)) j 0
      ∙ get_or-drop 128 (drop at first) j 0
      ∙ get_or-drop at first (128 + j) 0
      ∙ ap (λ (n : ℕ). get_or first n 0) (let e : at + (128 + j) ≡ i = omega arith in e)

  pub laid : (last : List ℕ) → last ≡ whole → Laid at first last found
  laid last e = rw e (record { wide = wide; before = before; here = here; after = after })

pub lays : (r : Used) (row : ℕ) (first last found : List ℕ) (w : Walked) (n : ℕ) → Blank row first → n ≡ 128 → length found ≡ length (take n (drop (row * 128) first)) → last ≡ take (row * 128) first ++ (found ++ drop n (drop (row * 128) first))
    → Walks r found w → Lays r (row * 128) first last w
lays r row first last found w n b e k l h =
    let m : length (take 128 (drop (row * 128) first)) ≡ 128 = length-take-le 128 (drop (row * 128) first) (omega (arith, length-drop (row * 128) first, b.within)) in
    record { found = found; laid = laid (row * 128) first found b.within (k ∙ ap (λ (j : ℕ). length (take j (drop (row * 128) first))) e ∙ m) last (l ∙ ap (λ (j : ℕ). take (row * 128) first ++ (found ++ drop j (drop (row * 128) first))) e); holds = h }

-- ---- what a row holds
rows_length : (cells : List ℕ) → length (rows_in cells) ≡ length cells
rows_length [] = refl
rows_length (c ∷ cells) = ap suc (rows_length cells)

rows_at : (cells : List ℕ) (i : ℕ) → get_or (rows_in cells) i 0 ≡ get_or cells i 0 - 1
rows_at [] i = refl
rows_at (c ∷ cells) zero = refl
rows_at (c ∷ cells) (suc i) = rows_at cells i

-- a listed row, laid into the cells, is read back
module _ (cells found : List ℕ) (f met : ℕ) (l : Listed found met) (on : (i : ℕ) → i < 128 → get_or cells (f * 128 + i) 0 ≡ get_or found i 0) where
  some : (i : ℕ) → i < met → 1 ≤ get_or found i 0
  some i h = (l.cells (get_or found i 0) (has_at (get_or found i 0) (take met found) i (let t = length-take-le met found (omega (arith, l.wide, l.within)) in omega arith) (get_or-take met found i 0 h))).0

  pub row_read : callees_in cells f ≡ rows_in (take met found)
  row_read =
      let t = length-take-le met found (omega (arith, l.wide, l.within)) in
      let n = rows_length (take met found) in
      callees_are cells f
      ∙ row_holds cells 128 (f * 128) (rows_in (take met found)) (omega (arith, l.within))
      (λ i h. let k : i < met = omega arith in let s = some i k in let e = rows_at (take met found) i in let g = get_or-take met found i 0 k in on i (omega (arith, l.within)) ∙ omega arith)
      (λ h. let k : length (rows_in (take met found)) ≡ met = n ∙ t in ap (λ (j : ℕ). get_or cells (f * 128 + j) 0) k ∙ on met (omega arith) ∙ l.blank met (omega arith))

pub row_empty : (cells : List ℕ) (f : ℕ) → ((i : ℕ) → i < 128 → get_or cells (f * 128 + i) 0 ≡ 0) → callees_in cells f ≡ []
row_empty cells f on = callees_are cells f ∙ row_holds cells 128 (f * 128) [] (omega arith) (λ i h. absurd (omega arith)) (λ h. on 0 (omega arith))

pub row_stays : (cells cells' : List ℕ) (f : ℕ) → ((i : ℕ) → i < 128 → get_or cells' (f * 128 + i) 0 ≡ get_or cells (f * 128 + i) 0) → callees_in cells' f ≡ callees_in cells f
row_stays cells cells' f on = callees_are cells' f ∙ same_cells cells' cells 128 (f * 128) on ∙ sym (callees_are cells f)
