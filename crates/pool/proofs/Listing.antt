-- A row of callee cells: a cell joins it where it is not there yet, and there is room, since cells are 1 to 128 and none stands twice.
-- Assumes nothing.
use Rattle.std.specs.Prelude.{◌||◌, nat_eq}
use Rattle.std.specs.List.{list_any}
use Prim.Native.Nat.{ℕ, zero, suc, ◌+◌, ◌-◌, ◌≤◌, ◌<◌}
use native.Mathlib.Omega.{arith}
use native.Mathlib.Numerals.{add-one}
use mathlib.Core.Path.{◌≡◌, refl, ◌∙◌, ap, sym}
use mathlib.Core.Bool.{Bool, true, false, cond, true≢false}
use mathlib.Core.List.{List, [], ◌∷◌, ◌++◌}
use mathlib.Core.Logic.{◌⊎◌, inl, inr, ⊎_elim}
use lib.Dec.{eqb}
use lib.ListN.{length, get_or, set, take, length-set, length-append}
use lib.Seq.{take-suc-set, get_or-set_other, length-take-le}
use borrow.Author.Tests.{eqb-true, eqb-false, ne_eqb}
use Rattle.buffers.specs.Walk.{has, noted}
use Rattle.buffers.proofs.Queue.{noted_none, noted_met, noted_new, has_here, has_later}
use Rattle.visit.specs.Visit.{opening, none}
use Rattle.visit.specs.Fuel.{left, left_most, left_less}
use Rattle.visit.proofs.Exact.{opening_still}
use Rattle.pool.specs.Columns.{Apart, Listed}

or_else : (a b : Bool) → b ≡ true → cond a true b ≡ true
or_else true b e = refl
or_else false b e = e

has_snoc : (c d : ℕ) (cells : List ℕ) → has c (cells ++ (d ∷ [])) ≡ cond (has c cells) true (eqb d c)
has_snoc c d [] = by (eqb d c) refl
  where
    by : (b : Bool) → eqb d c ≡ b → cond b true false ≡ b
    by true e = refl
    by false e = refl
has_snoc c d (x ∷ cells) = by (eqb x c) (has_snoc c d cells)
  where
    by : (b : Bool) → has c (cells ++ (d ∷ [])) ≡ cond (has c cells) true (eqb d c) → cond b true (has c (cells ++ (d ∷ []))) ≡ cond (cond b true (has c cells)) true (eqb d c)
    by true e = refl
    by false e = e

has_either : (c d : ℕ) (cells : List ℕ) → has c (cells ++ (d ∷ [])) ≡ true → (has c cells ≡ true) ⊎ (d ≡ c)
has_either c d cells e = by (has c cells) refl (eqb d c) refl (sym (has_snoc c d cells) ∙ e)
  where
    by : (a : Bool) → has c cells ≡ a → (b : Bool) → eqb d c ≡ b → cond (has c cells) true (eqb d c) ≡ true → (has c cells ≡ true) ⊎ (d ≡ c)
    by true p b q h = inl p
    by false p true q h = inr (eqb-true d c q)
    by false p false q h = absurd (true≢false (sym h ∙ rw (p, q) refl))

-- has is said of the head and of the rest
has_not : (d x : ℕ) (cells : List ℕ) → has d (x ∷ cells) ≡ false → (x ≡ d → ⊥) × (has d cells ≡ false)
has_not d x cells e = by (eqb x d) refl e
  where
    by : (b : Bool) → eqb x d ≡ b → cond b true (has d cells) ≡ false → (x ≡ d → ⊥) × (has d cells ≡ false)
    by true q h = absurd (true≢false h)
    by false q h = (eqb-false x d q, h)

apart_snoc : (d : ℕ) (cells : List ℕ) → Apart cells → has d cells ≡ false → Apart (cells ++ (d ∷ []))
apart_snoc d [] a n = (refl, tt)
apart_snoc d (x ∷ cells) a n =
    let k = has_not d x cells n in
    (has_snoc x d cells ∙ rw a.0 (ne_eqb d x (λ e. k.0 (sym e))), apart_snoc d cells a.1 k.1)

other : (c x : ℕ) (cells : List ℕ) → has c cells ≡ false → has x cells ≡ true → x ≡ c → ⊥
other c x cells n h e = true≢false (sym h ∙ ap (λ (k : ℕ). has k cells) e ∙ n)

-- a list of cells from 1 to 128, none twice and none of them open, is no longer than the count of those not open
short : (cells : List ℕ) (is_open : ℕ → Bool) → Apart cells → ((c : ℕ) → has c cells ≡ true → (1 ≤ c) × ((c ≤ 128) × (is_open (c - 1) ≡ false))) → length cells ≤ left 128 is_open
short [] is_open a h = omega arith
short (c ∷ cells) is_open a h =
    let own = h c (has_here c c cells refl) in
    let l : c - 1 < 128 = omega (arith, own.0, own.1.0) in
    let on : length cells ≤ left 128 (opening (c - 1) is_open) = short cells (opening (c - 1) is_open) a.1
    (λ x i. let n = other c x cells a.0 i in let k = h x (has_later x c cells (λ e. n (sym e)) ∙ i) in (k.0, (k.1.0, opening_still (c - 1) is_open (x - 1) k.1.1 (λ e. n (omega (arith, k.0, own.0)))))) in
    omega (arith, left_less 128 (c - 1) is_open l own.1.1)

pub few : (cells : List ℕ) → Apart cells → ((c : ℕ) → has c cells ≡ true → (1 ≤ c) × (c ≤ 128)) → length cells ≤ 128
few cells a h = let s = short cells none a (λ c i. ((h c i).0, ((h c i).1, refl))) in omega (arith, left_most 128 none)

module _ (row : List ℕ) (met cell : ℕ) (l : Listed row met) where
  pub listed_room : met ≤ length row
  listed_room = omega (arith, l.wide, l.within)

  pub note_none : cell ≡ 0 → Listed row met × (take met row ≡ noted cell (take met row))
  note_none e = (l, sym (noted_none cell (take met row) e))

  pub note_met : (b : Bool) → b ≡ has cell (take met row) → b ≡ true → Listed row met × (take met row ≡ noted cell (take met row))
  note_met b e t = (l, sym (noted_met cell (take met row) (sym e ∙ t)))

  module _ (some : cell ≡ 0 → ⊥) (small : cell ≤ 128) (new : has cell (take met row) ≡ false) where
    grown_cells : (c : ℕ) → has c (take met row ++ (cell ∷ [])) ≡ true → (1 ≤ c) × (c ≤ 128)
    grown_cells c i = ⊎_elim (λ h. l.cells c h) (λ e. (omega arith, omega arith)) (has_either c cell (take met row) i)

    grown_apart : Apart (take met row ++ (cell ∷ []))
    grown_apart = apart_snoc cell (take met row) l.apart new

    -- so there is room for it
    pub note_room : met < 128
    note_room =
        let k = few (take met row ++ (cell ∷ [])) grown_apart grown_cells in
        let a = length-append (take met row) (cell ∷ []) in
        let t = length-take-le met row listed_room in
        omega arith

    taken : take (met + 1) (set row met cell) ≡ take met row ++ (cell ∷ [])
    taken = ap (λ (n : ℕ). take n (set row met cell)) (add-one met) ∙ take-suc-set row met cell (let r = note_room in omega (arith, l.wide))

    pub note_new : Listed (set row met cell) (met + 1) × (take (met + 1) (set row met cell) ≡ noted cell (take met row))
    note_new =
        let r = note_room in (
          record {
            wide = length-set row met cell ∙ l.wide;
            within = omega arith;
            apart = rw taken grown_apart;
            cells = λ c i. grown_cells c (ap (has c) (sym taken) ∙ i);
            blank = λ i h. get_or-set_other row met i cell 0 (λ e. omega arith) ∙ l.blank i (omega arith);
          },
          taken ∙ sym (noted_new cell (take met row) some new),
        )

-- ---- the search along a row
pub has_at : (c : ℕ) (cells : List ℕ) (i : ℕ) → i < length cells → get_or cells i 0 ≡ c → has c cells ≡ true
has_at c [] i h e = absurd (omega arith)
has_at c (x ∷ cells) zero h e = has_here c x cells e
has_at c (x ∷ cells) (suc i) h e = or_else (eqb x c) (has c cells) (has_at c cells i (omega arith) e)

-- the library's search along a row
pub listed_any : (cell : ℕ) (cells : List ℕ) → list_any (λ c. nat_eq c cell) cells ≡ has cell cells
listed_any cell [] = refl
listed_any cell (x ∷ cells) = by (eqb x cell) (listed_any cell cells)
  where
    by : (b : Bool) → list_any (λ c. nat_eq c cell) cells ≡ has cell cells → (b || list_any (λ c. nat_eq c cell) cells) ≡ cond b true (has cell cells)
    by true e = refl
    by false e = e
