-- The cells of the functions that a walk opens, as it notes them: 0 is not noted, one that was met is not noted again, and a new one comes last. By
-- the three ways of one cell; `has` searches the list.
-- Assumes nothing.
use mathlib.Core.Path.{◌≡◌, refl}
use mathlib.Core.Bool.{Bool, true, false, cond}
use mathlib.Core.List.{List, [], ◌∷◌, ◌++◌}
use mathlib.Core.Logic.{◌⊎◌, inl, inr, ⊎_elim}
use Prim.Native.Nat.{ℕ}
use native.Mathlib.Decide.{ℕ_discrete}
use native.Mathlib.Omega.{arith}
use lib.Dec.{eqb}
use borrow.Author.Tests.{eqb-true, eqb-false}
use Rattle.buffers.specs.Walk.{has, noted}
use Rattle.buffers.specs.Meaning.{Among}
use Rattle.buffers.proofs.Queue.{noted_met, noted_new, noted_none}

pub among_front : {A : Type 0} (x t : A) (l : List A) → Among x l → Among x (l ++ (t ∷ []))
among_front x t [] h = absurd h
among_front x t (y ∷ l) h = ⊎_elim (λ e. inl e) (λ g. inr (among_front x t l g)) h

pub among_last : {A : Type 0} (t : A) (l : List A) → Among t (l ++ (t ∷ []))
among_last t [] = inl refl
among_last t (y ∷ l) = inr (among_last t l)

-- has
pub has_among : (cell : ℕ) (cells : List ℕ) → has cell cells ≡ true → Among cell cells
has_among cell [] e = let z : ◌≡◌ {A = ℕ} 0 1 = cc in absurd (omega arith)
has_among cell (c ∷ cells) e = by (eqb c cell) refl e (λ g. has_among cell cells g)
  where
    by : (b : Bool) → eqb c cell ≡ b → cond b true (has cell cells) ≡ true → (has cell cells ≡ true → Among cell cells) → (c ≡ cell) ⊎ Among cell cells
    by true h g rest = inl (eqb-true c cell h)
    by false h g rest = inr (rest g)

pub has_not : (cell : ℕ) (cells : List ℕ) → has cell cells ≡ false → Among cell cells → ⊥
has_not cell [] e h = h
has_not cell (c ∷ cells) e h = by (eqb c cell) refl e (λ g r. has_not cell cells g r)
  where
    by : (b : Bool) → eqb c cell ≡ b → cond b true (has cell cells) ≡ false → (has cell cells ≡ false → Among cell cells → ⊥) → ⊥
    by true k g rest = let z : ◌≡◌ {A = ℕ} 0 1 = cc in omega arith
    by false k g rest = ⊎_elim (λ r. eqb-false c cell k r) (λ r. rest g r) h

-- the three ways of a cell
pub data Noting (cell : ℕ) (cells : List ℕ) : List ℕ → Type 0 where
  none : cell ≡ 0 → Noting cell cells cells
  met : Among cell cells → Noting cell cells cells
  new : (cell ≡ 0 → ⊥) → (Among cell cells → ⊥) → Noting cell cells (cells ++ (cell ∷ []))

pub noting : (cell : ℕ) (cells : List ℕ) → Noting cell cells (noted cell cells)
noting cell cells = by (ℕ_discrete cell 0) (has cell cells) refl
  where
    by : Dec (cell ≡ 0) → (b : Bool) → has cell cells ≡ b → Noting cell cells (noted cell cells)
    by (yes z) b h = rw (noted_none cell cells z) (none z)
    by (no z) true h = rw (noted_met cell cells h) (met (has_among cell cells h))
    by (no z) false h = rw (noted_new cell cells z h) (new z (has_not cell cells h))

pub among_noted : (c cell : ℕ) (cells : List ℕ) → Among c cells → Among c (noted cell cells)
among_noted c cell cells h = by (noted cell cells) (noting cell cells)
  where
    by : (after : List ℕ) → Noting cell cells after → Among c after
    by _ (none z) = h
    by _ (met m) = h
    by _ (new z m) = among_front c cell cells h

pub among_note : (cell : ℕ) (cells : List ℕ) → (cell ≡ 0 → ⊥) → Among cell (noted cell cells)
among_note cell cells n = by (noted cell cells) (noting cell cells)
  where
    by : (after : List ℕ) → Noting cell cells after → Among cell after
    by _ (none z) = absurd (n z)
    by _ (met m) = m
    by _ (new z m) = among_last cell cells
