-- How many offsets have a depth: never more than there are, one at the beginning, and one more each time that an offset gets one. So a queue
-- of as many cells as offsets has room for each offset that joins it.
-- Assumes nothing.
use mathlib.Core.Path.{◌≡◌, refl, ap, ◌∙◌}
use mathlib.Core.List.{List, [], ◌∷◌}
use Prim.Native.Nat.{ℕ, zero, suc, ◌+◌, ◌≤◌, ◌<◌}
use native.Mathlib.Numerals.{add-one}
use native.Mathlib.Omega.{arith}
use lib.ListN.{length, get_or, set, replicate, length-set, length-replicate}
use lib.Seq.{get_or-set_same, get_or-set_other}
use Rattle.rules.specs.Walk.{begun, count}

pub count_le : (d : List ℕ) → count d ≤ length d
unfolding count
count_le [] = omega arith
count_le (zero ∷ d) = let r = count_le d in omega arith
count_le (suc n ∷ d) = let r = count_le d in omega arith

-- where an offset has no depth, fewer have one than there are
pub count_room : (d : List ℕ) (t : ℕ) → t < length d → get_or d t 0 ≡ 0 → count d < length d
unfolding count
count_room [] t h e = absurd (omega arith)
count_room (zero ∷ d) t h e = let r = count_le d in omega arith
count_room (suc n ∷ d) zero h e = absurd (omega arith)
count_room (suc n ∷ d) (suc t) h e = let r = count_room d t (omega arith) e in omega arith

-- giving it one makes one more
pub count_set : (d : List ℕ) (t v : ℕ) → t < length d → get_or d t 0 ≡ 0 → count (set d t (v + 1)) ≡ count d + 1
unfolding count
count_set [] t v h e = absurd (omega arith)
count_set (zero ∷ d) zero v h e = simp add-one
count_set (suc n ∷ d) zero v h e = absurd (omega arith)
count_set (zero ∷ d) (suc t) v h e = count_set d t v (omega arith) e
count_set (suc n ∷ d) (suc t) v h e = ap suc (count_set d t v (omega arith) e) ∙ omega arith

count_none : (n : ℕ) → count (replicate n 0) ≡ 0
unfolding count
count_none zero = refl
count_none (suc n) = count_none n

any_zero : (n i : ℕ) → get_or {A = ℕ} (replicate n 0) i 0 ≡ 0
any_zero zero i = refl
any_zero (suc n) zero = refl
any_zero (suc n) (suc i) = any_zero n i

pub length_begun : (n : ℕ) → length (begun n) ≡ n
unfolding begun
length_begun n = simp (length-set, length-replicate)

-- offset 0 begins at depth 0
pub begun_first : (n : ℕ) → 0 < n → get_or (begun n) 0 0 ≡ 1
unfolding begun
begun_first n h = let l = length-replicate {A = ℕ} n 0 in get_or-set_same (replicate n 0) 0 1 0 (omega arith)

-- and every other without one
pub begun_other : (n i : ℕ) → (i ≡ 0 → ⊥) → get_or (begun n) i 0 ≡ 0
unfolding begun
begun_other n i h = get_or-set_other (replicate n 0) 0 i 1 0 h ∙ any_zero n i

pub count_begun : (n : ℕ) → 0 < n → count (begun n) ≡ 1
unfolding begun
count_begun n h =
    let l = length-replicate {A = ℕ} n 0 in
    let z = count_none n in
    count_set (replicate n 0) 0 0 (omega arith) (any_zero n 0) ∙ omega arith

pub begun_is : (n : ℕ) → begun n ≡ set (replicate n 0) 0 1
unfolding begun
begun_is n = refl
