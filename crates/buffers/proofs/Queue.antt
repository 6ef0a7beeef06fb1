-- The walk's definition, a law for each way that one step of it can go, with the tests as hypotheses: a successor, the successors in order, an entry
-- from the queue, what is found there, and the beginning. The code of a walk is proved by these alone; each is its definition at one outcome of its
-- tests. `slack` falls at each raise and begins one below all that there is to raise, by recursion on the numbers.
-- Assumes nothing.
use mathlib.Core.Path.{◌≡◌, refl, ◌∙◌}
use mathlib.Core.Bool.{Bool, true, false, cond}
use mathlib.Core.List.{List, [], ◌∷◌, ◌++◌}
use Prim.Native.Nat.{ℕ, zero, suc, ◌+◌, ◌*◌, ◌≤◌, ◌<◌}
use native.Mathlib.Omega.{arith}
use lib.ListN.{length, get_or, set, replicate, length-set, length-replicate}
use lib.Seq.{get_or-set_same, get_or-set_other}
use lib.Dec.{eqb}
use borrow.Author.Tests.{lt-ltb, le-ltb, eq-eqb, ne_eqb}
use Rattle.buffers.specs.declared.Way.TheVariants.{Ends, Astray, Goes, Forks}
use Rattle.buffers.specs.declared.Tread.{Tread}
use Rattle.buffers.specs.Walk.{Entry, entry, astray, full, go, raise, follow, Usage, has, noted, used, unused, undecodable, crowded, unfinished, walked, walk_from, begun, turns_of, walk_of, slack}

-- The three ways of a successor.
module _ (room : ℕ) (numbers : List ℕ) (queue : List Entry) (sum to : ℕ) where
  pub raise_new : get_or numbers to 0 < sum + 1 → length queue < room → raise room numbers queue sum to ≡ go (set numbers to (sum + 1)) (queue ++ (entry to sum ∷ []))
  unfolding raise
  raise_new low r = simp (lt-ltb (get_or numbers to 0) (sum + 1) low, lt-ltb (length queue) room r)

  pub raise_full : get_or numbers to 0 < sum + 1 → room ≤ length queue → raise room numbers queue sum to ≡ full
  unfolding raise
  raise_full low r = simp (lt-ltb (get_or numbers to 0) (sum + 1) low, le-ltb (length queue) room r)

  pub raise_kept : sum + 1 ≤ get_or numbers to 0 → raise room numbers queue sum to ≡ go numbers queue
  unfolding raise
  raise_kept high = simp (le-ltb (get_or numbers to 0) (sum + 1) high)

-- The successors, branch target before next instruction.
module _ (room : ℕ) (numbers : List ℕ) (queue : List Entry) (sum : ℕ) where
  pub follow_ends : follow room numbers queue sum Ends ≡ go numbers queue
  unfolding follow
  follow_ends = refl

  pub follow_astray : follow room numbers queue sum Astray ≡ astray
  unfolding follow
  follow_astray = refl

  pub follow_goes : (to : ℕ) → follow room numbers queue sum (Goes to) ≡ raise room numbers queue sum to
  unfolding follow
  follow_goes to = refl

  pub follow_forks_full : (to next : ℕ) → raise room numbers queue sum to ≡ full → follow room numbers queue sum (Forks to next) ≡ full
  unfolding follow
  follow_forks_full to next e = rw e

  pub follow_forks_go : (to next : ℕ) (n : List ℕ) (q : List Entry) → raise room numbers queue sum to ≡ go n q → follow room numbers queue sum (Forks to next) ≡ raise room n q sum next
  unfolding follow
  follow_forks_go to next n q e = rw e

-- An entry from the queue.
module _ (rule : ℕ → ℕ → Tread) (room left : ℕ) (numbers : List ℕ) where
  -- nothing waits
  pub walk_done : (u : Usage) → walk_from rule room (suc left) numbers [] u ≡ walked numbers u
  unfolding walk_from
  walk_done u = refl

  pub walk_stale : (e : Entry) (queue : List Entry) (u : Usage) → e.held + 1 < get_or numbers e.offset 0
      → walk_from rule room (suc left) numbers (e ∷ queue) u ≡ walk_from rule room left numbers queue u
  unfolding walk_from
  walk_stale e queue u l = simp (lt-ltb (e.held + 1) (get_or numbers e.offset 0) l)

  module _ (offset held : ℕ) (queue : List Entry) (u : Usage) (fresh : get_or numbers offset 0 ≤ held + 1) where
    pub walk_astray : follow room numbers queue (rule offset held).sum (rule offset held).way ≡ astray
        → walk_from rule room (suc left) numbers (entry offset held ∷ queue) u ≡ undecodable
    unfolding walk_from
    walk_astray e = simp (le-ltb (held + 1) (get_or numbers offset 0) fresh, e)

    pub walk_full : follow room numbers queue (rule offset held).sum (rule offset held).way ≡ full
        → walk_from rule room (suc left) numbers (entry offset held ∷ queue) u ≡ crowded
    unfolding walk_from
    walk_full e = simp (le-ltb (held + 1) (get_or numbers offset 0) fresh, e)

    pub walk_goes : (n : List ℕ) (q : List Entry) → follow room numbers queue (rule offset held).sum (rule offset held).way ≡ go n q
        → walk_from rule room (suc left) numbers (entry offset held ∷ queue) u ≡ walk_from rule room left n q (used offset (rule offset held) u)
    unfolding walk_from
    walk_goes n q e = simp (le-ltb (held + 1) (get_or numbers offset 0) fresh, e)

-- no turn is left
pub walk_over : (rule : ℕ → ℕ → Tread) (room : ℕ) (numbers : List ℕ) (queue : List Entry) (u : Usage) → walk_from rule room 0 numbers queue u ≡ unfinished
unfolding walk_from
walk_over rule room numbers queue u = refl

-- from the start
pub walk_begun : (rule : ℕ → ℕ → Tread) (room pool n : ℕ) → walk_from rule room (turns_of n pool) (begun n) (entry 0 0 ∷ []) unused ≡ walk_of rule room pool n
unfolding walk_of
walk_begun rule room pool n = refl

pub turns_are : (n pool : ℕ) → turns_of n pool ≡ 2 * (n * (pool + 1)) + 2
unfolding turns_of
turns_are n pool = refl

-- What is found: a larger sum, and another.
module _ (offset : ℕ) (t : Tread) (u : Usage) where
  pub used_larger : u.weight < t.sum → used offset t u ≡ record { weight = t.sum; peak = offset; callees = noted t.opens u.callees }
  unfolding used
  used_larger l = simp (lt-ltb u.weight t.sum l)

  pub used_other : t.sum ≤ u.weight → used offset t u ≡ record { weight = u.weight; peak = u.peak; callees = noted t.opens u.callees }
  unfolding used
  used_other l = simp (le-ltb u.weight t.sum l)

  pub weight_larger : u.weight < t.sum → (used offset t u).weight ≡ t.sum
  unfolding used
  weight_larger l = simp (lt-ltb u.weight t.sum l)

  pub peak_larger : u.weight < t.sum → (used offset t u).peak ≡ offset
  unfolding used
  peak_larger l = simp (lt-ltb u.weight t.sum l)

  pub weight_other : t.sum ≤ u.weight → (used offset t u).weight ≡ u.weight
  unfolding used
  weight_other l = simp (le-ltb u.weight t.sum l)

  pub peak_other : t.sum ≤ u.weight → (used offset t u).peak ≡ u.peak
  unfolding used
  peak_other l = simp (le-ltb u.weight t.sum l)

  pub used_callees : (used offset t u).callees ≡ noted t.opens u.callees
  unfolding used
  used_callees = refl

-- The cell of the function that is opened: none, one met before, a new one.
module _ (cell : ℕ) (cells : List ℕ) where
  pub noted_none : cell ≡ 0 → noted cell cells ≡ cells
  unfolding noted
  noted_none z = simp (eq-eqb cell 0 z)

  pub noted_met : has cell cells ≡ true → noted cell cells ≡ cells
  unfolding noted
  noted_met h = by (eqb cell 0)
    where
      by : (b : Bool) → cond b cells (cond (has cell cells) cells (cells ++ (cell ∷ []))) ≡ cells
      by true = refl
      by false = rw h

  pub noted_new : (cell ≡ 0 → ⊥) → has cell cells ≡ false → noted cell cells ≡ cells ++ (cell ∷ [])
  unfolding noted
  noted_new n h = simp (ne_eqb cell 0 n, h)

-- a search for a cell, for the code that makes it
pub has_end : (cell : ℕ) → has cell [] ≡ false
has_end cell = refl

pub has_here : (cell c : ℕ) (cells : List ℕ) → c ≡ cell → has cell (c ∷ cells) ≡ true
has_here cell c cells e = simp (eq-eqb c cell e)

pub has_later : (cell c : ℕ) (cells : List ℕ) → (c ≡ cell → ⊥) → has cell (c ∷ cells) ≡ has cell cells
has_later cell c cells n = simp (ne_eqb c cell n)

-- The beginning.
pub begun_is : (n : ℕ) → begun n ≡ set (replicate n 0) 0 1
unfolding begun
begun_is n = refl

pub length_begun : (n : ℕ) → length (begun n) ≡ n
unfolding begun
length_begun n = simp (length-set, length-replicate)

-- offset 0 begins with 0 buffers
pub begun_first : (n : ℕ) → 0 < n → get_or (begun n) 0 0 ≡ 1
unfolding begun
begun_first n h = let l = length-replicate {A = ℕ} n 0 in get_or-set_same (replicate n 0) 0 1 0 (omega arith)

any_zero : (n i : ℕ) → get_or {A = ℕ} (replicate n 0) i 0 ≡ 0
any_zero zero i = refl
any_zero (suc n) zero = refl
any_zero (suc n) (suc i) = any_zero n i

-- and every other without a number
pub begun_other : (n i : ℕ) → (i ≡ 0 → ⊥) → get_or (begun n) i 0 ≡ 0
unfolding begun
begun_other n i h = get_or-set_other (replicate n 0) 0 i 1 0 h ∙ any_zero n i

-- What is left to raise.
pub slack_set : (pool : ℕ) (numbers : List ℕ) (to sum : ℕ) → to < length numbers → get_or numbers to 0 < sum + 1 → sum ≤ pool
    → slack pool (set numbers to (sum + 1)) + 1 ≤ slack pool numbers
unfolding slack
slack_set pool [] to sum l low h = absurd (omega arith)
slack_set pool (c ∷ numbers) zero sum l low h = omega arith
slack_set pool (c ∷ numbers) (suc to) sum l low h = omega (arith, slack_set pool numbers to sum (omega arith) low h)

slack_none : (pool n : ℕ) → slack pool (replicate n 0) ≡ n * (pool + 1)
unfolding slack
slack_none pool zero = omega arith
slack_none pool (suc n) = omega (arith, slack_none pool n)

pub slack_begun : (pool n : ℕ) → 0 < n → slack pool (begun n) + 1 ≡ n * (pool + 1)
unfolding slack begun
slack_begun pool zero h = absurd (omega arith)
slack_begun pool (suc n) h = omega (arith, slack_none pool n)
