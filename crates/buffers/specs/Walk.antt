-- The walk of a body that keeps the larger number at merges (01, "Pool check"), over any rules of an offset and a number of buffers. `numbers` has for
-- each offset 0, or one more than its number; the queue is first-in first-out.
-- Assumes nothing.
use Rattle.std.specs.Prelude.{ℕ, zero, suc, ◌+◌, ◌-◌, ◌*◌, Bool, true, false, cond, List, [], ◌∷◌, ◌++◌, length, get_or, set, replicate, ltb, eqb, Result, Ok, Err}
use Rattle.buffers.specs.declared.Way.{Way}
use Rattle.buffers.specs.declared.Way.TheVariants.{Ends, Astray, Goes, Forks}
use Rattle.buffers.specs.declared.Tread.{Tread}
use Rattle.buffers.specs.declared.Usage as told
use Rattle.buffers.specs.declared.Unwalked.{Unwalked}
use Rattle.buffers.specs.declared.Unwalked.TheVariants.{Undecodable, QueueFull}

-- what waits in the queue: an offset with a number of buffers
pub record Entry : Type 0 where
  pub offset : ℕ
  pub held : ℕ

abbrev pub entry : ℕ → ℕ → Entry
entry offset held = record { offset = offset; held = held }

-- 22, 23, or the numbers and the queue with which the walk goes on
pub data Outcome : Type 0 where
  astray full : Outcome
  go : List ℕ → List Entry → Outcome

abbrev pub then : Outcome → (List ℕ → List Entry → Outcome) → Outcome
then astray k = astray
then full k = full
then (go numbers queue) k = k numbers queue

-- "Merges keep the larger number, and a raised offset joins the queue again"; "QueueFull is given exactly when a walk would hold more" than `room` entries
unfoldable pub raise : ℕ → List ℕ → List Entry → ℕ → ℕ → Outcome
raise room numbers queue sum to =
    cond (ltb (get_or numbers to 0) (sum + 1))
    (cond (ltb (length queue) room) (go (set numbers to (sum + 1)) (queue ++ (entry to sum ∷ []))) full)
    (go numbers queue)

-- the successors in order
unfoldable pub follow : ℕ → List ℕ → List Entry → ℕ → Way → Outcome
follow room numbers queue sum Ends = go numbers queue
follow room numbers queue sum Astray = astray
follow room numbers queue sum (Goes to) = raise room numbers queue sum to
follow room numbers queue sum (Forks to next) = then (raise room numbers queue sum to) (λ n q. raise room n q sum next)

-- what a walk has found: weight, peak offset, and the cells of the functions that it opens
pub record Usage : Type 0 where
  pub weight : ℕ
  pub peak : ℕ
  pub callees : List ℕ

abbrev pub has : ℕ → List ℕ → Bool
has cell [] = false
has cell (c ∷ cells) = cond (eqb c cell) true (has cell cells)

-- "Callees .. count where walked, in first-met order", each once; 0 is none
unfoldable pub noted : ℕ → List ℕ → List ℕ
noted cell cells = cond (eqb cell 0) cells (cond (has cell cells) cells (cells ++ (cell ∷ [])))

-- "Weight is the largest sum ever made, peak offset the first place it was made"
unfoldable pub used : ℕ → Tread → Usage → Usage
used offset t u =
    record {
      weight = cond (ltb u.weight t.sum) t.sum u.weight;
      peak = cond (ltb u.weight t.sum) offset u.peak;
      callees = noted t.opens u.callees;
    }

abbrev pub unused : Usage
unused = record { weight = 0; peak = 0; callees = [] }

-- 22, 23, or the numbers at the end and what was found; `unfinished` where turns ran out, which never happens (Theorems.antt)
pub data Walked : Type 0 where
  undecodable crowded unfinished : Walked
  walked : List ℕ → Usage → Walked

abbrev pub ended : Outcome → (List ℕ → List Entry → Walked) → Walked
ended astray k = undecodable
ended full k = crowded
ended (go numbers queue) k = k numbers queue

-- "a popped entry lower than the recorded number is skipped"
unfoldable pub walk_from : (ℕ → ℕ → Tread) → ℕ → ℕ → List ℕ → List Entry → Usage → Walked
walk_from rule room zero numbers queue u = unfinished
walk_from rule room (suc left) numbers [] u = walked numbers u
walk_from rule room (suc left) numbers (e ∷ queue) u =
    cond (ltb (e.held + 1) (get_or numbers e.offset 0)) (walk_from rule room left numbers queue u)
    (ended (follow room numbers queue (rule e.offset e.held).sum (rule e.offset e.held).way)
    (λ n q. walk_from rule room left n q (used e.offset (rule e.offset e.held) u)))

-- n offsets without a number, but offset 0 with 0 buffers
unfoldable pub begun : ℕ → List ℕ
begun n = set (replicate n 0) 0 1

-- each turn takes an entry from the queue, and each that joins it raised a number, which the pool bounds: so many turns suffice
unfoldable pub turns_of : ℕ → ℕ → ℕ
turns_of n pool = 2 * (n * (pool + 1)) + 2

-- "walked from offset 0 with 0 buffers", over n offsets
unfoldable pub walk_of : (ℕ → ℕ → Tread) → ℕ → ℕ → ℕ → Walked
walk_of rule room pool n = walk_from rule room (turns_of n pool) (begun n) (entry 0 0 ∷ []) unused

-- by how much the numbers can still be raised, where they are at most the pool
unfoldable pub slack : ℕ → List ℕ → ℕ
slack pool [] = 0
slack pool (n ∷ numbers) = (pool + 1 - n) + slack pool numbers

-- what a walk answers: its weight and its peak offset, or 22 or 23
abbrev pub Used : Type 0
Used = Result told.Usage Unwalked

abbrev pub uses : ℕ → ℕ → Used
uses weight peak = Ok (record { weight = weight; peak = peak })

abbrev pub used_of : Walked → Used
used_of undecodable = Err Undecodable
used_of crowded = Err QueueFull
used_of unfinished = Err Undecodable
used_of (walked numbers u) = uses u.weight u.peak

-- and the callees that it found
abbrev pub callees_of : Walked → List ℕ
callees_of undecodable = []
callees_of crowded = []
callees_of unfinished = []
callees_of (walked numbers u) = u.callees
