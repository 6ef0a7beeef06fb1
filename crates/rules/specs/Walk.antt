-- The first-in first-out walk, over any rules of an offset and a depth. `depths` has for each offset 0, or one more than its depth; `queue` holds offsets.
-- Assumes nothing.
use Rattle.std.specs.Prelude.{ℕ, zero, suc, ◌+◌, ◌-◌, cond, List, [], ◌∷◌, ◌++◌, get_or, set, replicate, eqb, Result, Ok, Err}
use Rattle.rules.specs.declared.Onward.TheVariants.{Leaves, Goes, Forks}
use Rattle.rules.specs.Look.{Look}
use Rattle.rules.specs.declared.Violation.{Violation}

-- what a body's walk answers
abbrev pub Walked : Type 0
Walked = Result (Unit {0}) Violation

-- a violation, or the depths and the queue with which the walk goes on
pub data Outcome : Type 0 where
  stop : Violation → Outcome
  go : List ℕ → List ℕ → Outcome

abbrev pub then : Outcome → (List ℕ → List ℕ → Outcome) → Outcome
then (stop v) k = stop v
then (go depths queue) k = k depths queue

abbrev pub ended : Outcome → (List ℕ → List ℕ → Walked) → Walked
ended (stop v) k = Err v
ended (go depths queue) k = k depths queue

-- a successor without a depth gets one and joins the queue; with another depth, 8 at that successor
unfoldable pub put : List ℕ → List ℕ → ℕ → ℕ → Outcome
put depths queue to out =
    cond (eqb (get_or depths to 0) 0) (go (set depths to (out + 1)) (queue ++ (to ∷ [])))
    (cond (eqb (get_or depths to 0) (out + 1)) (go depths queue) (stop (Violation.MergeConflict to (get_or depths to 0 - 1) out)))

-- the successors in order
unfoldable pub follow : List ℕ → List ℕ → Look → Outcome
follow depths queue (Err v) = stop v
follow depths queue (Ok Leaves) = go depths queue
follow depths queue (Ok (Goes out to)) = put depths queue to out
follow depths queue (Ok (Forks out to next)) = then (put depths queue to out) (λ d q. put d q next out)

-- in at most so many turns; each offset joins the queue at most once, so a turn for each suffices (proofs/Turns.antt)
unfoldable pub walk_from : (ℕ → ℕ → Look) → ℕ → List ℕ → List ℕ → Walked
walk_from rule zero depths queue = Ok tt
walk_from rule (suc left) depths [] = Ok tt
walk_from rule (suc left) depths (offset ∷ queue) =
    ended (follow depths queue (rule offset (get_or depths offset 0 - 1))) (λ d q. walk_from rule left d q)

-- n offsets without a depth, but offset 0 at depth 0
unfoldable pub begun : ℕ → List ℕ
begun n = set (replicate n 0) 0 1

-- a queue from offset 0 at depth 0, over n offsets
unfoldable pub walk_of : (ℕ → ℕ → Look) → ℕ → Walked
walk_of rule n = walk_from rule n (begun n) (0 ∷ [])

-- how many offsets have a depth
unfoldable pub count : List ℕ → ℕ
count [] = 0
count (zero ∷ depths) = count depths
count (suc n ∷ depths) = suc (count depths)
