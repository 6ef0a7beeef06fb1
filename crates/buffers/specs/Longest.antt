-- How many entries a walk would hold at once, if its queue had no end: the walk's own recursion with room for two more at every turn.
-- Assumes nothing.
use Rattle.std.specs.Prelude.{ℕ, zero, suc, ◌+◌, max, cond, List, [], ◌∷◌, length, get_or, ltb}
use Rattle.buffers.specs.declared.Tread.{Tread}
use Rattle.buffers.specs.Walk.{Entry, entry, Outcome, astray, full, go, follow, begun, turns_of}
use Rattle.buffers.specs.Trodden.{made_at}

abbrev pub counted : Outcome → (List ℕ → List Entry → ℕ) → ℕ
counted astray k = 0
counted full k = 0
counted (go numbers queue) k = k numbers queue

unfoldable pub longest_from : (ℕ → ℕ → Tread) → ℕ → List ℕ → List Entry → ℕ
longest_from rule zero numbers queue = length queue
longest_from rule (suc left) numbers [] = 0
longest_from rule (suc left) numbers (e ∷ queue) =
    max (length queue + 1)
    (cond (ltb (e.held + 1) (get_or numbers e.offset 0)) (longest_from rule left numbers queue)
    (counted (follow (length queue + 2) numbers queue (made_at rule e).sum (made_at rule e).way) (λ n q. longest_from rule left n q)))

unfoldable pub longest_of : (ℕ → ℕ → Tread) → ℕ → ℕ → ℕ
longest_of rule pool n = longest_from rule (turns_of n pool) (begun n) (entry 0 0 ∷ [])
