-- The places that a walk treads, in its order: the entries that it takes from the queue and does not skip, with which weight, peak offset and callees
-- are spoken of; and where a path through successors comes, with no queue in it.
-- Assumes nothing.
use Rattle.std.specs.Prelude.{ℕ, zero, suc, ◌+◌, ◌<◌, ◌≡◌, cond, List, [], ◌∷◌, ◌++◌, ◌↔◌, get_or, ltb}
use Rattle.buffers.specs.declared.Tread.{Tread}
use Rattle.buffers.specs.Walk.{Entry, entry, Outcome, astray, full, go, follow, noted, begun, turns_of}
use Rattle.buffers.specs.Meaning.{Among, Distinct, Next}

-- what treading a place gives
abbrev pub made_at : (ℕ → ℕ → Tread) → Entry → Tread
made_at rule e = rule e.offset e.held

abbrev pub onward : Outcome → (List ℕ → List Entry → List Entry) → List Entry
onward astray k = []
onward full k = []
onward (go numbers queue) k = k numbers queue

-- by the walk's own recursion (walk_from)
unfoldable pub treads_from : (ℕ → ℕ → Tread) → ℕ → ℕ → List ℕ → List Entry → List Entry
treads_from rule room zero numbers queue = []
treads_from rule room (suc left) numbers [] = []
treads_from rule room (suc left) numbers (e ∷ queue) =
    cond (ltb (e.held + 1) (get_or numbers e.offset 0)) (treads_from rule room left numbers queue)
    (e ∷ onward (follow room numbers queue (made_at rule e).sum (made_at rule e).way) (λ n q. treads_from rule room left n q))

unfoldable pub treads_of : (ℕ → ℕ → Tread) → ℕ → ℕ → ℕ → List Entry
treads_of rule room pool n = treads_from rule room (turns_of n pool) (begun n) (entry 0 0 ∷ [])

-- "peak offset the first place it was made": the first of these places whose sum is the weight
pub record First (rule : ℕ → ℕ → Tread) (trodden : List Entry) (weight peak : ℕ) : Type 0 where
  pub before : List Entry
  pub at : Entry
  pub after : List Entry
  pub splits : trodden ≡ before ++ (at ∷ after)
  pub made : (made_at rule at).sum ≡ weight
  pub there : at.offset ≡ peak
  pub less : (e : Entry) → Among e before → (made_at rule e).sum < weight

-- the cells opened, as they are met
unfoldable pub met_from : (ℕ → ℕ → Tread) → List ℕ → List Entry → List ℕ
met_from rule cells [] = cells
met_from rule cells (e ∷ trodden) = met_from rule (noted (made_at rule e).opens cells) trodden

-- some place opens the cell
abbrev pub Opened : (ℕ → ℕ → Tread) → List Entry → ℕ → Type 0
Opened rule trodden cell = (cell ≡ 0 → ⊥) × ((e : Entry) × Among e trodden × ((made_at rule e).opens ≡ cell))

-- a place opens the cell, and the places before it open the earlier cells
pub record Meets (rule : ℕ → ℕ → Tread) (trodden : List Entry) (earlier : List ℕ) (cell : ℕ) : Type 0 where
  pub before : List Entry
  pub at : Entry
  pub after : List Entry
  pub splits : trodden ≡ before ++ (at ∷ after)
  pub opened : (made_at rule at).opens ≡ cell
  pub met : earlier ≡ met_from rule [] before

-- "Callees .. count where walked, in first-met order", each once
pub record Met (rule : ℕ → ℕ → Tread) (trodden : List Entry) (callees : List ℕ) : Type 0 where
  pub folds : callees ≡ met_from rule [] trodden
  pub distinct : Distinct callees
  pub exactly : (cell : ℕ) → Among cell callees ↔ Opened rule trodden cell
  pub in_order : (earlier : List ℕ) (cell : ℕ) (later : List ℕ) → callees ≡ earlier ++ (cell ∷ later) → Meets rule trodden earlier cell

-- a path from offset 0 with 0 buffers comes to an offset with so many
pub data Comes (rule : ℕ → ℕ → Tread) : ℕ → ℕ → Type 0 where
  start : Comes rule 0 0
  step : {offset held to : ℕ} → Comes rule offset held → Next (rule offset held).way to → Comes rule to (rule offset held).sum
