-- What the visit of the pool check answers (01, "Pool check"): "for each entry, depth first: a function's total is its weight plus the largest callee
-- total, reported as at most 65,535. A callee still open gives 21 with its id; a total above the pool gives 20 .. when that function closes. Unknown
-- ids weigh 0." Nothing is remembered from one function to another: that a function which is met again need not be visited again is for the proof.
-- Assumes nothing: these are definitions.
use Rattle.std.specs.Prelude.{ℕ, zero, suc, ◌+◌, min, max, List, [], ◌∷◌, Bool, true, false, cond, ◌||◌, ltb, eqb, Result, Ok, Err}
use Rattle.visit.specs.declared.Overrun.{Overrun}
use Rattle.visit.specs.declared.Overrun.TheVariants.{Cycle, Over}
use Rattle.visit.specs.Graph.{Graph}

-- what is answered: a total, or 20 or 21
abbrev pub Visited : Type 0
Visited = Result ℕ Overrun

-- a total goes on; 20 and 21 end the visit
unfoldable pub onward : Visited → (ℕ → Visited) → Visited
onward (Ok t) next = next t
onward (Err e) next = Err e

-- "A callee still open gives 21 with its id"
unfoldable pub if_open : (ℕ → Visited) → ℕ → Bool → Visited
if_open total g true = Err (Cycle g)
if_open total g false = total g

-- "Unknown ids weigh 0"
unfoldable pub if_known : (ℕ → Bool) → (ℕ → Visited) → ℕ → Bool → Visited
if_known is_open total g true = if_open total g (is_open g)
if_known is_open total g false = Ok 0

abbrev pub callee_of : (ℕ → Bool) → (ℕ → Visited) → ℕ → Visited
callee_of is_open total g = if_known is_open total g (ltb g 128)

-- "the largest callee total": of functions in order, from the largest so far
unfoldable pub largest_of : (ℕ → Visited) → List ℕ → ℕ → Visited
largest_of callee [] best = Ok best
largest_of callee (g ∷ gs) best = onward (callee g) (λ t. largest_of callee gs (max best t))

-- "its weight plus the largest callee total, reported as at most 65,535"
abbrev pub sum_of : Graph → ℕ → ℕ → ℕ
sum_of G f best = min 65535 (G.weight f + best)

-- "a total above the pool gives 20 when that function closes"
unfoldable pub closes : Graph → ℕ → ℕ → ℕ → Visited
closes G pool f best = cond (ltb pool (sum_of G f best)) (Err (Over f (sum_of G f best))) (Ok (sum_of G f best))

-- f is open too
abbrev pub opening : ℕ → (ℕ → Bool) → ℕ → Bool
opening f is_open g = eqb g f || is_open g

-- the total of a function that is not open, by fuel: `total_of` has enough of it (Fuel.antt)
unfoldable pub total_by : Graph → ℕ → ℕ → (ℕ → Bool) → ℕ → Visited
total_by G pool zero is_open f = Ok 0
total_by G pool (suc k) is_open f =
    onward (largest_of (callee_of (opening f is_open) (total_by G pool k (opening f is_open))) (G.calls f) 0) (closes G pool f)

-- at most 128 functions are open at once
unfoldable pub total_of : Graph → ℕ → (ℕ → Bool) → ℕ → Visited
total_of G pool = total_by G pool 128

abbrev pub none : ℕ → Bool
none g = false

-- the totals of functions while some are open: those of the callees of a function, and those of the entries while none is
abbrev pub met_of : Graph → ℕ → (ℕ → Bool) → List ℕ → ℕ → Visited
met_of G pool is_open = largest_of (callee_of is_open (total_of G pool is_open))

-- "for each entry": the largest total, or the first 20 or 21
unfoldable pub visit_of : Graph → ℕ → List ℕ → Visited
visit_of G pool entries = met_of G pool none entries 0
