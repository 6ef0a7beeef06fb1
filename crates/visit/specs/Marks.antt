-- What the colours and totals mean that the visit hands on by value, and what its functions leave of them. Assumes nothing: these are definitions.
--     Kept         a closed function's total is the one it has as an entry, and its callees are closed
--     After        what a visit leaves: the same functions are open, and no closed one is lost
--     Visits       what `total` does, Walks what `largest` does, and Meets what an entry does
use Rattle.std.specs.Prelude.{◌≡◌, Bool, List, [], ◌∷◌, ℕ, zero, suc, ◌≤◌, eqb, length, get_or, set, replicate, Result, Ok, Err}
use Rattle.visit.specs.declared.Overrun.{Overrun}
use Rattle.visit.specs.declared.State.{State}
use Rattle.visit.specs.Graph.{Graph, Calls}
use Rattle.visit.specs.Visit.{Visited, callee_of, total_of, met_of, none}

abbrev pub open_in : List ℕ → ℕ → Bool
open_in colours g = eqb (get_or colours g 0) 1

abbrev pub ClosedIn : State → ℕ → Type 0
ClosedIn s g = 2 ≤ get_or s.colours g 0

-- the functions not yet open: they fall with each new frame
unfoldable pub unopened : List ℕ → ℕ
unopened [] = 0
unopened (zero ∷ colours) = suc (unopened colours)
unopened (suc c ∷ colours) = unopened colours

abbrev pub opened : ℕ → State → State
opened f s = record { colours = set s.colours f 1; totals = s.totals }

abbrev pub closed : ℕ → ℕ → State → State
closed f t s = record { colours = set s.colours f 2; totals = set s.totals f t }

-- what a visit answers, but for the state that is handed on with a total
abbrev pub answer_of : Result (ℕ × State) Overrun → Visited
answer_of (Ok p) = Ok p.0
answer_of (Err e) = Err e

unfoldable pub fresh : State
fresh = record { colours = replicate 128 0; totals = replicate 128 0 }

module _ (G : Graph) (pool : ℕ) where
  pub record Kept (s : State) : Type 0 where
    pub colours_long : length s.colours ≡ 128
    pub totals_long : length s.totals ≡ 128
    pub total : (g : ℕ) → ClosedIn s g → total_of G pool none g ≡ Ok (get_or s.totals g 0)
    pub callees : (g h : ℕ) → ClosedIn s g → Calls G g h → ClosedIn s h

  pub record After (s r : State) : Type 0 where
    pub kept : Kept r
    pub same_open : open_in r.colours ≡ open_in s.colours
    pub fewer : unopened r.colours ≤ unopened s.colours
    pub still : (g : ℕ) → ClosedIn s g → ClosedIn r g

  pub record Visits (f : ℕ) (s : State) (r : Result (ℕ × State) Overrun) : Type 0 where
    pub answers : answer_of r ≡ total_of G pool (open_in s.colours) f
    pub leaves : (t : ℕ) (left : State) → r ≡ Ok (t, left) → After s left × ClosedIn left f × (get_or left.totals f 0 ≡ t)

  pub record Walks (f : ℕ) (s : State) (r : Result (ℕ × State) Overrun) : Type 0 where
    pub answers : answer_of r ≡ met_of G pool (open_in s.colours) (G.calls f) 0
    pub leaves : (best : ℕ) (left : State) → r ≡ Ok (best, left) → After s left × ((h : ℕ) → Calls G f h → ClosedIn left h)

  -- between two entries no function is open
  pub record AtRest (s : State) : Type 0 where
    pub kept : Kept s
    pub none_open : open_in s.colours ≡ none

  pub record Meets (f : ℕ) (r : Result (ℕ × State) Overrun) : Type 0 where
    pub answers : answer_of r ≡ callee_of none (total_of G pool none) f
    pub leaves : (t : ℕ) (left : State) → r ≡ Ok (t, left) → AtRest left
