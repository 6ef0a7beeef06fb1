-- The walk's lent columns: depths with 0 or one more than a depth, and a queue column of which the first `tail` cells have been joined. What the code
-- does to them is what the definition does to its lists.
-- Assumes nothing.
use Rattle.std.specs.Prelude.{ℕ, ◌+◌, ◌-◌, ◌≤◌, ◌<◌, ◌≡◌, Bool, true, cond, List, [], ◌∷◌, ◌++◌, eqb, length, get_or, take, Result, Ok, Err, Option, Some, None}
use Rattle.cells.specs.Zeros.{zeros}
use Rattle.rules.specs.declared.Violation.{Violation}
use Rattle.rules.specs.Walk.{Outcome, stop, go, count}
use Rattle.stack.specs.declared.queue.Meeting.{Meeting}
use Rattle.stack.specs.declared.queue.Reached.{Reached}

-- how a successor stands to its depth
unfoldable pub meet_of : List ℕ → ℕ → ℕ → Result Meeting Violation
meet_of depths to out =
    cond (eqb (get_or depths to 0) 0) (Ok Meeting.New)
    (cond (eqb (get_or depths to 0) (out + 1)) (Ok Meeting.Same) (Err (Violation.MergeConflict to (get_or depths to 0 - 1) out)))

-- fewer have joined the queue than have a depth, so it has room for each that gets one
pub record Ready (depths queue : List ℕ) (tail : ℕ) : Type 0 where
  pub small : length depths ≤ 65536
  pub room : length depths ≤ length queue
  pub counted : tail < count depths

-- putting a successor: `tail` cells were joined before it, and `end` after it
abbrev pub Puts : ℕ → Result (Unit {0}) Violation → ℕ → List ℕ → List ℕ → Outcome → Type 0
Puts tail (Err v) end depths queue o = o ≡ stop v
Puts tail (Ok _) end depths queue o = (o ≡ go depths (take end queue)) × (Ready depths queue end × (tail ≤ end))

-- a turn; one that goes on at once, where nothing waits, leaves the queue as it was
abbrev pub Turns : Bool → ℕ → List ℕ → Result (Option Reached) Violation → ℕ → List ℕ → List ℕ → Outcome → Type 0
Turns alone tail first (Err v) end depths queue o = o ≡ stop v
Turns alone tail first (Ok None) end depths queue o = (o ≡ go depths (take end queue)) × (Ready depths queue end × (tail ≤ end))
Turns alone tail first (Ok (Some r)) end depths queue o =
    (end ≡ tail) × ((alone ≡ true) × ((o ≡ go depths (take tail queue ++ (r.offset ∷ []))) × ((queue ≡ first) × ((get_or depths r.offset 0 ≡ r.depth + 1) × ((r.depth < 65536) × Ready depths queue tail)))))

-- marks that fit their body: no instruction ends past it
abbrev pub Fitting : List ℕ → List ℕ → Type 0
Fitting marks body = (offset : ℕ) → offset < length body → offset + get_or marks offset 0 ≤ length body

-- marks and depths are zero
pub record Cleared (marks depths : List ℕ) : Type 0 where
  pub marks_zero : marks ≡ zeros (length marks)
  pub depths_zero : depths ≡ zeros (length depths)

-- the columns have room for a body of n bytes
pub record Roomy (n : ℕ) (marks depths queue : List ℕ) : Type 0 where
  pub marks_room : n ≤ length marks
  pub depths_room : n + 1 ≤ length depths
  pub queue_room : n + 1 ≤ length queue
  pub small : n ≤ 65535
