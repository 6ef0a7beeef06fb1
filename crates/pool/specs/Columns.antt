-- The walk's lent columns: numbers with 0 or one more than a number of buffers, a queue in two columns that go round, and a function's row of callee
-- cells. What the code does to them is what the definition does to its lists.
-- Assumes nothing.
use Rattle.std.specs.Prelude.{ℕ, zero, suc, ◌+◌, ◌-◌, ◌*◌, ◌≤◌, ◌<◌, ◌≡◌, true, false, cond, List, [], ◌∷◌, ltb, length, get_or, take, Option, Some, None, Result, Ok, Err}
use Rattle.cells.specs.Zeros.{zeros}
use Rattle.buffers.specs.declared.Unwalked.{Unwalked}
use Rattle.buffers.specs.Walk.{Entry, entry, Outcome, astray, full, go, has, Walked, Used, used_of, callees_of}
use Rattle.pool.specs.declared.ring.Waiting.{Waiting}

-- the place of the entry j, of columns of so many cells that go round from head on
unfoldable pub seat_of : ℕ → ℕ → ℕ → ℕ
seat_of room head j = cond (ltb j (room - head)) (head + j) (j - (room - head))

unfoldable pub tabulate : ℕ → (ℕ → Entry) → List Entry
tabulate zero f = []
tabulate (suc n) f = f 0 ∷ tabulate n (λ j. f (suc j))

-- the queue: `count` entries from head on
unfoldable pub waiting : List ℕ → List ℕ → ℕ → ℕ → List Entry
waiting places carried head count =
    tabulate count (λ j. entry (get_or places (seat_of (length places) head j) 0) (get_or carried (seat_of (length places) head j) 0))

-- the two columns are alike, and the queue is within them
pub record Ready (numbers places carried : List ℕ) (head count : ℕ) : Type 0 where
  pub small : length numbers ≤ 65536
  pub alike : length carried ≡ length places
  pub inside : head < length places
  pub few : count ≤ length places

-- 22 or 23, as the definition has them
abbrev pub stopped : Unwalked → Outcome
stopped Unwalked.Undecodable = astray
stopped Unwalked.QueueFull = full

-- a raise: the queue had no room, or what waits afterwards
unfoldable pub Raises : Result (Unit {0}) Unwalked → List ℕ → List ℕ → List ℕ → ℕ → ℕ → Outcome → Type 0
Raises (Ok _) numbers places carried head count o = (o ≡ go numbers (waiting places carried head count)) × Ready numbers places carried head count
Raises (Err unwalked) numbers places carried head count o = o ≡ stopped unwalked

-- a turn; where nothing waited, the only successor may be gone on with at once
unfoldable pub Turns : ℕ → ℕ → Result (Option ℕ) Unwalked → List ℕ → List ℕ → List ℕ → ℕ → ℕ → Outcome → Type 0
Turns before sum (Ok (Some to)) numbers places carried head count o =
    (before ≡ 0) × ((count ≡ 0) × ((o ≡ go numbers (entry to sum ∷ [])) × ((get_or numbers to 0 ≡ sum + 1) × Ready numbers places carried head count)))
Turns before sum (Ok None) numbers places carried head count o = (o ≡ go numbers (waiting places carried head count)) × Ready numbers places carried head count
Turns before sum (Err unwalked) numbers places carried head count o = o ≡ stopped unwalked

-- "a popped entry lower than the recorded number is skipped"
unfoldable pub skipped : List ℕ → List Entry → List Entry
skipped numbers [] = []
skipped numbers (e ∷ queue) = cond (ltb (e.held + 1) (get_or numbers e.offset 0)) (skipped numbers queue) (e ∷ queue)

-- the first entry that is not skipped, and the queue after it
unfoldable pub Firsts : Option Waiting → List ℕ → List ℕ → List ℕ → ℕ → ℕ → List Entry → Type 0
Firsts None numbers places carried head count queue = skipped numbers queue ≡ []
Firsts (Some w) numbers places carried head count queue =
    (skipped numbers queue ≡ entry w.offset w.held ∷ waiting places carried head count)
    × ((get_or numbers w.offset 0 ≤ w.held + 1) × (Ready numbers places carried head count × (w.held < 65536)))

-- no cell stands twice in a list
abbrev pub Apart : List ℕ → Type 0
Apart [] = Unit {0}
Apart (c ∷ cells) = (has c cells ≡ false) × Apart cells

-- a row of 128 cells, of which the first `met` hold a function's callees, each once, and the others 0
pub record Listed (row : List ℕ) (met : ℕ) : Type 0 where
  pub wide : length row ≡ 128
  pub within : met ≤ 128
  pub apart : Apart (take met row)
  pub cells : (c : ℕ) → has c (take met row) ≡ true → (1 ≤ c) × (c ≤ 128)
  pub blank : (i : ℕ) → met ≤ i → get_or row i 0 ≡ 0

-- where a body has a weight, its row holds its callees
unfoldable pub RowHolds : Used → List ℕ → List ℕ → Type 0
RowHolds (Err unwalked) row callees = Unit {0}
RowHolds (Ok usage) row callees = (met : ℕ) × (Listed row met × (take met row ≡ callees))

unfoldable pub Walks : Used → List ℕ → Walked → Type 0
Walks r row w = (r ≡ used_of w) × RowHolds r row (callees_of w)

-- marks that fit their body: no instruction ends past it
abbrev pub Fitting : List ℕ → List ℕ → Type 0
Fitting marks body = (offset : ℕ) → offset < length body → offset + get_or marks offset 0 ≤ length body

-- marks and numbers are zero
pub record Cleared (marks numbers : List ℕ) : Type 0 where
  pub marks_zero : marks ≡ zeros (length marks)
  pub numbers_zero : numbers ≡ zeros (length numbers)

-- the columns have room for a body of n bytes
pub record Roomy (n : ℕ) (marks numbers places carried : List ℕ) : Type 0 where
  pub marks_room : n ≤ length marks
  pub numbers_room : n + 1 ≤ length numbers
  pub places_room : 2 * n + 2 ≤ length places
  pub carried_room : 2 * n + 2 ≤ length carried
  pub small : n ≤ 65535

-- the callee cells from a row on are zero, and the row is within them
pub record Blank (row : ℕ) (cells : List ℕ) : Type 0 where
  pub within : row * 128 + 128 ≤ length cells
  pub blank : (i : ℕ) → row * 128 ≤ i → get_or cells i 0 ≡ 0

-- a row of 128 cells was lent out of the cells, and came back so
pub record Laid (at : ℕ) (first last found : List ℕ) : Type 0 where
  pub wide : length found ≡ 128
  pub before : (i : ℕ) → i < at → get_or last i 0 ≡ get_or first i 0
  pub here : (i : ℕ) → i < 128 → get_or last (at + i) 0 ≡ get_or found i 0
  pub after : (i : ℕ) → at + 128 ≤ i → get_or last i 0 ≡ get_or first i 0

pub record Lays (r : Used) (at : ℕ) (first last : List ℕ) (w : Walked) : Type 0 where
  pub found : List ℕ
  pub laid : Laid at first last found
  pub holds : Walks r found w
