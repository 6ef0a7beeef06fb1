-- What raising a successor does to the columns, case by case: it is raised and joins the queue, the queue has no room, or its number is as large
-- already; two successors one after the other; and the entries that are skipped.
-- Assumes nothing.
use Rattle.std.specs.Prelude.{Result, Ok, Err, Some, None}
use Rattle.buffers.specs.declared.Unwalked.{Unwalked}
use Prim.Native.Nat.{ℕ, ◌+◌, ◌-◌, ◌≤◌, ◌<◌}
use native.Mathlib.Omega.{arith}
use mathlib.Core.Path.{◌≡◌, refl, ◌∙◌, ap, sym}
use mathlib.Core.List.{List, [], ◌∷◌, ◌++◌}
use lib.ListN.{length, get_or, set, length-set}
use lib.Seq.{get_or-set_same}
use borrow.Author.Tests.{lt-ltb, le-ltb}
use Rattle.buffers.specs.declared.Way.{Way}
use Rattle.buffers.specs.Tread.{Leads}
use Rattle.buffers.specs.Walk.{Entry, entry, Outcome, go, raise, follow}
use Rattle.buffers.proofs.Queue.{raise_new, raise_full, raise_kept, follow_ends, follow_astray, follow_goes, follow_forks_go}
use Rattle.pool.specs.Columns.{seat_of, waiting, Ready, stopped, Raises, Turns, skipped, Firsts}
use Rattle.pool.proofs.Waiting.{seat_lt, waiting_joined, waiting_first, waiting_length, waiting_none}

module _ (numbers places carried : List ℕ) (head count sum to : ℕ) (ready : Ready numbers places carried head count) where
  abbrev before : Outcome
  before = raise (length places) numbers (waiting places carried head count) sum to

  pub raises_kept : (n : ℕ) → n ≡ get_or numbers to 0 → sum + 1 ≤ n → Raises (Ok tt) numbers places carried head count before
  unfolding Raises
  raises_kept n e h = (raise_kept (length places) numbers (waiting places carried head count) sum to (omega arith), ready)

  pub raises_full : (n : ℕ) → n ≡ get_or numbers to 0 → n < sum + 1 → length places ≤ count → Raises (Err Unwalked.QueueFull) numbers places carried head count before
  unfolding Raises
  raises_full n e h l = raise_full (length places) numbers (waiting places carried head count) sum to (omega arith) (omega (arith, waiting_length places carried head count))

  pub at_inside : (at : ℕ) → at ≡ seat_of (length places) head count → count < length places → at < length places
  at_inside at e l = rw e (seat_lt (length places) head ready.inside count (omega arith))

  pub raises_new : (n at : ℕ) → n ≡ get_or numbers to 0 → n < sum + 1 → count < length places → at ≡ seat_of (length places) head count
      → Raises (Ok tt) (set numbers to (sum + 1)) (set places at to) (set carried at sum) head (count + 1) before
  unfolding Raises
  raises_new n at e h l s =
      let m = length-set numbers to (sum + 1) in
      let p = length-set places at to in
      let c = length-set carried at sum in (
        raise_new (length places) numbers (waiting places carried head count) sum to (omega arith) (omega (arith, waiting_length places carried head count))
            ∙ ap (go (set numbers to (sum + 1))) (sym (rw s (waiting_joined places carried head ready.inside ready.alike count to sum l))),
        record { small = omega (arith, ready.small); alike = c ∙ ready.alike ∙ sym p; inside = omega (arith, ready.inside); few = omega arith },
      )

-- a raise leaves the queue ready
pub raised_ready : (first : Result (Unit {0}) Unwalked) (numbers places carried : List ℕ) (head count : ℕ) (o : Outcome) → first ≡ Ok tt → Raises first numbers places carried head count o → Ready numbers places carried head count
unfolding Raises
raised_ready first numbers places carried head count o e r = (rw e at r).1

-- two successors, of which the first found no room
forks_stop : (room : ℕ) (numbers : List ℕ) (queue : List Entry) (sum to next : ℕ) (unwalked : Unwalked) → raise room numbers queue sum to ≡ stopped unwalked
    → follow room numbers queue sum (Way.Forks to next) ≡ stopped unwalked
unfolding follow
forks_stop room numbers queue sum to next Unwalked.Undecodable e = rw e refl
forks_stop room numbers queue sum to next Unwalked.QueueFull e = rw e refl

-- a turn, by the way on: `before` entries waited
module _ (numbers places carried : List ℕ) (head before sum : ℕ) (way : Way) where
  abbrev queue : List Entry
  queue = waiting places carried head before

  abbrev follows : Outcome
  follows = follow (length places) numbers queue sum way

  pub turn_ends : Ready numbers places carried head before → way ≡ Way.Ends → Turns before sum (Ok None) numbers places carried head before follows
  unfolding Turns
  turn_ends r e = (rw e (follow_ends (length places) numbers queue sum), r)

  pub turn_astray : way ≡ Way.Astray → Turns before sum (Err Unwalked.Undecodable) numbers places carried head before follows
  unfolding Turns
  turn_astray e = rw e (follow_astray (length places) numbers queue sum)

  -- one successor
  module _ (to : ℕ) (goes : way ≡ Way.Goes to) where
    goes_is : follows ≡ raise (length places) numbers queue sum to
    goes_is = rw goes (follow_goes (length places) numbers queue sum to)

    -- while nothing waits: its number is as large already, or it is gone on with
    pub turn_kept : Ready numbers places carried head before → (n : ℕ) → n ≡ get_or numbers to 0 → sum + 1 ≤ n → Turns before sum (Ok None) numbers places carried head before follows
    unfolding Turns Raises
    turn_kept r n e h = rw goes_is (raises_kept numbers places carried head before sum to r n e h)

    pub turn_on : Ready numbers places carried head before → before ≡ 0 → (n : ℕ) → n ≡ get_or numbers to 0 → n < sum + 1 → to < length numbers
        → Turns before sum (Ok (Some to)) (set numbers to (sum + 1)) places carried head before follows
    unfolding Turns
    turn_on r z n e h t =
        let m = length-set numbers to (sum + 1) in
        let q : queue ≡ [] = ap (waiting places carried head) z ∙ waiting_none places carried head in (
          z,
          (
            z,
            (
              goes_is ∙ raise_new (length places) numbers queue sum to (omega arith) (omega (arith, waiting_length places carried head before, r.inside))
                  ∙ ap (λ (l : List Entry). go (set numbers to (sum + 1)) (l ++ (entry to sum ∷ []))) q,
              (get_or-set_same numbers to (sum + 1) 0 t, record { small = omega (arith, r.small); alike = r.alike; inside = r.inside; few = r.few }),
            ),
          ),
        )

    module _ (done : Result (Unit {0}) Unwalked) (numbers' places' carried' : List ℕ) (head' count' : ℕ) (raises : Raises done numbers' places' carried' head' count' (raise (length places) numbers queue sum to)) where
      pub turn_raised : done ≡ Ok tt → Turns before sum (Ok None) numbers' places' carried' head' count' follows
      unfolding Turns Raises
      turn_raised e = rw goes_is (rw e at raises)

      pub turn_full : (unwalked : Unwalked) → done ≡ Err unwalked → Turns before sum (Err unwalked) numbers' places' carried' head' count' follows
      unfolding Turns Raises
      turn_full unwalked e = rw goes_is (rw e at raises)

  -- two successors, one after the other
  module _ (to next : ℕ) (forks : way ≡ Way.Forks to next) (first : Result (Unit {0}) Unwalked) (n p c : List ℕ) (h k : ℕ) (raises : Raises first n p c h k (raise (length places) numbers queue sum to)) where
    pub first_full : (unwalked : Unwalked) → first ≡ Err unwalked → Turns before sum (Err unwalked) n p c h k follows
    unfolding Turns Raises
    first_full unwalked e = rw forks (forks_stop (length places) numbers queue sum to next unwalked (rw e at raises))

    module _ (went : first ≡ Ok tt) (same : length p ≡ length places) (second : Result (Unit {0}) Unwalked) (n' p' c' : List ℕ) (h' k' : ℕ) (again : Raises second n' p' c' h' k' (raise (length p) n (waiting p c h k) sum next)) where
      forks_is : follows ≡ raise (length p) n (waiting p c h k) sum next
      unfolding Raises
      forks_is = rw (forks, same) (follow_forks_go (length places) numbers queue sum to next n (waiting p c h k) (rw went at raises).0)

      pub both_raised : second ≡ Ok tt → Turns before sum (Ok None) n' p' c' h' k' follows
      unfolding Turns Raises
      both_raised e = rw forks_is (rw e at again)

      pub second_full : (unwalked : Unwalked) → second ≡ Err unwalked → Turns before sum (Err unwalked) n' p' c' h' k' follows
      unfolding Turns Raises
      second_full unwalked e = rw forks_is (rw e at again)

-- what a way on asks of the columns
pub leads_goes : (n x sum : ℕ) (way : Way) (to : ℕ) → way ≡ Way.Goes to → Leads n x sum way → (to < n) × (sum ≤ x)
leads_goes n x sum way to e l = rw e at l

-- ---- the entries that are skipped
module _ (numbers : List ℕ) (e : Entry) (queue : List Entry) where
  pub skips : e.held + 1 < get_or numbers e.offset 0 → skipped numbers (e ∷ queue) ≡ skipped numbers queue
  unfolding skipped
  skips h = rw (lt-ltb (e.held + 1) (get_or numbers e.offset 0) h)

  pub takes : get_or numbers e.offset 0 ≤ e.held + 1 → skipped numbers (e ∷ queue) ≡ e ∷ queue
  unfolding skipped
  takes h = rw (le-ltb (e.held + 1) (get_or numbers e.offset 0) h)

pub skipped_none : (numbers : List ℕ) → skipped numbers [] ≡ []
unfolding skipped
skipped_none numbers = refl

-- the queue from head on gives what the whole gives
pub record Skipping (numbers places carried : List ℕ) (whole : List Entry) (head count : ℕ) : Type 0 where
  pub ready : Ready numbers places carried head count
  pub rest : skipped numbers (waiting places carried head count) ≡ skipped numbers whole

pub skipping_first : (numbers places carried : List ℕ) (from waits : ℕ) → Ready numbers places carried from waits → Skipping numbers places carried (waiting places carried from waits) from waits
skipping_first numbers places carried from waits r = record { ready = r; rest = refl }

module _ (numbers places carried : List ℕ) (whole : List Entry) (head count : ℕ) (s : Skipping numbers places carried whole head count) where
  pub skipping_end : count ≤ 0 → Firsts None numbers places carried head count whole
  unfolding Firsts
  skipping_end h =
      let z : count ≡ 0 = omega arith in
      sym s.rest ∙ ap (skipped numbers) (ap (waiting places carried head) z ∙ waiting_none places carried head) ∙ skipped_none numbers

  module _ (offset held next number : ℕ) (more : 0 < count) (is-offset : offset ≡ get_or places head 0) (is_held_lem : held ≡ get_or carried head 0) (is-next : next ≡ seat_of (length places) head 1) (is_number : number ≡ get_or numbers offset 0) where
    pops : waiting places carried head count ≡ entry offset held ∷ waiting places carried next (count - 1)
    pops = rw (is-offset, is_held_lem, is-next) (waiting_first places carried head s.ready.inside s.ready.alike count more s.ready.few)

    onward : Ready numbers places carried next (count - 1)
    onward =
        let l : next < length places = rw is-next (seat_lt (length places) head s.ready.inside 1 (omega (arith, s.ready.inside))) in
        record { small = s.ready.small; alike = s.ready.alike; inside = l; few = omega (arith, s.ready.few) }

    pub skipping_takes : number ≤ held + 1 → held < 65536 → Firsts (Some (record { offset = offset; held = held })) numbers places carried next (count - 1) whole
    unfolding Firsts
    skipping_takes h l =
        (sym s.rest ∙ ap (skipped numbers) pops ∙ takes numbers (entry offset held) (waiting places carried next (count - 1)) (omega arith), (omega arith, (onward, l)))

    pub skipping_on : held + 1 < number → Skipping numbers places carried whole next (count - 1)
    skipping_on h =
        record { ready = onward; rest = sym (skips numbers (entry offset held) (waiting places carried next (count - 1)) (omega arith)) ∙ ap (skipped numbers) (sym pops) ∙ s.rest }
