-- The walk's loop over its columns, for any rules within the pool: the definition, run from the entry in hand and what waits in the queue, gives what
-- it gives from the start. A law for each way that a turn can go. The turns that are left are as many as the definition has left: what can still be
-- raised bounds them.
-- Assumes nothing.
use Rattle.std.specs.Prelude.{max, Some, None, Ok, Err}
use Prim.Native.Nat.{ℕ, zero, suc, ◌+◌, ◌*◌, ◌≤◌, ◌<◌}
use native.Mathlib.Omega.{arith}
use mathlib.Core.Path.{◌≡◌, refl, ◌∙◌, ap, ap₂, sym}
use mathlib.Core.Bool.{Bool, true, false, cond}
use mathlib.Core.List.{List, [], ◌∷◌}
use lib.Dec.{ltb}
use lib.ListN.{length, get_or, take}
use borrow.Author.Tests.{ltb-true, ltb-false}
use Rattle.cells.specs.Zeros.{zeros, length_zeros, any_zero}
use Rattle.buffers.specs.declared.Way.{Way}
use Rattle.buffers.specs.declared.Tread.{Tread}
use Rattle.buffers.specs.declared.Unwalked.{Unwalked}
use Rattle.buffers.specs.Tread.{Leads, Bounded}
use Rattle.buffers.specs.Walk.{Entry, entry, Outcome, astray, full, go, follow, Usage, noted, used, unused, Walked, walked, walk_from, begun, turns_of, walk_of, slack, used_of, callees_of, uses}
use Rattle.buffers.proofs.Queue.{walk_done, walk_stale, walk_astray, walk_full, walk_goes, walk_begun, turns_are, length_begun, begun_first, slack_begun}
use Rattle.buffers.proofs.Turns.{follow_less}
use Rattle.pool.specs.declared.ring.Waiting.{Waiting}
use Rattle.pool.specs.Columns.{waiting, Ready, stopped, Turns, skipped, Firsts, Listed, RowHolds, Walks}
use Rattle.pool.proofs.Waiting.{waiting_length, waiting_none}
use Rattle.pool.proofs.Raising.{skips, takes, skipped_none}

abbrev found : ℕ → ℕ → List ℕ → Usage
found weight peak callees = record { weight = weight; peak = peak; callees = callees }

-- a rule that leads on below n and within the pool, and opens one of 128 functions
pub record Lawful (rule : ℕ → ℕ → Tread) (pool n : ℕ) : Type 0 where
  pub leads : (offset held : ℕ) → Bounded n pool (rule offset held)
  pub opens : (offset held : ℕ) → (rule offset held).opens ≤ 128

pub record Walking (rule : ℕ → ℕ → Tread) (room pool n : ℕ) (numbers places carried row : List ℕ) (head count offset held weight peak met : ℕ) : Type 0 where
  pub long : length numbers ≡ n
  pub capacity : length places ≡ room
  pub ready : Ready numbers places carried head count
  pub fresh : get_or numbers offset 0 ≤ held + 1
  pub small : held < 65536
  pub listed : Listed row met
  pub left : ℕ
  pub enough : 2 * slack pool numbers + count + 2 ≤ left
  pub goes_on : walk_from rule room left numbers (entry offset held ∷ waiting places carried head count) (found weight peak (take met row)) ≡ walk_of rule room pool n

pub walking_first : (rule : ℕ → ℕ → Tread) (room pool n : ℕ) (numbers places carried row : List ℕ) → numbers ≡ begun n → 0 < n → n ≤ 65536 → 0 < room → length places ≡ room → length carried ≡ room → row ≡ zeros 128
    → Walking rule room pool n numbers places carried row 0 0 0 0 0 0 0
walking_first rule room pool n numbers places carried row e p l r c d z =
    let k = length_begun n in
    let b = begun_first n p in
    let s = slack_begun pool n p in
    let t = turns_are n pool in
    rw e (record {
      long = k;
      capacity = c;
      ready = record { small = omega arith; alike = d ∙ sym c; inside = omega arith; few = omega arith };
      fresh = omega arith;
      small = omega arith;
      listed = record { wide = length_zeros row 128 z; within = omega arith; apart = tt; cells = λ x h. absurd (let y : ◌≡◌ {A = ℕ} 0 1 = cc in omega arith); blank = λ i h. any_zero row 128 z i };
      left = turns_of n pool;
      enough = omega arith;
      goes_on = ap (λ (q : List Entry). walk_from rule room (turns_of n pool) (begun n) (entry 0 0 ∷ q) unused) (waiting_none places carried 0) ∙ walk_begun rule room pool n;
    })

-- skipping takes a turn for each entry
skip_walk : (rule : ℕ → ℕ → Tread) (room : ℕ) (numbers : List ℕ) (queue : List Entry) (u : Usage) (left : ℕ) → length queue ≤ left
    → (k : ℕ) × ((left + length (skipped numbers queue) ≡ k + length queue) × (walk_from rule room left numbers queue u ≡ walk_from rule room k numbers (skipped numbers queue) u))
skip_walk rule room numbers [] u left l = (left, (rw (skipped_none numbers) refl, ap (λ (q : List Entry). walk_from rule room left numbers q u) (sym (skipped_none numbers))))
skip_walk rule room numbers (e ∷ queue) u zero l = absurd (omega arith)
skip_walk rule room numbers (e ∷ queue) u (suc left) l = by (ltb (e.held + 1) (get_or numbers e.offset 0)) refl (skip_walk rule room numbers queue u left (omega arith))
  where
    by : (b : Bool) → ltb (e.held + 1) (get_or numbers e.offset 0) ≡ b
        → (k : ℕ) × ((left + length (skipped numbers queue) ≡ k + length queue) × (walk_from rule room left numbers queue u ≡ walk_from rule room k numbers (skipped numbers queue) u))
        → (k : ℕ) × ((suc left + length (skipped numbers (e ∷ queue)) ≡ k + length (e ∷ queue)) × (walk_from rule room (suc left) numbers (e ∷ queue) u ≡ walk_from rule room k numbers (skipped numbers (e ∷ queue)) u))
    by true h r =
        let a : e.held + 1 < get_or numbers e.offset 0 = ltb-true (e.held + 1) (get_or numbers e.offset 0) h in
        let s = skips numbers e queue a in
        (r.0, (rw s (omega (arith, r.1.0)), walk_stale rule room left numbers e queue u a ∙ r.1.1 ∙ ap (λ (q : List Entry). walk_from rule room r.0 numbers q u) (sym s)))
    by false h r =
        let a : get_or numbers e.offset 0 ≤ e.held + 1 = ltb-false (e.held + 1) (get_or numbers e.offset 0) h in
        let s = takes numbers e queue a in
        (suc left, (rw s refl, ap (λ (q : List Entry). walk_from rule room (suc left) numbers q u) (sym s)))

leads_more : (n x y sum : ℕ) (way : Way) → x ≤ y → Leads n x sum way → Leads n y sum way
leads_more n x y sum Way.Ends l h = tt
leads_more n x y sum Way.Astray l h = tt
leads_more n x y sum (Way.Goes to) l h = (h.0, omega (arith, h.1))
leads_more n x y sum (Way.Forks to next) l h = (h.0, (h.1.0, omega (arith, h.1.1)))

larger : (a b : ℕ) → max a b ≡ cond (ltb a b) b a
larger a b = by (ltb a b) refl
  where
    by : (t : Bool) → ltb a b ≡ t → max a b ≡ cond t b a
    by true e = let l = ltb-true a b e in omega arith
    by false e = let l = ltb-false a b e in omega arith

-- what a tread adds to what was found
used_is : (offset weight peak weight' peak' : ℕ) (t : Tread) (callees callees' : List ℕ) → weight' ≡ cond (ltb weight t.sum) t.sum weight → peak' ≡ cond (ltb weight t.sum) offset peak → callees' ≡ noted t.opens callees
    → used offset t (found weight peak callees) ≡ found weight' peak' callees'
unfolding used
used_is offset weight peak weight' peak' t callees callees' w p c = rw (w, p, c) refl

some : (k : ℕ) → 0 < k → (m : ℕ) × (k ≡ suc m)
some zero h = absurd (omega arith)
some (suc m) h = (m, refl)

skipped_most : (numbers : List ℕ) (queue : List Entry) → length (skipped numbers queue) ≤ length queue
skipped_most numbers [] = rw (skipped_none numbers) (omega arith)
skipped_most numbers (e ∷ queue) = by (ltb (e.held + 1) (get_or numbers e.offset 0)) refl (skipped_most numbers queue)
  where
    by : (b : Bool) → ltb (e.held + 1) (get_or numbers e.offset 0) ≡ b → length (skipped numbers queue) ≤ length queue → length (skipped numbers (e ∷ queue)) ≤ length (e ∷ queue)
    by true h r = rw (skips numbers e queue (ltb-true (e.held + 1) (get_or numbers e.offset 0) h)) (omega arith)
    by false h r = rw (takes numbers e queue (ltb-false (e.held + 1) (get_or numbers e.offset 0) h)) (omega arith)

skipped_le : (numbers : List ℕ) (queue : List Entry) (a b : ℕ) → length (skipped numbers queue) ≡ a → length queue ≡ b → a ≤ b
skipped_le numbers queue a b x y = let m = skipped_most numbers queue in omega arith

-- what joined an empty queue is within the pool
grown_within : (room : ℕ) (numbers : List ℕ) (sum : ℕ) (way : Way) (n pool : ℕ) (numbers' : List ℕ) (e : Entry) (q : List Entry) → Leads n pool sum way → follow room numbers [] sum way ≡ go numbers' (e ∷ q) → sum ≤ pool
unfolding follow
grown_within room numbers sum Way.Ends n pool numbers' e q l h = cc
grown_within room numbers sum Way.Astray n pool numbers' e q l h = cc
grown_within room numbers sum (Way.Goes to) n pool numbers' e q l h = l.1
grown_within room numbers sum (Way.Forks to next) n pool numbers' e q l h = l.1.1

-- 22 and 23 leave nothing more to say of the row
pub walks_stopped : (unwalked : Unwalked) (row : List ℕ) (w : Walked) → Err unwalked ≡ used_of w → Walks (Err unwalked) row w
unfolding Walks RowHolds
walks_stopped unwalked row w e = (e, tt)

-- what a turn knows once it has treaded the entry in hand: row', met', weight' and peak' are what was found, this tread among it
pub record Trod (rule : ℕ → ℕ → Tread) (room pool n : ℕ) (numbers places carried row : List ℕ) (head count offset held weight peak met : ℕ) (t : Tread) (row' : List ℕ) (met' weight' peak' : ℕ) : Type 0 where
  pub lawful : Lawful rule pool n
  pub walking : Walking rule room pool n numbers places carried row head count offset held weight peak met
  pub treads : t ≡ rule offset held
  pub lists : Listed row' met'
  pub notes : take met' row' ≡ noted t.opens (take met row)
  pub weighs : weight' ≡ max weight t.sum
  pub peaks : peak' ≡ cond (ltb weight t.sum) offset peak

pub tread_opens : (rule : ℕ → ℕ → Tread) (pool n : ℕ) → Lawful rule pool n → (offset held : ℕ) (t : Tread) → t ≡ rule offset held → t.opens ≤ 128
tread_opens rule pool n lawful offset held t is = rw is (lawful.opens offset held)

-- what the columns must bear
pub tread_leads : (rule : ℕ → ℕ → Tread) (room pool n : ℕ) → Lawful rule pool n → (numbers places carried row : List ℕ) (head count offset held weight peak met : ℕ)
    → Walking rule room pool n numbers places carried row head count offset held weight peak met → (t : Tread) → t ≡ rule offset held → pool < 65535 → Leads (length numbers) 65535 t.sum t.way
tread_leads rule room pool n lawful numbers places carried row head count offset held weight peak met w t is h =
    leads_more (length numbers) pool 65535 t.sum t.way (omega arith) (rw (w.long, is) (lawful.leads offset held))

module _ {rule : ℕ → ℕ → Tread} {room pool n : ℕ} {numbers places carried row : List ℕ} {head count offset held weight peak met : ℕ} {t : Tread} {row' : List ℕ} {met' weight' peak' : ℕ}
    (d : Trod rule room pool n numbers places carried row head count offset held weight peak met t row' met' weight' peak') where
  abbrev w : Walking rule room pool n numbers places carried row head count offset held weight peak met
  w = d.walking

  abbrev queue : List Entry
  queue = waiting places carried head count

  abbrev outcome : Outcome
  outcome = follow (length places) numbers queue t.sum t.way

  leads_on : Leads (length numbers) pool t.sum t.way
  leads_on = rw (w.long, d.treads) (d.lawful.leads offset held)

  there : (o : Outcome) → outcome ≡ o → follow room numbers queue (rule offset held).sum (rule offset held).way ≡ o
  there o e = ap₂ (λ (c : ℕ) (x : Tread). follow c numbers queue x.sum x.way) (sym w.capacity) (sym d.treads) ∙ e

  step : (o : Outcome) → outcome ≡ o → (k : ℕ) × (w.left ≡ suc k)
  step o e = by w.left w.enough
    where
      by : (l : ℕ) → 2 * slack pool numbers + count + 2 ≤ l → (k : ℕ) × (l ≡ suc k)
      by zero h = absurd (omega arith)
      by (suc k) h = (k, refl)

  -- 22 and 23
  pub walking_stopped : (unwalked : Unwalked) → outcome ≡ stopped unwalked → Err unwalked ≡ used_of (walk_of rule room pool n)
  walking_stopped Unwalked.Undecodable e =
      let s = step astray e in
      ap used_of (sym (walk_astray rule room s.0 numbers offset held queue (found weight peak (take met row)) w.fresh (there astray e)) ∙ ap (λ (k : ℕ). walk_from rule room k numbers (entry offset held ∷ queue) (found weight peak (take met row))) (sym s.1) ∙ w.goes_on)
  walking_stopped Unwalked.QueueFull e =
      let s = step full e in
      ap used_of (sym (walk_full rule room s.0 numbers offset held queue (found weight peak (take met row)) w.fresh (there full e)) ∙ ap (λ (k : ℕ). walk_from rule room k numbers (entry offset held ∷ queue) (found weight peak (take met row))) (sym s.1) ∙ w.goes_on)

  -- and the walk's answer
  pub walking_stops : (numbers' places' carried' : List ℕ) (head' count' : ℕ) (unwalked : Unwalked) → Turns count t.sum (Err unwalked) numbers' places' carried' head' count' outcome → Walks (Err unwalked) row' (walk_of rule room pool n)
  unfolding Turns
  walking_stops numbers' places' carried' head' count' unwalked e = walks_stopped unwalked row' (walk_of rule room pool n) (walking_stopped unwalked e)

  module _ (numbers' : List ℕ) where
    is-weight : weight' ≡ cond (ltb weight t.sum) t.sum weight
    is-weight = d.weighs ∙ larger weight t.sum

    -- the walk goes on with so many turns
    goes : (q : List Entry) → outcome ≡ go numbers' q
        → (k : ℕ) × ((w.left ≡ suc k) × (walk_from rule room k numbers' q (found weight' peak' (take met' row')) ≡ walk_of rule room pool n))
    goes q e =
        let s = step (go numbers' q) e in (
          s.0,
          (
            s.1,
            ap (walk_from rule room s.0 numbers' q) (sym (used_is offset weight peak weight' peak' (rule offset held) (take met row) (take met' row') (rw (← d.treads) is-weight) (rw (← d.treads) d.peaks) (rw (← d.treads) d.notes)))
                ∙ sym (walk_goes rule room s.0 numbers offset held queue (found weight peak (take met row)) w.fresh numbers' q (there (go numbers' q) e))
                ∙ ap (λ (k : ℕ). walk_from rule room k numbers (entry offset held ∷ queue) (found weight peak (take met row))) (sym s.1) ∙ w.goes_on,
          ),
        )

    less : (q : List Entry) → outcome ≡ go numbers' q → (length numbers' ≡ length numbers) × (2 * slack pool numbers' + length q ≤ 2 * slack pool numbers + length queue)
    less q e = follow_less (length places) pool t.sum numbers queue t.way leads_on numbers' q e

    module _ (places' carried' : List ℕ) (head' : ℕ) (same : length places' ≡ length places) where
      -- at once, where nothing waited
      pub walking_on : pool < 65535 → (count' to : ℕ) → Turns count t.sum (Ok (Some to)) numbers' places' carried' head' count' outcome
          → Walking rule room pool n numbers' places' carried' row' head' count' to t.sum weight' peak' met' × (2 * slack pool numbers' + count' < 2 * slack pool numbers + count)
      unfolding Turns
      walking_on p count' to (z, (z', (e, (f, r)))) =
          let g = goes (entry to t.sum ∷ []) e in
          let l = less (entry to t.sum ∷ []) e in
          let q = waiting_length places carried head count in
          let none : waiting places carried head count ≡ [] = ap (waiting places carried head) z ∙ waiting_none places carried head in
          let s = grown_within (length places) numbers t.sum t.way (length numbers) pool numbers' (entry to t.sum) [] leads_on (ap (λ (x : List Entry). follow (length places) numbers x t.sum t.way) (sym none) ∙ e) in
          let empty : waiting places' carried' head' count' ≡ [] = ap (waiting places' carried' head') z' ∙ waiting_none places' carried' head' in (
            record {
              long = l.0 ∙ w.long;
              capacity = same ∙ w.capacity;
              ready = r;
              fresh = omega arith;
              small = omega arith;
              listed = d.lists;
              left = g.0;
              enough = omega (arith, w.enough, g.1.0, l.1);
              goes_on = ap (λ (x : List Entry). walk_from rule room g.0 numbers' (entry to t.sum ∷ x) (found weight' peak' (take met' row'))) empty ∙ g.1.1;
            },
            omega (arith, l.1),
          )

      module _ (waits : ℕ) (turn : Turns count t.sum (Ok None) numbers' places' carried' head' waits outcome) where
        pub walking_ready : Ready numbers' places' carried' head' waits
        unfolding Turns
        walking_ready = turn.1

        out : outcome ≡ go numbers' (waiting places' carried' head' waits)
        unfolding Turns
        out = turn.0

        skip : (g : (k : ℕ) × ((w.left ≡ suc k) × (walk_from rule room k numbers' (waiting places' carried' head' waits) (found weight' peak' (take met' row')) ≡ walk_of rule room pool n)))
            → (k : ℕ) × ((g.0 + length (skipped numbers' (waiting places' carried' head' waits)) ≡ k + waits) × ((suc waits ≤ g.0) × (walk_from rule room k numbers' (skipped numbers' (waiting places' carried' head' waits)) (found weight' peak' (take met' row')) ≡ walk_of rule room pool n)))
        skip g =
            let l = less (waiting places' carried' head' waits) out in
            let q = waiting_length places carried head count in
            let q' = waiting_length places' carried' head' waits in
            let enough : suc waits ≤ g.0 = omega (arith, w.enough, g.1.0, l.1) in
            let s = skip_walk rule room numbers' (waiting places' carried' head' waits) (found weight' peak' (take met' row')) g.0 (omega arith) in
            (s.0, (omega (arith, s.1.0), (enough, sym s.1.1 ∙ g.1.1)))

        -- nothing waits
        pub walking_done : (places'' carried'' : List ℕ) (from many : ℕ) → Firsts None numbers' places'' carried'' from many (waiting places' carried' head' waits) → Walks (uses weight' peak') row' (walk_of rule room pool n)
        unfolding Firsts Walks RowHolds
        walking_done places'' carried'' from many f =
            let g = goes (waiting places' carried' head' waits) out in
            let s = skip g in
            let z : length (skipped numbers' (waiting places' carried' head' waits)) ≡ 0 = ap length f in
            let k = some s.0 (omega (arith, s.1.0, s.1.1.0)) in
            let e : walked numbers' (found weight' peak' (take met' row')) ≡ walk_of rule room pool n =
            sym (walk_done rule room k.0 numbers' (found weight' peak' (take met' row'))) ∙ ap₂ (λ (m : ℕ) (x : List Entry). walk_from rule room m numbers' x (found weight' peak' (take met' row'))) (sym k.1) (sym f) ∙ s.1.1.1 in
            (ap used_of e, (met', (d.lists, ap callees_of e)))

        -- the first that is not skipped
        pub walking_next : (places'' carried'' : List ℕ) (from many : ℕ) (e : Waiting) → length places'' ≡ length places' → Firsts (Some e) numbers' places'' carried'' from many (waiting places' carried' head' waits)
            → Walking rule room pool n numbers' places'' carried'' row' from many e.offset e.held weight' peak' met' × (2 * slack pool numbers' + many < 2 * slack pool numbers + count)
        unfolding Firsts
        walking_next places'' carried'' from many e same' (f, (h, (r, b))) =
            let g = goes (waiting places' carried' head' waits) out in
            let l = less (waiting places' carried' head' waits) out in
            let q = waiting_length places carried head count in
            let q' = waiting_length places' carried' head' waits in
            let q'' = waiting_length places'' carried'' from many in
            let s = skip g in
            let z : length (skipped numbers' (waiting places' carried' head' waits)) ≡ suc many = ap length f ∙ ap suc q'' in
            let m : suc many ≤ waits = skipped_le numbers' (waiting places' carried' head' waits) (suc many) waits z q' in (
              record {
                long = l.0 ∙ w.long;
                capacity = same' ∙ same ∙ w.capacity;
                ready = r;
                fresh = h;
                small = b;
                listed = d.lists;
                left = s.0;
                enough = omega (arith, w.enough, g.1.0, l.1, s.1.0);
                goes_on = ap (λ (x : List Entry). walk_from rule room s.0 numbers' x (found weight' peak' (take met' row'))) (sym f) ∙ s.1.1.1;
              },
              omega (arith, l.1),
            )
