-- What putting a successor does to the columns, case by case: it gets a depth and joins the queue, it has that depth already, or 8.
-- Assumes nothing.
use Rattle.std.specs.Prelude.{Result, Ok, Err, Some}
use Prim.Native.Nat.{ℕ, ◌+◌, ◌-◌, ◌≤◌, ◌<◌}
use native.Mathlib.Numerals.{add-one}
use native.Mathlib.Omega.{arith}
use mathlib.Core.Path.{◌≡◌, refl, ◌∙◌, ap, sym}
use mathlib.Core.Bool.{Bool, true, false, cond}
use mathlib.Core.List.{List, [], ◌∷◌, ◌++◌}
use lib.Dec.{eqb}
use lib.ListN.{length, get_or, set, take, length-set}
use lib.Seq.{take-suc-set, get_or-set_same}
use borrow.Author.Tests.{eqb-true, eqb-false}
use Rattle.rules.specs.declared.Onward.TheVariants.{Leaves, Goes, Forks}
use Rattle.rules.specs.declared.Violation.{Violation}
use Rattle.rules.specs.Look.{Effects, look_of, Bounded, Look}
use Rattle.rules.specs.Walk.{stop, go, put}
use Rattle.rules.proofs.Bound.{look_bounded}
use Rattle.rules.proofs.Counting.{count_room, count_set}
use Rattle.rules.proofs.Queue.{put_new, put_same, put_clash}
use Rattle.stack.specs.declared.queue.Meeting.{Meeting}
use Rattle.stack.specs.Columns.{meet_of, Ready, Puts, Turns, Fitting}

-- what each meeting says of the depth on record, and of the definition
abbrev Says : List ℕ → List ℕ → ℕ → ℕ → Result Meeting Violation → Type 0
Says d q to out (Ok Meeting.New) = get_or d to 0 ≡ 0
Says d q to out (Ok Meeting.Same) = get_or d to 0 ≡ out + 1
Says d q to out (Err v) = put d q to out ≡ stop v

says_by : (d q : List ℕ) (to out : ℕ) (b1 b2 : Bool) → eqb (get_or d to 0) 0 ≡ b1 → eqb (get_or d to 0) (out + 1) ≡ b2
    → Says d q to out (cond b1 (Ok Meeting.New) (cond b2 (Ok Meeting.Same) (Err (Violation.MergeConflict to (get_or d to 0 - 1) out))))
says_by d q to out true b2 e1 e2 = eqb-true (get_or d to 0) 0 e1
says_by d q to out false true e1 e2 = eqb-true (get_or d to 0) (out + 1) e2
says_by d q to out false false e1 e2 = put_clash d q to out (eqb-false (get_or d to 0) 0 e1) (eqb-false (get_or d to 0) (out + 1) e2)

pub says : (d q : List ℕ) (to out : ℕ) (m : Result Meeting Violation) → m ≡ meet_of d to out → Says d q to out m
unfolding meet_of
says d q to out m e = rw e (says_by d q to out (eqb (get_or d to 0) 0) (eqb (get_or d to 0) (out + 1)) refl refl)

module _ (d q : List ℕ) (tail to out : ℕ) (ready : Ready d q tail) (within : to < length d) where
  -- the queue has room for one that gets a depth
  pub room : get_or d to 0 ≡ 0 → tail < length q
  room e = let r = count_room d to within e in omega (arith, ready)

  -- one more has a depth
  pub ready_on : get_or d to 0 ≡ 0 → Ready (set d to (out + 1)) q (tail + 1)
  ready_on e =
      let k = count_set d to out within e in
      let n = length-set d to (out + 1) in
      record { small = omega (arith, ready); room = omega (arith, ready); counted = omega (arith, ready) }

  -- before it joins
  pub ready_still : get_or d to 0 ≡ 0 → Ready (set d to (out + 1)) q tail
  ready_still e =
      let r = ready_on e in
      record { small = r.small; room = r.room; counted = omega (arith, r) }

  pub put_joins : get_or d to 0 ≡ 0 → Puts tail (Ok tt) (tail + 1) (set d to (out + 1)) (set q tail to) (put d (take tail q) to out)
  put_joins e =
      let t : take (tail + 1) (set q tail to) ≡ take tail q ++ (to ∷ []) = ap (λ (n : ℕ). take n (set q tail to)) (add-one tail) ∙ take-suc-set q tail to (room e) in
      let r = ready_on e in
      let n = length-set q tail to in
      (put_new d (take tail q) to out e ∙ ap (go (set d to (out + 1))) (sym t), (record { small = r.small; room = omega (arith, r); counted = r.counted }, omega arith))

  pub put_stays : get_or d to 0 ≡ out + 1 → Puts tail (Ok tt) tail d q (put d (take tail q) to out)
  put_stays e = (put_same d (take tail q) to out e, (ready, omega arith))

  -- a single successor of an empty queue
  pub put_on : out < 65536 → get_or d to 0 ≡ 0 → Turns true tail q (Ok (Some (record { offset = to; depth = out }))) tail (set d to (out + 1)) q (put d (take tail q) to out)
  put_on small e =
      (refl, (refl, (put_new d (take tail q) to out e, (refl, (get_or-set_same d to (out + 1) 0 within, (small, ready_still e))))))

-- a wider bound on depths
bounded_le : (n x y : ℕ) (seen : Look) → x ≤ y → Bounded n x seen → Bounded n y seen
bounded_le n x y (Err v) l h = tt
bounded_le n x y (Ok Leaves) l h = tt
bounded_le n x y (Ok (Goes out to)) l h = (h.0, omega arith)
bounded_le n x y (Ok (Forks out to next)) l h = (h.0, (h.1.0, omega arith))

-- what a look asks of the columns is there
pub look_fits : (known : Effects) (marks body : List ℕ) (maximum offset depth n : ℕ) (seen : Look) → Fitting marks body → n ≡ length body + 1 → maximum ≤ 65535 → seen ≡ look_of known marks body maximum offset depth → Bounded n 65535 seen
look_fits known marks body maximum offset depth n seen f e m s =
    rw (e, s) (bounded_le (length body + 1) maximum 65535 (look_of known marks body maximum offset depth) m (look_bounded known marks body maximum f offset depth))
