-- The walk's queue as a column holds it. `queue` is a column of which the cells from `head` to `tail` wait, and `offset` is held beside it, so the
-- walk's own queue is `offset ∷ drop head (take tail queue)`. A law for each way that a turn of a loop over such a column can go.
-- Assumes nothing.
use Rattle.std.specs.Prelude.{Ok, Err}
use mathlib.Core.Path.{◌≡◌, refl, sym, ap, ◌∙◌}
use mathlib.Core.Bool.{Bool, true, false, cond}
use mathlib.Core.List.{List, [], ◌∷◌, ◌++◌}
use Prim.Native.Nat.{ℕ, zero, suc, ◌+◌, ◌-◌, ◌≤◌, ◌<◌}
use native.Mathlib.Numerals.{add-one}
use native.Mathlib.Omega.{arith}
use lib.ListN.{length, get_or, set, take, drop, length-append, drop_of_length-le}
use lib.Seq.{drop-cons, drop-append-le, length-take-le, get_or-take}
use lib.Dec.{eqb}
use borrow.Author.Tests.{eq-eqb, ne_eqb}
use Rattle.rules.specs.declared.Onward.TheVariants.{Leaves, Goes, Forks}
use Rattle.rules.specs.declared.Violation.{Violation}
use Rattle.rules.specs.Walk.{Outcome, stop, go, then, ended, put, follow, walk_from, begun, walk_of}
use Rattle.rules.specs.Look.{Look}

-- The three ways of a successor.
module _ (depths queue : List ℕ) (to out : ℕ) where
  pub put_new : get_or depths to 0 ≡ 0 → put depths queue to out ≡ go (set depths to (out + 1)) (queue ++ (to ∷ []))
  unfolding put
  put_new e = simp (eq-eqb _ _ e)

  pub put_same : get_or depths to 0 ≡ out + 1 → put depths queue to out ≡ go depths queue
  unfolding put
  put_same e = let n : get_or depths to 0 ≡ 0 → ⊥ = λ z. omega arith in simp (ne_eqb _ _ n, eq-eqb _ _ e)

  pub put_clash : (get_or depths to 0 ≡ 0 → ⊥) → (get_or depths to 0 ≡ out + 1 → ⊥) → put depths queue to out ≡ stop (Violation.MergeConflict to (get_or depths to 0 - 1) out)
  unfolding put
  put_clash n m = simp (ne_eqb _ _ n, ne_eqb _ _ m)

-- The successors, one law for each kind of look: branch target before next instruction.
module _ (depths queue : List ℕ) where
  pub follow_bad : (v : Violation) → follow depths queue (Err v) ≡ stop v
  unfolding follow
  follow_bad v = refl

  pub follow_leaves : follow depths queue (Ok Leaves) ≡ go depths queue
  unfolding follow
  follow_leaves = refl

  pub follow_goes : (out to : ℕ) → follow depths queue (Ok (Goes out to)) ≡ put depths queue to out
  unfolding follow
  follow_goes out to = refl

  pub follow_forks_stop : (out to next : ℕ) (v : Violation) → put depths queue to out ≡ stop v → follow depths queue (Ok (Forks out to next)) ≡ stop v
  unfolding follow
  follow_forks_stop out to next v e = rw e

  pub follow_forks_go : (out to next : ℕ) (d q : List ℕ) → put depths queue to out ≡ go d q → follow depths queue (Ok (Forks out to next)) ≡ put d q next out
  unfolding follow
  follow_forks_go out to next d q e = rw e

-- What is done to a queue is done to the part of it that is left: a queue only grows at its end.
abbrev pub left : ℕ → Outcome → Outcome
left h (stop v) = stop v
left h (go d q) = go d (drop h q)

put_left : (d q : List ℕ) (to out h : ℕ) → h ≤ length q → put d (drop h q) to out ≡ left h (put d q to out)
unfolding put
put_left d q to out h l = by (eqb (get_or d to 0) 0) (eqb (get_or d to 0) (out + 1))
  where
    by : (s u : Bool)
        → cond s (go (set d to (out + 1)) (drop h q ++ (to ∷ []))) (cond u (go d (drop h q)) (stop (Violation.MergeConflict to (get_or d to 0 - 1) out)))
        ≡ left h (cond s (go (set d to (out + 1)) (q ++ (to ∷ []))) (cond u (go d q) (stop (Violation.MergeConflict to (get_or d to 0 - 1) out))))
    by true u = ap (λ (v : List ℕ). go (set d to (out + 1)) v) (sym (drop-append-le h q (to ∷ []) l))
    by false true = refl
    by false false = refl

-- and it is no shorter after
put_grows : (d q : List ℕ) (to out : ℕ) (d' q' : List ℕ) → put d q to out ≡ go d' q' → length q ≤ length q'
unfolding put
put_grows d q to out d' q' e = by (eqb (get_or d to 0) 0) (eqb (get_or d to 0) (out + 1)) e
  where
    by : (s u : Bool) → cond s (go (set d to (out + 1)) (q ++ (to ∷ []))) (cond u (go d q) (stop (Violation.MergeConflict to (get_or d to 0 - 1) out))) ≡ go d' q' → length q ≤ length q'
    by true u g = let s : q ++ (to ∷ []) ≡ q' = cc in omega (arith, simp length-append at (ap length s))
    by false true g = let s : q ≡ q' = cc in omega (arith, ap length s)
    by false false g = absurd (let z : ◌≡◌ {A = ℕ} 0 1 = cc in omega arith)

pub follow_left : (d q : List ℕ) (L : Look) (h : ℕ) → h ≤ length q → follow d (drop h q) L ≡ left h (follow d q L)
unfolding follow
follow_left d q (Err v) h l = refl
follow_left d q (Ok Leaves) h l = refl
follow_left d q (Ok (Goes out to)) h l = put_left d q to out h l
follow_left d q (Ok (Forks out to next)) h l = rw (put_left d q to out h l) (second (put d q to out) refl)
  where
    second : (o : Outcome) → put d q to out ≡ o → then (left h o) (λ d' q'. put d' q' next out) ≡ left h (then o (λ d' q'. put d' q' next out))
    second (stop v) e = refl
    second (go d' q') e = let g = put_grows d q to out d' q' e in put_left d' q' next out h (omega arith)

-- the first that waits
first_waiting : (queue : List ℕ) (head tail : ℕ) → tail ≤ length queue → head < tail → drop head (take tail queue) ≡ get_or queue head 0 ∷ drop (head + 1) (take tail queue)
first_waiting queue head tail room h =
    let e = length-take-le tail queue room in
    drop-cons (take tail queue) head 0 (omega arith) ∙ rw (get_or-take tail queue head 0 h, add-one head)

-- nothing waits
none_waiting : (queue : List ℕ) (head tail : ℕ) → tail ≤ length queue → tail ≤ head → drop head (take tail queue) ≡ []
none_waiting queue head tail room h = let e = length-take-le tail queue room in drop_of_length-le (take tail queue) {i = head} (omega arith)

pub walk_empty : (rule : ℕ → ℕ → Look) (turns : ℕ) (depths : List ℕ) → walk_from rule turns depths [] ≡ Ok tt
unfolding walk_from
walk_empty rule zero depths = refl
walk_empty rule (suc turns) depths = refl

-- One turn: what the rules say of `offset` at `depth` is L.
module _ (rule : ℕ → ℕ → Look) (depths queue : List ℕ) (offset depth head tail : ℕ) (L : Look)
    (is-depth : depth ≡ get_or depths offset 0 - 1) (is-look : L ≡ rule offset depth) (order : head ≤ tail) (room : tail ≤ length queue) where
  turned : (turns : ℕ) → walk_from rule (suc turns) depths (offset ∷ drop head (take tail queue)) ≡ ended (left head (follow depths (take tail queue) L)) (λ d q. walk_from rule turns d q)
  unfolding walk_from
  turned turns = let g = length-take-le tail queue room in simp (← is-depth, ← is-look, follow_left depths (take tail queue) L head (omega arith))

  -- a violation
  pub turn_stop : (turns : ℕ) (v : Violation) → follow depths (take tail queue) L ≡ stop v → walk_from rule (suc turns) depths (offset ∷ drop head (take tail queue)) ≡ Err v
  turn_stop turns v e = turned turns ∙ rw e

  -- the next one that waits
  pub turn_go : (turns : ℕ) (d' queue' : List ℕ) (tail' : ℕ) → follow depths (take tail queue) L ≡ go d' (take tail' queue') → head < tail' → tail' ≤ length queue'
      → walk_from rule (suc turns) depths (offset ∷ drop head (take tail queue)) ≡ walk_from rule turns d' (get_or queue' head 0 ∷ drop (head + 1) (take tail' queue'))
  turn_go turns d' queue' tail' e h r = turned turns ∙ rw e (ap (λ (q : List ℕ). walk_from rule turns d' q) (first_waiting queue' head tail' r h))

  -- nothing waits
  pub turn_empty : (turns : ℕ) (d' queue' : List ℕ) (tail' : ℕ) → follow depths (take tail queue) L ≡ go d' (take tail' queue') → tail' ≤ head → tail' ≤ length queue'
      → walk_from rule (suc turns) depths (offset ∷ drop head (take tail queue)) ≡ Ok tt
  turn_empty turns d' queue' tail' e h r = turned turns ∙ rw e (ap (λ (q : List ℕ). walk_from rule turns d' q) (none_waiting queue' head tail' r h) ∙ walk_empty rule turns d')

  -- the only new successor of an empty queue, which need not enter it
  pub turn_on : (turns : ℕ) (d' : List ℕ) (to : ℕ) → head ≡ tail → follow depths (take tail queue) L ≡ go d' (take tail queue ++ (to ∷ []))
      → walk_from rule (suc turns) depths (offset ∷ drop head (take tail queue)) ≡ walk_from rule turns d' (to ∷ drop head (take tail queue))
  turn_on turns d' to h e =
      let l = length-take-le tail queue room in
      let n = none_waiting queue head tail room (omega arith) in
      turned turns ∙ rw (e, drop-append-le head (take tail queue) (to ∷ []) (omega arith), n)

  -- The same by a number of turns that falls to one less.
  pub loop_stop : (turns : ℕ) (v : Violation) → 0 < turns → follow depths (take tail queue) L ≡ stop v → walk_from rule turns depths (offset ∷ drop head (take tail queue)) ≡ Err v
  loop_stop zero v l e = absurd (omega arith)
  loop_stop (suc turns) v l e = turn_stop turns v e

  pub loop_go : (turns : ℕ) (d' queue' : List ℕ) (tail' : ℕ) → 0 < turns → follow depths (take tail queue) L ≡ go d' (take tail' queue') → head < tail' → tail' ≤ length queue'
      → walk_from rule turns depths (offset ∷ drop head (take tail queue)) ≡ walk_from rule (turns - 1) d' (get_or queue' head 0 ∷ drop (head + 1) (take tail' queue'))
  loop_go zero d' queue' tail' l e h r = absurd (omega arith)
  loop_go (suc turns) d' queue' tail' l e h r = let z : suc turns - 1 ≡ turns = omega arith in rw z (turn_go turns d' queue' tail' e h r)

  pub loop_empty : (turns : ℕ) (d' queue' : List ℕ) (tail' : ℕ) → 0 < turns → follow depths (take tail queue) L ≡ go d' (take tail' queue') → tail' ≤ head → tail' ≤ length queue'
      → walk_from rule turns depths (offset ∷ drop head (take tail queue)) ≡ Ok tt
  loop_empty zero d' queue' tail' l e h r = absurd (omega arith)
  loop_empty (suc turns) d' queue' tail' l e h r = turn_empty turns d' queue' tail' e h r

  pub loop_on : (turns : ℕ) (d' : List ℕ) (to : ℕ) → 0 < turns → head ≡ tail → follow depths (take tail queue) L ≡ go d' (take tail queue ++ (to ∷ []))
      → walk_from rule turns depths (offset ∷ drop head (take tail queue)) ≡ walk_from rule (turns - 1) d' (to ∷ drop head (take tail queue))
  loop_on zero d' to l h e = absurd (omega arith)
  loop_on (suc turns) d' to l h e = let z : suc turns - 1 ≡ turns = omega arith in rw z (turn_on turns d' to h e)

-- where no turn is left
pub walk_over : (rule : ℕ → ℕ → Look) (depths queue : List ℕ) → walk_from rule 0 depths queue ≡ Ok tt
unfolding walk_from
walk_over rule depths queue = refl

-- from the start
pub walk_begun : (rule : ℕ → ℕ → Look) (n : ℕ) → walk_from rule n (begun n) (0 ∷ []) ≡ walk_of rule n
unfolding walk_of
walk_begun rule n = refl
