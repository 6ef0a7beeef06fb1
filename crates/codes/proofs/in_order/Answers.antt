-- `codes::in_order` meets its contract: a fault was met exactly if a row is faulty. Assumes nothing.
use Rattle.std.proofs.Common.{◌≡◌, refl, ℕ, suc, zero, ◌-◌, ◌<◌, ◌≤◌, ◌∙◌, sym, List, get_or, Bool, not, true, false, arith, true≢false}
use Rattle.std.proofs.Math.Logic.{⊎_elim}
use Rattle.std.proofs.lemmas.Bool.{leb-false, leb-true, ltb-false, ltb-true}
use Rattle.codes.specs.Rows.{faulty}
use Rattle.codes.specs.Laws.{or_false, or_true, sound_row, faulty_id, faulty_flag}
use Rattle.codes.proofs.Laws.{sound_more}
use Rattle.codes.proofs.in_order.Goals as goal

module _ (ids flags : List ℕ) where
  rises : (i : ℕ) → 0 < i → get_or ids (i - 1) 0 < get_or ids i 0 → get_or flags i 0 ≤ 1 → faulty ids flags i ≡ false
  rises zero p h l = absurd (omega arith)
  rises (suc j) p h l =
      let e : suc j - 1 ≡ j = omega arith in
      let g : get_or ids j 0 < get_or ids (suc j) 0 = rw e at h in
      sound_row ids flags (suc j) (omega arith) l

  falls : (i : ℕ) → 0 < i → get_or ids i 0 ≤ get_or ids (i - 1) 0 → faulty ids flags i ≡ true
  falls zero p h = absurd (omega arith)
  falls (suc j) p h =
      let e : suc j - 1 ≡ j = omega arith in
      let g : get_or ids (suc j) 0 ≤ get_or ids j 0 = rw e at h in
      faulty_id ids flags (suc j) (omega arith)

not-not : (b : Bool) → (b ≡ true → ⊥) → not b ≡ true
not-not true n = absurd (n refl)
not-not false n = refl

pub loop-i-preserved : goal.loop-i-preserved
loop-i-preserved c =
    let l = c.loop-i in
    let ids = c.args.ids.now in
    let flags = c.args.flags.now in
    let p : 0 < l.i = omega (arith, l.auto.i, c.requires.rows.0) in
    record {
      sound = λ e.
          let q = or_false _ _ e in
          let r = or_false _ _ q.0 in
          sound_more ids flags c.args.first l.i (l.invariant.sound r.0) (rises ids flags l.i p (leb-false _ _ r.1) (ltb-false _ _ q.1));
      found = λ e.
          ⊎_elim
          (λ q. ⊎_elim
          (λ r. let f = l.invariant.found r in (f.0, f.1, omega (arith, f.2), f.3))
          (λ r. (l.i, l.auto.i, omega arith, falls ids flags l.i p (leb-true _ _ r)))
          (or_true _ _ q))
          (λ q. (l.i, l.auto.i, omega arith, faulty_flag ids flags l.i (ltb-true _ _ q)))
          (or_true _ _ e);
    }

pub returns-clause-whole : goal.returns-clause-whole
returns-clause-whole c =
    let l = c.loop-i in
    λ e. not-not l.fault (λ f.
    let r = l.invariant.found f in
    true≢false (sym r.3 ∙ e r.0 r.1 (omega (arith, r.2, l.auto.i-end c.requires.rows.1.0))))
