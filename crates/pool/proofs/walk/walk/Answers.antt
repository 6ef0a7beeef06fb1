-- `pool::walk::walk` meets its contract: a law of proofs/Walking.antt for each way that a turn can go.
-- Assumes nothing.
use Prim.Native.Nat.{ℕ, ◌+◌, ◌*◌}
use native.Mathlib.Omega.{arith}
use lib.ListN.{length}
use mathlib.Core.List.{List}
use Rattle.std.proofs.lemmas.Result.{err_from_is_err_and}
use Rattle.callees.specs.declared.Sources.{Sources}
use Rattle.pool.specs.Columns.{Fitting}
use Rattle.pool.specs.Stated.{rule_in}
use Rattle.pool.proofs.Treading.{tread_lawful}
use Rattle.pool.proofs.Walking.{Lawful, Trod, tread_opens, tread_leads, walking_first, walking_stops, walking_on, walking_ready, walking_done, walking_next}
use Rattle.pool.proofs.walk.walk.Goals.{After-follow_on}
use Rattle.pool.proofs.walk.walk.Goals as goal

law : (sources : Sources) (marks body : List ℕ) → Fitting marks body → Lawful (rule_in sources marks body) sources.program.pool (length body + 1)
law sources marks body fits = tread_lawful _ _ _ _ _ _ _ _ _ _ fits

trod : (c : After-follow_on)
    → Trod (rule_in c.args.rules.now.sources c.args.marks.now c.args.body.now) (2 * length c.args.body.now + 2) c.args.rules.now.sources.program.pool (length c.args.body.now + 1)
    c.loop-to.numbers c.loop-to.ring.places.now c.loop-to.ring.carried.now c.loop-to.row c.loop-to.ring.head c.loop-to.ring.count c.loop-to.entry.offset c.loop-to.entry.held c.loop-to.weight c.loop-to.peak c.loop-to.met
    c.tread-step.result c.note-met.new.row c.note-met.result c.max-weight.result c.peak_with-peak.result
trod c = record {
  lawful = law c.args.rules.now.sources c.args.marks.now c.args.body.now c.requires.fitting.0;
  walking = c.loop-to.invariant;
  treads = c.tread-step.ensures;
  lists = c.note-met.ensures.0;
  notes = c.note-met.ensures.1;
  weighs = c.max-weight.ensures;
  peaks = c.peak_with-peak.ensures;
}

pub loop-to-init : goal.loop-to-init
loop-to-init c = let p = c.requires in walking_first _ _ _ _ _ _ _ _ p.numbers_value.0 (omega arith) (omega (arith, p.fitting.1)) (omega arith) p.numbers_value.1.0 p.numbers_value.1.1.0 p.numbers_value.1.1.1

pub note-met-requires : goal.note-met-requires
note-met-requires c = (c.loop-to.invariant.listed, tread_opens _ _ _ (law c.args.rules.now.sources c.args.marks.now c.args.body.now c.requires.fitting.0) _ _ _ c.tread-step.ensures)

pub follow_on-requires-clause-leads : goal.follow_on-requires-clause-leads
follow_on-requires-clause-leads c = tread_leads _ _ _ _ (law c.args.rules.now.sources c.args.marks.now c.args.body.now c.requires.fitting.0) _ _ _ _ _ _ _ _ _ _ _ c.loop-to.invariant _ c.tread-step.ensures c.args.rules.now.pool_bounded

pub returns-in_err-to : goal.returns-in_err-to
returns-in_err-to c = let p = err_from_is_err_and c.from_residual.result c.from_residual.ensures.1 in rw (p.1, p.2) (walking_stops (trod (goal.at.returns-in_err-to c).After-follow_on) _ _ _ _ _ _ c.in_err-to.ensures.turns)

pub loop-to-smaller-in-Some : goal.loop-to-smaller-in-Some
loop-to-smaller-in-Some c = (walking_on (trod (goal.at.loop-to-smaller-in-Some c).After-follow_on) _ _ _ _ c.follow_on.ensures.same c.args.rules.now.pool_bounded _ _ (rw c.in-Some.is at c.in_ok-to.ensures.turns)).1

pub loop-to-preserved-in-Some : goal.loop-to-preserved-in-Some
loop-to-preserved-in-Some c = (walking_on (trod (goal.at.loop-to-preserved-in-Some c).After-follow_on) _ _ _ _ c.follow_on.ensures.same c.args.rules.now.pool_bounded _ _ (rw c.in-Some.is at c.in_ok-to.ensures.turns)).0

pub first-requires : goal.first-requires
first-requires c = walking_ready (trod (goal.at.first-requires c).After-follow_on) _ _ _ _ c.follow_on.ensures.same _ (rw c.in_default.is at c.in_ok-to.ensures.turns)

pub returns-in_default-first : goal.returns-in_default-first
returns-in_default-first c = walking_done (trod (goal.at.returns-in_default-first c).After-follow_on) _ _ _ _ c.follow_on.ensures.same _ (rw c.in_default.is at c.in_ok-to.ensures.turns) _ _ _ _ c.in_default-first.ensures.firsts

pub loop-to-smaller : goal.loop-to-smaller
loop-to-smaller c = (walking_next (trod (goal.at.loop-to-smaller c).After-follow_on) _ _ _ _ c.follow_on.ensures.same _ (rw c.in_default.is at c.in_ok-to.ensures.turns) _ _ _ _ _ c.first.ensures.same c.in-Some-first.ensures.firsts).1

pub loop-to-preserved : goal.loop-to-preserved
loop-to-preserved c = (walking_next (trod (goal.at.loop-to-preserved c).After-follow_on) _ _ _ _ c.follow_on.ensures.same _ (rw c.in_default.is at c.in_ok-to.ensures.turns) _ _ _ _ _ c.first.ensures.same c.in-Some-first.ensures.firsts).0
