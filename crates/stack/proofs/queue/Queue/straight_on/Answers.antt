-- `stack::queue::Queue::straight_on` meets its contract: the case of one that gets a depth leaves the queue as it was.
-- Assumes nothing.
use Rattle.std.specs.Prelude.{Ok, Err}
use Rattle.std.proofs.lemmas.Result.{err_from_is_err_and}
use mathlib.Core.Path.{◌≡◌, ◌∙◌, ap, sym}
use lib.ListN.{get_or, take}
use Rattle.stack.specs.declared.queue.Meeting.{Meeting}
use Rattle.stack.proofs.Putting.{says, ready_still, put_on, put_stays}
use Rattle.stack.proofs.queue.Queue.straight_on.Goals.{In-New}
use Rattle.stack.proofs.queue.Queue.straight_on.Goals as goal

pub returns-in_err-meeting-clause-turns : goal.returns-in_err-meeting-clause-turns
returns-in_err-meeting-clause-turns c = let q = c.args.self.now in
    let p = err_from_is_err_and c.from_residual.result c.from_residual.ensures.1 in
    rw (p.1, p.2) (says q.depths.now (take q.tail q.places.now) c.args.to c.args.out (Err _) (sym c.in_err-meeting.was ∙ c.meet.ensures))

-- the successor has no depth
fresh : (c : In-New) → get_or c.args.self.now.depths.now c.args.to 0 ≡ 0
fresh c = says c.args.self.now.depths.now c.args.self.now.places.now c.args.to c.args.out (Ok Meeting.New) (sym (c.in_ok-meeting.was ∙ ap Ok c.in-New.is) ∙ c.meet.ensures)

pub invariant_of-self : goal.invariant_of-self
invariant_of-self c = record { ready = ready_still _ _ _ c.args.to c.args.out c.args.self.now.ready c.requires.to_in_bounds.0 (fresh (goal.at.invariant_of-self c).In-New) }

pub returns-in-New-clause-turns : goal.returns-in-New-clause-turns
returns-in-New-clause-turns c = put_on _ _ _ c.args.to c.args.out c.args.self.now.ready c.requires.to_in_bounds.0 c.requires.to_in_bounds.1 (fresh (goal.at.returns-in-New-clause-turns c).In-New)

pub returns-in-Same-clause-turns : goal.returns-in-Same-clause-turns
returns-in-Same-clause-turns c = let q = c.args.self.now in
    put_stays _ _ _ c.args.to c.args.out q.ready c.requires.to_in_bounds.0 (says q.depths.now q.places.now c.args.to c.args.out (Ok Meeting.Same) (sym (c.in_ok-meeting.was ∙ ap Ok c.in-Same.is) ∙ c.meet.ensures))
