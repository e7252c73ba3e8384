-- One byte more is one step more; a call that is done ends the line. For `store_bytes`.
use Rattle.std.proofs.Common.{ℕ, subst, arith}
use Rattle.shared_ring.specs.Seen.{IsLeftBy}
use Rattle.script_spec.specs.SharedScripts.{with_steps}
use Rattle.shared_session.proofs.Steps.{steps_none, steps_next, steps_done}
use Rattle.shared_session.proofs.lines.store_bytes.Goals as goal

pub steps-init : goal.steps-init
steps-init c = record {
  within = omega arith;
  left = λ h l. steps_none h c.args.ticket c.args.shared.now l;
}

pub steps-preserved : goal.steps-preserved
steps-preserved c = record {
  within = omega (arith, c.steps-test.true);
  left = λ h l. steps_next h c.args.ticket c.steps.made c.step.new.self
      (c.in-Ok.ensures.left (with_steps h c.args.ticket c.steps.made) (c.steps.invariant.left h l));
}

pub returns-in-Err : goal.returns-in-Err
returns-in-Err c = λ h l. steps_done h c.args.ticket c.steps.made c.args.count c.steps.shared c.step.new.self _
    c.steps-test.true (c.steps.invariant.left h l) c.in-Err.ensures.answer c.in-Err.ensures.refused

pub returns : goal.returns
returns c = λ h l.
    subst (λ (n : ℕ). IsLeftBy (with_steps h c.args.ticket n) c.steps.shared)
    (omega (arith, c.steps-test.false, c.steps.invariant.within)) (c.steps.invariant.left h l)
