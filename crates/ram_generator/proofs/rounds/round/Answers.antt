-- A round is its calls and its boot. For `round`.
use Rattle.std.proofs.Common.{subst}
use Rattle.std.proofs.lemmas.Result.{IfOk-weaker}
use Rattle.script_spec.specs.Generated.{drawn_calls}
use Rattle.ram_generator.specs.Sessions.{RunsTo}
use Rattle.ram_generator.proofs.RoundCalls.{round_is}
use Rattle.ram_generator.proofs.rounds.round.Goals as goal

pub returns-clause-round : goal.returns-clause-round
returns-clause-round c =
    let zones = c.args.plan.now.zones.items in
    let x = c.args.draws.now in
    IfOk-weaker c.boot.result _ _ (λ live boots mem g lies r.
    let t = c.in_ok-calls.ensures.called mem g lies r in
    subst (RunsTo zones mem live c.boot.new.counts c.boot.new.draws)
    (round_is zones g c.args.q x c.calls.new.draws t.number)
    ((rw c.deref.ensures.value at boots) mem (drawn_calls zones g c.args.q x).0 lies t.runs)) c.boot.ensures.booted
