-- The turns and the cut append are the session's. For `calls`.
use Rattle.std.proofs.Common.{refl, subst}
use Rattle.ram_generator.specs.Turns.{cut_of}
use Rattle.ram_generator.specs.Sessions.{RunsTo}
use Rattle.ram_generator.proofs.RoundCalls.{calls_drawn}
use Rattle.ram_generator.proofs.rounds.calls.Goals as goal

pub returns-clause-called : goal.returns-clause-called
returns-clause-called c mem g lies r =
    let zones = c.args.plan.now.zones.items in
    let t = c.in_ok-turns.ensures.turned mem g lies r in
    subst (RunsTo zones mem c.make_cut.new.live c.make_cut.new.counts c.draw_cut.new.draws)
    (calls_drawn zones g c.args.q c.args.draws.now c.turns.new.draws c.draw_cut.new.draws (cut_of c.in_ok-cut.cut)
    c.args.plan.now.targets.rings.items c.requires.plan.targets.rings t.number c.in_ok-cut.ensures)
    (record { runs = c.make_cut.ensures.cut zones mem _ lies t.runs; number = refl })
