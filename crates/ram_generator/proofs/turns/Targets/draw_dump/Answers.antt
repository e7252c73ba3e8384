-- With no dump zone a turn draws the same and asks nothing; else it asks the dump. For `draw_dump`.
use Rattle.ram_generator.proofs.TurnDraws.{dump_there, dump_nowhere}
use Rattle.ram_generator.proofs.turns.Targets.draw_dump.Goals as goal

pub returns-then-not-self-clause-turn : goal.returns-then-not-self-clause-turn
returns-then-not-self-clause-turn c = λ layout t. dump_nowhere layout c.args.q c.args.count c.args.draws.now
    c.draw-micros.result c.draw-micros.new.self c.draw_bytes.new.self c.in_ok-body.body c.args.self.now.dumps t.dumps
    c.if-not-self.true c.draw-micros.ensures.drawn c.in_ok-body.ensures

pub returns-clause-turn : goal.returns-clause-turn
returns-clause-turn c = λ layout t. dump_there layout c.args.q c.args.count c.args.draws.now
    c.draw-micros.result c.draw-micros.new.self c.draw_bytes.new.self c.in_ok-body.body c.args.self.now.dumps t.dumps
    c.if-not-self.false c.draw-micros.ensures.drawn c.in_ok-body.ensures
