-- With no ring no append is cut; else ring, bytes and number of stores are drawn in this order. For `draw_cut`.
use Rattle.std.proofs.Common.{sym, ◌∙◌, arith}
use Rattle.ram_generator.proofs.TurnDraws.{found_at, cut_none, cut_drawn}
use Rattle.ram_generator.proofs.turns.Targets.draw_cut.Goals as goal

pub returns-then-is_empty : goal.returns-then-is_empty
returns-then-is_empty c = sym (cut_none c.args.self.now.rings.items c.args.draws.now
    (grind (arith, c.if-is_empty.true, c.is_empty.ensures)))

pub returns : goal.returns
returns c = cut_drawn c.args.self.now.rings.items c.args.draws.now c.draw-c.result c.draw-c.new.self
    c.draw-count.result c.draw-count.new.self c.draw_bytes.new.self c.draw.result c.draw.new.self c.index.result.now
    c.in_ok-bytes.bytes (grind (arith, c.if-is_empty.false, c.is_empty.ensures))
    (rw (c.len.ensures ∙ c.args.self.now.rings.ok.0) at c.draw-c.ensures.drawn)
    c.draw-count.ensures.drawn c.in_ok-bytes.ensures c.draw.ensures.drawn
    (found_at c.args.self.now.rings.items c.draw-c.result c.index.result.now
    (omega (arith, c.draw-c.ensures.below, c.len.ensures, c.args.self.now.rings.ok.0)) c.index.ensures)
