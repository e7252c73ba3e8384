-- A number below that of the rings asks an append to that ring, the next one a dump. For `draw_turn`.
use Rattle.std.proofs.Common.{List, length, slice_get, ap, sym, ◌∙◌, rules, arith}
use Rattle.zone_spec.specs.declared.ZoneName.{ZoneName}
use Rattle.ram_generator.proofs.TurnDraws.{found_at, turn_append, turn_dump}
use Rattle.ram_generator.proofs.turns.Targets.draw_turn.Goals as goal

pub returns-then-c-len : goal.returns-then-c-len
returns-then-c-len c = record {
  turn = λ layout t. turn_append layout c.args.q
      c.args.draws.now c.len.result c.draw-c.result c.draw-c.new.self
      c.draw-count.result c.draw-count.new.self c.draw_bytes.new.self c.index.result.now c.in_ok-bytes.bytes
      (c.len.ensures ∙ (c.args.self.now.rings.ok.0 ∙ ap (length {A = ZoneName}) t.rings))
      c.draw-c.ensures.drawn c.draw-count.ensures.drawn (omega
      (arith, c.if-c-len.true, c.len.ensures, c.len-2.ensures))
      (ap (λ (l : List ZoneName). slice_get l c.draw-c.result) (sym t.rings)
      ∙ found_at c.args.self.now.rings.items c.draw-c.result c.index.result.now
      (omega (arith, c.if-c-len.true, c.len-2.ensures, c.args.self.now.rings.ok.0)) c.index.ensures)
      c.in_ok-bytes.ensures;
  can = search rules;
}

pub returns : goal.returns
returns c = record {
  turn = λ layout t. c.in_ok-dump.ensures.turn layout t ∙ turn_dump layout c.args.q
      c.args.draws.now c.len.result c.draw-c.result c.draw-c.new.self c.draw-count.result c.draw-count.new.self
      (c.len.ensures ∙ (c.args.self.now.rings.ok.0 ∙ ap (length {A = ZoneName}) t.rings))
      c.draw-c.ensures.drawn c.draw-count.ensures.drawn (omega
      (arith, c.if-c-len.false, c.len.ensures, c.len-2.ensures));
  can = search rules;
}
