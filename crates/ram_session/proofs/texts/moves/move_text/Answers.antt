-- The pieces pushed in turn are the text of a move. For `move_text`.
use Rattle.std.proofs.Common.{ℕ, ◌∙◌, ap₂, arith}
use Rattle.ramoops_layout.specs.Laid.{zones_of}
use Rattle.prz_read.specs.Saving.{saved}
use Rattle.script_spec.specs.Texts.{move_text}
use Rattle.ram_session.proofs.MoveTexts.{move-is}
use Rattle.ram_session.proofs.texts.moves.move_text.Goals as goal

pub returns : goal.returns
returns c =
    move-is (zones_of c.args.layout.now) (saved c.args.logs.now) c.from.result c.from-2.result c.len.result
    c.deref.result.now
    c.new-text.result.items c.push_number.new.text.items c.push_number-2.new.text.items
    c.push_number-3.new.text.items c.push.new.self.items c.push_moves.new.text.items
    c.new-text.ensures.items c.in_ok-push_number.ensures c.in_ok-push_number-2.ensures c.in_ok-push_number-3.ensures
    c.in_ok-push.ensures.items c.in_ok-push_moves.ensures
    (c.deref.ensures.value ∙ c.in_ok-moves.ensures) (grind
    (arith, c.len.ensures, c.deref.ensures.len, c.in_ok-moves.moves.ok))
    ∙ ap₂ (λ (a b : ℕ). move_text a b (zones_of c.args.layout.now) (saved c.args.logs.now))
    c.from.ensures c.from-2.ensures
