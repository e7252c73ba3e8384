-- The pieces pushed in turn are the line of one record's move. For `push_move`.
use Rattle.std.proofs.Common.{◌++◌, ◌∙◌, ap, List, ℕ, codes, decimal}
use Rattle.zone_spec.specs.Names.{name_text}
use Rattle.script_spec.specs.Texts.{newline}
use Rattle.ram_session.proofs.MoveTexts.{told-is}
use Rattle.ram_session.proofs.texts.moves.push_move.Goals as goal

pub returns : goal.returns
returns c = told-is c.args.text.now.items c.extend_from_slice.new.self.items c.push_named.new.text.items
    c.push_number.new.text.items c.push_number-2.new.text.items c.push.new.self.items _
    (name_text c.args.told.now.name) (codes " ") (decimal c.args.told.now.len) (codes " corrected ")
    (decimal c.args.told.now.corrected) (codes " bad ") (decimal c.args.told.now.bad) newline
    (c.in_ok-extend_from_slice.ensures.items
    ∙ ap (λ (xs : List ℕ). c.args.text.now.items ++ xs) (c.as_bytes.ensures.value ∙ c.fate.ensures))
    c.in_ok-push_named.ensures c.in_ok-push_number.ensures c.in_ok-push_number-2.ensures c.in_ok-push.ensures.items
