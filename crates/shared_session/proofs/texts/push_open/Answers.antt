-- The pieces pushed in turn are the line of an open call. For `push_open`.
use Rattle.std.proofs.Common.{codes, decimal}
use Rattle.script_spec.specs.Texts.{newline}
use Rattle.shared_session.proofs.Pieces.{open-is}
use Rattle.shared_session.proofs.texts.push_open.Goals as goal

pub returns : goal.returns
returns c = open-is c.args.text.now.items c.push_number.new.text.items c.push_number-2.new.text.items
    c.push_number-3.new.text.items c.push_number-4.new.text.items c.push.new.self.items
    (codes "open ") (decimal c.args.call.now.ticket) (codes " place ") (decimal c.args.call.now.place)
    (codes " length ") (decimal c.args.call.now.length) (codes " stored ") (decimal c.args.call.now.stored) newline
    c.in_ok-push_number.ensures (rw c.from.ensures at c.in_ok-push_number-2.ensures)
    (rw c.from-2.ensures at c.in_ok-push_number-3.ensures) (rw c.from-3.ensures at c.in_ok-push_number-4.ensures)
    c.in_ok-push.ensures.items
