-- The pieces of a ring's line
use Rattle.commands.proofs.RingTexts.{ring-is}
use Rattle.commands.proofs.salvaging.push_ring.Goals as goal

pub returns : goal.returns
returns c = ring-is c.args.ring.now c.from.result c.from-2.result c.from-3.result c.from-4.result c.args.text.now.items
    c.push_number.new.text.items c.extend_from_slice.new.self.items c.push_zone.new.text.items
    c.push_number-2.new.text.items c.push_number-3.new.text.items c.push_number-4.new.text.items c.push.new.self.items
    c.in_ok-push_number.ensures c.in_ok-extend_from_slice.ensures.items c.in_ok-push_zone.ensures
    c.in_ok-push_number-2.ensures c.in_ok-push_number-3.ensures c.in_ok-push_number-4.ensures
    c.in_ok-push.ensures.items c.from.ensures c.from-2.ensures c.from-3.ensures c.from-4.ensures
