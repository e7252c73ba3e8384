-- The number and the lines of the records are the listing. For `listing`.
use Rattle.std.proofs.Common.{◌∙◌, arith}
use Rattle.prz_read.specs.Saving.{saved}
use Rattle.ram_session.proofs.Listings.{listing-is}
use Rattle.ram_session.proofs.texts.records.listing.Goals as goal

pub returns : goal.returns
returns c =
    listing-is (saved c.args.logs.now) c.len.result c.deref.result.now c.new-text.result.items
    c.push_number.new.text.items c.push.new.self.items c.push_entries.new.text.items
    c.new-text.ensures.items c.in_ok-push_number.ensures c.in_ok-push.ensures.items c.in_ok-push_entries.ensures
    (c.deref.ensures.value ∙ c.in_ok-entries.ensures) (grind
    (arith, c.len.ensures, c.deref.ensures.len, c.in_ok-entries.entries.ok))
