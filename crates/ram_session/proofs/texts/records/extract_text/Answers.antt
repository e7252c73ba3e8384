-- The text of a record is its name, its length and its content
use Rattle.std.proofs.Common.{◌≡◌}
use Rattle.zone_spec.specs.Names.{name_text}
use Rattle.prz_read.specs.Saving.{saved}
use Rattle.ram_session.proofs.Listings.{extract-is}
use Rattle.ram_session.proofs.texts.records.extract_text.Goals as goal

pub returns-in-Ok : goal.returns-in-Ok
returns-in-Ok c =
    let named : c.as_str.result.now ≡ name_text c.args.name = cc in
    extract-is (saved c.args.logs.now) c.args.name c.in_ok-bytes.bytes c.in-Ok.text.items c.in_ok-bytes.ensures
    (rw (named, c.as_slice.ensures) at c.in-Ok.ensures)
