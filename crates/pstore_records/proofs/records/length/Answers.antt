-- The entry of the name's source has the listed record's length. For `length`.
use Rattle.std.proofs.Common.{Some, length, ap, ◌∙◌}
use Rattle.std.specs.Option.{option_map}
use Rattle.zone_spec.specs.Notices.{content}
use Rattle.zone_spec.specs.Records.{Listed}
use Rattle.prz_read.specs.Saving.{saved}
use Rattle.pstore_records.specs.declared.table.Entry.{Entry}
use Rattle.pstore_records.proofs.records.length.Goals as goal

pub table_entry-requires : goal.table_entry-requires
table_entry-requires c = c.in_ok-source.ensures.counted

pub returns-in_err-source : goal.returns-in_err-source
returns-in_err-source c = rw c.from_residual.ensures
    (ap (option_map (λ (r : Listed). length (content (saved c.args.logs.now) r))) c.in_err-source.ensures.listed)

pub returns : goal.returns
returns c = ap (λ (e : Entry). Some e.len) c.table_entry.ensures
    ∙ ap (option_map (λ (r : Listed). length (content (saved c.args.logs.now) r))) c.in_ok-source.ensures.listed
