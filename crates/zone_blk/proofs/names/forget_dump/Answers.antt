-- `retain` keeps the dumps of other names, in their order. For `forget_dump`.
use Rattle.std.proofs.Common.{not, rules}
use Rattle.std.proofs.lemmas.Fn.{filter_same}
use Rattle.blk_spec.specs.Reading.{BlkDump}
use Rattle.blk_spec.specs.Names.{is_name, dump_name}
use Rattle.zone_blk.proofs.names.forget_dump.Goals as goal

pub returns : goal.returns
returns c = filter_same _ (λ (d : BlkDump). not (is_name c.args.name (dump_name d))) _
    (λ d kept g ran. (search rules, search rules)) c.args.dumps.now.items c.retain.new.self.items
    c.retain.ensures.filtered
