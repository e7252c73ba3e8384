-- Dumps come first, then console, pmsg and ftrace. For `source_of`.
use Rattle.std.proofs.Common.{◌++◌, List}
use Rattle.std.specs.Option.{option_or}
use Rattle.zone_spec.specs.declared.Kind.TheVariants.{Dump, Console, Pmsg, Ftrace}
use Rattle.zone_spec.specs.Records.{Listed, ftrace_of, logs_of}
use Rattle.prz_read.specs.Saving.{saved}
use Rattle.pstore_records.specs.Walks.{own_records}
use Rattle.pstore_records.proofs.Sources.{named-join}
use Rattle.pstore_records.proofs.walk.source_of.Goals as goal

pub returns : goal.returns
returns c =
    let zones = saved c.args.logs.now in
    let name = c.args.name in
    let dumps : List Listed = own_records Dump zones in
    let consoles : List Listed = own_records Console zones in
    let pmsgs : List Listed = own_records Pmsg zones in
    let ftraces : List Listed = ftrace_of (logs_of Ftrace zones) in
    let first = option_or c.own_named.result c.own_named-2.result in
    let next = option_or first c.own_named-3.result in
    rw (c.or-3.ensures, c.or-2.ensures, c.or.ensures)
    (named-join zones name next c.named.result (dumps ++ consoles ++ pmsgs) ftraces
    (named-join zones name first c.own_named-3.result (dumps ++ consoles) pmsgs
    (named-join zones name c.own_named.result c.own_named-2.result dumps consoles
    c.own_named.ensures c.own_named-2.ensures) c.own_named-3.ensures)
    (c.named.ensures zones ftraces c.ftrace_source.ensures))
