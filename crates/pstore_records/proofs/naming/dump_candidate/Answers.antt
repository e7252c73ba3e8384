-- What stands after `dmesg-ramoops-` is a number, with or without the ending of a compressed dump.
-- For `dump_candidate`.
use Rattle.std.proofs.Common.{Some, ap, ◌∙◌, sym, Bool}
use Rattle.zone_spec.specs.declared.Name.TheVariants.{Dump}
use Rattle.pstore_records.proofs.DumpNumbers.{split-some, split-none}
use Rattle.pstore_records.proofs.naming.dump_candidate.Goals as goal

pub returns-in-Some : goal.returns-in-Some
returns-in-Some c = λ index packed small written.
    let parts = split-some c.args.rest.now index packed c.split_once.result c.in-Some.digits c.in-Some.field-0-1 small
    c.split_once.ensures.cases c.in-Some.is written in
    c.numbered.ensures index small parts.1 ∙ ap (λ (b : Bool). Some (Dump index b)) (sym parts.0)

pub returns-in-None : goal.returns-in-None
returns-in-None c = λ index packed small written.
    let parts = split-none c.args.rest.now index packed c.split_once.result small c.split_once.ensures.cases
    c.in-None.is written in
    c.numbered-in-None.ensures index small parts.1 ∙ ap (λ (b : Bool). Some (Dump index b)) (sym parts.0)
