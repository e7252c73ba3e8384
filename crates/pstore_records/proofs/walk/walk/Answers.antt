-- Dumps, console, pmsg and ftrace, one after another, are the listed records. For `walk`.
use Rattle.std.proofs.Common.{◌≡◌, ◌++◌, [], List, sym, subst}
use Rattle.std.specs.Prelude.{option_to_list}
use Rattle.std.proofs.lemmas.Grind.{common_steps}
use Rattle.zone_spec.specs.declared.Kind.TheVariants.{Dump, Console, Pmsg, Ftrace}
use Rattle.zone_spec.specs.Records.{Saved, Listed, ftrace_of, logs_of, listed_of}
use Rattle.prz_read.specs.Saving.{saved}
use Rattle.pstore_records.specs.declared.walk.Source.{Source}
use Rattle.pstore_records.specs.Walks.{AreSources, own_records}
use Rattle.pstore_records.proofs.Sources.{no-sources, sources-join}
use Rattle.pstore_records.proofs.walk.walk.Goals as goal
use Rattle.pstore_records.proofs.walk.walk.Goals.{in-Some+in_ok-push, in_default}
use Rattle.std.proofs.Common.{arith}

pub returns : goal.returns
returns c =
    let zones : List Saved = saved c.args.logs.now in
    let none = subst (λ (sources : List Source). AreSources zones sources []) (sym c.new-sources.ensures.items)
    (no-sources zones) in
    let dumps : List Listed = [] ++ own_records Dump zones in
    let consoles : List Listed = dumps ++ own_records Console zones in
    let pmsgs : List Listed = consoles ++ own_records Pmsg zones in
    let pushed : c.match-ftrace_source.sources.items
    ≡ c.add_own-3.new.sources.items ++ option_to_list c.ftrace_source.result = elim c.match-ftrace_source.branch [
      | in-Some+in_ok-push w ↦ grind (arith, common_steps)
      | in_default w ↦ grind (arith, common_steps)
    ] in
    subst (λ (sources : List Source). AreSources zones sources (listed_of zones)) (sym pushed)
    (sources-join zones c.add_own-3.new.sources.items (option_to_list c.ftrace_source.result) pmsgs
    (ftrace_of (logs_of Ftrace zones))
    (c.in_ok-add_own-3.ensures consoles (c.in_ok-add_own-2.ensures dumps (c.in_ok-add_own.ensures [] none)))
    c.ftrace_source.ensures)
