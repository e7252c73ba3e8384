-- One zone more adds its source if it has one, and in the end all are there. For `add_own`.
use Rattle.std.proofs.Common.{◌≡◌, ◌++◌, ◌<◌, length, arith, sym, ap, subst, ◌∙◌, List, append-nil}
use Rattle.std.specs.Prelude.{option_to_list}
use Rattle.std.proofs.lemmas.Grind.{common_steps}
use Rattle.std.proofs.lemmas.List.{take_all}
use Rattle.zone_spec.specs.Records.{Saved, Listed}
use Rattle.prz_read.specs.Saving.{saved}
use Rattle.pstore_records.specs.Walks.{AreSources, own_records}
use Rattle.pstore_records.proofs.Sources.{sources-more, own_records-none}
use Rattle.pstore_records.proofs.walk.add_own.Goals as goal
use Rattle.pstore_records.proofs.walk.add_own.Goals.{in-Some+in_ok-push, in_default}

pub loop-i-init : goal.loop-i-init
loop-i-init c = λ front were. subst (AreSources (saved c.args.logs.now) c.args.sources.now.items)
    (sym (ap (λ (rs : List Listed). front ++ rs) (own_records-none c.args.kind) ∙ append-nil front)) were

pub loop-i-preserved : goal.loop-i-preserved
loop-i-preserved c = λ front were.
    let zones = saved c.args.logs.now in
    let pushed : c.match-source_in.sources.items ≡ c.loop-i.sources.items ++ option_to_list c.source_in.result =
    elim c.match-source_in.branch [
      | in-Some+in_ok-push w ↦ grind (arith, common_steps)
      | in_default w ↦ grind (arith, common_steps)
    ] in
    let within : c.loop-i.i < length zones = omega (arith, c.len-i-end.ensures.saved, c.loop-i-test.true) in
    sources-more zones c.args.kind c.loop-i.i c.loop-i.sources.items c.match-source_in.sources.items
    c.source_in.result within c.source_in.ensures pushed front (c.loop-i.invariant front were)

pub returns : goal.returns
returns c = λ front were.
    let zones = saved c.args.logs.now in
    subst (λ (zs : List Saved). AreSources zones c.loop-i.sources.items (front ++ own_records c.args.kind zs))
    (take_all c.loop-i.i zones (omega (arith, c.len-i-end.ensures.saved, c.loop-i-test.false)))
    (c.loop-i.invariant front were)
