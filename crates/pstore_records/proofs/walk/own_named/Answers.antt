-- A zone without a record of this name is passed over; the first with one decides. For `own_named`.
use Rattle.std.proofs.Common.{◌<◌, ◌+◌, None, length, arith, sym, subst, ◌∙◌, List, [], ◌∷◌}
use Rattle.std.proofs.lemmas.List.{take_all}
use Rattle.zone_spec.specs.Records.{Saved}
use Rattle.prz_read.specs.Saving.{saved}
use Rattle.pstore_records.specs.Walks.{IsNamed, own_records}
use Rattle.pstore_records.proofs.Sources.{named-none, named-more, named-found, without-source}
use Rattle.pstore_records.proofs.walk.own_named.Goals as goal

pub loop-i-init : goal.loop-i-init
loop-i-init c = named-none (saved c.args.logs.now) c.args.name c.args.kind

pub loop-i-preserved : goal.loop-i-preserved
loop-i-preserved c =
    let zones = saved c.args.logs.now in
    let within : c.loop-i.i < length zones = omega (arith, c.len-i-end.ensures.saved, c.loop-i-test.true) in
    without-source zones c.args.name c.named-source.result _ (sym c.is_some.ensures ∙ c.if-is_some.false)
    (named-more zones c.args.name c.args.kind c.loop-i.i c.named-source.result within
    (λ s at. c.named-source.ensures zones (own_records c.args.kind (s ∷ [])) (c.source_in.ensures s at))
    c.loop-i.invariant)

pub returns-then-is_some : goal.returns-then-is_some
returns-then-is_some c =
    let zones = saved c.args.logs.now in
    let within : c.loop-i.i < length zones = omega (arith, c.len-i-end.ensures.saved, c.loop-i-test.true) in
    named-found zones c.args.name c.args.kind (c.loop-i.i + 1) c.named-source.result
    (sym c.is_some.ensures ∙ c.if-is_some.true)
    (named-more zones c.args.name c.args.kind c.loop-i.i c.named-source.result within
    (λ s at. c.named-source.ensures zones (own_records c.args.kind (s ∷ [])) (c.source_in.ensures s at))
    c.loop-i.invariant)

pub returns : goal.returns
returns c =
    let zones = saved c.args.logs.now in
    subst (λ (zs : List Saved). IsNamed zones None c.args.name (own_records c.args.kind zs))
    (take_all c.loop-i.i zones (omega (arith, c.len-i-end.ensures.saved, c.loop-i-test.false)))
    c.loop-i.invariant
