-- A whole append is all its stores, and any other call is made one after another. For `Progress::advance`.
use Rattle.std.proofs.Common.{◌≡◌, ◌+◌, min, take, drop, sym, ap, subst, arith}
use Rattle.zone_spec.specs.Calls.{call_stores}
use Rattle.prz_region.specs.CutRegion.{span, stored}
use Rattle.store_steps.specs.Counts.{total_of}
use Rattle.store_steps.specs.Flying.{Flying}
use Rattle.store_steps.specs.Machine.{IsKept, StandsFor}
use Rattle.prz_write.specs.declared.progress.Progress.{Progress}
use Rattle.prz_write.specs.Calls.{call_seen}
use Rattle.prz_write.specs.Seen.{seen, IsHeld}
use Rattle.prz_write.proofs.CallSteps.{seen_by}
use Rattle.prz_write.proofs.WholeMade.{same_steps, held_whole, stands_whole, stores_whole}
use Rattle.prz_write.proofs.progress.Progress.advance.Goals as goal

pub take_whole-requires : goal.take_whole-requires
take_whole-requires c =
    subst IsKept (sym (seen_by c.args.self.now c.line-line.result.now c.payload-payload.result.now
    c.requires.held.kind c.line-line.ensures.value c.payload-payload.ensures)) c.requires.held.kept

pub returns-in-Some-clause-held : goal.returns-in-Some-clause-held
returns-in-Some-clause-held c =
    held_whole c.args.self.now c.take_whole.new.self c.line-line.result.now c.payload-payload.result.now c.in-Some.whole
    c.args.count c.requires.held c.line-line.ensures.value c.payload-payload.ensures c.in-Some.ensures.kind
    c.in-Some.ensures.taken

pub returns-in-Some-clause-stands : goal.returns-in-Some-clause-stands
returns-in-Some-clause-stands c =
    stands_whole c.args.self.now c.take_whole.new.self c.line-line.result.now c.payload-payload.result.now
    c.in-Some.whole c.args.count c.requires.held c.line-line.ensures.value c.payload-payload.ensures
    c.in-Some.ensures.kind c.in-Some.ensures.taken c.args.spans.now c.make_whole.new.spans c.args.i c.requires.has
    c.make_whole.ensures

pub returns-in-Some-clause-stores : goal.returns-in-Some-clause-stores
returns-in-Some-clause-stores c =
    stores_whole c.args.self.now c.take_whole.new.self c.line-line.result.now c.payload-payload.result.now
    c.in-Some.whole c.args.count c.requires.held c.line-line.ensures.value c.payload-payload.ensures
    c.in-Some.ensures.kind c.in-Some.ensures.taken c.args.spans.now c.make_whole.new.spans c.args.i c.requires.has
    c.make_whole.ensures

pub make_stores-requires-clause-held : goal.make_stores-requires-clause-held
make_stores-requires-clause-held c =
    subst IsHeld (sym (same_steps c.args.self.now c.take_whole.new.self c.in-None.ensures.none)) c.requires.held

pub returns-in-None-clause-made : goal.returns-in-None-clause-made
returns-in-None-clause-made c =
    subst (λ (p : Progress). c.make_stores.new.self.steps.made ≡ min (p.steps.made + c.args.count) (total_of (seen p)))
    (same_steps c.args.self.now c.take_whole.new.self c.in-None.ensures.none) c.make_stores.ensures.made

pub returns-in-None-clause-stands : goal.returns-in-None-clause-stands
returns-in-None-clause-stands c = λ before stands.
    c.make_stores.ensures.stands before (subst (λ (p : Progress). StandsFor (seen p) (span c.args.spans.now c.args.i) before)
    (sym (same_steps c.args.self.now c.take_whole.new.self c.in-None.ensures.none)) stands)

pub returns-in-None-clause-stores : goal.returns-in-None-clause-stores
returns-in-None-clause-stores c = λ before stands.
    let e = same_steps c.args.self.now c.take_whole.new.self c.in-None.ensures.none in
    subst (λ (p : Progress). c.make_stores.new.spans ≡ stored c.args.spans.now c.args.i (take c.args.count
    (drop p.steps.made (call_stores p.steps.zone (call_seen p.call) before)))) e
    (c.make_stores.ensures.stores before (subst (λ (p : Progress). StandsFor (seen p) (span c.args.spans.now c.args.i)
    before) (sym e) stands))

pub returns-in-Some-clause-made : goal.returns-in-Some-clause-made
returns-in-Some-clause-made c =
    let took = c.in-Some.ensures.taken in
    let total = ap (λ (f : Flying). total_of f) (seen_by c.args.self.now c.line-line.result.now
    c.payload-payload.result.now c.requires.held.kind c.line-line.ensures.value c.payload-payload.ensures) in
    omega (arith, took.made, took.fresh, took.few, total)
