-- What is handed out and made takes the flight on: it stands for the span's new bytes, and
-- they are the call's next. For `make_next`.
use Rattle.std.proofs.Common.{◌≡◌, List, ℕ, ◌-◌, take, drop, refl, sym, ap, ap₂, ◌∙◌, subst, arith}
use Rattle.std.proofs.lemmas.Grind.{common_steps}
use Rattle.zone_spec.specs.Stores.{Store, after_stores}
use Rattle.zone_spec.specs.Calls.{call_stores}
use Rattle.prz_region.specs.CutRegion.{CutRegion, span, stored}
use Rattle.prz_region.proofs.Cuts.{span-stored}
use Rattle.prz_write.specs.declared.progress.Progress.{Progress}
use Rattle.store_steps.specs.Flying.{Flying, flying}
use Rattle.store_steps.specs.Handed.{handed, handed_count}
use Rattle.store_steps.specs.Machine.{IsKept, StandsFor, IsAlike}
use Rattle.prz_write.specs.Seen.{seen}
use Rattle.prz_write.proofs.CallSteps.{seen_by}
use Rattle.prz_write.proofs.progress.Progress.make_next.Goals as goal

-- the flight before and after the stores
abbrev later : goal.After-make → Progress
later c = record { steps = c.next.new.self; call = c.args.self.now.call }

abbrev was_seen : (c : goal.After-make)
    → flying c.args.self.now.steps c.line-line.result.now c.payload-payload.result.now ≡ seen c.args.self.now
was_seen c = seen_by c.args.self.now c.line-line.result.now c.payload-payload.result.now c.requires.held.kind
    c.line-line.ensures.value c.payload-payload.ensures

abbrev is_seen : (c : goal.After-make)
    → flying c.next.new.self c.line-line.result.now c.payload-payload.result.now ≡ seen (later c)
is_seen c = seen_by (later c) c.line-line.result.now c.payload-payload.result.now
    (c.next.ensures.kind ∙ c.requires.held.kind) c.line-line.ensures.value c.payload-payload.ensures

-- the span after them
span_is : (c : goal.After-make) → span c.make.new.spans c.args.i ≡ after_stores (span c.args.spans.now c.args.i)
    (handed c.next.new.out c.line-line.result.now c.payload-payload.result.now)
span_is c = ap (λ (x : CutRegion). span x c.args.i) c.make.ensures ∙ span-stored c.args.spans.now c.args.i _ c.requires.has

-- the image that the steps were lent is the span
image_is : (c : goal.After-make) → c.bytes-image.result.now ≡ span c.args.spans.now c.args.i
image_is c = grind (arith, common_steps, c.index-all-i.is, c.all.ensures, c.bytes-image.ensures)

-- the flight before them, on that image
begun_on : (c : goal.After-make) (before : List ℕ) → StandsFor (seen c.args.self.now) (span c.args.spans.now c.args.i) before
    → StandsFor (flying c.args.self.now.steps c.line-line.result.now c.payload-payload.result.now)
    c.bytes-image.result.now before
begun_on c before stands =
    subst (λ (x : List ℕ). StandsFor (flying c.args.self.now.steps c.line-line.result.now c.payload-payload.result.now) x
    before) (sym (image_is c))
    (subst (λ (f : Flying). StandsFor f (span c.args.spans.now c.args.i) before) (sym (was_seen c)) stands)

itself : (c : goal.After-make) → IsAlike
    (flying c.args.self.now.steps c.line-line.result.now c.payload-payload.result.now) c.bytes-image.result.now
    c.bytes-image.result.now
itself c = record { bytes = λ h. h; parity = λ _. refl }

pub next-requires-clause-kept : goal.next-requires-clause-kept
next-requires-clause-kept c =
    subst IsKept (sym (seen_by c.args.self.now c.line-line.result.now c.payload-payload.result.now
    c.requires.held.kind c.line-line.ensures.value c.payload-payload.ensures)) c.requires.held.kept

pub returns-clause-held : goal.returns-clause-held
returns-clause-held c = record {
  kept = subst IsKept (is_seen c) c.next.ensures.kept;
  kind = c.next.ensures.kind ∙ c.requires.held.kind;
  line = c.requires.held.line;
}

pub returns-clause-stands : goal.returns-clause-stands
returns-clause-stands c = λ before stands.
    let line : List ℕ = c.line-line.result.now in
    let payload : List ℕ = c.payload-payload.result.now in
    let image = image_is c in
    let begun = begun_on c before stands in
    subst (λ (x : List ℕ). StandsFor (seen (later c)) x before)
    (ap (λ (x : List ℕ). after_stores x (handed c.next.new.out line payload)) image ∙ sym (span_is c))
    (subst (λ (f : Flying). StandsFor f (after_stores c.bytes-image.result.now (handed c.next.new.out line payload)) before)
    (is_seen c) (c.next.ensures.stands c.bytes-image.result.now before (itself c) begun))

pub returns-clause-stores : goal.returns-clause-stores
returns-clause-stores c = λ before stands.
    let line : List ℕ = c.line-line.result.now in
    let payload : List ℕ = c.payload-payload.result.now in
    let n : c.next.new.self.made - c.args.self.now.steps.made ≡ handed_count c.next.new.out line payload =
    omega (arith, c.next.ensures.made) in
    c.make.ensures ∙ ap (λ (ss : List Store). stored c.args.spans.now c.args.i ss)
    (c.next.ensures.handed c.bytes-image.result.now before (itself c) (begun_on c before stands)
    ∙ ap₂ (λ (k : ℕ) (f : Flying). take k (drop c.args.self.now.steps.made
    (call_stores c.args.self.now.steps.zone f.call before))) (sym n) (was_seen c))

pub returns-clause-count : goal.returns-clause-count
returns-clause-count c = record {
  stores = handed c.next.new.out c.line-line.result.now c.payload-payload.result.now;
  count = omega (arith, c.next.ensures.made);
  made = c.make.ensures;
}
