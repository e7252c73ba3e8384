-- The bytes of a leg are those of the line, the payload or the body from `from` on, inside the
-- lent bytes. For `give_payload`.
use Rattle.std.proofs.Common.{◌≡◌, ℕ, ◌+◌, ◌≤◌, length, sym, ap, ◌∙◌, subst, take, drop, arith}
use Rattle.zone_spec.specs.Stores.{byte_stores}
use Rattle.zone_spec.specs.Told.{Call}
use Rattle.store_steps.specs.Calls.{call_of, leg_bytes}
use Rattle.store_steps.specs.Handed.{handed, IsInside}
use Rattle.store_steps.specs.declared.place.Leg.{Leg}
use Rattle.store_steps.specs.declared.place.Leg.TheVariants.{Payload, Line, Body}
use Rattle.store_steps.proofs.HandOut.{erasure_none, line_within, front_within, last_within, erasure_part, line_part}
use Rattle.store_steps.proofs.HandOut.{front_part, last_part, last_fits}
use Rattle.store_steps.proofs.steps.Steps.give_payload.Goals as goal

-- the requirement at the leg that it is
at_leg : (cap : ℕ) (call : Call) (leg q : Leg) (m : ℕ) → leg ≡ q → m ≤ length (leg_bytes cap call leg)
    → m ≤ length (leg_bytes cap call q)
at_leg cap call leg q m e h = subst (λ l. m ≤ length (leg_bytes cap call l)) e h

-- and its bytes
of_leg : (cap : ℕ) (call : Call) (leg q : Leg) (at from n : ℕ) → leg ≡ q
    → byte_stores at (take n (drop from (leg_bytes cap call q)))
    ≡ byte_stores at (take n (drop from (leg_bytes cap call leg)))
of_leg cap call leg q at from n e = ap (λ l. byte_stores at (take n (drop from (leg_bytes cap call l)))) (sym e)

pub overflow_add-skipped : goal.overflow_add-skipped
overflow_add-skipped c =
    let s = c.args.self.now in
    let fits = last_fits s.kind c.args.line.now c.args.payload.now s.zone.cap c.skipped-skipped.result c.args.from
    c.args.count c.skipped-skipped.ensures.append c.skipped-skipped.ensures.most
    (at_leg s.zone.cap (call_of s.kind c.args.line.now c.args.payload.now) s.place.leg Payload
    (c.args.from + c.args.count) c.in-Payload.is c.requires.from) in
    omega (arith, fits, c.skipped-skipped.ensures.fits)

pub returns-in-Erasure-clause-stores : goal.returns-in-Erasure-clause-stores
returns-in-Erasure-clause-stores c =
    let s = c.args.self.now in
    let call : Call = call_of s.kind c.args.line.now c.args.payload.now in
    ap (λ o. handed o c.args.line.now c.args.payload.now) c.set_bytes.ensures
    ∙ ap (byte_stores c.args.at) (erasure_part s.zone.cap call s.place.leg c.args.from c.args.count
    (drop c.args.from c.args.line.now) c.in-Erasure.is c.requires.from)

pub returns-in-Line-clause-stores : goal.returns-in-Line-clause-stores
returns-in-Line-clause-stores c =
    let s = c.args.self.now in
    let call : Call = call_of s.kind c.args.line.now c.args.payload.now in
    ap (λ o. handed o c.args.line.now c.args.payload.now) c.set_bytes-in-Line.ensures
    ∙ ap (byte_stores c.args.at) (line_part s.kind c.args.line.now c.args.payload.now c.args.from c.args.count
    (at_leg s.zone.cap call s.place.leg Line (c.args.from + c.args.count) c.in-Line.is c.requires.from))
    ∙ of_leg s.zone.cap call s.place.leg Line c.args.at c.args.from c.args.count c.in-Line.is

pub returns-in-Payload-clause-stores : goal.returns-in-Payload-clause-stores
returns-in-Payload-clause-stores c =
    let s = c.args.self.now in
    let call : Call = call_of s.kind c.args.line.now c.args.payload.now in
    ap (λ o. handed o c.args.line.now c.args.payload.now) c.set_bytes-in-Payload.ensures
    ∙ ap (byte_stores c.args.at) (last_part s.kind c.args.line.now c.args.payload.now s.zone.cap
    c.skipped-skipped.result c.args.from c.args.count c.skipped-skipped.ensures.append
    (at_leg s.zone.cap call s.place.leg Payload (c.args.from + c.args.count) c.in-Payload.is c.requires.from))
    ∙ of_leg s.zone.cap call s.place.leg Payload c.args.at c.args.from c.args.count c.in-Payload.is

pub returns-in-Body-clause-stores : goal.returns-in-Body-clause-stores
returns-in-Body-clause-stores c =
    let s = c.args.self.now in
    let call : Call = call_of s.kind c.args.line.now c.args.payload.now in
    ap (λ o. handed o c.args.line.now c.args.payload.now) c.set_bytes-in-Body.ensures
    ∙ ap (byte_stores c.args.at) (front_part s.kind c.args.line.now c.args.payload.now s.zone.cap c.args.from
    c.args.count
    (at_leg s.zone.cap call s.place.leg Body (c.args.from + c.args.count) c.in-Body.is c.requires.from))
    ∙ of_leg s.zone.cap call s.place.leg Body c.args.at c.args.from c.args.count c.in-Body.is

pub returns-in-Erasure-clause-inside : goal.returns-in-Erasure-clause-inside
returns-in-Erasure-clause-inside c =
    let s = c.args.self.now in
    let call : Call = call_of s.kind c.args.line.now c.args.payload.now in
    subst (λ o. IsInside s.zone.size o c.args.line.now c.args.payload.now) (sym c.set_bytes.ensures) (record {
      place = c.requires.at;
      bytes = (let z = erasure_none s.zone.cap call s.place.leg (c.args.from + c.args.count) c.in-Erasure.is c.requires.from in omega (arith, z));
    })

pub returns-in-Line-clause-inside : goal.returns-in-Line-clause-inside
returns-in-Line-clause-inside c =
    let s = c.args.self.now in
    let call : Call = call_of s.kind c.args.line.now c.args.payload.now in
    subst (λ o. IsInside s.zone.size o c.args.line.now c.args.payload.now) (sym c.set_bytes-in-Line.ensures) (record {
      place = c.requires.at;
      bytes = line_within s.kind c.args.line.now c.args.payload.now (c.args.from + c.args.count)
          (at_leg s.zone.cap call s.place.leg Line (c.args.from + c.args.count) c.in-Line.is c.requires.from);
    })

pub returns-in-Payload-clause-inside : goal.returns-in-Payload-clause-inside
returns-in-Payload-clause-inside c =
    let s = c.args.self.now in
    let call : Call = call_of s.kind c.args.line.now c.args.payload.now in
    subst (λ o. IsInside s.zone.size o c.args.line.now c.args.payload.now) (sym c.set_bytes-in-Payload.ensures) (record {
      place = c.requires.at;
      bytes = last_within s.kind c.args.line.now c.args.payload.now s.zone.cap c.skipped-skipped.result c.args.from
          c.args.count c.skipped-skipped.ensures.append c.skipped-skipped.ensures.most
          (at_leg s.zone.cap call s.place.leg Payload (c.args.from + c.args.count) c.in-Payload.is c.requires.from);
    })

pub returns-in-Body-clause-inside : goal.returns-in-Body-clause-inside
returns-in-Body-clause-inside c =
    let s = c.args.self.now in
    let call : Call = call_of s.kind c.args.line.now c.args.payload.now in
    subst (λ o. IsInside s.zone.size o c.args.line.now c.args.payload.now) (sym c.set_bytes-in-Body.ensures) (record {
      place = c.requires.at;
      bytes = front_within s.kind c.args.line.now c.args.payload.now s.zone.cap (c.args.from + c.args.count)
          (at_leg s.zone.cap call s.place.leg Body (c.args.from + c.args.count) c.in-Body.is c.requires.from);
    })
