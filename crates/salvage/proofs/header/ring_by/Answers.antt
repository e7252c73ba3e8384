-- Too many amends, a header of zeros, and a word that the sieve tells to be far are no ring; as many as can be
-- corrected ask for a codeword, and fewer are decoded. For `ring_by`.
use Rattle.std.proofs.Common.{◌≡◌, ℕ, ◌-◌, ◌/◌, List, length, arith, refl, ap, ◌∙◌, subst, Option, Some}
use Rattle.zone_spec.specs.declared.Zone.{Zone}
use Rattle.salvage_laws.specs.Known.{known}
use Rattle.salvage.specs.Sieves.{Sifted, IsSieveOf}
use Rattle.salvage.proofs.HeaderSums.{probe_far, probe_is, probe_many, probe_near, zeros_none}
use Rattle.salvage.proofs.header.ring_by.Goals as goal

sieve_of : (z : Zone) (o : Option Sifted) (s : Sifted) → o ≡ Some s → IsSieveOf z o
    → (s.known ≡ known z) × (s.parity ≡ z.parity)
sieve_of z o s e h = subst (IsSieveOf z) e h

pub returns-then-most-amends : goal.returns-then-most-amends
returns-then-most-amends c = probe_many _ c.args.at _ _ _ _ (probe_is c.args.zone.now c.args.header.now
    c.args.parity.now c.amend-amends.new.bytes
    c.copy_from_slice.new.self c.args.expected.now c.amend-amends.result c.requires.valid
    (λ k. (c.type_inv.header k).fits) (λ k. (c.type_inv.parity k).fits) c.requires.len c.requires.parity
    c.requires.expected c.copy_from_slice.ensures.after c.amend-amends.ensures.bytes c.amend-amends.ensures.count)
    c.if-most-amends.true

pub returns-then-most-amends-2 : goal.returns-then-most-amends-2
returns-then-most-amends-2 c = probe_near _ c.args.at _ _ _ _ (probe_is c.args.zone.now c.args.header.now
    c.args.parity.now c.amend-amends.new.bytes
    c.copy_from_slice.new.self c.args.expected.now c.amend-amends.result c.requires.valid
    (λ k. (c.type_inv.header k).fits) (λ k. (c.type_inv.parity k).fits) c.requires.len c.requires.parity
    c.requires.expected c.copy_from_slice.ensures.after c.amend-amends.ensures.bytes c.amend-amends.ensures.count)
    _ 0 (length c.args.parity.now) (omega arith) (omega arith) c.requires.parity c.ring_as_amended.ensures

pub returns-then-are_zeros-2 : goal.returns-then-are_zeros-2
returns-then-are_zeros-2 c = zeros_none c.args.zone.now c.args.at c.args.header.now c.args.parity.now c.requires.len
    (c.are_zeros.ensures.0 c.if-are_zeros.true) (c.are_zeros-then-are_zeros.ensures.0 c.if-are_zeros-2.true)

pub returns-then-is_far : goal.returns-then-is_far
returns-then-is_far c =
    let of = sieve_of c.args.zone.now c.args.sieve.now c.in-Some.sieve c.in-Some.is c.requires.sieve in
    probe_far _ c.args.at _ _ _ _ (probe_is c.args.zone.now c.args.header.now
    c.args.parity.now c.amend-amends.new.bytes
    c.copy_from_slice.new.self c.args.expected.now c.amend-amends.result c.requires.valid
    (λ k. (c.type_inv.header k).fits) (λ k. (c.type_inv.parity k).fits) c.requires.len c.requires.parity
    c.requires.expected c.copy_from_slice.ensures.after c.amend-amends.ensures.bytes c.amend-amends.ensures.count)
    c.in-Some.sieve.known c.in-Some.sieve.parity _ c.as_slice.result.now of.0 of.1
    (c.as_slice.ensures.value ∙ c.joined.ensures) refl (c.is_far.ensures c.if-is_far.true)

pub ring_within-requires-clause-amends : goal.ring_within-requires-clause-amends
ring_within-requires-clause-amends c = omega (
  arith,
  c.amend-amends.ensures.most,
  ap (λ (h : List ℕ). length h) c.copy_from_slice.ensures.after,
  c.requires.len,
)

pub returns : goal.returns
returns c = probe_near _ c.args.at _ _ _ _ (probe_is c.args.zone.now c.args.header.now
    c.args.parity.now c.amend-amends.new.bytes
    c.copy_from_slice.new.self c.args.expected.now c.amend-amends.result c.requires.valid
    (λ k. (c.type_inv.header k).fits) (λ k. (c.type_inv.parity k).fits) c.requires.len c.requires.parity
    c.requires.expected c.copy_from_slice.ensures.after c.amend-amends.ensures.bytes c.amend-amends.ensures.count)
    _ (c.args.zone.now.parity / 2 - c.amend-amends.result) (length c.args.parity.now) (omega arith) refl
    c.requires.parity
    c.ring_within.ensures
