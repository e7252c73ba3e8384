-- The header's parity is handed out as the last stores; without parity there are none. For
-- `give_parity`.
use Rattle.std.proofs.Common.{◌≡◌, ◌≤◌, ◌+◌, ◌*◌, ℕ, length, refl, ap, ◌∙◌, subst, arith}
use Rattle.ring_laws.proofs.StoreCounts.{length-byte_stores}
use Rattle.code_spec.specs.Code.{parity_of}
use Rattle.zone_spec.specs.Parts.{Header, part_bytes, part_parity_at}
use Rattle.zone_spec.specs.Stores.{byte_stores}
use Rattle.zone_boot.specs.declared.boots.Phase.{Phase}
use Rattle.zone_boot.specs.declared.boots.Phase.TheVariants.{Parity}
use Rattle.zone_boot.specs.Handed.{handed}
use Rattle.zone_boot.specs.Booting.{most_made}
use Rattle.zone_boot.proofs.BootHandOut.{left-in, left-parity, parity-none, parity-long, counts-parity, gives}
use Rattle.zone_boot.proofs.boots.Boot.give_parity.Goals as goal

stores : (c : goal.After-self-2-1) → handed c.set_bytes.new.self
    ≡ byte_stores (part_parity_at c.args.self.now.zone Header) (parity_of c.args.self.now.zone.parity
    (part_bytes c.args.self.now.zone c.args.image.now Header))
stores c = c.set_bytes.ensures.handed
    ∙ ap (byte_stores (part_parity_at c.args.self.now.zone Header)) (c.as_slice.ensures.value ∙ c.header_parity.ensures)

made : (c : goal.After-self-2-1) → c.args.self.now.made
    ≤ most_made c.args.self.now.zone c.args.self.now.block c.args.self.now.within Parity
made c = subst (λ (p : Phase). c.args.self.now.made
    ≤ most_made c.args.self.now.zone c.args.self.now.block c.args.self.now.within p) c.requires.phase
    c.requires.kept.made

bytes : (c : goal.After-self-2-1) → length c.as_slice.result.now ≡ c.args.self.now.zone.parity
bytes c = ap length (c.as_slice.ensures.value ∙ c.header_parity.ensures)
    ∙ parity-long c.args.self.now.zone c.args.image.now (λ k. (c.type_inv.image k).fits)

long : (c : goal.After-self-2-1) → length (handed c.set_bytes.new.self) ≡ c.args.self.now.zone.parity
long c = ap length c.set_bytes.ensures.handed ∙ length-byte_stores _ _ ∙ bytes c

pub overflow_add-self : goal.overflow_add-self
overflow_add-self c =
    let b = c.args.self.now in
    let m : b.made ≤ most_made b.zone b.block b.within Parity =
    subst (λ (p : Phase). b.made ≤ most_made b.zone b.block b.within p) c.requires.phase c.requires.kept.made in
    let l = ap length c.set_bytes.ensures.handed
    ∙ length-byte_stores (part_parity_at b.zone Header) c.as_slice.result.now
    ∙ ap length (c.as_slice.ensures.value ∙ c.header_parity.ensures)
    ∙ parity-long b.zone c.args.image.now (λ k. (c.type_inv.image k).fits) in
    let n = c.count.ensures in
    let p = c.requires.valid.parity in
    let k = c.requires.valid.cap in
    let t = c.requires.valid.at_most in
    let v : b.zone.block ≤ 128 = (let w = c.requires.valid.block in grind (arith, w)) in
    omega (arith, m, l, n, p, k, t, v)

pub returns-clause-gives : goal.returns-clause-gives
returns-clause-gives c =
    let s = c.args.self.now in
    let x = c.args.image.now in
    let m = made c in
    let l = long c in
    let b = bytes c in
    let k = c.requires.valid.cap in
    let i = c.set_bytes.ensures.len in
    let next : (s.zone.blocks + 1) * s.zone.parity ≡ s.zone.blocks * s.zone.parity + s.zone.parity = grind arith in
    gives s x _ c.set_bytes.new.self (handed c.set_bytes.new.self) refl
    (left-in s.zone x s.block s.within s.count s.erasure s.phase Parity c.requires.phase
    ∙ left-parity s.zone x s.block s.within s.count s.erasure (handed c.set_bytes.new.self) (stores c))
    (λ m. ap length (left-in s.zone x s.block s.within s.count s.erasure s.phase Parity c.requires.phase)
    ∙ counts-parity s.zone c.requires.valid x (λ k. (c.type_inv.image k).fits) s.block s.within s.count s.erasure
    (handed c.set_bytes.new.self) (stores c) l m) refl
    (ap (λ (n : ℕ). s.made + n) c.count.ensures)
    (record {
      count = c.requires.kept.count;
      place = tt;
      made = (let n = c.count.ensures in omega (arith, m, l, n));
    })
    (omega (arith, i, b, k, next)) c.set_bytes.ensures.plain

pub returns-clause-some : goal.returns-clause-some
returns-clause-some c = λ none.
    let s = c.args.self.now in
    left-in s.zone c.args.image.now s.block s.within s.count s.erasure s.phase Parity c.requires.phase
    ∙ parity-none s.zone c.args.image.now s.block s.within s.count s.erasure (handed c.set_bytes.new.self) (stores c)
    none
