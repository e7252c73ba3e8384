-- The run handed out is the next of the block's corrections; if none differs the block has none
-- left. For `fix_block`.
use Rattle.std.proofs.Common.{◌≡◌, ◌≤◌, ◌+◌, ◌*◌, ◌<◌, ◌++◌, ℕ, List, [], length, false, true, refl, sym, ap, ap₂, ◌∙◌}
use Rattle.std.proofs.Common.{subst, arith}
use Rattle.zone_spec.specs.Parts.{AreBytes, Block, part_at}
use Rattle.zone_spec.specs.Stores.{Store}
use Rattle.zone_boot.specs.declared.boots.Phase.{Phase}
use Rattle.zone_boot.specs.declared.boots.Phase.TheVariants.{Blocks}
use Rattle.zone_boot.specs.Handed.{handed, IsRun}
use Rattle.zone_boot.specs.Left.{part_left}
use Rattle.zone_boot.specs.Booting.{most_made, IsPlace}
use Rattle.zone_boot.proofs.Blocks.{block-part, block-inside, block-facts}
use Rattle.zone_boot.proofs.PartRuns.{run-reads}
use Rattle.zone_boot.proofs.LaterStores.{part-run, left-min, left-end, passed-left, block-given, block-counts}
use Rattle.zone_boot.proofs.LaterStores.{not-empty}
use Rattle.zone_boot.proofs.BootHandOut.{gives, gives-nothing}
use Rattle.zone_boot.proofs.boots.Boot.fix_block.Goals as goal

pub bytes_at-stands-requires : goal.bytes_at-stands-requires
bytes_at-stands-requires c =
    let s = c.args.self.now in
    let z = s.zone in
    let x = c.args.image.now in
    let b : ℕ = s.block in
    let bytes : AreBytes x = (λ k. (c.type_inv.image k).fits) in
    let reads = c.requires.reads in
    let p = block-part z x b c.args.reads.now c.requires.valid c.requires.size bytes
    (block-inside z.block b s.count z.cap c.requires.kept.count c.requires.block) reads in
    let l = c.requires.size in
    omega (arith, p.3, l)

pub set_run-end-requires-clause-same : goal.set_run-end-requires-clause-same
set_run-end-requires-clause-same c =
    let s = c.args.self.now in
    let z = s.zone in
    let x = c.args.image.now in
    let b : ℕ = s.block in
    let bytes : AreBytes x = (λ k. (c.type_inv.image k).fits) in
    let reads = c.requires.reads in
    let f = block-facts z x b s.count c.args.reads.now c.bytes_at-stands.result.now c.requires.valid
    c.requires.size bytes c.requires.kept.count c.requires.block reads c.bytes_at-stands.ensures in
    f.0

pub set_run-end-requires-clause-few : goal.set_run-end-requires-clause-few
set_run-end-requires-clause-few c =
    let s = c.args.self.now in
    let z = s.zone in
    let x = c.args.image.now in
    let b : ℕ = s.block in
    let bytes : AreBytes x = (λ k. (c.type_inv.image k).fits) in
    let reads = c.requires.reads in
    let f = block-facts z x b s.count c.args.reads.now c.bytes_at-stands.result.now c.requires.valid
    c.requires.size bytes c.requires.kept.count c.requires.block reads c.bytes_at-stands.ensures in
    omega (arith, f.0, f.1)

pub set_run-end-requires-clause-from : goal.set_run-end-requires-clause-from
set_run-end-requires-clause-from c =
    let s = c.args.self.now in
    let z = s.zone in
    let x = c.args.image.now in
    let b : ℕ = s.block in
    let bytes : AreBytes x = (λ k. (c.type_inv.image k).fits) in
    let reads = c.requires.reads in
    let f = block-facts z x b s.count c.args.reads.now c.bytes_at-stands.result.now c.requires.valid
    c.requires.size bytes c.requires.kept.count c.requires.block reads c.bytes_at-stands.ensures in
    (let m = c.min-from.ensures in omega (arith, f.0, m))

pub returns-then-is_empty-clause-gives : goal.returns-then-is_empty-clause-gives
returns-then-is_empty-clause-gives c =
    let s = c.args.self.now in
    let z = s.zone in
    let x = c.args.image.now in
    let b : ℕ = s.block in
    let bytes : AreBytes x = (λ k. (c.type_inv.image k).fits) in
    let reads = c.requires.reads in
    let w : ℕ = s.within in
    let from : ℕ = c.min-from.result in
    let end : ℕ = c.set_run-end.result in
    let given : List Store = handed c.set_run-end.new.self in
    let f = block-facts z x b s.count c.args.reads.now c.bytes_at-stands.result.now c.requires.valid
    c.requires.size bytes c.requires.kept.count c.requires.block reads c.bytes_at-stands.ensures in
    let r = c.set_run-end.ensures in
    let m = c.min-from.ensures in
    let most : s.made ≤ most_made z b w Blocks =
    subst (λ (p : Phase). s.made ≤ most_made z b w p) c.requires.phase c.requires.kept.made in
    let place : IsPlace z b w s.count Blocks =
    subst (λ (p : Phase). IsPlace z b w s.count p) c.requires.phase c.requires.kept.place in
    let next : z.block * (b + 1) ≡ z.block * b + z.block = grind arith in
    let run : part_left z x (Block b) w ≡ given ++ part_left z x (Block b) end =
    left-min z x (Block b) w from (omega (arith, m, f.5))
    ∙ part-run z x (Block b) (12 + z.block * b) from end c.bytes_at-stands.result.now c.args.reads.now given
    refl f.4 reads r.stores in
    let inside = r.inside in
    let none : given ≡ [] = c.is_empty.ensures.0 c.if-is_empty.true in
    let last = r.some none in
    let done : part_left z x (Block b) w ≡ [] =
    run ∙ ap₂ (λ (u v : List Store). u ++ v) none (left-end z x (Block b) end (omega (arith, last, f.0, f.5))) in
    gives-nothing s x _ c.set_run-end.new.self none
    (passed-left z x b w s.count s.erasure s.phase c.requires.phase c.requires.block done) refl refl
    (record {
      count = c.requires.kept.count;
      place = subst (λ (p : Phase). IsPlace z (b + 1) 0 s.count p) (sym c.requires.phase)
          ((let l = c.requires.block in omega (arith, l)), omega arith);
      made = subst (λ (p : Phase). s.made ≤ most_made z (b + 1) 0 p) (sym c.requires.phase)
          (omega (arith, most, place.1, next));
    })
    (omega (arith, inside, f.0, f.3)) r.plain

pub returns-else-is_empty-clause-gives : goal.returns-else-is_empty-clause-gives
returns-else-is_empty-clause-gives c =
    let s = c.args.self.now in
    let z = s.zone in
    let x = c.args.image.now in
    let b : ℕ = s.block in
    let bytes : AreBytes x = (λ k. (c.type_inv.image k).fits) in
    let reads = c.requires.reads in
    let w : ℕ = s.within in
    let from : ℕ = c.min-from.result in
    let end : ℕ = c.set_run-end.result in
    let given : List Store = handed c.set_run-end.new.self in
    let f = block-facts z x b s.count c.args.reads.now c.bytes_at-stands.result.now c.requires.valid
    c.requires.size bytes c.requires.kept.count c.requires.block reads c.bytes_at-stands.ensures in
    let r = c.set_run-end.ensures in
    let m = c.min-from.ensures in
    let most : s.made ≤ most_made z b w Blocks =
    subst (λ (p : Phase). s.made ≤ most_made z b w p) c.requires.phase c.requires.kept.made in
    let place : IsPlace z b w s.count Blocks =
    subst (λ (p : Phase). IsPlace z b w s.count p) c.requires.phase c.requires.kept.place in
    let next : z.block * (b + 1) ≡ z.block * b + z.block = grind arith in
    let run : part_left z x (Block b) w ≡ given ++ part_left z x (Block b) end =
    left-min z x (Block b) w from (omega (arith, m, f.5))
    ∙ part-run z x (Block b) (12 + z.block * b) from end c.bytes_at-stands.result.now c.args.reads.now given
    refl f.4 reads r.stores in
    let inside = r.inside in
    let some : 0 < length given = not-empty given
    (λ h. (let t : false ≡ true = sym c.if-is_empty.false ∙ c.is_empty.ensures.1 h in cc)) in
    let few = r.few in
    let high = r.high in
    let same : from ≡ w = omega (arith, some, few, high, m, f.0) in
    let n = c.count.ensures in
    gives s x _ c.set_run-end.new.self given refl
    (block-given z x b w s.count s.erasure c.requires.valid (c.requires.size, bytes) given end s.phase c.requires.phase
    c.requires.block (omega (arith, same, m, f.5)) run
    (subst (λ (v : ℕ). IsRun (part_at z (Block b) + v) (part_at z (Block b) + end) given) same r.run))
    (block-counts z x b w s.count s.erasure c.requires.valid (c.requires.size, bytes) given end s.phase c.requires.phase
    c.requires.block (omega (arith, same, m, f.5)) run
    (subst (λ (v : ℕ). IsRun (part_at z (Block b) + v) (part_at z (Block b) + end) given) same r.run)) refl
    (ap (λ (k : ℕ). s.made + k) n)
    (record {
      count = c.requires.kept.count;
      place = subst (λ (p : Phase). IsPlace z b end s.count p) (sym c.requires.phase)
          (place.0, omega (arith, high, f.0, f.2));
      made = subst (λ (p : Phase). s.made + c.count.result ≤ most_made z b end p) (sym c.requires.phase)
          (omega (arith, most, n, few, same));
    })
    (omega (arith, inside, f.0, f.3)) r.plain

pub returns-then-is_empty-clause-keeps : goal.returns-then-is_empty-clause-keeps
returns-then-is_empty-clause-keeps c =
    let s = c.args.self.now in
    let z = s.zone in
    let x = c.args.image.now in
    let b : ℕ = s.block in
    let bytes : AreBytes x = (λ k. (c.type_inv.image k).fits) in
    let from : ℕ = c.min-from.result in
    let end : ℕ = c.set_run-end.result in
    let given : List Store = handed c.set_run-end.new.self in
    let f = block-facts z x b s.count c.args.reads.now c.bytes_at-stands.result.now c.requires.valid
    c.requires.size bytes c.requires.kept.count c.requires.block c.requires.reads c.bytes_at-stands.ensures in
    let r = c.set_run-end.ensures in
    let m = c.min-from.ensures in
    run-reads z c.requires.valid x (c.requires.size, bytes) (Block b) from end given (omega (arith, m, f.5))
    (part-run z x (Block b) (12 + z.block * b) from end c.bytes_at-stands.result.now c.args.reads.now given
    refl f.4 c.requires.reads r.stores) r.run

pub returns-else-is_empty-clause-keeps : goal.returns-else-is_empty-clause-keeps
returns-else-is_empty-clause-keeps c =
    let s = c.args.self.now in
    let z = s.zone in
    let x = c.args.image.now in
    let b : ℕ = s.block in
    let bytes : AreBytes x = (λ k. (c.type_inv.image k).fits) in
    let from : ℕ = c.min-from.result in
    let end : ℕ = c.set_run-end.result in
    let given : List Store = handed c.set_run-end.new.self in
    let f = block-facts z x b s.count c.args.reads.now c.bytes_at-stands.result.now c.requires.valid
    c.requires.size bytes c.requires.kept.count c.requires.block c.requires.reads c.bytes_at-stands.ensures in
    let r = c.set_run-end.ensures in
    let m = c.min-from.ensures in
    run-reads z c.requires.valid x (c.requires.size, bytes) (Block b) from end given (omega (arith, m, f.5))
    (part-run z x (Block b) (12 + z.block * b) from end c.bytes_at-stands.result.now c.args.reads.now given
    refl f.4 c.requires.reads r.stores) r.run

pub returns-else-is_empty-clause-next : goal.returns-else-is_empty-clause-next
returns-else-is_empty-clause-next c = λ e. absurd
    (let t : false ≡ true = sym c.if-is_empty.false ∙ c.is_empty.ensures.1 e in cc)

pub overflow_cast-reads : goal.overflow_cast-reads
overflow_cast-reads c =
    let s = c.args.self.now in
    let z = s.zone in
    let x = c.args.image.now in
    let bytes : AreBytes x = (λ k. (c.type_inv.image k).fits) in
    let p = block-part z x s.block c.args.reads.now c.requires.valid c.requires.size bytes
    (block-inside z.block s.block s.count z.cap c.requires.kept.count c.requires.block) c.requires.reads in
    let most = p.1 in
    omega (arith, most)
