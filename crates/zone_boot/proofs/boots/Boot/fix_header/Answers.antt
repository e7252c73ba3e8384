-- The run handed out is the next of the header's corrections; if none differs the header has none left.
-- For `fix_header`.
use Rattle.std.proofs.Common.{◌≡◌, ◌≤◌, ◌+◌, ◌++◌, ℕ, List, [], length, false, true, refl, sym, ap, ap₂, ◌∙◌, subst}
use Rattle.std.proofs.Common.{arith}
use Rattle.zone_spec.specs.Parts.{AreBytes, Header, part_bytes}
use Rattle.zone_spec.specs.Stores.{Store}
use Rattle.zone_boot.specs.declared.boots.Phase.{Phase}
use Rattle.zone_boot.specs.declared.boots.Phase.TheVariants.{Header as HeaderPhase}
use Rattle.zone_boot.specs.Handed.{handed}
use Rattle.zone_boot.specs.Left.{part_left}
use Rattle.zone_boot.specs.Booting.{most_made, IsPlace}
use Rattle.zone_boot.proofs.Blocks.{header-facts}
use Rattle.zone_boot.proofs.PartRuns.{run-reads}
use Rattle.zone_boot.proofs.LaterStores.{part-run, left-end, header-left, header-given, header-counts}
use Rattle.zone_boot.proofs.BootHandOut.{gives, gives-nothing}
use Rattle.zone_boot.proofs.boots.Boot.fix_header.Goals as goal

pub set_run-end-requires-clause-same : goal.set_run-end-requires-clause-same
set_run-end-requires-clause-same c =
    let s = c.args.self.now in
    let z = s.zone in
    let x = c.args.image.now in
    let bytes : AreBytes x = (λ k. (c.type_inv.image k).fits) in
    let f = header-facts z x c.args.reads.now c.bytes_at-stands.result.now c.requires.valid c.requires.size bytes
    c.requires.reads c.bytes_at-stands.ensures in
    f.0

pub set_run-end-requires-clause-few : goal.set_run-end-requires-clause-few
set_run-end-requires-clause-few c =
    let s = c.args.self.now in
    let z = s.zone in
    let x = c.args.image.now in
    let bytes : AreBytes x = (λ k. (c.type_inv.image k).fits) in
    let f = header-facts z x c.args.reads.now c.bytes_at-stands.result.now c.requires.valid c.requires.size bytes
    c.requires.reads c.bytes_at-stands.ensures in
    omega (arith, f.1)

pub set_run-end-requires-clause-from : goal.set_run-end-requires-clause-from
set_run-end-requires-clause-from c =
    let s = c.args.self.now in
    let z = s.zone in
    let x = c.args.image.now in
    let bytes : AreBytes x = (λ k. (c.type_inv.image k).fits) in
    let f = header-facts z x c.args.reads.now c.bytes_at-stands.result.now c.requires.valid c.requires.size bytes
    c.requires.reads c.bytes_at-stands.ensures in
    let place : IsPlace z s.block s.within s.count HeaderPhase =
    subst (λ (p : Phase). IsPlace z s.block s.within s.count p) c.requires.phase c.requires.kept.place in
    omega (arith, f.1, place)

pub set_run-end-requires-clause-place : goal.set_run-end-requires-clause-place
set_run-end-requires-clause-place c =
    let s = c.args.self.now in
    let z = s.zone in
    let x = c.args.image.now in
    let bytes : AreBytes x = (λ k. (c.type_inv.image k).fits) in
    let f = header-facts z x c.args.reads.now c.bytes_at-stands.result.now c.requires.valid c.requires.size bytes
    c.requires.reads c.bytes_at-stands.ensures in
    omega (arith, f.1)

pub returns-then-is_empty-clause-gives : goal.returns-then-is_empty-clause-gives
returns-then-is_empty-clause-gives c =
    let s = c.args.self.now in
    let z = s.zone in
    let x = c.args.image.now in
    let w : ℕ = s.within in
    let end : ℕ = c.set_run-end.result in
    let given : List Store = handed c.set_run-end.new.self in
    let bytes : AreBytes x = (λ k. (c.type_inv.image k).fits) in
    let f = header-facts z x c.args.reads.now c.bytes_at-stands.result.now c.requires.valid c.requires.size bytes
    c.requires.reads c.bytes_at-stands.ensures in
    let r = c.set_run-end.ensures in
    let place : IsPlace z s.block w s.count HeaderPhase =
    subst (λ (p : Phase). IsPlace z s.block w s.count p) c.requires.phase c.requires.kept.place in
    let within : w ≤ length (part_bytes z x Header) = omega (arith, place, f.3) in
    let run : part_left z x Header w ≡ given ++ part_left z x Header end =
    part-run z x Header 0 w end c.bytes_at-stands.result.now c.args.reads.now given refl f.2 c.requires.reads r.stores in
    let none : given ≡ [] = c.is_empty.ensures.0 c.if-is_empty.true in
    let last = r.some none in
    let done : part_left z x Header w ≡ [] =
    run ∙ ap₂ (λ (u v : List Store). u ++ v) none (left-end z x Header end (omega (arith, last, f.1, f.3))) in
    let most : s.made ≤ most_made z s.block w HeaderPhase =
    subst (λ (p : Phase). s.made ≤ most_made z s.block w p) c.requires.phase c.requires.kept.made in
    let inside = r.inside in
    let t = c.requires.valid.at_least in
    gives-nothing s x _ c.set_run-end.new.self none
    (sym (header-left z x s.block w s.count s.erasure s.phase c.requires.phase done)) refl refl
    (record {
      count = c.requires.kept.count;
      place = (omega arith, omega arith);
      made = omega (arith, most, place);
    })
    (omega (arith, inside, f.1, t)) r.plain

pub returns-then-is_empty-clause-keeps : goal.returns-then-is_empty-clause-keeps
returns-then-is_empty-clause-keeps c =
    let s = c.args.self.now in
    let z = s.zone in
    let x = c.args.image.now in
    let w : ℕ = s.within in
    let end : ℕ = c.set_run-end.result in
    let given : List Store = handed c.set_run-end.new.self in
    let bytes : AreBytes x = (λ k. (c.type_inv.image k).fits) in
    let f = header-facts z x c.args.reads.now c.bytes_at-stands.result.now c.requires.valid c.requires.size bytes
    c.requires.reads c.bytes_at-stands.ensures in
    let r = c.set_run-end.ensures in
    let place : IsPlace z s.block w s.count HeaderPhase =
    subst (λ (p : Phase). IsPlace z s.block w s.count p) c.requires.phase c.requires.kept.place in
    let within : w ≤ length (part_bytes z x Header) = omega (arith, place, f.3) in
    let run : part_left z x Header w ≡ given ++ part_left z x Header end =
    part-run z x Header 0 w end c.bytes_at-stands.result.now c.args.reads.now given refl f.2 c.requires.reads r.stores in
    run-reads z c.requires.valid x (c.requires.size, bytes) Header w end given within run r.run

pub returns-else-is_empty-clause-keeps : goal.returns-else-is_empty-clause-keeps
returns-else-is_empty-clause-keeps c =
    let s = c.args.self.now in
    let z = s.zone in
    let x = c.args.image.now in
    let w : ℕ = s.within in
    let end : ℕ = c.set_run-end.result in
    let given : List Store = handed c.set_run-end.new.self in
    let bytes : AreBytes x = (λ k. (c.type_inv.image k).fits) in
    let f = header-facts z x c.args.reads.now c.bytes_at-stands.result.now c.requires.valid c.requires.size bytes
    c.requires.reads c.bytes_at-stands.ensures in
    let r = c.set_run-end.ensures in
    let place : IsPlace z s.block w s.count HeaderPhase =
    subst (λ (p : Phase). IsPlace z s.block w s.count p) c.requires.phase c.requires.kept.place in
    let within : w ≤ length (part_bytes z x Header) = omega (arith, place, f.3) in
    let run : part_left z x Header w ≡ given ++ part_left z x Header end =
    part-run z x Header 0 w end c.bytes_at-stands.result.now c.args.reads.now given refl f.2 c.requires.reads r.stores in
    run-reads z c.requires.valid x (c.requires.size, bytes) Header w end given within run r.run

pub returns-else-is_empty-clause-next : goal.returns-else-is_empty-clause-next
returns-else-is_empty-clause-next c = λ e. absurd
    (let t : false ≡ true = sym c.if-is_empty.false ∙ c.is_empty.ensures.1 e in cc)

pub returns-else-is_empty-clause-gives : goal.returns-else-is_empty-clause-gives
returns-else-is_empty-clause-gives c =
    let s = c.args.self.now in
    let z = s.zone in
    let x = c.args.image.now in
    let w : ℕ = s.within in
    let end : ℕ = c.set_run-end.result in
    let given : List Store = handed c.set_run-end.new.self in
    let bytes : AreBytes x = (λ k. (c.type_inv.image k).fits) in
    let f = header-facts z x c.args.reads.now c.bytes_at-stands.result.now c.requires.valid c.requires.size bytes
    c.requires.reads c.bytes_at-stands.ensures in
    let r = c.set_run-end.ensures in
    let place : IsPlace z s.block w s.count HeaderPhase =
    subst (λ (p : Phase). IsPlace z s.block w s.count p) c.requires.phase c.requires.kept.place in
    let within : w ≤ length (part_bytes z x Header) = omega (arith, place, f.3) in
    let run : part_left z x Header w ≡ given ++ part_left z x Header end =
    part-run z x Header 0 w end c.bytes_at-stands.result.now c.args.reads.now given refl f.2 c.requires.reads r.stores in
    let most : s.made ≤ most_made z s.block w HeaderPhase =
    subst (λ (p : Phase). s.made ≤ most_made z s.block w p) c.requires.phase c.requires.kept.made in
    let few = r.few in
    let high = r.high in
    let inside = r.inside in
    let n = c.count.ensures in
    let t = c.requires.valid.at_least in
    gives s x _ c.set_run-end.new.self given refl
    (header-given z x s.block w s.count s.erasure c.requires.valid (c.requires.size, bytes) given end s.phase
    c.requires.phase within run r.run)
    (header-counts z x s.block w s.count s.erasure c.requires.valid (c.requires.size, bytes) given end s.phase
    c.requires.phase within run r.run) refl
    (ap (λ (k : ℕ). s.made + k) n)
    (record {
      count = c.requires.kept.count;
      place = subst (λ (p : Phase). IsPlace z s.block end s.count p) (sym c.requires.phase)
          (omega (arith, high, f.1));
      made = subst (λ (p : Phase). s.made + c.count.result ≤ most_made z s.block end p) (sym c.requires.phase)
          (omega (arith, most, n, few));
    })
    (omega (arith, inside, f.1, t)) r.plain
