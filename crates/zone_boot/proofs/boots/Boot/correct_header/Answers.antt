-- Where the header has no correction left the blocks follow. For `correct_header`.
use Rattle.std.proofs.Common.{[], ◌≡◌, ◌∙◌, sym, false, true}
use Rattle.zone_boot.specs.Handed.{handed}
use Rattle.zone_boot.proofs.BootStart.{header-reads}
use Rattle.zone_boot.proofs.BootHandOut.{gives-none, gives-made, gives-after}
use Rattle.zone_boot.proofs.boots.Boot.correct_header.Goals as goal

pub fix_header-requires-clause-reads : goal.fix_header-requires-clause-reads
fix_header-requires-clause-reads c =
    (header-reads c.args.self.now.zone c.args.image.now c.read_header-header.result.words c.as_slice.result.now
    c.requires.valid c.requires.size (λ k. (c.type_inv.image k).fits) c.read_header-header.ensures.words
    (c.as_slice.ensures.value ∙ c.bytes_of-reads.ensures)).0

pub returns-then-is_empty-clause-gives : goal.returns-then-is_empty-clause-gives
returns-then-is_empty-clause-gives c =
    let g = c.fix_header.ensures.gives in
    let none : handed c.fix_header.new.out ≡ [] = c.is_empty.ensures.0 c.if-is_empty.true in
    gives-after _ _ _ _ c.args.self.now (gives-none _ _ _ _ g none) g.zone (gives-made _ _ _ _ g none)
    c.correct_blocks.ensures.gives

pub returns-then-is_empty-clause-some : goal.returns-then-is_empty-clause-some
returns-then-is_empty-clause-some c = λ e.
    let g = c.fix_header.ensures.gives in
    let none : handed c.fix_header.new.out ≡ [] = c.is_empty.ensures.0 c.if-is_empty.true in
    gives-none _ _ _ _ g none ∙ c.correct_blocks.ensures.some e

pub returns-else-is_empty-clause-some : goal.returns-else-is_empty-clause-some
returns-else-is_empty-clause-some c = λ e. absurd
    (let t : false ≡ true = sym c.if-is_empty.false ∙ c.is_empty.ensures.1 e in cc)

pub returns-else-is_empty-clause-ends : goal.returns-else-is_empty-clause-ends
returns-else-is_empty-clause-ends c = λ e. absurd
    (let t : false ≡ true = sym c.if-is_empty.false ∙ c.is_empty.ensures.1 e in cc)
