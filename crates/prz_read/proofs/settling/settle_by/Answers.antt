-- The loop makes what is handed out, up to the limit, until nothing is left. For `settle_by`.
use Rattle.std.proofs.Common.{◌≡◌, List, ℕ, ◌++◌, length, min, sym, ap, ap₂, ◌∙◌, subst, arith}
use Rattle.std.specs.Prelude.{sum_by}
use Rattle.zone_spec.specs.declared.Zone.{Zone}
use Rattle.zone_spec.specs.Parts.{AreBytes, Header, Block, words_in}
use Rattle.zone_spec.specs.PartReadings.{words_read}
use Rattle.zone_spec.specs.Reading.{ZoneReading}
use Rattle.zone_spec.specs.Stages.{stage_count}
use Rattle.ring_laws.proofs.States.{reading_words}
use Rattle.prz_region.specs.CutRegion.{span}
use Rattle.zone_boot.specs.declared.deciding.Erasure.{Erasure}
use Rattle.zone_boot.specs.Handed.{handed}
use Rattle.zone_boot.specs.Booting.{Gives, KeepsReadings}
use Rattle.zone_boot.specs.Left.{stages_of}
use Rattle.zone_boot.proofs.StoreCounts.{boot-long}
use Rattle.prz_read.specs.Reads.{bytes_read, read_end}
use Rattle.prz_read.specs.Sources.{HasBlock, IsFixing}
use Rattle.prz_read.proofs.Tails.{found}
use Rattle.prz_read.proofs.LogSources.{source-block}
use Rattle.prz_read.proofs.LimitedBoot.{span-is, erasure-by, block-moved, settling-lent, settling-length, settling-done}
use Rattle.prz_read.proofs.LimitedBoot.{settling-all, settling-smaller, settling-step}
use Rattle.prz_read.proofs.settling.settle_by.Goals as goal

pub hand_out-requires-clause-size : goal.hand_out-requires-clause-size
hand_out-requires-clause-size c =
    let z = c.args.zone.now in
    let first = c.args.spans.now in
    let i : ℕ = c.args.i in
    let x : List ℕ = span first i in
    let b = c.loop-tail.boot in
    let n : ℕ = c.begin-boot.result.count in
    let e = c.begin-boot.result.erasure in
    let was = c.loop-tail.invariant in
    let there = settling-lent z x first i c.args.limit n e c.requires.span b c.loop-tail.spans was
    c.all-in-loop-tail.result.now c.index-all-i-in-loop-tail.result c.all-in-loop-tail.ensures
    c.index-all-i-in-loop-tail.is in
    ap length there ∙ settling-length z x first i c.args.limit n e c.requires.span b c.loop-tail.spans was
    ∙ c.requires.size ∙ sym (ap (λ (v : Zone). v.size) was.zone)

pub hand_out-requires-clause-words : goal.hand_out-requires-clause-words
hand_out-requires-clause-words c = λ h.
    let z = c.args.zone.now in
    let first = c.args.spans.now in
    let i : ℕ = c.args.i in
    let x : List ℕ = span first i in
    let b = c.loop-tail.boot in
    let n : ℕ = c.begin-boot.result.count in
    let e = c.begin-boot.result.erasure in
    let was = c.loop-tail.invariant in
    let there = settling-lent z x first i c.args.limit n e c.requires.span b c.loop-tail.spans was
    c.all-in-loop-tail.result.now c.index-all-i-in-loop-tail.result c.all-in-loop-tail.ensures
    c.index-all-i-in-loop-tail.is in
    ap (λ (r : ZoneReading). r.words) c.requires.reading ∙ reading_words z x
    ∙ ap (words_in z.byte_order) (sym (was.reads (subst IsFixing (sym h) tt) Header))
    ∙ ap₂ (λ (v : Zone) (y : List ℕ). words_read v y) (sym was.zone) (sym there)

pub hand_out-requires-clause-block : goal.hand_out-requires-clause-block
hand_out-requires-clause-block c = λ h less.
    let z = c.args.zone.now in
    let first = c.args.spans.now in
    let i : ℕ = c.args.i in
    let x : List ℕ = span first i in
    let b = c.loop-tail.boot in
    let n : ℕ = c.begin-boot.result.count in
    let e = c.begin-boot.result.erasure in
    let was = c.loop-tail.invariant in
    let there = settling-lent z x first i c.args.limit n e c.requires.span b c.loop-tail.spans was
    c.all-in-loop-tail.result.now c.index-all-i-in-loop-tail.result c.all-in-loop-tail.ensures
    c.index-all-i-in-loop-tail.is in
    let bytes : AreBytes x = subst AreBytes (span-is first i c.all.result.now c.index-all-i.result c.all.ensures
    c.index-all-i.is c.requires.span) c.len-len.ensures.bytes in
    let r = c.args.reading.now in
    let blocks = was.blocks in
    let is = c.begin-boot.ensures.found (omega (arith, less, blocks)) in
    let read = c.requires.reading in
    let held = found z x r.words r.log r.state (ap (λ (q : ZoneReading). q.state) read) is.found
    (ap (λ (q : ZoneReading). q.words) read) (ap (λ (q : ZoneReading). q.log) read) in
    let lent = span-is first i c.all-2.result.now c.index-all-i-2.result c.all-2.ensures c.index-all-i-2.is
    c.requires.span in
    let tails : bytes_read z x r.words.size ++ c.as_slice.result.now ≡ bytes_read z x (read_end z r.words.size) =
    ap (λ (l : List ℕ). bytes_read z x r.words.size ++ l) c.as_slice.ensures.value
    ∙ subst (λ (y : List ℕ). bytes_read z y r.words.size ++ c.tail_of-tail.result.items
    ≡ bytes_read z y (read_end z r.words.size)) lent (c.tail_of-tail.ensures is.corrected is.found) in
    let block : HasBlock z x b.block r.words.start r.log c.as_slice.result.now =
    source-block z x r.words r.log c.as_slice.result.now b.block n c.requires.valid c.requires.size bytes held.0 held.1
    tails is.blocks (omega (arith, less, blocks)) in
    subst (λ (y : List ℕ). HasBlock b.zone y b.block r.words.start r.log c.as_slice.result.now) (sym there)
    (block-moved z b.zone x (span c.loop-tail.spans i) b.block r.words.start r.log c.as_slice.result.now was.zone
    (was.reads (subst IsFixing (sym h) tt) (Block b.block)) block)

pub make-requires-clause-inside : goal.make-requires-clause-inside
make-requires-clause-inside c =
    let z = c.args.zone.now in
    let first = c.args.spans.now in
    let i : ℕ = c.args.i in
    let x : List ℕ = span first i in
    let b = c.loop-tail.boot in
    let n : ℕ = c.begin-boot.result.count in
    let e = c.begin-boot.result.erasure in
    let was = c.loop-tail.invariant in
    let inside = c.hand_out.ensures.gives.inside in
    let long = settling-length z x first i c.args.limit n e c.requires.span b c.loop-tail.spans was in
    let size = c.requires.size in
    omega (arith, inside, long, size, ap (λ (v : Zone). v.size) was.zone)

pub loop-tail-smaller : goal.loop-tail-smaller
loop-tail-smaller c =
    let z = c.args.zone.now in
    let first = c.args.spans.now in
    let i : ℕ = c.args.i in
    let x : List ℕ = span first i in
    let b = c.loop-tail.boot in
    let n : ℕ = c.begin-boot.result.count in
    let e = c.begin-boot.result.erasure in
    let was = c.loop-tail.invariant in
    let there = settling-lent z x first i c.args.limit n e c.requires.span b c.loop-tail.spans was
    c.all-in-loop-tail.result.now c.index-all-i-in-loop-tail.result c.all-in-loop-tail.ensures
    c.index-all-i-in-loop-tail.is in
    settling-smaller z x first i c.args.limit n e c.requires.span b c.loop-tail.spans was c.hand_out.new.boot
    c.hand_out.new.out c.make.new.spans c.saturating_sub-left.result
    (subst (λ (y : List ℕ). Gives b y c.hand_out.new.boot c.hand_out.new.out) there c.hand_out.ensures.gives)
    c.hand_out.ensures.rank c.hand_out.ensures.some c.make.ensures

pub loop-tail-preserved : goal.loop-tail-preserved
loop-tail-preserved c =
    let z = c.args.zone.now in
    let first = c.args.spans.now in
    let i : ℕ = c.args.i in
    let x : List ℕ = span first i in
    let b = c.loop-tail.boot in
    let n : ℕ = c.begin-boot.result.count in
    let e = c.begin-boot.result.erasure in
    let was = c.loop-tail.invariant in
    let there = settling-lent z x first i c.args.limit n e c.requires.span b c.loop-tail.spans was
    c.all-in-loop-tail.result.now c.index-all-i-in-loop-tail.result c.all-in-loop-tail.ensures
    c.index-all-i-in-loop-tail.is in
    settling-step z x first i c.args.limit n e c.requires.span b c.loop-tail.spans was c.hand_out.new.boot
    c.hand_out.new.out c.make.new.spans c.saturating_sub-left.result
    (subst (λ (y : List ℕ). Gives b y c.hand_out.new.boot c.hand_out.new.out) there c.hand_out.ensures.gives)
    c.hand_out.ensures.erasure c.hand_out.ensures.count c.hand_out.ensures.fixing
    (λ f. subst (λ (y : List ℕ). KeepsReadings b.zone y (handed c.hand_out.new.out)) there (c.hand_out.ensures.keeps f))
    c.saturating_sub-left.ensures c.make.ensures

pub overflow_sub-result : goal.overflow_sub-result
overflow_sub-result c =
    let z = c.args.zone.now in
    let first = c.args.spans.now in
    let i : ℕ = c.args.i in
    let x : List ℕ = span first i in
    let b = c.loop-tail.boot in
    let n : ℕ = c.begin-boot.result.count in
    let e = c.begin-boot.result.erasure in
    let was = c.loop-tail.invariant in
    let bytes : AreBytes x = subst AreBytes (span-is first i c.all.result.now c.index-all-i.result c.all.ensures
    c.index-all-i.is c.requires.span) c.len-len.ensures.bytes in
    let long = boot-long z x e c.requires.valid bytes
    (erasure-by z x c.args.reading.now (stages_of z e) c.requires.reading c.begin-boot.ensures.erasure) in
    let len : c.erasure_len.result ≡ sum_by (stage_count z) (stages_of z e) =
    c.erasure_len.ensures
    ∙ ap₂ (λ (v : Zone) (f : Erasure). sum_by (stage_count v) (stages_of v f)) was.zone was.erasure in
    let done = settling-done z x first i c.args.limit n e c.requires.span b c.loop-tail.spans was
    (c.is_finished.ensures.0 c.loop-tail-test.false) in
    omega (arith, long, len, done)

pub returns-clause-stores : goal.returns-clause-stores
returns-clause-stores c =
    let z = c.args.zone.now in
    let first = c.args.spans.now in
    let i : ℕ = c.args.i in
    let x : List ℕ = span first i in
    let b = c.loop-tail.boot in
    let n : ℕ = c.begin-boot.result.count in
    let e = c.begin-boot.result.erasure in
    let was = c.loop-tail.invariant in
    settling-all z x first i c.args.limit n e c.requires.span b c.loop-tail.spans was
    (c.is_finished.ensures.0 c.loop-tail-test.false)

pub returns-clause-made : goal.returns-clause-made
returns-clause-made c =
    let z = c.args.zone.now in
    let first = c.args.spans.now in
    let i : ℕ = c.args.i in
    let x : List ℕ = span first i in
    let b = c.loop-tail.boot in
    let n : ℕ = c.begin-boot.result.count in
    let e = c.begin-boot.result.erasure in
    let was = c.loop-tail.invariant in
    c.min.ensures ∙ ap (λ (k : ℕ). min c.args.limit k)
    (settling-done z x first i c.args.limit n e c.requires.span b c.loop-tail.spans was
    (c.is_finished.ensures.0 c.loop-tail-test.false))

pub returns-clause-all : goal.returns-clause-all
returns-clause-all c =
    let z = c.args.zone.now in
    let first = c.args.spans.now in
    let i : ℕ = c.args.i in
    let x : List ℕ = span first i in
    let b = c.loop-tail.boot in
    let n : ℕ = c.begin-boot.result.count in
    let e = c.begin-boot.result.erasure in
    let was = c.loop-tail.invariant in
    settling-done z x first i c.args.limit n e c.requires.span b c.loop-tail.spans was
    (c.is_finished.ensures.0 c.loop-tail-test.false)

pub returns-clause-erase_at : goal.returns-clause-erase_at
returns-clause-erase_at c =
    let z = c.args.zone.now in
    let first = c.args.spans.now in
    let i : ℕ = c.args.i in
    let x : List ℕ = span first i in
    let b = c.loop-tail.boot in
    let n : ℕ = c.begin-boot.result.count in
    let e = c.begin-boot.result.erasure in
    let was = c.loop-tail.invariant in
    let bytes : AreBytes x = subst AreBytes (span-is first i c.all.result.now c.index-all-i.result c.all.ensures
    c.index-all-i.is c.requires.span) c.len-len.ensures.bytes in
    let long = boot-long z x e c.requires.valid bytes
    (erasure-by z x c.args.reading.now (stages_of z e) c.requires.reading c.begin-boot.ensures.erasure) in
    let len : c.erasure_len.result ≡ sum_by (stage_count z) (stages_of z e) =
    c.erasure_len.ensures
    ∙ ap₂ (λ (v : Zone) (f : Erasure). sum_by (stage_count v) (stages_of v f)) was.zone was.erasure in
    let done = settling-done z x first i c.args.limit n e c.requires.span b c.loop-tail.spans was
    (c.is_finished.ensures.0 c.loop-tail-test.false) in
    omega (arith, long, len, done)
