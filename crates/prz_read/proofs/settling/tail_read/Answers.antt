-- The bytes of the last block behind the log
use Rattle.std.proofs.Common.{ℕ, ◌++◌, List, refl, ap, ◌∙◌, arith}
use Rattle.prz_read.specs.Reads.{bytes_read}
use Rattle.prz_read.proofs.Tails.{end-whole, end-block, tail-none, tail-some}
use Rattle.prz_read.proofs.settling.tail_read.Goals as goal

pub returns-then-size-zone : goal.returns-then-size-zone
returns-then-size-zone c =
    let z = c.args.zone.now in
    let x = c.args.span.now in
    let r = c.requires in
    let bytes = c.len-len.ensures.bytes in
    ap (λ (l : List ℕ). bytes_read z x c.args.size ++ l) c.new-none.ensures
    ∙ tail-none z x r.valid r.len bytes c.args.size (end-whole z x r.valid r.len bytes c.args.size c.if-size-zone.true)

pub returns-then-within-eq0 : goal.returns-then-within-eq0
returns-then-within-eq0 c =
    let z = c.args.zone.now in
    let x = c.args.span.now in
    let r = c.requires in
    let bytes = c.len-len.ensures.bytes in
    ap (λ (l : List ℕ). bytes_read z x c.args.size ++ l) c.new-none.ensures
    ∙ tail-none z x r.valid r.len bytes c.args.size
    (end-block z x r.valid r.len bytes c.args.size r.within c.if-within-eq0.true)

pub split_at-requires : goal.split_at-requires
split_at-requires c =
    let r = c.requires in
    let within = r.within in
    let cut = c.if-size-zone.false in
    let some = c.if-within-eq0.false in
    (tail-some c.args.zone.now c.args.span.now r.valid r.len c.len-len.ensures.bytes c.args.size _ _
    c.as_slice.result.now (omega (arith, within, cut)) refl refl (omega (arith, some))
    (c.as_slice.ensures.value ∙ c.read_block-outcome.ensures.data)).0

pub returns : goal.returns
returns c =
    let z = c.args.zone.now in
    let x = c.args.span.now in
    let r = c.requires in
    let within = r.within in
    let cut = c.if-size-zone.false in
    let some = c.if-within-eq0.false in
    ap (λ (l : List ℕ). bytes_read z x c.args.size ++ l) (c.copy_of.ensures ∙ c.split_at.ensures.back)
    ∙ (tail-some z x r.valid r.len c.len-len.ensures.bytes c.args.size _ _ c.as_slice.result.now
    (omega (arith, within, cut)) refl refl (omega (arith, some))
    (c.as_slice.ensures.value ∙ c.read_block-outcome.ensures.data)).2
