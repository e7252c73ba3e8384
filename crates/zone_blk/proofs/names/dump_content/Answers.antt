-- The content of a compressed dump is its body; any other has its heading in front. For
-- `dump_content`.
use Rattle.std.proofs.Common.{◌≡◌, ◌∙◌, ◌++◌, sym, ap, List, ℕ, true, false}
use Rattle.std.proofs.lemmas.Result.{IfOk-weaker}
use Rattle.blk_spec.specs.Reading.{BlkDump}
use Rattle.blk_spec.specs.Names.{dump_content}
use Rattle.zone_blk.proofs.Contents.{packed-content, plain-content}
use Rattle.zone_blk.proofs.names.dump_content.Goals as goal

pub returns-then-dump : goal.returns-then-dump
returns-then-dump c =
    let packed : c.args.dump.now.packed ≡ true = sym (ap (λ (d : BlkDump). d.packed) c.dump.view_is) ∙ c.if-dump.true in
    let body : c.dump.inside.body ≡ c.args.dump.now.body = ap (λ (d : BlkDump). d.body) c.dump.view_is in
    IfOk-weaker c.copy_of.result (λ (b : List ℕ). b ≡ c.as_slice.result.now)
    (λ (b : List ℕ). b ≡ dump_content c.args.dump.now)
    (λ b e. e ∙ c.as_slice.ensures ∙ body ∙ packed-content c.args.dump.now packed) c.copy_of.ensures

pub returns : goal.returns
returns c =
    let packed : c.args.dump.now.packed ≡ false = sym (ap (λ (d : BlkDump). d.packed) c.dump.view_is)
    ∙ c.if-dump.false in
    let body : c.dump.inside.body ≡ c.args.dump.now.body = ap (λ (d : BlkDump). d.body) c.dump.view_is in
    c.from_vec.ensures ∙ c.in_ok-extend_from_slice.ensures.items
    ∙ ap (λ (xs : List ℕ). xs ++ c.as_slice-2.result.now) c.in_ok-text.ensures
    ∙ plain-content c.args.dump.now _ packed (c.as_slice-2.ensures ∙ body)
