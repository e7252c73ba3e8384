-- The length of a dump's content, compressed or with its heading. For `dump_len`.
use Rattle.std.proofs.Common.{◌≡◌, ◌∙◌, sym, ap, length, true, false}
use Rattle.blk_spec.specs.Reading.{BlkDump}
use Rattle.zone_blk.proofs.Contents.{packed-length, plain-length}
use Rattle.zone_blk.proofs.names.dump_len.Goals as goal

pub returns-then-dump : goal.returns-then-dump
returns-then-dump c =
    let packed : c.args.dump.now.packed ≡ true = sym (ap (λ (d : BlkDump). d.packed) c.dump.view_is) ∙ c.if-dump.true in
    let body : c.dump.inside.body ≡ c.args.dump.now.body = ap (λ (d : BlkDump). d.body) c.dump.view_is in
    ap length (c.as_slice.ensures ∙ body) ∙ packed-length c.args.dump.now packed

pub returns : goal.returns
returns c =
    let packed : c.args.dump.now.packed ≡ false = sym (ap (λ (d : BlkDump). d.packed) c.dump.view_is)
    ∙ c.if-dump.false in
    let body : c.dump.inside.body ≡ c.args.dump.now.body = ap (λ (d : BlkDump). d.body) c.dump.view_is in
    plain-length c.args.dump.now c.heading_len.result (length c.as_slice.result.now) packed c.heading_len.ensures.len
    (ap length (c.as_slice.ensures ∙ body))
