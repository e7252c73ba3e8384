-- The run stands at its place. For `put_kept`.
use Rattle.std.proofs.Common.{◌≡◌, ◌∙◌, ◌+◌, List, ℕ, take, ap, arith}
use Rattle.std.proofs.lemmas.List.{take_all}
use lib.Lanes.{put_chunk}
use Rattle.report_html.proofs.Runs.{row-stored}
use Rattle.report_html.proofs.escaping.put_kept.Goals as goal

pub returns-clause-text : goal.returns-clause-text
returns-clause-text c =
    let run : List ℕ = c.args.run.now in
    let n = c.requires.run in
    let fits = c.requires.fits in
    let all : take 32 run ≡ run = take_all 32 run (omega (arith, n)) in
    ap (λ (ys : List ℕ). take (c.args.at + 32) (put_chunk c.args.at c.args.room.now ys)) all
    ∙ row-stored c.args.room.now run c.args.at 32 (omega (arith, n)) (omega (arith, n, fits)) all
