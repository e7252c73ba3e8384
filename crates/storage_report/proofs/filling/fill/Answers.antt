-- What was read stands at its place. For `fill`.
use Rattle.std.proofs.Common.{◌≡◌, ◌∙◌, ◌+◌, ◌-◌, ◌<◌, arith, length, take, drop, min}
use Rattle.std.proofs.lemmas.Grind.{common_steps}
use Rattle.storage_report.proofs.Copies.{filled_at}
use Rattle.storage_report.proofs.filling.fill.Goals as goal

pub returns-in-Ok-clause-filled : goal.returns-in-Ok-clause-filled
returns-in-Ok-clause-filled g c =
    let at = c.args.span.at in
    let k = (at + c.min-count.result) - at in
    let start : at < length c.args.copy.now = omega arith in
    let count : c.min-count.result ≡ min c.args.span.len (length c.args.copy.now - at) =
    omega (arith, c.min-count.ensures, c.from.ensures) in
    let asked : length (take k (drop at c.args.copy.now)) ≡ k = grind (arith, common_steps) in
    filled_at (g.M.Load.holds c.args.image.now) c.args.copy.now c.read_at.new.into c.args.span k _
    (omega (arith, count)) start asked (c.read_at.auto.into ∙ asked) c.requires c.in-Ok.ensures.bytes
