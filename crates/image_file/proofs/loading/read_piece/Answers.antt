-- `read_piece` lengthens the front of the buffer that agrees with the image by the bytes that it
-- reads.
use Rattle.std.proofs.Common.{◌≡◌, ◌+◌, ◌-◌, ◌∙◌, arith, length, take, drop}
use Rattle.std.proofs.lemmas.Grind.{common_steps}
use Rattle.image_file.proofs.Pieces.{read_into}
use Rattle.image_file.proofs.loading.read_piece.Goals as goal

pub returns-clause-read : goal.returns-clause-read
returns-clause-read g c =
    let count = (c.args.at + c.args.count) - c.args.at in
    let asked : length (take count (drop c.args.at c.args.bytes.now)) ≡ count = grind (arith, common_steps) in
    let read : length c.read_at.new.into ≡ count = c.read_at.auto.into ∙ asked in
    read_into c.read_at.result (g.M.Load.holds c.args.image.now) c.args.at _ _ _ c.args.bytes.now
    c.read_at.new.into (omega arith) c.requires.inside read asked c.read_at.ensures.bytes
