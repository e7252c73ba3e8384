-- A flip within the image is made, one beyond it changes nothing. For `make_flip`.
use Rattle.ram_generator.proofs.Flips.{flip_made, flip_refused}
use Rattle.ram_generator.proofs.damage.make_flip.Goals as goal

pub returns-in-Ok : goal.returns-in-Ok
returns-in-Ok c = flip_made c.args.off.now c.flip.new.self c.args.place c.args.mask c.in-Ok.ensures.within
    c.in-Ok.ensures.flipped

pub returns-in-Err : goal.returns-in-Err
returns-in-Err c = flip_refused c.args.off.now c.flip.new.self c.args.place c.args.mask c.in-Err.ensures.refused.1
    c.in-Err.ensures.unchanged
