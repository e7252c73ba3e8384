-- A block without a correction changes nothing that is left. For the loop of `correct_blocks`.
use Rattle.std.proofs.Common.{◌≡◌, [], ◌∙◌}
use Rattle.zone_boot.specs.Handed.{handed}
use Rattle.zone_boot.proofs.BootHandOut.{gives-none, gives-made}
use Rattle.zone_boot.proofs.boots.Boot.correct_blocks.Goals as goal

pub loop-self-preserved : goal.loop-self-preserved
loop-self-preserved c =
    let g = c.correct_block.ensures.gives in
    let was = c.loop-self.invariant in
    let none : handed c.correct_block.new.out ≡ [] = c.is_empty.ensures.0 c.if-not-is_empty.false in
    record {
      left = was.left ∙ gives-none _ _ _ _ g none;
      zone = g.zone ∙ was.zone;
      made = gives-made _ _ _ _ g none ∙ was.made;
      kept = g.kept;
      phase = c.correct_block.ensures.phase;
      count = c.correct_block.ensures.count ∙ was.count;
    }
