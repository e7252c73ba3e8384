-- Entering a phase with no store left changes neither what is left nor the call. For the loop of
-- `settle`.
use Rattle.std.proofs.Common.{◌∙◌}
use Rattle.store_steps.proofs.steps.Steps.settle.Goals as goal

pub loop-self-preserved : goal.loop-self-preserved
loop-self-preserved c =
    let before = c.loop-self.invariant in
    let entered = c.enter.ensures.enters in
    record {
      sound = c.enter.ensures.sound;
      left = λ image bytes. entered.left image bytes ∙ before.left image bytes;
      count = entered.count ∙ before.count;
      same = record {
        zone = entered.same.zone ∙ before.same.zone;
        words = entered.same.words ∙ before.same.words;
        call = entered.same.call ∙ before.same.call;
      };
      made = entered.made ∙ before.made;
      kind = c.enter.ensures.kind ∙ before.kind;
      placed = λ h. c.enter.ensures.placed (before.placed h);
    }
