-- A kept, an erased and an unsigned zone each have their stages left. For `enter_erasure`.
use Rattle.std.proofs.Common.{refl, sym, ap}
use Rattle.zone_boot.specs.declared.boots.Phase.TheVariants.{Signature, Start, Finished}
use Rattle.zone_boot.specs.Left.{stages_of}
use Rattle.zone_boot.proofs.LaterStores.{entered}
use Rattle.zone_boot.proofs.boots.Boot.enter_erasure.Goals as goal

pub returns-in-Kept-clause-left : goal.returns-in-Kept-clause-left
returns-in-Kept-clause-left c = λ x. entered c.args.self.now.zone x _ _ _ _ _ Finished c.requires.phase c.requires.done
    refl (sym (ap (stages_of c.args.self.now.zone) c.in-Kept.is))

pub returns-in-Erased-clause-left : goal.returns-in-Erased-clause-left
returns-in-Erased-clause-left c = λ x. entered c.args.self.now.zone x _ _ _ _ _ Start c.requires.phase c.requires.done
    refl (sym (ap (stages_of c.args.self.now.zone) c.in-Erased.is))

pub returns-in-Signed-clause-left : goal.returns-in-Signed-clause-left
returns-in-Signed-clause-left c = λ x. entered c.args.self.now.zone x _ _ _ _ _ Signature c.requires.phase c.requires.done
    refl (sym (ap (stages_of c.args.self.now.zone) c.in-Signed.is))
