-- An unsigned zone is signed and erased, any other that is not kept is erased. For `erasure_of`.
use Rattle.std.proofs.Common.{sym, ap, ◌∙◌, [], ◌++◌, if◌then◌else◌, Bool}
use Rattle.zone_spec.specs.Calls.{erase_stages}
use Rattle.zone_spec.specs.Boot.{signing}
use Rattle.zone_boot.proofs.BootStart.{erased-other}
use Rattle.zone_boot.proofs.deciding.erasure_of.Goals as goal

pub returns-in_default : goal.returns-in_default
returns-in_default c =
    erased-other c.args.zone.now c.args.state c.in_default.not-Unsigned
    ∙ ap (λ (k : Bool). if k then [] else signing c.args.zone.now c.args.state ++ erase_stages) (sym c.if-is_kept.false)
