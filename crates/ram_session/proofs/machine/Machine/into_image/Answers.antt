-- The image of a live machine is that of the state it stands for. For `into_image`.
use Rattle.std.proofs.Common.{subst, sym}
use Rattle.ram_session.proofs.Images.{IsImageOf, live_image}
use Rattle.ram_session.specs.declared.machine.Machine.{Machine}
use Rattle.ram_session.proofs.machine.Machine.into_image.Goals as goal

pub returns : goal.returns
returns c = subst (λ (m : Machine). IsImageOf m c.into_image-in-Live.result) (sym c.in-Live.is)
    (live_image c.in-Live.live c.in-Live.field-1 c.in-Live.field-2 c.into_image-in-Live.result
    c.into_image-in-Live.ensures)
