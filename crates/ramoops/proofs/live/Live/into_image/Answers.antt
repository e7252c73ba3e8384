-- The spans joined are the image of the live state. For `Live::into_image`.
use Rattle.std.proofs.Common.{sym, ◌∙◌, subst}
use Rattle.ramoops.specs.LiveSeen.{LiveSeen, StandsLive}
use Rattle.ramoops.proofs.StopStates.{image_left}
use Rattle.ramoops.proofs.live.Live.into_image.Goals as goal

pub returns : goal.returns
returns c layout mem s stands =
    image_left _ c.into_bytes.result (c.into_bytes.ensures ∙ c.join.ensures) layout mem s
    (subst (λ (v : LiveSeen). StandsLive layout mem v s) (sym c.self.view_is) stands)
