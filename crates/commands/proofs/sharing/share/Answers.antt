-- The lines on the zone that was opened
use Rattle.std.proofs.Common.{ap, sym, subst, ◌∙◌}
use Rattle.zone_spec.specs.declared.params.Params.{Params}
use Rattle.ramoops_layout.specs.Laid.{zones_of}
use Rattle.shared_session.specs.Left.{Plays}
use Rattle.commands.proofs.Shareable.{share_done, share_stopped, opens_in, zone_in_both, opened_by}
use Rattle.commands.proofs.sharing.share.Goals as goal

pub open-requires-clause-mem : goal.open-requires-clause-mem
open-requires-clause-mem c = c.in-Ok.ensures.size ∙ ap (λ (p : Params). p.mem) (sym c.requires.plain.params)

pub open-requires-clause-zone : goal.open-requires-clause-zone
open-requires-clause-zone c = opens_in _ _ _ c.requires.plain.zones (c.in-Ok.ensures.can c.requires.plain.plain)

pub play-played-requires-clause-opened : goal.play-played-requires-clause-opened
play-played-requires-clause-opened c =
    let can = opens_in _ _ _ c.requires.plain.zones (c.in-Ok.ensures.can c.requires.plain.plain) in
    opened_by _ _ can _ (c.in-Ok-open.ensures.ok can)

pub returns-in-Err-default : goal.returns-in-Err-default
returns-in-Err-default c = λ given h.
    let can = opens_in _ _ _ c.requires.plain.zones (c.in-Ok.ensures.can c.requires.plain.plain) in
    rw c.stop_of.ensures (share_stopped (zones_of c.args.booted) c.args.image.items c.in-Ok.image c.args.lines
    c.in-Ok.ensures.is can.zone
    (zone_in_both (zones_of c.args.booted) (zones_of c.args.layout) c.in-Ok.image c.requires.plain.zones can)
    c.in-Err-default.stop c.play-played.new.shared given h
    (subst (Plays can.zone c.in-Ok.image c.args.lines c.play-played.new.shared) c.in-Err-default.is-0
    (c.play-played.ensures can.zone c.in-Ok.image (c.in-Ok-open.ensures.ok can))))

pub returns-in-Ok-Ok : goal.returns-in-Ok-Ok
returns-in-Ok-Ok c = λ given h.
    let can = opens_in _ _ _ c.requires.plain.zones (c.in-Ok.ensures.can c.requires.plain.plain) in
    share_done (zones_of c.args.booted) c.args.image.items c.in-Ok.image c.args.lines c.in-Ok.ensures.is can.zone
    (zone_in_both (zones_of c.args.booted) (zones_of c.args.layout) c.in-Ok.image c.requires.plain.zones can)
    c.play-played.new.shared c.in-Ok-Ok.text.items c.close-image.result given
    (subst (Plays can.zone c.in-Ok.image c.args.lines c.play-played.new.shared) c.in-Ok-Ok.is-0
    (c.play-played.ensures can.zone c.in-Ok.image (c.in-Ok-open.ensures.ok can)))
    (λ h left. rw c.in-Ok-Ok.is-1 at (c.shared_text-text.ensures h left))
    (λ h left. c.close-image.ensures.left h left)
