-- What the lines on a machine leave, or why they stopped
use Rattle.std.proofs.Common.{Ok, refl, inl}
use Rattle.ramoops_layout.specs.Laid.{params_of, zones_of}
use Rattle.command_spec.specs.Commands.{wanted_script}
use Rattle.command_line.proofs.Tool.{no_texts}
use Rattle.commands.proofs.ScriptEnds.{play_left, play_stopped}
use Rattle.commands.proofs.Taking.{play_takes}
use Rattle.commands.proofs.scripts.play_lines.Goals as goal

pub returns-in-Err-clause-left : goal.returns-in-Err-clause-left
returns-in-Err-clause-left g c =
    no_texts (wanted_script (zones_of c.args.layout) c.args.image.items (Ok c.args.lines)) _

pub returns-in-Ok-play-clause-left : goal.returns-in-Ok-play-clause-left
returns-in-Ok-play-clause-left g c =
    let played = c.in-Ok-play.ensures.played (zones_of c.args.layout) (params_of c.args.layout).mem
    c.args.image.items c.in-Ok.ensures in
    play_left (zones_of c.args.layout) c.args.image.items c.args.lines played.session _ _ c.new.result.items
    c.into_image.result played.played c.new.ensures.items
    (c.into_image.ensures (zones_of c.args.layout) (params_of c.args.layout).mem played.session played.stands)

pub returns-in-Err-play-clause-left : goal.returns-in-Err-play-clause-left
returns-in-Err-play-clause-left g c = rw c.stop_of.ensures (play_stopped c.in-Err-play.stop (zones_of c.args.layout)
    c.args.image.items c.args.lines _ _ _ _ (c.in-Err-play.ensures.played (zones_of c.args.layout)
    (params_of c.args.layout).mem c.args.image.items c.in-Ok.ensures))

pub returns-in-Err-clause-takes : goal.returns-in-Err-clause-takes
returns-in-Err-clause-takes g c = inl refl

pub returns-in-Err-play-clause-takes : goal.returns-in-Err-play-clause-takes
returns-in-Err-play-clause-takes g c = rw c.stop_of.ensures (play_takes c.args.layout c.in-Err-play.stop
    c.args.image.items c.args.lines _ _ _ _ (c.in-Err-play.ensures.played (zones_of c.args.layout)
    (params_of c.args.layout).mem c.args.image.items c.in-Ok.ensures))
