-- The objects begin with the script, the image and no text.
use Rattle.std.proofs.Common.{◌∙◌}
use Rattle.grammar_spec.specs.Words.{texts}
use Rattle.report_entry.specs.Memory.{image_bytes, text_bytes, image_faults, image_writes, text_faults}
use Rattle.oopsbox_c.specs.Memory.{script_left}
use Rattle.oopsbox_c.proofs.Ran.{is_run}
use Rattle.oopsbox_c.proofs.running.run_on.Goals as goal

pub returns : goal.returns
returns c =
    let end = c.run-status.ensures in
    is_run (texts c.args.words.now) c.args.script.now c.args.image.now (image_bytes c.run-status.new.image)
    (text_bytes c.run-status.new.out) (script_left c.new-script.result) (image_bytes c.new-image.result)
    (text_bytes c.new-text.result) (script_left c.run-status.new.script) c.run-status.result
    (image_faults c.new-image.result) (image_writes c.new-image.result) (text_faults c.new-text.result)
    (image_faults c.run-status.new.image) (image_writes c.run-status.new.image) (text_faults c.run-status.new.out)
    (c.new-script.ensures ∙ c.in_ok-copy_of.ensures) (c.new-image.ensures.bytes ∙ c.in_ok-copy_of-2.ensures)
    c.new-text.ensures.bytes c.new-image.ensures.faults c.new-image.ensures.writes
    c.new-text.ensures.faults
    end.runs end.statuses end.script_fault end.image_fault end.sink_fault
