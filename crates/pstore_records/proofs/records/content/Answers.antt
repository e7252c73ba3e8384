-- The record that is held has the listed one's content and notice. For `content`.
use Rattle.std.proofs.Common.{◌++◌, Some, refl, sym, ap, ◌∙◌}
use Rattle.std.specs.Option.{option_map}
use Rattle.zone_spec.specs.Notices.{content}
use Rattle.zone_spec.specs.RecordsHeld.{RecordHeld}
use Rattle.prz_read.specs.Saving.{saved}
use Rattle.pstore_records.proofs.records.content.Goals as goal

pub held-requires : goal.held-requires
held-requires c = c.in-Some.ensures.counted

pub returns-in-Ok : goal.returns-in-Ok
returns-in-Ok c = ap (option_map (content (saved c.args.logs.now))) (sym c.in-Some.ensures.listed)
    ∙ ap Some (sym (c.into_bytes.ensures ∙ ap (λ (r : RecordHeld). r.content ++ r.notice) c.in-Ok.ensures))

pub returns-in-Err : goal.returns-in-Err
returns-in-Err c = rw (← c.in-Some.ensures.listed) refl

pub returns-in-None : goal.returns-in-None
returns-in-None c = sym c.in-None.ensures.listed
