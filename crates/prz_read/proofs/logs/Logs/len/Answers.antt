-- There are as many saved zones as readings. For `Logs::len`.
use Rattle.std.proofs.Common.{length, ap, sym, ◌∙◌}
use Rattle.prz_read.specs.Saving.{SavedLogs, saved}
use Rattle.prz_read.proofs.Saves.{zip-length}
use Rattle.prz_read.proofs.logs.Logs.len.Goals as goal

pub returns-clause-saved : goal.returns-clause-saved
returns-clause-saved c =
    c.len.ensures ∙ c.self.inside.readings.ok.0 ∙ sym (zip-length c.self.inside.zones.items
    c.self.inside.readings.items c.self.invariant.below)
    ∙ ap (λ (l : SavedLogs). length (saved l)) c.self.view_is
