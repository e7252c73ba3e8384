-- A scan of the front of a store
use Rattle.std.proofs.Common.{ap, ◌∙◌, List, ℕ}
use Rattle.ramoops_layout.specs.Laid.{zones_of}
use Rattle.salvage_spec.specs.Rings.{rings}
use Rattle.salvage.specs.Scans.{Scanned}
use Rattle.commands.proofs.salvaging.read_dump.Goals as goal

pub returns-in-Ok-new-clause-read : goal.returns-in-Ok-new-clause-read
returns-in-Ok-new-clause-read g c = record {
  dump = c.in-Ok.dump.items;
  read = c.in-Ok.ensures.ok.1;
  scan_is = c.in-Ok-new.ensures ∙ ap (λ (dump : List ℕ). let s : Scanned =
      record { image = dump; zones = zones_of c.args.layout; rest = rings dump (zones_of c.args.layout) } in s)
      c.from_vec.ensures;
}
