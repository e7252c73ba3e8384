-- With a record left away the store's state keeps its invariant: the dumps that stay still lie in
-- their zones. For `forget`.
use Rattle.std.proofs.Common.{subst, sym, List}
use Rattle.std.specs.List.{All}
use Rattle.std.proofs.lemmas.List.Elements.{All-filter}
use Rattle.blk_spec.specs.Reading.{BlkDump}
use Rattle.zone_blk.specs.Loading.{IsIn}
use Rattle.zone_blk.proofs.blk.Blk.forget.Goals as goal

pub invariant_of-self : goal.invariant_of-self
invariant_of-self c =
    let kept = All-filter _ (IsIn c.self.inside.layout) c.self.inside.dumps.items c.self.invariant.dumps in
    record {
      layout = c.self.invariant.layout;
      console = c.self.invariant.console;
      pmsg = c.self.invariant.pmsg;
      no_console = c.self.invariant.no_console;
      no_pmsg = c.self.invariant.no_pmsg;
      dumps = subst (λ (ds : List BlkDump). All (IsIn c.self.inside.layout) ds) (sym c.forget_dump.ensures) kept;
      cursor = c.self.invariant.cursor;
    }
