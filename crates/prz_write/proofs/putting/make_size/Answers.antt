-- One word, or none. For `make_size`.
use Rattle.std.proofs.Common.{sym, ap, ◌∙◌}
use Rattle.prz_region.specs.CutRegion.{stored}
use Rattle.prz_region.proofs.Cuts.{stored-none}
use Rattle.store_steps.specs.PlainAppends.{size_store}
use Rattle.prz_write.proofs.putting.make_size.Goals as goal

pub returns-in-None : goal.returns-in-None
returns-in-None c =
    sym (stored-none c.args.spans.now c.args.i)
    ∙ ap (λ o. stored c.args.spans.now c.args.i (size_store c.args.whole.now.byte_order o)) (sym c.in-None.is)
