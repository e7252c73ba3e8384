-- The table begins as zeros. For `fill_table`.
use Rattle.std.proofs.Common.{ℕ, List, length, get_or, ap, ◌∙◌}
use Rattle.list_laws.proofs.Elements.{get_or-replicate_default}
use Rattle.rs_encode.proofs.fill_table.Goals as goal

pub table_of-requires-clause-zeros : goal.table_of-requires-clause-zeros
table_of-requires-clause-zeros c = λ k.
    ap (λ (w : List ℕ). get_or w k 0) (c.fill.ensures.after (λ y e. e))
    ∙ get_or-replicate_default (length c.args.rows.now) k 0
