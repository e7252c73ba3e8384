-- A source of this name stays, any other is left away. For `named`.
use Rattle.std.proofs.Common.{sym, subst, ◌∙◌, Option}
use Rattle.std.specs.Prelude.{option_to_list}
use Rattle.pstore_records.specs.declared.walk.Source.{Source}
use Rattle.pstore_records.specs.Walks.{AreSources}
use Rattle.pstore_records.proofs.Sources.{named-not, named-one, named-other}
use Rattle.pstore_records.proofs.walk.named.Goals as goal

pub returns-in_err-source : goal.returns-in_err-source
returns-in_err-source c = λ zones records are. rw c.from_residual.ensures (named-not zones c.args.name records
    (subst (λ (o : Option Source). AreSources zones (option_to_list o) records) c.in_err-source.was are))

pub returns-then-is_name : goal.returns-then-is_name
returns-then-is_name c = λ zones records are. named-one zones c.args.name c.in_ok-source.source records
    (sym c.is_name.ensures ∙ c.if-is_name.true)
    (subst (λ (o : Option Source). AreSources zones (option_to_list o) records) c.in_ok-source.was are)

pub returns-else-is_name : goal.returns-else-is_name
returns-else-is_name c = λ zones records are. named-other zones c.args.name c.in_ok-source.source records
    (sym c.is_name.ensures ∙ c.if-is_name.false)
    (subst (λ (o : Option Source). AreSources zones (option_to_list o) records) c.in_ok-source.was are)
