-- The parity bytes of a key are read from its number. For `parity_given`.
use Rattle.std.proofs.Common.{◌∙◌, Some, ap, sym}
use Rattle.std.specs.Option.{option_map}
use Rattle.grammar_spec.specs.ZoneWords.{parity_of}
use Rattle.ramoops_layout.proofs.params.parity_given.Goals as goal

pub returns-in-Some : goal.returns-in-Some
returns-in-Some c = ap Some c.parity_bytes.ensures ∙ ap (option_map parity_of) (sym c.in-Some.is ∙ c.given.ensures)

pub returns-in-None : goal.returns-in-None
returns-in-None c = ap (option_map parity_of) (sym c.in-None.is ∙ c.given.ensures)
