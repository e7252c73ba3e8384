-- The memory is the rounded `mem_size`, or what stands without one. For `memory`.
use Rattle.std.proofs.Common.{◌∙◌, ap, sym, unwrap_or}
use Rattle.std.specs.Option.{option_map}
use Rattle.grammar_spec.specs.ZoneWords.{memory_of}
use Rattle.ramoops_layout.proofs.params.memory.Goals as goal

pub returns-in-Some : goal.returns-in-Some
returns-in-Some c = c.rounded_memory.ensures ∙ ap memory_of c.from.ensures
    ∙ ap (λ found. unwrap_or (option_map memory_of found) c.args.absent) (sym c.in-Some.is ∙ c.given.ensures)

pub returns-in-None : goal.returns-in-None
returns-in-None c = ap (λ found. unwrap_or (option_map memory_of found) c.args.absent)
    (sym c.in-None.is ∙ c.given.ensures)
