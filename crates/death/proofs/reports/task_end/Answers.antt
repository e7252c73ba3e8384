-- Behind the words no mark of the kernel stands, so the task ends there. For `task_end`.
use Rattle.std.proofs.Common.{◌≡◌, drop, ap, sym, ◌∙◌, arith}
use Rattle.death_spec.specs.declared.Mark.TheVariants.{Kernel}
use Rattle.death_spec.specs.Marks.{place_of}
use Rattle.death_spec.specs.Reports.{number_end}
use Rattle.death.proofs.Places.{past}
use Rattle.death.proofs.reports.task_end.Goals as goal

pub returns-else-from-words-clause-end : goal.returns-else-from-words-clause-end
returns-else-from-words-clause-end c =
    let none : place_of Kernel (drop (number_end c.args.words.now) c.args.words.now) ≡ 0 =
    ap (λ k. place_of Kernel (drop k c.args.words.now)) (sym c.number_end-from.ensures.end)
    ∙ past Kernel c.args.words.now c.number_end-from.result (omega (arith, c.if-from-words.false)) in
    omega (arith, none, c.number_end-from.ensures.end)
