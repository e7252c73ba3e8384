-- A store for each word and byte. For `Whole::count`.
use Rattle.std.proofs.Common.{length, ap, arith}
use Rattle.store_steps.specs.PlainAppends.{size_store}
use Rattle.store_steps.proofs.WholeRuns.{length-handed}
use Rattle.store_steps.proofs.plain.Whole.count.Goals as goal
use Rattle.store_steps.proofs.plain.Whole.count.Goals.{in-Some, in-None}

pub returns : goal.returns
returns c = λ size payload inside.
    let all = length-handed size c.args.self.now payload inside in
    elim c.match-self.branch [
      | in-Some w ↦
          let one = ap (λ o. length (size_store c.args.self.now.byte_order o)) w.in-Some.is in
          omega (arith, all, one, w.words-is, c.from.ensures, c.from-2.ensures)
      | in-None w ↦
          let none = ap (λ o. length (size_store c.args.self.now.byte_order o)) w.in-None.is in
          omega (arith, all, none, w.words-is, c.from.ensures, c.from-2.ensures)
    ]
