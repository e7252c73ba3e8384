-- The bad line of the pieces is that of the script, and what is read has its fields. For `Reading::end`.
use Rattle.std.proofs.Common.{◌≡◌, ℕ, List, sym, ap, ◌∙◌, subst}
use Rattle.grammar_spec.specs.declared.line.Line.{Line}
use Rattle.script.specs.declared.reading.ParseFault.TheVariants.{BadLine}
use Rattle.script.specs.Pieces.{HasRead, ReadingSeen}
use Rattle.script.proofs.Loop.{was_taken, was_bad, fault_of_all, ok_fields}
use Rattle.script.proofs.reading.Reading.end.Goals as goal

pub returns-in-Some-clause-read : goal.returns-in-Some-clause-read
returns-in-Some-clause-read c = λ given h.
    let bad = sym (ap (λ (x : ReadingSeen). x.bad) c.self.view_is) ∙ c.in-Some.is in
    fault_of_all given (BadLine c.in-Some.number) (was_bad c.args.self given c.in-Some.number bad h)

pub returns-in-None-clause-fields : goal.returns-in-None-clause-fields
returns-in-None-clause-fields c = λ given h.
    let none = sym (ap (λ (x : ReadingSeen). x.bad) c.self.view_is) ∙ c.in-None.is in
    let rest : c.deref.result.now ≡ c.args.self.rest = c.deref.ensures.value
    ∙ ap (λ (x : ReadingSeen). x.rest) c.self.view_is in
    let lines : c.self.inside.lines.items ≡ c.args.self.lines = ap (λ (x : ReadingSeen). x.lines) c.self.view_is in
    ok_fields c.read_end.result given (c.read_end.ensures given
    (subst (λ (xs : List ℕ). HasRead given c.self.inside.lines.items xs) (sym rest)
    (subst (λ (ls : List Line). HasRead given ls c.args.self.rest) (sym lines)
    (was_taken c.args.self given none h))))
