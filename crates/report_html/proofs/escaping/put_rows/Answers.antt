-- All bytes stand escaped at the end. For `put_rows`.
use Rattle.std.proofs.Common.{ap, sym, ◌∙◌, ◌++◌, List, ℕ, take, arith}
use Rattle.std.specs.Prelude.{flat_map}
use Rattle.std.proofs.lemmas.List.{take_all}
use Rattle.report_spec.specs.Escaped.{escaped_byte}
use Rattle.report_html.proofs.Texts.{escaped-is}
use Rattle.report_html.proofs.escaping.put_rows.Goals as goal

pub returns-clause-text : goal.returns-clause-text
returns-clause-text c =
    let past = c.loop-b-test.false in
    let front : List ℕ = take c.args.from c.args.room.now in
    c.loop-b.invariant.text
    ∙ ap (λ (bs : List ℕ). front ++ flat_map escaped_byte bs)
    (take_all c.loop-b.b-index c.args.bytes.now (omega (arith, past)))
    ∙ ap (λ (bs : List ℕ). front ++ bs) (sym (escaped-is c.args.bytes.now))
