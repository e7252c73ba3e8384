-- All bytes were appended
use Rattle.std.proofs.Common.{◌++◌, ◌∙◌, List, ℕ, ap, sym, arith}
use Rattle.std.specs.Prelude.{flat_map}
use Rattle.std.proofs.lemmas.List.{take_all}
use Rattle.report_spec.specs.Visible.{visible_byte}
use Rattle.report_text.proofs.VisibleBytes.{visible-is}
use Rattle.report_text.proofs.visible.push_visible.Goals as goal

pub returns-clause-bytes : goal.returns-clause-bytes
returns-clause-bytes c =
    c.loop-b.invariant.bytes
    ∙ ap (λ (bs : List ℕ). c.args.out.now.items ++ flat_map visible_byte bs)
    (take_all c.loop-b.b-index c.args.bytes.now (let past = c.loop-b-test.false in omega (arith, past)))
    ∙ ap (λ (bs : List ℕ). c.args.out.now.items ++ bs) (sym (visible-is c.args.bytes.now))
