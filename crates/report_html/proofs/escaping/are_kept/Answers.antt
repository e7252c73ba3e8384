-- Bytes that are each escaped as themselves
use Rattle.std.proofs.Common.{◌≡◌, ◌∙◌, List, ℕ, take, sym, ap, arith}
use Rattle.std.specs.Prelude.{flat_map}
use Rattle.std.proofs.lemmas.List.{take_all}
use Rattle.std.proofs.lemmas.Bool.{OnTrue_from}
use Rattle.report_spec.specs.Escaped.{escaped_byte}
use Rattle.report_html.proofs.Texts.{escaped-is}
use Rattle.report_html.proofs.escaping.are_kept.Goals as goal

pub returns : goal.returns
returns c = OnTrue_from c.loop-b.are_kept _ (λ kept.
    let bytes : List ℕ = c.args.bytes.now in
    let all : take c.loop-b.b-index bytes ≡ bytes =
    take_all c.loop-b.b-index bytes (let past = c.loop-b-test.false in omega (arith, past)) in
    escaped-is bytes
    ∙ ap (λ (bs : List ℕ). flat_map escaped_byte bs) (sym all)
    ∙ c.loop-b.invariant kept
    ∙ all)
