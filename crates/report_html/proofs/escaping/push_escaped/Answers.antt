-- The chunks stand one after another
use Rattle.std.proofs.Common.{◌+◌, ◌∙◌, ◌++◌, List, ℕ, sym, ap, arith}
use Rattle.std.specs.Prelude.{flat_map}
use Rattle.std.proofs.lemmas.List.{take_all}
use Rattle.report_spec.specs.Escaped.{escaped_byte}
use Rattle.report_html.proofs.Texts.{escaped-is}
use Rattle.report_html.proofs.Runs.{run-next}
use Rattle.report_html.proofs.escaping.push_escaped.Goals as goal

pub loop-at-preserved : goal.loop-at-preserved
loop-at-preserved c =
    let bytes : List ℕ = c.args.bytes.now in
    let at : ℕ = c.loop-at.at in
    let end : ℕ = at + c.min.result in
    let least = c.min.ensures in
    let below = c.loop-at-test.true in
    record {
      items = run-next bytes at end c.args.out.now.items c.loop-at.out.items c.extend_from_slice.new.self.items (omega arith)
          c.loop-at.invariant.items (c.in_ok-extend_from_slice.ensures.items
          ∙ ap (λ (bs : List ℕ). c.loop-at.out.items ++ bs) c.put_chunk-end.ensures.text);
      within = omega (arith, least, below);
    }

pub returns : goal.returns
returns c =
    let bytes : List ℕ = c.args.bytes.now in
    c.loop-at.invariant.items
    ∙ ap (λ (bs : List ℕ). c.args.out.now.items ++ flat_map escaped_byte bs)
    (take_all c.loop-at.at bytes (let past = c.loop-at-test.false in omega (arith, past)))
    ∙ ap (λ (bs : List ℕ). c.args.out.now.items ++ bs) (sym (escaped-is bytes))
