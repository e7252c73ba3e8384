-- The runs stand one after another. For `put_chunk`.
use Rattle.std.proofs.Common.{◌≡◌, ◌+◌, ◌-◌, ◌∙◌, [], List, ℕ, take, drop, length, slice_range, sym, ap, arith}
use Rattle.std.proofs.Common.{length-drop, length-take-le}
use Rattle.std.specs.Prelude.{flat_map}
use Rattle.std.proofs.lemmas.List.{take_all}
use Rattle.report_spec.specs.Escaped.{escaped_byte}
use Rattle.report_html.proofs.Texts.{escaped-is}
use Rattle.report_html.proofs.Runs.{run-next}
use Rattle.report_html.proofs.escaping.put_chunk.Goals as goal

pub loop-at-preserved : goal.loop-at-preserved
loop-at-preserved c =
    let chunk : List ℕ = c.args.chunk.now in
    let at : ℕ = c.loop-at.at in
    let next : ℕ = at + c.min.result in
    let least = c.min.ensures in
    let below = c.loop-at-test.true in
    let so_far = c.loop-at.invariant.within in
    let end = c.put_run-end.ensures.end in
    let left = length-drop at chunk in
    let run : length (slice_range chunk at next) ≡ next - at = length-take-le (next - at) (drop at chunk)
    (omega (arith, left, least, below)) in
    record {
      text = run-next chunk at next [] (take c.loop-at.end c.loop-at.room) (take c.put_run-end.result c.put_run-end.new.room)
          (omega arith) c.loop-at.invariant.text c.put_run-end.ensures.text;
      within = omega (arith, so_far, end, run);
      read = omega (arith, least, below);
      room = c.put_run-end.ensures.len ∙ c.loop-at.invariant.room;
    }

pub returns-clause-text : goal.returns-clause-text
returns-clause-text c =
    let chunk : List ℕ = c.args.chunk.now in
    c.loop-at.invariant.text
    ∙ ap (λ (bs : List ℕ). flat_map escaped_byte bs)
    (take_all c.loop-at.at chunk (let past = c.loop-at-test.false in omega (arith, past)))
    ∙ sym (escaped-is chunk)
