-- The bytes that are gathered are the front of the log, at most 40, in which the line is sought.
-- For `has_line`.
use Rattle.std.proofs.Common.{◌≡◌, ◌+◌, ◌∙◌, ap, arith, map}
use Rattle.std.specs.Prelude.{ℕ, slice_index, min, is_some}
use Rattle.std.specs.List.{range_with_len}
use Rattle.std.proofs.lemmas.List.FromFn.{map-range_with_len_more}
use Rattle.zone_spec.specs.TimeLines.{has_line}
use Rattle.layout_spec.specs.Marks.{log_place, log_front}
use Rattle.layout_search.proofs.looking.has_line.Goals as goal

pub loop-i-preserved : goal.loop-i-preserved
loop-i-preserved c =
    let f : ℕ → ℕ = λ i. slice_index c.args.image.now (c.args.zone.now.at + 12 + log_place c.args.words.now i) in
    record {
      bytes =
          let next = map-range_with_len_more f 0 c.loop-i.i c.loop-i.i (omega arith) in
          let byte : c.log_byte.result ≡ f c.loop-i.i = c.log_byte.ensures in
          let old : c.loop-i.front.items ≡ map f (range_with_len 0 c.loop-i.i) = c.loop-i.invariant.bytes in cc;
      len = omega (arith, c.push.ensures.len, c.loop-i.invariant.len);
    }

pub returns : goal.returns
unfolding log_front
returns c =
    let last : c.loop-i.i ≡ min 40 c.args.words.now.size = omega arith in
    c.is_some.ensures ∙ ap is_some c.read_line.ensures
    ∙ ap has_line (c.as_slice.ensures.value ∙ c.loop-i.invariant.bytes
    ∙ ap (λ n. map (λ i. slice_index c.args.image.now (c.args.zone.now.at + 12 + log_place c.args.words.now i))
    (range_with_len 0 n)) last)
