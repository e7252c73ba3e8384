-- One place more, and all places in the end
use Rattle.std.proofs.Common.{◌≡◌, ◌-◌, ◌+◌, ◌∙◌, ◌++◌, ◌∷◌, [], ℕ, Bool, List, map, ap, sym, append_assoc, arith}
use Rattle.std.specs.List.{range_with_len}
use Rattle.std.proofs.lemmas.List.FromFn.{map-range_with_len_more}
use Rattle.report_spec.specs.Doubts.{is_doubtful}
use Rattle.region_report.proofs.doubts.push_doubts.Goals as goal

pub loop-place-preserved : goal.loop-place-preserved
loop-place-preserved c =
    let f : ℕ → Bool = is_doubtful c.args.block c.args.states.now in
    let from = c.args.from in
    let place = c.loop-place.place in
    let low = c.loop-place.invariant.from in
    let before : List Bool = c.args.doubts.now.items in
    let so_far : List Bool = map f (range_with_len from (place - from)) in
    let at : from + (place - from) ≡ place = omega (arith, low) in
    let more : place - from + 1 ≡ place + 1 - from = omega (arith, low) in
    record {
      doubts = c.in_ok-push.ensures.items
          ∙ ap (λ (ds : List Bool). ds ++ c.is_doubtful.result ∷ []) c.loop-place.invariant.doubts
          ∙ append_assoc before so_far (c.is_doubtful.result ∷ [])
          ∙ ap (λ (d : Bool). before ++ (so_far ++ d ∷ [])) c.is_doubtful.ensures
          ∙ ap (λ (ds : List Bool). before ++ ds) (sym (map-range_with_len_more f from (place - from) place at))
          ∙ ap (λ (n : ℕ). before ++ map f (range_with_len from n)) more;
      from = omega (arith, low);
      left = omega (arith, c.loop-place.invariant.left, low, c.loop-place-test.true);
    }

pub returns : goal.returns
returns c =
    let f : ℕ → Bool = is_doubtful c.args.block c.args.states.now in
    let from = c.args.from in
    let past = c.loop-place-test.false in
    let left = c.loop-place.invariant.left in
    c.loop-place.invariant.doubts
    ∙ ap (λ (n : ℕ). c.args.doubts.now.items ++ map f (range_with_len from n))
    (let e : c.loop-place.place - from ≡ c.args.to - from = omega (arith, left, past) in e)
