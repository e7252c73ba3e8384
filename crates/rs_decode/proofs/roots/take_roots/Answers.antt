-- A value of zero is one root more, any other none. For the loop of `take_roots`.
use Rattle.std.proofs.Common.{◌≡◌, ◌<◌, ◌+◌, ◌-◌, ◌++◌, ℕ, List, length, take, set, suc, sym, ap, ◌∙◌, arith}
use Rattle.std.proofs.Common.{length-set}
use Rattle.std.proofs.lemmas.List.{take_more_set, take-set}
use Rattle.decoder_laws.specs.Chien.{roots_of}
use Rattle.rs_decode.proofs.RootSearch.{root_found, root_passed}
use Rattle.rs_decode.proofs.roots.take_roots.Goals as goal
use Rattle.rs_decode.proofs.roots.take_roots.Goals.{then-values-k-eq0, else-values-k-eq0}

pub loop-k-preserved : goal.loop-k-preserved
loop-k-preserved c =
    let k : ℕ = c.loop-k.k in
    let n : ℕ = c.loop-k.n in
    let f : List ℕ = c.loop-k.found in
    let m : ℕ = c.args.left - 1 - k in
    let g : List ℕ = set f n m in
    let vs : List ℕ = c.args.values.now in
    let room : n < length f = omega arith in
    let len : length g ≡ length c.args.found.now = length-set f n m ∙ c.loop-k.invariant.len in
    let es : c.args.left - k ≡ suc m = omega arith in
    let es' : c.args.left - (k + 1) ≡ m = omega arith in
    let em : k + suc m ≡ c.args.left = omega arith in
    elim c.if-values-k-eq0.branch [
      | then-values-k-eq0 w ↦ record {
        more = omega (arith, w.n-is, c.loop-k.invariant.more);
        len = len;
        roots = λ v h. root_found v (take n f) (take c.if-values-k-eq0.n g)
            (take c.args.count c.args.found.now ++ roots_of v c.args.left) m (c.args.left - k) (c.args.left - (k + 1))
            es es' (ap (λ (i : ℕ). take i g) w.n-is ∙ take_more_set f n m room)
            (sym (h.at k m c.loop-k-test.true em) ∙ w.if-values-k-eq0.true) (c.loop-k.invariant.roots v h);
      }
      | else-values-k-eq0 w ↦ record {
        more = omega (arith, w.n-is, c.loop-k.invariant.more);
        len = len;
        roots = λ v h. root_passed v (take n f) (take c.if-values-k-eq0.n g)
            (take c.args.count c.args.found.now ++ roots_of v c.args.left) m (c.args.left - k) (c.args.left - (k + 1))
            es es' (ap (λ (i : ℕ). take i g) w.n-is ∙ take-set f n m)
            (λ e. w.if-values-k-eq0.false (h.at k m c.loop-k-test.true em ∙ e)) (c.loop-k.invariant.roots v h);
      }
    ]
