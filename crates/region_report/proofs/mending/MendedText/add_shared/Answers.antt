-- One byte more, and its doubt. For `add_shared`.
use Rattle.std.proofs.Common.{◌≡◌, ◌+◌, ◌∙◌, ◌++◌, ◌∷◌, [], ℕ, List, map, ap, sym, append_assoc, arith}
use Rattle.std.specs.List.{range_with_len}
use Rattle.std.proofs.lemmas.List.FromFn.{map-range_with_len_more}
use Rattle.report_spec.specs.Mending.{mended_byte, still_doubted}
use Rattle.region_report.specs.Mendings.{as_seen}
use Rattle.region_report.proofs.mending.MendedText.add_shared.Goals as goal

-- what is told of the first k places, and of the next
one-more : {A : Type 0} (f : ℕ → A) (k : ℕ) (before now : List A) (x : A)
    → now ≡ before ++ map f (range_with_len 0 k) → x ≡ f k
    → now ++ x ∷ [] ≡ before ++ map f (range_with_len 0 (k + 1))
one-more f k before now x so_far e =
    ap (λ xs. xs ++ x ∷ []) so_far
    ∙ append_assoc before (map f (range_with_len 0 k)) (x ∷ [])
    ∙ ap (λ y. before ++ (map f (range_with_len 0 k) ++ y ∷ [])) e
    ∙ ap (λ xs. before ++ xs) (sym (map-range_with_len_more f 0 k k (let e : 0 + k ≡ k = omega arith in e)))

pub loop-k-preserved : goal.loop-k-preserved
loop-k-preserved c =
    let x = as_seen c.args.x.now in
    let y = as_seen c.args.y.now in
    let k = c.loop-k.k in
    record {
      text = c.in_ok-push.ensures.items ∙ one-more (mended_byte x y) k c.args.self.now.text.items c.loop-k.self.text.items
          c.mended_byte.result c.loop-k.invariant.text c.mended_byte.ensures;
      doubts = c.in_ok-push-2.ensures.items
          ∙ one-more (still_doubted x y) k c.args.self.now.doubts.items c.loop-k.self.doubts.items
          c.still_doubted.result c.loop-k.invariant.doubts c.still_doubted.ensures;
      within = (let inside = c.loop-k-test.true in omega (arith, inside));
    }

pub returns-clause-text : goal.returns-clause-text
returns-clause-text c =
    let past = c.loop-k-test.false in
    let within = c.loop-k.invariant.within in
    c.loop-k.invariant.text
    ∙ ap (λ (n : ℕ). c.args.self.now.text.items
    ++ map (mended_byte (as_seen c.args.x.now) (as_seen c.args.y.now)) (range_with_len 0 n))
    (let e : c.loop-k.k ≡ c.args.len = omega (arith, within, past) in e)

pub returns-clause-doubts : goal.returns-clause-doubts
returns-clause-doubts c =
    let past = c.loop-k-test.false in
    let within = c.loop-k.invariant.within in
    c.loop-k.invariant.doubts
    ∙ ap (λ (n : ℕ). c.args.self.now.doubts.items
    ++ map (still_doubted (as_seen c.args.x.now) (as_seen c.args.y.now)) (range_with_len 0 n))
    (let e : c.loop-k.k ≡ c.args.len = omega (arith, within, past) in e)
