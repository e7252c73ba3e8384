-- A block has the values of its places; enough roots, or those of all places, are the roots. For `few_roots`.
use Rattle.std.proofs.Common.{◌≡◌, ◌≤◌, ◌+◌, ◌-◌, ◌*◌, ◌/◌, ◌%◌, ◌++◌, [], ℕ, List, length, get_or, get_or-take}
use Rattle.std.proofs.Common.{length-take, take, min, refl, ap, ap₂, ◌∙◌, arith, inl, inr}
use Rattle.code_spec.specs.Field.{gf_mul, gf_pow}
use Rattle.decoder_laws.specs.Chien.{roots_of}
use Rattle.rs_decode.specs.Fixes.{AreValues}
use Rattle.rs_decode.proofs.RootSearch.{moved_term, values_left, enough}
use Rattle.rs_decode.proofs.roots.few_roots.Goals as goal
use Rattle.rs_decode.proofs.roots.few_roots.Goals.{then-count-degree-2, else-count-degree-2}

pub loop-block-preserved : goal.loop-block-preserved
loop-block-preserved c =
    let v : List ℕ = c.args.locator.now in
    let n : ℕ = c.args.places in
    let i : ℕ = c.loop-block.block in
    let inv = c.loop-block.invariant in
    let terms : List ℕ = c.loop-block.terms in
    let values : List ℕ = c.value_bytes.result in
    let lv : length values ≡ 16 = c.value_bytes.ensures.len in
    let whole : 16 * (i + 1) ≤ n = (let h = c.loop-block-test.true in omega arith) in
    let are : AreValues v (n - 16 * i) values =
    values_left v terms values n i (n - 16 * i) c.requires.places (omega (arith, whole)) refl (omega (arith, lv)) inv.len
    inv.terms (λ k l. c.value_bytes.ensures.values k (omega (arith, lv, l))) in
    record {
      len = omega (arith, c.move_on.auto.word, inv.len);
      terms = λ j l. moved_term (get_or c.move_on.new.word j 0) (get_or terms j 0) (get_or v j 0) (256 - n) i
          (length v - 1 - j)
          (c.move_on.ensures j (omega (arith, c.move_on.auto.word, inv.len, l))
          ∙ ap (λ (x : ℕ). gf_mul (get_or terms j 0) (gf_pow 2 (16 * (x - 1 - j)))) inv.len)
          (inv.terms j l);
      few = omega (arith, c.take_roots-count.ensures.more, c.if-count-degree.false, lv);
      room = omega (arith, c.take_roots-count.auto.found, inv.room);
      roots = ap (λ (x : ℕ). take c.take_roots-count.result c.take_roots-count.new.found ++ roots_of v x)
          (let e : n - 16 * (i + 1) ≡ n - 16 * i - length values = omega (arith, lv) in e)
          ∙ c.take_roots-count.ensures.roots v are ∙ inv.roots;
    }

pub returns : goal.returns
returns c =
    let v : List ℕ = c.args.locator.now in
    let n : ℕ = c.args.places in
    let i : ℕ = c.loop-block.block in
    let d : ℕ = length v - 1 in
    let inv = c.loop-block.invariant in
    let last : i ≡ n / 16 = (let h = c.loop-block-test.false in let b = c.loop-block.auto.block-end in omega arith) in
    let front : c.take_front-2.new.powers.items ≡ take (min c.if-count-degree-2.count d) c.if-count-degree-2.found =
    c.take_front-2.ensures ∙ ap (λ (j : ℕ). take j c.if-count-degree-2.found) c.min.ensures in
    front ∙ elim c.if-count-degree-2.branch [
      | then-count-degree-2 w ↦
          let found : List ℕ = w.take_roots-count-then-count-degree-2.new.found in
          let count : ℕ = w.take_roots-count-then-count-degree-2.result in
          let all : List ℕ = w.value_bytes-then-count-degree-2.result in
          let values : List ℕ = take (n % 16) all in
          let la : length all ≡ 16 = w.value_bytes-then-count-degree-2.ensures.len in
          let lv : length values ≡ n % 16 = omega (arith, length-take (n % 16) all, la) in
          let left : n % 16 ≡ n - 16 * i = omega (arith, last) in
          let are : AreValues v (n % 16) values =
          values_left v c.loop-block.terms values n i (n % 16) c.requires.places (omega (arith, last)) left
          (omega (arith, lv)) inv.len inv.terms (λ k l. get_or-take (n % 16) all k 0 (omega (arith, lv, l))
          ∙ w.value_bytes-then-count-degree-2.ensures.values k (omega (arith, lv, l))) in
          let whole : take count found ++ roots_of v (n % 16 - length values) ≡ roots_of v n =
          w.take_roots-count-then-count-degree-2.ensures.roots v are
          ∙ ap (λ (x : ℕ). take c.loop-block.count c.loop-block.found ++ roots_of v x) left ∙ inv.roots in
          let none : roots_of v (n % 16 - length values) ≡ [] =
          ap (roots_of v) (let e : n % 16 - length values ≡ 0 = omega (arith, lv) in e) in
          ap₂ (λ (k : ℕ) (f : List ℕ). take (min k d) f) w.count-is w.found-is
          ∙ enough d count found (roots_of v (n % 16 - length values)) (roots_of v n)
          (omega (
            arith,
            w.take_roots-count-then-count-degree-2.ensures.more,
            w.take_roots-count-then-count-degree-2.auto.found,
            w.if-count-degree-2.true,
            inv.room,
            lv,
            c.requires.few,
          ))
          whole (inr none)
      | else-count-degree-2 w ↦
          ap₂ (λ (k : ℕ) (f : List ℕ). take (min k d) f) w.count-is w.found-is
          ∙ enough d c.loop-block.count c.loop-block.found (roots_of v (n - 16 * i)) (roots_of v n)
          (omega (arith, inv.few, inv.room, c.requires.few)) inv.roots (inl w.if-count-degree-2.false)
    ]
