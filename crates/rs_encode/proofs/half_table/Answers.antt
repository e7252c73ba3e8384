-- Two columns more, for low and high halves of bytes, leave those before them. For `half_table`.
use Rattle.std.proofs.Common.{◌+◌, ◌*◌, ℕ, List, drop, ◌∙◌, subst, arith, below_more}
use Rattle.rs_encode.specs.Lanes.{IsColumn}
use Rattle.std.proofs.lemmas.List.{take_rest}
use Rattle.rs_encode.proofs.Lanes.{column_kept}
use Rattle.rs_encode.proofs.half_table.Goals as goal

pub loop-j-init : goal.loop-j-init
loop-j-init c = record {
  len = c.requires.len;
  zero = λ k l. c.requires.zeros k;
  low = λ j l. absurd (omega arith);
  high = λ j l. absurd (omega arith);
}

pub loop-j-preserved : goal.loop-j-preserved
loop-j-preserved c =
    let v = c.loop-j.invariant in
    let a = c.fill_column.ensures in
    let b = c.fill_column-in-loop-j.ensures in
    let g : List ℕ = c.args.generator.now in
    let j : ℕ = c.loop-j.j in
    let t : List ℕ = c.loop-j.rows in
    let m : List ℕ = c.fill_column.new.table in
    let u : List ℕ = c.fill_column-in-loop-j.new.table in
    record {
      len = omega arith;
      zero = λ k l. b.after k (omega arith) ∙ a.after k (omega arith) ∙ v.zero k (omega arith);
      low = below_more (λ (i : ℕ). IsColumn (32 * i) 16 0 (drop (16 * i + 1) g) u) j
          (λ i l. column_kept (32 * i) 16 0 (drop (16 * i + 1) g) t u
          (λ k s e. b.before k (omega arith) ∙ a.before k (omega arith)) (v.low i l))
          (column_kept (32 * j) 16 0 (drop (16 * j + 1) g) m u (λ k s e. b.before k (omega arith))
          (subst (λ (w : List ℕ). IsColumn (32 * j) 16 0 w m) (take_rest g (16 * j + 1)) a.column));
      high = below_more (λ (i : ℕ). IsColumn (32 * i + 16) 16 4 (drop (16 * i + 1) g) u) j
          (λ i l. column_kept (32 * i + 16) 16 4 (drop (16 * i + 1) g) t u
          (λ k s e. b.before k (omega arith) ∙ a.before k (omega arith)) (v.high i l))
          (subst (λ (w : List ℕ). IsColumn (32 * j + 16) 16 4 w u) (take_rest g (16 * j + 1)) b.column);
    }
