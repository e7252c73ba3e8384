-- The bytes of a block's lane are its sums. For `told`.
use Rattle.std.proofs.Common.{◌≡◌, ℕ, ◌+◌, ◌-◌, ◌<◌, List, Option, length, take, sym, subst, ◌∙◌, refl, arith}
use Rattle.std.specs.Prelude.{slice_range}
use Rattle.std.proofs.lemmas.List.{length-take-le}
use Rattle.rs_encode.specs.Lanes.{digit}
use Rattle.salvage.specs.declared.sieve.Weight.{Weight}
use Rattle.salvage.specs.declared.sieve.Block.{Block}
use Rattle.salvage.specs.Sieves.{AreRows, IsBlock, times_power, sum_at}
use Rattle.salvage.proofs.Rows.{length-range, rows_taken}
use Rattle.salvage.proofs.BlockFactors.{between, block_sum}

pub block_sums : (ks : List (Option ℕ)) (r : ℕ) (b : Block) (is : IsBlock ks r b) (word base : List ℕ)
    → length word ≡ 12 + r → length base ≡ length word → (rows : List ℕ) → rows ≡ b.rows.items → (lane : ℕ)
    → ((gs : List Weight) → length gs ≡ length (slice_range word b.from b.to) → AreRows gs rows → (i p : ℕ)
    → i + p ≡ 15 → digit lane p ≡ sum_at i gs (slice_range word b.from b.to) (slice_range base b.from b.to))
    → (s : ℕ → ℕ) → ((i p : ℕ) → i + p ≡ 15 → s i ≡ digit lane p) → (i : ℕ) → i < 7
    → s i ≡ between (times_power is.others i) word base b.from b.to
block_sums ks r b is word base l e rows er lane made s digits i m =
    digits i (15 - i) (omega (arith, m))
    ∙ made (take (b.to - b.from) is.weights)
    (length-take-le (b.to - b.from) is.weights (omega (arith, is.len, is.short))
    ∙ sym (length-range word b.from b.to (omega (arith, is.some)) (omega (arith, is.within, l))))
    (subst (AreRows (take (b.to - b.from) is.weights)) (sym er) (rows_taken (b.to - b.from) is.weights b.rows.items is.rows))
    i (15 - i) (omega (arith, m))
    ∙ block_sum ks r b is word base l e i m _ refl
