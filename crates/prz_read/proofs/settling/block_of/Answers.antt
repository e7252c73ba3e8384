-- The three pieces, end to end, are the block's bytes. For `block_of`.
use Rattle.std.proofs.Common.{◌≡◌, ◌-◌, ◌*◌, List, ℕ, ◌++◌, length, take, drop, ap, ap₂, ◌∙◌, arith, length-append}
use Rattle.prz_read.proofs.LogSources.{cut-append}
use Rattle.prz_read.proofs.settling.block_of.Goals as goal

pub returns : goal.returns
returns c =
    let n : ℕ = c.args.zone.now.block in
    let log : List ℕ = c.args.log.now in
    let front : List ℕ = c.split_at.result.1.now in
    let back : List ℕ = c.split_at.result.0.now in
    let at : ℕ = n * c.args.b in
    let one = c.push_piece.ensures.pushed ∙ ap (λ (l : List ℕ). l ++ take (n - length l) (drop at front)) c.new-out.ensures
    ∙ ap (λ (k : ℕ). take k (drop at front)) (let e : n - 0 ≡ n = omega arith in e) in
    let fb = c.split_at.ensures.back in
    let ff = c.split_at.ensures.front in
    let two = c.push_piece-2.ensures.pushed ∙ cut-append n at _ front back _ one c.saturating_sub.ensures in
    let lf = c.split_at.ensures.front_len in
    let lb = c.split_at.ensures.back_len in
    let start = c.requires.start in
    let long : length log ≡ length (front ++ back) = omega (arith, length-append front back, lf, lb, start) in
    let three = c.push_piece-3.ensures.pushed ∙ cut-append n at _ (front ++ back) c.args.tail.now _ two
    (c.saturating_sub-2.ensures ∙ ap (λ (k : ℕ). at - k) long) in
    three ∙ ap₂ (λ (u v : List ℕ). take n (drop at ((u ++ v) ++ c.args.tail.now))) fb ff
