-- A piece more lengthens what is copied by the bytes that follow. For the loop of `copy_run`.
use Rattle.std.proofs.Common.{ℕ, List, ◌+◌, ◌++◌, take, drop, refl, ap, ◌∙◌, arith}
use Rattle.zone_boot.specs.Reads.{bytes_at}
use Rattle.zone_boot.proofs.Rows.{put-none, put-then}
use Rattle.zone_boot.proofs.Blocks.{bytes_at-none, bytes_at-length, bytes_at-append}
use Rattle.zone_boot.proofs.copying.copy_run.Goals as goal

pub loop-done-init : goal.loop-done-init
loop-done-init c = record {
  most = omega arith;
  copied = put-none c.args.at c.args.out.now _
      (bytes_at-none c.args.zone.now c.args.image.now c.args.place 0 (omega arith));
}

pub loop-done-preserved : goal.loop-done-preserved
loop-done-preserved c =
    let z = c.args.zone.now in
    let x = c.args.image.now in
    let p : ℕ = c.args.place in
    let n : ℕ = c.loop-done.done in
    let m : ℕ = c.copy_piece-done.result in
    let xs : List ℕ = c.args.out.now in
    record {
      most = (let l = c.copy_piece-done.ensures.most in let t = c.loop-done-test.true in omega (arith, l, t));
      copied = c.copy_piece-done.ensures.copied
          ∙ put-then c.args.at n m (c.args.at + n) (c.args.at + n + m) xs c.loop-done.out (bytes_at z x p n)
          (bytes_at z x (p + n) m) refl refl
          (let l = c.copy_piece-done.ensures.most in let t = c.loop-done-test.true in let r = c.requires.room in
          omega (arith, l, t, r))
          (bytes_at-length z x p n) c.loop-done.invariant.copied
          ∙ ap (λ (l : List ℕ). take c.args.at xs ++ l ++ drop (c.args.at + (n + m)) xs) (bytes_at-append z x p n m);
    }
