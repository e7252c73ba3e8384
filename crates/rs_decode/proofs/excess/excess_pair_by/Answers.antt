-- Each sum is that of a parity and the one of its message, all zeros exactly for a codeword. For
-- `excess_pair_by`.
use Rattle.std.proofs.Common.{◌≡◌, length, arith}
use Rattle.rs_encode.proofs.Steps.{symbols_each}
use Rattle.rs_decode.proofs.ParitySums.{excess_is, excess_tells}
use Rattle.rs_decode.proofs.excess.excess_pair_by.Goals as goal

pub returns-clause-excess_a : goal.returns-clause-excess_a
returns-clause-excess_a c = excess_is (length c.args.out_a.now) c.args.a.now c.args.par_a.now c.parity_pair_by.new.out_a
    c.add_symbols.new.word c.requires.len_a c.parity_pair_by.ensures.a c.parity_pair_by.auto.out_a
    (omega (arith, c.add_symbols.auto.word, c.parity_pair_by.auto.out_a)) (λ k. (c.type_inv.par_a k).fits)
    c.add_symbols.ensures

pub returns-clause-excess_b : goal.returns-clause-excess_b
returns-clause-excess_b c = excess_is (length c.args.out_b.now) c.args.b.now c.args.par_b.now c.parity_pair_by.new.out_b
    c.add_symbols-2.new.word (omega (arith, c.requires.len_b, c.requires.same_par)) c.parity_pair_by.ensures.b
    c.parity_pair_by.auto.out_b (omega (arith, c.add_symbols-2.auto.word, c.parity_pair_by.auto.out_b))
    (λ k. (c.type_inv.par_b k).fits) c.add_symbols-2.ensures

pub returns-clause-a : goal.returns-clause-a
returns-clause-a c = excess_tells (length c.args.par_a.now) c.args.a.now c.args.par_a.now c.add_symbols.new.word
    c.all_zero-is_a.result (let e : length c.args.par_a.now ≡ length c.args.par_a.now = omega arith in e)
    c.requires.fits (symbols_each c.args.a.now (λ k. (c.type_inv.a k).fits))
    (symbols_each c.args.par_a.now (λ k. (c.type_inv.par_a k).fits)) (returns-clause-excess_a c) c.all_zero-is_a.ensures

pub returns-clause-b : goal.returns-clause-b
returns-clause-b c = excess_tells (length c.args.par_a.now) c.args.b.now c.args.par_b.now c.add_symbols-2.new.word
    c.all_zero-is_b.result c.requires.same_par (omega (arith, c.requires.fits, c.requires.same, c.requires.same_par))
    (symbols_each c.args.b.now (λ k. (c.type_inv.b k).fits))
    (symbols_each c.args.par_b.now (λ k. (c.type_inv.par_b k).fits)) (returns-clause-excess_b c) c.all_zero-is_b.ensures
