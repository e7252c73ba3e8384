-- Within half the parity the nearest codeword is the one that is decoded. For `decode_by`.
use Rattle.std.proofs.Common.{ℕ, List, ◌≡◌, ◌++◌, ◌/◌, length, take, unwrap_or, ap, refl, ◌∙◌, Option}
use Rattle.rs_decode.specs.Decoding.{decoded_by, fixes_by}
use Rattle.rs_decode.proofs.NearestFixes.{within_half}
use Rattle.rs_decode.proofs.decode_by.Goals as goal

pub returns-clause-answer : goal.returns-clause-answer
returns-clause-answer c =
    let W : List ℕ = c.args.msg.now ++ c.args.par.now in
    c.decode_within_by.ensures.answer ∙ ap (decoded_by W) (within_half (length c.args.par.now / 2) (length c.args.par.now)
    W (let h : length c.args.par.now / 2 ≡ length c.args.par.now / 2 = refl in h))

pub returns-clause-data : goal.returns-clause-data
returns-clause-data c =
    let W : List ℕ = c.args.msg.now ++ c.args.par.now in
    c.decode_within_by.ensures.data ∙ ap (λ (o : Option (List ℕ)). take (length c.args.msg.now) (unwrap_or o W))
    (within_half (length c.args.par.now / 2) (length c.args.par.now) W
    (let h : length c.args.par.now / 2 ≡ length c.args.par.now / 2 = refl in h))

pub returns-clause-fixes : goal.returns-clause-fixes
returns-clause-fixes c =
    let W : List ℕ = c.args.msg.now ++ c.args.par.now in
    c.decode_within_by.ensures.fixes ∙ ap (fixes_by W) (within_half (length c.args.par.now / 2) (length c.args.par.now) W
    (let h : length c.args.par.now / 2 ≡ length c.args.par.now / 2 = refl in h))
