-- A codeword is clean, a mended word fixed and any other bad, with bytes and fixes as defined. For
-- `decode_values`.
use Rattle.std.proofs.Common.{ℕ, List, length, refl, sym, ap, ◌∙◌, ◌++◌}
use Rattle.code_spec.specs.Code.{nearest}
use Rattle.decoder_laws.specs.Damage.{IsWithin}
use Rattle.rs_decode.specs.Fixes.{applied}
use Rattle.rs_decode.specs.declared.Fix.{Fix}
use Rattle.rs_decode.specs.Decoding.{within}
use Rattle.rs_decode.proofs.FixedWords.{length-fixes_between, take-applied}
use Rattle.rs_decode.proofs.NearestFixes.{within_codeword, within_near, decoded_clean, decoded_fixed, decoded_bad}
use Rattle.rs_decode.proofs.NearestFixes.{data_clean, data_fixed, data_bad, fixes_clean, fixes_fixed, fixes_bad}
use Rattle.rs_decode.proofs.decode_values.Goals as goal

pub returns-then-not-damaged-clause-answer : goal.returns-then-not-damaged-clause-answer
returns-then-not-damaged-clause-answer c =
    let W : List ℕ = c.args.msg.now ++ c.args.par.now in
    decoded_clean W (within c.args.most W (nearest (length c.args.par.now) W))
    (within_codeword c.args.most (length c.args.par.now) W
    (c.requires.clean c.if-not-damaged.true))

pub returns-then-not-damaged-clause-data : goal.returns-then-not-damaged-clause-data
returns-then-not-damaged-clause-data c =
    let W : List ℕ = c.args.msg.now ++ c.args.par.now in
    data_clean c.args.msg.now c.args.par.now (within c.args.most W (nearest (length c.args.par.now) W))
    (within_codeword c.args.most (length c.args.par.now) W (c.requires.clean c.if-not-damaged.true))

pub returns-then-not-damaged-clause-fixes : goal.returns-then-not-damaged-clause-fixes
returns-then-not-damaged-clause-fixes c =
    let W : List ℕ = c.args.msg.now ++ c.args.par.now in
    fixes_clean W c.clear.new.self.items (within c.args.most W (nearest (length c.args.par.now) W))
    (within_codeword c.args.most (length c.args.par.now) W (c.requires.clean c.if-not-damaged.true))
    c.clear.ensures

pub returns-then-corrected-clause-answer : goal.returns-then-corrected-clause-answer
returns-then-corrected-clause-answer c =
    let W : List ℕ = c.args.msg.now ++ c.args.par.now in
    let fs : List Fix = c.corrected.new.fixes.items in
    let near : IsWithin c.args.most (length c.args.par.now) W (applied fs W) =
    c.corrected.ensures.near c.if-corrected.true in
    decoded_fixed W (applied fs W) c.len-count.result (within c.args.most W (nearest (length c.args.par.now) W))
    (within_near c.args.most (length c.args.par.now) W (applied fs W) (c.corrected.ensures.nearest c.if-corrected.true)
    (c.corrected.ensures.near c.if-corrected.true)) (c.corrected.ensures.some c.if-corrected.true)
    (sym (length-fixes_between W (applied fs W) near.len)
    ∙ ap length (sym (c.corrected.ensures.fixes c.if-corrected.true)) ∙ sym c.len-count.ensures.value)

pub returns-then-corrected-clause-data : goal.returns-then-corrected-clause-data
returns-then-corrected-clause-data c =
    let W : List ℕ = c.args.msg.now ++ c.args.par.now in
    let fs : List Fix = c.corrected.new.fixes.items in
    data_fixed c.args.msg.now c.args.par.now (applied fs W) c.apply.new.word
    (within c.args.most W (nearest (length c.args.par.now) W))
    (within_near c.args.most (length c.args.par.now) W (applied fs W) (c.corrected.ensures.nearest c.if-corrected.true)
    (c.corrected.ensures.near c.if-corrected.true))
    (c.apply.ensures ∙ ap (λ (us : List Fix). applied us c.args.msg.now) c.as_slice.ensures.value
    ∙ sym (take-applied (length c.args.msg.now) fs c.args.msg.now c.args.par.now refl))

pub returns-then-corrected-clause-fixes : goal.returns-then-corrected-clause-fixes
returns-then-corrected-clause-fixes c =
    let W : List ℕ = c.args.msg.now ++ c.args.par.now in
    let fs : List Fix = c.corrected.new.fixes.items in
    let near : IsWithin c.args.most (length c.args.par.now) W (applied fs W) =
    c.corrected.ensures.near c.if-corrected.true in
    fixes_fixed W (applied fs W) fs (within c.args.most W (nearest (length c.args.par.now) W))
    near.len (within_near c.args.most (length c.args.par.now) W (applied fs W)
    (c.corrected.ensures.nearest c.if-corrected.true)
    (c.corrected.ensures.near c.if-corrected.true)) (c.corrected.ensures.fixes c.if-corrected.true)

pub returns-else-corrected-clause-answer : goal.returns-else-corrected-clause-answer
returns-else-corrected-clause-answer c =
    let W : List ℕ = c.args.msg.now ++ c.args.par.now in
    decoded_bad W (within c.args.most W (nearest (length c.args.par.now) W))
    (c.corrected.ensures.nowhere c.if-corrected.false)

pub returns-else-corrected-clause-data : goal.returns-else-corrected-clause-data
returns-else-corrected-clause-data c =
    let W : List ℕ = c.args.msg.now ++ c.args.par.now in
    data_bad c.args.msg.now c.args.par.now (within c.args.most W (nearest (length c.args.par.now) W))
    (c.corrected.ensures.nowhere c.if-corrected.false)

pub returns-else-corrected-clause-fixes : goal.returns-else-corrected-clause-fixes
returns-else-corrected-clause-fixes c =
    let W : List ℕ = c.args.msg.now ++ c.args.par.now in
    fixes_bad W c.clear-else-corrected.new.self.items (within c.args.most W (nearest (length c.args.par.now) W))
    (c.corrected.ensures.nowhere c.if-corrected.false) c.clear-else-corrected.ensures
