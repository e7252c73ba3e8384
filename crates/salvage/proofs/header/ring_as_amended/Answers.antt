-- Amended bytes that are no ring's words, that are no codeword, and that are one: each answers as
-- the ring near the word. For `ring_as_amended`.
use Rattle.std.proofs.Common.{◌≡◌, ◌++◌, ◌∙◌, length, sym, ap, true, false, ℕ}
use Rattle.std.proofs.lemmas.Bool.{false_from_ne_true}
use Rattle.code_spec.specs.Code.{is_codeword}
use Rattle.salvage.proofs.HeaderSums.{amended_unlike, amended_same, amended_other}
use Rattle.salvage.proofs.header.ring_as_amended.Goals as goal

pub returns-in_err-ring : goal.returns-in_err-ring
returns-in_err-ring c =
    c.from_residual.ensures
    ∙ amended_unlike c.args.zone.now c.args.at c.args.amends (length c.args.parity.now) c.args.bytes.now
    c.args.parity.now c.requires.len (sym c.in_err-ring.was ∙ c.ring_with.ensures)

pub returns-then-is_parity : goal.returns-then-is_parity
returns-then-is_parity c =
    amended_same c.args.zone.now c.args.at c.args.amends (length c.args.parity.now) c.args.bytes.now
    c.args.parity.now c.requires.len _ (sym c.in_ok-ring.was ∙ c.ring_with.ensures)
    (sym (ap (λ (r : ℕ). is_codeword r (c.args.bytes.now ++ c.args.parity.now)) c.requires.coder)
    ∙ c.is_parity.ensures.0 c.if-is_parity.true)

pub returns-else-is_parity : goal.returns-else-is_parity
returns-else-is_parity c =
    amended_other c.args.zone.now c.args.at c.args.amends (length c.args.parity.now) c.args.bytes.now
    c.args.parity.now c.requires.len
    (false_from_ne_true (is_codeword (length c.args.parity.now) (c.args.bytes.now ++ c.args.parity.now)) (λ h.
    let t : c.is_parity.result ≡ true = c.is_parity.ensures.1
    (ap (λ (r : ℕ). is_codeword r (c.args.bytes.now ++ c.args.parity.now)) c.requires.coder ∙ h) in
    let bad : true ≡ false = sym t ∙ c.if-is_parity.false in cc))
