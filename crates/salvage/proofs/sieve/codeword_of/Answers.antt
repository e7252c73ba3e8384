-- The header's bytes and their parity are a codeword with the known bytes. For `codeword_of`.
use Rattle.std.proofs.Common.{ℕ, ap, ◌∙◌}
use Rattle.code_spec.specs.Code.{parity_of}
use Rattle.salvage.proofs.BlockFactors.{known_word}
use Rattle.salvage.proofs.sieve.codeword_of.Goals as goal

pub returns : goal.returns
returns c = known_word c.args.known.now c.args.parity _ c.args.header.now _ c.joined.result.items c.joined.ensures
    (c.parity.ensures ∙ ap (λ (r : ℕ). parity_of r c.args.header.now) c.requires.coder)
    c.requires.header c.requires.twelve
    c.requires.len c.requires.few (λ k. (c.type_inv.header k).fits)
