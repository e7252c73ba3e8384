-- The kind, and then the function. For `signature`.
use Rattle.death.proofs.Names.{signed}
use Rattle.death.proofs.signatures.signature.Goals as goal

pub returns : goal.returns
returns c =
    signed c.args.text.now c.args.death.now _ _ _ _ _ _ c.signed_words.ensures c.new-signature.ensures.items
    c.in_ok-blame.ensures.0 c.in_ok-blame.ensures.1 c.blamed.ensures c.in_ok-push_function.ensures
