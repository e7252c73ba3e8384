-- The symbols after 16 zeros are the word's, last one first. For `reverse_into`.
use Rattle.std.proofs.Common.{◌≡◌, ℕ, List, length, reverse, drop, sym, ◌∙◌, arith, ext_get_or, get_or-drop}
use Rattle.std.proofs.Common.{length-drop}
use Rattle.std.proofs.lemmas.List.{length-reverse, get_or-reverse}
use Rattle.rs_decode.proofs.euclid.reverse_into.Goals as goal

pub returns-clause-rest : goal.returns-clause-rest
returns-clause-rest c =
    let w : List ℕ = c.args.word.now in
    let u : List ℕ = c.loop-i.out in
    let lu : length (drop 16 u) ≡ length w = omega (arith, length-drop 16 u) in
    ext_get_or 0 (drop 16 u) (reverse w) (lu ∙ sym (length-reverse w))
    (λ k l. get_or-drop 16 u k 0 ∙ c.loop-i.invariant.done k (omega (arith, lu))
    ∙ sym (get_or-reverse w k 0 (omega (arith, lu))))
