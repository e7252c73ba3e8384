-- What the words ask for, from their second word on
use Rattle.std.proofs.Common.{◌≡◌, ℕ, ◌-◌, ◌≤◌, List, [], ◌∷◌, drop, take, length, get_or, Option, None, Some}
use Rattle.std.proofs.Common.{MatchOption, String, Global, string_bytes, ap, ap₂, ◌∙◌, subst, arith}
use Rattle.std.proofs.Math.Seq.{take-length}
use Rattle.grammar_spec.specs.Fields.{Text}
use Rattle.command_spec.specs.Commands.{Asked, asked, asked_by}
use Rattle.command_line.specs.declared.asked.Asked.{Asked as ReadAsked}
use Rattle.command_line.specs.Words.{texts, asked_seen}

-- all words behind the second
behind : (x w : String Global) (rest : List (String Global)) → take (length (x ∷ w ∷ rest) - 2) rest ≡ rest
behind x w rest =
    let few : length (x ∷ w ∷ rest) - 2 ≡ length rest = omega arith in
    ap (λ (n : ℕ). take n rest) few ∙ take-length rest

pub asked_from : (words : List (String Global)) (word : String Global) (text : Text) (result : Option ReadAsked)
    → 2 ≤ length words → word ≡ get_or words 1 word → text ≡ string_bytes word
    → MatchOption result (asked_by text (texts (take (length words - 2) (drop 2 words))) ≡ None)
    (λ a. asked_by text (texts (take (length words - 2) (drop 2 words))) ≡ Some (asked_seen a))
    → MatchOption result (asked (texts words) ≡ None) (λ a. asked (texts words) ≡ Some (asked_seen a))
asked_from [] word text result two is same h = absurd (omega (arith, two))
asked_from (x ∷ []) word text result two is same h = absurd (omega (arith, two))
asked_from (x ∷ w ∷ rest) word text result two is same h =
    subst (λ (o : Option Asked). MatchOption result (o ≡ None) (λ a. o ≡ Some (asked_seen a)))
    (ap₂ (λ (t : Text) (ws : List (String Global)). asked_by t (texts ws)) (same ∙ ap string_bytes is)
    (behind x w rest)) h
