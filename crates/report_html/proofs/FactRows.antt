-- Rows of bytes that are there
use Rattle.std.proofs.Common.{◌≡◌, ℕ, Bool, false, true, List, [], ◌∷◌, length, codes, refl, ◌==◌}
use Rattle.report_spec.specs.Facts.{seconds_from}
use Rattle.report_html.specs.Pieces.{Part, Words, Bytes, Log, Long}
use Rattle.report_html.specs.Facts.{up_parts, bytes_parts}
use Rattle.report_html.specs.Died.{folded_parts}
use Rattle.report_html.specs.declared.words.TheConstants.{OPENING, CLOSING}
use Rattle.report_html.specs.Warnings.{better_parts}

pub row_is : (label bytes : List ℕ) → (length bytes == 0) ≡ false
    → Words (codes "<tr><th scope=\"row\">") ∷ Words label ∷ Words (codes "</th><td>") ∷ Bytes bytes
    ∷ Words (codes "</td></tr>\n") ∷ [] ≡ bytes_parts label bytes
row_is label [] e = let n : true ≡ false = e in cc
row_is label (b ∷ bs) e = refl

pub better_is : (better : List ℕ) → (length better == 0) ≡ false
    → Words OPENING.now ∷ Words (codes "Another layout explains it better; give only these words: ") ∷ Bytes better
    ∷ Words CLOSING.now ∷ [] ≡ better_parts better
better_is [] e = let n : true ≡ false = e in cc
better_is (b ∷ bs) e = refl

pub up_is : (uptime : List ℕ) (n : ℕ) → (length uptime == 0) ≡ false → n ≡ seconds_from 0 uptime
    → Words (codes ", ") ∷ Bytes uptime ∷ Words (codes " s after boot") ∷ Long n ∷ Words (codes "</td></tr>\n") ∷ []
    ≡ up_parts uptime
up_is [] n e s = let n : true ≡ false = e in cc
up_is (b ∷ bs) n e s = rw s refl

pub folded_is : (words : List ℕ) (doubts : List Bool) (bytes : List ℕ) → (length bytes == 0) ≡ false
    → Words (codes "<details>\n<summary>") ∷ Words words ∷ Words (codes "</summary>\n<pre class=\"log\">\n") ∷ Log doubts bytes
    ∷ Words (codes "</pre>\n</details>\n") ∷ [] ≡ folded_parts words doubts bytes
folded_is words doubts [] e = let n : true ≡ false = e in cc
folded_is words doubts (b ∷ bs) e = refl
