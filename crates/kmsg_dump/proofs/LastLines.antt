-- The last lines that fit: of lines that fit, of one line more, of last lines; and that they are the longest suffix
use Rattle.std.proofs.Common.{◌≡◌, ℕ, subst, min, ◌+◌, ◌-◌, ◌<◌, ◌≤◌, All, inl, inr, List, [], ◌∷◌, ◌++◌, length, refl}
use Rattle.std.proofs.Common.{ap, sym, ◌∙◌, arith, append_assoc, append-nil}
use Rattle.std.proofs.lemmas.List.{length-append}
use Rattle.std.proofs.lemmas.List.Elements.{All-tail}
use Rattle.std.proofs.lemmas.Bool.{le-leb, lt-leb}
use Rattle.std.proofs.lemmas.Bool.Decides.{leb_tells}
use Rattle.kmsg_spec.specs.Bodies.{ended, bytes_of, last_lines, AreLastThatFit}

-- lines that fit are their last lines
pub all_fit : (room : ℕ) (lines : List (List ℕ)) → length (bytes_of lines) ≤ room → last_lines room lines ≡ lines
unfolding last_lines
all_fit room [] h = refl
all_fit room (line ∷ lines) h = rw (le-leb (length (bytes_of (line ∷ lines))) room h) refl

-- of lines that do not fit the first goes
pub behind_first : (room : ℕ) (line : List ℕ) (lines : List (List ℕ)) → room < length (bytes_of (line ∷ lines))
    → last_lines room (line ∷ lines) ≡ last_lines room lines
unfolding last_lines
behind_first room line lines h = rw (lt-leb (length (bytes_of (line ∷ lines))) room h) refl

pub none_of_none : (room : ℕ) → last_lines room [] ≡ []
unfolding last_lines
none_of_none room = refl

-- the bytes of one line more
pub bytes_more : (lines : List (List ℕ)) (text : List ℕ) → bytes_of (lines ++ text ∷ []) ≡ bytes_of lines ++ ended text
bytes_more [] text = append-nil (ended text)
bytes_more (line ∷ lines) text = ap (λ bytes. ended line ++ bytes) (bytes_more lines text)
    ∙ sym (append_assoc (ended line) (bytes_of lines) (ended text))

pub length_more : (lines : List (List ℕ)) (text : List ℕ)
    → length (bytes_of (lines ++ text ∷ [])) ≡ length (bytes_of lines) + length (ended text)
length_more lines text = ap length (bytes_more lines text) ∙ length-append (bytes_of lines) (ended text)

-- the last lines of one line more
pub one_more : (room : ℕ) (lines : List (List ℕ)) (text : List ℕ) → length (ended text) ≤ room
    → last_lines room (lines ++ text ∷ []) ≡ last_lines (room - length (ended text)) lines ++ text ∷ []
one_more room [] text h =
    let e = length_more [] text in
    all_fit room (text ∷ []) (omega (arith, e)) ∙ ap (λ lines. lines ++ text ∷ [])
    (sym (none_of_none (room - length (ended text))))
one_more room (line ∷ lines) text h =
    let e = length_more (line ∷ lines) text in
    elim (leb_tells (length (bytes_of (line ∷ lines))) (room - length (ended text))) [
      | inl f ↦ all_fit room ((line ∷ lines) ++ text ∷ []) (omega (arith, e, f.1))
          ∙ ap (λ lines. lines ++ text ∷ []) (sym (all_fit (room - length (ended text)) (line ∷ lines) f.1))
      | inr f ↦ behind_first room line (lines ++ text ∷ []) (omega (arith, e, f.1))
          ∙ one_more room lines text h
          ∙ ap (λ lines. lines ++ text ∷ []) (sym (behind_first (room - length (ended text)) line lines f.1))
    ]

-- the last lines of last lines
pub of_last : (m n : ℕ) (lines : List (List ℕ)) → m ≤ n → last_lines m (last_lines n lines) ≡ last_lines m lines
of_last m n [] h = ap (last_lines m) (none_of_none n)
of_last m n (line ∷ lines) h = elim (leb_tells (length (bytes_of (line ∷ lines))) n) [
  | inl f ↦ ap (last_lines m) (all_fit n (line ∷ lines) f.1)
  | inr f ↦ ap (last_lines m) (behind_first n line lines f.1) ∙ of_last m n lines h
      ∙ sym (behind_first m line lines (omega (arith, f.1)))
]

-- what holds of lines holds of their last ones
pub all_of_last : (P : List ℕ → Type 0) (room : ℕ) (lines : List (List ℕ)) → All P lines → All P (last_lines room lines)
all_of_last P room [] h = subst (All P) (sym (none_of_none room)) h
all_of_last P room (line ∷ lines) h = elim (leb_tells (length (bytes_of (line ∷ lines))) room) [
  | inl f ↦ subst (All P) (sym (all_fit room (line ∷ lines) f.1)) h
  | inr f ↦ subst (All P) (sym (behind_first room line lines f.1)) (all_of_last P room lines (All-tail P line lines h))
]

-- a room that is more than the lines need may as well be what they need
pub in_room : (room : ℕ) (lines : List (List ℕ))
    → last_lines (min (length (bytes_of lines)) room) lines ≡ last_lines room lines
in_room room lines = elim (leb_tells (length (bytes_of lines)) room) [
  | inl f ↦ let e : min (length (bytes_of lines)) room ≡ length (bytes_of lines) = omega (arith, f.1) in
      ap (λ k. last_lines k lines) e ∙ all_fit (length (bytes_of lines)) lines (omega arith)
      ∙ sym (all_fit room lines f.1)
  | inr f ↦ let e : min (length (bytes_of lines)) room ≡ room = omega (arith, f.1) in ap (λ k. last_lines k lines) e
]

suffix_of_more : (room : ℕ) (line : List ℕ) (lines last front back : List (List ℕ))
    → room < length (bytes_of (line ∷ lines)) → AreLastThatFit room lines last
    → line ∷ lines ≡ front ++ back → length (bytes_of back) ≤ room → length back ≤ length last
suffix_of_more room line lines last [] back long ih e h =
    let same = ap (λ xs. length (bytes_of xs)) e in absurd (omega (arith, same))
suffix_of_more room line lines last (f ∷ front) back long ih e h =
    let tails : lines ≡ front ++ back = cc in ih.longest front back tails h

pub last_lines_fit : (room : ℕ) (lines : List (List ℕ)) → AreLastThatFit room lines (last_lines room lines)
last_lines_fit room [] = rw (none_of_none room) (record {
  before = [];
  suffix = refl;
  fit = omega arith;
  longest = λ front back e h. let n = ap length e ∙ length-append front back in omega (arith, n);
})
last_lines_fit room (line ∷ lines) = elim (leb_tells (length (bytes_of (line ∷ lines))) room) [
  | inl f ↦ rw (all_fit room (line ∷ lines) f.1) (record {
    before = [];
    suffix = refl;
    fit = f.1;
    longest = λ front back e h. let n = ap length e ∙ length-append front back in omega (arith, n);
  })
  | inr f ↦ let ih = last_lines_fit room lines in rw (behind_first room line lines f.1) (record {
    before = line ∷ ih.before;
    suffix = ap (λ xs. line ∷ xs) ih.suffix;
    fit = ih.fit;
    longest = λ front back e h. suffix_of_more room line lines (last_lines room lines) front back f.1 ih e h;
  })
]
