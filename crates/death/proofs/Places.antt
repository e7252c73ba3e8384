-- The first place of a word, one byte after the other
use Rattle.std.proofs.Common.{◌≡◌, ℕ, ◌+◌, ◌≤◌, ◌<◌, true, false, cond, List, length, drop, sym, ap, ◌∙◌}
use Rattle.std.proofs.lemmas.List.{drop_all, drop_more}
use Rattle.death_spec.specs.declared.Mark.{Mark}
use Rattle.death_spec.specs.Marks.{begins, place_of}

-- at a byte: here, or one more than behind it
step : (mark : Mark) (text : List ℕ) (at : ℕ) → at < length text
    → place_of mark (drop at text) ≡ cond (begins mark (drop at text)) 0 (1 + place_of mark (drop (at + 1) text))
unfolding place_of
step mark text at inside =
    ap (place_of mark) (drop_more text at 0 inside)
    ∙ ap (λ rest. cond (begins mark rest) 0 (1 + place_of mark (drop (at + 1) text))) (sym (drop_more text at 0 inside))

pub here : (mark : Mark) (text : List ℕ) (at : ℕ) → at < length text → begins mark (drop at text) ≡ true
    → place_of mark (drop at text) ≡ 0
here mark text at inside e =
    step mark text at inside ∙ ap (λ t. cond t 0 (1 + place_of mark (drop (at + 1) text))) e

pub behind : (mark : Mark) (text : List ℕ) (at : ℕ) → at < length text → begins mark (drop at text) ≡ false
    → place_of mark (drop at text) ≡ 1 + place_of mark (drop (at + 1) text)
behind mark text at inside e =
    step mark text at inside ∙ ap (λ t. cond t 0 (1 + place_of mark (drop (at + 1) text))) e

pub past : (mark : Mark) (text : List ℕ) (at : ℕ) → length text ≤ at → place_of mark (drop at text) ≡ 0
unfolding place_of
past mark text at h = ap (place_of mark) (drop_all at text h)
