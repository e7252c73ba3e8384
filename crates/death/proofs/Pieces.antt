-- Landmarks and pieces before a line of the kernel, one after the other
use Rattle.std.proofs.Common.{◌≡◌, ℕ, zero, suc, ◌+◌, ◌-◌, ◌<◌, ◌==◌, nat_lt, Bool, true, false, cond, List, drop}
use Rattle.std.proofs.Common.{refl, ap, ◌∙◌, arith}
use Rattle.std.proofs.lemmas.Bool.{lt-ltb, ne_eqb}
use Rattle.death_spec.specs.declared.Landmark.{Landmark}
use Rattle.death_spec.specs.Fronts.{landmark_len, past_word, landmark_end, piece_len, past_pieces}

-- ---- landmarks

-- the word at a place, if some are left
abbrev pub end_at : Landmark → ℕ → List ℕ → ℕ → ℕ
end_at landmark n text at =
    cond (nat_lt 0 (landmark_len landmark (drop at text))) (at + landmark_len landmark (drop at text))
    (cond (past_word (drop at text) == 0) 0 (landmark_end landmark n text (at + past_word (drop at text))))

end_step : (landmark : Landmark) (n : ℕ) (text : List ℕ) (at : ℕ) → 0 < n
    → landmark_end landmark n text at ≡ end_at landmark (n - 1) text at
unfolding landmark_end
end_step landmark zero text at h = absurd (omega (arith, h))
end_step landmark (suc n) text at h =
    ap (λ k. end_at landmark k text at) (let m : n ≡ suc n - 1 = omega arith in m)

pub end_here : (landmark : Landmark) (n : ℕ) (text : List ℕ) (at : ℕ) → 0 < n
    → 0 < landmark_len landmark (drop at text)
    → landmark_end landmark n text at ≡ at + landmark_len landmark (drop at text)
end_here landmark n text at more h =
    end_step landmark n text at more
    ∙ ap (λ t. cond t (at + landmark_len landmark (drop at text))
    (cond (past_word (drop at text) == 0) 0 (landmark_end landmark (n - 1) text (at + past_word (drop at text)))))
    (lt-ltb 0 (landmark_len landmark (drop at text)) h)

end_later : (landmark : Landmark) (n : ℕ) (text : List ℕ) (at : ℕ) → 0 < n
    → landmark_len landmark (drop at text) ≡ 0
    → landmark_end landmark n text at
    ≡ cond (past_word (drop at text) == 0) 0 (landmark_end landmark (n - 1) text (at + past_word (drop at text)))
end_later landmark n text at more h =
    end_step landmark n text at more
    ∙ ap (λ k. cond (nat_lt 0 k) (at + k)
    (cond (past_word (drop at text) == 0) 0 (landmark_end landmark (n - 1) text (at + past_word (drop at text))))) h

pub end_nowhere : (landmark : Landmark) (n : ℕ) (text : List ℕ) (at : ℕ) → 0 < n
    → landmark_len landmark (drop at text) ≡ 0 → past_word (drop at text) ≡ 0
    → landmark_end landmark n text at ≡ 0
end_nowhere landmark n text at more h none =
    end_later landmark n text at more h
    ∙ ap (λ k. cond (k == 0) 0 (landmark_end landmark (n - 1) text (at + k))) none

pub end_next : (landmark : Landmark) (n : ℕ) (text : List ℕ) (at : ℕ) → 0 < n
    → landmark_len landmark (drop at text) ≡ 0 → (past_word (drop at text) ≡ 0 → ⊥)
    → landmark_end landmark n text at ≡ landmark_end landmark (n - 1) text (at + past_word (drop at text))
end_next landmark n text at more h some =
    end_later landmark n text at more h
    ∙ ap (λ t. cond t 0 (landmark_end landmark (n - 1) text (at + past_word (drop at text))))
    (ne_eqb (past_word (drop at text)) 0 some)

pub end_done : (landmark : Landmark) (text : List ℕ) (at : ℕ) → landmark_end landmark 0 text at ≡ 0
unfolding landmark_end
end_done landmark text at = refl

-- ---- pieces

pieces_step : (is_first : Bool) (n : ℕ) (text : List ℕ) (at : ℕ) → 0 < n
    → past_pieces is_first n text at
    ≡ cond (piece_len is_first (drop at text) == 0) at
    (past_pieces is_first (n - 1) text (at + piece_len is_first (drop at text)))
unfolding past_pieces
pieces_step is_first zero text at h = absurd (omega (arith, h))
pieces_step is_first (suc n) text at h =
    ap (λ k. cond (piece_len is_first (drop at text) == 0) at
    (past_pieces is_first k text (at + piece_len is_first (drop at text))))
    (let m : n ≡ suc n - 1 = omega arith in m)

pub pieces_end : (is_first : Bool) (n : ℕ) (text : List ℕ) (at : ℕ) → 0 < n
    → piece_len is_first (drop at text) ≡ 0 → past_pieces is_first n text at ≡ at
pieces_end is_first n text at more none =
    pieces_step is_first n text at more
    ∙ ap (λ k. cond (k == 0) at (past_pieces is_first (n - 1) text (at + k))) none

pub pieces_next : (is_first : Bool) (n : ℕ) (text : List ℕ) (at : ℕ) → 0 < n
    → (piece_len is_first (drop at text) ≡ 0 → ⊥)
    → past_pieces is_first n text at ≡ past_pieces is_first (n - 1) text (at + piece_len is_first (drop at text))
pieces_next is_first n text at more some =
    pieces_step is_first n text at more
    ∙ ap (λ t. cond t at (past_pieces is_first (n - 1) text (at + piece_len is_first (drop at text))))
    (ne_eqb (piece_len is_first (drop at text)) 0 some)

pub pieces_done : (is_first : Bool) (text : List ℕ) (at : ℕ) → past_pieces is_first 0 text at ≡ at
unfolding past_pieces
pieces_done is_first text at = refl
