-- What stands before a line's words, one piece and one word after the other
use Rattle.std.proofs.Common.{◌≡◌, ℕ, zero, suc, ◌-◌, ◌<◌, nat_eq, true, false, cond, List, length, drop, refl, ap, ◌∙◌}
use Rattle.std.proofs.Common.{arith}
use Rattle.std.proofs.lemmas.Bool.{eq-eqb, ne_eqb}
use Rattle.std.specs.List.{starts_with}
use Rattle.text_log_spec.specs.declared.TheConstants.{KERNEL}
use Rattle.text_log_spec.specs.Words.{piece_len, behind_pieces, behind_kernel, next_word}

pub no_piece : (n : ℕ) (text : List ℕ) → piece_len text ≡ 0 → behind_pieces n text ≡ text
unfolding behind_pieces
no_piece zero text e = refl
no_piece (suc n) text e =
    ap (λ t. cond t text (behind_pieces n (drop (piece_len text) text))) (eq-eqb (piece_len text) 0 e)

pub one_piece : (n : ℕ) (text : List ℕ) → 0 < n → (piece_len text ≡ 0 → ⊥)
    → behind_pieces n text ≡ behind_pieces (n - 1) (drop (piece_len text) text)
unfolding behind_pieces
one_piece zero text h e = absurd (omega arith)
one_piece (suc n) text h e =
    ap (λ t. cond t text (behind_pieces n (drop (piece_len text) text))) (ne_eqb (piece_len text) 0 e)
    ∙ ap (λ k. behind_pieces k (drop (piece_len text) text)) (let m : n ≡ suc n - 1 = omega arith in m)

pub pieces_done : (text : List ℕ) → behind_pieces 0 text ≡ text
unfolding behind_pieces
pieces_done text = refl

pub kernel_here : (n : ℕ) (whole text : List ℕ) → 0 < n → starts_with nat_eq text KERNEL.now ≡ true
    → behind_kernel n whole text ≡ drop (length KERNEL.now) text
unfolding behind_kernel
kernel_here zero whole text h e = absurd (omega arith)
kernel_here (suc n) whole text h e =
    ap (λ t. cond t (drop (length KERNEL.now) text) (behind_kernel n whole (next_word text))) e

pub kernel_later : (n : ℕ) (whole text : List ℕ) → 0 < n → starts_with nat_eq text KERNEL.now ≡ false
    → behind_kernel n whole text ≡ behind_kernel (n - 1) whole (next_word text)
unfolding behind_kernel
kernel_later zero whole text h e = absurd (omega arith)
kernel_later (suc n) whole text h e =
    ap (λ t. cond t (drop (length KERNEL.now) text) (behind_kernel n whole (next_word text))) e
    ∙ ap (λ k. behind_kernel k whole (next_word text)) (let m : n ≡ suc n - 1 = omega arith in m)

pub kernel_nowhere : (whole text : List ℕ) → behind_kernel 0 whole text ≡ whole
unfolding behind_kernel
kernel_nowhere whole text = refl
