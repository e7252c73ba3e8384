-- The places where boots begin, one line after the other, and the spans that they make
use Rattle.std.proofs.Common.{◌≡◌, ℕ, zero, suc, ◌+◌, ◌-◌, ◌<◌, ◌≤◌, Bool, true, false, cond, nat_lt, ◌&&◌, List, []}
use Rattle.std.proofs.Common.{◌∷◌}
use Rattle.std.proofs.Common.{◌++◌, length, refl, sym, ap, ◌∙◌, arith, inl, inr, append_assoc}
use Rattle.std.proofs.Common.{append-nil, ap₂, Option}
use Rattle.std.proofs.lemmas.Bool.{lt-ltb, le-ltb, ltb-true, and_parts, cases_lt}
use Rattle.text_log_spec.specs.declared.Boot.{Boot}
use Rattle.text_log_spec.specs.declared.Head.{Head}
use Rattle.text_log_spec.specs.Words.{head_of}
use Rattle.text_log_spec.specs.Boots.{begins, is_booting_behind, line_at, next_line, firsts, boot}
use Rattle.text_log_spec.specs.Boots.{spans, boots_of, Joined}

-- where boots begin below a line
below : ℕ → List ℕ → Bool → ℕ → List ℕ
below n text is_booting at =
    firsts n text (is_booting_behind is_booting (head_of (line_at text at))) (next_line text at)

at_line : (n : ℕ) (text : List ℕ) (is_booting : Bool) (at : ℕ) → at < length text
    → firsts (suc n) text is_booting at
    ≡ cond (begins is_booting (head_of (line_at text at))) (at ∷ below n text is_booting at)
    (below n text is_booting at)
unfolding firsts below
at_line n text is_booting at h =
    ap (λ t. cond t (cond (begins is_booting (head_of (line_at text at))) (at ∷ below n text is_booting at)
    (below n text is_booting at)) []) (lt-ltb at (length text) h)

past : (n : ℕ) (text : List ℕ) (is_booting : Bool) (at : ℕ) → length text ≤ at → firsts n text is_booting at ≡ []
unfolding firsts below
past zero text is_booting at h = refl
past (suc n) text is_booting at h =
    ap (λ t. cond t (cond (begins is_booting (head_of (line_at text at))) (at ∷ below n text is_booting at)
    (below n text is_booting at)) []) (le-ltb at (length text) h)

-- more than as many lines as bytes change nothing
enough : (n m : ℕ) (text : List ℕ) (is_booting : Bool) (at : ℕ) → length text ≤ at + n → length text ≤ at + m
    → firsts n text is_booting at ≡ firsts m text is_booting at
unfolding below
enough zero m text is_booting at hn hm =
    past zero text is_booting at (omega arith) ∙ sym (past m text is_booting at (omega arith))
enough (suc n) zero text is_booting at hn hm =
    past (suc n) text is_booting at (omega arith) ∙ sym (past zero text is_booting at (omega arith))
enough (suc n) (suc m) text is_booting at hn hm = elim (cases_lt at (length text)) [
  | inl h ↦ at_line n text is_booting at h
      ∙ ap (λ rest. cond (begins is_booting (head_of (line_at text at))) (at ∷ rest) rest)
      (enough n m text (is_booting_behind is_booting (head_of (line_at text at))) (next_line text at)
      (omega arith) (omega arith))
      ∙ sym (at_line m text is_booting at h)
  | inr h ↦ past (suc n) text is_booting at h ∙ sym (past (suc m) text is_booting at h)
]

spans_more : (t : Bool) (from at : ℕ) (places : List ℕ) (end : ℕ)
    → spans from (cond t (at ∷ places) places) end
    ≡ cond (t && nat_lt from at) (boot from at ∷ spans at places end) (spans from places end)
unfolding spans
spans_more true from at places end = refl
spans_more false from at places end = refl

-- where boots begin from a place on
abbrev pub rest : List ℕ → Bool → ℕ → List ℕ
rest text is_booting at = firsts (length text - at) text is_booting at

-- and from the next line on
abbrev pub rest_below : List ℕ → Bool → ℕ → List ℕ
rest_below text is_booting at = rest text (is_booting_behind is_booting (head_of (line_at text at))) (next_line text at)

line_more : (text : List ℕ) (is_booting : Bool) (at from : ℕ) → at < length text
    → spans from (rest text is_booting at) (length text)
    ≡ cond (begins is_booting (head_of (line_at text at)) && nat_lt from at)
    (boot from at ∷ spans at (rest_below text is_booting at)
    (length text))
    (spans from (rest_below text is_booting at) (length text))
unfolding below
line_more text is_booting at from h =
    let more : length text - at ≡ suc (length text - at - 1) = omega arith in
    ap (λ n. spans from (firsts n text is_booting at) (length text)) more
    ∙ ap (λ places. spans from places (length text)) (at_line (length text - at - 1) text is_booting at h)
    ∙ ap (λ ps. spans from (cond (begins is_booting (head_of (line_at text at))) (at ∷ ps) ps) (length text))
    (enough (length text - at - 1) (length text - next_line text at) text
    (is_booting_behind is_booting (head_of (line_at text at))) (next_line text at) (omega arith) (omega arith))
    ∙ spans_more (begins is_booting (head_of (line_at text at))) from at
    (rest_below text is_booting at) (length text)

-- a boot ends before this line
pub cut_here : (text : List ℕ) (is_booting : Bool) (at from : ℕ) (done : List Boot) → at < length text
    → boots_of text ≡ done ++ spans from (rest text is_booting at) (length text)
    → (begins is_booting (head_of (line_at text at)) && nat_lt from at) ≡ true
    → boots_of text ≡ (done ++ boot from at ∷ [])
    ++ spans at (rest_below text is_booting at) (length text)
cut_here text is_booting at from done h so_far cut =
    let below = spans at (rest_below text is_booting at)
    (length text) in
    so_far
    ∙ ap (λ more. done ++ more) (line_more text is_booting at from h
    ∙ ap (λ t. cond t (boot from at ∷ below)
    (spans from (rest_below text is_booting at) (length text)))
    cut)
    ∙ sym (append_assoc done (boot from at ∷ []) below)

-- none does
pub goes_on : (text : List ℕ) (is_booting : Bool) (at from : ℕ) (done : List Boot) → at < length text
    → boots_of text ≡ done ++ spans from (rest text is_booting at) (length text)
    → (begins is_booting (head_of (line_at text at)) && nat_lt from at) ≡ false
    → boots_of text ≡ done
    ++ spans from (rest_below text is_booting at) (length text)
goes_on text is_booting at from done h so_far cut =
    so_far
    ∙ ap (λ more. done ++ more) (line_more text is_booting at from h
    ∙ ap (λ t. cond t (boot from at
    ∷ spans at (rest_below text is_booting at) (length text))
    (spans from (rest_below text is_booting at) (length text)))
    cut)

-- the same, in what the code found of the line
pub cut_found : (text : List ℕ) (is_booting behind : Bool) (at from next : ℕ) (done now : List Boot)
    (head : Option Head)
    → at < length text → boots_of text ≡ done ++ spans from (rest text is_booting at) (length text)
    → head ≡ head_of (line_at text at) → behind ≡ is_booting_behind is_booting head → next ≡ next_line text at
    → (begins is_booting head && nat_lt from at) ≡ true → now ≡ done ++ boot from at ∷ []
    → boots_of text ≡ now ++ spans at (rest text behind next) (length text)
cut_found text is_booting behind at from next done now head h so_far is_head is_behind is_next cut is_now =
    cut_here text is_booting at from done h so_far
    (ap (λ x. begins is_booting x && nat_lt from at) (sym is_head) ∙ cut)
    ∙ ap (λ x. (done ++ boot from at ∷ []) ++ spans at (rest text (is_booting_behind is_booting x) (next_line text at))
    (length text)) (sym is_head)
    ∙ ap₂ (λ b n. (done ++ boot from at ∷ []) ++ spans at (rest text b n) (length text)) (sym is_behind) (sym is_next)
    ∙ ap (λ x. x ++ spans at (rest text behind next) (length text)) (sym is_now)

pub on_found : (text : List ℕ) (is_booting behind : Bool) (at from next : ℕ) (done : List Boot) (head : Option Head)
    → at < length text → boots_of text ≡ done ++ spans from (rest text is_booting at) (length text)
    → head ≡ head_of (line_at text at) → behind ≡ is_booting_behind is_booting head → next ≡ next_line text at
    → (begins is_booting head && nat_lt from at) ≡ false
    → boots_of text ≡ done ++ spans from (rest text behind next) (length text)
on_found text is_booting behind at from next done head h so_far is_head is_behind is_next cut =
    goes_on text is_booting at from done h so_far
    (ap (λ x. begins is_booting x && nat_lt from at) (sym is_head) ∙ cut)
    ∙ ap (λ x. done ++ spans from (rest text (is_booting_behind is_booting x) (next_line text at)) (length text))
    (sym is_head)
    ∙ ap₂ (λ b n. done ++ spans from (rest text b n) (length text)) (sym is_behind) (sym is_next)

-- behind the last line
pub at_end : (text : List ℕ) (is_booting : Bool) (at from : ℕ) (done : List Boot) → length text ≤ at
    → boots_of text ≡ done ++ spans from (rest text is_booting at) (length text)
    → boots_of text ≡ done ++ cond (nat_lt from (length text)) (boot from (length text) ∷ []) []
unfolding spans
at_end text is_booting at from done h so_far =
    so_far
    ∙ ap (λ places. done ++ spans from places (length text)) (past (length text - at) text is_booting at h)

-- the last boot, if there is one
pub last_here : (text : List ℕ) (is_booting : Bool) (at from : ℕ) (done now : List Boot) → length text ≤ at
    → boots_of text ≡ done ++ spans from (rest text is_booting at) (length text) → from < length text
    → now ≡ done ++ boot from (length text) ∷ [] → now ≡ boots_of text
last_here text is_booting at from done now h so_far more is_now =
    is_now
    ∙ sym (at_end text is_booting at from done h so_far
    ∙ ap (λ t. done ++ cond t (boot from (length text) ∷ []) []) (lt-ltb from (length text) more))

pub none_here : (text : List ℕ) (is_booting : Bool) (at from : ℕ) (done : List Boot) → length text ≤ at
    → boots_of text ≡ done ++ spans from (rest text is_booting at) (length text) → length text ≤ from
    → done ≡ boots_of text
none_here text is_booting at from done h so_far more =
    sym (at_end text is_booting at from done h so_far
    ∙ ap (λ t. done ++ cond t (boot from (length text) ∷ []) []) (le-ltb from (length text) more)
    ∙ append-nil done)

pub from_start : (text : List ℕ) → boots_of text ≡ [] ++ spans 0 (rest text false 0) (length text)
unfolding boots_of
from_start text =
    ap (λ n. spans 0 (firsts n text false 0) (length text)) (let e : length text ≡ length text - 0 = omega arith in e)

pub later : (t : Bool) (from at : ℕ) → (t && nat_lt from at) ≡ true → from < at
later t from at e = ltb-true from at (and_parts t (nat_lt from at) e).1

-- one boot more
pub joined_more : (from : ℕ) (boots : List Boot) (to end : ℕ) → Joined from boots to → to < end
    → Joined from (boots ++ boot to end ∷ []) end
unfolding Joined
joined_more from [] to end j h = (sym j, (rw j h, refl))
joined_more from (b ∷ boots) to end j h = (j.0, (j.1.0, joined_more b.end boots to end j.1.1 h))

pub joined_none : Joined 0 [] 0
unfolding Joined
joined_none = refl
