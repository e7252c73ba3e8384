-- A file is one thing alone: a text, a text up to a fault, or one that gets too long
use Rattle.std.proofs.Common.{◌≡◌, ℕ, ◌-◌, ◌≤◌, List, [], ◌∷◌, length, drop, Result, Ok, Err, ap, ap₂, sym}
use Rattle.std.proofs.Common.{◌∙◌, arith, subst}
use Rattle.inflate_laws.proofs.OneEnd.{one_text, one_fault, no_fault_behind_text, too_long_is_long}
use Rattle.inflate_spec.specs.Texts.{Inflates, Exceeds}
use Rattle.gzip_spec.specs.declared.GzipFault.{GzipFault}
use Rattle.gzip_spec.specs.declared.GzipFault.TheVariants.{TrailingBytes}
use Rattle.gzip_spec.specs.Headers.{header_end}
use Rattle.gzip_spec.specs.Files.{Body, Whole, Faulty, Long, Deflates, Outcome, Next, Member, End, behind_body, Leads}
use Rattle.gzip_spec.specs.Files.{Members, Gives}

whole_or_long : (bytes : List ℕ) (most : ℕ) (text long : List ℕ) (taken : ℕ) → Inflates bytes text taken
    → length text ≤ most → Exceeds bytes most long → ⊥
whole_or_long bytes most text long taken is short exceeds =
    let more = (too_long_is_long bytes long most exceeds).no_text text taken is in omega (arith, more, short)

pub one_body : (bytes : List ℕ) (most : ℕ) (x y : Body) → Deflates bytes most x → Deflates bytes most y → x ≡ y
one_body bytes most (Whole t m) (Whole u n) a b =
    let e = one_text bytes t u m n a.0 b.0 in ap₂ (λ text taken. Whole text taken) e.0 e.1
one_body bytes most (Whole t m) (Faulty g u) a b = absurd (no_fault_behind_text bytes t u m g a.0 b.0)
one_body bytes most (Whole t m) (Long u) a b = absurd (whole_or_long bytes most t u m a.0 a.1 b)
one_body bytes most (Faulty f t) (Whole u n) a b = absurd (no_fault_behind_text bytes u t n f b.0 a.0)
one_body bytes most (Faulty f t) (Faulty g u) a b =
    let e = one_fault bytes t u f g a.0 b.0 in ap₂ (λ fault text. Faulty fault text) e.1 e.0
one_body bytes most (Faulty f t) (Long u) a b =
    let more = (too_long_is_long bytes u most b).no_fault t f a.0 in
    let short = a.1 in absurd (omega (arith, more, short))
one_body bytes most (Long t) (Whole u n) a b = absurd (whole_or_long bytes most u t n b.0 b.1 a)
one_body bytes most (Long t) (Faulty g u) a b =
    let more = (too_long_is_long bytes t most a).no_fault u g b.0 in
    let short = b.1 in absurd (omega (arith, more, short))
one_body bytes most (Long t) (Long u) a b = ap (λ text. Long text) ((too_long_is_long bytes t most a).one u b)

one_next : (most : ℕ) (header : Result ℕ GzipFault) (bytes before : List ℕ) (x y : Next)
    → Leads most header bytes before x → Leads most header bytes before y → x ≡ y
one_next most (Err fault) bytes before x y a b = a ∙ sym b
one_next most (Ok header) bytes before x y a b =
    a.next_is
    ∙ ap (behind_body bytes header before)
    (one_body (drop header bytes) (most - length before) a.body b.body a.deflates b.deflates)
    ∙ sym b.next_is

same_end : (x y : Outcome) → End x ≡ End y → x ≡ y
same_end x y e = cc

not_both : (x : Outcome) (bytes text : List ℕ) → End x ≡ Member bytes text → ⊥
not_both x bytes text e = cc

same_bytes : (a t b u : List ℕ) → Member a t ≡ Member b u → a ≡ b
same_bytes a t b u e = cc

same_text : (a t b u : List ℕ) → Member a t ≡ Member b u → t ≡ u
same_text a t b u e = cc

one_end : (ps qs : List (List ℕ × List ℕ)) (most : ℕ) (other : GzipFault) (bytes before : List ℕ) (x y : Outcome)
    → Members ps most other bytes before x → Members qs most other bytes before y → x ≡ y
unfolding Members
one_end [] [] most other bytes before x y a b =
    same_end x y (one_next most (header_end other bytes) bytes before (End x) (End y) a b)
one_end [] (q ∷ qs) most other bytes before x y a b =
    absurd (not_both x q.0 q.1 (one_next most (header_end other bytes) bytes before (End x) (Member q.0 q.1) a b.0))
one_end (p ∷ ps) [] most other bytes before x y a b =
    absurd (not_both y p.0 p.1 (one_next most (header_end other bytes) bytes before (End y) (Member p.0 p.1) b a.0))
one_end (p ∷ ps) (q ∷ qs) most other bytes before x y a b =
    let e = one_next most (header_end other bytes) bytes before (Member p.0 p.1) (Member q.0 q.1) a.0 b.0 in
    one_end ps qs most TrailingBytes p.0 p.1 x y a.1
    (subst (λ (w : List ℕ). Members qs most TrailingBytes w p.1 y) (sym (same_bytes p.0 p.1 q.0 q.1 e))
    (subst (λ (w : List ℕ). Members qs most TrailingBytes q.0 w y) (sym (same_text p.0 p.1 q.0 q.1 e)) b.1))

pub one_outcome : (most : ℕ) (bytes : List ℕ) (x y : Outcome) → Gives most bytes x → Gives most bytes y → x ≡ y
one_outcome most bytes x y a b =
    one_end a.places b.places most _ bytes [] x y a.members b.members
