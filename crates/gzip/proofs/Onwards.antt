-- What comes behind a member goes on to what the file is
use Rattle.std.proofs.Common.{◌≡◌, ℕ, ◌+◌, ◌≤◌, ◌<◌, inl, inr, cond, List, [], ◌∷◌, ◌++◌}
use Rattle.std.proofs.Common.{length}
use Rattle.std.proofs.Common.{drop, Result, Ok, Err, Some, None, refl, sym, ap, subst, arith}
use Rattle.std.proofs.lemmas.Bool.{eq-eqb, ne_eqb}
use Rattle.std.specs.Global.{Vec}
use Rattle.std.proofs.lemmas.List.{drop-drop, length-drop}
use Rattle.gzip_spec.specs.declared.GzipFault.{GzipFault}
use Rattle.gzip_spec.specs.declared.GzipFault.TheVariants.{TrailingBytes, NotGzip}
use Rattle.gzip_spec.specs.Headers.{header_end}
use Rattle.gzip_spec.specs.Files.{Outcome, Text, Broken, TooLong, Next, Member, End, behind, behind_end, Leads, Members}
use Rattle.gzip_spec.specs.Files.{Gives}
use Rattle.gzip.specs.declared.bodies.Stop.{Stop}
use Rattle.gzip.specs.declared.bodies.Stop.TheVariants as stops
use Rattle.gzip.specs.declared.GzipError.{GzipError}
use Rattle.gzip.specs.declared.GzipError.TheVariants as errors
use Rattle.gzip.specs.Goes.{Onward, Goes, IsJoined, stopped, Ends, Answers, Tells, AllGo}
use Rattle.gzip.proofs.OneOutcome.{one_outcome}

-- one member more before others
step_on : (most : ℕ) (other : GzipFault) (bytes text : List ℕ) (next : Next) (outcome : Outcome)
    → Leads most (header_end other bytes) bytes text next → Ends most next outcome
    → (places : List (List ℕ × List ℕ)) × Members places most other bytes text outcome
unfolding Members
step_on most other bytes text (Member rest more) outcome leads ends =
    ((rest, more) ∷ ends.places, (leads, ends.members))
step_on most other bytes text (End end) outcome leads ends =
    ([], subst (λ (o : Outcome). Leads most (header_end other bytes) bytes text (End o)) ends leads)

pub first_on : (most : ℕ) (bytes : List ℕ) (next : Next) (outcome : Outcome)
    → Leads most (header_end NotGzip bytes) bytes [] next → Ends most next outcome → Gives most bytes outcome
first_on most bytes next outcome leads ends =
    let all = step_on most NotGzip bytes [] next outcome leads ends in record { places = all.0; members = all.1 }

pub later_on : (most : ℕ) (bytes text : List ℕ) (next : Next) (outcome : Outcome)
    → Leads most (header_end TrailingBytes bytes) bytes text next → Ends most next outcome
    → Ends most (Member bytes text) outcome
later_on most bytes text next outcome leads ends =
    let all = step_on most TrailingBytes bytes text next outcome leads ends in
    record { places = all.0; members = all.1 }

-- bytes that are left begin another member; behind the last one there are none
pub goes_on : (bytes text : List ℕ) → 0 < length bytes → behind bytes text ≡ Member bytes text
goes_on bytes text h =
    ap (λ t. cond t (End (Text text)) (Member bytes text)) (ne_eqb (length bytes) 0 (λ e. absurd (omega (arith, e, h))))

pub comes_to_end : (bytes text : List ℕ) → length bytes ≡ 0 → behind bytes text ≡ End (Text text)
comes_to_end bytes text h =
    ap (λ t. cond t (End (Text text)) (Member bytes text)) (eq-eqb (length bytes) 0 h)

-- what stands behind a body
pub ended_here : (most : ℕ) (bytes text : List ℕ) (leads : Next → Type 0) (end : Result ℕ GzipFault)
    → leads (behind_end bytes text end) → length text ≤ most
    → ((at : ℕ) → end ≡ Ok at → (0 < at) × (at ≤ length bytes)) → Goes most bytes text leads (stopped end)
ended_here most bytes text leads (Ok at) h short inside =
    record { there = h; short = short; forward = (inside at refl).0; inside = (inside at refl).1 }
ended_here most bytes text leads (Err fault) h short inside = record { there = h; short = short }

-- the text was joined, or memory ran out
pub joined_goes : (most : ℕ) (bytes before more text : List ℕ) (leads : Next → Type 0) (end result : Result ℕ Stop)
    → IsJoined before more text end result → Goes most bytes (before ++ more) leads end
    → Goes most bytes text leads result
joined_goes most bytes before more text leads end result (inl e) goes =
    subst (λ (r : Result ℕ Stop). Goes most bytes text leads r) (sym e) tt
joined_goes most bytes before more text leads end result (inr e) goes =
    subst (λ (r : Result ℕ Stop). Goes most bytes text leads r) (sym e.0)
    (subst (λ (t : List ℕ). Goes most bytes t leads end) (sym e.1) goes)

-- what is so is what was answered
pub tells : (most : ℕ) (bytes : List ℕ) (result : Result (Vec ℕ) GzipError) → Answers most bytes result
    → (outcome : Outcome) → Gives most bytes outcome → Tells outcome result
tells most bytes (Ok text) a outcome g = one_outcome most bytes outcome (Text text.items) g a.gives
tells most bytes (Err errors.Memory) a outcome g = tt
tells most bytes (Err (errors.TooLong text)) a outcome g = one_outcome most bytes outcome (TooLong text.items) g a.gives
tells most bytes (Err (errors.Broken fault text)) a outcome g =
    one_outcome most bytes outcome (Broken fault text.items) g a.gives

-- a file that stops here
pub halts : (most : ℕ) (bytes rest text : List ℕ) (leads : Next → Type 0) (stop : Stop)
    → ((outcome : Outcome) → leads (End outcome) → Gives most bytes outcome) → Goes most rest text leads (Err stop)
    → AllGo most bytes text (Some stop)
halts most bytes rest text leads stops.Memory here goes = tt
halts most bytes rest text leads stops.TooLong here goes =
    record { gives = here (TooLong text) goes.there; short = goes.short }
halts most bytes rest text leads (stops.Broken fault) here goes =
    record { gives = here (Broken fault text) goes.there; short = goes.short }

-- a file whose last member this was
pub all_read : (most : ℕ) (bytes text : List ℕ) (at taken : ℕ) (leads : Next → Type 0)
    → ((outcome : Outcome) → leads (End outcome) → Gives most bytes outcome)
    → Onward most (drop at bytes) text leads taken → at + taken ≡ length bytes → AllGo most bytes text None
all_read most bytes text at taken leads here goes end =
    let none : length (drop taken (drop at bytes)) ≡ 0 =
    omega (arith, end, length-drop taken (drop at bytes), length-drop at bytes) in
    record {
      gives = here (Text text) (subst leads (comes_to_end (drop taken (drop at bytes)) text none) goes.there);
      short = goes.short;
    }

-- the member behind this one
pub all_more : (most : ℕ) (bytes text : List ℕ) (at taken : ℕ) (leads : Next → Type 0)
    → ((next : Next) (outcome : Outcome) → leads next → Ends most next outcome → Gives most bytes outcome)
    → Onward most (drop at bytes) text leads taken → (at + taken ≡ length bytes → ⊥) → (next : Next) (outcome : Outcome)
    → Leads most (header_end TrailingBytes (drop (at + taken) bytes)) (drop (at + taken) bytes) text next
    → Ends most next outcome → Gives most bytes outcome
all_more most bytes text at taken leads here goes on next outcome later ends =
    let inside = goes.inside in
    let some : 0 < length (drop taken (drop at bytes)) =
    omega (arith, on, inside, length-drop taken (drop at bytes), length-drop at bytes) in
    let same : drop (at + taken) bytes ≡ drop taken (drop at bytes) = sym (drop-drop taken at bytes) in
    here (behind (drop taken (drop at bytes)) text) outcome goes.there
    (subst (λ (n : Next). Ends most n outcome) (sym (goes_on (drop taken (drop at bytes)) text some))
    (later_on most (drop taken (drop at bytes)) text next outcome
    (subst (λ (b : List ℕ). Leads most (header_end TrailingBytes b) b text next) same later) ends))

-- the same of bytes that are equal
pub at_rest : (most : ℕ) (other : GzipFault) (rest bytes text : List ℕ) (next : Next) → rest ≡ bytes
    → Leads most (header_end other rest) rest text next → Leads most (header_end other bytes) bytes text next
at_rest most other rest bytes text next e leads =
    subst (λ (b : List ℕ). Leads most (header_end other b) b text next) e leads

pub stopped_at : (most : ℕ) (rest text : List ℕ) (leads : Next → Type 0) (result : Result ℕ Stop) (stop : Stop)
    → result ≡ Err stop → Goes most rest text leads result → Goes most rest text leads (Err stop)
stopped_at most rest text leads result stop is goes =
    subst (λ (r : Result ℕ Stop). Goes most rest text leads r) is goes

pub onward_at : (most : ℕ) (other : GzipFault) (rest bytes before text : List ℕ) (result : Result ℕ Stop) (taken : ℕ)
    → rest ≡ bytes → result ≡ Ok taken → Goes most rest text (Leads most (header_end other rest) rest before) result
    → Onward most bytes text (Leads most (header_end other bytes) bytes before) taken
onward_at most other rest bytes before text result taken e is goes =
    subst (λ (b : List ℕ). Onward most b text (Leads most (header_end other b) b before) taken) e
    (subst (λ (r : Result ℕ Stop). Goes most rest text (Leads most (header_end other rest) rest before) r) is goes)
