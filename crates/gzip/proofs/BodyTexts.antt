-- What a body comes to, its text joined to that before it
use Rattle.std.proofs.Common.{◌≡◌, ℕ, ◌+◌, ◌-◌, ◌<◌, ◌≤◌, List, ◌++◌, length, length-append, drop, Result, Ok, Err}
use Rattle.std.proofs.Common.{refl, sym, subst}
use Rattle.std.proofs.Common.{arith}
use Rattle.inflate_spec.specs.Texts.{Inflates, Breaks, Exceeds}
use Rattle.inflate_spec.specs.declared.Fault.{Fault}
use Rattle.inflate.specs.declared.Inflated.{Inflated}
use Rattle.inflate.specs.declared.InflateError.{InflateError}
use Rattle.inflate.specs.declared.InflateError.TheVariants as errors
use Rattle.inflate.specs.Goes.{Answers}
use Rattle.std.specs.Global.{Vec}
use Rattle.gzip_spec.specs.declared.GzipFault.{GzipFault}
use Rattle.gzip_spec.specs.declared.GzipFault.TheVariants as faults
use Rattle.gzip_spec.specs.Headers.{member_end}
use Rattle.gzip_spec.specs.Files.{Body, Whole, Faulty, Long, Deflates, behind_body, behind_end, HasBody}
use Rattle.gzip.specs.declared.bodies.Stop.{Stop}
use Rattle.gzip.specs.declared.bodies.Stop.TheVariants as stops
use Rattle.gzip.specs.Goes.{Goes, IsJoined, stopped}
use Rattle.gzip.proofs.Onwards.{ended_here, joined_goes}

has_body : (most : ℕ) (bytes : List ℕ) (header : ℕ) (before : List ℕ) (body : Body)
    → Deflates (drop header bytes) (most - length before) body
    → HasBody most bytes header before (behind_body bytes header before body)
has_body most bytes header before body h = record { body = body; deflates = h; next_is = refl }

joined_short : (most : ℕ) (before more : List ℕ) → length before ≤ most → length more ≤ most - length before
    → length (before ++ more) ≤ most
joined_short most before more a b = omega (arith, length-append before more)

pub whole_goes : (most : ℕ) (bytes : List ℕ) (header : ℕ) (before more text : List ℕ) (taken : ℕ)
    (end : Result ℕ GzipFault) (result : Result ℕ Stop) → length before ≤ most
    → Inflates (drop header bytes) more taken → length more ≤ most - length before
    → end ≡ member_end bytes (header + taken) more
    → ((at : ℕ) → end ≡ Ok at → (0 < at) × (at ≤ length bytes))
    → IsJoined before more text (stopped end) result → Goes most bytes text (HasBody most bytes header before) result
whole_goes most bytes header before more text taken end result short is fits is_end inside joined =
    joined_goes most bytes before more text (HasBody most bytes header before) (stopped end) result joined
    (ended_here most bytes (before ++ more) (HasBody most bytes header before) end
    (subst (λ (e : Result ℕ GzipFault). HasBody most bytes header before (behind_end bytes (before ++ more) e))
    (sym is_end)
    (has_body most bytes header before (Whole more taken) (is, fits)))
    (joined_short most before more short fits) inside)

pub faulty_goes : (most : ℕ) (bytes : List ℕ) (header : ℕ) (before more text : List ℕ) (fault : Fault)
    (result : Result ℕ Stop) → length before ≤ most → Breaks (drop header bytes) fault more
    → length more ≤ most - length before
    → IsJoined before more text (Err (stops.Broken (faults.Body fault))) result
    → Goes most bytes text (HasBody most bytes header before) result
faulty_goes most bytes header before more text fault result short is fits joined =
    joined_goes most bytes before more text (HasBody most bytes header before)
    (Err (stops.Broken (faults.Body fault))) result joined
    (record {
      there = has_body most bytes header before (Faulty fault more) (is, fits);
      short = joined_short most before more short fits;
    })

pub long_goes : (most : ℕ) (bytes : List ℕ) (header : ℕ) (before more text : List ℕ) (result : Result ℕ Stop)
    → length before ≤ most → Exceeds (drop header bytes) (most - length before) more
    → IsJoined before more text (Err stops.TooLong) result
    → Goes most bytes text (HasBody most bytes header before) result
long_goes most bytes header before more text result short is joined =
    let fits = is.short in
    joined_goes most bytes before more text (HasBody most bytes header before) (Err stops.TooLong) result joined
    (record {
      there = has_body most bytes header before (Long more) is;
      short = joined_short most before more short fits;
    })

-- what inflate answered of a body that is too long, and of one that breaks
pub long_at : (bytes at : List ℕ) (most left : ℕ) (result : Result Inflated InflateError) (more : Vec ℕ) → bytes ≡ at
    → most ≡ left → result ≡ Err (errors.TooLong more) → Answers bytes most result → Exceeds at left more.items
long_at bytes at most left result more e l is h =
    subst (λ (b : List ℕ). Exceeds b left more.items) e
    (subst (λ (m : ℕ). Exceeds bytes m more.items) l
    (subst (λ (r : Result Inflated InflateError). Answers bytes most r) is h))

pub faulty_at : (bytes at : List ℕ) (most left : ℕ) (result : Result Inflated InflateError) (fault : Fault)
    (more : Vec ℕ) → bytes ≡ at → most ≡ left → result ≡ Err (errors.Broken fault more) → Answers bytes most result
    → Breaks at fault more.items × (length more.items ≤ left)
faulty_at bytes at most left result fault more e l is h =
    let found = subst (λ (r : Result Inflated InflateError). Answers bytes most r) is h in (
      subst (λ (b : List ℕ). Breaks b fault more.items) e found.0,
      subst (λ (m : ℕ). length more.items ≤ m) l found.1,
    )
