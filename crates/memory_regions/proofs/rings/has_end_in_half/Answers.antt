-- One place more, one that settles it, and all places: none past the size counts. For `has_end_in_half`.
use Rattle.std.proofs.Common.{◌≡◌, ◌∙◌, ℕ, ◌+◌, ◌-◌, ◌*◌, ◌/◌, List, Bool, sym, ap, arith, length}
use Rattle.std.specs.List.{range_with_len, flat_map, list_any}
use Rattle.memory_spec.specs.Rings.{ends, ends_at}
use Rattle.memory_spec.specs.Sizes.{ends_in_half}
use Rattle.memory_regions.proofs.EndsWithin.{none_more, none_after, one_ends, none_ends}
use Rattle.memory_regions.proofs.rings.has_end_in_half.Goals as goal

-- one of the ends at the first n even places is in the half
abbrev some_of : ℕ → List ℕ → ℕ → Bool
some_of size bytes n =
    list_any (ends_in_half size) (flat_map (λ i. ends_at bytes (2 * i)) (range_with_len 0 n))

pub loop-i-preserved : goal.loop-i-preserved
loop-i-preserved c =
    none_more (ends_in_half c.args.size) (λ i. ends_at c.args.bytes.now (2 * i)) c.loop-i.i c.loop-i.invariant
    (sym c.has_end_at.ensures ∙ c.if-has_end_at.false)

pub returns-then-has_end_at : goal.returns-then-has_end_at
unfolding ends
returns-then-has_end_at c =
    let bytes = c.args.bytes.now in
    let i = c.loop-i.i in
    let n = (length bytes - 10) / 2 in
    let whole : n ≡ i + 1 + (n - (i + 1)) = omega arith in
    sym (ap (some_of c.args.size bytes) whole
    ∙ one_ends (ends_in_half c.args.size) (λ k. ends_at bytes (2 * k)) i (n - (i + 1))
    (sym c.has_end_at.ensures ∙ c.if-has_end_at.true))

pub returns : goal.returns
unfolding ends
returns c =
    let bytes = c.args.bytes.now in
    let i = c.loop-i.i in
    let n = (length bytes - 10) / 2 in
    let whole : n ≡ i + (n - i) = omega arith in
    sym (ap (some_of c.args.size bytes) whole
    ∙ none_after (ends_in_half c.args.size) (λ k. ends_at bytes (2 * k)) i (n - i) c.loop-i.invariant
    (λ k low high. none_ends bytes (2 * k) c.args.size (omega (arith, low, high))))
