-- A call begun stands at its first place with no store made, is kept, and stands for the bytes at
-- hand. For `Steps::begin`.
use Rattle.std.proofs.Common.{arith, ◌≡◌, ◌≤◌, length, refl, sym, ap, subst}
use Rattle.zone_spec.specs.declared.Words.{Words}
use Rattle.zone_spec.specs.declared.Zone.{Zone}
use Rattle.zone_spec.specs.Reading.{IsRing}
use Rattle.zone_spec.specs.Told.{Call}
use Rattle.zone_spec.specs.Parts.{standing_words}
use Rattle.store_steps.proofs.HandOut.{line_short, call_of_bytes}
use Rattle.store_steps.specs.Calls.{call_of, line_of, IsOpenFor}
use Rattle.store_steps.specs.First.{first_place}
use Rattle.store_steps.specs.declared.place.Place.{Place}
use Rattle.store_steps.specs.Machine.{IsKept, StandsFor}
use Rattle.store_steps.proofs.Small.{total_small}
use Rattle.store_steps.proofs.CallBegin.{starts, started, placed_starts, kept_starts, stands_starts}
use Rattle.store_steps.proofs.steps.Steps.begin.Goals as goal

is_started : (z : Zone) (w : Words) (call : Call) (place : Place) → place ≡ first_place z w call
    → started z w call ≡ record { zone = z; words = w; call = call; made = 0; place = place }
is_started z w call place e = ap (λ p. record (started z w call) { place = p }) (sym e)

pub returns-clause-kept : goal.returns-clause-kept
returns-clause-kept c =
    let z : Zone = c.args.zone in
    let w : Words = c.words_of-words.result in
    let call : Call = call_of c.args.kind c.args.line.now c.args.payload.now in
    let is : w ≡ standing_words z c.args.image.now = c.words_of-words.ensures in
    let short : length (line_of call) ≤ 36 = line_short c.args.kind c.args.line.now c.args.payload.now c.requires.line in
    let ring : IsRing w z.cap = subst (λ v. IsRing v z.cap) (sym is) c.requires.ring in
    let open_for : IsOpenFor call w z.cap = subst (λ v. IsOpenFor call v z.cap) (sym is)
    c.requires.is_open in
    subst IsKept (is_started z w call c.first_place-place.result c.first_place-place.ensures)
    (kept_starts (started z w call) (starts z w c.requires.valid ring call open_for short) (placed_starts z w call)
    refl ring open_for (total_small z w call c.requires.valid open_for short))

pub returns-clause-stands : goal.returns-clause-stands
returns-clause-stands c =
    let z : Zone = c.args.zone in
    let w : Words = c.words_of-words.result in
    let call : Call = call_of c.args.kind c.args.line.now c.args.payload.now in
    let is : w ≡ standing_words z c.args.image.now = c.words_of-words.ensures in
    let short : length (line_of call) ≤ 36 = line_short c.args.kind c.args.line.now c.args.payload.now c.requires.line in
    let ring : IsRing w z.cap = subst (λ v. IsRing v z.cap) (sym is) c.requires.ring in
    let open_for : IsOpenFor call w z.cap = subst (λ v. IsOpenFor call v z.cap) (sym is)
    c.requires.is_open in
    subst (λ f. StandsFor f c.args.image.now c.args.image.now)
    (is_started z w call c.first_place-place.result c.first_place-place.ensures)
    (stands_starts (started z w call) c.args.image.now (starts z w c.requires.valid ring call open_for
    short) refl is (λ i. omega (arith, c.type_inv.image i))
    (call_of_bytes c.args.kind c.args.line.now c.args.payload.now (λ i. omega (arith, c.type_inv.line i))
    (λ i. omega (arith, c.type_inv.payload i))))
