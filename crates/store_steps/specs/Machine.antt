-- The stores that a flight has still to make, and what it stands for
use Rattle.std.specs.Prelude.{◌≡◌, ℕ, ◌+◌, ◌-◌, ◌/◌, ◌%◌, ◌^◌, ◌<◌, min, ◌⊎◌, List, [], ◌∷◌, ◌++◌, length, take, drop}
use Rattle.std.specs.Prelude.{map, sum_by}
use Rattle.std.specs.List.{range_with_len}
use Rattle.zone_spec.specs.Parts.{AreBytes, Header, Block, standing_words}
use Rattle.zone_spec.specs.declared.Zone.{Zone}
use Rattle.zone_spec.specs.Reading.{IsRing}
use Rattle.zone_spec.specs.Stores.{Store, after_stores, byte_stores, word_store}
use Rattle.zone_spec.specs.Stages.{Stage, StartWord, SizeWord, ParityOf, stage_stores, stage_count, stores_in_turn}
use Rattle.zone_spec.specs.Calls.{call_stores, run_stages, IsUnderway}
use Rattle.store_steps.specs.declared.place.Phase.{Phase}
use Rattle.store_steps.specs.declared.place.Phase.TheVariants.{ZeroStart, ZeroSize, Size, Start, First, FirstParity}
use Rattle.store_steps.specs.declared.place.Phase.TheVariants.{Second, SecondParity, Header as HeaderPhase, Finished}
use Rattle.store_steps.specs.Calls.{IsOpenFor}
use Rattle.store_steps.specs.First.{first_place}
use Rattle.store_steps.specs.Counts.{total_of}
use Rattle.store_steps.specs.Flying.{Flying, IsSameCall, payload, later}
use Rattle.store_steps.specs.Phases.{first_run, second_run, first_end, second_end, phase_len, IsFinished, IsSound}
use Rattle.store_steps.specs.Phases.{IsPlaced}

-- all stores of a phase, on an image in which none or some of them are made: parity is that of its part as it stands
abbrev pub stores_of : Flying → List ℕ → Phase → List Store
stores_of f image ZeroStart = word_store f.zone.byte_order 4 0
stores_of f image ZeroSize = word_store f.zone.byte_order 8 0
stores_of f image Size = word_store f.zone.byte_order 8 (min f.zone.cap (f.place.size + length (payload f)))
stores_of f image Start = word_store f.zone.byte_order 4 ((f.place.start + length (payload f)) % f.zone.cap)
stores_of f image First = byte_stores (12 + f.place.start) (first_run f)
stores_of f image FirstParity = stage_stores f.zone (ParityOf (Block f.place.block)) image
stores_of f image Second = byte_stores 12 (second_run f)
stores_of f image SecondParity = stage_stores f.zone (ParityOf (Block f.place.block)) image
stores_of f image HeaderPhase = stage_stores f.zone (ParityOf Header) image
stores_of f image Finished = []

abbrev pub parities_between : ℕ → ℕ → List Stage
parities_between a e = map (λ k. ParityOf (Block k)) (range_with_len a (e - a))

-- the header's parity and the parts behind it
abbrev pub closing : Flying → List Stage
closing f = ParityOf Header ∷ later f

-- the stages behind a phase
abbrev pub behind : Flying → Phase → List Stage
behind f ZeroStart = SizeWord 0 ∷ closing f
behind f ZeroSize = closing f
behind f Size = StartWord ((f.place.start + length (payload f)) % f.zone.cap)
    ∷ (run_stages f.zone f.place.start (first_run f) ++ (run_stages f.zone 0 (second_run f) ++ closing f))
behind f Start = run_stages f.zone f.place.start (first_run f) ++ (run_stages f.zone 0 (second_run f) ++ closing f)
behind f First = parities_between (f.place.start / f.zone.block) (first_end f)
    ++ (run_stages f.zone 0 (second_run f) ++ closing f)
behind f FirstParity = parities_between (f.place.block + 1) (first_end f)
    ++ (run_stages f.zone 0 (second_run f) ++ closing f)
behind f Second = parities_between 0 (second_end f) ++ closing f
behind f SecondParity = parities_between (f.place.block + 1) (second_end f) ++ closing f
behind f HeaderPhase = later f
behind f Finished = []

-- the phase's stores from the next one on, and those of the stages behind it
unfoldable pub stores_left : Flying → List ℕ → List Store
stores_left f image =
    drop f.place.number (stores_of f image f.place.phase)
    ++ stores_in_turn f.zone (behind f f.place.phase) (after_stores image
    (drop f.place.number (stores_of f image f.place.phase)))

-- their number
abbrev pub count_left : Flying → ℕ
count_left f = (phase_len f f.place.phase - f.place.number) + sum_by (stage_count f.zone) (behind f f.place.phase)

-- what is so of every flight
pub record IsKept (f : Flying) : Type 0 where
  pub sound : IsSound f
  pub placed : IsPlaced f
  pub ring : IsRing f.words f.zone.cap
  pub is_open : IsOpenFor f.call f.words f.zone.cap
  pub ready : IsFinished f ⊎ (f.place.number < phase_len f f.place.phase)
  pub counted : f.made + count_left f ≡ total_of f
  pub small : total_of f < 2 ^ 32

-- the flight as a begin makes it, before its first store
pub record IsFresh (f : Flying) : Type 0 where
  pub made : f.made ≡ 0
  pub place : f.place ≡ first_place f.zone f.words f.call
  pub ring : IsRing f.words f.zone.cap
  pub is_open : IsOpenFor f.call f.words f.zone.cap

-- the flight and a zone's image stand for the image before: pair 0 is its words, the image is that after the stores
-- made of the call, what the flight stores next is what the call stores next, and it counts as many stores as the
-- call has
pub record StandsFor (f : Flying) (now before : List ℕ) : Type 0 where
  pub words : standing_words f.zone before ≡ f.words
  pub underway : IsUnderway f.zone f.call before now f.made (stores_left f now)
  pub total : total_of f ≡ length (call_stores f.zone f.call before)

-- how many phases come, with this one
abbrev pub phases_left : Flying → Phase → ℕ
phases_left f Finished = 0
phases_left f p = length (behind f p) + 1

-- the flight at a later phase, with the same stores left
pub record Enters (f g : Flying) : Type 0 where
  pub left : (image : List ℕ) → AreBytes image → stores_left g image ≡ stores_left f image
  pub count : count_left g ≡ count_left f
  pub number : g.place.number ≡ 0
  pub fewer : phases_left g g.place.phase < phases_left f f.place.phase
  pub same : IsSameCall f g
  pub made : g.made ≡ f.made

-- the flight where its next store is, with the same stores left
pub record IsSettled (f g : Flying) : Type 0 where
  pub left : (image : List ℕ) → AreBytes image → stores_left g image ≡ stores_left f image
  pub count : count_left g ≡ count_left f
  pub ready : IsFinished g ⊎ (g.place.number < phase_len g g.place.phase)
  pub same : IsSameCall f g
  pub made : g.made ≡ f.made

-- the stores of this phase are parity: they are of the zone's bytes. All others are the same on any image
abbrev pub IsParity : Phase → Type 0
IsParity ZeroStart = ⊥
IsParity ZeroSize = ⊥
IsParity Size = ⊥
IsParity Start = ⊥
IsParity First = ⊥
IsParity FirstParity = Unit {0}
IsParity Second = ⊥
IsParity SecondParity = Unit {0}
IsParity HeaderPhase = Unit {0}
IsParity Finished = ⊥

-- two images with the same header and data: they differ in parity at most
abbrev pub IsSameData : Zone → List ℕ → List ℕ → Type 0
IsSameData z a b = take (12 + z.cap) a ≡ take (12 + z.cap) b

-- other bytes of the zone, to which the same stores come next as to the image: any bytes, but where parity comes next
-- they have its header and data
pub record IsAlike (f : Flying) (image now : List ℕ) : Type 0 where
  pub bytes : AreBytes image → AreBytes now
  pub parity : IsParity f.place.phase → IsSameData f.zone now image

-- the next n stores of the flight's phase
abbrev pub next_stores : Flying → List ℕ → ℕ → List Store
next_stores f image n = take n (drop f.place.number (stores_of f image f.place.phase))
