-- How the parts of a zone read, block by block and by the zone's reading
use Rattle.std.proofs.Common.{◌≡◌, ℕ, ◌+◌, ◌==◌, List, [], ◌∷◌, ◌++◌, map, if◌then◌else◌, refl, sym, ap, ◌∙◌, arith}
use Rattle.std.specs.List.{range_with_len}
use Rattle.std.proofs.lemmas.List.FromFn.{map-range_with_len_more}
use Rattle.zone_spec.specs.declared.Zone.{Zone}
use Rattle.zone_spec.specs.declared.State.{State}
use Rattle.zone_spec.specs.declared.State.TheVariants.{Unsigned, Empty, Invalid, Found}
use Rattle.zone_spec.specs.Parts.{Header, Block}
use Rattle.zone_spec.specs.PartReadings.{PartReading, part_reading}
use Rattle.zone_spec.specs.Reading.{ZoneReading, zone_reading}
use Rattle.zone_spec.specs.declared.PartState.{PartState}
use Rattle.zone_spec.specs.declared.PartState.TheVariants.{Read, Bad}
use Rattle.zone_spec.specs.PartStates.{part_state, PartStates, used_blocks, part_states}
use Rattle.prz_read.specs.Reads.{states_below}

-- a clean part
pub clean-state : (p : PartReading) → 0 ≡ p.corrected → 0 ≡ p.bad → Read 0 ≡ part_state p
clean-state p corrected bad =
    ap Read corrected ∙ sym (ap (λ (n : ℕ). if n == 0 then Read p.corrected else Bad) (sym bad))

module _ (z : Zone) (bytes : List ℕ) where
  -- one block more
  pub block-next : (b : ℕ) (old new : List PartState) (state : PartState)
      → old ≡ map (λ k. part_state (part_reading z bytes (Block k))) (range_with_len 0 b)
      → state ≡ part_state (part_reading z bytes (Block b)) → new ≡ old ++ state ∷ []
      → new ≡ map (λ k. part_state (part_reading z bytes (Block k))) (range_with_len 0 (b + 1))
  block-next b old new state was is pushed =
      pushed ∙ ap (λ (ss : List PartState). ss ++ state ∷ []) was
      ∙ ap (λ (s : PartState). map (λ k. part_state (part_reading z bytes (Block k))) (range_with_len 0 b) ++ s ∷ []) is
      ∙ sym (map-range_with_len_more (λ k. part_state (part_reading z bytes (Block k))) 0 b b (omega arith))

  abbrev states : PartState → List PartState → PartStates
  states header blocks = record { header = header; blocks = blocks }

  -- what a zone's parts are, by its reading
  pub states-found : (r : ZoneReading) (header : PartState) (blocks : List PartState) → r ≡ zone_reading z bytes
      → r.state ≡ Found → header ≡ part_state (part_reading z bytes Header)
      → blocks ≡ states_below z bytes r.words.size
      → ◌≡◌ {A = PartStates} (record { header = header; blocks = blocks }) (part_states z bytes)
  states-found r header blocks e state h bs =
      ap (λ (p : PartState). states p blocks) h
      ∙ ap (states (part_state (part_reading z bytes Header))) (bs
      ∙ ap (λ (s : State). map (λ b. part_state (part_reading z bytes (Block b))) (used_blocks z r s)) (sym state)
      ∙ ap (λ (q : ZoneReading). map (λ b. part_state (part_reading z bytes (Block b))) (used_blocks z q q.state)) e)

  pub states-other : (r : ZoneReading) (header : PartState) (blocks : List PartState) → r ≡ zone_reading z bytes
      → (r.state ≡ Found → ⊥) → header ≡ part_state (part_reading z bytes Header) → blocks ≡ []
      → ◌≡◌ {A = PartStates} (record { header = header; blocks = blocks }) (part_states z bytes)
  states-other r header blocks e other h bs =
      ap (λ (p : PartState). states p blocks) h
      ∙ ap (states (part_state (part_reading z bytes Header))) (bs ∙ none r.state refl
      ∙ ap (λ (q : ZoneReading). map (λ b. part_state (part_reading z bytes (Block b))) (used_blocks z q q.state)) e)
    where
      none : (s : State) → r.state ≡ s
          → ◌≡◌ {A = List PartState} [] (map (λ b. part_state (part_reading z bytes (Block b)))
          (used_blocks z r r.state))
      none Found is = absurd (other is)
      none Unsigned is = ap (λ (s : State). map (λ b. part_state (part_reading z bytes (Block b))) (used_blocks z r s))
          (sym is)
      none Empty is = ap (λ (s : State). map (λ b. part_state (part_reading z bytes (Block b))) (used_blocks z r s))
          (sym is)
      none Invalid is = ap (λ (s : State). map (λ b. part_state (part_reading z bytes (Block b))) (used_blocks z r s))
          (sym is)
