-- A fault within the first write of an append is early
use Rattle.std.proofs.Common.{◌≡◌, ℕ, ◌-◌, ◌<◌, ◌≤◌, ◌==◌, min, Bool, true, false, if◌then◌else◌, List, [], ◌∷◌, ◌++◌}
use Rattle.std.proofs.Common.{length, sym, ap, ◌∙◌, arith, length-take}
use Rattle.std.proofs.lemmas.Option.{same_Some}
use Rattle.zone_spec.specs.Told.{last_items}
use Rattle.blk_spec.specs.declared.BlkRing.{BlkRing}
use Rattle.blk_spec.specs.declared.BlkZone.{BlkZone}
use Rattle.blk_spec.specs.declared.BlkWords.{BlkWords}
use Rattle.blk_spec.specs.declared.BlkCut.{BlkCut}
use Rattle.blk_spec.specs.Layout.{ring_zone, capacity}
use Rattle.blk_spec.specs.Writes.{Write, after_writes, store_after, first_bytes, bytes_in, through, spent}
use Rattle.blk_spec.specs.Rings.{kept_writes, append_writes, first_run}
use Rattle.blk_spec.specs.Answers.{Device, FailsWithin}
use Rattle.blk_spec.specs.States.{BlkState, ring_of, append_of}
use Rattle.blk_spec.specs.Session.{call_after}
use Rattle.blk_laws.specs.Sessions.{IsEarly}
use Rattle.blk_laws.specs.Ends.{holding, FirstWriteFaultsAreHarmless}
use Rattle.blk_laws.proofs.CutSessions.{append-failed}
use Rattle.blk_laws.proofs.Ends.{kept-through}
use Rattle.blk_laws.proofs.Faults.{through-most}

first-length : List Write → ℕ
first-length [] = 0
first-length (w ∷ ws) = length w.bytes

-- the first write of an append is data of its first run
kept-first : (z : BlkZone) (words : BlkWords) (bytes : List ℕ)
    → first-length (kept_writes z words bytes) ≤ min (length bytes) (capacity z - words.start)
unfolding kept_writes first-length
kept-first z words bytes = omega (arith, length-take (first_run z words (length bytes)) bytes)

append-first : (z : BlkZone) (words : BlkWords) (payload : List ℕ)
    → first-length (append_writes z words payload)
    ≤ min (length (last_items (capacity z) payload)) (capacity z - words.start)
unfolding append_writes first-length
append-first z words payload = by-payload (length payload == 0)
    (kept-first z words (last_items (capacity z) payload))
  where
    by-payload : (b : Bool) → first-length (kept_writes z words (last_items (capacity z) payload))
        ≤ min (length (last_items (capacity z) payload)) (capacity z - words.start)
        → first-length (if b then [] else kept_writes z words (last_items (capacity z) payload))
        ≤ min (length (last_items (capacity z) payload)) (capacity z - words.start)
    by-payload true h = omega arith
    by-payload false h = h

fault-early : (b new : BlkState) (ring : BlkRing) (payload before now : List ℕ)
    (old last : Device)
    (fault : FailsWithin (append_of b ring payload) (append_of b ring payload) b.cut new.cut old last)
    → fault.made ≡ []
    → (ring_of b ring).words.size < capacity (ring_zone b.layout ring) → IsEarly b ring payload fault.kept
unfolding bytes_in first-length
fault-early b new ring payload before now old last fault first open-ring =
    let none : bytes_in fault.made ≡ 0 = ap bytes_in first in
    let parts : append_of b ring payload ≡ fault.failed ∷ fault.others =
    fault.parts ∙ ap (λ (ws : List Write). ws ++ fault.failed ∷ fault.others) first in
    let long : first-length (append_of b ring payload) ≡ length fault.failed.bytes = ap first-length parts in
    record {
      not_full = open-ring;
      data_alone = omega (
        arith,
        none,
        long,
        fault.within,
        fault.most,
        through-most b.cut fault.tried,
        append-first (ring_zone b.layout ring) (ring_of b ring).words payload,
      );
    }

pub first-write-faults : FirstWriteFaultsAreHarmless
unfolding call_after
first-write-faults b new ring payload before now old last is ends fault first open-ring state =
    let early : IsEarly b ring payload fault.kept =
    fault-early b new ring payload before now old last fault first open-ring in
    let ws : List Write = append_of b ring payload in
    let store : now ≡ after_writes (first_bytes fault.kept ws) before =
    same_Some _ _ (sym ends ∙ fault.store ∙ ap (store_after (first_bytes fault.kept ws)) is) in
    let kept : through b.cut fault.kept ≡ fault.kept = kept-through b.cut fault.kept fault.tried fault.most in
    let cut : new ≡ record b { cut = spent fault.tried b.cut } =
    state ∙ ap (λ (c : BlkCut). record b { cut = c }) fault.cut in (
      append-failed b.layout before b ring payload fault.kept fault.tried (omega (arith, open-ring))
          ∙ ap (λ n. holding (after_writes (first_bytes n ws) before) (record b { cut = spent fault.tried b.cut })) kept
          ∙ ap (λ (xs : List ℕ). holding xs (record b { cut = spent fault.tried b.cut })) (sym store)
          ∙ ap (λ (x : BlkState). holding now x) (sym cut),
      early,
    )
