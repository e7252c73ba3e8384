-- An append to a zone without parity stores its words and its bytes, and nothing else
use Rattle.std.proofs.Common.{◌≡◌, ℕ, ◌+◌, ◌-◌, ◌%◌, ◌<◌, ◌≤◌, if◌then◌else◌, min, ◌==◌, List, [], ◌∷◌, ◌++◌}
use Rattle.std.proofs.Common.{length, take, drop, map, refl, sym, ap, ◌∙◌, arith, append_assoc, append-nil}
use Rattle.std.proofs.Common.{length-append}
use Rattle.std.proofs.Common.{length-take, length-drop, inl, inr}
use Rattle.std.proofs.lemmas.Bool.Decides.{eqb_tells}
use Rattle.std.proofs.lemmas.List.{take_all, drop_all}
use Rattle.zone_spec.specs.declared.Zone.{Zone}
use Rattle.zone_spec.specs.declared.Words.{Words}
use Rattle.zone_spec.specs.Parts.{Part, Header, Block, part_bytes, part_parity_at, standing_words}
use Rattle.zone_spec.specs.Told.{Append, last_items}
use Rattle.zone_spec.specs.Stores.{Store, after_stores, byte_stores, word_store}
use Rattle.zone_spec.specs.Stages.{Stage, StartWord, SizeWord, Run, ParityOf, stage_stores, stores_in_turn}
use Rattle.zone_spec.specs.Stages.{blocks_met}
use Rattle.zone_spec.specs.Calls.{call_stores, call_stages, append_stages, run_stages}
use Rattle.ring_laws.proofs.StoreCounts.{length-byte_stores}
use Rattle.prz_ecc.proofs.Readings.{parity_of-none}
use Rattle.store_steps.specs.Calls.{last_of}
use Rattle.store_steps.proofs.StoresLeft.{in_turn_next, counted}
use Rattle.store_steps.proofs.Parts.{append_begins_ne, append_begins_full, sized}
use Rattle.store_steps.proofs.Totals.{append_count, stages_append}
use Rattle.store_steps.specs.PlainAppends.{plain_words, plain_runs, plain_stores}

none_stored : (z : Zone) (part : Part) (image : List ℕ) → z.parity ≡ 0 → stage_stores z (ParityOf part) image ≡ []
unfolding stage_stores byte_stores
none_stored z part image e =
    ap (byte_stores (part_parity_at z part)) (parity_of-none z.parity (part_bytes z image part) e)

skip : (z : Zone) (part : Part) (gs : List Stage) (image : List ℕ) → z.parity ≡ 0
    → stores_in_turn z (ParityOf part ∷ gs) image ≡ stores_in_turn z gs image
unfolding after_stores
skip z part gs image e =
    in_turn_next z (ParityOf part) gs image
    ∙ ap (λ ss. ss ++ stores_in_turn z gs (after_stores image ss)) (none_stored z part image e)

skip_all : (z : Zone) (ks : List ℕ) (gs : List Stage) (image : List ℕ) → z.parity ≡ 0
    → stores_in_turn z (map (λ k. ParityOf (Block k)) ks ++ gs) image ≡ stores_in_turn z gs image
skip_all z [] gs image e = refl
skip_all z (k ∷ ks) gs image e =
    skip z (Block k) (map (λ j. ParityOf (Block j)) ks ++ gs) image e ∙ skip_all z ks gs image e

run_stored : (z : Zone) (place : ℕ) (xs : List ℕ) (gs : List Stage) (image : List ℕ) → z.parity ≡ 0
    → stores_in_turn z (run_stages z place xs ++ gs) image
    ≡ byte_stores (12 + place) xs ++ stores_in_turn z gs (after_stores image (byte_stores (12 + place) xs))
unfolding stage_stores byte_stores after_stores
run_stored z place [] gs image e = refl
run_stored z place (x ∷ xs) gs image e =
    in_turn_next z (Run place (x ∷ xs)) (map (λ k. ParityOf (Block k)) (blocks_met z place (length (x ∷ xs))) ++ gs)
    image
    ∙ ap (λ ss. byte_stores (12 + place) (x ∷ xs) ++ ss)
    (skip_all z (blocks_met z place (length (x ∷ xs))) gs
    (after_stores image (byte_stores (12 + place) (x ∷ xs))) e)

last_stored : (z : Zone) (image : List ℕ) → z.parity ≡ 0 → stores_in_turn z (ParityOf Header ∷ []) image ≡ []
unfolding stores_in_turn
last_stored z image e = skip z Header [] image e

runs_stored : (z : Zone) (start : ℕ) (bytes : List ℕ) (image : List ℕ) → z.parity ≡ 0
    → stores_in_turn z (run_stages z start (take (z.cap - start) bytes)
    ++ (run_stages z 0 (drop (z.cap - start) bytes) ++ ParityOf Header ∷ [])) image ≡ plain_runs z start bytes
runs_stored z start bytes image e =
    let front : List Store = byte_stores (12 + start) (take (z.cap - start) bytes) in
    let back : List Store = byte_stores 12 (drop (z.cap - start) bytes) in
    run_stored z start (take (z.cap - start) bytes)
    (run_stages z 0 (drop (z.cap - start) bytes) ++ ParityOf Header ∷ []) image e
    ∙ ap (λ ss. front ++ ss)
    (run_stored z 0 (drop (z.cap - start) bytes) (ParityOf Header ∷ []) (after_stores image front) e
    ∙ ap (λ ss. back ++ ss) (last_stored z (after_stores (after_stores image front) back) e)
    ∙ append-nil back)

sized_stored : (z : Zone) (start : ℕ) (bytes : List ℕ) (image : List ℕ) → z.parity ≡ 0
    → stores_in_turn z (sized z start bytes []) image
    ≡ word_store z.byte_order 4 ((start + length bytes) % z.cap) ++ plain_runs z start bytes
unfolding stage_stores
sized_stored z start bytes image e =
    let word : List Store = word_store z.byte_order 4 ((start + length bytes) % z.cap) in
    in_turn_next z (StartWord ((start + length bytes) % z.cap)) (run_stages z start (take (z.cap - start) bytes)
    ++ (run_stages z 0 (drop (z.cap - start) bytes) ++ ParityOf Header ∷ [])) image
    ∙ ap (λ ss. word ++ ss) (runs_stored z start bytes (after_stores image word) e)

append_stored : (z : Zone) (start size : ℕ) (bytes : List ℕ) (image : List ℕ) → z.parity ≡ 0 → 0 < length bytes
    → stores_in_turn z (append_stages z start size bytes) image
    ≡ plain_words z start size (length bytes) ++ plain_runs z start bytes
unfolding stage_stores
append_stored z start size bytes image e some =
    let word : List Store = word_store z.byte_order 4 ((start + length bytes) % z.cap) in
    let runs : List Store = plain_runs z start bytes in
    elim (eqb_tells size z.cap) [
      | inl is ↦
          ap (λ gs. stores_in_turn z gs image) (sym (append-nil (append_stages z start size bytes))
          ∙ append_begins_full z start size bytes [] is.0 some)
          ∙ sized_stored z start bytes image e
          ∙ rw is.0 refl
      | inr not ↦
          let first : List Store = word_store z.byte_order 8 (min z.cap (size + length bytes)) in
          ap (λ gs. stores_in_turn z gs image) (sym (append-nil (append_stages z start size bytes))
          ∙ append_begins_ne z start size bytes [] not.0 some)
          ∙ in_turn_next z (SizeWord (min z.cap (size + length bytes))) (sized z start bytes []) image
          ∙ ap (λ ss. first ++ ss) (sized_stored z start bytes (after_stores image first) e)
          ∙ sym (append_assoc first word runs)
          ∙ rw not.0 refl
    ]

stored : (z : Zone) (start size : ℕ) (bytes : List ℕ) (image : List ℕ) → z.parity ≡ 0
    → stores_in_turn z (append_stages z start size bytes) image ≡ plain_stores z start size bytes
unfolding stores_in_turn
stored z start size [] image e = refl
stored z start size (b ∷ bs) image e = append_stored z start size (b ∷ bs) image e (omega arith)

-- the stores of the call, whatever the image is beside its words
pub call_is_plain : (z : Zone) (w : Words) (payload before : List ℕ) → z.parity ≡ 0 → standing_words z before ≡ w
    → call_stores z (Append payload) before ≡ plain_stores z w.start w.size (last_items z.cap payload)
unfolding call_stores last_of
call_is_plain z w payload before e words =
    ap (λ (x : Words). stores_in_turn z (call_stages z x (Append payload)) before) words
    ∙ ap (λ gs. stores_in_turn z gs before) (stages_append z w payload)
    ∙ stored z w.start w.size (last_items z.cap payload) before e

-- ---- as they are put

-- the words and the runs
pub joined_plain : (z : Zone) (start size n : ℕ) (bytes : List ℕ) → n ≡ length bytes → 0 < n
    → plain_words z start size n ++ plain_runs z start bytes ≡ plain_stores z start size bytes
joined_plain z start size n [] e some = absurd (omega (arith, e, some))
joined_plain z start size n (b ∷ bs) e some =
    ap (λ k. plain_words z start size k ++ plain_runs z start (b ∷ bs)) e

-- bytes that fit before the zone's end
pub one_run : (z : Zone) (start from n : ℕ) (payload : List ℕ) → from ≡ length payload - z.cap
    → n ≡ length (last_items z.cap payload) → n ≤ z.cap - start
    → byte_stores (12 + start) (take n (drop from payload)) ≡ plain_runs z start (last_items z.cap payload)
unfolding byte_stores
one_run z start from n payload e len fits =
    let bytes : List ℕ = last_items z.cap payload in
    ap (λ k. byte_stores (12 + start) (take n (drop k payload))) e
    ∙ ap (byte_stores (12 + start)) (take_all n bytes (omega (arith, len))
    ∙ sym (take_all (z.cap - start) bytes (omega (arith, len, fits))))
    ∙ sym (append-nil (byte_stores (12 + start) (take (z.cap - start) bytes)))
    ∙ ap (λ xs. byte_stores (12 + start) (take (z.cap - start) bytes) ++ byte_stores 12 xs)
    (sym (drop_all (z.cap - start) bytes (omega (arith, len, fits))))

pub length-last : (cap : ℕ) (payload : List ℕ) → length (last_items cap payload) ≡ min (length payload) cap
length-last cap payload = omega (arith, length-drop (length payload - cap) payload)

-- ---- how many they are

pub length-plain_runs : (z : Zone) (start : ℕ) (bytes : List ℕ) → length (plain_runs z start bytes) ≡ length bytes
length-plain_runs z start bytes =
    let front : List ℕ = take (z.cap - start) bytes in
    let back : List ℕ = drop (z.cap - start) bytes in
    omega (
      arith,
      length-append (byte_stores (12 + start) front) (byte_stores 12 back),
      length-byte_stores (12 + start) front,
      length-byte_stores 12 back,
      length-take (z.cap - start) bytes,
      length-drop (z.cap - start) bytes,
    )

length-plain_words : (z : Zone) (start size n : ℕ)
    → length (plain_words z start size n) ≡ (if size == z.cap then 1 else 2)
length-plain_words z start size n = elim (eqb_tells size z.cap) [
  | inl is ↦ rw is.0 refl
  | inr not ↦ rw not.0 refl
]

pub length-plain : (z : Zone) (start size : ℕ) (bytes : List ℕ) → 0 < length bytes
    → length (plain_stores z start size bytes) ≡ (if size == z.cap then 1 else 2) + length bytes
length-plain z start size [] some = absurd (omega arith)
length-plain z start size (b ∷ bs) some =
    length-append (plain_words z start size (length (b ∷ bs))) (plain_runs z start (b ∷ bs))
    ∙ (let w = length-plain_words z start size (length (b ∷ bs)) in
    let r = length-plain_runs z start (b ∷ bs) in
    rw w (omega (arith, r)))

none_counted : (z : Zone) (start size : ℕ) (bytes : List ℕ) → z.parity ≡ 0 → 0 < z.block → start < z.cap
    → counted z (append_stages z start size bytes) ≡ length (plain_stores z start size bytes)
none_counted z start size [] e block below = refl
none_counted z start size (b ∷ bs) e block below =
    append_count z start size (b ∷ bs) block (omega arith) below
    ∙ (let l = length-plain z start size (b ∷ bs) (omega arith) in grind (arith, l, e))

pub total_is_plain : (z : Zone) (w : Words) (payload : List ℕ) → z.parity ≡ 0 → 0 < z.block → w.start < z.cap
    → counted z (call_stages z w (Append payload))
    ≡ length (plain_stores z w.start w.size (last_items z.cap payload))
unfolding last_of
total_is_plain z w payload e block below =
    ap (counted z) (stages_append z w payload)
    ∙ none_counted z w.start w.size (last_items z.cap payload) e block below
