-- What an append makes of a ring
use Rattle.std.proofs.Common.{◌≡◌, ℕ, ◌+◌, ◌-◌, ◌%◌, ◌^◌, ◌<◌, ◌≤◌, ◌==◌, min, Bool, true, false, not, ◌&&◌, ◌||◌}
use Rattle.std.proofs.Common.{if◌then◌else◌, nat_lt, List, [], ◌∷◌, ◌++◌, length, take, drop, refl, sym, ap, ◌∙◌, arith}
use Rattle.std.proofs.Common.{length-take, length-drop, get_or, subst, append-nil, mod-lt}
use Rattle.std.proofs.lemmas.List.{places, same_lists, drop_all}
use Rattle.std.proofs.lemmas.Bool.{eqb-true}
use Rattle.std.proofs.lemmas.Bool.Decides.{nat_tests}
use Rattle.zone_spec.specs.Told.{last_items}
use Rattle.ring_laws.proofs.RingBytes.{RingBytes, RingBytes-append, mod_once}
use Rattle.ring_laws.proofs.RingLaw.{open_after, last_items-short, last_items-append}
use Rattle.blk_spec.specs.declared.BlkZone.{BlkZone}
use Rattle.blk_spec.specs.declared.BlkWords.{BlkWords}
use Rattle.blk_spec.specs.Layout.{capacity}
use Rattle.blk_spec.specs.Writes.{Write, after_write, after_writes}
use Rattle.blk_spec.specs.Rings.{header_bytes, header_write, run_writes, first_run, first_words, run_words, is_short}
use Rattle.blk_spec.specs.Rings.{last_words, kept_writes, append_writes, words_after}
use Rattle.blk_spec.specs.Reading.{zone_bytes, header_words, ring_log}
use Rattle.blk_laws.specs.Standing.{LiesIn, StandsFor, header_with}
use Rattle.blk_laws.proofs.Zones.{length-zone, length-write, words-written, header-zone, data-zone, header-stays}
use Rattle.blk_laws.proofs.Zones.{none-written}
use Rattle.blk_laws.proofs.Rings.{once, twice, runs-AppendedBytes, length-written, turn-RingBytes, RingBytes-turn}
use Rattle.blk_laws.proofs.RingLists.{start-within, length-told}

no-items : (xs : List ℕ) → (length xs == 0) ≡ true → xs ≡ []
no-items [] e = refl
no-items (x ∷ xs) e = let n : length xs + 1 ≡ 0 = grind (arith, nat_tests) in absurd (omega arith)

-- ---- writes in turn

pub after-append : (vs ws : List Write) (store : List ℕ)
    → after_writes (vs ++ ws) store ≡ after_writes ws (after_writes vs store)
unfolding after_writes
after-append [] ws store = refl
after-append (v ∷ vs) ws store = after-append vs ws (after_write store v)

-- a zone's header and its data
pub record Holds (z : BlkZone) (words : BlkWords) (store bytes : List ℕ) : Type 0 where
  pub lies : LiesIn z store
  pub header : header_words (zone_bytes store z) ≡ header_with z words
  pub rest : drop 12 (zone_bytes store z) ≡ bytes

lies-after : (z : BlkZone) (store : List ℕ) (w : Write) → LiesIn z store → w.at + length w.bytes ≤ z.at + z.size
    → LiesIn z (after_write store w)
lies-after z store w l h = record {
  inside = omega (arith, l.inside, length-write store w (omega (arith, l.inside)));
  sized = l.sized;
  small = l.small;
  word = l.word;
}

header-first : (sig : ℕ) (words : BlkWords) (rest : List ℕ) → drop 12 (header_bytes sig words ++ rest) ≡ rest
header-first sig words rest = refl

holds-header : (z : BlkZone) (words next : BlkWords) (store bytes : List ℕ) → Holds z words store bytes
    → next.size < 2 ^ 32 → next.start < 2 ^ 32
    → Holds z next (after_write store (header_write z next)) bytes
holds-header z words next store bytes h a b =
    let zone = header-zone z store next h.lies.inside (omega (arith, h.lies.sized)) in
    record {
      lies = lies-after z store (header_write z next) h.lies (omega (arith, h.lies.sized));
      header = ap header_words zone ∙ words-written z.sig next (drop 12 (zone_bytes store z)) h.lies.word a b;
      rest = ap (drop 12) zone ∙ header-first z.sig next (drop 12 (zone_bytes store z)) ∙ h.rest;
    }

drop-front : (n : ℕ) (xs bytes : List ℕ) (place : ℕ) → n + place + length bytes ≤ length xs
    → drop n (after_write xs (record { at = n + place; bytes = bytes }))
    ≡ after_write (drop n xs) (record { at = place; bytes = bytes })
drop-front n xs bytes place h =
    same_lists (drop n (after_write xs (record { at = n + place; bytes = bytes })))
    (after_write (drop n xs) (record { at = place; bytes = bytes }))
    (grind (arith, places)) (λ i d l. grind (arith, places))

holds-data : (z : BlkZone) (words : BlkWords) (store bytes more : List ℕ) (place : ℕ) → Holds z words store bytes
    → place + length more ≤ capacity z
    → Holds z words (after_write store (record { at = z.at + 12 + place; bytes = more }))
    (after_write bytes (record { at = place; bytes = more }))
holds-data z words store bytes more place h k =
    let fits : 12 + place + length more ≤ z.size = omega (arith, h.lies.sized) in
    let long : 12 + place + length more ≤ length (zone_bytes store z) =
    omega (arith, length-zone z store h.lies.inside) in
    let zone = data-zone z store more place h.lies.inside fits in
    record {
      lies = lies-after z store (record { at = z.at + 12 + place; bytes = more }) h.lies (omega arith);
      header = ap header_words zone ∙ header-stays (zone_bytes store z) more (12 + place) (omega arith) (omega arith)
          ∙ h.header;
      rest = ap (drop 12) zone ∙ drop-front 12 (zone_bytes store z) more place long
          ∙ ap (λ (xs : List ℕ). after_write xs (record { at = place; bytes = more })) h.rest;
    }

holds-run : (z : BlkZone) (words next : BlkWords) (store bytes more : List ℕ) (place : ℕ) → Holds z words store bytes
    → place + length more ≤ capacity z → next.size < 2 ^ 32 → next.start < 2 ^ 32
    → Holds z next (after_writes (run_writes z place more next) store)
    (after_write bytes (record { at = place; bytes = more }))
unfolding after_writes
holds-run z words next store bytes more place h k a b =
    holds-header z words next (after_write store (record { at = z.at + 12 + place; bytes = more }))
    (after_write bytes (record { at = place; bytes = more }))
    (holds-data z words store bytes more place h k) a b

-- ---- the words behind an append

start-of : (b : Bool) (r : BlkWords) (c : ℕ) → (if b then record { size = c; start = r.start } else r).start ≡ r.start
start-of true r c = refl
start-of false r c = refl

size-of : (wrap full was : Bool) (s d c n m : ℕ) (r : BlkWords) → s < c → d ≤ c → s ≤ d → (d < c → s ≡ d) → n ≤ c
    → m ≡ min n (c - s)
    → nat_lt m n ≡ wrap → (d == c) ≡ was → (r.size == c) ≡ full → r.size ≡ (if wrap then n - m else s + m)
    → (if not full && (was || wrap) then record { size = c; start = r.start } else r).size ≡ min c (d + n)
size-of wrap true was s d c n m r below fits inside plain short run w o f e =
    let size : r.size ≡ c = eqb-true r.size c f in by-wrap wrap w e
  where
    by-wrap : (b : Bool) → nat_lt m n ≡ b → r.size ≡ (if b then n - m else s + m) → r.size ≡ min c (d + n)
    by-wrap true x y = let size : r.size ≡ c = eqb-true r.size c f in let more : m < n = grind (arith, nat_tests) in
        absurd (omega arith)
    by-wrap false x y = let size : r.size ≡ c = eqb-true r.size c f in omega arith
size-of wrap false true s d c n m r below fits inside plain short run w o f e = let full : d ≡ c = eqb-true d c o in
    omega arith
size-of true false false s d c n m r below fits inside plain short run w o f e =
    let less : d < c = grind (arith, nat_tests) in
    let here : s ≡ d = plain less in
    let more : m < n = grind (arith, nat_tests) in omega arith
size-of false false false s d c n m r below fits inside plain short run w o f e =
    let less : d < c = grind (arith, nat_tests) in
    let here : s ≡ d = plain less in
    let all : n ≤ m = grind (arith, nat_tests) in omega (arith, e)

size-if : (b : Bool) (x y : BlkWords) → (if b then x else y).size ≡ (if b then x.size else y.size)
size-if true x y = refl
size-if false x y = refl

-- an append of n bytes to a ring
module _ (z : BlkZone) (words : BlkWords) (n : ℕ) (below : words.start < capacity z) (fits : words.size ≤ capacity z)
    (inside : words.start ≤ words.size)
    (plain : words.size < capacity z → words.start ≡ words.size) (short : n ≤ capacity z) where
  pub last-size : (last_words z words n).size ≡ min (capacity z) (words.size + n)
  last-size =
      size-of (nat_lt (first_run z words n) n) ((run_words z words n).size == capacity z) (words.size == capacity z)
      words.start words.size (capacity z) n (first_run z words n) (run_words z words n)
      below fits inside plain short refl refl refl refl
      (size-if (nat_lt (first_run z words n) n) (record {
        size = n - first_run z words n;
        start = n - first_run z words n;
      }) (first_words z words n))

  run-start : (b : Bool) → nat_lt (first_run z words n) n ≡ b
      → (if b then record { size = n - first_run z words n; start = n - first_run z words n } else first_words z words
      n).start ≡ (words.start + n) % capacity z
  run-start true e =
      let more : first_run z words n < n = grind (arith, nat_tests) in
      let rest : n - first_run z words n ≡ (words.start + n) - capacity z = omega arith in
      rest ∙ sym (mod_once (words.start + n) (capacity z) (omega arith) (omega arith))
  run-start false e =
      let all : n ≤ first_run z words n = grind (arith, nat_tests) in
      let same : first_run z words n ≡ n = omega arith in
      ap (λ k. (words.start + k) % capacity z) same

  pub last-start : (last_words z words n).start ≡ (words.start + n) % capacity z
  last-start = start-of (is_short z words n) (run_words z words n) (capacity z)
      ∙ run-start (nat_lt (first_run z words n) n) refl

  run-size : (b : Bool) → (if b then record { size = n - first_run z words n; start = n - first_run z words n } else
      first_words z words n).size ≤ capacity z
  run-size true = omega arith
  run-size false = omega arith

  place-within : (words.start + n) % capacity z < capacity z
  place-within = mod-lt (words.start + n) (let some : 0 < capacity z = omega arith in some)

  pub run-words-small : capacity z < 2 ^ 32 → ((run_words z words n).size < 2 ^ 32)
      × ((run_words z words n).start < 2 ^ 32)
  run-words-small s = (
    omega (arith, run-size (nat_lt (first_run z words n) n)),
    omega (arith, run-start (nat_lt (first_run z words n) n) refl, place-within),
  )

  pub last-words-small : capacity z < 2 ^ 32 → ((last_words z words n).size < 2 ^ 32)
      × ((last_words z words n).start < 2 ^ 32)
  last-words-small s = (omega (arith, last-size), omega (arith, last-start, place-within))

  pub first-words-small : capacity z < 2 ^ 32 → ((first_words z words n).size < 2 ^ 32)
      × ((first_words z words n).start < 2 ^ 32)
  first-words-small s = (
    omega arith,
    (let m : (words.start + first_run z words n) % capacity z
        < capacity z = mod-lt (words.start + first_run z words n) (let some : 0 < capacity z = omega arith in some) in
        omega arith),
  )

-- ---- the header and data behind an append

module _ (z : BlkZone) (words : BlkWords) (store bytes q : List ℕ) (held : Holds z words store bytes)
    (below : words.start < capacity z) (fits : words.size ≤ capacity z)
    (inside : words.start ≤ words.size) (plain : words.size < capacity z → words.start ≡ words.size)
    (short : length q ≤ capacity z) where
  run : ℕ
  run = first_run z words (length q)

  small : capacity z < 2 ^ 32
  small = omega (arith, held.lies.small)

  first-writes : List Write
  first-writes = run_writes z words.start (take run q) (first_words z words (length q))

  first-held : Holds z (first_words z words (length q)) (after_writes first-writes store) (once bytes words.start run q)
  unfolding first-writes run
  first-held =
      let bounds = first-words-small z words (length q) below fits inside plain short small in
      holds-run z words (first_words z words (length q)) store bytes (take run q) words.start held
      (omega (arith, length-take run q)) bounds.0 bounds.1

  further-writes : Bool → List Write
  further-writes b = if b then run_writes z 0 (drop run q) (run_words z words (length q)) else []

  further-held : (b : Bool) → nat_lt run (length q) ≡ b
      → Holds z (run_words z words (length q)) (after_writes (further-writes b) (after_writes first-writes store))
      (twice bytes words.start run q)
  unfolding further-writes run after_writes
  further-held true e =
      let bounds = run-words-small z words (length q) below fits inside plain short small in
      holds-run z (first_words z words (length q)) (run_words z words (length q)) (after_writes first-writes store)
      (once bytes words.start run q) (drop run q) 0 first-held
      (omega (arith, length-drop run q)) bounds.0 bounds.1
  further-held false e =
      let all : length q ≤ run = grind (arith, nat_tests) in
      let same : run_words z words (length q) ≡ first_words z words (length q) =
      ap (λ b. if b then record { size = length q - run; start = length q - run } else first_words z words (length q))
      e in
      let alone : twice bytes words.start run q ≡ once bytes words.start run q =
      ap (λ (xs : List ℕ). after_write (once bytes words.start run q) (record { at = 0; bytes = xs }))
      (drop_all run q all) ∙ none-written (once bytes words.start run q) 0 in
      subst (λ (w : BlkWords). Holds z w (after_writes first-writes store) (twice bytes words.start run q)) (sym same)
      (subst (λ (xs : List ℕ). Holds z (first_words z words (length q)) (after_writes first-writes store) xs)
      (sym alone) first-held)

  last-writes : Bool → List Write
  last-writes b = if b then header_write z (last_words z words (length q)) ∷ [] else []

  last-held : (b : Bool) → is_short z words (length q) ≡ b → (after : List ℕ)
      → Holds z (run_words z words (length q)) after (twice bytes words.start run q)
      → Holds z (last_words z words (length q)) (after_writes (last-writes b) after) (twice bytes words.start run q)
  unfolding last-writes after_writes
  last-held true e after h =
      let bounds = last-words-small z words (length q) below fits inside plain short small in
      holds-header z (run_words z words (length q)) (last_words z words (length q)) after
      (twice bytes words.start run q) h bounds.0 bounds.1
  last-held false e after h =
      let same : last_words z words (length q) ≡ run_words z words (length q) =
      ap (λ b. if b then record { size = capacity z; start = (run_words z words (length q)).start } else run_words z
      words (length q)) e in
      subst (λ (w : BlkWords). Holds z w after (twice bytes words.start run q)) (sym same) h

  pub kept-held : Holds z (last_words z words (length q)) (after_writes (kept_writes z words q) store)
      (twice bytes words.start (first_run z words (length q)) q)
  unfolding kept_writes first-writes further-writes last-writes run
  kept-held =
      let more : Bool = nat_lt run (length q) in
      let less : Bool = is_short z words (length q) in
      let second = further-held more refl in
      subst (λ (after : List ℕ). Holds z (last_words z words (length q)) after (twice bytes words.start run q))
      (sym (after-append (first-writes ++ further-writes more) (last-writes less) store
      ∙ ap (after_writes (last-writes less)) (after-append first-writes (further-writes more) store)))
      (last-held less refl (after_writes (further-writes more) (after_writes first-writes store)) second)

-- ---- the law

stands-from : (z : BlkZone) (words : BlkWords) (store bytes told : List ℕ) (start size : ℕ)
    → Holds z words store bytes → length bytes ≡ capacity z → words.start ≡ start → words.size ≡ size
    → (start ≤ size) × (start < capacity z) × (size < capacity z → start ≡ size) → size ≤ capacity z
    → RingBytes (λ p. get_or bytes p 0) start size told → StandsFor z words store told
stands-from z words store bytes told start size h long a b bounds fits ring = record {
  start = omega (arith, a, bounds.1);
  size = omega (arith, b);
  plain = λ less. a ∙ bounds.2 (omega (arith, b)) ∙ sym b;
  header = h.header;
  log =
      ap (ring_log (header_with z words)) h.rest ∙ ap (λ n. drop words.start (take n bytes) ++ take words.start bytes)
      b ∙ ap (λ n. drop n (take size bytes) ++ take n bytes) a
      ∙ RingBytes-turn bytes told start size bounds.0 (omega arith) ring;
}

kept-stands : (z : BlkZone) (words : BlkWords) (store told q : List ℕ) → LiesIn z store → StandsFor z words store told
    → length q ≤ capacity z
    → StandsFor z (last_words z words (length q)) (after_writes (kept_writes z words q) store)
    (last_items (capacity z) (told ++ q))
kept-stands z words store told q l s short =
    let bytes : List ℕ = drop 12 (zone_bytes store z) in
    let held : Holds z words store (drop 12 (zone_bytes store z)) =
    record { lies = l; header = s.header; rest = refl } in
    let inside : words.start ≤ words.size = start-within z words store told s in
    let long : length (drop 12 (zone_bytes store z)) ≡ capacity z =
    omega (arith, length-drop 12 (zone_bytes store z), length-zone z store l.inside) in
    let m : ℕ = first_run z words (length q) in
    let below : words.start < capacity z = s.start in
    let fits : words.size ≤ capacity z = s.size in
    let first-fits : words.start + length (take m q) ≤ length bytes = omega (arith, length-take m q) in
    let rest-fits : 0 + length (drop m q) ≤ length (once bytes words.start m q) =
    omega (arith, length-drop m q, length-written bytes (take m q) words.start first-fits) in
    stands-from z (last_words z words (length q)) (after_writes (kept_writes z words q) store)
    (twice bytes words.start m q) (last_items (capacity z) (told ++ q))
    ((words.start + length q) % capacity z) (min (capacity z) (words.size + length q))
    (kept-held z words store bytes q held s.start s.size inside s.plain short)
    (length-written (once bytes words.start m q) (drop m q) 0 rest-fits
    ∙ length-written bytes (take m q) words.start first-fits ∙ long)
    (last-start z words (length q) s.start s.size inside s.plain short)
    (last-size z words (length q) s.start s.size inside s.plain short)
    (open_after words.start words.size (length q) (capacity z) s.start s.size inside s.plain short)
    (omega arith)
    (RingBytes-append (λ p. get_or bytes p 0) (λ p. get_or (twice bytes words.start m q) p 0) words.start words.size
    (capacity z) told q
    (turn-RingBytes bytes told words.start words.size inside (omega arith) s.log)
    (runs-AppendedBytes bytes q words.start (capacity z) m long s.start short refl)
    s.start s.size inside s.plain short)

pub append-stands : (z : BlkZone) (words : BlkWords) (store told payload : List ℕ) → LiesIn z store
    → StandsFor z words store told
    → StandsFor z (words_after z words payload) (after_writes (append_writes z words payload) store)
    (last_items (capacity z) (told ++ payload))
unfolding append_writes words_after after_writes
append-stands z words store told payload l s = by-payload (length payload == 0) refl
  where
    by-payload : (b : Bool) → (length payload == 0) ≡ b
        → StandsFor z (if b then words else last_words z words (min (length payload) (capacity z)))
        (after_writes (if b then [] else kept_writes z words (last_items (capacity z) payload)) store)
        (last_items (capacity z) (told ++ payload))
    by-payload true e =
        let none : payload ≡ [] = no-items payload e in
        let all : last_items (capacity z) (told ++ payload) ≡ told =
        ap (λ (xs : List ℕ). last_items (capacity z) (told ++ xs)) none ∙ ap (last_items (capacity z)) (append-nil told)
        ∙ last_items-short (capacity z) told (omega (arith, length-told z words store told l s, s.size)) in
        subst (StandsFor z words store) (sym all) s
    by-payload false e =
        let count : length (last_items (capacity z) payload) ≡ min (length payload) (capacity z) =
        omega (arith, length-drop (length payload - capacity z) payload) in
        subst (λ n. StandsFor z (last_words z words n) (after_writes
        (kept_writes z words (last_items (capacity z) payload)) store)
        (last_items (capacity z) (told ++ payload))) count
        (subst (StandsFor z (last_words z words (length (last_items (capacity z) payload)))
        (after_writes (kept_writes z words (last_items (capacity z) payload)) store))
        (last_items-append (capacity z) told payload)
        (kept-stands z words store told (last_items (capacity z) payload) l s (omega arith)))
