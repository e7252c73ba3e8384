-- What the header of a zone reads whose call, or boot's erasure, was cut
use Rattle.std.proofs.Common.{◌≡◌, ℕ, zero, suc, ◌+◌, ◌-◌, ◌%◌, ◌^◌, ◌<◌, ◌≤◌, min, Bool, true, false, cond, ◌==◌}
use Rattle.std.proofs.Common.{nat_le, List, [], ◌∷◌, ◌++◌, length, take, drop, flat_map, get_or, slice_range, refl, sym}
use Rattle.std.proofs.Common.{ap, ◌∙◌, subst, arith, inl, inr, Option, Some, None, w32, length-append, mod-lt, take_all}
use Rattle.std.proofs.Common.{le-leb}
use Rattle.std.specs.Prelude.{Contains, sum_by, MatchOption}
use Rattle.std.proofs.lemmas.Bool.{cases_lt}
use Rattle.std.proofs.lemmas.Bool.Decides.{nat_tests}
use Rattle.std.proofs.lemmas.List.Sums.{sum_by-append}
use Rattle.std.specs.List.{AllByRecursion}
use Rattle.std.proofs.lemmas.List.{take-append-le}
use Rattle.list_laws.proofs.Elements.{AllByRecursion-append, take-append_past}
use Rattle.zone_spec.specs.declared.Zone.{Zone}
use Rattle.zone_spec.specs.declared.params.ByteOrder.{ByteOrder}
use Rattle.zone_spec.specs.declared.Words.{Words}
use Rattle.zone_spec.specs.declared.Pair.{Pair}
use Rattle.zone_spec.specs.Zones.{IsValidZone}
use Rattle.code_spec.specs.Code.{IsWord, IsCodeword, nearest, parity_of, IsNear}
use Rattle.zone_spec.specs.Parts.{AreBytes, Part, Header, Block, part_parity_at, part_bytes, part_word, words_in}
use Rattle.zone_spec.specs.Parts.{standing_words, IsImage}
use Rattle.zone_spec.specs.PartReadings.{words_read}
use Rattle.zone_spec.specs.Told.{Call, Append, Erase, Dump, last_items}
use Rattle.zone_spec.specs.Stores.{Store, put, after_stores, byte_stores}
use Rattle.zone_spec.specs.Stages.{Stage, SigWord, StartWord, SizeWord, Run, ParityOf, stage_stores, stores_in_turn}
use Rattle.zone_spec.specs.Stages.{stage_count, blocks_met}
use Rattle.zone_spec.specs.Calls.{run_stages, append_stages, erase_stages, call_parts, call_stages, call_stores}
use Rattle.zone_spec.specs.Ring.{ReadsAsStands}
use Rattle.zone_spec.specs.Damage.{IsNotDamagedFurther}
use Rattle.zone_spec.specs.Pairs.{pairs_from, pair_of}
use Rattle.zone_spec.specs.Cut.{Cut, cut_parts, cut_pairs}
use Rattle.zone_spec.specs.Windows.{Window, words_after, header_codeword, windows_from, window_at}
use Rattle.machine_spec.specs.States.{Flight}
use Rattle.machine_spec.specs.Stop.{cut_of}
use Rattle.machine_spec.specs.Sound.{IsInFlight}
use Rattle.damage_laws.specs.CutCalls.{IsNearHeader, HeaderReads, CutZoneReads}
use Rattle.code_laws.proofs.Nearest.{nearest-IsNear}
use Rattle.code_laws.proofs.Laws.{parity_made}
use Rattle.word_laws.proofs.WordBytes.{word_of-word_bytes, word_of-small}
use Rattle.ring_laws.proofs.Images.{put-below, put-above, put-inside, after_stores-append, length-after_stores}
use Rattle.ring_laws.proofs.AppendLaw.{word_of-stored, word_of-same}
use Rattle.ring_laws.proofs.PartsLaw.{nearest-codeword, slice_range-bytes}
use Rattle.ring_laws.proofs.PartWords.{part_word-IsWord, bytes-all, reading_near, reading_none}
use Rattle.ring_laws.proofs.EveryParity.{word-bytes}
use Rattle.ring_laws.proofs.StoreBytes.{all-map, call_image}
use Rattle.ring_laws.proofs.Fixes.{IsMended, toward_mended, word_left}
use Rattle.ring_laws.proofs.HeaderWords.{words_eq, header_length, header_words, words_taken, standing_same}
use Rattle.damage_laws.proofs.Within.{near_is}
use Rattle.damage_laws.proofs.CutPlaces.{old_places, no_other_places}
use Rattle.damage_laws.proofs.CutNumbers.{length-call}
use Rattle.zone_spec.specs.WordBytes.{word_bytes, word_of}

-- ---- the words while stores are made

-- a word that fits its four bytes
abbrev pub IsSmall : Stage → Type 0
IsSmall (SigWord n) = n < 2 ^ 32
IsSmall (StartWord n) = n < 2 ^ 32
IsSmall (SizeWord n) = n < 2 ^ 32
IsSmall (Run place bytes) = Unit {0}
IsSmall (ParityOf part) = Unit {0}

-- no stage stores the signature
abbrev pub IsUnsigning : Stage → Type 0
IsUnsigning (SigWord n) = ⊥
IsUnsigning (StartWord n) = Unit {0}
IsUnsigning (SizeWord n) = Unit {0}
IsUnsigning (Run place bytes) = Unit {0}
IsUnsigning (ParityOf part) = Unit {0}

-- bytes stored behind the words leave them
behind : (place : ℕ) (bs : List ℕ) (k : ℕ) (x : List ℕ) → 12 ≤ place → (i : ℕ) → i < 12
    → get_or (after_stores x (take k (byte_stores place bs))) i 0 ≡ get_or x i 0
unfolding after_stores byte_stores
behind place bs zero x h i l = refl
behind place [] (suc k) x h i l = refl
behind place (b ∷ bs) (suc k) x h i l = behind (place + 1) bs k (put x place (b ∷ [])) (omega arith) i l
    ∙ put-below x place i (b ∷ []) (omega arith)

behind-words : (z : Zone) (place : ℕ) (bs : List ℕ) (k : ℕ) (x : List ℕ) → 12 ≤ place
    → standing_words z (after_stores x (take k (byte_stores place bs))) ≡ standing_words z x
behind-words z place bs k x h = standing_same z (after_stores x (take k (byte_stores place bs))) x
    (λ i l. behind place bs k x h i l)

behind-all : (z : Zone) (place : ℕ) (bs : List ℕ) (x : List ℕ) → 12 ≤ place
    → standing_words z (after_stores x (byte_stores place bs)) ≡ standing_words z x
behind-all z place bs x h =
    ap (λ ss. standing_words z (after_stores x ss)) (sym (take_all (length (byte_stores place bs))
    (byte_stores place bs) (omega arith)))
    ∙ behind-words z place bs (length (byte_stores place bs)) x h

behind_parity : (z : Zone) (part : Part) → 12 ≤ part_parity_at z part
behind_parity z Header = omega arith
behind_parity z (Block b) = omega arith

module _ (z : Zone) where
  pub sig_put : (x : List ℕ) (n : ℕ) → 12 ≤ length x → n < 2 ^ 32
      → standing_words z (put x 0 (word_bytes z.byte_order n)) ≡ record {
        sig = n;
        start = (standing_words z x).start;
        size = (standing_words z x).size;
      }
  sig_put x n h l = words_eq (standing_words z (put x 0 (word_bytes z.byte_order n)))
      (record { sig = n; start = (standing_words z x).start; size = (standing_words z x).size })
      (word_of-stored z.byte_order (put x 0 (word_bytes z.byte_order n)) 0 n (omega arith) l
      (λ i k. put-inside x 0 i (word_bytes z.byte_order n) (omega arith) k))
      (word_of-same z.byte_order (put x 0 (word_bytes z.byte_order n)) x 4 (omega arith)
      (λ i k. put-above x 0 (4 + i) (word_bytes z.byte_order n) (omega arith)))
      (word_of-same z.byte_order (put x 0 (word_bytes z.byte_order n)) x 8 (omega arith)
      (λ i k. put-above x 0 (8 + i) (word_bytes z.byte_order n) (omega arith)))

  start_put : (x : List ℕ) (n : ℕ) → 12 ≤ length x → n < 2 ^ 32
      → standing_words z (put x 4 (word_bytes z.byte_order n)) ≡ record {
        sig = (standing_words z x).sig;
        start = n;
        size = (standing_words z x).size;
      }
  start_put x n h l = words_eq (standing_words z (put x 4 (word_bytes z.byte_order n)))
      (record { sig = (standing_words z x).sig; start = n; size = (standing_words z x).size })
      (word_of-same z.byte_order (put x 4 (word_bytes z.byte_order n)) x 0 (omega arith)
      (λ i k. put-below x 4 (0 + i) (word_bytes z.byte_order n) (omega arith)))
      (word_of-stored z.byte_order (put x 4 (word_bytes z.byte_order n)) 4 n (omega arith) l
      (λ i k. put-inside x 4 i (word_bytes z.byte_order n) (omega arith) k))
      (word_of-same z.byte_order (put x 4 (word_bytes z.byte_order n)) x 8 (omega arith)
      (λ i k. put-above x 4 (8 + i) (word_bytes z.byte_order n) (omega arith)))

  size_put : (x : List ℕ) (n : ℕ) → 12 ≤ length x → n < 2 ^ 32
      → standing_words z (put x 8 (word_bytes z.byte_order n)) ≡ record
      { sig = (standing_words z x).sig; start = (standing_words z x).start; size = n }
  size_put x n h l = words_eq (standing_words z (put x 8 (word_bytes z.byte_order n)))
      (record { sig = (standing_words z x).sig; start = (standing_words z x).start; size = n })
      (word_of-same z.byte_order (put x 8 (word_bytes z.byte_order n)) x 0 (omega arith)
      (λ i k. put-below x 8 (0 + i) (word_bytes z.byte_order n) (omega arith)))
      (word_of-same z.byte_order (put x 8 (word_bytes z.byte_order n)) x 4 (omega arith)
      (λ i k. put-below x 8 (4 + i) (word_bytes z.byte_order n) (omega arith)))
      (word_of-stored z.byte_order (put x 8 (word_bytes z.byte_order n)) 8 n (omega arith) l
      (λ i k. put-inside x 8 i (word_bytes z.byte_order n) (omega arith) k))

  -- a stage's stores, all or some of them
  stage_words : (g : Stage) (x : List ℕ) → 12 ≤ length x → IsSmall g
      → standing_words z (after_stores x (stage_stores z g x)) ≡ words_after (standing_words z x) (g ∷ [])
  unfolding stage_stores after_stores words_after
  stage_words (SigWord n) x h l = sig_put x n h l
  stage_words (StartWord n) x h l = start_put x n h l
  stage_words (SizeWord n) x h l = size_put x n h l
  stage_words (Run place bytes) x h l = behind-all z (12 + place) bytes x (omega arith)
  stage_words (ParityOf part) x h l = behind-all z (part_parity_at z part) (parity_of z.parity (part_bytes z x part)) x
      (behind_parity z part)

  stage_part : (g : Stage) (x : List ℕ) (k : ℕ) → k < length (stage_stores z g x)
      → standing_words z (after_stores x (take k (stage_stores z g x))) ≡ standing_words z x
  unfolding stage_stores after_stores
  stage_part (SigWord n) x zero l = refl
  stage_part (SigWord n) x (suc k) l = absurd (omega arith)
  stage_part (StartWord n) x zero l = refl
  stage_part (StartWord n) x (suc k) l = absurd (omega arith)
  stage_part (SizeWord n) x zero l = refl
  stage_part (SizeWord n) x (suc k) l = absurd (omega arith)
  stage_part (Run place bytes) x k l = behind-words z (12 + place) bytes k x (omega arith)
  stage_part (ParityOf part) x k l = behind-words z (part_parity_at z part) (parity_of z.parity (part_bytes z x part))
      k x (behind_parity z part)

  words_after-cons : (w : Words) (g : Stage) (hs : List Stage)
      → words_after (words_after w (g ∷ [])) hs ≡ words_after w (g ∷ hs)
  unfolding words_after
  words_after-cons w (SigWord n) hs = refl
  words_after-cons w (StartWord n) hs = refl
  words_after-cons w (SizeWord n) hs = refl
  words_after-cons w (Run place bytes) hs = refl
  words_after-cons w (ParityOf part) hs = refl

  -- the words after some stores are those after some stages
  pub words_track : (gs : List Stage) (x : List ℕ) (k : ℕ) → 12 ≤ length x → AllByRecursion IsSmall gs
      → (hs : List Stage) × (ts : List Stage) × (gs ≡ hs ++ ts)
      × (standing_words z (after_stores x (take k (stores_in_turn z gs x))) ≡ words_after (standing_words z x) hs)
  unfolding stores_in_turn after_stores words_after
  words_track [] x zero h small = ([], [], refl, refl)
  words_track [] x (suc k) h small = ([], [], refl, refl)
  words_track (g ∷ gs) x k h small =
      let ss : List Store = stage_stores z g x in
      let y : List ℕ = after_stores x ss in
      let rest : List Store = stores_in_turn z gs y in
      elim (cases_lt k (length ss)) [
        | inl l ↦ (
          [],
          g ∷ gs,
          refl,
          ap (λ ts. standing_words z (after_stores x ts)) (take-append-le k ss rest (omega arith))
              ∙ stage_part g x k l,
        )
        | inr m ↦
            (let t = words_track gs y (k - length ss) (omega (arith, length-after_stores x ss)) small.1 in (
              g ∷ t.0,
              t.1,
              ap (λ us. g ∷ us) t.2,
              ap (λ us. standing_words z (after_stores x us)) (take-append_past k ss rest m)
                  ∙ ap (standing_words z) (after_stores-append x ss (take (k - length ss) rest))
                  ∙ t.3 ∙ ap (λ w. words_after w t.0) (stage_words g x h small.0)
                  ∙ words_after-cons (standing_words z x) g t.0,
            ))
      ]

-- ---- pairs

pairs_head : (p : Pair) (gs : List Stage) → Contains (pairs_from p gs) p
unfolding pairs_from
pairs_head p [] = (zero, omega arith, refl)
pairs_head p (StartWord n ∷ gs) = (zero, omega arith, refl)
pairs_head p (SizeWord n ∷ gs) = (zero, omega arith, refl)
pairs_head p (SigWord n ∷ gs) = pairs_head p gs
pairs_head p (Run place bytes ∷ gs) = pairs_head p gs
pairs_head p (ParityOf part ∷ gs) = pairs_head p gs

pairs_later : (p q : Pair) (ps : List Pair) → Contains ps q → Contains (p ∷ ps) q
pairs_later p q ps h = (suc h.0, omega (arith, h.1), h.2)

pub pairs_have : (w : Words) (hs ts : List Stage) → Contains (pairs_from (pair_of w) (hs ++ ts))
    (pair_of (words_after w hs))
unfolding pairs_from words_after
pairs_have w [] ts = pairs_head (pair_of w) ts
pairs_have w (StartWord n ∷ hs) ts = pairs_later _ _ _ (pairs_have (record w { start = n }) hs ts)
pairs_have w (SizeWord n ∷ hs) ts = pairs_later _ _ _ (pairs_have (record w { size = n }) hs ts)
pairs_have w (SigWord n ∷ hs) ts = pairs_have (record w { sig = n }) hs ts
pairs_have w (Run place bytes ∷ hs) ts = pairs_have w hs ts
pairs_have w (ParityOf part ∷ hs) ts = pairs_have w hs ts

pub sig_kept : (w : Words) (hs ts : List Stage) → AllByRecursion IsUnsigning (hs ++ ts) → (words_after w hs).sig ≡ w.sig
unfolding words_after
sig_kept w [] ts h = refl
sig_kept w (StartWord n ∷ hs) ts h = sig_kept (record w { start = n }) hs ts h.1
sig_kept w (SizeWord n ∷ hs) ts h = sig_kept (record w { size = n }) hs ts h.1
sig_kept w (SigWord n ∷ hs) ts h = absurd h.0
sig_kept w (Run place bytes ∷ hs) ts h = sig_kept w hs ts h.1
sig_kept w (ParityOf part ∷ hs) ts h = sig_kept w hs ts h.1

-- ---- the stages of a call

abbrev pub IsCallStage : Stage → Type 0
IsCallStage g = IsSmall g × IsUnsigning g

pub both-small : (gs : List Stage) → AllByRecursion IsCallStage gs
    → AllByRecursion IsSmall gs × AllByRecursion IsUnsigning gs
both-small [] h = (tt, tt)
both-small (g ∷ gs) h = let r = both-small gs h.1 in ((h.0.0, r.0), (h.0.1, r.1))

module _ (z : Zone) (valid : IsValidZone z) where
  run-small : (place : ℕ) (bs : List ℕ) → AllByRecursion IsCallStage (run_stages z place bs)
  run-small place [] = tt
  run-small place (b ∷ bs) = (
    (tt, tt),
    all-map IsCallStage (λ k. ParityOf (Block k))
        (blocks_met z place (length (b ∷ bs))) (λ x. (tt, tt)),
  )

  append-small : (s n : ℕ) (q : List ℕ) → AllByRecursion IsCallStage (append_stages z s n q)
  append-small s n [] = tt
  append-small s n (c ∷ cs) =
      let q : List ℕ = c ∷ cs in
      let first : List Stage = run_stages z s (take (z.cap - s) q) in
      let second : List Stage = run_stages z 0 (drop (z.cap - s) q) in
      let starts : List Stage = StartWord ((s + length q) % z.cap) ∷ [] in
      let sizes : List Stage = cond (n == z.cap) [] (SizeWord (min z.cap (n + length q)) ∷ []) in
      let room : 0 < z.cap = omega (arith, valid.room) in
      AllByRecursion-append IsCallStage (sizes ++ starts ++ first ++ second) (ParityOf Header ∷ [])
      (AllByRecursion-append IsCallStage (sizes ++ starts ++ first) second
      (AllByRecursion-append IsCallStage (sizes ++ starts) first
      (AllByRecursion-append IsCallStage sizes starts (size-small (n == z.cap)) (
        (
          (let m : (s + length q) % z.cap < z.cap = mod-lt (s + length q) room in
              omega (arith, valid.cap, valid.at_most)),
          tt,
        ),
        tt,
      ))
      (run-small s (take (z.cap - s) q)))
      (run-small 0 (drop (z.cap - s) q)))
      ((tt, tt), tt)
    where
      size-small : (full : Bool) → AllByRecursion IsCallStage
          (cond full [] (SizeWord (min z.cap (n + length (c ∷ cs))) ∷ []))
      size-small true = tt
      size-small false = ((omega (arith, valid.cap, valid.at_most), tt), tt)

  pub erase-small : AllByRecursion IsCallStage erase_stages
  erase-small = ((omega arith, tt), ((omega arith, tt), ((tt, tt), tt)))

  -- by the parts of a call
  parts-small : (w : Words) (call : Call) → AllByRecursion (λ gs. AllByRecursion IsCallStage gs) (call_parts z w call)
  parts-small w (Append payload) = (append-small w.start w.size (last_items z.cap payload), tt)
  parts-small w Erase = (erase-small, tt)
  parts-small w (Dump line body) = (
    erase-small,
    (
      append-small 0 0 line,
      (append-small (length line) (length line) (take (z.cap - length line) body), tt),
    ),
  )

flat-small : (parts : List (List Stage)) → AllByRecursion (λ gs. AllByRecursion IsCallStage gs) parts
    → AllByRecursion IsCallStage (flat_map (λ part. part) parts)
flat-small [] h = tt
flat-small (p ∷ ps) h = AllByRecursion-append IsCallStage p (flat_map (λ part. part) ps) h.0 (flat-small ps h.1)

pub each-small : (parts : List (List Stage)) → AllByRecursion (λ gs. AllByRecursion IsCallStage gs) parts
    → AllByRecursion (λ gs. AllByRecursion IsSmall gs) parts
each-small [] h = tt
each-small (p ∷ ps) h = ((both-small p h.0).0, each-small ps h.1)

-- ---- windows

-- a header's word: what it stands for has its words
pub record IsHeader (order : ByteOrder) (r : ℕ) (header : List ℕ) : Type 0 where
  pub word : IsWord (12 + r) header
  pub stands : (c : List ℕ) → nearest r header ≡ Some c → words_in order c ≡ words_in order header
  pub sig : (words_in order header).sig < 2 ^ 32
  pub start : (words_in order header).start < 2 ^ 32
  pub size : (words_in order header).size < 2 ^ 32

-- a codeword of these words
pub record SaysWords (order : ByteOrder) (r : ℕ) (w : Words) (c : List ℕ) : Type 0 where
  pub word : IsWord (12 + r) c
  pub codeword : IsCodeword r c
  pub words : words_in order c ≡ w

pub record IsWindow (order : ByteOrder) (r : ℕ) (w : Window) : Type 0 where
  pub opening : (c : List ℕ) → w.opening_codeword ≡ Some c → SaysWords order r w.opening c
  pub closing : SaysWords order r w.closing w.closing_codeword

header_codeword-says : (order : ByteOrder) (r : ℕ) (w : Words) → w.sig < 2 ^ 32 → w.start < 2 ^ 32 → w.size < 2 ^ 32
    → SaysWords order r w (header_codeword order r w)
header_codeword-says order r w a b c =
    let bytes : List ℕ = word_bytes order w.sig ++ word_bytes order w.start ++ word_bytes order w.size in
    let a4 : List ℕ = word_bytes order w.sig in
    let b4 : List ℕ = word_bytes order w.start in
    let c4 : List ℕ = word_bytes order w.size in
    let all : AllByRecursion (λ b. b < 256) bytes = AllByRecursion-append (λ b. b < 256) (a4 ++ b4) c4
    (AllByRecursion-append (λ b. b < 256) a4 b4 (bytes-all a4 (word-bytes order w.sig))
    (bytes-all b4 (word-bytes order w.start)))
    (bytes-all c4 (word-bytes order w.size)) in
    let made : IsWord r (parity_of r bytes) × IsCodeword r (bytes ++ parity_of r bytes) =
    parity_made r bytes (refl, all) in
    record {
      word = (
        length-append bytes (parity_of r bytes) ∙ omega (arith, made.0.0),
        AllByRecursion-append (λ b. b < 256) bytes (parity_of r bytes) all made.0.1,
      );
      codeword = made.1;
      words = words_eq (words_in order (header_codeword order r w)) w (word_of-word_bytes order w.sig a)
          (word_of-word_bytes order w.start b) (word_of-word_bytes order w.size c);
    }

after-small : (gs : List Stage) (w : Words) → AllByRecursion IsSmall gs → w.sig < 2 ^ 32 → w.start < 2 ^ 32
    → w.size < 2 ^ 32 → ((words_after w gs).sig < 2 ^ 32) × ((words_after w gs).start < 2 ^ 32)
    × ((words_after w gs).size < 2 ^ 32)
unfolding words_after
after-small [] w h a b c = (a, b, c)
after-small (SigWord n ∷ gs) w h a b c = after-small gs (record w { sig = n }) h.1 h.0 b c
after-small (StartWord n ∷ gs) w h a b c = after-small gs (record w { start = n }) h.1 a h.0 c
after-small (SizeWord n ∷ gs) w h a b c = after-small gs (record w { size = n }) h.1 a b h.0
after-small (Run place bytes ∷ gs) w h a b c = after-small gs w h.1 a b c
after-small (ParityOf part ∷ gs) w h a b c = after-small gs w h.1 a b c

pub windows_ok : (z : Zone) (parts : List (List Stage)) (header : List ℕ) → IsHeader z.byte_order z.parity header
    → AllByRecursion (λ gs. AllByRecursion IsSmall gs) parts
    → AllByRecursion (IsWindow z.byte_order z.parity) (windows_from z header parts)
unfolding windows_from
windows_ok z [] header h small = tt
windows_ok z ([] ∷ parts) header h small = windows_ok z parts header h small.1
windows_ok z ((g ∷ gs) ∷ parts) header h small =
    let w : Words = words_after (words_in z.byte_order header) (g ∷ gs) in
    let bounds = after-small (g ∷ gs) (words_in z.byte_order header) small.0 h.sig h.start h.size in
    let closing : SaysWords z.byte_order z.parity w (header_codeword z.byte_order z.parity w) =
    header_codeword-says z.byte_order z.parity w bounds.0 bounds.1 bounds.2 in
    let own : nearest z.parity (header_codeword z.byte_order z.parity w)
    ≡ Some (header_codeword z.byte_order z.parity w) =
    nearest-codeword z.parity (header_codeword z.byte_order z.parity w) closing.codeword in (
      record {
        opening = λ c e.
            let near : IsNear z.parity header c = nearest-IsNear z.parity header c
            (subst (λ n. IsWord n header) (sym h.word.0) h.word) e in
            record {
              word = subst (λ n. IsWord n c) h.word.0 near.word;
              codeword = near.codeword;
              words = h.stands c e;
            };
        closing = closing;
      },
      windows_ok z parts (header_codeword z.byte_order z.parity w) (record {
        word = closing.word;
        stands = λ c e. (let same : header_codeword z.byte_order z.parity w
            ≡ c = (let k : Some (header_codeword z.byte_order z.parity w) ≡ Some c = sym own ∙ e in cc)
            in ap (words_in z.byte_order) (sym same));
        sig = subst (λ v. v.sig < 2 ^ 32) (sym closing.words) bounds.0;
        start = subst (λ v. v.start < 2 ^ 32) (sym closing.words) bounds.1;
        size = subst (λ v. v.size < 2 ^ 32) (sym closing.words) bounds.2;
      }) small.1,
    )

pub window_in : (P : Window → Type 0) (ws : List Window) (made : ℕ) (w : Window) → AllByRecursion P ws
    → window_at made ws ≡ Some w → P w
unfolding window_at
window_in P [] made w h e = let n : None ≡ Some w = e in cc
window_in P (v ∷ ws) made w h e = by (nat_le made v.stores) e (window_in P ws (made - v.stores) w h.1)
  where
    by : (b : Bool) → cond b (Some v) (window_at (made - v.stores) ws) ≡ Some w
        → (window_at (made - v.stores) ws ≡ Some w → P w) → P w
    by true e next = (let s : v ≡ w = cc in subst P s h.0)
    by false e next = next e

pub all_stores : List Window → ℕ
all_stores [] = 0
all_stores (w ∷ ws) = w.stores + all_stores ws

pub all_stores-windows : (z : Zone) (parts : List (List Stage)) (header : List ℕ)
    → all_stores (windows_from z header parts) ≡ sum_by (stage_count z) (flat_map (λ part. part) parts)
unfolding all_stores windows_from
all_stores-windows z [] header = refl
all_stores-windows z ([] ∷ parts) header = all_stores-windows z parts header
all_stores-windows z ((g ∷ gs) ∷ parts) header =
    ap (λ n. sum_by (stage_count z) (g ∷ gs) + n) (all_stores-windows z parts _)
    ∙ sym (sum_by-append (stage_count z) (g ∷ gs) (flat_map (λ part. part) parts))

window_found : (ws : List Window) (w : Window) (made : ℕ) → made ≤ w.stores + all_stores ws
    → (v : Window) × (window_at made (w ∷ ws) ≡ Some v)
unfolding all_stores window_at
window_found [] w made h = rw (le-leb made w.stores (omega arith)) (w, refl)
window_found (u ∷ ws) w made h = elim (cases_lt w.stores made) [
  | inl m ↦ (let f : nat_le made w.stores ≡ false = grind (arith, nat_tests) in
      rw f (window_found ws u (made - w.stores) (omega arith)))
  | inr g ↦ rw (le-leb made w.stores g) (w, refl)
]

pub window_exists : (ws : List Window) (made : ℕ) → made < all_stores ws → (v : Window) × (window_at made ws ≡ Some v)
unfolding all_stores
window_exists [] made h = absurd (omega arith)
window_exists (w ∷ ws) made h = window_found ws w made (omega arith)

-- ---- what the header reads

pub near_words : (z : Zone) (now : List ℕ) (w : Words) (c : List ℕ) → IsValidZone z → IsImage z now
    → SaysWords z.byte_order z.parity w c → IsNearHeader z now c → words_read z now ≡ w
near_words z now w c valid im says near =
    let l = header_length z now valid im in
    ap (words_in z.byte_order) (reading_near z now Header c (near_is z now Header c valid im.1
    (record { codeword = says.codeword; within = near; word = subst (λ n. IsWord n c) (sym l.1) says.word })))
    ∙ words_taken z.byte_order c (length (part_bytes z now Header)) l.0 ∙ says.words

pub header_toward : (z : Zone) (stop now : List ℕ) → IsValidZone z → IsImage z stop → IsImage z now
    → IsNotDamagedFurther z stop now → IsMended z stop now Header
header_toward z stop now valid hs hn h =
    toward_mended z stop now Header valid (hn.0 ∙ sym hs.0) hs.1 hn.1
    (λ i l. h i (omega (arith, (header_length z stop valid hs).1)))

-- of any cut whose header is one, and whose stages store words that fit
pub header_reads : (z : Zone) (cut : Cut) (stop now : List ℕ) → IsValidZone z → IsImage z stop → IsImage z now
    → IsHeader z.byte_order z.parity cut.header → AllByRecursion (λ gs. AllByRecursion IsSmall gs) (cut_parts z cut)
    → ((standing_words z stop).sig ≡ z.sig) × Contains (cut_pairs z cut) (pair_of (standing_words z stop))
    → IsNotDamagedFurther z stop now → HeaderReads z cut stop now
unfolding part_bytes
header_reads z cut stop now valid hs hn head small stood damage =
    let windows : AllByRecursion (IsWindow z.byte_order z.parity) (windows_from z cut.header (cut_parts z cut)) =
    windows_ok z (cut_parts z cut) cut.header head small in
    let mended : IsMended z stop now Header = header_toward z stop now valid hs hn damage in
    record {
      stood = stood;
      as_at_stop = ap (words_in z.byte_order) mended.reading;
      opening = λ w c e f near. near_words z now w.opening c valid hn
          ((window_in (IsWindow z.byte_order z.parity) _ cut.made w windows e).opening c f) near;
      closing = λ w e near. near_words z now w.closing w.closing_codeword valid hn
          (window_in (IsWindow z.byte_order z.parity) _ cut.made w windows e).closing near;
      other = by mended (nearest z.parity (part_word z now Header)) refl;
    }
  where
    by : IsMended z stop now Header → (o : Option (List ℕ)) → nearest z.parity (part_word z now Header) ≡ o
        → MatchOption o (words_read z now ≡ standing_words z stop)
        (λ c. IsNearHeader z now c × (words_read z now ≡ words_in z.byte_order c))
    by mended None e =
        ap (words_in z.byte_order) (reading_none z now Header e)
        ∙ standing_same z now stop (λ i l. sym (head_byte now hn i l)
        ∙ ap (λ xs. get_or xs i 0) (mended.stands.none (sym mended.stands.same ∙ e)) ∙ head_byte stop hs i l)
      where
        head_byte : (x : List ℕ) → IsImage z x → (i : ℕ) → i < 12 → get_or (part_word z x Header) i 0 ≡ get_or x i 0
        head_byte x im i l = word_left z x Header i (omega (arith, (header_length z x valid im).0))
            ∙ ap (λ n. get_or x n 0) (let e : 0 + i ≡ i = omega arith in e)
    by mended (Some c) e =
        let near : IsNear z.parity (part_word z now Header) c =
        nearest-IsNear z.parity (part_word z now Header) c (part_word-IsWord z now Header hn.1) e in (
          near.within,
          ap (words_in z.byte_order) (reading_near z now Header c e)
              ∙ words_taken z.byte_order c (length (part_bytes z now Header)) (header_length z now valid hn).0,
        )

-- ---- a call's cut

-- a header that stands for its own words
pub is_header : (z : Zone) (x : List ℕ) → IsValidZone z → IsImage z x → ReadsAsStands z x Header
    → IsHeader z.byte_order z.parity (part_word z x Header)
unfolding part_bytes
is_header z x valid im stands =
    let l = header_length z x valid im in
    let words : words_in z.byte_order (part_word z x Header) ≡ standing_words z x = header_words z x valid im in
    let bounds = standing-small x im.1 in
    record {
      word = subst (λ n. IsWord n (part_word z x Header)) l.1 (part_word-IsWord z x Header im.1);
      stands = λ c e. sym (words_taken z.byte_order c (length (part_bytes z x Header)) l.0)
          ∙ ap (words_in z.byte_order) (stands c e) ∙ sym words;
      sig = subst (λ v. v.sig < 2 ^ 32) (sym words) bounds.0;
      start = subst (λ v. v.start < 2 ^ 32) (sym words) bounds.1;
      size = subst (λ v. v.size < 2 ^ 32) (sym words) bounds.2;
    }
  where
    four : (xs : List ℕ) → AreBytes xs → word_of z.byte_order xs < 2 ^ 32
    four xs h = word_of-small z.byte_order xs h

    standing-small : (x : List ℕ) → AreBytes x → ((standing_words z x).sig < 2 ^ 32)
        × ((standing_words z x).start < 2 ^ 32) × ((standing_words z x).size < 2 ^ 32)
    standing-small x h =
        let front : AreBytes (slice_range x 0 12) = slice_range-bytes x 0 12 h in (
          four _ (slice_range-bytes (slice_range x 0 12) 0 4 front),
          four _ (slice_range-bytes (slice_range x 0 12) 4 8 front),
          four _ (slice_range-bytes (slice_range x 0 12) 8 12 front),
        )

-- what stood at the stop of a flight
call_stood : (z : Zone) (stop told : List ℕ) (f : Flight) → IsValidZone z → IsInFlight z stop told f
    → ((standing_words z stop).sig ≡ z.sig) × Contains (cut_pairs z (cut_of z f)) (pair_of (standing_words z stop))
unfolding call_stores
call_stood z stop told f valid flies =
    let w : Words = standing_words z f.image in
    let gs : List Stage = call_stages z w f.call in
    let small = both-small gs (flat-small (call_parts z w f.call) (parts-small z valid w f.call)) in
    let t = words_track z gs f.image f.made (omega (arith, flies.size.0, valid.at_least)) small.0 in
    let is : standing_words z stop ≡ words_after w t.0 = ap (standing_words z) flies.now ∙ t.3 in
    let words : words_in z.byte_order (part_word z f.image Header) ≡ w = header_words z f.image valid flies.size in (
      ap (λ v. v.sig) is ∙ sig_kept w t.0 t.1 (subst (AllByRecursion IsUnsigning) t.2 small.1) ∙ flies.ring.signed,
      subst (λ v. Contains (pairs_from (pair_of v) (call_stages z v f.call)) (pair_of (standing_words z stop)))
          (sym words)
          (subst (λ v. Contains (pairs_from (pair_of w) gs) (pair_of v)) (sym is)
          (subst (λ hs. Contains (pairs_from (pair_of w) hs) (pair_of (words_after w t.0))) (sym t.2)
          (pairs_have w t.0 t.1))),
    )

pub cut_zone_reads : CutZoneReads
cut_zone_reads z stop now told f valid flies hn damage =
    let w : Words = standing_words z f.image in
    let words : words_in z.byte_order (part_word z f.image Header) ≡ w = header_words z f.image valid flies.size in
    let hs : IsImage z stop = subst (IsImage z) (sym flies.now)
    (call_image z valid f.image f.call f.made flies.size flies.can) in
    let v : Words = words_in z.byte_order (part_word z f.image Header) in
    let parts : List (List Stage) = call_parts z v f.call in
    record {
      window = window_exists _ f.made (omega (
        arith,
        flies.left,
        length-call z f stop told valid flies,
        ap (λ v. sum_by (stage_count z) (call_stages z v f.call)) words,
        all_stores-windows z parts (part_word z f.image Header),
      ));
      header = header_reads z (cut_of z f) stop now valid hs hn
          (is_header z f.image valid flies.size flies.ring.header) (each-small parts (parts-small z valid v f.call))
          (call_stood z stop told f valid flies) damage;
      places = old_places z stop now told f valid hs flies hn;
      no_others = no_other_places z valid stop now told f flies;
    }
