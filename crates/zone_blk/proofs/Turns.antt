-- The parts of an append
use Rattle.std.proofs.Common.{◌≡◌, ℕ, ◌-◌, ◌==◌, Bool, true, false, if◌then◌else◌, nat_lt, List, [], ◌∷◌, ◌++◌, length}
use Rattle.std.proofs.Common.{take, drop, Result, Ok, Err, IfOk, refl, ap, ◌∙◌, arith, length-drop}
use Rattle.std.proofs.lemmas.Bool.{le-ltb, eqb-true}
use Rattle.std.proofs.lemmas.Bool.Decides.{nat_tests}
use Rattle.blk_spec.specs.declared.BlkZone.{BlkZone}
use Rattle.blk_spec.specs.declared.BlkWords.{BlkWords}
use Rattle.blk_spec.specs.declared.BlkCut.{BlkCut}
use Rattle.blk_spec.specs.Layout.{capacity}
use Rattle.blk_spec.specs.Writes.{Write}
use Rattle.blk_spec.specs.Rings.{header_write, run_writes, first_run, first_words, run_words, is_short, last_words}
use Rattle.blk_spec.specs.Rings.{kept_writes, append_writes, words_after}
use Rattle.blk_spec.specs.Answers.{Device, Makes, FailsWithin}
use Rattle.outside.specs.declared.outside.Failed.{Failed}
use Rattle.zone_blk.specs.declared.appending.Turn.{Turn}
use Rattle.zone_spec.specs.Told.{last_items}
use Rattle.zone_blk.proofs.Sequences.{makes-no-write, then-makes, then-fails, fails-before, makes-same, fails-same}

pub makes-unless : (b : Bool) (ws : List Write) (c : BlkCut) (store : Device) → b ≡ false
    → Makes (if b then ws else []) (if b then ws else []) c c store store
makes-unless true ws c store e = cc
makes-unless false ws c store e = makes-no-write store c

pub not-some : (n : ℕ) → (n == 0) ≡ true → nat_lt 0 n ≡ false
not-some n e = le-ltb 0 n (omega (arith, eqb-true n 0 e))

more-left : (m n : ℕ) → nat_lt 0 (n - m) ≡ nat_lt m n
more-left m n = grind (arith, nat_tests)

turn-parts : (z : BlkZone) (words : BlkWords) (bytes : List ℕ) (n first : ℕ) (behind next last : BlkWords)
    (short : Bool) → n ≡ length bytes → first ≡ first_run z words n → behind ≡ first_words z words n
    → next ≡ run_words z words n → short ≡ is_short z words n → last ≡ last_words z words n
    → run_writes z words.start (take first bytes) behind
    ++ (if nat_lt 0 (length (drop first bytes)) then run_writes z 0 (drop first bytes) next else [])
    ++ (if short then header_write z last ∷ [] else [])
    ≡ kept_writes z words bytes
unfolding kept_writes
turn-parts z words bytes n first behind next last short e f b x s l =
    rw (length-drop first bytes) (rw (more-left first (length bytes)) (rw (f, b, x, s, l, e) refl))

pub empty-append : (z : BlkZone) (words : BlkWords) (payload : List ℕ) → (length payload == 0) ≡ true
    → append_writes z words payload ≡ []
unfolding append_writes
empty-append z words payload e = rw e refl

pub empty-words-after : (z : BlkZone) (words : BlkWords) (payload : List ℕ) → (length payload == 0) ≡ true
    → words ≡ words_after z words payload
unfolding words_after
empty-words-after z words payload e = rw e refl

pub some-append : (z : BlkZone) (words : BlkWords) (payload : List ℕ) → (length payload == 0) ≡ false
    → kept_writes z words (last_items (capacity z) payload) ≡ append_writes z words payload
unfolding append_writes
some-append z words payload e = rw e refl

pub some-words-after : (z : BlkZone) (words : BlkWords) (payload : List ℕ) → (length payload == 0) ≡ false
    → last_words z words (length (last_items (capacity z) payload)) ≡ words_after z words payload
unfolding words_after
some-words-after z words payload e = rw e (ap (last_words z words)
    (omega (arith, length-drop (length payload - capacity z) payload)))

-- the parts by the numbers of the turn
abbrev run-part : BlkZone → BlkWords → List ℕ → Turn → List Write
run-part z words front t = run_writes z words.start front t.first_words

abbrev rest-part : BlkZone → List ℕ → Turn → List Write
rest-part z back t = if nat_lt 0 (length back) then run_writes z 0 back t.run_words else []

abbrev further-part : BlkZone → Turn → List Write
further-part z t = if t.is_short then header_write z t.last ∷ [] else []

-- a turn of a ring, and the bytes of its two runs
pub record IsTurn (z : BlkZone) (words : BlkWords) (bytes front back : List ℕ) (t : Turn) : Type 0 where
  pub front_is : front ≡ take t.first bytes
  pub back_is : back ≡ drop t.first bytes
  pub first : t.first ≡ first_run z words (length bytes)
  pub first_words : t.first_words ≡ first_words z words (length bytes)
  pub run_words : t.run_words ≡ run_words z words (length bytes)
  pub short : t.is_short ≡ is_short z words (length bytes)
  pub last : t.last ≡ last_words z words (length bytes)

parts : (z : BlkZone) (words : BlkWords) (bytes front back : List ℕ) (t : Turn) → IsTurn z words bytes front back t
    → run-part z words front t ++ rest-part z back t ++ further-part z t ≡ kept_writes z words bytes
parts z words bytes front back t is =
    ap (λ (bs : List ℕ). run-part z words bs t ++ rest-part z back t ++ further-part z t) is.front_is
    ∙ ap (λ (bs : List ℕ). run-part z words (take t.first bytes) t ++ rest-part z bs t ++ further-part z t) is.back_is
    ∙ turn-parts z words bytes (length bytes) t.first t.first_words t.run_words t.last t.is_short refl
    is.first is.first_words is.run_words is.short is.last

-- how the whole ends by how its parts end
module _ (z : BlkZone) (words : BlkWords) (bytes front back : List ℕ) (t : Turn)
    (is : IsTurn z words bytes front back t) (c0 c1 c2 c3 : BlkCut) (h0 h1 h2 h3 : Device) where
  pub run-fails : FailsWithin (run-part z words front t) (run-part z words front t) c0 c1 h0 h1
      → FailsWithin (kept_writes z words bytes) (kept_writes z words bytes) c0 c1 h0 h1
  run-fails p = fails-same _ _ _ _ _ _ (parts z words bytes front back t is)
      (fails-before (run-part z words front t ++ rest-part z back t) (further-part z t) c0 c1 c1 h0 h1 h1
      (fails-before (run-part z words front t) (rest-part z back t) c0 c1 c1 h0 h1 h1 p))

  module _ (run : Makes (run-part z words front t) (run-part z words front t) c0 c1 h0 h1) where
    pub rest-fails : FailsWithin (rest-part z back t) (rest-part z back t) c1 c2 h1 h2 → FailsWithin
        (kept_writes z words bytes) (kept_writes z words bytes) c0 c2 h0 h2
    rest-fails p = fails-same _ _ _ _ _ _ (parts z words bytes front back t is)
        (fails-before (run-part z words front t ++ rest-part z back t) (further-part z t) c0 c2 c2 h0 h2 h2
        (then-fails (run-part z words front t) (rest-part z back t) c0 c1 c2 h0 h1 h2 run p))

    module _ (rest : Makes (rest-part z back t) (rest-part z back t) c1 c2 h1 h2) where
      runs : Makes (run-part z words front t ++ rest-part z back t) (run-part z words front t ++ rest-part z back t)
          c0 c2 h0 h2
      runs = then-makes (run-part z words front t) (rest-part z back t) c0 c1 c2 h0 h1 h2 run rest

      pub further-fails : FailsWithin (further-part z t) (further-part z t) c2 c3 h2 h3
          → FailsWithin (kept_writes z words bytes) (kept_writes z words bytes) c0 c3 h0 h3
      further-fails p = fails-same _ _ _ _ _ _ (parts z words bytes front back t is)
          (then-fails (run-part z words front t ++ rest-part z back t) (further-part z t) c0 c2 c3 h0 h2 h3 runs p)

      pub all-made : Makes (further-part z t) (further-part z t) c2 c3 h2 h3 → Makes (kept_writes z words bytes)
          (kept_writes z words bytes) c0 c3 h0 h3
      all-made p = makes-same _ _ _ _ _ _ (parts z words bytes front back t is)
          (then-makes (run-part z words front t ++ rest-part z back t) (further-part z t) c0 c2 c3 h0 h2 h3 runs p)

pub words-ok : (r : Result BlkWords Failed) (a b : BlkWords) → a ≡ b → IfOk r (λ after. after ≡ a)
    → IfOk r (λ after. after ≡ b)
words-ok (Ok x) a b e p = p ∙ e
words-ok (Err x) a b e p = tt
