-- Writes one behind another: all made, or the store failed within them
use Rattle.std.proofs.Common.{◌≡◌, ℕ, ◌+◌, ◌-◌, ◌<◌, ◌≤◌, ◌==◌, min, Bool, true, false, if◌then◌else◌, replicate, List}
use Rattle.std.proofs.Common.{[], ◌∷◌, ◌++◌, length, take, Option, Some, None, MatchResult, Result, Ok, Err, refl, sym}
use Rattle.std.proofs.Common.{ap, ◌∙◌, arith, append_assoc, length-take, ◌⊎◌, inl, inr, subst}
use Rattle.std.proofs.lemmas.List.{take-take, append-nil, length-replicate}
use Rattle.std.proofs.lemmas.Bool.{eqb-true}
use Rattle.blk_laws.proofs.Zones.{after-none}
use Rattle.outside.specs.declared.outside.Failed.{Failed}
use Rattle.outside.specs.Outside.{next_count, Writes, WritesFront}
use Rattle.blk_spec.specs.declared.BlkCut.{BlkCut}
use Rattle.blk_spec.specs.Writes.{Write, after_writes, store_after, bytes_in, first_bytes, through, spent, asks_of}
use Rattle.blk_spec.specs.Writes.{in_pieces}
use Rattle.blk_spec.specs.Dumps.{zeros_by}
use Rattle.blk_spec.specs.Answers.{HasRoom, Device, further, Makes, FailsWithin}
use Rattle.zone_blk.specs.Outcomes.{Ends, one_write}
use Rattle.zone_blk.proofs.Effects.{bytes_in-append, in-turn-told, through-more, spent-more, through-within}
use Rattle.zone_blk.proofs.Effects.{all-or-none, spent-none, asks-append, further-more}
use Rattle.blk_laws.proofs.Pieces.{no-zeros, next-zeros}

pub bytes_in-one : (at : ℕ) (bytes : List ℕ) → bytes_in (one_write at bytes) ≡ length bytes
unfolding bytes_in
bytes_in-one at bytes = omega arith

written-one : (old new : Option (List ℕ)) (at k : ℕ) (bytes : List ℕ) → Writes old new at (take k bytes)
    → new ≡ store_after (first_bytes k (one_write at bytes)) old
unfolding after_writes first_bytes
written-one None None at k bytes w = refl
written-one None (Some ys) at k bytes w = absurd w
written-one (Some xs) None at k bytes w = absurd w
written-one (Some xs) (Some ys) at k bytes w = ap Some w

asks-one : (c : BlkCut) (at : ℕ) (bytes : List ℕ) → 0 < through c (length bytes) → asks_of c (one_write at bytes) ≡ 1
unfolding asks_of
asks-one c at bytes h = by-test (through c (length bytes) == 0) refl
  where
    by-test : (b : Bool) → (through c (length bytes) == 0) ≡ b → (if b then 0 else 1) + 0 ≡ 1
    by-test true e = let none : through c (length bytes) ≡ 0 = eqb-true (through c (length bytes)) 0 e in
        omega (arith, none, h)
    by-test false e = omega arith

asks-none : (c : BlkCut) (at : ℕ) (bytes : List ℕ) → through c (length bytes) ≡ 0 → asks_of c (one_write at bytes) ≡ 0
unfolding asks_of
asks-none c at bytes e = rw e (omega arith)

asked-once : (old new : Device) (c : BlkCut) (at : ℕ) (bytes : List ℕ) → 0 < through c (length bytes)
    → new.writes ≡ next_count old.writes → new.writes ≡ further (asks_of c (one_write at bytes)) old.writes
asked-once old new c at bytes h e = e ∙ ap (λ n. further n old.writes) (sym (asks-one c at bytes h))

-- a call of the store that was done, and one that failed
record Asked (old new : Device) : Type 0 where
  writes : new.writes ≡ next_count old.writes
  unread : new.read_faults ≡ old.read_faults

makes-one : (old new : Device) (c d : BlkCut) (at count : ℕ) (bytes : List ℕ) → 0 < count
    → count ≡ through c (length bytes) → d ≡ spent (length bytes) c → Asked old new
    → Writes old.holds new.holds at (take count bytes) → Makes (one_write at bytes) (one_write at bytes) c d old new
makes-one old new c d at count bytes h k s asked w = record {
  store = written-one old.holds new.holds at count bytes w
      ∙ ap (λ n. store_after (first_bytes n (one_write at bytes)) old.holds)
      (k ∙ ap (through c) (sym (bytes_in-one at bytes)));
  cut = s ∙ ap (λ n. spent n c) (sym (bytes_in-one at bytes));
  asked = asked-once old new c at bytes (omega arith) asked.writes;
  unread = asked.unread;
}

through-none : (c : BlkCut) → through c 0 ≡ 0
through-none c = omega (arith, through-within c 0)

-- the bytes that count as written are some of the pieces'
pub tried-within : (made others ws : List Write) (failed : Write) (tried : ℕ) → ws ≡ made ++ failed ∷ others
    → tried ≡ bytes_in made + length failed.bytes → tried ≤ bytes_in ws
unfolding bytes_in
tried-within made others ws failed tried parts h =
    omega (arith, h, ap bytes_in parts, bytes_in-append made (failed ∷ others))

fails-one : (old new : Device) (c d : BlkCut) (at count : ℕ) (bytes : List ℕ) → 0 < count
    → count ≡ through c (length bytes) → d ≡ spent (length bytes) c → Asked old new
    → WritesFront old.holds new.holds at (take count bytes)
    → FailsWithin (one_write at bytes) (one_write at bytes) c d old new
unfolding bytes_in
fails-one old new c d at count bytes h k s asked w =
    let few : w.count ≤ count = omega (arith, w.within, length-take count bytes) in
    let first : take w.count (take count bytes) ≡ take w.count bytes = take-take w.count count bytes few in
    record {
      made = [];
      failed = record { at = at; bytes = bytes };
      others = [];
      tried = length bytes;
      kept = w.count;
      parts = refl;
      within = omega arith;
      some = omega (arith, through-none c);
      least = omega (arith, through-none c);
      most = omega arith;
      store = written-one old.holds new.holds at w.count bytes
          (subst (λ (bs : List ℕ). Writes old.holds new.holds at bs) first w.bytes);
      cut = s;
      asked = asked-once old new c at bytes (omega arith) asked.writes;
      unread = asked.unread;
    }

-- what a call of the store gives, of as many bytes as reach it
pub ends-one : (r : Result Unit Failed) (old new : Device) (c d : BlkCut) (at count : ℕ) (bytes : List ℕ)
    → 0 < count → count ≡ through c (length bytes) → d ≡ spent (length bytes) c
    → new.writes ≡ next_count old.writes → new.read_faults ≡ old.read_faults
    → MatchResult r (λ _. Writes old.holds new.holds at (take count bytes))
    (λ _. WritesFront old.holds new.holds at (take count bytes))
    → Ends r (one_write at bytes) c d old new
ends-one (Ok done) old new c d at count bytes h k s writes unread w = makes-one old new c d at count bytes h k s
    (record { writes = writes; unread = unread }) w
ends-one (Err failed) old new c d at count bytes h k s writes unread w = fails-one old new c d at count bytes h k s
    (record { writes = writes; unread = unread }) w

-- a write of which nothing reaches the store
pub none-told : (ws : List Write) (store : Option (List ℕ)) → store ≡ store_after (first_bytes 0 ws) store
none-told ws None = refl
none-told ws (Some xs) = ap Some (sym (after-none ws xs))

pub makes-none : (old : Device) (c d : BlkCut) (at count : ℕ) (bytes : List ℕ)
    → count ≡ through c (length bytes) → count ≡ 0 → d ≡ spent (length bytes) c
    → Makes (one_write at bytes) (one_write at bytes) c d old old
makes-none old c d at count bytes k z s = record {
  store = none-told (one_write at bytes) old.holds
      ∙ ap (λ n. store_after (first_bytes n (one_write at bytes)) old.holds)
      (sym z ∙ k ∙ ap (through c) (sym (bytes_in-one at bytes)));
  cut = s ∙ ap (λ n. spent n c) (sym (bytes_in-one at bytes));
  asked = ap (λ n. further n old.writes) (sym (asks-none c at bytes (sym k ∙ z)));
  unread = refl;
}

pub makes-no-write : (old : Device) (c : BlkCut) → Makes [] [] c c old old
unfolding bytes_in asks_of
makes-no-write old c = record {
  store = none-told [] old.holds
      ∙ ap (λ n. store_after (first_bytes n []) old.holds) (sym (through-none c));
  cut = sym (spent-none c);
  asked = refl;
  unread = refl;
}

module _ (vs ws : List Write) (c0 c1 c2 : BlkCut) (h0 h1 h2 : Device) where
  asked-both : (xs : List Write) → h1.writes ≡ further (asks_of c0 vs) h0.writes → c1 ≡ spent (bytes_in vs) c0
      → h2.writes ≡ further (asks_of c1 xs) h1.writes → h2.writes ≡ further (asks_of c0 (vs ++ xs)) h0.writes
  asked-both xs first cut next =
      next ∙ ap (λ c. further (asks_of c xs) h1.writes) cut
      ∙ ap (further (asks_of (spent (bytes_in vs) c0) xs)) first
      ∙ further-more (asks_of c0 vs) (asks_of (spent (bytes_in vs) c0) xs) h0.writes
      ∙ ap (λ n. further n h0.writes) (sym (asks-append c0 vs xs))

  pub then-makes : Makes vs vs c0 c1 h0 h1 → Makes ws ws c1 c2 h1 h2 → Makes (vs ++ ws) (vs ++ ws) c0 c2 h0 h2
  then-makes p q = record {
    store =
        q.store ∙ ap (λ c. store_after (first_bytes (through c (bytes_in ws)) ws) h1.holds) p.cut
        ∙ ap (store_after (first_bytes (through (spent (bytes_in vs) c0) (bytes_in ws)) ws)) p.store
        ∙ sym (in-turn-told (through c0 (bytes_in vs)) (through (spent (bytes_in vs) c0) (bytes_in ws)) vs ws h0.holds
        (through-within c0 (bytes_in vs)) (all-or-none c0 (bytes_in vs) (bytes_in ws)))
        ∙ ap (λ n. store_after (first_bytes n (vs ++ ws)) h0.holds)
        (sym (through-more c0 (bytes_in vs) (bytes_in ws)) ∙ ap (through c0) (sym (bytes_in-append vs ws)));
    cut = q.cut ∙ ap (spent (bytes_in ws)) p.cut ∙ sym (spent-more c0 (bytes_in vs) (bytes_in ws))
        ∙ ap (λ n. spent n c0) (sym (bytes_in-append vs ws));
    asked = asked-both ws p.asked p.cut q.asked;
    unread = q.unread ∙ p.unread;
  }

  both-through : (n : ℕ) → through c0 (bytes_in vs + n)
      ≡ through c0 (bytes_in vs) + through (spent (bytes_in vs) c0) n
  both-through n = through-more c0 (bytes_in vs) n

  pub then-fails : Makes vs vs c0 c1 h0 h1 → FailsWithin ws ws c1 c2 h1 h2
      → FailsWithin (vs ++ ws) (vs ++ ws) c0 c2 h0 h2
  then-fails p q =
      let few : q.kept ≤ through (spent (bytes_in vs) c0) q.tried =
      subst (λ c. q.kept ≤ through c q.tried) p.cut q.most in
      let more : through (spent (bytes_in vs) c0) (bytes_in q.made) ≤ q.kept =
      subst (λ c. through c (bytes_in q.made) ≤ q.kept) p.cut q.least in
      let some : through (spent (bytes_in vs) c0) (bytes_in q.made) < through (spent (bytes_in vs) c0) q.tried =
      subst (λ c. through c (bytes_in q.made) < through c q.tried) p.cut q.some in
      let made : through c0 (bytes_in (vs ++ q.made)) ≡ through c0 (bytes_in vs)
      + through (spent (bytes_in vs) c0) (bytes_in q.made) =
      ap (through c0) (bytes_in-append vs q.made) ∙ both-through (bytes_in q.made) in
      let whole : (through c0 (bytes_in vs) ≡ bytes_in vs) ⊎ (q.kept ≡ 0) =
      elim (all-or-none c0 (bytes_in vs) q.tried) [ inl e ↦ inl e | inr e ↦ inr (omega arith) ] in
      record {
        made = vs ++ q.made;
        failed = q.failed;
        others = q.others;
        tried = bytes_in vs + q.tried;
        kept = through c0 (bytes_in vs) + q.kept;
        parts = ap (λ (us : List Write). vs ++ us) q.parts ∙ sym (append_assoc vs q.made (q.failed ∷ q.others));
        within = omega (arith, bytes_in-append vs q.made, q.within);
        some = omega (arith, made, some, both-through q.tried);
        least = omega (arith, made, more);
        most = omega (arith, few, both-through q.tried);
        store = q.store ∙ ap (store_after (first_bytes q.kept ws)) p.store
            ∙ sym (in-turn-told (through c0 (bytes_in vs)) q.kept vs ws h0.holds (through-within c0 (bytes_in vs))
            whole);
        cut = q.cut ∙ ap (spent q.tried) p.cut ∙ sym (spent-more c0 (bytes_in vs) q.tried);
        asked = asked-both (q.made ++ q.failed ∷ []) p.asked p.cut q.asked
            ∙ ap (λ (us : List Write). further (asks_of c0 us) h0.writes)
            (sym (append_assoc vs q.made (q.failed ∷ [])));
        unread = q.unread ∙ p.unread;
      }

  pub fails-before : FailsWithin vs vs c0 c1 h0 h1 → FailsWithin (vs ++ ws) (vs ++ ws) c0 c1 h0 h1
  fails-before p = record {
    made = p.made;
    failed = p.failed;
    others = p.others ++ ws;
    tried = p.tried;
    kept = p.kept;
    parts = ap (λ (us : List Write). us ++ ws) p.parts ∙ append_assoc p.made (p.failed ∷ p.others) ws;
    within = p.within;
    some = p.some;
    least = p.least;
    most = p.most;
    store = p.store ∙ none-told ws (store_after (first_bytes p.kept vs) h0.holds)
        ∙ sym (in-turn-told p.kept 0 vs ws h0.holds (omega (
          arith,
          p.most,
          through-within c0 p.tried,
          tried-within p.made p.others vs p.failed p.tried p.parts p.within,
        ))
        (inr refl)) ∙ ap (λ n. store_after (first_bytes n (vs ++ ws)) h0.holds) (omega arith);
    cut = p.cut;
    asked = p.asked;
    unread = p.unread;
  }

-- a result behind writes that were all made
pub then-ends : {T : Type 0} (r : Result T Failed) (vs ws : List Write) (c0 c1 c2 : BlkCut)
    (h0 h1 h2 : Device) → Makes vs vs c0 c1 h0 h1 → Ends r ws c1 c2 h1 h2 → Ends r (vs ++ ws) c0 c2 h0 h2
then-ends (Ok done) vs ws c0 c1 c2 h0 h1 h2 p q = then-makes vs ws c0 c1 c2 h0 h1 h2 p q
then-ends (Err failed) vs ws c0 c1 c2 h0 h1 h2 p q = then-fails vs ws c0 c1 c2 h0 h1 h2 p q

pub ends-same : {T : Type 0} (r : Result T Failed) (vs ws : List Write) (c0 c1 : BlkCut) (h0 h1 : Device)
    → vs ≡ ws → Ends r vs c0 c1 h0 h1 → Ends r ws c0 c1 h0 h1
ends-same r vs ws c0 c1 h0 h1 e p = subst (λ (us : List Write). Ends r us c0 c1 h0 h1) e p

pub makes-same : (vs ws : List Write) (c0 c1 : BlkCut) (h0 h1 : Device) → vs ≡ ws → Makes vs vs c0 c1 h0 h1
    → Makes ws ws c0 c1 h0 h1
makes-same vs ws c0 c1 h0 h1 e p = subst (λ (us : List Write). Makes us us c0 c1 h0 h1) e p

pub fails-same : (vs ws : List Write) (c0 c1 : BlkCut) (h0 h1 : Device) → vs ≡ ws
    → FailsWithin vs vs c0 c1 h0 h1 → FailsWithin ws ws c0 c1 h0 h1
fails-same vs ws c0 c1 h0 h1 e p = subst (λ (us : List Write). FailsWithin us us c0 c1 h0 h1) e p

pub room-within : (m n : ℕ) (store : Option (List ℕ)) → m ≤ n → HasRoom n store → HasRoom m store
room-within m n None h p = record { room = tt }
room-within m n (Some xs) h p = record { room = omega (arith, p.room) }

-- ---- pieces one behind the other

pub pieces-fail : (at : ℕ) (piece : List ℕ) (pieces : List (List ℕ)) (c0 c1 : BlkCut) (h0 h1 : Device)
    → FailsWithin (one_write at piece) (one_write at piece) c0 c1 h0 h1
    → FailsWithin (in_pieces at (piece ∷ pieces)) (in_pieces at (piece ∷ pieces)) c0 c1 h0 h1
unfolding in_pieces
pieces-fail at piece pieces c0 c1 h0 h1 p =
    fails-before (one_write at piece) (in_pieces (at + length piece) pieces) c0 c1 c1 h0 h1 h1 p

pub pieces-then : {T : Type 0} (r : Result T Failed) (at from : ℕ) (piece : List ℕ) (pieces : List (List ℕ))
    (c0 c1 c2 : BlkCut) (h0 h1 h2 : Device) → from ≡ at + length piece
    → Makes (one_write at piece) (one_write at piece) c0 c1 h0 h1 → Ends r (in_pieces from pieces) c1 c2 h1 h2
    → Ends r (in_pieces at (piece ∷ pieces)) c0 c2 h0 h2
unfolding in_pieces
pieces-then r at from piece pieces c0 c1 c2 h0 h1 h2 e p q =
    then-ends r (one_write at piece) (in_pieces (at + length piece) pieces) c0 c1 c2 h0 h1 h2 p
    (subst (λ n. Ends r (in_pieces n pieces) c1 c2 h1 h2) e q)

-- ---- zeros, so many at once

abbrev zeros : ℕ → List ℕ
zeros n = replicate n 0

-- the pieces of zeros up to here were made; those from here on are left
pub record ZerosMade (count from at end : ℕ) (c0 c1 : BlkCut) (h0 h1 : Device) : Type 0 where
  pub done : List Write
  pub parts : done ++ in_pieces at (zeros_by count (end - at)) ≡ in_pieces from (zeros_by count (end - from))
  pub made : Makes done done c0 c1 h0 h1

pub zeros-begin : (count from end : ℕ) (c : BlkCut) (h : Device) → ZerosMade count from from end c c h h
zeros-begin count from end c h = record { done = []; parts = refl; made = makes-no-write h c }

pub zeros-end : (count from at end : ℕ) (c0 c1 : BlkCut) (h0 h1 : Device) → 0 < count → end ≤ at
    → ZerosMade count from at end c0 c1 h0 h1
    → Makes (in_pieces from (zeros_by count (end - from))) (in_pieces from (zeros_by count (end - from))) c0 c1 h0 h1
unfolding in_pieces
zeros-end count from at end c0 c1 h0 h1 some all m =
    let none : zeros_by count (end - at) ≡ [] = ap (zeros_by count) (omega arith) ∙ no-zeros count some in
    makes-same m.done _ c0 c1 h0 h1 (sym (append-nil m.done)
    ∙ ap (λ (ps : List (List ℕ)). m.done ++ in_pieces at ps) (sym none) ∙ m.parts) m.made

module _ (count from at end n : ℕ) (c0 c1 c2 : BlkCut) (h0 h1 h2 : Device) (some : 0 < count) (more : at < end)
    (is : n ≡ min count (end - at)) (m : ZerosMade count from at end c0 c1 h0 h1) where
  next-is : in_pieces at (zeros_by count (end - at))
      ≡ one_write at (zeros n) ++ in_pieces (at + n) (zeros_by count (end - (at + n)))
  unfolding in_pieces
  next-is =
      let same : min count (end - at) ≡ n = sym is in
      let left : end - at - n ≡ end - (at + n) = omega arith in
      let next : zeros_by count (end - at) ≡ zeros n ∷ zeros_by count (end - (at + n)) =
      next-zeros count (end - at) some (omega arith)
      ∙ ap (λ k. zeros k ∷ zeros_by count (end - at - k)) same
      ∙ ap (λ k. zeros n ∷ zeros_by count k) left in
      ap (in_pieces at) next ∙ ap (λ k. one_write at (zeros n) ++ in_pieces (at + k) (zeros_by count (end - (at + n))))
      (length-replicate {A = ℕ} n 0)

  parts-next : (m.done ++ one_write at (zeros n)) ++ in_pieces (at + n) (zeros_by count (end - (at + n)))
      ≡ in_pieces from (zeros_by count (end - from))
  parts-next = append_assoc m.done (one_write at (zeros n)) (in_pieces (at + n) (zeros_by count (end - (at + n))))
      ∙ ap (λ (ws : List Write). m.done ++ ws) (sym next-is) ∙ m.parts

  pub zeros-more : (next : ℕ) → next ≡ at + n → Makes (one_write at (zeros n)) (one_write at (zeros n)) c1 c2 h1 h2
      → ZerosMade count from next end c0 c2 h0 h2
  zeros-more next e q = record {
    done = m.done ++ one_write at (zeros n);
    parts = ap (λ k. (m.done ++ one_write at (zeros n)) ++ in_pieces k (zeros_by count (end - k))) e ∙ parts-next;
    made = then-makes m.done (one_write at (zeros n)) c0 c1 c2 h0 h1 h2 m.made q;
  }

  pub zeros-fail : FailsWithin (one_write at (zeros n)) (one_write at (zeros n)) c1 c2 h1 h2
      → FailsWithin (in_pieces from (zeros_by count (end - from))) (in_pieces from (zeros_by count (end - from)))
      c0 c2 h0 h2
  zeros-fail q =
      fails-same _ _ c0 c2 h0 h2 parts-next
      (fails-before (m.done ++ one_write at (zeros n)) (in_pieces (at + n) (zeros_by count (end - (at + n))))
      c0 c2 c2 h0 h2 h2
      (then-fails m.done (one_write at (zeros n)) c0 c1 c2 h0 h1 h2 m.made q))
