-- Saved rings and listed dumps, by the tests of their headers
use Rattle.std.proofs.Common.{◌≡◌, ◌≢◌, get_or, eq-eqb, ℕ, zero, suc, ◌+◌, ◌-◌, ◌<◌, ◌≤◌, ◌==◌, max, Bool, true, false}
use Rattle.std.proofs.Common.{◌&&◌, if◌then◌else◌, nat_lt, List, [], ◌∷◌, ◌++◌, length, take, drop, Option, Some, None}
use Rattle.std.proofs.Common.{IfSome, option_to_list, refl, sym, ap, ◌∙◌, arith, append_assoc, subst}
use Rattle.std.specs.List.{fold, flat_map, range_with_len, All}
use Rattle.std.proofs.lemmas.List.{take-take, append-nil, nil_from_length, drop-take, at_drop_more, at_drop_all}
use Rattle.std.proofs.lemmas.List.Elements.{All-push}
use Rattle.std.proofs.lemmas.Bool.{and_parts, leb-true, cond-true, cond-false}
use Rattle.std.proofs.lemmas.Bool.Decides.{nat_tests}
use Rattle.zone_spec.specs.declared.Words.{Words}
use Rattle.blk_spec.specs.declared.BlkZone.{BlkZone}
use Rattle.blk_spec.specs.declared.BlkLayout.{BlkLayout}
use Rattle.blk_spec.specs.Layout.{dump_zone}
use Rattle.blk_spec.specs.Reading.{BlkDump, zone_bytes, header_words, is_valid, is_dump, ring_log, saved_ring}
use Rattle.blk_spec.specs.Reading.{dump_seen, listed_dump, dump_listed, dumps_listed, greatest_counter}
use Rattle.zone_blk.specs.Loading.{IsIn}

-- a zone of no byte has no signature
pub no-zone : (z : BlkZone) (bytes : List ℕ) → 0 < z.sig → length bytes ≡ 0 → None ≡ saved_ring z bytes
unfolding saved_ring
no-zone z bytes some none =
    let nil : bytes ≡ [] = nil_from_length bytes none in
    let unsigned : (0 == z.sig) ≡ false = grind (arith, nat_tests) in
    rw (nil, unsigned) refl

pub no-log : (z : BlkZone) (bytes : List ℕ) (words : Words) → words ≡ header_words bytes
    → (is_valid z words && nat_lt 0 words.size) ≡ false → None ≡ saved_ring z bytes
unfolding saved_ring
no-log z bytes words e h = rw e at (sym (cond-false (is_valid z words && nat_lt 0 words.size)
    (Some (ring_log words (drop 12 bytes))) None h))

-- a ring's start lies within its length
pub start-within : (z : BlkZone) (words : Words) → (is_valid z words && nat_lt 0 words.size) ≡ true
    → words.start ≤ words.size
start-within z words h =
    let valid = (and_parts (is_valid z words) (nat_lt 0 words.size) h).0 in
    leb-true words.start words.size (and_parts _ _ valid).1

pub some-log : (z : BlkZone) (bytes back log : List ℕ) (words : Words) → words ≡ header_words bytes
    → back ≡ drop 12 bytes → (is_valid z words && nat_lt 0 words.size) ≡ true
    → log ≡ drop words.start (take words.size back) ++ take words.start (take words.size back)
    → Some log ≡ saved_ring z bytes
unfolding saved_ring
some-log z bytes back log words e d h l =
    ap Some (l ∙ ap (λ (xs : List ℕ). drop words.start (take words.size back) ++ xs)
    (take-take words.start words.size back (start-within z words h)) ∙ ap (ring_log words) d)
    ∙ sym (cond-true (is_valid z words && nat_lt 0 words.size) (Some (ring_log words (drop 12 bytes))) None h)
    ∙ ap (λ (w : Words). if is_valid z w && nat_lt 0 w.size then Some (ring_log w (drop 12 bytes)) else None) e

pub no-dump : (index : ℕ) (z : BlkZone) (bytes back : List ℕ) (words : Words) → words ≡ header_words bytes
    → back ≡ drop 12 bytes → (is_valid z words && is_dump words back) ≡ false → None ≡ listed_dump index z bytes
unfolding listed_dump
no-dump index z bytes back words e d h =
    sym (cond-false (is_valid z words && is_dump words back) (Some (dump_seen index words back)) None h)
    ∙ ap (λ (xs : List ℕ). if is_valid z words && is_dump words xs then Some (dump_seen index words xs) else None) d
    ∙ ap (λ (w : Words). if is_valid z w && is_dump w (drop 12 bytes) then Some (dump_seen index w (drop 12 bytes))
    else None) e

pub some-dump : (index : ℕ) (z : BlkZone) (bytes back : List ℕ) (words : Words) (dump : BlkDump)
    → words ≡ header_words bytes → back ≡ drop 12 bytes → (is_valid z words && is_dump words back) ≡ true
    → dump ≡ dump_seen index words back → Some dump ≡ listed_dump index z bytes
unfolding listed_dump
some-dump index z bytes back words dump e d h s =
    ap Some s ∙ sym (cond-true (is_valid z words && is_dump words back) (Some (dump_seen index words back)) None h)
    ∙ ap (λ (xs : List ℕ). if is_valid z words && is_dump words xs then Some (dump_seen index words xs) else None) d
    ∙ ap (λ (w : Words). if is_valid z w && is_dump w (drop 12 bytes) then Some (dump_seen index w (drop 12 bytes))
    else None) e

-- a listed dump has its zone's number
numbered : (b : Bool) (index : ℕ) (d : BlkDump) → d.index ≡ index
    → IfSome (if b then Some d else None) (λ (e : BlkDump). e.index ≡ index)
numbered true index d h = h
numbered false index d h = tt

pub listed-number : (index : ℕ) (z : BlkZone) (bytes : List ℕ)
    → IfSome (listed_dump index z bytes) (λ (d : BlkDump). d.index ≡ index)
unfolding listed_dump
listed-number index z bytes = numbered (is_valid z (header_words bytes) && is_dump (header_words bytes)
    (drop 12 bytes)) index (dump_seen index (header_words bytes) (drop 12 bytes)) refl

-- the dumps of one zone more
flat-more : {X : Type 0} (f : ℕ → List X) (a n : ℕ) → flat_map f (range_with_len a (suc n))
    ≡ flat_map f (range_with_len a n) ++ f (a + n)
flat-more f a zero = append-nil (f a) ∙ ap f (omega arith)
flat-more f a (suc n) = ap (λ xs. f a ++ xs) (flat-more f (a + 1) n
    ∙ ap (λ k. flat_map f (range_with_len (a + 1) n) ++ f k) (omega arith))
    ∙ sym (append_assoc (f a) (flat_map f (range_with_len (a + 1) n)) (f (a + suc n)))

abbrev pub listed-below : BlkLayout → List ℕ → ℕ → List BlkDump
listed-below l store n = flat_map (λ index. option_to_list (dump_listed l store index)) (range_with_len 0 n)

pub listed-more : (l : BlkLayout) (store : List ℕ) (n : ℕ)
    → listed-below l store (n + 1) ≡ listed-below l store n ++ option_to_list (dump_listed l store n)
listed-more l store n =
    let next : n + 1 ≡ suc n = omega arith in
    let at : 0 + n ≡ n = omega arith in
    ap (listed-below l store) next ∙ flat-more (λ index. option_to_list (dump_listed l store index)) 0 n
    ∙ ap (λ k. listed-below l store n ++ option_to_list (dump_listed l store k)) at

pub told-more : (l : BlkLayout) (holds : Option (List ℕ)) (n : ℕ) (dumps more : List BlkDump) (dump : Option BlkDump)
    → IfSome holds (λ bs. dumps ≡ listed-below l bs n)
    → IfSome holds (λ bs. dump ≡ dump_listed l bs n) → more ≡ dumps ++ option_to_list dump
    → IfSome holds (λ bs. more ≡ listed-below l bs (n + 1))
told-more l None n dumps more dump h k e = tt
told-more l (Some store) n dumps more dump h k e = e ∙ ap (λ (xs : List BlkDump). xs ++ option_to_list dump) h
    ∙ ap (λ (d : Option BlkDump). listed-below l store n ++ option_to_list d) k ∙ sym (listed-more l store n)

pub dump-told : (l : BlkLayout) (n : ℕ) (z : BlkZone) (now before : Option (List ℕ)) (dump : Option BlkDump)
    → z ≡ dump_zone l n → now ≡ before → IfSome now (λ bs. dump ≡ listed_dump n z (zone_bytes bs z))
    → IfSome before (λ bs. dump ≡ dump_listed l bs n)
dump-told l n z now before dump e same h =
    subst (λ (holds : Option (List ℕ)). IfSome holds (λ bs. dump ≡ dump_listed l bs n)) same
    (subst (λ (y : BlkZone). IfSome now (λ bs. dump ≡ listed_dump n y (zone_bytes bs y))) e h)

pub told-all : (l : BlkLayout) (holds : Option (List ℕ)) (n : ℕ) (dumps : List BlkDump) → n ≡ l.dumps
    → IfSome holds (λ bs. dumps ≡ listed-below l bs n) → IfSome holds (λ bs. dumps ≡ dumps_listed l bs)
unfolding dumps_listed
told-all l None n dumps e h = tt
told-all l (Some store) n dumps e h = h ∙ ap (listed-below l store) e

pub inside-more : (l : BlkLayout) (n : ℕ) (dumps more : List BlkDump) (dump : Option BlkDump) → n < l.dumps
    → All (IsIn l) dumps → IfSome dump (λ (d : BlkDump). d.index ≡ n)
    → more ≡ dumps ++ option_to_list dump → All (IsIn l) more
inside-more l n dumps more None h a i e = subst (All (IsIn l)) (sym (append-nil dumps) ∙ sym e) a
inside-more l n dumps more (Some d) h a i e = let within : IsIn l d = omega arith in
    subst (All (IsIn l)) (sym e) (All-push (IsIn l) dumps d a within)

pub dump-body : (index : ℕ) (z : BlkZone) (words : Words) (back : List ℕ)
    → (is_valid z words && is_dump words back) ≡ true → take (words.size - 40) (drop 40 back)
    ≡ drop 40 (take words.size back)
dump-body index z words back h =
    let tests = and_parts _ _ (and_parts _ _ (and_parts _ _
    (and_parts (is_valid z words) (is_dump words back) h).1).0).0 in
    let long : 40 ≤ words.size = leb-true 40 words.size tests.0 in
    let whole : 40 + (words.size - 40) ≡ words.size = omega arith in
    sym (ap (λ n. drop 40 (take n back)) (sym whole) ∙ drop-take 40 (words.size - 40) back)

-- the greatest counter, from one on
unfoldable pub greatest-from : ℕ → ℕ → List BlkDump → ℕ
greatest-from reason most dumps = fold (λ m (d : BlkDump). if d.reason == reason then max m d.counter else m) most dumps

pub greatest-begin : (reason : ℕ) (dumps : List BlkDump) → greatest-from reason 0 dumps ≡ greatest_counter reason dumps
unfolding greatest-from greatest_counter
greatest-begin reason dumps = refl

pub greatest-nil : (reason most : ℕ) → greatest-from reason most [] ≡ most
unfolding greatest-from
greatest-nil reason most = refl

pub greatest-cons : (reason most : ℕ) (d : BlkDump) (dumps : List BlkDump)
    → greatest-from reason most (d ∷ dumps) ≡ greatest-from reason
    (if d.reason == reason then max most d.counter else most) dumps
unfolding greatest-from
greatest-cons reason most d dumps = refl

greatest-step : (reason most i : ℕ) (d : BlkDump) (dumps : List BlkDump) → i < length dumps → d ≡ get_or dumps i d
    → greatest-from reason most (drop i dumps) ≡ greatest-from reason
    (if d.reason == reason then max most d.counter else most) (drop (i + 1) dumps)
greatest-step reason most i d dumps h e =
    at_drop_more (greatest-from reason most) dumps i d h
    ∙ ap (λ (x : BlkDump). greatest-from reason most (x ∷ drop (i + 1) dumps)) (sym e)
    ∙ greatest-cons reason most d (drop (i + 1) dumps)

pub greatest-taken : (reason most new i all : ℕ) (d : BlkDump) (dumps : List BlkDump) → i < length dumps
    → d ≡ get_or dumps i d → d.reason ≡ reason → new ≡ max most d.counter
    → greatest-from reason most (drop i dumps) ≡ all → greatest-from reason new (drop (i + 1) dumps) ≡ all
greatest-taken reason most new i all d dumps h e r n p =
    ap (λ k. greatest-from reason k (drop (i + 1) dumps))
    (n ∙ sym (cond-true (d.reason == reason) (max most d.counter) most (eq-eqb d.reason reason r)))
    ∙ sym (greatest-step reason most i d dumps h e) ∙ p

pub greatest-passed : (reason most new i all : ℕ) (d : BlkDump) (dumps : List BlkDump) → i < length dumps
    → d ≡ get_or dumps i d → d.reason ≢ reason → new ≡ most
    → greatest-from reason most (drop i dumps) ≡ all → greatest-from reason new (drop (i + 1) dumps) ≡ all
greatest-passed reason most new i all d dumps h e r n p =
    let other : (d.reason == reason) ≡ false = grind (arith, nat_tests) in
    ap (λ k. greatest-from reason k (drop (i + 1) dumps))
    (n ∙ sym (cond-false (d.reason == reason) (max most d.counter) most other))
    ∙ sym (greatest-step reason most i d dumps h e) ∙ p

pub greatest-end : (reason most i all : ℕ) (dumps : List BlkDump) → length dumps ≤ i
    → greatest-from reason most (drop i dumps) ≡ all → most ≡ all
greatest-end reason most i all dumps h p = sym (at_drop_all (greatest-from reason most) dumps i h
    ∙ greatest-nil reason most) ∙ p
