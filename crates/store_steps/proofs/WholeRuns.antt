-- The words and runs of a whole append are its plain stores, and their number
use Rattle.std.proofs.Common.{◌≡◌, ℕ, ◌+◌, ◌-◌, ◌<◌, ◌%◌, min, List, ◌++◌, length, take, drop, sym, ap, ◌∙◌}
use Rattle.std.proofs.Common.{inl, inr, arith, length-append, length-take, length-drop}
use Rattle.std.proofs.lemmas.Bool.Decides.{leb_tells}
use Rattle.std.proofs.lemmas.List.{take_all, drop_all, take_min, drop-drop}
use Rattle.ring_laws.proofs.StoreCounts.{length-byte_stores}
use Rattle.zone_spec.specs.declared.Zone.{Zone}
use Rattle.zone_spec.specs.Told.{last_items}
use Rattle.zone_spec.specs.Stores.{Store, byte_stores, word_store}
use Rattle.store_steps.specs.PlainAppends.{size_store, plain_size, plain_runs, plain_stores}
use Rattle.store_steps.specs.Whole.{whole_handed, IsWholeInside}
use Rattle.store_steps.specs.declared.plain.Whole.{Whole}
use Rattle.store_steps.proofs.PlainStores.{joined_plain, length-last}

drop_min : (n : ℕ) (xs : List ℕ) → drop (min n (length xs)) xs ≡ drop n xs
drop_min n xs = elim (leb_tells n (length xs)) [
  | inl a ↦ let e : min n (length xs) ≡ n = omega (arith, a.1) in ap (λ k. drop k xs) e
  | inr b ↦ drop_all (min n (length xs)) xs (omega (arith, b.1)) ∙ sym (drop_all n xs (omega (arith, b.1)))
]

-- the two runs that are handed out, of n bytes
pub runs_handed : (z : Zone) (start n from first second : ℕ) (payload : List ℕ) → n ≡ min (length payload) z.cap
    → from ≡ length payload - n → first ≡ min n (z.cap - start) → second ≡ n - first
    → byte_stores (12 + start) (take first (drop from payload))
    ++ byte_stores 12 (take second (drop (from + first) payload)) ≡ plain_runs z start (last_items z.cap payload)
runs_handed z start n from first second payload en ef e1 e2 =
    let bytes : List ℕ = last_items z.cap payload in
    let room : ℕ = z.cap - start in
    let last = length-last z.cap payload in
    let at : from ≡ length payload - z.cap = omega (arith, en, ef) in
    let all : first ≡ min room (length bytes) = omega (arith, e1, en, last) in
    let whole : drop from payload ≡ bytes = ap (λ k. drop k payload) at in
    let front : take first (drop from payload) ≡ take room bytes =
    ap (take first) whole ∙ ap (λ k. take k bytes) all ∙ take_min room bytes in
    let behind : drop (from + first) payload ≡ drop first bytes =
    sym (drop-drop first from payload) ∙ ap (drop first) whole in
    let back : take second (drop (from + first) payload) ≡ drop room bytes =
    ap (take second) behind
    ∙ take_all second (drop first bytes) (omega (arith, length-drop first bytes, e1, e2, en, last))
    ∙ ap (λ k. drop k bytes) all ∙ drop_min room bytes in
    ap (λ xs. byte_stores (12 + start) xs ++ byte_stores 12 (take second (drop (from + first) payload))) front
    ∙ ap (λ xs. byte_stores (12 + start) (take room bytes) ++ byte_stores 12 xs) back

-- behind the words
pub all_handed : (z : Zone) (w : Whole) (start size n : ℕ) (payload : List ℕ) → 0 < length payload → 0 < z.cap
    → n ≡ min (length payload) z.cap → w.byte_order ≡ z.byte_order
    → size_store z.byte_order w.size ≡ plain_size z size n → w.start ≡ (start + n) % z.cap → w.place ≡ 12 + start
    → w.from ≡ length payload - n → w.first ≡ min n (z.cap - start) → w.second ≡ n - w.first
    → whole_handed w payload ≡ plain_stores z start size (last_items z.cap payload)
all_handed z w start size n payload some room en order sized started placed ef e1 e2 =
    let last = length-last z.cap payload in
    let words : List Store = plain_size z size n ++ word_store z.byte_order 4 ((start + n) % z.cap) in
    let runs : List Store = byte_stores w.place (take w.first (drop w.from payload))
    ++ byte_stores 12 (take w.second (drop (w.from + w.first) payload)) in
    ap (λ o. (size_store o w.size ++ word_store o 4 w.start) ++ runs) order
    ∙ ap (λ ss. (ss ++ word_store z.byte_order 4 w.start) ++ runs) sized
    ∙ ap (λ k. (plain_size z size n ++ word_store z.byte_order 4 k) ++ runs) started
    ∙ ap (λ k. words ++ (byte_stores k (take w.first (drop w.from payload))
    ++ byte_stores 12 (take w.second (drop (w.from + w.first) payload)))) placed
    ∙ ap (λ ss. words ++ ss) (runs_handed z start n w.from w.first w.second payload en ef e1 e2)
    ∙ joined_plain z start size n (last_items z.cap payload) (omega (arith, en, last)) (omega (arith, en, some, room))

pub length-handed : (size : ℕ) (w : Whole) (payload : List ℕ) → IsWholeInside size w payload
    → length (whole_handed w payload) ≡ length (size_store w.byte_order w.size) + 1 + w.first + w.second
length-handed size w payload inside =
    let sized : List Store = size_store w.byte_order w.size in
    let word : List Store = word_store w.byte_order 4 w.start in
    let front : List ℕ = take w.first (drop w.from payload) in
    let back : List ℕ = take w.second (drop (w.from + w.first) payload) in
    omega (
      arith,
      inside.bytes,
      length-append (sized ++ word) (byte_stores w.place front ++ byte_stores 12 back),
      length-append sized word,
      length-append (byte_stores w.place front) (byte_stores 12 back),
      length-byte_stores w.place front,
      length-byte_stores 12 back,
      length-take w.first (drop w.from payload),
      length-take w.second (drop (w.from + w.first) payload),
      length-drop w.from payload,
      length-drop (w.from + w.first) payload,
    )
