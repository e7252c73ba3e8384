-- How long merged entries are
use Rattle.std.proofs.Common.{◌≡◌, ℕ, zero, suc, ◌+◌, ◌*◌, ◌/◌, ◌%◌, true, false, List, [], ◌∷◌, length, take, drop}
use Rattle.std.proofs.Common.{refl, ◌∙◌, arith, length-take, length-drop}
use Rattle.std.specs.Prelude.{fold, sum_by, nat_le, if◌then◌else◌}
use Rattle.std.proofs.lemmas.List.Sums.{sum_by-cons}
use Rattle.std.proofs.lemmas.List.Concat.{length-flat_map}
use Rattle.zone_spec.specs.Ftrace.{groups, entries, entry_time, put_before, merge, merged}

-- the bytes of a list of entries
abbrev pub weight : List (List ℕ) → ℕ
weight es = sum_by (λ (e : List ℕ). length e) es

heavier : (e : List ℕ) (es : List (List ℕ)) → weight (e ∷ es) ≡ length e + weight es
heavier e es = sum_by-cons (λ (x : List ℕ). length x) e es

-- of a head that is put before others nothing is lost
put-weight : (a : List ℕ) (rest : List (List ℕ) → List (List ℕ)) (n : ℕ)
    → ((ys : List (List ℕ)) → weight (rest ys) ≡ n + weight ys) → (later : List (List ℕ))
    → weight (put_before a rest later) ≡ length a + n + weight later
put-weight a rest n keeps [] = heavier a (rest []) ∙ omega (arith, keeps [])
put-weight a rest n keeps (b ∷ bs) = elim (nat_le (entry_time b) (entry_time a)) as
    (λ t. weight (if t then b ∷ put_before a rest bs else a ∷ rest (b ∷ bs)) ≡ length a + n + weight (b ∷ bs)) [
      | true ↦ omega (arith, heavier b (put_before a rest bs), put-weight a rest n keeps bs, heavier b bs)
      | false ↦ omega (arith, heavier a (rest (b ∷ bs)), keeps (b ∷ bs))
    ]

merge-weight : (xs ys : List (List ℕ)) → weight (merge xs ys) ≡ weight xs + weight ys
merge-weight [] ys = omega arith
merge-weight (a ∷ xs) ys = put-weight a (merge xs) (weight xs) (merge-weight xs) ys ∙ omega (arith, heavier a xs)

groups-weight : (n : ℕ) (xs : List ℕ) → length xs ≡ 24 * n → weight (groups n xs) ≡ 24 * n
groups-weight zero xs e = refl
groups-weight (suc n) xs e =
    let rest : length (drop 24 xs) ≡ 24 * n = omega (arith, length-drop 24 xs, e) in
    omega (arith, heavier (take 24 xs) (groups n (drop 24 xs)), groups-weight n (drop 24 xs) rest, length-take 24 xs, e)

-- the bytes of a log's whole entries
abbrev pub whole : List ℕ → ℕ
whole log = length log / 24 * 24

entries-weight : (log : List ℕ) → weight (entries log) ≡ whole log
entries-weight log =
    let even : length (drop (length log % 24) log) ≡ 24 * (length log / 24) =
    omega (arith, length-drop (length log % 24) log) in
    omega (arith, groups-weight (length log / 24) (drop (length log % 24) log) even)

fold-weight : (all : List (List ℕ)) (logs : List (List ℕ))
    → weight (fold (λ (es : List (List ℕ)) (log : List ℕ). merge es (entries log)) all logs)
    ≡ weight all + sum_by whole logs
fold-weight all [] = omega arith
fold-weight all (log ∷ logs) =
    omega (
      arith,
      fold-weight (merge all (entries log)) logs,
      merge-weight all (entries log),
      entries-weight log,
      sum_by-cons whole log logs,
    )

pub merged-length : (logs : List (List ℕ)) → length (merged logs) ≡ sum_by whole logs
merged-length logs =
    length-flat_map (λ (e : List ℕ). e) (fold (λ (es : List (List ℕ)) (log : List ℕ). merge es (entries log)) [] logs)
    ∙ fold-weight [] logs ∙ omega arith
