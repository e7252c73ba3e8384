-- A piece of a ring's log
use Rattle.std.proofs.Common.{◌≡◌, ℕ, ◌+◌, ◌-◌, ◌<◌, ◌≤◌, min, List, ◌++◌, length, take, drop, sym, ap, ap₂, ◌∙◌, arith}
use Rattle.std.proofs.Common.{inl, inr, length-drop, length-append}
use Rattle.std.specs.List.{range_with_len}
use Rattle.std.proofs.lemmas.List.{map-append}
use Rattle.std.proofs.lemmas.Bool.{cases_lt}
use Rattle.list_laws.proofs.Elements.{take-append}
use Rattle.zone_spec.specs.declared.Zone.{Zone}
use Rattle.zone_spec.specs.declared.Words.{Words}
use Rattle.zone_spec.specs.Reading.{byte_read, log_read, IsRing}
use Rattle.zone_boot.specs.Reads.{bytes_at}
use Rattle.zone_boot.proofs.Rows.{drop-append}
use Rattle.zone_boot.proofs.Blocks.{bytes_at-length, bytes_at-drop, bytes_at-take, bytes_at-none}

module _ (z : Zone) (x : List ℕ) (w : Words) where
  runs : log_read z x w ≡ bytes_at z x w.start (w.size - w.start) ++ bytes_at z x 0 w.start
  unfolding bytes_at
  runs = map-append (λ q. byte_read z x q) (range_with_len w.start (w.size - w.start)) (range_with_len 0 w.start)

  pub log-length : IsRing w z.cap → length (log_read z x w) ≡ w.size
  log-length ring = (let r = ring.0 in omega (
    arith,
    ap length runs,
    length-append (bytes_at z x w.start (w.size - w.start)) (bytes_at z x 0 w.start),
    bytes_at-length z x w.start (w.size - w.start),
    bytes_at-length z x 0 w.start,
    r,
  ))

  -- n bytes of the log, in two runs
  pub log-piece : (from n place first turned : ℕ) → IsRing w z.cap → from < w.size → n ≤ w.size - from
      → place ≡ min (w.start + from) w.size → first ≡ min n (w.size - place)
      → turned ≡ from - (w.size - w.start)
      → bytes_at z x place first ++ bytes_at z x turned (n - first) ≡ take n (drop from (log_read z x w))
  log-piece from n place first turned ring less fits ep ef et =
      let r = ring.0 in
      let k : ℕ = w.size - w.start in
      let a : List ℕ = bytes_at z x w.start k in
      let b : List ℕ = bytes_at z x 0 w.start in
      let la : length a ≡ k = bytes_at-length z x w.start k in
      let d : length (drop from a) ≡ k - from = omega (arith, length-drop from a, la) in
      let whole : take n (drop from (log_read z x w))
      ≡ bytes_at z x (w.start + from) (min n (k - from)) ++ bytes_at z x (0 + (from - k))
      (min (n - (k - from)) (w.start - (from - k))) =
      ap (λ (l : List ℕ). take n (drop from l)) runs ∙ ap (λ (l : List ℕ). take n l) (drop-append from a b)
      ∙ take-append n (drop from a) (drop (from - length a) b)
      ∙ ap₂ (λ (u v : List ℕ). u ++ v)
      (ap (λ (l : List ℕ). take n l) (bytes_at-drop z x from w.start k)
      ∙ bytes_at-take z x n (w.start + from) (k - from))
      (ap₂ (λ (m l : ℕ). take m (drop l b)) (let e : n - length (drop from a) ≡ n - (k - from) = omega (arith, d) in e)
      (let e : from - length a ≡ from - k = omega (arith, la) in e)
      ∙ ap (λ (l : List ℕ). take (n - (k - from)) l) (bytes_at-drop z x (from - k) 0 w.start)
      ∙ bytes_at-take z x (n - (k - from)) (0 + (from - k)) (w.start - (from - k))) in
      let one : first ≡ min n (k - from) = omega (arith, ep, ef, r, less) in
      let two : n - first ≡ min (n - (k - from)) (w.start - (from - k)) = omega (arith, one, r, less, fits) in
      ap₂ (λ (u v : List ℕ). u ++ v) (elim (cases_lt (w.start + from) w.size) [
        | inl front ↦ ap₂ (λ (p m : ℕ). bytes_at z x p m)
            (let e : place ≡ w.start + from = omega (arith, ep, front) in e) one
        | inr behind ↦ bytes_at-none z x place first (omega (arith, ep, ef, behind)) ∙ sym
            (bytes_at-none z x (w.start + from) (min n (k - from)) (omega (arith, r, behind)))
      ])
      (ap₂ (λ (p m : ℕ). bytes_at z x p m) (let e : turned ≡ 0 + (from - k) = omega (arith, et) in e) two)
      ∙ sym whole
