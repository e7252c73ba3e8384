-- The whole pages at the front of an image. For `front_len`.
use Rattle.std.proofs.Common.{◌≡◌, ◌∙◌, List, ℕ, Option, Some, None, length, take, min, ◌*◌, ◌/◌, ◌≤◌, ap, sym, arith}
use Rattle.std.specs.Prelude.{IfSome}
use Rattle.std.proofs.lemmas.List.{length-take, take-take}
use Rattle.storage_spec.specs.Found.{most_storage, front_of}

pub front_inside : (holds : Option (List ℕ)) (has m : ℕ) → m ≡ min has 134_217_728
    → IfSome holds (λ image. has ≡ length image) → IfSome holds (λ image. m / 4096 * 4096 ≤ length image)
front_inside None has m least e = tt
front_inside (Some image) has m least e = omega (arith, least, e)

pub front_is : (holds : Option (List ℕ)) (has m : ℕ) → m ≡ min has 134_217_728
    → IfSome holds (λ image. has ≡ length image) → IfSome holds (λ image. take (m / 4096 * 4096) image ≡ front_of image)
front_is None has m least e = tt
front_is (Some image) has m least e =
    let n : length (take most_storage image) ≡ min most_storage (length image) = length-take most_storage image in
    let same : m ≡ length (take most_storage image) = omega (arith, n, least, e) in
    let most : length (take most_storage image) / 4096 * 4096 ≤ most_storage = omega (arith, n) in
    ap (λ (k : ℕ). take (k / 4096 * 4096) image) same
    ∙ sym (take-take (length (take most_storage image) / 4096 * 4096) most_storage image most)
