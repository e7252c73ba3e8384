-- What a test tells of all elements of two lists it tells of all of both end to end. By
-- `Elements`.
use Rattle.std.proofs.Common.{◌≡◌, true}
use Rattle.list_laws.proofs.Elements.{AllByRecursion-append}
use Rattle.list_laws.proofs.all_of_two.Goals as goal

pub returns : goal.returns
returns c = λ p xs ys h k. AllByRecursion-append (λ x. p x ≡ true) xs ys h k
