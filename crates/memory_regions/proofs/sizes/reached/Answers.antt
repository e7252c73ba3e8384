-- The powers that are added are those that the marked pages and the ends reach. For `reached`.
use Rattle.std.proofs.Common.{◌≡◌, ◌∙◌, ℕ, List, ◌++◌, ap, length}
use Rattle.std.specs.Prelude.{filter, nat_le, ◌&&◌}
use Rattle.memory_spec.specs.Pages.{marked}
use Rattle.memory_spec.specs.Rings.{ends}
use Rattle.memory_spec.specs.Sizes.{is_reached, powers}
use Rattle.memory_regions.proofs.FromFront.{from_front}
use Rattle.memory_regions.proofs.sizes.reached.Goals as goal

abbrev reached_of : List ℕ → List ℕ → List ℕ
reached_of bytes pages = filter (λ n. nat_le n (length bytes) && is_reached pages (ends bytes) n) powers

pub returns : goal.returns
unfolding powers
returns c =
    let bytes = c.args.bytes.now in
    let pages : c.deref.result.now ≡ marked bytes =
    c.deref.ensures.value ∙ rw c.new-pages.ensures.items at c.in_ok-add_marked.ensures ∙ from_front (marked bytes) in
    c.in_ok-add_reached.ensures
    ∙ ap (λ xs. xs ++ reached_of bytes c.deref.result.now) c.new-list.ensures.items
    ∙ ap (reached_of bytes) pages
