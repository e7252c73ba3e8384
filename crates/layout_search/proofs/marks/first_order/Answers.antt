-- The first of the places that are left is a mark of either order, or the first mark is behind it. For `first_order`.
use Rattle.std.proofs.Common.{◌≡◌, ◌∙◌, ℕ, suc, ◌+◌, ◌-◌, ◌*◌, ◌/◌, ◌<◌, ◌≤◌, Bool, true, false, if◌then◌else◌, List, length, sym, ap}
use Rattle.std.proofs.Common.{arith}
use Rattle.std.specs.List.{range_with_len}
use Rattle.zone_spec.specs.declared.params.ByteOrder.{ByteOrder}
use Rattle.zone_spec.specs.declared.params.ByteOrder.TheVariants.{Little, Big}
use Rattle.layout_spec.specs.Marks.{byte_order_in, first_order, is_mark_in}
use Rattle.layout_search.proofs.marks.first_order.Goals as goal

abbrev choice : Bool → Bool → ByteOrder → ByteOrder
choice little big rest = if little then Little else if big then Big else rest

-- one place in front of the others
split : (image : List ℕ) (i n : ℕ) → i < n → first_order image (range_with_len i (n - i))
    ≡ choice (is_mark_in Little image (2 * i)) (is_mark_in Big image (2 * i))
    (first_order image (range_with_len (i + 1) (n - (i + 1))))
unfolding first_order
split image i n lt =
    let more : n - i ≡ suc (n - (i + 1)) = omega (arith, lt) in
    ap (λ k. first_order image (range_with_len i k)) more

none_left : (image : List ℕ) (i n : ℕ) → n ≤ i → first_order image (range_with_len i (n - i)) ≡ Little
unfolding first_order
none_left image i n le =
    let none : n - i ≡ 0 = omega (arith, le) in ap (λ k. first_order image (range_with_len i k)) none

little : (a b : Bool) (rest : ByteOrder) → a ≡ true → choice a b rest ≡ Little
little a b rest e = ap (λ (x : Bool). choice x b rest) e

big : (a b : Bool) (rest : ByteOrder) → a ≡ false → b ≡ true → choice a b rest ≡ Big
big a b rest e f = ap (λ (x : Bool). choice x b rest) e ∙ ap (λ (x : Bool). choice false x rest) f

neither : (a b : Bool) (rest : ByteOrder) → a ≡ false → b ≡ false → choice a b rest ≡ rest
neither a b rest e f = ap (λ (x : Bool). choice x b rest) e ∙ ap (λ (x : Bool). choice false x rest) f

pub loop-i-init : goal.loop-i-init
unfolding byte_order_in
loop-i-init c =
    let n = (length c.args.image.now - 10) / 2 in
    let all : n ≡ n - 0 = omega arith in
    ap (λ k. first_order c.args.image.now (range_with_len 0 k)) all

pub returns-then-is_mark_in : goal.returns-then-is_mark_in
returns-then-is_mark_in c =
    let image = c.args.image.now in
    let i = c.loop-i.i in
    let inside : i < (length image - 10) / 2 = omega (arith, c.loop-i-test.true, c.saturating_sub-i-end.ensures) in
    sym (c.loop-i.invariant ∙ split image i ((length image - 10) / 2) inside
    ∙ little _ (is_mark_in Big image (2 * i)) _ (sym c.is_mark_in.ensures ∙ c.if-is_mark_in.true))

pub returns-then-is_mark_in-2 : goal.returns-then-is_mark_in-2
returns-then-is_mark_in-2 c =
    let image = c.args.image.now in
    let i = c.loop-i.i in
    let inside : i < (length image - 10) / 2 = omega (arith, c.loop-i-test.true, c.saturating_sub-i-end.ensures) in
    sym (c.loop-i.invariant ∙ split image i ((length image - 10) / 2) inside
    ∙ big _ _ _ (sym c.is_mark_in.ensures ∙ c.if-is_mark_in.false)
    (sym c.is_mark_in-in-loop-i.ensures ∙ c.if-is_mark_in-2.true))

pub loop-i-preserved : goal.loop-i-preserved
loop-i-preserved c =
    let image = c.args.image.now in
    let i = c.loop-i.i in
    let inside : i < (length image - 10) / 2 = omega (arith, c.loop-i-test.true, c.saturating_sub-i-end.ensures) in
    c.loop-i.invariant ∙ split image i ((length image - 10) / 2) inside
    ∙ neither _ _ _ (sym c.is_mark_in.ensures ∙ c.if-is_mark_in.false)
    (sym c.is_mark_in-in-loop-i.ensures ∙ c.if-is_mark_in-2.false)

pub returns : goal.returns
returns c =
    let image = c.args.image.now in
    let out : (length image - 10) / 2 ≤ c.loop-i.i =
    omega (arith, c.loop-i-test.false, c.saturating_sub-i-end.ensures) in
    sym (c.loop-i.invariant ∙ none_left image c.loop-i.i ((length image - 10) / 2) out)
