-- The list of each word is its known value alone, or else all values of the family. For
-- `make_lists`.
use Rattle.std.proofs.Common.{◌∙◌, ◌∷◌, [], ℕ, Option, ap}
use Rattle.std.specs.Prelude.{filter, nat_le}
use Rattle.layout_spec.specs.Family.{known_or, powers}
use Rattle.layout_search.proofs.lists.make_lists.Goals as goal

pub returns : goal.returns
returns c = record {
  mems_are = c.in_ok-known_or.ensures ∙ ap (known_or c.args.known.now.mem) (c.deref.ensures.value ∙ c.in_ok-mems.ensures
      ∙ ap (λ n. c.args.len ∷ filter (λ m. nat_le m n) powers) c.saturating_sub.ensures);
  dumps_are = c.in_ok-known_or-2.ensures ∙ ap (known_or c.args.known.now.dump) (c.deref-2.ensures.value ∙ c.in_ok-sizes.ensures);
  consoles_are = c.in_ok-known_or-3.ensures
      ∙ ap (known_or c.args.known.now.console) (c.deref-3.ensures.value ∙ c.in_ok-sizes.ensures);
  ftraces_are = c.in_ok-known_or-4.ensures
      ∙ ap (known_or c.args.known.now.ftrace) (c.deref-4.ensures.value ∙ c.in_ok-sizes.ensures);
  pmsgs_are = c.in_ok-known_or-5.ensures ∙ ap (known_or c.args.known.now.pmsg) (c.deref-5.ensures.value ∙ c.in_ok-sizes.ensures);
  orders_are = c.in_ok-known_or-6.ensures ∙ ap (λ (o : Option ℕ). known_or o (0 ∷ 1 ∷ [])) c.order_number-order.ensures;
  only_order_is = c.in_ok-known_or-7.ensures ∙ ap (λ (o : Option ℕ). known_or o (0 ∷ [])) c.order_number-order.ensures;
  parities_are = c.in_ok-known_or-8.ensures
      ∙ ap (known_or c.args.known.now.parity) (c.deref-6.ensures.value ∙ c.in_ok-parities.ensures);
  cpus_are = c.in_ok-known_or-9.ensures ∙ ap (known_or c.args.known.now.cpus) (c.deref-7.ensures.value ∙ c.in_ok-cpus.ensures);
}
