-- One run of stores more is the call's next in the one span, and what is left of the count goes down. For the
-- loop of `Progress::make_stores`.
use Rattle.std.proofs.Common.{◌≡◌, ℕ, ◌+◌, ◌-◌, List, take, drop, ap, ap₂, ◌∙◌, sym, subst, arith, refl}
use Rattle.prz_region.specs.CutRegion.{stored}
use Rattle.prz_region.proofs.Cuts.{stored-none}
use Rattle.zone_spec.specs.declared.Zone.{Zone}
use Rattle.zone_spec.specs.Told.{Call}
use Rattle.zone_spec.specs.Stores.{Store}
use Rattle.zone_spec.specs.Calls.{call_stores}
use Rattle.rs_encode.specs.Lanes.{IsLent}
use Rattle.prz_write.specs.Made.{HasStored}
use Rattle.prz_write.specs.Seen.{seen}
use Rattle.prz_write.proofs.SpanStores.{made_after, none_yet, more_yet, has_same_count, has_same_len}
use Rattle.prz_write.proofs.progress.Progress.make_stores.Goals as goal

pub stores-init : goal.stores-init
stores-init c =
    let m : ℕ = c.args.self.now.steps.made in
    let none : 0 ≡ m - m = omega arith in
    record {
      held = c.requires.held;
      table = c.requires.table;
      same = record { zone = refl; words = refl; call = refl };
      made = refl;
      stands = λ before stands. stands;
      stores = λ before stands. sym (stored-none c.args.spans.now c.args.i)
          ∙ ap (λ (k : ℕ). stored c.args.spans.now c.args.i (take k (drop m
          (call_stores c.args.self.now.steps.zone (seen c.args.self.now).call before)))) none;
      count = subst (λ (k : ℕ). HasStored c.args.i k c.args.spans.now c.args.spans.now) none
          (none_yet c.args.spans.now c.args.i);
      most = omega arith;
      has = c.requires.has;
      len = refl;
    }

pub stores-preserved : goal.stores-preserved
stores-preserved c =
    let inv = c.stores.invariant in
    let next = c.make_next-left.ensures in
    let m : ℕ = c.args.self.now.steps.made in
    let k : ℕ = c.stores.self.steps.made - m in
    let r : ℕ = c.make_next-left.result in
    let at : c.stores.self.steps.made ≡ m + k = omega (arith, inv.most) in
    let more : k + r ≡ c.make_next-left.new.self.steps.made - m = omega (arith, inv.most, next.made) in
    record {
      held = next.held;
      table = subst (λ (z : Zone). IsLent z.parity c.args.table.now) (sym next.same.zone) inv.table;
      same = record {
        zone = next.same.zone ∙ inv.same.zone;
        words = next.same.words ∙ inv.same.words;
        call = next.same.call ∙ inv.same.call;
      };
      made = omega (arith, next.made, next.most, inv.made);
      stands = λ before stands. next.stands before (inv.stands before stands);
      stores = λ before stands.
          let cs : List Store = call_stores c.args.self.now.steps.zone (seen c.args.self.now).call before in
          made_after c.args.spans.now c.stores.spans c.make_next-left.new.spans c.args.i m k r cs c.requires.has
          (inv.stores before stands)
          (next.stores before (inv.stands before stands)
          ∙ ap₂ (λ (z : Zone) (call : Call). stored c.stores.spans c.args.i
          (take r (drop c.stores.self.steps.made (call_stores z call before)))) inv.same.zone inv.same.call
          ∙ ap (λ (n : ℕ). stored c.stores.spans c.args.i (take r (drop n cs))) at)
          ∙ ap (λ (n : ℕ). stored c.args.spans.now c.args.i (take n (drop m cs))) more;
      count = more_yet c.args.spans.now c.stores.spans c.make_next-left.new.spans c.args.i k r _ c.requires.has inv.count
          next.count more;
      most = omega (arith, inv.most, next.made);
      has = omega (arith, inv.has, has_same_count c.stores.spans c.make_next-left.new.spans c.args.i r next.count);
      len = has_same_len c.stores.spans c.make_next-left.new.spans c.args.i r inv.has next.count ∙ inv.len;
    }
