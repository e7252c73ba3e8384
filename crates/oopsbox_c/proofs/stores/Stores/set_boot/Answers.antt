-- `set_boot` leaves the one store of a boot as row 0, inside the zone, and counts it. An empty one
-- leaves no store.
use Rattle.std.proofs.Common.{◌≡◌, ◌<◌, ◌⊎◌, length, refl, arith, ◌∙◌}
use Rattle.std.proofs.lemmas.Grind.{common_steps}
use Rattle.oopsbox_c.specs.Stores.{IsRowInside}
use Rattle.oopsbox_c.specs.declared.stores.StoreRow.{StoreRow}
use Rattle.oopsbox_c.proofs.NextStores.{row_more, all_more, boot_some}
use Rattle.oopsbox_c.proofs.stores.Stores.set_boot.Goals as goal

pub returns-in_default : goal.returns-in_default
returns-in_default c =
    let within : 0 < length c.clear.new.self.stores = grind (arith, common_steps) in record {
      stores = λ line payload.
          row_more c.clear.new.self.stores 0 1 _ line payload refl within ∙ c.set_boot.ensures.stores line payload;
      inside = λ size line payload plain fits. record {
        count = omega arith;
        rows = all_more (λ (row : StoreRow). IsRowInside size row line payload) c.clear.new.self.stores 0 1 _ refl
            within tt (c.set_boot.ensures.inside size line payload
            (boot_some c.args.store.now plain c.in_default.not-Nothing) fits);
      };
      what = record {
        count = omega arith;
        rows = all_more (λ (row : StoreRow). (row.what ≡ 0) ⊎ (row.what ≡ 3)) c.clear.new.self.stores 0 1 _ refl
            within tt c.set_boot.ensures.what;
      };
      last = (
        λ e. absurd (omega (arith, e, c.clear.ensures.is_last)),
        λ e. absurd (c.in_default.not-Nothing e),
      );
      none = λ e. absurd (omega (arith, e, c.clear.ensures.is_last));
      flag = omega (arith, c.clear.ensures.is_last);
    }
