-- After `push` each gathered store, the new one too, lies inside the zone and the lent bytes. The
-- caller in C relies on it.
use Rattle.std.proofs.Common.{◌+◌, ◌<◌, length, refl, arith}
use Rattle.std.proofs.lemmas.Grind.{common_steps}
use Rattle.oopsbox_c.specs.Stores.{IsRowInside}
use Rattle.oopsbox_c.specs.declared.stores.StoreRow.{StoreRow}
use Rattle.oopsbox_c.proofs.NextStores.{all_more, len_some}
use Rattle.oopsbox_c.proofs.stores.Stores.push.Goals as goal

pub returns-clause-inside : goal.returns-clause-inside
returns-clause-inside c = λ size line payload are fits some.
    let within : c.args.self.now.count < length c.args.self.now.stores = grind (arith, common_steps) in record {
      count = omega (arith, c.requires.room);
      rows = all_more (λ (row : StoreRow). IsRowInside size row line payload) c.args.self.now.stores
          c.args.self.now.count (c.args.self.now.count + 1) _ refl within are.rows
          (c.set.ensures.inside size line payload fits (len_some size c.args.store.now line payload fits some));
    }
