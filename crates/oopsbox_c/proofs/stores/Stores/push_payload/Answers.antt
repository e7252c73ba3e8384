-- After `push_payload` each gathered store, the new one too, lies inside the zone and the lent bytes.
use Rattle.std.proofs.Common.{◌+◌, ◌<◌, length, refl, arith}
use Rattle.std.proofs.lemmas.Grind.{common_steps}
use Rattle.oopsbox_c.specs.Stores.{IsRowInside}
use Rattle.oopsbox_c.specs.declared.stores.StoreRow.{StoreRow}
use Rattle.oopsbox_c.proofs.NextStores.{all_more}
use Rattle.oopsbox_c.proofs.stores.Stores.push_payload.Goals as goal

pub returns-clause-inside : goal.returns-clause-inside
returns-clause-inside c = λ size line payload are some fits ends.
    let within : c.args.self.now.count < length c.args.self.now.stores = grind (arith, common_steps) in record {
      count = omega (arith, c.requires.room);
      rows = all_more (λ (row : StoreRow). IsRowInside size row line payload) c.args.self.now.stores
          c.args.self.now.count (c.args.self.now.count + 1) _ refl within are.rows
          (c.set_payload.ensures.inside size line payload some fits ends);
    }
