-- A listed name has a zone inside the store that is large enough for a header. For `zone_named`.
use Rattle.std.proofs.Common.{◌≡◌, ◌∙◌, sym, ap, true, arith, subst, is_some, inl, inr}
use Rattle.std.specs.List.{All}
use Rattle.blk_spec.specs.declared.BlkName.{BlkName}
use Rattle.blk_spec.specs.declared.BlkName.TheVariants.{Dump}
use Rattle.blk_spec.specs.declared.BlkZone.{BlkZone}
use Rattle.blk_spec.specs.States.{BlkState, is_listed}
use Rattle.zone_blk.specs.Loading.{IsIn}
use Rattle.blk_laws.proofs.Listings.{listed-console, listed-pmsg, some-not-none}
use Rattle.zone_blk.proofs.Contents.{dump-inside}
use Rattle.zone_blk.proofs.blk.Blk.zone_named.Goals as goal

pub dump_zone-requires-clause-index : goal.dump_zone-requires-clause-index
dump_zone-requires-clause-index c =
    let b = c.args.self.now in
    let listed : is_listed b (Dump c.in-Dump.index c.in-Dump.packed) ≡ true =
    ap (λ (n : BlkName). is_listed b n) (sym c.in-Dump.is) ∙ c.requires.listed in
    let inside : All (IsIn b.layout) b.dumps = subst (λ (x : BlkState). All (IsIn x.layout) x.dumps)
    c.self.view_is c.self.invariant.dumps in
    let same : c.self.inside.layout.dumps ≡ b.layout.dumps = ap (λ (x : BlkState). x.layout.dumps) c.self.view_is in
    omega (arith, dump-inside b c.in-Dump.index c.in-Dump.packed inside listed)

pub returns-in-Console-clause-sized : goal.returns-in-Console-clause-sized
returns-in-Console-clause-sized c =
    let b = c.args.self.now in
    let saved : is_some c.self.inside.console.saved ≡ true =
    ap (λ (x : BlkState). is_some x.console.saved) c.self.view_is ∙ sym (listed-console b)
    ∙ ap (λ (n : BlkName). is_listed b n) (sym c.in-Console.is) ∙ c.requires.listed in
    let size : c.ring_zone.result.size ≡ c.self.inside.layout.console =
    ap (λ (z : BlkZone). z.size) c.ring_zone.ensures.zone in
    elim c.ring_zone.ensures.valid.sized [
      | inl none ↦ absurd (some-not-none c.self.inside.console.saved saved
          (c.self.invariant.no_console (sym size ∙ none)))
      | inr some ↦ omega arith
    ]

pub returns-in-Pmsg-clause-sized : goal.returns-in-Pmsg-clause-sized
returns-in-Pmsg-clause-sized c =
    let b = c.args.self.now in
    let saved : is_some c.self.inside.pmsg.saved ≡ true =
    ap (λ (x : BlkState). is_some x.pmsg.saved) c.self.view_is ∙ sym (listed-pmsg b)
    ∙ ap (λ (n : BlkName). is_listed b n) (sym c.in-Pmsg.is) ∙ c.requires.listed in
    let size : c.ring_zone-in-Pmsg.result.size ≡ c.self.inside.layout.pmsg =
    ap (λ (z : BlkZone). z.size) c.ring_zone-in-Pmsg.ensures.zone in
    elim c.ring_zone-in-Pmsg.ensures.valid.sized [
      | inl none ↦ absurd (some-not-none c.self.inside.pmsg.saved saved (c.self.invariant.no_pmsg (sym size ∙ none)))
      | inr some ↦ omega arith
    ]
