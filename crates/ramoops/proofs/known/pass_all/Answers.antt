-- From the last zone down, each zone's knowledge becomes what the boot left; in the end all is.
-- For `pass_all`.
use Rattle.std.proofs.Common.{refl, sym, ◌∙◌, arith, inl, inr, true≢false}
use Rattle.std.proofs.lemmas.Bool.{cases_lt}
use Rattle.std.specs.Vec.{vec_len}
use Rattle.ramoops.specs.declared.booting.Passed.{Passed}
use Rattle.ramoops.proofs.ZonesFromLast.{passed_none, passed_next, passed_all}
use Rattle.ramoops.proofs.known.pass_all.Goals as goal

-- what a slice gives outside its length
abbrev no_pass : Passed
no_pass = record {
  left = 0;
  words = record { sig = 0; start = 0; size = 0 };
  settled = record { made = 0; all = 0; erase_at = 0 };
}

pub loop-zone-init : goal.loop-zone-init
loop-zone-init c = passed_none c.args.passed.now c.args.is_whole c.args.held.items c.args.known.now c.requires.passed

pub loop-zone-preserved : goal.loop-zone-preserved
loop-zone-preserved c =
    passed_next c.args.passed.now c.args.is_whole c.args.held.items c.args.known.now c.loop-zone.held.items
    c.pop.new.self.items c.loop-zone.known _ c.len-i.result c.in-Some.zone c.into_told.result
    c.index-known-i.result c.pass.new.self no_pass c.loop-zone.invariant c.requires.passed c.requires.held
    c.in-Some.ensures.items (c.len-i.ensures ∙ c.pop.new.self.ok.0)
    c.index-known-i.is c.into_told.ensures c.pass.ensures refl

pub returns : goal.returns
returns c = passed_all c.args.passed.now c.args.is_whole c.args.held.items c.args.known.now c.loop-zone.held.items
    c.loop-zone.known c.loop-zone.invariant
    (elim (cases_lt 0 (vec_len c.loop-zone.held)) [
      | inl l ↦ absurd (true≢false (sym (c.in_default.ensures.variant.1 l)))
      | inr g ↦ (let e = c.loop-zone.held.ok.0 in omega (arith, g, e))
    ])
