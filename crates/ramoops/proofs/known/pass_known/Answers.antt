-- With all zones listed there is one entry for each that was passed. For `pass_known`.
use Rattle.std.proofs.Common.{◌≡◌, ℕ, List, length, sym, ap, ◌∙◌, subst}
use Rattle.std.proofs.lemmas.List.{with_items_is}
use Rattle.std_alloc.specs.Vec.{with_items}
use Rattle.ramoops.specs.declared.known.KnownZone.{KnownZone}
use Rattle.ramoops.specs.OffSeen.{known_all}
use Rattle.ramoops.specs.Parted.{IsParted}
use Rattle.ramoops.proofs.KnownZones.{all_len}
use Rattle.ramoops.proofs.known.pass_known.Goals as goal
use Rattle.ramoops.proofs.known.pass_known.Goals.{After-deref_mut}

-- each zone is listed
listed : (c : After-deref_mut) → c.deref_mut.result.now
    ≡ known_all (length c.args.held.items) c.args.known.now.items
listed c = c.deref_mut.ensures.value ∙ c.list_all.ensures
    ∙ ap (λ (n : ℕ). known_all n c.args.known.now.items) (c.len.ensures ∙ c.args.held.ok.0)

len : (c : After-deref_mut) → length c.deref_mut.result.now ≡ length c.args.held.items
len c = ap length (listed c) ∙ all_len (length c.args.held.items) c.args.known.now.items c.requires.within

pub pass_all-requires-clause-held : goal.pass_all-requires-clause-held
pass_all-requires-clause-held c = sym (len (goal.at.pass_all-requires-clause-held c).After-deref_mut)

pub pass_all-requires-clause-passed : goal.pass_all-requires-clause-passed
pass_all-requires-clause-passed c = c.requires.passed
    ∙ sym (len (goal.at.pass_all-requires-clause-passed c).After-deref_mut)

pub returns : goal.returns
returns c =
    let written : (with_items c.list_all.new.known c.pass_all.new.known).items ≡ c.pass_all.new.known =
    with_items_is c.list_all.new.known c.pass_all.new.known
    (c.pass_all.ensures.len ∙ ap length c.deref_mut.ensures.value ∙ sym c.list_all.new.known.ok.0) in
    subst (λ (new : List KnownZone). IsParted c.args.passed.now c.args.is_whole c.args.held.items
    (known_all (length c.args.held.items) c.args.known.now.items) new) (sym written)
    (subst (λ (old : List KnownZone). IsParted c.args.passed.now c.args.is_whole c.args.held.items old
    c.pass_all.new.known) (listed (goal.at.returns c).After-deref_mut) c.pass_all.ensures)
