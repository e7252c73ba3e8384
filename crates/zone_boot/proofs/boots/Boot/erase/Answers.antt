-- Signature, start word and size word are handed out in turn, each the next of what is left; at
-- the end nothing is. For `Boot::erase`.
use Rattle.std.proofs.Common.{◌≤◌, length, refl, ap, ◌∙◌, subst, arith}
use Rattle.zone_spec.specs.Stores.{word_store}
use Rattle.zone_boot.specs.declared.boots.Phase.{Phase}
use Rattle.zone_boot.specs.declared.boots.Phase.TheVariants.{Signature, Start, Size}
use Rattle.zone_boot.specs.Booting.{most_made}
use Rattle.zone_boot.proofs.BootHandOut.{left-in, left-signature, left-start, left-size, left-finished}
use Rattle.zone_boot.proofs.BootHandOut.{counts-signature, counts-start, counts-size, gives, gives-nothing}
use Rattle.zone_boot.proofs.boots.Boot.erase.Goals as goal

pub returns-in-Signature-clause-gives : goal.returns-in-Signature-clause-gives
returns-in-Signature-clause-gives c =
    let s = c.args.self.now in
    let x = c.args.image.now in
    let m : s.made ≤ most_made s.zone s.block s.within Signature =
    subst (λ (p : Phase). s.made ≤ most_made s.zone s.block s.within p) c.in-Signature.is c.requires.kept.made in
    let l = c.set_word.ensures.len in
    let t = c.requires.valid.at_least in
    gives s x _ c.set_word.new.self (word_store s.zone.byte_order 0 s.zone.sig) c.set_word.ensures.handed
    (left-in s.zone x s.block s.within s.count s.erasure s.phase Signature c.in-Signature.is
    ∙ left-signature s.zone x s.block s.within s.count s.erasure)
    (λ m. ap length (left-in s.zone x s.block s.within s.count s.erasure s.phase Signature c.in-Signature.is)
    ∙ counts-signature s.zone c.requires.valid x (λ k. (c.type_inv.image k).fits) s.block s.within s.count s.erasure m)
    refl refl
    (record { count = c.requires.kept.count; place = tt; made = omega (arith, m) })
    (omega (arith, l, t)) c.set_word.ensures.plain

pub returns-in-Start-clause-gives : goal.returns-in-Start-clause-gives
returns-in-Start-clause-gives c =
    let s = c.args.self.now in
    let x = c.args.image.now in
    let m : s.made ≤ most_made s.zone s.block s.within Start =
    subst (λ (p : Phase). s.made ≤ most_made s.zone s.block s.within p) c.in-Start.is c.requires.kept.made in
    let l = c.set_word-in-Start.ensures.len in
    let t = c.requires.valid.at_least in
    gives s x _ c.set_word-in-Start.new.self (word_store s.zone.byte_order 4 0) c.set_word-in-Start.ensures.handed
    (left-in s.zone x s.block s.within s.count s.erasure s.phase Start c.in-Start.is
    ∙ left-start s.zone x s.block s.within s.count s.erasure)
    (λ m. ap length (left-in s.zone x s.block s.within s.count s.erasure s.phase Start c.in-Start.is)
    ∙ counts-start s.zone c.requires.valid x (λ k. (c.type_inv.image k).fits) s.block s.within s.count s.erasure m)
    refl refl
    (record { count = c.requires.kept.count; place = tt; made = omega (arith, m) })
    (omega (arith, l, t)) c.set_word-in-Start.ensures.plain

pub returns-in-Size-clause-gives : goal.returns-in-Size-clause-gives
returns-in-Size-clause-gives c =
    let s = c.args.self.now in
    let x = c.args.image.now in
    let m : s.made ≤ most_made s.zone s.block s.within Size =
    subst (λ (p : Phase). s.made ≤ most_made s.zone s.block s.within p) c.in-Size.is c.requires.kept.made in
    let l = c.set_word-in-Size.ensures.len in
    let t = c.requires.valid.at_least in
    gives s x _ c.set_word-in-Size.new.self (word_store s.zone.byte_order 8 0) c.set_word-in-Size.ensures.handed
    (left-in s.zone x s.block s.within s.count s.erasure s.phase Size c.in-Size.is
    ∙ left-size s.zone x s.block s.within s.count s.erasure)
    (λ m. ap length (left-in s.zone x s.block s.within s.count s.erasure s.phase Size c.in-Size.is)
    ∙ counts-size s.zone c.requires.valid x (λ k. (c.type_inv.image k).fits) s.block s.within s.count s.erasure m)
    refl refl
    (record { count = c.requires.kept.count; place = tt; made = omega (arith, m) })
    (omega (arith, l, t)) c.set_word-in-Size.ensures.plain

pub returns-in_default-clause-gives : goal.returns-in_default-clause-gives
returns-in_default-clause-gives c =
    let s = c.args.self.now in
    let x = c.args.image.now in
    let l = c.set_nothing.ensures.len in
    gives-nothing s x s c.set_nothing.new.self c.set_nothing.ensures.handed refl refl refl c.requires.kept (omega (arith, l))
    c.set_nothing.ensures.plain

pub returns-in_default-clause-some : goal.returns-in_default-clause-some
returns-in_default-clause-some c = λ none.
    let s = c.args.self.now in
    left-finished s.zone c.args.image.now s.block s.within s.count s.erasure s.phase c.requires.not_header
    c.requires.not_blocks c.in_default.not-Signature c.in_default.not-Start c.in_default.not-Size
    c.in_default.not-Parity
