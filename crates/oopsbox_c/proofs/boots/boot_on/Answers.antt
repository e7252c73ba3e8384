-- The stores are those of the boot, and the numbers are those of the boot behind them
use Rattle.std.proofs.Common.{◌≡◌, ℕ, ◌+◌, ◌<◌, ◌≤◌, List, [], ◌++◌, length, sym, ap, ◌∙◌, subst, take, drop, arith}
use Rattle.zone_spec.specs.Stores.{Store, after_stores}
use Rattle.zone_spec.specs.Boot.{boot_stores}
use Rattle.zone_boot.specs.declared.boots.Boot.{Boot}
use Rattle.zone_boot.specs.Handed.{handed_len}
use Rattle.zone_boot.specs.Booting.{left_of, IsKept, IsBooting}
use Rattle.oopsbox_c.specs.Places.{IsPlace}
use Rattle.oopsbox_c.specs.Boots.{boot_in, boot_stores_in}
use Rattle.oopsbox_c.proofs.boots.boot_on.Goals as goal

pub next-requires-clause-kept : goal.next-requires-clause-kept
next-requires-clause-kept c = subst IsKept (sym c.boot_in-of.ensures) c.requires.boot.kept

pub returns : goal.returns
returns c =
    let image : List ℕ = c.args.image.now in
    let b : Boot = c.boot_in-of.result in
    let e = c.boot_in-of.ensures in
    let of = c.boot_of.ensures in
    let g = c.set_boot.ensures.stores [] [] in
    let back = λ (before : List ℕ) (stands : IsBooting (boot_in c.args.boot.now) before image).
    subst (λ x. IsBooting x before image) (sym e) stands in record {
      boot = record {
        place = subst IsPlace (sym of.zone) c.requires.boot.place;
        phase = of.phase;
        erasure = of.erasure;
        kept = subst IsKept (sym of.boot) c.next.ensures.kept;
      };
      zone = of.zone;
      made = omega (
        arith,
        ap (λ (x : Boot). x.made) of.boot,
        c.next.ensures.made,
        ap (λ (x : Boot). x.made) e,
        ap length g,
      );
      what = c.set_boot.ensures.what;
      inside = c.set_boot.ensures.inside c.args.boot.now.zone.size [] [] c.next.ensures.plain
          (subst (λ (x : Boot). c.next.new.out.place + handed_len c.next.new.out ≤ x.zone.size) e
          c.next.ensures.inside);
      handed = λ before stands.
          g ∙ c.next.ensures.handed before (back before stands)
          ∙ ap (λ k. take k (drop b.made (boot_stores b.zone before))) (sym (ap length g))
          ∙ ap (λ (x : Boot). take (length (boot_stores_in c.set_boot.new.self))
          (drop x.made (boot_stores x.zone before))) e;
      stands = λ before stands.
          subst (λ x. IsBooting x before (after_stores image (boot_stores_in c.set_boot.new.self))) (sym of.boot)
          (subst (λ ss. IsBooting c.next.new.self before (after_stores image ss)) (sym g)
          (c.next.ensures.stands before (back before stands)));
      some = λ before stands h.
          subst (λ ss. 0 < length ss) (sym g) (c.next.ensures.some before (back before stands)
          (subst (λ (x : Boot). x.made < length (boot_stores x.zone before)) (sym e) h));
      finished = λ before stands. (
        λ w. subst (λ (x : Boot). x.made ≡ length (boot_stores x.zone before)) e
            ((c.next.ensures.finished before (back before stands)).0 (c.set_boot.ensures.last.0 w)),
        λ w. c.set_boot.ensures.last.1 ((c.next.ensures.finished before (back before stands)).1
            (subst (λ (x : Boot). x.made ≡ length (boot_stores x.zone before)) (sym e) w)),
      );
      flag = c.set_boot.ensures.flag;
      left = ap (λ (x : Boot). left_of x image) (sym e) ∙ c.next.ensures.left
          ∙ ap (λ (ss : List Store). ss ++ left_of c.next.new.self (after_stores image ss)) (sym g)
          ∙ ap (λ (x : Boot). boot_stores_in c.set_boot.new.self
          ++ left_of x (after_stores image (boot_stores_in c.set_boot.new.self))) (sym of.boot);
      last = (
        λ w. g ∙ c.next.ensures.plain.0 (c.set_boot.ensures.last.0 w),
        λ w. c.set_boot.ensures.last.1 (c.next.ensures.plain.1 (sym g ∙ w)),
      );
      none = c.set_boot.ensures.none;
      none_left = λ w. ap (λ (x : Boot). left_of x image) (sym e)
          ∙ c.next.ensures.last (c.next.ensures.plain.0 (c.set_boot.ensures.last.0 w));
      ends = λ w. ap (λ (x : Boot). x.phase) of.boot
          ∙ c.next.ensures.ends (c.next.ensures.plain.0 (c.set_boot.ensures.last.0 w));
    }
