-- Exact verdicts and reports, and what cut zones of a sound state read
use Rattle.std.proofs.Common.{Option, ◌≡◌, ◌≢◌, ℕ, suc, ◌+◌, ◌-◌, Bool, true, false, cond, List, [], ◌∷◌, length, take}
use Rattle.std.proofs.Common.{slice_get, refl, sym, ap, ap₂, ◌∙◌, subst, arith, Some, None, eqb-true, eq-eqb}
use Rattle.std.specs.Prelude.{nat_eq, bytes_eq}
use Rattle.std.specs.List.{common_prefix_len}
use Rattle.std.proofs.lemmas.Slice.Eq.{bytes_eq-Decides}
use Rattle.zone_spec.specs.declared.Zone.{Zone}
use Rattle.zone_spec.specs.declared.Verdict.TheVariants.{NothingTold, AsTold, Differs}
use Rattle.zone_spec.specs.Zones.{IsValidZone}
use Rattle.zone_spec.specs.Parts.{IsImage}
use Rattle.zone_spec.specs.Reading.{ZoneReading, zone_reading}
use Rattle.zone_spec.specs.declared.CallKind.TheVariants.{Erase}
use Rattle.zone_spec.specs.Told.{Call, kind_of}
use Rattle.zone_spec.specs.Calls.{call_stores}
use Rattle.zone_spec.specs.Boot.{boot_fixes, boot_stores}
use Rattle.machine_spec.specs.BootPart.{boot_cut}
use Rattle.zone_spec.specs.Verdicts.{verdict_of}
use Rattle.zone_spec.specs.Cut.{Cut, ByCall, ByBoot, cut_report}
use Rattle.machine_spec.specs.Zones.{zone_bytes}
use Rattle.machine_spec.specs.States.{OffZone}
use Rattle.machine_spec.specs.Report.{report_cut}
use Rattle.machine_spec.specs.Sound.{IsOffZone, IsInFlight}
use Rattle.damage_laws.specs.Exact.{IsExactVerdict, IsExactReport, ReportsCall}
use Rattle.damage_laws.specs.CutCalls.{CutReads}
use Rattle.damage_laws.specs.CutErasures.{BootCutReads}
use Rattle.damage_laws.proofs.CutNumbers.{cut_report_is_exact, boot_cut_report_is_exact}
use Rattle.damage_laws.proofs.CutHeader.{cut_zone_reads}
use Rattle.damage_laws.proofs.BootCut.{boot_cut_zone_reads}
use Rattle.machine_laws.specs.Boots.{VerdictIsExact, ReportsErasure, ReportsExactly, ReportIsExact, ReadsCut}
use Rattle.machine_laws.specs.Boots.{CutZonesRead}
use Rattle.machine_laws.proofs.OffStates.{off_bytes}
use Rattle.machine_laws.proofs.Sessions.{flight_call}

-- ---- verdicts

same_front : (xs ys : List ℕ) → take (common_prefix_len nat_eq xs ys) xs ≡ take (common_prefix_len nat_eq xs ys) ys
same_front [] [] = refl
same_front [] (y ∷ ys) = refl
same_front (x ∷ xs) [] = refl
same_front (x ∷ xs) (y ∷ ys) = by (nat_eq x y) refl (same_front xs ys)
  where
    by : (b : Bool) → nat_eq x y ≡ b → take (common_prefix_len nat_eq xs ys) xs
        ≡ take (common_prefix_len nat_eq xs ys) ys
        → take (cond b (1 + common_prefix_len nat_eq xs ys) 0) (x ∷ xs)
        ≡ take (cond b (1 + common_prefix_len nat_eq xs ys) 0) (y ∷ ys)
    by true e h =
        let m : suc (common_prefix_len nat_eq xs ys) ≡ 1 + common_prefix_len nat_eq xs ys = omega arith in
        subst (λ n. take n (x ∷ xs) ≡ take n (y ∷ ys)) m (ap₂ (λ v vs. v ∷ vs) (eqb-true x y e) h)
    by false e h = refl

first_differs : (xs ys : List ℕ) → xs ≢ ys → slice_get xs (common_prefix_len nat_eq xs ys)
    ≢ slice_get ys (common_prefix_len nat_eq xs ys)
first_differs [] [] ne = absurd (ne refl)
first_differs [] (y ∷ ys) ne = λ e. (let n : ◌≡◌ {A = ℕ} 0 1 = cc in omega (arith, n))
first_differs (x ∷ xs) [] ne = λ e. (let n : ◌≡◌ {A = ℕ} 0 1 = cc in omega (arith, n))
first_differs (x ∷ xs) (y ∷ ys) ne = by (nat_eq x y) refl (first_differs xs ys)
  where
    by : (b : Bool) → nat_eq x y ≡ b → (xs ≢ ys → slice_get xs (common_prefix_len nat_eq xs ys)
        ≢ slice_get ys (common_prefix_len nat_eq xs ys))
        → slice_get (x ∷ xs) (cond b (1 + common_prefix_len nat_eq xs ys) 0)
        ≢ slice_get (y ∷ ys) (cond b (1 + common_prefix_len nat_eq xs ys) 0)
    by true e h =
        let m : suc (common_prefix_len nat_eq xs ys) ≡ 1 + common_prefix_len nat_eq xs ys = omega arith in
        subst (λ n. slice_get (x ∷ xs) n ≢ slice_get (y ∷ ys) n) m
        (h (λ s. ne (ap₂ (λ v vs. v ∷ vs) (eqb-true x y e) s)))
    by false e h = λ s. (let k : x ≡ y = cc in let n : ◌≡◌ {A = Bool} false true = sym e ∙ eq-eqb x y k in
        let f : ◌≡◌ {A = ℕ} 0 1 = cc in omega (arith, f))

pub verdict_is_exact : VerdictIsExact
verdict_is_exact None log = record {
  nothing_told = ((λ e. refl), (λ e. refl));
  as_told = (
    (λ e. (let n : ◌≡◌ {A = ℕ} 0 1 = cc in absurd (omega (arith, n)))),
    (λ e. (let n : ◌≡◌ {A = ℕ} 0 1 = cc in absurd (omega (arith, n)))),
  );
  differs = λ list e ne. (let n : ◌≡◌ {A = ℕ} 0 1 = cc in absurd (omega (arith, n)));
}
verdict_is_exact (Some told) log = by (bytes_eq log told) refl
  where
    by : (b : Bool) → bytes_eq log told ≡ b → IsExactVerdict (Some told) log (verdict_of (Some told) log)
    by true e =
        let same : log ≡ told = (bytes_eq-Decides log told).0 e in
        let is : verdict_of (Some told) log ≡ AsTold = (rw e refl) in
        record {
          nothing_told = (
            (λ h. (let n : AsTold ≡ NothingTold = sym is ∙ h in let f : ◌≡◌ {A = ℕ} 0 1 = cc in
                absurd (omega (arith, f)))),
            (λ h. (let f : ◌≡◌ {A = ℕ} 0 1 = cc in absurd (omega (arith, f)))),
          );
          as_told = ((λ h. ap Some (sym same)), (λ h. is));
          differs = λ list h ne. (let s : told ≡ list = cc in absurd (ne (sym s ∙ sym same)));
        }
    by false e =
        let is : verdict_of (Some told) log ≡ Differs (length told) (length log) (common_prefix_len nat_eq told log) =
        (rw e refl) in
        record {
          nothing_told = (
            (λ h. (let n : Differs (length told) (length log) (common_prefix_len nat_eq told log)
                ≡ NothingTold = sym is ∙ h in let f : ◌≡◌ {A = ℕ} 0 1 = cc in absurd (omega (arith, f)))),
            (λ h. (let f : ◌≡◌ {A = ℕ} 0 1 = cc in absurd (omega (arith, f)))),
          );
          as_told = (
            (λ h. (let n : Differs (length told) (length log) (common_prefix_len nat_eq told log) ≡ AsTold = sym is
                ∙ h in let f : ◌≡◌ {A = ℕ} 0 1 = cc in absurd (omega (arith, f)))),
            (λ h. (let s : told ≡ log = cc in let n : false ≡ true = sym e
                ∙ (subst (λ v. bytes_eq log v ≡ true) (sym s)
                ((bytes_eq-Decides log log).1 refl)) in let f : ◌≡◌ {A = ℕ} 0 1 = cc in
                absurd (omega (arith, f)))),
          );
          differs = λ list h ne. (
              let s : told ≡ list = cc in (
                common_prefix_len nat_eq told log,
                is ∙ ap (λ (v : List ℕ). Differs (length v) (length log) (common_prefix_len nat_eq told log)) s,
                subst (λ v. take (common_prefix_len nat_eq told log) v ≡ take (common_prefix_len nat_eq told log) log) s
                    (same_front told log),
                subst (λ v. slice_get v (common_prefix_len nat_eq told log)
                    ≢ slice_get log (common_prefix_len nat_eq told log)) s
                    (first_differs told log (λ k. ne (sym s ∙ k))),
              ));
        }

pub verdict_differs : (told log : List ℕ) → told ≢ log
    → verdict_of (Some told) log ≡ Differs (length told) (length log) (common_prefix_len nat_eq told log)
verdict_differs told log ne = by (bytes_eq log told) refl
  where
    by : (b : Bool) → bytes_eq log told ≡ b
        → cond b AsTold (Differs (length told) (length log) (common_prefix_len nat_eq told log))
        ≡ Differs (length told) (length log) (common_prefix_len nat_eq told log)
    by true e = absurd (ne (sym ((bytes_eq-Decides log told).0 e)))
    by false e = refl

-- ---- reports, and cut zones

-- of each flight that the cut is of
pub call_reported : (z : Zone) (zone : OffZone) (now : List ℕ) (cut : Cut) (call : Call) → IsValidZone z
    → IsOffZone z zone → zone.cut ≡ Some cut → cut.by ≡ ByCall call → ReportsCall z zone now cut
call_reported z zone now cut call valid sound c own =
    let reading : ZoneReading = zone_reading z now in
    record {
      flight = sound.in_flight cut call c own;
      exact = λ told f is. (
        cut_report z reading cut,
        ap (report_cut z reading) c,
        subst (λ k. IsExactReport z reading.words k (kind_of f.call) f.made
            (length (call_stores z f.call f.image)) (cut_report z reading k)) (sym is.cut_is)
            (cut_report_is_exact z f zone.stop told reading valid is.at_stop),
      );
    }

erasure_reported : (z : Zone) (zone : OffZone) (now : List ℕ) (cut : Cut) → IsValidZone z → IsOffZone z zone
    → zone.cut ≡ Some cut → cut.by ≡ ByBoot → ReportsErasure z zone now cut
erasure_reported z zone now cut valid sound c own =
    let reading : ZoneReading = zone_reading z now in
    record {
      boot = sound.in_erasure cut c own;
      exact = λ before count is. (
        cut_report z reading cut,
        ap (report_cut z reading) c,
        subst (λ k. IsExactReport z reading.words k Erase (count - length (boot_fixes z before))
            (length (boot_stores z before) - length (boot_fixes z before)) (cut_report z reading k)) (sym is.cut_is)
            (boot_cut_report_is_exact z before count reading valid is.size is.within).0,
      );
    }

-- a cut is reported exactly where there is one
none_reported : (z : Zone) (reading : ZoneReading) (o : Option Cut) → report_cut z reading o ≡ None → o ≡ None
none_reported z reading None e = refl
none_reported z reading (Some cut) e = (let n : Some (cut_report z reading cut) ≡ None = e in cc)

pub zone_reports : (z : Zone) (zone : OffZone) (now : List ℕ) → IsValidZone z → IsOffZone z zone
    → ReportsExactly z zone now
zone_reports z zone now valid sound =
    let reading : ZoneReading = zone_reading z now in
    record {
      verdict = verdict_is_exact zone.told reading.log;
      whole = (none_reported z reading zone.cut, ap (report_cut z reading));
      cut_call = λ cut call c own. call_reported z zone now cut call valid sound c own;
      cut_erasure = λ cut c own. erasure_reported z zone now cut valid sound c own;
    }

pub report_is_exact : ReportIsExact
report_is_exact layout mem off lies state = (
  state.zones.0,
  λ i z zone hz hv. zone_reports z zone (zone_bytes z off.image) (lies.valid i z hz).0
      (state.zones.1 i z zone hz hv),
)

pub zone_cuts : (z : Zone) (zone : OffZone) (now : List ℕ) → IsValidZone z → IsOffZone z zone → IsImage z now
    → ReadsCut z zone now
zone_cuts z zone now valid sound hn = record {
  call = λ told cut call t c own damage.
      let f = sound.in_flight cut call c own in
      let same : f.0 ≡ told = (let e : Some f.0 ≡ Some told = sym f.2.told_is ∙ t in cc) in
      flight_call (λ k c. CutReads z k c told zone.stop now) z f.1 cut call f.2.cut_is own
      (cut_zone_reads z zone.stop now told f.1 valid (subst (λ xs. IsInFlight z zone.stop xs f.1) same f.2.at_stop)
      hn damage);
  erasure = λ cut c own. record {
    boot = sound.in_erasure cut c own;
    reads = λ before count is. subst (λ k. BootCutReads z before zone.stop now k) (sym is.cut_is)
        (subst (λ s. BootCutReads z before s now (boot_cut z before count)) (sym is.at_stop)
        (boot_cut_zone_reads z before now count valid is.size hn is.within));
  };
}

pub cut_zones_read : CutZonesRead
cut_zones_read layout mem off lies state = (
  state.zones.0,
  λ i z zone hz hv. zone_cuts z zone (zone_bytes z off.image) (lies.valid i z hz).0
      (state.zones.1 i z zone hz hv) (off_bytes layout mem lies off state i z hz),
)
