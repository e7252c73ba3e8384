-- Boots of a log, one after another. For the loop of `report_boots`.
use Rattle.std.proofs.Common.{◌≡◌, ℕ, suc, ◌+◌, ◌<◌, ◌≤◌, List, [], ◌∷◌, length, drop, Option, refl, sym, ap, ◌∙◌}
use Rattle.std.proofs.Common.{subst, drop-cons, get_or, add-one, inl, inr}
use Rattle.std.proofs.lemmas.List.{drop_all}
use Rattle.text_log_spec.specs.declared.Boot.{Boot}
use Rattle.report_tool.specs.declared.showing.Format.{Format}
use Rattle.report_run.specs.declared.boots.HeldLog.{HeldLog}
use Rattle.report_run.specs.declared.plans.Asked.{Asked}
use Rattle.report_run.specs.declared.failures.Failure.{Failure}
use Rattle.report_run.specs.Boots.{IsBootShown, IsBootUnshown, AreBootsShown, AreBootsUnshown}

module _ (asked : Asked) (format : Format) (path : List ℕ) (log : HeldLog) (boots : List Boot)
    (start : Option (List ℕ)) (put : ℕ) where
  -- what the boots from a place on give out, those before have led to
  pub record Continues (i : ℕ) (given : Option (List ℕ)) : Type 0 where
    pub shown : (after : Option (List ℕ)) → AreBootsShown asked format path log (drop i boots) given after
        → AreBootsShown asked format path log boots start after
    pub unshown : (after : Option (List ℕ)) (now : ℕ) (why : Failure)
        → AreBootsUnshown asked format path log (drop i boots) given after put now why
        → AreBootsUnshown asked format path log boots start after put now why

  pub none_shown : Continues 0 start
  none_shown = record { shown = λ after h. h; unshown = λ after now why h. h }

  from : (i : ℕ) (boot : Boot) → i < length boots → boot ≡ get_or boots i boot → boot ∷ drop (i + 1) boots ≡ drop i boots
  from i boot inside is =
      sym (drop-cons boots i boot inside ∙ ap (λ b. b ∷ drop (suc i) boots) (sym is)
      ∙ ap (λ k. boot ∷ drop k boots) (sym (add-one i)))

  pub one_shown : (i : ℕ) (boot : Boot) (given between : Option (List ℕ)) → i < length boots
      → boot ≡ get_or boots i boot → IsBootShown asked format path log boot given between
      → Continues i given → Continues (i + 1) between
  unfolding AreBootsShown AreBootsUnshown
  one_shown i boot given between inside is one so_far = record {
    shown = λ after h. so_far.shown after
        (subst (λ (bs : List Boot). AreBootsShown asked format path log bs given after) (from i boot inside is)
        (between, one, h));
    unshown = λ after now why h. so_far.unshown after now why
        (subst (λ (bs : List Boot). AreBootsUnshown asked format path log bs given after put now why)
        (from i boot inside is) (inr (between, one, h)));
  }

  pub one_failed : (i : ℕ) (boot : Boot) (given after : Option (List ℕ)) (before now : ℕ) (why : Failure)
      → i < length boots → boot ≡ get_or boots i boot → before ≡ put
      → IsBootUnshown asked format path log boot given after before now why → Continues i given
      → AreBootsUnshown asked format path log boots start after put now why
  unfolding AreBootsUnshown
  one_failed i boot given after before now why inside is same one so_far =
      so_far.unshown after now why
      (subst (λ (bs : List Boot). AreBootsUnshown asked format path log bs given after put now why)
      (from i boot inside is)
      (inl (subst (λ (n : ℕ). IsBootUnshown asked format path log boot given after n now why) same one)))

  pub all_shown : (i : ℕ) (given : Option (List ℕ)) → length boots ≤ i → Continues i given
      → AreBootsShown asked format path log boots start given
  unfolding AreBootsShown
  all_shown i given behind so_far =
      so_far.shown given (subst (λ (bs : List Boot). AreBootsShown asked format path log bs given given)
      (sym (drop_all i boots behind)) stays)
    where
      stays : AreBootsShown asked format path log [] given given
      stays = refl
