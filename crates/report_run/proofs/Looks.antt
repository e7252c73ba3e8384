-- What a look at an image's front tells of the image. For `layout_in` and `found_plan`.
use Rattle.std.proofs.Common.{◌≡◌, ℕ, List, Option, take, subst, inl, inr}
use Rattle.std.specs.Prelude.{IfSome}
use Rattle.zone_spec.specs.Numbers.{most_memory}
use Rattle.layout_spec.specs.declared.Known.{Known}
use Rattle.report_run.specs.Messages.{Seen}
use Rattle.report_run.specs.Looking.{IsLook, MayLookAt, IsLooking, MayLook}

module _ (known : Known) (path : List ℕ) (holds : Option (List ℕ)) (a b : Seen) where
  module _ (front bytes : List ℕ) (same : front ≡ bytes)
      (is_front : IfSome holds (λ image. bytes ≡ take most_memory image)) where
    pub looking : IsLook known path front a b → IsLooking known path holds a b
    looking look = record {
      front = bytes;
      is_front = is_front;
      look = subst (λ (t : List ℕ). IsLook known path t a b) same look;
    }

    pub may_look : MayLookAt known path front a b → MayLook known path holds a b
    may_look (inl silent) = inl silent
    may_look (inr look) = inr (looking look)

  -- the image holds what it held
  pub looking_still : (before : Option (List ℕ)) → before ≡ holds → IsLooking known path before a b
      → IsLooking known path holds a b
  looking_still before same look = subst (λ (o : Option (List ℕ)). IsLooking known path o a b) same look
