-- How the making of an image ends
use Rattle.std.proofs.Common.{◌≡◌, ℕ, List, [], ◌∷◌, Ok, Err, refl, append-nil, inl, inr}
use Rattle.std.specs.Io.KnownBytes.{Appends}
use Rattle.outside.specs.Outside.{AppendsFront, Writes, WritesFront}
use Rattle.machine_spec.specs.Stop.{session_image}
use Rattle.grammar_spec.specs.Fields.{Text}
use Rattle.script_spec.specs.Generated.{generated, summary}
use Rattle.command_spec.specs.Commands.{Make, RamPlan, wanted, wanted_make, mem_of}
use Rattle.command_spec.specs.Answers.{Outside, NoScript, NoImage, PutsAll}
use Rattle.script_spec.specs.Texts.{whole}
use Rattle.command_spec.specs.declared.Stop.TheVariants.{Memory, SinkFault, ImageFault}
use Rattle.command_line.specs.Ended.{WrittenAt, MakeEnds}
use Rattle.command_line.proofs.Script.{Quiet, quiet_memory}

make_wanted : (plan : RamPlan) (n : ℕ) → plan.command ≡ Make n
    → wanted plan [] [] ≡ wanted_make n plan.zones (generated plan.zones (mem_of plan) n)
make_wanted plan n is = rw is refl

module _ (plan : RamPlan) (n : ℕ) (a b : Outside) (is : plan.command ≡ Make n) (none : NoScript a b) where
  pub make_memory : NoImage a b → Quiet a b → MakeEnds plan a b (Err Memory)
  make_memory image q = record {
    can = rw is refl;
    whole = quiet_memory (wanted plan [] []) a b q;
    script = none;
    image_fault = tt;
    text_first = inl image;
  }

  module _ (text : Text) (e : text ≡ summary n plan.zones (generated plan.zones (mem_of plan) n)) where
    pub make_unput : NoImage a b → AppendsFront a.given b.given text → MakeEnds plan a b (Err SinkFault)
    make_unput image put = record {
      can = rw is refl;
      whole = rw (make_wanted plan n is) (
        record {
          count = 1;
          bytes = rw (
            append-nil (summary n plan.zones (generated plan.zones (mem_of plan) n)),
            ← e,
          ) put;
        },
        image.holds,
      );
      script = none;
      image_fault = tt;
      text_first = inl image;
    }

    module _ (image : List ℕ) (i : image ≡ session_image (generated plan.zones (mem_of plan) n).session)
        (put : Appends a.given b.given text) where
      puts_all : PutsAll (wanted plan [] []) a b
      puts_all = (
        [],
        rw (
          make_wanted plan n is,
          append-nil (whole (summary n plan.zones
              (generated plan.zones (mem_of plan) n) ∷ [])),
          append-nil (summary n plan.zones
              (generated plan.zones (mem_of plan) n)),
          ← e,
        ) put,
      )

      pub make_saved : Writes a.holds b.holds 0 image → MakeEnds plan a b (Ok tt)
      make_saved wrote = record {
        can = rw is refl;
        whole = rw (make_wanted plan n is) (
          refl,
          rw (append-nil (summary n plan.zones (generated plan.zones (mem_of plan) n)), ← e) put,
          rw i at wrote,
        );
        script = none;
        image_fault = tt;
        text_first = inr puts_all;
      }

      pub make_unsaved : WritesFront a.holds b.holds 0 image → MakeEnds plan a b (Err ImageFault)
      make_unsaved wrote =
          let written : WrittenAt (wanted plan [] []) a b (Err ImageFault) = rw (make_wanted plan n is)
          (refl, rw (append-nil (summary n plan.zones (generated plan.zones (mem_of plan) n)), ← e) put, rw i at wrote)
          in record {
            can = rw is refl;
            whole = inr written;
            script = none;
            image_fault = written;
            text_first = inr puts_all;
          }
