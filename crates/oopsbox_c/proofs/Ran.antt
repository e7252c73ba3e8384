-- A run over the objects in memory is a run on the script and the image.
use Rattle.std.proofs.Common.{◌≡◌, ℕ, ◌≤◌, List, [], Some, subst, arith}
use Rattle.outside.specs.Outside.{Rose}
use Rattle.grammar_spec.specs.Fields.{Text}
use Rattle.command_spec.specs.Answers.{Outside, outside}
use Rattle.commands.specs.Runs.{Runs}
use Rattle.oopsbox_c.specs.Runs.{IsRun}

pub is_run : (words : List Text) (script image after text s i t left : List ℕ) (status fi w ft gi gw gt : ℕ)
    → s ≡ script → i ≡ image → t ≡ [] → fi ≡ 0 → w ≡ 0 → ft ≡ 0
    → Runs words (outside (Some s) 0 (Some i) fi w (Some t) ft)
    (outside (Some left) 0 (Some after) gi gw (Some text) gt) status
    → status ≤ 10 → (status ≡ 5 → Rose 0 0) → (status ≡ 6 → Rose fi gi) → (status ≡ 7 → Rose ft gt)
    → IsRun words script image status after text
is_run words script image after text s i t left status fi w ft gi gw gt es ei et efi ew eft runs ten five six seven =
    let same : outside (Some s) 0 (Some i) fi w (Some t) ft ≡ outside (Some script) 0 (Some image) 0 0 (Some []) 0 =
    cc in
    record {
      left = left;
      image_faults = gi;
      writes = gw;
      text_faults = gt;
      runs = subst (λ (o : Outside). Runs words o (outside (Some left) 0 (Some after) gi gw (Some text) gt) status)
          same runs;
      statuses = ten;
      script_works = λ e. (let rose = five e in omega (arith, rose));
      image_fault = λ e. subst (λ (n : ℕ). Rose n gi) efi (six e);
      text_fault = λ e. subst (λ (n : ℕ). Rose n gt) eft (seven e);
    }
