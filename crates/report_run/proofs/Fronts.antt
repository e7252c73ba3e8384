-- Why the front of an image was not read: a read failed, or none did and memory ran out. `is_text`, `layout_in` and
-- `packed_log` cite it.
use Rattle.std.proofs.Common.{◌≡◌, ◌≢◌, ℕ, subst, sym}
use Rattle.outside.specs.Outside.{Rose}
use Rattle.command_spec.specs.declared.Stop.{Stop}
use Rattle.command_spec.specs.declared.Stop.TheVariants.{Memory as NoMemory, ImageFault}
use Rattle.image_file.specs.Loading.{FrontStop}
use Rattle.report_run.specs.declared.failures.Failure.{Failure}
use Rattle.report_run.specs.declared.failures.Failure.TheVariants.{Memory, Unread}
use Rattle.report_run.specs.Failures.{stop_failure}

module _ (P : Failure → Type 0) (before now : ℕ) (memory : now ≡ before → P Memory) (fault : Rose before now → P Unread)
  where
    by_stop : (stop : Stop) → FrontStop stop before now → (stop ≢ ImageFault → now ≡ before) → P (stop_failure stop)
    by_stop NoMemory h kept = memory (kept (λ same. cc))
    by_stop ImageFault h kept = fault h
    by_stop stop h kept = absurd h

    pub unread : (stop : Stop) (why : Failure) → why ≡ stop_failure stop → FrontStop stop before now
        → (stop ≢ ImageFault → now ≡ before) → P why
    unread stop why is h kept = subst P (sym is) (by_stop stop h kept)
