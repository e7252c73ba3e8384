-- What a boot lists and reads of a store whose image was moved to other parameters
use Rattle.std.specs.Prelude.{◌≡◌, ℕ, List, drop, take, filter, slice_get, Some}
use Rattle.zone_spec.specs.declared.Zone.{Zone}
use Rattle.zone_spec.specs.Records.{Saved, Listed, listed_of}
use Rattle.machine_spec.specs.Zones.{zone_bytes}
use Rattle.machine_spec.specs.Erasures.{saved_logs}
use Rattle.machine_spec.specs.Moved.{fits, fitting}
use Rattle.move_laws.specs.Moves.{ReadsLog}
use Rattle.command_spec.specs.Commands.{MovePlan, Laid, laid_mem, after_boot}
use Rattle.command_spec.specs.Answers.{Outside}

-- the logs that a boot of the front of a store's bytes saves
abbrev pub logs_in : Laid → List ℕ → List Saved
logs_in laid bytes = saved_logs laid.zones (after_boot laid.zones (take (laid_mem laid) bytes))

-- what the store holds after a move of these bytes
pub record Moves (plan : MovePlan) (bytes : List ℕ) (b : Outside) : Type 0 where
  pub after : List ℕ
  pub holds : b.holds ≡ Some after
  -- a boot lists the records that fit, each with its name, its content and its time, in order, and no other
  pub lists : listed_of (logs_in plan.to after)
      ≡ filter (λ (r : Listed). fits plan.to.zones (logs_in plan.from bytes) r.name)
      (listed_of (logs_in plan.from bytes))
  -- each zone reads the log that was carried over to it, or nothing, with nothing corrected and nothing bad
  pub clean : (i : ℕ) (z : Zone) → slice_get plan.to.zones i ≡ Some z
      → ReadsLog (fitting plan.to.zones (logs_in plan.from bytes)) z (zone_bytes z (take (laid_mem plan.to) after))
  -- the bytes behind the new image are as before
  pub rest : drop (laid_mem plan.to) after ≡ drop (laid_mem plan.to) bytes
