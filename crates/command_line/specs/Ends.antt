-- What the end of a run puts and answers
use Rattle.std.specs.Prelude.{◌≡◌, ◌⊎◌, ℕ, ◌≤◌, List, Option, Ok, Err}
use Rattle.std.specs.Io.KnownBytes.{Appends}
use Rattle.outside.specs.Outside.{Rose, AppendsFront}
use Rattle.command_spec.specs.Ends.{End, status_of, last_line}
use Rattle.command_spec.specs.declared.Stop.{Stop}
use Rattle.command_spec.specs.declared.Stop.TheVariants.{SinkFault}

-- the last line was put, or the sink failed
pub record LastPut (s : Stop) (old new : Option (List ℕ)) (before now : ℕ) (status : ℕ) : Type 0 where
  pub later : before ≤ now
  pub shown : ((status ≡ status_of (Err s)) × Appends old new (last_line s) × (now ≡ before)) ⊎
      ((status ≡ 7) × Rose before now × AppendsFront old new (last_line s))

-- nothing more was put
pub record Silent (wanted : ℕ) (old new : Option (List ℕ)) (before now : ℕ) (status : ℕ) : Type 0 where
  pub same : new ≡ old
  pub later : before ≤ now
  pub faults : now ≡ before
  pub answer : status ≡ wanted

-- where all was done, or the sink failed, nothing more is put; else the last line
abbrev pub Finished : End → Option (List ℕ) → Option (List ℕ) → ℕ → ℕ → ℕ → Type 0
Finished (Ok u) old new before now status = Silent 0 old new before now status
Finished (Err SinkFault) old new before now status = Silent 7 old new before now status
Finished (Err s) old new before now status = LastPut s old new before now status
