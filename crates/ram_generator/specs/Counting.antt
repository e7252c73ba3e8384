-- What is counted beside a session
use Rattle.std.specs.Prelude.{ℕ, ◌+◌, ◌*◌, ◌^◌, ◌≤◌, ◌++◌, codes, decimal}
use Rattle.machine_spec.specs.States.{Session}
use Rattle.grammar_spec.specs.Fields.{Text}
use Rattle.script_spec.specs.Texts.{newline}
use Rattle.script_spec.specs.Generated.{Generated}
use Rattle.ram_generator.specs.declared.counts.Counts.{Counts}

abbrev pub none_counted : Counts
none_counted = record { calls = 0; stores = 0; flips = 0; as_told = 0; differs = 0 }

abbrev pub calls_added : Counts → ℕ → ℕ → Counts
calls_added c calls stores = record c { calls = c.calls + calls; stores = c.stores + stores }

abbrev pub flips_added : Counts → ℕ → Counts
flips_added c flips = record c { flips = c.flips + flips }

abbrev pub verdicts_added : Counts → ℕ → ℕ → Counts
verdicts_added c as_told differs = record c { as_told = c.as_told + as_told; differs = c.differs + differs }

-- a session, and what was counted
abbrev pub counted : Session → Counts → Generated
counted session c = record {
  session = session;
  calls = c.calls;
  stores = c.stores;
  flips = c.flips;
  as_told = c.as_told;
  differs = c.differs;
}

-- the end of a summary: ` calls C stores S flips F as-told A differs D`
abbrev pub counts_text : Counts → Text
counts_text c =
    codes " calls " ++ decimal c.calls ++ codes " stores " ++ decimal c.stores ++ codes " flips " ++ decimal c.flips
    ++ codes " as-told " ++ decimal c.as_told ++ codes " differs " ++ decimal c.differs ++ newline

-- each count is at most so many times 2 ^ 64
pub record AreBelow (c : Counts) (n : ℕ) : Type 0 where
  pub calls : c.calls ≤ n * 2 ^ 64
  pub stores : c.stores ≤ n * 2 ^ 64
  pub flips : c.flips ≤ n * 2 ^ 64
  pub as_told : c.as_told ≤ n * 2 ^ 64
  pub differs : c.differs ≤ n * 2 ^ 64

-- each count has grown by at most so many times 2 ^ 64
pub record Grows (old new : Counts) (n : ℕ) : Type 0 where
  pub calls : new.calls ≤ old.calls + n * 2 ^ 64
  pub stores : new.stores ≤ old.stores + n * 2 ^ 64
  pub flips : new.flips ≤ old.flips + n * 2 ^ 64
  pub as_told : new.as_told ≤ old.as_told + n * 2 ^ 64
  pub differs : new.differs ≤ old.differs + n * 2 ^ 64
