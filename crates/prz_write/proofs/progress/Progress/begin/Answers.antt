-- What was begun is held, with no store made, and stands for the bytes at hand. For
-- `Progress::begin`.
use Rattle.std.proofs.Common.{◌≡◌, List, ℕ, length, ap, ◌∙◌, subst, arith}
use Rattle.store_steps.specs.Flying.{Flying, flying}
use Rattle.store_steps.specs.Machine.{IsKept, StandsFor}
use Rattle.prz_write.specs.Seen.{seen}
use Rattle.prz_write.proofs.CallSteps.{seen_by}
use Rattle.prz_write.proofs.progress.Progress.begin.Goals as goal

abbrev is_seen : (c : goal.After-begin-steps)
    → flying c.begin-steps.result c.line.result.now c.payload.result.now
    ≡ seen (record { steps = c.begin-steps.result; call = c.args.call })
is_seen c =
    seen_by (record { steps = c.begin-steps.result; call = c.args.call }) c.line.result.now c.payload.result.now
    (c.begin-steps.ensures.kind ∙ c.kind-kind.ensures.seen) c.line.ensures.value c.payload.ensures

pub returns-clause-held : goal.returns-clause-held
returns-clause-held c = record {
  kept = subst IsKept (is_seen c) c.begin-steps.ensures.kept;
  kind = c.begin-steps.ensures.kind ∙ c.kind-kind.ensures.seen;
  line = omega (arith, ap length c.line.ensures.value, c.line.ensures.fits);
}

pub returns-clause-stands : goal.returns-clause-stands
returns-clause-stands c =
    subst (λ (f : Flying). StandsFor f c.args.span.now c.args.span.now) (is_seen c)
    (subst (λ (x : List ℕ). StandsFor (flying c.begin-steps.result c.line.result.now c.payload.result.now) x x)
    c.bytes.ensures c.begin-steps.ensures.stands)
