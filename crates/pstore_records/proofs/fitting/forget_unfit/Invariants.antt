-- The first `i` logs are forgotten if their record doesn't fit, the rest stand as before. For the
-- loop of `forget_unfit`.
use Rattle.pstore_records.proofs.UnfitLogs.{ForgetsTo}
use Rattle.ramoops_layout.specs.Laid.{zones_of}
use Rattle.pstore_records.proofs.fitting.forget_unfit.Given as goal

abbrev pub invariant-loop-i : goal.invariant-loop-i
invariant-loop-i l = ForgetsTo (zones_of l.layout) l.initial.logs l.logs l.i
