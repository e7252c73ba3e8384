-- A cut as it is kept until the next boot
use Rattle.std.specs.Prelude.{ℕ, List, [], ◌∷◌}
use Rattle.zone_spec.specs.declared.Pair.{Pair}
use Rattle.zone_spec.specs.declared.CallKind.{CallKind}
use Rattle.zone_spec.specs.declared.CallKind.TheVariants.{Erase}
use Rattle.zone_spec.specs.declared.Words.{Words}
use Rattle.zone_spec.specs.Told.{kind_of}
use Rattle.store_steps.specs.Flying.{Flying}
use Rattle.store_steps.specs.Counts.{total_of, pairs_of, touched_runs}

-- the call's kind, the stores made and in all, its pairs, and the runs of the blocks that it touches
pub record SeenCut : Type 0 where
  pub kind : CallKind
  pub made : ℕ
  pub total : ℕ
  pub pairs : List Pair
  pub runs : List (ℕ × ℕ)

-- that of a flight
abbrev pub cut_of_flight : Flying → SeenCut
cut_of_flight f = record {
  kind = kind_of f.call;
  made = f.made;
  total = total_of f;
  pairs = pairs_of f;
  runs = touched_runs f;
}

-- that of a boot's erasure of a zone whose header read these words
abbrev pub cut_of_erasure : Words → ℕ → ℕ → SeenCut
cut_of_erasure w made total = record {
  kind = Erase;
  made = made;
  total = total;
  pairs = record { start = w.start; size = w.size } ∷ record { start = 0; size = w.size }
      ∷ record { start = 0; size = 0 } ∷ [];
  runs = [];
}
