-- Where the entries of merged ftrace logs come from
use Rattle.std.proofs.Common.{◌≡◌, ℕ, suc, ◌+◌, ◌<◌, Bool, true, false, cond, nat_le, List, [], ◌∷◌, length, refl}
use Rattle.std.proofs.Common.{arith}
use Rattle.std.specs.Prelude.{Contains}
use Rattle.std.specs.List.{AllByRecursion, fold}
use Rattle.zone_spec.specs.Ftrace.{entries, entry_time, put_before, merge}
use Rattle.machine_laws.specs.Logs.{MergedEntriesCome, IsEntryOf}

-- ---- what holds of all entries holds of the merged ones

put_all : (P : List ℕ → Type 0) (a : List ℕ) (rest : List (List ℕ) → List (List ℕ)) (later : List (List ℕ)) → P a
    → ((ys : List (List ℕ)) → AllByRecursion P ys → AllByRecursion P (rest ys)) → AllByRecursion P later
    → AllByRecursion P (put_before a rest later)
put_all P a rest [] own each all = (own, each [] tt)
put_all P a rest (b ∷ bs) own each all =
    by (nat_le (entry_time b) (entry_time a)) (put_all P a rest bs own each all.1)
  where
    by : (t : Bool) → AllByRecursion P (put_before a rest bs)
        → AllByRecursion P (cond t (b ∷ put_before a rest bs) (a ∷ rest (b ∷ bs)))
    by true more = (all.0, more)
    by false more = (own, each (b ∷ bs) all)

merge_all : (P : List ℕ → Type 0) (xs ys : List (List ℕ)) → AllByRecursion P xs → AllByRecursion P ys
    → AllByRecursion P (merge xs ys)
merge_all P [] ys h k = k
merge_all P (x ∷ xs) ys h k = put_all P x (merge xs) ys h.0 (λ zs j. merge_all P xs zs h.1 j) k

-- ---- of all logs

later : {X : Type 0} (x y : X) (xs : List X) → Contains xs y → Contains (x ∷ xs) y
later x y xs c = (suc c.0, omega (arith, c.1), c.2)

first : {X : Type 0} (x : X) (xs : List X) → Contains (x ∷ xs) x
first x xs = (0, omega arith, refl)

all_of : (P : List ℕ → Type 0) (xs : List (List ℕ)) → ((e : List ℕ) → Contains xs e → P e) → AllByRecursion P xs
all_of P [] each = tt
all_of P (x ∷ xs) each = (each x (first x xs), all_of P xs (λ e c. each e (later x e xs c)))

fold_all : (P : List ℕ → Type 0) (logs merged : List (List ℕ)) → AllByRecursion P merged
    → ((log : List ℕ) → Contains logs log → AllByRecursion P (entries log))
    → AllByRecursion P (fold (λ (all : List (List ℕ)) (log : List ℕ). merge all (entries log)) merged logs)
fold_all P [] merged h each = h
fold_all P (log ∷ logs) merged h each =
    fold_all P logs (merge merged (entries log)) (merge_all P merged (entries log) h (each log (first log logs)))
    (λ l c. each l (later log l logs c))

pub merged_entries_come : MergedEntriesCome
merged_entries_come logs =
    fold_all (IsEntryOf logs) logs [] tt (λ log c. all_of (IsEntryOf logs) (entries log) (λ e own. (log, c, own)))
