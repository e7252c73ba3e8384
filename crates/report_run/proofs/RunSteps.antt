-- The files, one after another. For the loop of `run`.
use Rattle.std.proofs.Common.{◌≡◌, ℕ, suc, ◌+◌, ◌<◌, ◌≤◌, List, [], ◌∷◌, length, drop, Option, Bool, refl, sym, ap, ◌∙◌}
use Rattle.std.proofs.Common.{subst, drop-cons, get_or, add-one, string_bytes, true, false, inl, inr}
use Rattle.std.proofs.lemmas.List.{drop_all}
use Rattle.report_run.specs.declared.plans.Asked.{Asked}
use Rattle.report_run.specs.declared.plans.Wanted.{Wanted}
use Rattle.report_run.specs.declared.running.FileEnd.{FileEnd}
use Rattle.report_run.specs.declared.running.FileEnd.TheVariants.{Done}
use Rattle.report_run.specs.declared.running.NamedFile.{NamedFile}
use Rattle.report_run.specs.States.{State, Reads}
use Rattle.report_run.specs.Runs.{wanted, IsStep, AreSteps, ends_run, with_end}

module _ (asked : Asked) (content : List ℕ → Wanted → Option (List ℕ)) (files : List NamedFile) (first : Reads)
    (start : State) where
  -- what the files from a place on do, those before have led to
  abbrev pub Continues : ℕ → Reads → State → FileEnd → Type 0
  Continues i r s was =
      (last : Reads) (after : State) (ended : FileEnd)
      → AreSteps asked content (length files) i (drop i files) r s was last after ended
      → AreSteps asked content (length files) 0 files first start Done last after ended

  pub none_run : Continues 0 first start Done
  none_run = λ last after ended steps. steps

  -- file i, as the loop has it
  abbrev pub IsFile : ℕ → NamedFile → (List ℕ → Wanted → Option (List ℕ)) → Reads → Reads → State → State → FileEnd
      → Type 0
  IsFile i file held r q s m end =
      IsStep asked i (length files) (string_bytes file.name)
      (held (string_bytes file.path) (wanted asked.memory asked.layouts)) r q s m end

  -- the files from i on begin with it
  from : (i : ℕ) (file : NamedFile) (r : Reads) (s : State) (was : FileEnd) → i < length files → file ≡ get_or files i file
      → Continues i r s was → (last : Reads) (after : State) (ended : FileEnd)
      → AreSteps asked content (length files) i (file ∷ drop (i + 1) files) r s was last after ended
      → AreSteps asked content (length files) 0 files first start Done last after ended
  from i file r s was inside is_file so_far last after ended steps =
      so_far last after ended
      (subst (λ (fs : List NamedFile). AreSteps asked content (length files) i fs r s was last after ended)
      (sym (drop-cons files i file inside ∙ ap (λ f. f ∷ drop (suc i) files) (sym is_file)
      ∙ ap (λ k. file ∷ drop k files) (sym (add-one i)))) steps)

  known : (i : ℕ) (file : NamedFile) (held : List ℕ → Wanted → Option (List ℕ)) (r q : Reads) (s m : State)
      (end : FileEnd) → held ≡ content → IsFile i file held r q s m end → IsFile i file content r q s m end
  known i file held r q s m end same step =
      subst (λ (f : List ℕ → Wanted → Option (List ℕ)). IsFile i file f r q s m end) same step

  pub one_run : (i : ℕ) (file : NamedFile) (held : List ℕ → Wanted → Option (List ℕ)) (r q : Reads) (s m : State)
      (was : FileEnd) (end : FileEnd) → i < length files → file ≡ get_or files i file → held ≡ content
      → IsFile i file held r q s m end → ends_run end ≡ false → Continues i r s was
      → Continues (i + 1) q m (with_end was end)
  unfolding AreSteps
  one_run i file held r q s m was end inside is_file same step goes so_far =
      λ last after ended steps. from i file r s was inside is_file so_far last after ended
      (q, m, end, known i file held r q s m end same step, inr (goes, steps))

  -- the file that ended the run
  pub cut_run : (i : ℕ) (file : NamedFile) (held : List ℕ → Wanted → Option (List ℕ)) (r q : Reads) (s m : State)
      (was : FileEnd) (end : FileEnd) → i < length files → file ≡ get_or files i file → held ≡ content
      → IsFile i file held r q s m end → ends_run end ≡ true → Continues i r s was
      → AreSteps asked content (length files) 0 files first start Done q m end
  unfolding AreSteps
  cut_run i file held r q s m was end inside is_file same step ends so_far =
      from i file r s was inside is_file so_far q m end
      (q, m, end, known i file held r q s m end same step, inl (ends, refl, refl, refl))

  pub all_run : (i : ℕ) (r : Reads) (s : State) (was : FileEnd) → length files ≤ i → Continues i r s was
      → AreSteps asked content (length files) 0 files first start Done r s was
  unfolding AreSteps
  all_run i r s was behind so_far =
      so_far r s was (subst (λ (fs : List NamedFile). AreSteps asked content (length files) i fs r s was r s
      was)
      (sym (drop_all i files behind)) stays)
    where
      stays : AreSteps asked content (length files) i [] r s was r s was
      stays = (refl, refl, refl)
