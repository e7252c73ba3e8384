-- The line on the best layout and the next are the message on a layout that is not taken. `tell_failure` cites it.
use Rattle.std.proofs.Common.{◌≡◌, List, ℕ, codes, subst, sym, string_bytes}
use Rattle.std.specs.declared.string.String.{String}
use Rattle.std.specs.declared.alloc.Global.{Global}
use Rattle.report_run.specs.declared.failures.Failure.{Failure}
use Rattle.report_run.specs.declared.failures.Failure.TheVariants.{Unexplained, Unfinished}
use Rattle.report_run.specs.Messages.{Seen, line_of, IsBestTold, IsMessage}

pub unexplained : (path text : List ℕ) (best : String Global) (failure : Failure) (a b : Seen)
    → failure ≡ Unexplained best → text ≡ string_bytes best
    → IsBestTold text (line_of path (codes "no layout explains it; give it by --param, --cmdline or --dtb")) a b
    → IsMessage path failure a b
unexplained path text best failure a b is same told =
    subst (λ (f : Failure). IsMessage path f a b) (sym is)
    (subst (λ (t : List ℕ). IsBestTold t
    (line_of path (codes "no layout explains it; give it by --param, --cmdline or --dtb")) a b) same told)

pub unfinished : (path text : List ℕ) (best : String Global) (failure : Failure) (a b : Seen)
    → failure ≡ Unfinished best → text ≡ string_bytes best
    → IsBestTold text (line_of path (codes "not all layouts were tried; give it by --param, --cmdline or --dtb")) a b
    → IsMessage path failure a b
unfinished path text best failure a b is same told =
    subst (λ (f : Failure). IsMessage path f a b) (sym is)
    (subst (λ (t : List ℕ). IsBestTold t
    (line_of path (codes "not all layouts were tried; give it by --param, --cmdline or --dtb")) a b) same told)
