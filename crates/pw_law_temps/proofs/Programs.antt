-- The functions of a program under a database, one by one.
use Rattle.std.proofs.Common.{◌≡◌, ℕ, Bool, true, false, if◌then◌else◌, List, [], ◌∷◌, map, refl, sym, subst}
use Rattle.std.specs.List.{AllByRecursion}
use Rattle.std.specs.Str.{bytes_eq}
use Rattle.pw_files.proofs.Standing.{has_by}
use Rattle.pw_db.specs.declared.database.Directives.{Directives}
use Rattle.pw_db.specs.Limits.{first_register}
use Rattle.pw_db.specs.Database.{IsDirectives}
use Rattle.pw_db.proofs.Keeping.{kept_from}
use Rattle.pw_flow.specs.declared.flow.FlowFn.{FlowFn}
use Rattle.pw_webflow.specs.Direction.{directed}
use Rattle.pw_alloc_temps.specs.Temporaries.{allocated}
use Rattle.pw_run_languages.specs.Programs.{functions_of}
use Rattle.pw_run_languages.specs.Direction.{directives_of, directed_by}
use Rattle.pw_run_languages.specs.Serving.{AllServe}
use Rattle.pw_law_temps.specs.Laws.{AreKept, TemporariesServe, TemporariesServePrograms}

chosen_lawful : (b : Bool) (own rest : Directives) → IsDirectives own → IsDirectives rest → IsDirectives (if b then own else rest)
chosen_lawful true own rest here later = here
chosen_lawful false own rest here later = later

given_lawful : (d : List (List ℕ × Directives)) → AllByRecursion (λ f. IsDirectives f.1) d → (f : List ℕ) → IsDirectives (directives_of d f)
given_lawful [] all f = record { each = tt; numbers = tt; globals = tt; registers = tt; free = tt; saves = tt; apart = tt }
given_lawful (g ∷ d) all f = chosen_lawful (bytes_eq g.0 f) g.1 (directives_of d f) all.0 (given_lawful d all.1 f)

-- a function under directives has these
its_own : (f : FlowFn) (d : Directives) → (directed f d).directives ≡ d
unfolding directed
its_own f d = refl

-- a callee keeps the registers of lawful directives
all_kept : (d : Directives) → IsDirectives d → AreKept d
all_kept d lawful = record { webs = lawful.each; saves = λ r c. kept_from first_register d.saves r lawful.saves (has_by r d.saves c) }

serve_each : TemporariesServe → (d : List (List ℕ × Directives)) → AllByRecursion (λ f. IsDirectives f.1) d → (fs : List FlowFn)
    → AllServe (map (directed_by d) fs) (map allocated (map (directed_by d) fs))
serve_each serves d base [] = tt
serve_each serves d base (f ∷ fs) =
    (serves (directed_by d f) (all_kept (directed_by d f).directives (subst IsDirectives (sym (its_own f (directives_of d f.name))) (given_lawful d base f.name))), serve_each serves d base fs)

pub serve_programs : TemporariesServe → TemporariesServePrograms
serve_programs serves p d base = serve_each serves d base.directives (functions_of p)
