-- A database that tells no function anything directs nothing, so that the run under it is the run under the empty one.
use Rattle.std.proofs.Common.{◌≡◌, ℕ, Bool, true, false, if◌then◌else◌, List, [], ◌∷◌, map, refl, sym, ap, subst}
use Rattle.std.proofs.Math.Path.{fun_ext}
use Rattle.std.specs.Prelude.{Contains}
use Rattle.std.specs.List.{AllByRecursion}
use Rattle.std.specs.Str.{bytes_eq}
use Rattle.pw_files.proofs.Standing.{has_each, has_by}
use Rattle.pw_db.specs.declared.database.Directives.{Directives}
use Rattle.pw_db.specs.declared.database.Web.{Web}
use Rattle.pw_db.specs.Database.{empty}
use Rattle.pw_law_direction.specs.UndirectedLaws.{SaysNothing}
use Rattle.pw_db_sound.specs.CallGraphs.{Graph}
use Rattle.pw_db_sound.specs.Sound.{Sound, In}
use Rattle.pw_flow.specs.declared.flow.FlowFn.{FlowFn}
use Rattle.pw_webflow.specs.Direction.{directed}
use Rattle.pw_webflow.specs.declared.web.WebFn.{WebFn}
use Rattle.pw_run_languages.specs.Programs.{Program, functions_of}
use Rattle.pw_run_languages.specs.Direction.{directives_of, directed_by, unplaced, with_functions, web_run}
use Rattle.pw_run_languages.specs.PlacedRun.{placed_run}

-- ---- the directives of each function are empty

abbrev IsEmpty : List ℕ × Directives → Type 0
IsEmpty f = f.1 ≡ empty

chosen : (b : Bool) (own rest : Directives) → own ≡ empty → rest ≡ empty → (if b then own else rest) ≡ empty
chosen true own rest here later = here
chosen false own rest here later = later

none_given : (d : List (List ℕ × Directives)) → AllByRecursion IsEmpty d → (f : List ℕ) → directives_of d f ≡ empty
none_given [] all f = refl
none_given (g ∷ d) all f = chosen (bytes_eq g.0 f) g.1 (directives_of d f) all.0 (none_given d all.1 f)

-- ---- the run is that under the empty database

pub same_run : (p : Program) (d : List (List ℕ × Directives)) (input : List ℕ) → SaysNothing d → web_run p [] input ≡ web_run p d input
unfolding web_run
same_run p d input all =
    let alike : (f : FlowFn) → directed_by [] f ≡ directed_by d f = λ f. ap (λ (ds : Directives). directed f ds) (sym (none_given d all f.name)) in
    ap (λ (form : FlowFn → WebFn). placed_run (with_functions p (map unplaced (map form (functions_of p)))) input) (fun_ext alike)

-- ---- no web is unsound

nowhere : (d : List (List ℕ × Directives)) → AllByRecursion IsEmpty d → (w : Web) (f : List ℕ) → In d w f → ⊥
nowhere d all w f i =
    let none : i.has.directives ≡ empty = has_each IsEmpty d (f, i.has.directives) all (has_by (f, i.has.directives) d i.has.there) in
    let there : Contains [] (w, i.role) = subst (λ (ds : Directives). Contains ds.webs (w, i.role)) none i.has.web in
    has_by (w, i.role) [] there

pub none_unsound : (g : Graph) (d : List (List ℕ × Directives)) → SaysNothing d → Sound g d
none_unsound g d all =
    record {
      member_callers = λ w f a has calls. absurd (nowhere d all w f (record { role = _; has = has }));
      entry_callers = λ w f a has calls. absurd (nowhere d all w f (record { role = _; has = has }));
      start = λ w has. nowhere d all w _ (record { role = _; has = has });
      references = λ w a f i path needs. absurd (nowhere d all w a i);
      between = λ w a f b i there back j. absurd (nowhere d all w a i);
      registers = λ w u f i j apart. absurd (nowhere d all w f i);
      eligible = λ w f i. absurd (nowhere d all w f i);
      writes = λ w f i writes. absurd (nowhere d all w f i);
      free = λ f r i.
          let none : i.directives.free ≡ [] = ap (λ (x : Directives). x.free) (has_each IsEmpty d (f, i.directives) all (has_by (f, i.directives) d i.there)) in
          absurd (has_by r [] (subst (λ (rs : List ℕ). Contains rs r) none i.register));
      saves = λ f r i w has.
          let none : i.directives.saves ≡ [] = ap (λ (x : Directives). x.saves) (has_each IsEmpty d (f, i.directives) all (has_by (f, i.directives) d i.there)) in
          absurd (has_by r [] (subst (λ (rs : List ℕ). Contains rs r) none i.register));
    }
