-- What an operation asks for is done alike in both runs, where it calls nothing.
use Rattle.std.specs.Prelude.{ℕ, Bool, true, false, if◌then◌else◌, ◌||◌, Option, Some, None, List, ◌∷◌}
use Rattle.std.proofs.Common.{refl, subst}
use Rattle.pw_value.specs.declared.value.Value.{Value}
use Rattle.pw_value.specs.declared.value.Value.TheVariants.{Undefined}
use Rattle.pw_value.specs.declared.value.Byte.{Byte}
use Rattle.pw_value.specs.Objects.{Object}
use Rattle.pw_db.specs.declared.database.Directives.{Directives}
use Rattle.pw_alloc.specs.declared.located.Located.{Located}
use Rattle.pw_run.specs.Runs as run
use Rattle.pw_run_languages.specs.Traces.{Event, Loaded, Stored, EventAlike, loaded, stored, KeepsRegisters}
use Rattle.pw_run.specs.Runs.{Same}
use Rattle.pw_run_languages.specs.Values.{binary}
use Rattle.pw_run_languages.specs.Memory.{look, poke, copy}
use Rattle.pw_run_languages.specs.Programs.{Program}
use Rattle.pw_run_languages.specs.Commands as command
use Rattle.pw_run_languages.specs.FlowRun.{get_global, put_global}
use Rattle.pw_run_languages.specs.PlacedRun.{PlacedProgram, Machine, Step, On, Astray, gives, noted_if, is_eligible, is_reserved, changes, obeys}
use Rattle.pw_run_languages.specs.Direction.{with_functions}
use Rattle.pw_law_operations.specs.Laws.{StaysInside, HasResult}
use Rattle.pw_law_placed.specs.Twins.{Twin, bare_side, placed_side, bare_program}
use Rattle.pw_law_placed.specs.Alike.{IsReady, Follows, strays}
use Rattle.pw_law_placed.proofs.Writing.{results_follow}

-- ---- what is done

module _ (p : Program) (d : List (List ℕ × Directives)) where
  -- an operation without a result is done
  pub done : (x : Twin) → IsReady p d x None → Follows p d (On (bare_side x)) (On (placed_side x))
  done x ready = results_follow p d x None Undefined ready

  pub gives_follow : (x : Twin) (t : ℕ) (v : Option Value) → IsReady p d x (Some t) → Follows p d (gives t v (bare_side x)) (gives t v (placed_side x))
  gives_follow x t (Some v) ready = results_follow p d x (Some t) v ready
  gives_follow x t None ready = strays refl refl

  changes_follow : (x : Twin) (objects : Option (List Object)) → IsReady p d x None → Follows p d (changes objects (bare_side x)) (changes objects (placed_side x))
  changes_follow x (Some objects) ready = done (record x { objects = objects }) (record { frame = ready.frame; callers = ready.callers; log = ready.log; kept = ready.kept })
  changes_follow x None ready = strays refl refl

  either_follows : {s t u v : Step} (b : Bool) → Follows p d s t → Follows p d u v → Follows p d (if b then s else u) (if b then t else v)
  either_follows true h k = h
  either_follows false h k = k

  -- something alike is noted in both
  abbrev pub note : Event Byte Value → Event Byte Value → Twin → Twin
  note e f x = record x { trace = e ∷ x.trace; notes = f ∷ x.notes }

  pub noted_ready : (e f : Event Byte Value) (x : Twin) (result : Option ℕ) → EventAlike Same Same e f → KeepsRegisters d f → IsReady p d x result → IsReady p d (note e f x) result
  noted_ready e f x result alike keeps ready = record {
    frame = ready.frame;
    callers = ready.callers;
    log = run.also e f x.trace x.notes alike ready.log;
    kept = (keeps, ready.kept);
  }

  loads_follow : (b : Bool) (x : Twin) (t : ℕ) (g : List ℕ) (v : Option Value) → IsReady p d x (Some t)
      → Follows p d (gives t v (noted_if b (Loaded g) (bare_side x))) (gives t v (noted_if b (Loaded g) (placed_side x)))
  loads_follow true x t g v ready = gives_follow (note (Loaded g) (Loaded g) x) t v (noted_ready (Loaded g) (Loaded g) x (Some t) (loaded g) tt ready)
  loads_follow false x t g v ready = gives_follow x t v ready

  stored_follows : (b : Bool) (x : Twin) (g : List ℕ) → IsReady p d x None → Follows p d (On (noted_if b (Stored g) (bare_side x))) (On (noted_if b (Stored g) (placed_side x)))
  stored_follows true x g ready = done (note (Stored g) (Stored g) x) (noted_ready (Stored g) (Stored g) x None (stored g) tt ready)
  stored_follows false x g ready = done x ready

  abbrev stored_by : PlacedProgram → List ℕ → Machine → Option (List Object) → Step
  stored_by q g m (Some objects) = On (noted_if (is_eligible q g) (Stored g) (record m { objects = objects }))
  stored_by q g m None = Astray

  stores_follow : (ls : List Located) (x : Twin) (g : List ℕ) (objects : Option (List Object)) → IsReady p d x None
      → Follows p d (stored_by (bare_program p d) g (bare_side x) objects) (stored_by (with_functions p ls) g (placed_side x) objects)
  stores_follow ls x g (Some objects) ready =
      stored_follows (is_eligible (with_functions p ls) g) (record x { objects = objects }) g (record { frame = ready.frame; callers = ready.callers; log = ready.log; kept = ready.kept })
  stores_follow ls x g None ready = strays refl refl

  abbrev Ready : Twin → Option ℕ → Type 0
  Ready x result = IsReady p d x result

  pub commands_follow : (ls : List Located) (x : Twin) (result : Option ℕ) (c : command.Command) → IsReady p d x result → StaysInside c → HasResult result c
      → Follows p d (obeys (bare_program p d) c (bare_side x)) (obeys (with_functions p ls) c (placed_side x))
  commands_follow ls x result (command.Give t v) ready stays has = gives_follow x t (Some v) (subst (Ready x) has ready)
  commands_follow ls x result (command.Combine k t v w) ready stays has = gives_follow x t (binary x.objects k v w) (subst (Ready x) has ready)
  commands_follow ls x result (command.Look k t a) ready stays has =
      either_follows (is_reserved (bare_program p d) a) (strays refl refl) (gives_follow x t (look k a x.objects) (subst (Ready x) has ready))
  commands_follow ls x result (command.Poke k a v) ready stays has =
      either_follows (is_reserved (bare_program p d) a) (strays refl refl) (changes_follow x (poke k a v x.objects) (subst (Ready x) has ready))
  commands_follow ls x result (command.Copied to from size unit) ready stays has =
      either_follows (is_reserved (bare_program p d) to || is_reserved (bare_program p d) from) (strays refl refl) (changes_follow x (copy to from size unit x.objects) (subst (Ready x) has ready))
  commands_follow ls x result (command.GetGlobal t g k) ready stays has =
      loads_follow (is_eligible (bare_program p d) g) x t g (get_global p g k x.objects) (subst (Ready x) has ready)
  commands_follow ls x result (command.PutGlobal g k v) ready stays has = stores_follow ls x g (put_global p g k v x.objects) (subst (Ready x) has ready)
  commands_follow ls x result (command.Enter t f args) ready stays has = absurd stays
  commands_follow ls x result command.Fail ready stays has = strays refl refl
