-- Calls of the library.
use Rattle.std.specs.Prelude.{ℕ, ◌≡◌, ◌+◌, ◌%◌, nat_lt, Bool, true, false, if◌then◌else◌, Option, Some, None, List, [], ◌∷◌, ◌++◌}
use Rattle.std.proofs.Common.{refl, sym, subst}
use Rattle.pw_value.specs.declared.value.Value.{Value}
use Rattle.pw_value.specs.declared.value.Value.TheVariants.{Num}
use Rattle.pw_value.specs.ProgramNames.{exit_name, getchar_name, putchar_name}
use Rattle.pw_value.specs.Words.{end_of_input}
use Rattle.pw_db.specs.declared.database.Directives.{Directives}
use Rattle.pw_alloc.specs.declared.located.Located.{Located}
use Rattle.pw_run.specs.Runs as run
use Rattle.pw_run_languages.specs.Traces.{Called, Refused, Returned, called, refused, returned}
use Rattle.pw_run_languages.specs.Programs.{Program, Library, GetChar, PutChar, Exit, library_at}
use Rattle.pw_run_languages.specs.PlacedRun.{PlacedProgram, Machine, Step, Stopped, Astray, kept, noted, depth, without_scratch, library_call, gives_back, calls_library, calls_defined, calls, function_named}
use Rattle.pw_run_languages.specs.Direction.{with_functions}
use Rattle.pw_law_direction.proofs.Banks.{with_same, scratch_keeps}
use Rattle.pw_law_placed.specs.Twins.{Twin, bare_side, placed_side, bare_program}
use Rattle.pw_law_placed.specs.Alike.{given_back, IsReady, IsCalling, Follows, stops, strays}
use Rattle.pw_law_placed.specs.Laws.{LibraryFollows}
use Rattle.pw_law_placed.proofs.Waiting.{gets_kept, waiting_same}
use Rattle.pw_law_placed.proofs.Writing.{results_follow}
use Rattle.pw_law_placed.proofs.Operations.{note, noted_ready}
use Rattle.pw_law_placed.proofs.Noting.{bare_globals, placed_globals, ready_globals, depth_same}

module _ (p : Program) (d : List (List ℕ × Directives)) (ls : List Located) where
  abbrev bare : PlacedProgram
  bare = bare_program p d

  abbrev full : PlacedProgram
  full = with_functions p ls

  -- ---- what is noted

  abbrev pub call_noted : List ℕ → Twin → Twin
  call_noted f x = note p d (Called f (bare_globals p d x) (kept x.registers)) (Called f (placed_globals p d ls x) (kept x.bank)) x

  pub call_ready : (f : List ℕ) (x : Twin) (to : Option ℕ) → IsReady p d x to → IsReady p d (call_noted f x) to
  call_ready f x to ready =
      noted_ready p d (Called f (bare_globals p d x) (kept x.registers)) (Called f (placed_globals p d ls x) (kept x.bank)) x to
      (called f (bare_globals p d x) (placed_globals p d ls x) (kept x.registers) (kept x.bank) (ready_globals p d ls x to ready)) tt ready

  abbrev return_noted : List ℕ → Twin → Twin
  return_noted f x =
      note p d (Returned f 0 (bare_globals p d x) (kept x.registers) (kept x.registers)) (Returned f 0 (placed_globals p d ls x) (kept x.bank) (kept x.bank)) x

  return_ready : (f : List ℕ) (x : Twin) (to : Option ℕ) → IsReady p d x to → IsReady p d (return_noted f x) to
  return_ready f x to ready =
      noted_ready p d (Returned f 0 (bare_globals p d x) (kept x.registers) (kept x.registers)) (Returned f 0 (placed_globals p d ls x) (kept x.bank) (kept x.bank)) x to
      (returned f 0 (bare_globals p d x) (placed_globals p d ls x) (kept x.registers) (kept x.registers) (kept x.bank) (kept x.bank) (ready_globals p d ls x to ready))
      (λ r low high out. refl) ready

  abbrev scratched : Twin → Twin
  scratched x = record x { registers = without_scratch x.registers; bank = without_scratch x.bank; events = x.events + 1 }

  -- what is needed over a call stands in no register that is kept over none
  scratched_ready : (x : Twin) (to : Option ℕ) → IsCalling p d x to → IsReady p d (scratched x) to
  scratched_ready x to c = record {
    frame = gets_kept p d (λ r. ⊥) x.frame to x.registers x.bank (without_scratch x.registers) (without_scratch x.bank) c.ready.frame c.calls
        (λ r none. absurd none) (λ r high. scratch_keeps x.registers r high) (λ r high out. scratch_keeps x.bank r high);
    callers = waiting_same p d x.frame.function.body.name x.frame.result x.callers (given_back x.frame.bare x.registers) (given_back x.frame.placed x.bank)
        (given_back x.frame.bare (without_scratch x.registers)) (given_back x.frame.placed (without_scratch x.bank))
        (λ r high. with_same x.frame.bare.saved (without_scratch x.registers) x.registers r (scratch_keeps x.registers r high))
        (λ r high out. with_same x.frame.placed.saved (without_scratch x.bank) x.bank r (scratch_keeps x.bank r high)) c.ready.callers;
    log = c.ready.log;
    kept = c.ready.kept;
  }

  gives_back_follows : (f : List ℕ) (x : Twin) (to : Option ℕ) (v : Value) → IsCalling p d x to → Follows p d (gives_back bare f to v (bare_side x)) (gives_back full f to v (placed_side x))
  gives_back_follows f x to v c = results_follow p d (return_noted f (scratched x)) to v (return_ready f (scratched x) to (scratched_ready x to c))

  calling_noted : (f : List ℕ) (x : Twin) (to : Option ℕ) (rest out : List ℕ) (read : ℕ) → IsCalling p d x to → IsCalling p d (record (call_noted f x) { rest = rest; read = read; out = out }) to
  calling_noted f x to rest out read c =
      let r = call_ready f x to c.ready in
      record { ready = record { frame = c.ready.frame; callers = c.ready.callers; log = r.log; kept = r.kept }; calls = c.calls }

  -- ---- each function

  abbrev reads_by : PlacedProgram → Option ℕ → Machine → List ℕ → Step
  reads_by q t m [] = gives_back q getchar_name t (Num end_of_input) (library_call q getchar_name m)
  reads_by q t m (byte ∷ rest) = gives_back q getchar_name t (Num byte) (record (library_call q getchar_name m) { rest = rest; read = m.read + 1 })

  read_follows : (x : Twin) (to : Option ℕ) (input : List ℕ) → x.rest ≡ input → IsCalling p d x to → Follows p d (reads_by bare to (bare_side x) input) (reads_by full to (placed_side x) input)
  read_follows x to [] e c = gives_back_follows getchar_name (call_noted getchar_name x) to (Num end_of_input) (calling_noted getchar_name x to x.rest x.out x.read c)
  read_follows x to (byte ∷ rest) e c =
      gives_back_follows getchar_name (record (call_noted getchar_name x) { rest = rest; read = x.read + 1 }) to (Num byte) (calling_noted getchar_name x to rest x.out (x.read + 1) c)

  each_follows : (lib : Library) (x : Twin) (to : Option ℕ) (args : List Value) → IsCalling p d x to → Follows p d (calls_library bare lib to args (bare_side x)) (calls_library full lib to args (placed_side x))
  each_follows GetChar x to [] c = read_follows x to x.rest refl c
  each_follows PutChar x to (Num n ∷ []) c =
      gives_back_follows putchar_name (record (call_noted putchar_name x) { out = x.out ++ n % 256 ∷ [] }) to (Num (n % 256)) (calling_noted putchar_name x to x.rest (x.out ++ n % 256 ∷ []) x.read c)
  each_follows Exit x to (Num n ∷ []) c =
      let r = call_ready exit_name x to c.ready in
      stops (record { end = run.Ended (n % 256); twin = call_noted exit_name x; bare = refl; placed = refl; log = r.log; kept = r.kept })
  each_follows _ x to _ c = strays refl refl

  -- ---- where there is no stack for it

  pub refusal_follows : (f : List ℕ) (x : Twin) (to : Option ℕ) → IsReady p d x to
      → Follows p d (Stopped run.StackFull (noted (Refused f) (bare_side x))) (Stopped run.StackFull (noted (Refused f) (placed_side x)))
  refusal_follows f x to ready =
      let r = noted_ready p d (Refused f) (Refused f) x to (refused f) tt ready in
      stops (record { end = run.StackFull; twin = note p d (Refused f) (Refused f) x; bare = refl; placed = refl; log = r.log; kept = r.kept })

  abbrev library_by : PlacedProgram → Library → Option ℕ → List ℕ → List Value → Machine → ℕ → Step
  library_by q g t f args m n = if nat_lt q.flow.stack (q.flow.frame_of f + n) then Stopped run.StackFull (noted (Refused f) m) else calls_library q g t args m

  abbrev pub calls_by : PlacedProgram → Option ℕ → List ℕ → List Value → Machine → Option Library → Option Located → Step
  calls_by q t f args m (Some g) defined = library_by q g t f args m (depth q (m.frame ∷ m.callers))
  calls_by q t f args m None (Some defined) = calls_defined q defined t args m
  calls_by q t f args m None None = Astray

  either_follows : {s t u v : Step} (b : Bool) → Follows p d s t → Follows p d u v → Follows p d (if b then s else u) (if b then t else v)
  either_follows true h k = h
  either_follows false h k = k

  within_stack : (lib : Library) (x : Twin) (to : Option ℕ) (f : List ℕ) (args : List Value) → IsCalling p d x to
      → Follows p d (library_by bare lib to f args (bare_side x) (depth bare ((bare_side x).frame ∷ (bare_side x).callers))) (library_by full lib to f args (placed_side x) (depth full ((placed_side x).frame ∷ (placed_side x).callers)))
  within_stack lib x to f args c =
      let deep : ℕ = depth bare ((bare_side x).frame ∷ (bare_side x).callers) in
      subst (λ (n : ℕ). Follows p d (library_by bare lib to f args (bare_side x) deep) (library_by full lib to f args (placed_side x) n)) (sym (depth_same p d ls (x.frame ∷ x.callers)))
      (either_follows (nat_lt p.stack (p.frame_of f + deep)) (refusal_follows f x to c.ready) (each_follows lib x to args c))

  pub by_library : (lib : Library) (x : Twin) (to : Option ℕ) (f : List ℕ) (args : List Value) (own : Option Library) → own ≡ Some lib → IsCalling p d x to
      → Follows p d (calls_by bare to f args (bare_side x) own (function_named bare f)) (calls_by full to f args (placed_side x) own (function_named full f))
  by_library lib x to f args (Some g) e c = within_stack g x to f args c
  by_library lib x to f args None e c = absurd cc

pub library_follows : LibraryFollows
library_follows p d ls x to f args lib c e = by_library p d ls lib x to f args (library_at f) e c
