-- A run of a program: what its calls do, and how it starts and ends (ISO C90 5.1.2.2, 6.7.1).
use Rattle.std.specs.Prelude.{ℕ, zero, suc, ◌%◌, Option, Some, None, List, [], ◌∷◌, length, replicate}
use Rattle.pw_value.specs.declared.value.Value.{Value}
use Rattle.pw_value.specs.declared.value.Value.TheVariants as V
use Rattle.pw_types.specs.TypedTrees.{FunctionValue}
use Rattle.pw_cmean.specs.declared.undefined.Undef.TheVariants.{MissingResult}
use Rattle.pw_cmean.specs.Worlds.{Program, ProgramModule, World, Callable, Body, Defined, Library, function_named, start_objects}
use Rattle.pw_cmean.specs.Acts.{Act, State, Site, Ending, Exit, Outcome, Gives, Ends, ◌>>=◌, ◌>>◌, give, stop, need, undefined, wrong, during}
use Rattle.pw_cmean.specs.Evaluation.{Env, Calls, site, take_room, call}
use Rattle.pw_cmean.specs.Execution.{Flow, Normal, Breaks, Continues, Returns, Goes, Front, meaning, with_locals, set_local}
use Rattle.pw_value.specs.ProgramNames.{start_name, main_name}

-- ---- calls

-- the arguments, put into the parameters from a place on
unfoldable pub set_parameters : Site → ℕ → List Value → Env → Act (Unit {0})
set_parameters at k [] e = give tt
set_parameters at k (v ∷ vs) e = do
  set_local at k v e
  set_parameters at (suc k) vs e

-- what a function's body leaves; the end of a function returns no result (6.6.6.4)
unfoldable pub result_of : Flow → Act (Option Value)
result_of Normal = give None
result_of (Returns v) = give v
result_of Breaks = wrong
result_of Continues = wrong
result_of (Goes l) = wrong

-- where no local is in scope
abbrev pub outermost : World → ProgramModule → FunctionValue → Env
outermost world home f = record { world = world; home = home; locals = f.locals; numbers = replicate (length f.locals) None }

-- The body of a function with its arguments, where calls have a lower bound. Its parameters are objects
-- that the call makes and ends (6.1.2.4, 6.3.2.2).
unfoldable pub run_body : World → Calls → List ℕ → Body → List Value → Act (Option Value)
run_body world lower name (Defined home f) args = do
  take_room world name
  during name (with_locals f.params 0 (λ e. do
    set_parameters (site e f.token) 0 args e
    meaning f.body Front lower e >>= result_of) (outermost world home f))
run_body world lower name (Library g) args = wrong

unfoldable pub callee : World → Calls → Callable → List Value → Act (Option Value)
callee world lower f args = run_body world lower f.name f.body args

-- what calls do with a bound
unfoldable pub calls : World → ℕ → Calls
calls world zero = []
calls world (suc n) = callee world (calls world n) ∷ calls world n

-- ---- the run

-- main's result is the status, of which eight bits are left; where it returned none, its name meets that
unfoldable pub finish : Body → Option Value → Act (Unit {0})
finish body (Some (V.Num n)) = stop (Exit (n % 256))
finish (Defined home f) None = undefined (record { home = home.name; token = f.token }) MissingResult
finish _ _ = wrong

-- main is called while `$start` is active
unfoldable pub run_main : World → ℕ → Act (Unit {0})
run_main world bound = do
  main ← need (function_named world.program main_name)
  result ← call world (calls world bound) main []
  finish main.body result

abbrev pub start_state : Program → List ℕ → State
start_state program input = record {
  objects = start_objects program;
  active = start_name ∷ [];
  rest = input;
  read = 0;
  out = [];
  moments = [];
}

-- how a run ends, what it wrote and how many bytes it read
pub record Run : Type 0 where
  pub end : Ending
  pub out : List ℕ
  pub read : ℕ

abbrev pub seen : Outcome (Unit {0}) → Run
seen (Gives done s) = record { end = Exit 0; out = s.out; read = s.read }
seen (Ends ending s) = record { end = ending; out = s.out; read = s.read }

-- The run of a program within a bound: with the frame that each function takes on the stack, the room of the
-- stack, and the input.
unfoldable pub source_run : Program → (List ℕ → ℕ) → ℕ → List ℕ → ℕ → Run
source_run program frame_of stack input bound =
    seen (run_main (record { program = program; frame_of = frame_of; stack = stack }) bound (start_state program input))
