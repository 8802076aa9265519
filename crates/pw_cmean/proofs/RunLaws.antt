-- The laws of expressions, statements, calls and runs.
use Rattle.std.proofs.Common.{ℕ, ◌≤◌, ◌≡◌, ◌≢◌, refl, ◌∙◌, arith, List, []}
use Rattle.std.proofs.lemmas.Grind.{common_steps}
use Rattle.pw_value.specs.declared.value.Value.{Value}
use Rattle.pw_types.specs.TypedTrees.{Expression, Statement}
use Rattle.pw_cmean.specs.Worlds.{Program, World, Callable}
use Rattle.pw_cmean.specs.Acts.{State, Outcome, Gives, Ends, Bound}
use Rattle.pw_cmean.specs.Evaluation.{Env, answer_of, call}
use Rattle.pw_cmean.specs.Execution.{Entry, meaning}
use Rattle.pw_cmean.specs.SourceRun.{calls, run_main, start_state, seen, source_run}
use Rattle.pw_cmean.specs.Lasting.{state_behind, Extends, KeepsActive}
use Rattle.pw_cmean.proofs.ActLaws.{call-r}
use Rattle.pw_cmean.proofs.TreeLaws.{answer-r, meaning-r, calls-r, run_main-r}
use Rattle.pw_cmean.proofs.Keeping.{IsKept, IsKeeping, keeping, AreRestoring, restoring}
use Rattle.pw_cmean.proofs.Bounding.{IsCut, whole, cut, IsFurther, bounding}

-- ---- what is kept

pub expression_keeps : (w : World) (n : ℕ) (a : Expression) (e : Env) (s : State) → IsKept s (state_behind (answer_of a (calls w n) e s))
expression_keeps w n a e s = (answer-r IsKeeping keeping a (calls w n) (calls w n) e (calls-r IsKeeping keeping w n n (omega arith))).0 s

pub statement_keeps : (w : World) (n : ℕ) (a : Statement) (at : Entry) (e : Env) (s : State) → IsKept s (state_behind (meaning a at (calls w n) e s))
statement_keeps w n a at e s = (meaning-r IsKeeping keeping a at (calls w n) (calls w n) e (calls-r IsKeeping keeping w n n (omega arith))).0 s

pub call_keeps : (w : World) (n : ℕ) (f : Callable) (args : List Value) (s : State) → IsKept s (state_behind (call w (calls w n) f args s))
call_keeps w n f args s = (call-r IsKeeping keeping w (calls w n) (calls w n) f args (calls-r IsKeeping keeping w n n (omega arith))).0 s

-- ---- active functions

pub expression_restores : (w : World) (n : ℕ) (a : Expression) (e : Env) (s : State) → KeepsActive s (answer_of a (calls w n) e s)
expression_restores w n a e s = (answer-r AreRestoring restoring a (calls w n) (calls w n) e (calls-r AreRestoring restoring w n n (omega arith))).0 s

pub statement_restores : (w : World) (n : ℕ) (a : Statement) (at : Entry) (e : Env) (s : State) → KeepsActive s (meaning a at (calls w n) e s)
statement_restores w n a at e s = (meaning-r AreRestoring restoring a at (calls w n) (calls w n) e (calls-r AreRestoring restoring w n n (omega arith))).0 s

pub call_restores : (w : World) (n : ℕ) (f : Callable) (args : List Value) (s : State) → KeepsActive s (call w (calls w n) f args s)
call_restores w n f args s = (call-r AreRestoring restoring w (calls w n) (calls w n) f args (calls-r AreRestoring restoring w n n (omega arith))).0 s

-- ---- greater bounds

seen-end : (o o' : Outcome (Unit {0})) → IsCut o o' → (seen o).end ≢ Bound → seen o' ≡ seen o
seen-end o _ whole h = refl
seen-end _ o' (cut p) h = absurd (h refl)

seen-out : (o : Outcome (Unit {0})) → (seen o).out ≡ (state_behind o).out
seen-out (Gives u s) = refl
seen-out (Ends e s) = refl

seen-read : (o : Outcome (Unit {0})) → (seen o).read ≡ (state_behind o).read
seen-read (Gives u s) = refl
seen-read (Ends e s) = refl

seen-written : (o o' : Outcome (Unit {0})) → IsCut o o' → Extends (seen o).out (seen o').out
seen-written o _ whole = ([], grind (arith, common_steps))
seen-written _ o' (cut p) = (p.written.0, seen-out o' ∙ p.written.1)

seen-counted : (o o' : Outcome (Unit {0})) → IsCut o o' → (seen o).read ≤ (seen o').read
seen-counted o _ whole = omega arith
seen-counted _ o' (cut p) = omega (arith, seen-read o', p.taken.2)

further : (w : World) (n m : ℕ) → n ≤ m → (s : State) → IsCut (run_main w n s) (run_main w m s)
further w n m h s = (run_main-r IsFurther bounding w n m h).1 s

pub run-end : (program : Program) (frame_of : List ℕ → ℕ) (stack : ℕ) (input : List ℕ) (n m : ℕ) → n ≤ m
    → (source_run program frame_of stack input n).end ≢ Bound → source_run program frame_of stack input m ≡ source_run program frame_of stack input n
unfolding source_run
run-end program frame_of stack input n m h e = seen-end _ _ (further _ n m h (start_state program input)) e

pub run-written : (program : Program) (frame_of : List ℕ → ℕ) (stack : ℕ) (input : List ℕ) (n m : ℕ) → n ≤ m
    → Extends (source_run program frame_of stack input n).out (source_run program frame_of stack input m).out
unfolding source_run
run-written program frame_of stack input n m h = seen-written _ _ (further _ n m h (start_state program input))

pub run-counted : (program : Program) (frame_of : List ℕ → ℕ) (stack : ℕ) (input : List ℕ) (n m : ℕ) → n ≤ m
    → (source_run program frame_of stack input n).read ≤ (source_run program frame_of stack input m).read
unfolding source_run
run-counted program frame_of stack input n m h = seen-counted _ _ (further _ n m h (start_state program input))
