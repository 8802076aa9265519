-- What the program does, by the meaning of C, where its frames have room.
use Rattle.std.specs.Prelude.{◌≡◌, ℕ, suc, ◌+◌, ◌%◌, ◌≤◌, false, nat_lt, Some, List, [], ◌∷◌, ◌++◌}
use Rattle.std.proofs.Common.{arith, ap, refl, le-ltb, ◌∙◌}
use Rattle.pw_value.specs.declared.value.Value.TheVariants as V
use Rattle.pw_value.specs.ProgramNames.{start_name, main_name, putchar_name}
use Rattle.pw_types.specs.TypedTrees.{Node, Number, Statements, OneStatement, NoStatement, Return}
use Rattle.pw_types.specs.Labels.{labels_among}
use Rattle.pw_cmean.specs.Worlds.{World, PutChar, library_callable, Defined, depth}
use Rattle.pw_cmean.specs.Acts.{State, Outcome, Gives, Ends, Exit, StackFull, go_on, ◌>>=◌, give, stop, branch, look, need, put_char, during, called, returned, Called, Returned, Bound, ◌>>◌}
use Rattle.pw_cmean.specs.Evaluation.{Env, Calls, site, take_room, library_call, call_body, call, bounded_call, answer_of, values_of, used}
use Rattle.pw_cmean.specs.Execution.{Normal, Front, At_label, Returns, Flow, meaning, items, go_forward, caught, taking_up, with_locals, initialise_all, value_of}
use Rattle.pw_cmean.specs.SourceRun.{calls, callee, run_body, outermost, set_parameters, result_of, run_main, start_state, finish, seen, source_run}
use Rattle.pw_hello.specs.Hello.{hello, hello_module, hello_main, hello_body, hello_run, put, int_type}

abbrev world : (List ℕ → ℕ) → ℕ → World
world frame_of stack = record { program = hello; frame_of = frame_of; stack = stack }

abbrev inside : (List ℕ → ℕ) → ℕ → Env
inside frame_of stack = record { world = world frame_of stack; home = hello_module; locals = []; numbers = [] }

-- the state behind one more byte of output
abbrev behind : ℕ → State → State
behind n s = record s { out = s.out ++ n % 256 ∷ [] }

room : (w : World) (name : List ℕ) (s : State) → nat_lt w.stack (depth w (name ∷ s.active)) ≡ false → take_room w name s ≡ Gives tt s
unfolding take_room look ◌>>=◌ go_on branch give
room w name s e = ap (λ b. branch b (stop StackFull) (give tt) s) e

puts : (w : World) (cs : Calls) (n : ℕ) (s : State) → nat_lt w.stack (depth w (putchar_name ∷ s.active)) ≡ false
    → call w cs (library_callable PutChar) (V.Num n ∷ []) s ≡ Gives (Some (V.Num (n % 256))) (behind n s)
unfolding call call_body library_call put_char ◌>>=◌ go_on give
puts w cs n s e = ap (λ o. go_on o (λ _. library_call PutChar (V.Num n ∷ []))) (room w putchar_name s e)

putting : (f : List ℕ → ℕ) (stack : ℕ) (cs : Calls) (t n : ℕ) (s : State) → nat_lt stack (depth (world f stack) (putchar_name ∷ s.active)) ≡ false
    → meaning (put t n) Front cs (inside f stack) s ≡ Gives Normal (behind n s)
unfolding meaning answer_of values_of used need ◌>>=◌ go_on give
putting f stack cs t n s e = ap (λ o. go_on o (λ dropped. give Normal)) (puts (world f stack) cs n s e)

abbrev returning : Statements
returning = OneStatement (Return 24 (Some (Node 25 int_type (Number 0)))) NoStatement

abbrev second : Statements
second = OneStatement (put 19 105) returning

abbrev first : Statements
first = OneStatement (put 14 72) second

behind_put : (f : List ℕ → ℕ) (stack : ℕ) (cs : Calls) (t n : ℕ) (rest : Statements) (s : State) → nat_lt stack (depth (world f stack) (putchar_name ∷ s.active)) ≡ false
    → items (OneStatement (put t n) rest) Front cs (inside f stack) s ≡ items rest Front cs (inside f stack) (behind n s)
unfolding items go_forward ◌>>=◌ go_on
behind_put f stack cs t n rest s e =
    ap (λ o. go_on o (go_forward (labels_among rest) (λ at. items rest at cs (inside f stack)) (items rest Front cs (inside f stack)))) (putting f stack cs t n s e)

last : (f : List ℕ → ℕ) (stack : ℕ) (cs : Calls) (s : State) → items returning Front cs (inside f stack) s ≡ Gives (Returns (Some (V.Num 0))) s
unfolding items meaning value_of answer_of used go_forward ◌>>=◌ go_on give
last f stack cs s = refl

listed : (f : List ℕ → ℕ) (stack : ℕ) (cs : Calls) (s : State) → nat_lt stack (depth (world f stack) (putchar_name ∷ s.active)) ≡ false
    → items first Front cs (inside f stack) s ≡ Gives (Returns (Some (V.Num 0))) (behind 105 (behind 72 s))
listed f stack cs s e =
    behind_put f stack cs 14 72 second s e ∙ behind_put f stack cs 19 105 returning (behind 72 s) e ∙ last f stack cs (behind 105 (behind 72 s))

-- what the body leaves
abbrev left : State → Outcome Flow
left s = Gives (Returns (Some (V.Num 0))) (behind 105 (behind 72 s))

taken : (f : List ℕ → ℕ) (stack : ℕ) (cs : Calls) (s : State) → nat_lt stack (depth (world f stack) (putchar_name ∷ s.active)) ≡ false
    → taking_up (labels_among first) (λ at cs'. items first at cs' (inside f stack)) Front cs s ≡ left s
unfolding taking_up caught ◌>>=◌ go_on give
taken f stack [] s e = ap (λ o. go_on o (caught (labels_among first) (λ l. stop Bound))) (listed f stack [] s e)
taken f stack (c ∷ cs) s e =
    ap (λ o. go_on o (caught (labels_among first) (λ l. taking_up (labels_among first) (λ at cs'. items first at cs' (inside f stack)) (At_label l) cs)))
    (listed f stack (c ∷ cs) s e)

-- what main's call leaves
abbrev done : State → State
done s = record (behind 105 (behind 72 (called main_name s))) { active = s.active; moments = Returned main_name s.objects ∷ Called main_name s.objects ∷ s.moments }

bodied : (f : List ℕ → ℕ) (stack : ℕ) (cs : Calls) (s : State) → nat_lt stack (depth (world f stack) (main_name ∷ s.active)) ≡ false
    → nat_lt stack (depth (world f stack) (putchar_name ∷ main_name ∷ s.active)) ≡ false
    → run_body (world f stack) cs main_name (Defined hello_module hello_main) [] s ≡ Gives (Some (V.Num 0)) (done s)
unfolding run_body during returned with_locals set_parameters meaning initialise_all result_of ◌>>=◌ go_on give called
bodied f stack cs s e h =
    ap (λ o. go_on o (λ _. during main_name (with_locals 0 0 (λ v. set_parameters (site v 9) 0 [] v >> (meaning hello_body Front cs v >>= result_of)) (outermost (world f stack) hello_module hello_main))))
    (room (world f stack) main_name s e)
    ∙ ap (λ o. returned main_name s.active (go_on o result_of)) (taken f stack cs (called main_name s) h)

ran : (f : List ℕ → ℕ) (stack : ℕ) (input : List ℕ) (bound : ℕ) → nat_lt stack (depth (world f stack) (main_name ∷ start_name ∷ [])) ≡ false
    → nat_lt stack (depth (world f stack) (putchar_name ∷ main_name ∷ start_name ∷ [])) ≡ false
    → run_main (world f stack) (suc bound) (start_state hello input) ≡ Ends (Exit 0) (done (start_state hello input))
unfolding run_main call call_body bounded_call calls callee need finish ◌>>=◌ go_on give stop
ran f stack input bound e h =
    ap (λ o. go_on o (finish (Defined hello_module hello_main))) (bodied f stack (calls (world f stack) bound) (start_state hello input) e h)

-- a depth within the stack
fits : (stack depth : ℕ) → depth ≤ stack → nat_lt stack depth ≡ false
fits stack depth h = le-ltb stack depth h

-- within each bound but 0 the program writes "Hi" and ends with 0
pub hello_runs : (f : List ℕ → ℕ) (stack : ℕ) (input : List ℕ) (bound : ℕ) → f main_name + f start_name ≤ stack → f putchar_name ≡ 0
    → source_run hello f stack input (suc bound) ≡ hello_run
unfolding source_run called
hello_runs f stack input bound enough none =
    ap seen (ran f stack input bound
    (fits stack (f main_name + (f start_name + 0)) (omega (arith, enough)))
    (fits stack (f putchar_name + (f main_name + (f start_name + 0))) (omega (arith, enough, none))))
