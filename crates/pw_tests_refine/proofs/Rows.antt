-- Small programs, each with what its source means and what its flow graphs do, by computing the definitions: how the run
-- ends, and what it puts out.
use Rattle.std.proofs.Common.{ℕ, ◌≡◌, refl, true, false, Some, None, List, [], ◌∷◌, ◌++◌, length}
use Rattle.std.specs.Prelude.{codes, decimal, bytes_eq}
use Rattle.std.proofs.lemmas.Slice.Eq.{bytes_eq-Decides}
use Rattle.pw_types.specs.TypeTrees.{CType, Int, Pointer, Array, Function as FunctionType, Record, QType, QTypes, Qualified, NoType, OneType, RecordValue}
use Rattle.pw_types.specs.declared.record.RecordKind.TheVariants.{Structure}
use Rattle.pw_types.specs.declared.kind.IntKind.TheVariants as K
use Rattle.pw_types.specs.declared.tree.BinaryOperator.{BinaryOperator}
use Rattle.pw_types.specs.declared.tree.BinaryOperator.TheVariants as O
use Rattle.pw_types.specs.declared.tree.LogicOperator.TheVariants as L
use Rattle.pw_types.specs.TypedTrees.{External, Hidden, Expression, Form, Node, Number, Local, Function, Binary, Logic, Assign, Cast, Decay, Member, Deref, Address, Call, CallValue, Expressions, NoExpression, OneExpression, Initialiser, Bytes, Statement, Evaluate, Block, If, While, For, Switch, Label, Goto, Break, Continue, Return, NoArm, Arm, NoElse, Statements, NoStatement, OneStatement, LocalValue, FunctionValue, ItemBytes, GlobalValue}
use Rattle.pw_lower.specs.Expressions.{lower}
use Rattle.pw_lower.specs.Statements.{lower_statement}
use Rattle.pw_lower.specs.Modules.{lowered, lowered_function}
use Rattle.pw_cmean.specs.Worlds.{Program}
use Rattle.pw_cmean.specs.declared.undefined.Undef.TheVariants.{EndedObject}
use Rattle.pw_cmean.specs.Acts.{Undefined, give, stop, go_on, ◌>>=◌, branch, wrong, look, make, end_object, write, next_byte, get_char, put_char, called, returned, during, with_object, need, undefined, told, judge}
use Rattle.pw_cmean.specs.Access.{objects_now, within, load, store, copy, fetch, put}
use Rattle.pw_cmean.specs.Operators.{truth, outcome_of, on_numbers, unary_number, unary, advance, advance_elements, difference, ordered, compared, on_pointers, pointer_and_number, number_and_pointer, binary, convert}
use Rattle.pw_cmean.specs.Evaluation.{local_place, symbol_place, used, value_by, value_at, cast, bounded_call, take_room, library_call, call_body, call, call_value, old_value, update, step, answer_of, place_of, values_of}
use Rattle.pw_cmean.specs.Execution.{go_forward, caught, taking_up, after_body, turn, loop, meet_loop, always, value_of, condition, for_condition, drop_value, switch_to, after_switch, with_locals, set_local, initialise, initialise_all, meaning, items, arms, behind_arms}
use Rattle.pw_cmean.specs.SourceRun.{set_parameters, result_of, run_body, callee, calls, finish, run_main, source_run}
use Rattle.pw_run.specs.Runs.{Stage, Going, Over, Wrong, Ended, StackFull}
use Rattle.pw_run_languages.specs.Commands.{command}
use Rattle.pw_run_languages.specs.FlowRun as flow
use Rattle.pw_run_languages.specs.FlowRun.{flow_run}
use Rattle.pw_law_source.specs.Source.{source_stages}
use Rattle.pw_law_source.specs.Lowering.{flow_program}
use Rattle.pw_tests_refine.proofs.Examples.{frames}

-- ---- what is told of a run

-- it ended with a status, or goes on and has counted so many events, each with its output; or its stack is full; or it
-- has no meaning, or went astray
data Told : Type 0 where
  Exits : ℕ → List ℕ → Told
  GoesOn : ℕ → List ℕ → Told
  Full : Told
  Nothing : Told

abbrev tells : {M : Type 0} → Stage M → Told
tells (Over (Ended status) v) = Exits status v.output
tells (Over StackFull v) = Full
tells (Going v) = GoesOn v.events v.output
tells Wrong = Nothing

-- how many events it has counted
abbrev events_of : {M : Type 0} → Stage M → ℕ
events_of (Over end v) = v.events
events_of (Going v) = v.events
events_of Wrong = 0

abbrev means : Program → ℕ → Told
means p bound = tells (source_stages p frames 1000 [] bound)

abbrev runs : Program → ℕ → Told
runs p steps = tells (flow_run (flow_program p frames 1000) [] steps)

-- ---- trees

abbrev plain : CType → QType
plain ty = Qualified ty false false

abbrev int : CType
int = Int K.Int

abbrev char : CType
char = Int K.Char

abbrev node : CType → Form → Expression
node ty form = Node 1 (plain ty) form

abbrev number : ℕ → Expression
number n = node int (Number n)

abbrev local : ℕ → Expression
local k = node int (Local k)

abbrev operation : BinaryOperator → Expression → Expression → Expression
operation o l r = node int (Binary o l r)

abbrev assign : ℕ → Expression → Statement
assign k e = Evaluate 1 (node int (Assign (local k) e))

abbrev list : List Statement → Statements
list [] = NoStatement
list (s ∷ rest) = OneStatement s (list rest)

abbrev variable : List ℕ → QType → LocalValue
variable name ty = record { name = name; ty = ty; writable = true }

abbrev takes : List CType → QTypes
takes [] = NoType
takes (ty ∷ rest) = OneType (plain ty) (takes rest)

-- a function from ints to an int
abbrev function : List ℕ → List CType → List LocalValue → ℕ → List ℕ → Statement → FunctionValue
function name params locals labels named body = record {
  name = External name;
  token = 1;
  ty = plain (FunctionType (plain int) (takes params));
  params = length params;
  locals = locals;
  labels = labels;
  named = named;
  body = body;
}

-- `main` with so many locals in its block
abbrev main : List LocalValue → ℕ → List ℕ → List Initialiser → List Statement → FunctionValue
main locals labels named initialisers body = function (codes "main") [] locals labels named (Block 1 0 (length locals) initialisers (list body))

abbrev program : List RecordValue → List GlobalValue → List FunctionValue → Program
program records globals functions = record {
  modules = record { name = codes "a"; tree = record { records = records; globals = globals; functions = functions; declared = [] } } ∷ [];
}

abbrev call_of : List ℕ → Expressions → Expression
call_of name args = node int (Call (External name) args)

abbrev argument : Expression → Expressions
argument e = OneExpression e NoExpression

-- ---- the programs

-- int main(void){int i; int s; s=0; for(i=5;i<7;i=i+1){ if(s==0){s=1; continue;} break; } return i;}
abbrev for_continues : Program
for_continues = program [] [] (main (variable (codes "i") (plain int) ∷ variable (codes "s") (plain int) ∷ []) 0 [] []
    (assign 1 (number 0)
    ∷ For 1 (Some (node int (Assign (local 0) (number 5)))) (Some (operation O.Less (local 0) (number 7))) (Some (node int (Assign (local 0) (operation O.Add (local 0) (number 1)))))
    (Block 1 2 0 [] (list (If 1 (Arm 1 (operation O.Equal (local 1) (number 0)) (Block 1 2 0 [] (list (assign 1 (number 1) ∷ Continue 1 ∷ []))) NoArm) NoElse ∷ Break 1 ∷ [])))
    ∷ Return 1 (Some (local 0)) ∷ []) ∷ [])

-- int main(void){goto c; a: return 7; b: goto a; c: goto b;}
abbrev gotos : Program
gotos = program [] [] (main [] 3 (0 ∷ 1 ∷ 2 ∷ []) [] (Goto 1 2 ∷ Label 1 (0 ∷ []) (Return 1 (Some (number 7))) ∷ Label 1 (1 ∷ []) (Goto 1 0) ∷ Label 1 (2 ∷ []) (Goto 1 1) ∷ []) ∷ [])

-- int f(int a){return *&a;} int main(void){return f(5);}
abbrev slots : Program
slots = program [] []
    (function (codes "f") (int ∷ []) (variable (codes "a") (plain int) ∷ []) 0 [] (Block 1 1 0 [] (list (Return 1 (Some (node int (Deref (node (Pointer (plain int)) (Address (local 0)))))) ∷ [])))
    ∷ main [] 0 [] [] (Return 1 (Some (call_of (codes "f") (argument (number 5)))) ∷ []) ∷ [])

-- int main(void){switch(3){case 1: return 1; default: return 2; case 3: return 3;}}
abbrev cases : Program
cases = program [] [] (main [] 3 [] []
    (Switch 1 (number 3) (record { value = 1; label = 0 } ∷ record { value = 3; label = 2 } ∷ []) (Some 1)
    (Block 1 0 0 [] (list (Label 1 (0 ∷ []) (Return 1 (Some (number 1))) ∷ Label 1 (1 ∷ []) (Return 1 (Some (number 2))) ∷ Label 1 (2 ∷ []) (Return 1 (Some (number 3))) ∷ []))) ∷ []) ∷ [])

-- int main(void){char a[5]="abcd"; return a[4];}
abbrev strings : Program
strings = program [] (record { name = Hidden 0; ty = plain (Array (plain char) (Some 5)); writable = false; items = record { offset = 0; item = ItemBytes (codes "abcd" ++ 0 ∷ []) } ∷ [] } ∷ [])
    (main (variable (codes "a") (plain (Array (plain char) (Some 5))) ∷ []) 0 [] (Bytes 0 0 [] ∷ [])
    (Return 1 (Some (node int (Cast (node char (Deref (node (Pointer (plain char)) (Binary O.Add (node (Pointer (plain char)) (Decay (node (Array (plain char) (Some 5)) (Local 0)))) (number 4)))))))) ∷ []) ∷ [])

-- int f(int a,int b){return 0;} int main(void){return f(putchar(97),putchar(98));}
abbrev arguments : Program
arguments = program [] []
    (function (codes "f") (int ∷ int ∷ []) (variable (codes "a") (plain int) ∷ variable (codes "b") (plain int) ∷ []) 0 [] (Block 1 2 0 [] (list (Return 1 (Some (number 0)) ∷ [])))
    ∷ main [] 0 [] [] (Return 1 (Some (call_of (codes "f") (OneExpression (call_of (codes "putchar") (argument (number 97))) (argument (call_of (codes "putchar") (argument (number 98))))))) ∷ []) ∷ [])

-- int main(void){return 1 && 2;}
abbrev both : Program
both = program [] [] (main [] 0 [] [] (Return 1 (Some (node int (Logic L.And (number 1) (number 2)))) ∷ []) ∷ [])

-- int main(void){int n; n=0; switch(2){case 1: while(n<3){n=n+1; case 2: n=n+10;}} return n;}
abbrev switch_into_a_loop : Program
switch_into_a_loop = program [] [] (main (variable (codes "n") (plain int) ∷ []) 2 [] []
    (assign 0 (number 0)
    ∷ Switch 1 (number 2) (record { value = 1; label = 0 } ∷ record { value = 2; label = 1 } ∷ []) None
    (Block 1 1 0 [] (list (Label 1 (0 ∷ []) (While 1 (operation O.Less (local 0) (number 3)) (Block 1 1 0 [] (list (assign 0 (operation O.Add (local 0) (number 1)) ∷ Label 1 (1 ∷ []) (assign 0 (operation O.Add (local 0) (number 10))) ∷ [])))) ∷ [])))
    ∷ Return 1 (Some (local 0)) ∷ []) ∷ [])

-- int f(int n){int(*p)(int); p=f; if(n==0) return 0; return n+(*p)(n-1);} int main(void){return f(2);}
abbrev through_a_pointer : Program
through_a_pointer = (let f : CType = FunctionType (plain int) (takes (int ∷ [])) in
    let p : CType = Pointer (plain f) in
    program [] []
    (function (codes "f") (int ∷ []) (variable (codes "n") (plain int) ∷ variable (codes "p") (plain p) ∷ []) 0 []
    (Block 1 1 1 [] (list
    (Evaluate 1 (node p (Assign (node p (Local 1)) (node p (Decay (node f (Function (External (codes "f"))))))))
    ∷ If 1 (Arm 1 (operation O.Equal (local 0) (number 0)) (Return 1 (Some (number 0))) NoArm) NoElse
    ∷ Return 1 (Some (operation O.Add (local 0) (node int (CallValue (node p (Local 1)) (argument (operation O.Subtract (local 0) (number 1))))))) ∷ [])))
    ∷ main [] 0 [] [] (Return 1 (Some (call_of (codes "f") (argument (number 2)))) ∷ []) ∷ []))

-- int main(void){struct {char c; int n;} a, b; a.n=5; b=a; return b.n;}
abbrev structures : Program
structures = program (record { kind = Structure; content = Some (record { members = record { name = codes "c"; ty = plain char } ∷ record { name = codes "n"; ty = plain int } ∷ []; offsets = 0 ∷ 4 ∷ []; layout = record { size = 8; align = 4 }; shape = codes "{8:ci}"; depth = 1 }) } ∷ []) []
    (main (variable (codes "a") (plain (Record 0)) ∷ variable (codes "b") (plain (Record 0)) ∷ []) 0 [] []
    (Evaluate 1 (node int (Assign (node int (Member (node (Record 0) (Local 0)) 4)) (number 5)))
    ∷ Evaluate 1 (node (Record 0) (Assign (node (Record 0) (Local 1)) (node (Record 0) (Local 0))))
    ∷ Return 1 (Some (node int (Member (node (Record 0) (Local 1)) 4))) ∷ []) ∷ [])

-- int main(void){char c; c=300; return c;}
abbrev narrowed : Program
narrowed = program [] [] (main (variable (codes "c") (plain char) ∷ []) 0 [] []
    (Evaluate 1 (node char (Assign (node char (Local 0)) (node char (Cast (number 300))))) ∷ Return 1 (Some (node int (Cast (node char (Local 0))))) ∷ []) ∷ [])

-- int main(void){volatile int v; v=3; return v;}
abbrev volatiles : Program
volatiles = program [] [] (main (variable (codes "v") (Qualified int false true) ∷ []) 0 [] []
    (Evaluate 1 (Node 1 (Qualified int false true) (Assign (Node 1 (Qualified int false true) (Local 0)) (number 3))) ∷ Return 1 (Some (Node 1 (Qualified int false true) (Local 0))) ∷ []) ∷ [])

-- int main(void){int *p; {int x; x=1; p=&x;} return *p;}
abbrev ended_objects : Program
ended_objects = (let p : CType = Pointer (plain int) in
    program [] [] (function (codes "main") [] (variable (codes "p") (plain p) ∷ variable (codes "x") (plain int) ∷ []) 0 []
    (Block 1 0 1 [] (list (Block 1 1 1 [] (list (assign 1 (number 1) ∷ Evaluate 1 (node p (Assign (node p (Local 0)) (node p (Address (local 1))))) ∷ [])) ∷ Return 1 (Some (node int (Deref (node p (Local 0))))) ∷ []))) ∷ []))

-- ---- what their sources mean, each within a bound

record SourcesMean : Type 0 where
  for_continues_mean : means for_continues 3 ≡ Exits 6 []
  gotos_mean_within_2 : means gotos 2 ≡ GoesOn 2 []
  gotos_mean : means gotos 3 ≡ Exits 7 []
  slots_mean : means slots 2 ≡ Exits 5 []
  cases_mean : means cases 1 ≡ Exits 3 []
  arguments_mean : means arguments 2 ≡ Exits 0 (codes "ab")
  both_mean : means both 1 ≡ Exits 1 []
  switch_into_a_loop_mean_within_1 : means switch_into_a_loop 1 ≡ GoesOn 1 []
  switch_into_a_loop_mean : means switch_into_a_loop 2 ≡ Exits 10 []
  through_a_pointer_mean_within_3 : means through_a_pointer 3 ≡ GoesOn 3 []
  through_a_pointer_mean : means through_a_pointer 4 ≡ Exits 3 []
  structures_mean : means structures 1 ≡ Exits 5 []
  narrowed_mean : means narrowed 1 ≡ Exits 44 []
  volatiles_mean : means volatiles 1 ≡ Exits 3 []

sources_mean : SourcesMean
unfolding give stop go_on ◌>>=◌ branch wrong look make end_object write next_byte get_char put_char called returned during with_object need undefined told judge objects_now within load store copy fetch put truth outcome_of on_numbers unary_number unary advance advance_elements difference ordered compared on_pointers pointer_and_number number_and_pointer binary convert local_place symbol_place used value_by value_at cast bounded_call take_room library_call call_body call call_value old_value update step answer_of place_of values_of go_forward caught taking_up after_body turn loop meet_loop always value_of condition for_condition drop_value switch_to after_switch with_locals set_local initialise initialise_all meaning items arms behind_arms set_parameters result_of run_body callee calls finish run_main source_stages
sources_mean = record {
  for_continues_mean = refl;
  gotos_mean_within_2 = refl;
  gotos_mean = refl;
  slots_mean = refl;
  cases_mean = refl;
  arguments_mean = refl;
  both_mean = refl;
  switch_into_a_loop_mean_within_1 = refl;
  switch_into_a_loop_mean = refl;
  through_a_pointer_mean_within_3 = refl;
  through_a_pointer_mean = refl;
  structures_mean = refl;
  narrowed_mean = refl;
  volatiles_mean = refl;
}

ended_objects_have_no_meaning : (source_run ended_objects frames 1000 [] 1).end ≡ Undefined EndedObject (codes "a") 1
unfolding give stop go_on ◌>>=◌ branch wrong look make end_object write next_byte get_char put_char called returned during with_object need undefined told judge objects_now within load store copy fetch put truth outcome_of on_numbers unary_number unary advance advance_elements difference ordered compared on_pointers pointer_and_number number_and_pointer binary convert local_place symbol_place used value_by value_at cast bounded_call take_room library_call call_body call call_value old_value update step answer_of place_of values_of go_forward caught taking_up after_body turn loop meet_loop always value_of condition for_condition drop_value switch_to after_switch with_locals set_local initialise initialise_all meaning items arms behind_arms set_parameters result_of run_body callee calls finish run_main source_run
ended_objects_have_no_meaning = refl

-- ---- what their flow graphs do, within so many steps

record GraphsRun : Type 0 where
  for_continues_run : runs for_continues 80 ≡ Exits 6 []
  gotos_run : runs gotos 40 ≡ Exits 7 []
  gotos_count : events_of (flow_run (flow_program gotos frames 1000) [] 40) ≡ 4
  slots_run : runs slots 40 ≡ Exits 5 []
  cases_run : runs cases 40 ≡ Exits 3 []
  arguments_run : runs arguments 40 ≡ Exits 0 (codes "ab")
  both_run : runs both 40 ≡ Exits 1 []
  switch_into_a_loop_run : runs switch_into_a_loop 60 ≡ Exits 10 []
  through_a_pointer_run : runs through_a_pointer 80 ≡ Exits 3 []
  structures_run : runs structures 40 ≡ Exits 5 []
  narrowed_run : runs narrowed 40 ≡ Exits 44 []
  volatiles_run : runs volatiles 40 ≡ Exits 3 []

graphs_run : GraphsRun
unfolding lower lower_statement lowered_function lowered command flow.step flow.steps flow_run
graphs_run = record {
  for_continues_run = refl;
  gotos_run = refl;
  gotos_count = refl;
  slots_run = refl;
  cases_run = refl;
  arguments_run = refl;
  both_run = refl;
  switch_into_a_loop_run = refl;
  through_a_pointer_run = refl;
  structures_run = refl;
  narrowed_run = refl;
  volatiles_run = refl;
}

-- ---- a local that gets the bytes of a hidden object, whose name has its number in it

own_name : bytes_eq (decimal 0) (decimal 0) ≡ true
own_name = (bytes_eq-Decides (decimal 0) (decimal 0)).1 refl

strings_mean : means strings 1 ≡ Exits 0 []
unfolding give stop go_on ◌>>=◌ branch wrong look make end_object write next_byte get_char put_char called returned during with_object need undefined told judge objects_now within load store copy fetch put truth outcome_of on_numbers unary_number unary advance advance_elements difference ordered compared on_pointers pointer_and_number number_and_pointer binary convert local_place symbol_place used value_by value_at cast bounded_call take_room library_call call_body call call_value old_value update step answer_of place_of values_of go_forward caught taking_up after_body turn loop meet_loop always value_of condition for_condition drop_value switch_to after_switch with_locals set_local initialise initialise_all meaning items arms behind_arms set_parameters result_of run_body callee calls finish run_main source_stages
strings_mean = rw own_name refl

strings_run : runs strings 40 ≡ Exits 0 []
unfolding lower lower_statement lowered_function lowered command flow.step flow.steps flow_run
strings_run = rw own_name refl
