-- Small programs and what their runs come to, by computing the definitions.
use Rattle.std.proofs.Common.{ℕ, suc, ◌≡◌, refl, true, false, List, [], ◌∷◌, Some}
use Rattle.std.specs.Prelude.{codes}
use Rattle.pw_types.specs.TypeTrees.{Int, Function as FunctionType, QType, Qualified, QTypes, NoType}
use Rattle.pw_types.specs.declared.kind.IntKind.TheVariants as K
use Rattle.pw_types.specs.declared.tree.BinaryOperator.TheVariants as O
use Rattle.pw_types.specs.TypedTrees.{External, Expression, Node, Number, Local, Binary, Assign, Cast, Call, NoExpression, OneExpression, Initialiser, Value as ByValue, Statement, Empty, Evaluate, Block, If, While, Do, Label, Goto, Return, NoArm, Arm, NoElse, Statements, NoStatement, OneStatement, LocalValue, FunctionValue}
use Rattle.pw_cmean.specs.declared.undefined.Undef.{Undef}
use Rattle.pw_cmean.specs.declared.undefined.Undef.TheVariants as U
use Rattle.pw_cmean.specs.Worlds.{Program}
use Rattle.pw_cmean.specs.Acts.{Undefined, StackFull, Exit, Bound, give, stop, go_on, ◌>>=◌, branch, wrong, look, make, end_object, write, next_byte, get_char, put_char, called, returned, during, with_object, need, undefined, told, judge}
use Rattle.pw_cmean.specs.Access.{objects_now, within, load, store, copy, fetch, put}
use Rattle.pw_cmean.specs.Operators.{truth, outcome_of, on_numbers, unary_number, unary, advance, advance_elements, difference, ordered, compared, on_pointers, pointer_and_number, number_and_pointer, binary, convert}
use Rattle.pw_cmean.specs.Evaluation.{local_place, symbol_place, used, value_by, value_at, cast, bounded_call, take_room, library_call, call_body, call, call_value, old_value, update, step, answer_of, place_of, values_of}
use Rattle.pw_cmean.specs.Execution.{go_forward, caught, taking_up, after_body, turn, loop, meet_loop, always, value_of, condition, for_condition, drop_value, switch_to, after_switch, with_locals, set_local, initialise, initialise_all, meaning, items, arms, behind_arms}
use Rattle.pw_cmean.specs.SourceRun.{Run, set_parameters, result_of, run_body, callee, calls, finish, run_main, source_run}

abbrev int_type : QType
int_type = Qualified (Int K.Int) false false

abbrev function_type : QTypes → QType
function_type params = Qualified (FunctionType int_type params) false false

abbrev number : ℕ → ℕ → Expression
number t n = Node t int_type (Number n)

abbrev local : ℕ → ℕ → Expression
local t k = Node t int_type (Local k)

abbrev the_local : QType → LocalValue
the_local ty = record { name = []; ty = ty; writable = true }

abbrev list : List Statement → Statements
list [] = NoStatement
list (s ∷ rest) = OneStatement s (list rest)

-- main at token 2, with these locals of its outermost block, its initialisers and statements
abbrev main_of : List LocalValue → List Initialiser → List Statement → FunctionValue
main_of locals initialisers body = record {
  name = External (codes "main");
  token = 2;
  ty = function_type NoType;
  params = 0;
  locals = locals;
  labels = 9;
  named = [];
  body = Block 6 0 (length' locals) initialisers (list body);
}
  where
    length' : List LocalValue → ℕ
    length' [] = 0
    length' (l ∷ rest) = suc (length' rest)

abbrev program_of : List FunctionValue → Program
program_of functions = record {
  modules = record {
    name = codes "a";
    tree = record { records = []; globals = []; functions = functions; declared = [] };
  } ∷ [];
}

abbrev run_of : List FunctionValue → List ℕ → ℕ → Run
run_of functions input bound = source_run (program_of functions) (λ name. 100) 1000 input bound

abbrev ended : ℕ → List ℕ → ℕ → Run
ended status out read = record { end = Exit status; out = out; read = read }

abbrev met : Undef → ℕ → Run
met operation token = record { end = Undefined operation (codes "a") token; out = []; read = 0 }

-- int main(void){return 7;}
abbrev seven : List FunctionValue
seven = main_of [] [] (Return 7 (Some (number 8 7)) ∷ []) ∷ []

-- int main(void){int x=2147483647; x=x+1; return 0;}
abbrev overflow : List FunctionValue
overflow = main_of (the_local int_type ∷ []) (ByValue 0 (number 10 2147483647) ∷ [])
    (Evaluate 12 (Node 13 int_type (Assign (local 12 0) (Node 15 int_type (Binary O.Add (local 14 0) (number 16 1)))))
    ∷ Return 18 (Some (number 19 0))
    ∷ []) ∷ []

-- int main(void){int i=0; L: i=i+1; if(i<10)goto L; return i;}
abbrev ten : List FunctionValue
ten = main_of (the_local int_type ∷ []) (ByValue 0 (number 10 0) ∷ [])
    (Label 12 (0 ∷ []) (Evaluate 14 (Node 15 int_type (Assign (local 14 0) (Node 17 int_type (Binary O.Add (local 16 0) (number 18 1))))))
    ∷ If 20 (Arm 20 (Node 23 int_type (Binary O.Less (local 22 0) (number 24 10))) (Goto 26 0) NoArm) NoElse
    ∷ Return 29 (Some (local 30 0))
    ∷ []) ∷ []

-- int main(void){int c; while((c=getchar())!=-1)putchar(c); return c+1;}, its declarations aside
abbrev character : ℕ → Expression
character t = Node t int_type (Call (External (codes "getchar")) NoExpression)

abbrev echo : List FunctionValue
echo = main_of (the_local int_type ∷ []) []
    (While 10 (Node 18 int_type (Binary O.NotEqual (Node 13 int_type (Assign (local 12 0) (character 15))) (Node 19 int_type (Number 4294967295))))
    (Evaluate 22 (Node 23 int_type (Call (External (codes "putchar")) (OneExpression (local 24 0) NoExpression))))
    ∷ Return 27 (Some (Node 29 int_type (Binary O.Add (local 28 0) (number 30 1))))
    ∷ []) ∷ []

-- int main(void){char c; return c;}
abbrev char_type : QType
char_type = Qualified (Int K.Char) false false

abbrev unset : List FunctionValue
unset = main_of (the_local char_type ∷ []) [] (Return 10 (Some (Node 11 int_type (Cast (Node 11 char_type (Local 0))))) ∷ []) ∷ []

-- int main(void){do; while(0); return 1;}
abbrev once : List FunctionValue
once = main_of [] [] (Do 7 (Empty 8) (number 11 0) ∷ Return 14 (Some (number 15 1)) ∷ []) ∷ []

-- int main(void){return main();}
abbrev endless : List FunctionValue
endless = main_of [] [] (Return 7 (Some (Node 9 int_type (Call (External (codes "main")) NoExpression))) ∷ []) ∷ []

-- int main(void){}
abbrev nothing : List FunctionValue
nothing = main_of [] [] [] ∷ []

abbrev bounded : List ℕ → ℕ → Run
bounded out read = record { end = Bound; out = out; read = read }

abbrev runs : List Run
runs =
    run_of seven [] 1
    ∷ run_of seven [] 0
    ∷ run_of overflow [] 1
    ∷ run_of ten [] 10
    ∷ run_of ten [] 9
    ∷ run_of echo (104 ∷ 105 ∷ []) 3
    ∷ run_of echo (104 ∷ 105 ∷ []) 2
    ∷ run_of unset [] 1
    ∷ run_of once [] 1
    ∷ run_of endless [] 9
    ∷ run_of endless [] 10
    ∷ run_of nothing [] 1
    ∷ []

abbrev wanted : List Run
wanted =
    ended 7 [] 0
    ∷ bounded [] 0
    ∷ met U.SignedOverflow 15
    ∷ ended 10 [] 0
    ∷ bounded [] 0
    ∷ ended 0 (104 ∷ 105 ∷ []) 2
    ∷ bounded (104 ∷ 105 ∷ []) 2
    ∷ met U.UndefinedValue 11
    ∷ ended 1 [] 0
    ∷ bounded [] 0
    ∷ record { end = StackFull; out = []; read = 0 }
    ∷ met U.MissingResult 2
    ∷ []

rows : runs ≡ wanted
unfolding give stop go_on ◌>>=◌ branch wrong look make end_object write next_byte get_char put_char called returned during with_object need undefined told judge objects_now within load store copy fetch put truth outcome_of on_numbers unary_number unary advance advance_elements difference ordered compared on_pointers pointer_and_number number_and_pointer binary convert local_place symbol_place used value_by value_at cast bounded_call take_room library_call call_body call call_value old_value update step answer_of place_of values_of go_forward caught taking_up after_body turn loop meet_loop always value_of condition for_condition drop_value switch_to after_switch with_locals set_local initialise initialise_all meaning items arms behind_arms set_parameters result_of run_body callee calls finish run_main source_run
rows = refl
