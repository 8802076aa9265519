-- A small program, its flow graphs, and what both runs of it come to, by computing the definitions.
use Rattle.std.proofs.Common.{ℕ, ◌≡◌, refl, arith, true, false, if◌then◌else◌, List, [], ◌∷◌, Some, None}
use Rattle.std.specs.Prelude.{codes}
use Rattle.pw_value.specs.declared.value.Kind.TheVariants.{W32}
use Rattle.pw_value.specs.declared.value.Byte.{Byte}
use Rattle.pw_value.specs.declared.value.Byte.TheVariants as B
use Rattle.pw_value.specs.Objects.{Object}
use Rattle.pw_value.specs.NameLists.{has_name}
use Rattle.pw_value.specs.ProgramNames.{library_functions}
use Rattle.pw_types.specs.TypeTrees.{Void, Int, Function as FunctionType, QType, Qualified, NoType}
use Rattle.pw_types.specs.declared.kind.IntKind.TheVariants as K
use Rattle.pw_types.specs.declared.tree.BinaryOperator.TheVariants as O
use Rattle.pw_types.specs.TypedTrees.{Symbol, External, Expression, Node, Number, Global, Binary, Assign, Call, NoExpression, Statement, Evaluate, Block, Return, Statements, NoStatement, OneStatement, FunctionValue, GlobalValue, ModuleValue}
use Rattle.pw_flow.specs.declared.flow.Op.TheVariants as op
use Rattle.pw_flow.specs.declared.flow.BinKind.TheVariants.{Add}
use Rattle.pw_flow.specs.declared.flow.End.TheVariants as end
use Rattle.pw_flow.specs.declared.flow.FlowFn.{FlowFn}
use Rattle.pw_lower.specs.Expressions.{lower}
use Rattle.pw_lower.specs.Statements.{lower_statement}
use Rattle.pw_lower.specs.Modules.{lowered, lowered_function}
use Rattle.pw_cmean.specs.Worlds.{Program}
use Rattle.pw_cmean.specs.Acts as source
use Rattle.pw_cmean.specs.Acts.{give, stop, go_on, ◌>>=◌, branch, wrong, look, make, end_object, write, next_byte, get_char, put_char, called, returned, during, with_object, need, undefined, told, judge}
use Rattle.pw_cmean.specs.Access.{objects_now, within, load, store, copy, fetch, put}
use Rattle.pw_cmean.specs.Operators.{truth, outcome_of, on_numbers, unary_number, unary, advance, advance_elements, difference, ordered, compared, on_pointers, pointer_and_number, number_and_pointer, binary, convert}
use Rattle.pw_cmean.specs.Evaluation.{local_place, symbol_place, used, value_by, value_at, cast, bounded_call, take_room, library_call, call_body, call, call_value, old_value, update, step, answer_of, place_of, values_of}
use Rattle.pw_cmean.specs.Execution.{go_forward, caught, taking_up, after_body, turn, loop, meet_loop, always, value_of, condition, for_condition, drop_value, switch_to, after_switch, with_locals, set_local, initialise, initialise_all, meaning, items, arms, behind_arms}
use Rattle.pw_cmean.specs.SourceRun.{set_parameters, result_of, run_body, callee, calls, finish, run_main}
use Rattle.pw_run.specs.Runs.{AreAlike, none, also, Met}
use Rattle.pw_run_languages.specs.Commands.{command}
use Rattle.pw_run_languages.specs.Programs as flows
use Rattle.pw_run_languages.specs.FlowRun as flow
use Rattle.pw_run_languages.specs.FlowRun.{flow_run}
use Rattle.pw_law_source.specs.Source.{source_stages}
use Rattle.pw_law_source.specs.Lowering.{ByteKept, SameGlobals, MomentKept, flow_program}

-- ---- int n; void bump(void){n=n+1;} int main(void){bump(); return n;}

abbrev pub int_type : QType
int_type = Qualified (Int K.Int) false false

abbrev pub takes_nothing : QType → QType
takes_nothing result = Qualified (FunctionType result NoType) false false

abbrev pub void_type : QType
void_type = Qualified Void false false

abbrev name_of : List ℕ → Symbol
name_of = External

abbrev pub n_read : Expression
n_read = Node 10 int_type (Global (name_of (codes "n")))

abbrev pub one_more : Expression
one_more = Node 8 int_type (Assign n_read (Node 11 int_type (Binary O.Add n_read (Node 12 int_type (Number 1)))))

abbrev function : List ℕ → QType → List Statement → FunctionValue
function name result body = record {
  name = name_of name;
  token = 1;
  ty = takes_nothing result;
  params = 0;
  locals = [];
  labels = 0;
  named = [];
  body = Block 5 0 0 [] (list body);
}
  where
    list : List Statement → Statements
    list [] = NoStatement
    list (s ∷ rest) = OneStatement s (list rest)

abbrev pub bump : FunctionValue
bump = function (codes "bump") void_type (Evaluate 8 one_more ∷ [])

abbrev pub main : FunctionValue
main = function (codes "main") int_type
    (Evaluate 20 (Node 20 void_type (Call (name_of (codes "bump")) NoExpression)) ∷ Return 22 (Some n_read) ∷ [])

abbrev pub n : GlobalValue
n = record { name = name_of (codes "n"); ty = int_type; writable = true; items = [] }

abbrev pub tree : ModuleValue
tree = record {
  records = [];
  globals = n ∷ [];
  functions = bump ∷ main ∷ [];
  declared = record { name = codes "n"; ty = int_type }
      ∷ record { name = codes "bump"; ty = takes_nothing void_type }
      ∷ record { name = codes "main"; ty = takes_nothing int_type }
      ∷ [];
}

abbrev pub program : Program
program = record { modules = record { name = codes "a"; tree = tree } ∷ [] }

-- ---- its flow graphs

abbrev bump_graph : FlowFn
bump_graph = record {
  name = codes "bump";
  shape = codes "fv";
  params = 0;
  temps = 3;
  slots = [];
  blocks = record {
    depth = 0;
    ops = op.LoadG 0 (codes "n") W32 ∷ op.Const 1 1 ∷ op.Bin Add 2 0 1 ∷ op.StoreG (codes "n") 2 W32 ∷ [];
    end = end.Return None;
  } ∷ [];
}

bump_lowered : lowered_function (codes "a") [] bump ≡ bump_graph
unfolding lower lower_statement lowered_function
bump_lowered = refl

-- ---- both runs

-- the library's functions need no stack
abbrev pub frames : List ℕ → ℕ
frames name = if has_name library_functions name then 0 else 100

abbrev pub graphs : flows.Program
graphs = flow_program program frames 1000

abbrev pub number : ℕ → List Byte
number k = B.Num 0 ∷ B.Num 0 ∷ B.Num 0 ∷ B.Num k ∷ []

abbrev pub n_is : ℕ → List Object
n_is k = record { bytes = number k; live = true; writable = true } ∷ []

-- each byte is kept
bytes_kept : (k : ℕ) (place : ℕ → ℕ) (objects : List Object) → AreAlike (ByteKept place objects) (number k) (number k)
bytes_kept k place objects =
    also (B.Num 0) (B.Num 0) _ _ refl (also (B.Num 0) (B.Num 0) _ _ refl (also (B.Num 0) (B.Num 0) _ _ refl (also (B.Num k) (B.Num k) _ _ refl none)))

same_at : (k : ℕ) → SameGlobals graphs (n_is k) (n_is k)
unfolding lower lower_statement lowered_function lowered
same_at k = record {
  place = λ o. o;
  globals = (refl, record { bytes = bytes_kept k (λ o. o) (n_is k); scalar = refl }, tt);
}

-- the calls and returns of both runs, the latest first, from before `bump` is called to the end
called_main : AreAlike (MomentKept graphs) (source.Called (codes "main") (n_is 0) ∷ []) (flow.Called (codes "main") (n_is 0) ∷ [])
called_main = also _ _ _ _ (refl, same_at 0) none

all_calls : AreAlike (MomentKept graphs)
    (source.Returned (codes "main") (n_is 1) ∷ source.Returned (codes "bump") (n_is 1) ∷ source.Called (codes "bump") (n_is 0) ∷ source.Called (codes "main") (n_is 0) ∷ [])
    (flow.Returned (codes "main") (n_is 1) ∷ flow.Returned (codes "bump") (n_is 1) ∷ flow.Called (codes "bump") (n_is 0) ∷ flow.Called (codes "main") (n_is 0) ∷ [])
all_calls = also _ _ _ _ (refl, same_at 1) (also _ _ _ _ (refl, same_at 1) (also _ _ _ _ (refl, same_at 0) called_main))

-- within no call the source's run stands before that of main, as the flow graphs' run does at its start
meets_nothing : Met (MomentKept graphs) (source_stages program frames 1000 [] 0) (flow_run graphs [])
unfolding give stop go_on ◌>>=◌ branch wrong look make end_object write next_byte get_char put_char called returned during with_object need undefined told judge objects_now within load store copy fetch put truth outcome_of on_numbers unary_number unary advance advance_elements difference ordered compared on_pointers pointer_and_number number_and_pointer binary convert local_place symbol_place used value_by value_at cast bounded_call take_room library_call call_body call call_value old_value update step answer_of place_of values_of go_forward caught taking_up after_body turn loop meet_loop always value_of condition for_condition drop_value switch_to after_switch with_locals set_local initialise initialise_all meaning items arms behind_arms set_parameters result_of run_body callee calls finish run_main source_stages lower lower_statement lowered_function lowered command flow.step flow.steps flow_run
meets_nothing = record {
  at = 0;
  view = record { output = []; read = 0; events = 0; log = [] };
  is = refl;
  same = record { output = refl; read = refl; log = none };
  counted = omega arith;
}

-- within one it stands before that of bump
meets_one : Met (MomentKept graphs) (source_stages program frames 1000 [] 1) (flow_run graphs [])
unfolding give stop go_on ◌>>=◌ branch wrong look make end_object write next_byte get_char put_char called returned during with_object need undefined told judge objects_now within load store copy fetch put truth outcome_of on_numbers unary_number unary advance advance_elements difference ordered compared on_pointers pointer_and_number number_and_pointer binary convert local_place symbol_place used value_by value_at cast bounded_call take_room library_call call_body call call_value old_value update step answer_of place_of values_of go_forward caught taking_up after_body turn loop meet_loop always value_of condition for_condition drop_value switch_to after_switch with_locals set_local initialise initialise_all meaning items arms behind_arms set_parameters result_of run_body callee calls finish run_main source_stages lower lower_statement lowered_function lowered command flow.step flow.steps flow_run
meets_one = record {
  at = 1;
  view = record { output = []; read = 0; events = 1; log = flow.Called (codes "main") (n_is 0) ∷ [] };
  is = refl;
  same = record { output = refl; read = refl; log = called_main };
  counted = omega arith;
}

-- within two it ends with the value of n
meets_two : Met (MomentKept graphs) (source_stages program frames 1000 [] 2) (flow_run graphs [])
unfolding give stop go_on ◌>>=◌ branch wrong look make end_object write next_byte get_char put_char called returned during with_object need undefined told judge objects_now within load store copy fetch put truth outcome_of on_numbers unary_number unary advance advance_elements difference ordered compared on_pointers pointer_and_number number_and_pointer binary convert local_place symbol_place used value_by value_at cast bounded_call take_room library_call call_body call call_value old_value update step answer_of place_of values_of go_forward caught taking_up after_body turn loop meet_loop always value_of condition for_condition drop_value switch_to after_switch with_locals set_local initialise initialise_all meaning items arms behind_arms set_parameters result_of run_body callee calls finish run_main source_stages lower lower_statement lowered_function lowered command flow.step flow.steps flow_run
meets_two = record {
  at = 10;
  view = record {
    output = [];
    read = 0;
    events = 2;
    log = flow.Returned (codes "main") (n_is 1) ∷ flow.Returned (codes "bump") (n_is 1) ∷ flow.Called (codes "bump") (n_is 0) ∷ flow.Called (codes "main") (n_is 0) ∷ [];
  };
  is = refl;
  same = record { output = refl; read = refl; log = all_calls };
  counted = omega arith;
}
