-- Bump and main in C where bump adds 2^31 - 1, so that its second call meets an undefined operation at once. Within no bound does
-- C's meaning say what comes behind that call. The flow graphs come to it too, with the same value of n.
use Rattle.std.specs.Prelude.{List, [], ◌∷◌, map, codes}
use Rattle.std.proofs.Common.{arith, true, refl}
use Rattle.pw_value.specs.declared.value.Byte.{Byte}
use Rattle.pw_value.specs.declared.value.Byte.TheVariants as B
use Rattle.pw_value.specs.Objects.{Object}
use Rattle.pw_types.specs.TypedTrees as T
use Rattle.pw_types.specs.TypedTrees.{FunctionValue}
use Rattle.pw_flow.specs.declared.flow.Op.{Op}
use Rattle.pw_flow.specs.declared.flow.Op.TheVariants as op
use Rattle.pw_flow.specs.declared.flow.Block.{Block}
use Rattle.pw_flow.specs.declared.flow.FlowFn.{FlowFn}
use Rattle.pw_cmean.specs.Worlds.{Program}
use Rattle.pw_cmean.specs.Acts as source
use Rattle.pw_cmean.specs.Acts.{give, stop, go_on, ◌>>=◌, branch, wrong, look, make, end_object, write, next_byte, get_char, put_char, called, returned, during, with_object, need, undefined, told, judge}
use Rattle.pw_cmean.specs.Access.{objects_now, within, load, store, copy, fetch, put}
use Rattle.pw_cmean.specs.Operators.{truth, outcome_of, on_numbers, unary_number, unary, advance, advance_elements, difference, ordered, compared, on_pointers, pointer_and_number, number_and_pointer, binary, convert}
use Rattle.pw_cmean.specs.Evaluation.{local_place, symbol_place, used, value_by, value_at, cast, bounded_call, take_room, library_call, call_body, call, call_value, old_value, update, step, answer_of, place_of, values_of}
use Rattle.pw_cmean.specs.Execution.{go_forward, caught, taking_up, after_body, turn, loop, meet_loop, always, value_of, condition, for_condition, drop_value, switch_to, after_switch, with_locals, set_local, initialise, initialise_all, meaning, items, arms, behind_arms}
use Rattle.pw_cmean.specs.SourceRun.{set_parameters, result_of, run_body, callee, calls, finish, run_main}
use Rattle.pw_run.specs.Runs.{AreAlike, none, also, Met}
use Rattle.pw_run_languages.specs.Commands.{command}
use Rattle.pw_run_languages.specs.Programs as flows
use Rattle.pw_run_languages.specs.FlowRun as flow
use Rattle.pw_run_languages.specs.FlowRun.{flow_run}
use Rattle.pw_law_source.specs.Source.{source_progress}
use Rattle.pw_law_source.specs.Lowering.{SameGlobals, MomentKept}
use Rattle.pw_tests_runs.proofs.Programs.{bump, bump_main, start, global}
use Rattle.pw_tests_runs.proofs.SourceRows.{number, of_n, sum, tree, module_tree, bump_tree, main_tree}

-- ---- the program, and its flow graphs

abbrev bump_much : FunctionValue
bump_much = record bump_tree { body = T.Block 0 0 0 [] (T.OneStatement (T.Evaluate 0 (T.Node 0 number (T.Assign of_n (sum 2147483647)))) T.NoStatement) }

abbrev much : Program
much = record { modules = record module_tree { tree = record tree { functions = bump_much ∷ main_tree ∷ [] } } ∷ [] }

abbrev by_much : Op → Op
by_much (op.Const t n) = op.Const t 2147483647
by_much o = o

abbrev graph_of_bump : FlowFn
graph_of_bump = record bump { blocks = map (λ (b : Block). record b { ops = map by_much b.ops }) bump.blocks }

abbrev graphs : flows.Program
graphs = record {
  modules = record { name = codes "a"; globals = global (codes "n") ∷ []; functions = graph_of_bump ∷ bump_main ∷ start ∷ []; declared = [] } ∷ [];
  frame_of = λ f. 0;
  stack = 0;
}

-- ---- the calls and returns up to there, the latest first

abbrev first : List Byte
first = B.Num 0 ∷ B.Num 0 ∷ B.Num 0 ∷ B.Num 0 ∷ []

abbrev later : List Byte
later = B.Num 127 ∷ B.Num 255 ∷ B.Num 255 ∷ B.Num 255 ∷ []

abbrev n_is : List Byte → List Object
n_is bytes = record { bytes = bytes; live = true; writable = true } ∷ []

same_first : SameGlobals graphs (n_is first) (n_is first)
same_first = record {
  place = λ o. o;
  globals = (refl, record { bytes = also _ _ _ _ refl (also _ _ _ _ refl (also _ _ _ _ refl (also _ _ _ _ refl none))); scalar = refl }, tt);
}

same_later : SameGlobals graphs (n_is later) (n_is later)
same_later = record {
  place = λ o. o;
  globals = (refl, record { bytes = also _ _ _ _ refl (also _ _ _ _ refl (also _ _ _ _ refl (also _ _ _ _ refl none))); scalar = refl }, tt);
}

abbrev moments : List source.Moment
moments =
    source.Called (codes "bump") (n_is later) ∷ source.Returned (codes "bump") (n_is later)
    ∷ source.Called (codes "bump") (n_is first) ∷ source.Called (codes "main") (n_is first) ∷ []

abbrev calls_noted : List flow.Moment
calls_noted =
    flow.Called (codes "bump") (n_is later) ∷ flow.Returned (codes "bump") (n_is later)
    ∷ flow.Called (codes "bump") (n_is first) ∷ flow.Called (codes "main") (n_is first) ∷ []

alike : AreAlike (MomentKept graphs) moments calls_noted
alike = also _ _ _ _ (refl, same_later) (also _ _ _ _ (refl, same_later) (also _ _ _ _ (refl, same_first) (also _ _ _ _ (refl, same_first) none)))

-- ---- within two calls and more

comes_to_the_call : Met (MomentKept graphs) (source_progress much (λ f. 0) 0 [] 2) (flow_run graphs [])
unfolding give stop go_on ◌>>=◌ branch wrong look make end_object write next_byte get_char put_char called returned during with_object need undefined told judge objects_now within load store copy fetch put truth outcome_of on_numbers unary_number unary advance advance_elements difference ordered compared on_pointers pointer_and_number number_and_pointer binary convert local_place symbol_place used value_by value_at cast bounded_call take_room library_call call_body call call_value old_value update step answer_of place_of values_of go_forward caught taking_up after_body turn loop meet_loop always value_of condition for_condition drop_value switch_to after_switch with_locals set_local initialise initialise_all meaning items arms behind_arms set_parameters result_of run_body callee calls finish run_main source_progress command flow.step flow.steps flow_run
comes_to_the_call = record {
  at = 8;
  view = record { output = []; read = 0; events = 3; log = calls_noted };
  is = refl;
  same = record { output = refl; read = refl; log = alike };
  counted = omega arith;
}
