-- Bump and main in C are what their flow graphs do, with the frames of the image that is made of them: these implement the
-- program, which therefore is built, and analysed. Where bump adds 2 in place of 1, they do not.
use Rattle.std.specs.Prelude.{ℕ, zero, suc, ◌≡◌, ◌≤◌, true, Some, None, List, [], ◌∷◌, map, codes, Contains}
use Rattle.std.proofs.Common.{arith, ap, subst, sym, refl}
use Rattle.pw_value.specs.declared.value.Byte.{Byte}
use Rattle.pw_value.specs.declared.value.Byte.TheVariants as B
use Rattle.pw_value.specs.Objects.{Object}
use Rattle.pw_types.specs.TypedTrees.{FunctionValue}
use Rattle.pw_types.specs.Rooms.{room_of}
use Rattle.pw_flow.specs.declared.flow.Op.{Op}
use Rattle.pw_flow.specs.declared.flow.Op.TheVariants as op
use Rattle.pw_flow.specs.declared.flow.Block.{Block}
use Rattle.pw_flow.specs.declared.flow.FlowFn.{FlowFn}
use Rattle.pw_webflow.specs.Direction.{directed}
use Rattle.pw_alloc.specs.Allocation.{entered_from}
use Rattle.pw_tests_runs.proofs.InWords.{in_words}
use Rattle.pw_select.specs.Selection.{selected, entered_lines}
use Rattle.pw_delay.specs.Placement.{laid, placed}
use Rattle.pw_link.specs.Linking.{linked}
use Rattle.pw_cmean.specs.Worlds.{Program, ProgramModule, full_name}
use Rattle.pw_cmean.specs.Acts as source
use Rattle.pw_cmean.specs.Acts.{give, stop, go_on, ◌>>=◌, branch, wrong, look, make, end_object, write, next_byte, get_char, put_char, called, returned, during, with_object, need, undefined, told, judge}
use Rattle.pw_cmean.specs.Access.{objects_now, within, load, store, copy, fetch, put}
use Rattle.pw_cmean.specs.Operators.{truth, outcome_of, on_numbers, unary_number, unary, advance, advance_elements, difference, ordered, compared, on_pointers, pointer_and_number, number_and_pointer, binary, convert}
use Rattle.pw_cmean.specs.Evaluation.{local_place, symbol_place, used, value_by, value_at, cast, bounded_call, take_room, library_call, call_body, call, call_value, old_value, update, step, answer_of, place_of, values_of}
use Rattle.pw_cmean.specs.Execution.{go_forward, caught, taking_up, after_body, turn, loop, meet_loop, always, value_of, condition, for_condition, drop_value, switch_to, after_switch, with_locals, set_local, initialise, initialise_all, meaning, items, arms, behind_arms}
use Rattle.pw_cmean.specs.SourceRun.{set_parameters, result_of, run_body, callee, calls, finish, run_main}
use Rattle.pw_run.specs.Runs.{View, Stage, Over, Ended, AreAlike, none, also, Met, Refines}
use Rattle.pw_run_languages.specs.Commands.{command}
use Rattle.pw_run_languages.specs.Programs as flows
use Rattle.pw_run_languages.specs.LawfulPrograms.{IsProgram}
use Rattle.pw_run_languages.specs.FlowRun as flow
use Rattle.pw_run_languages.specs.FlowRun.{flow_run}
use Rattle.pw_law_source.specs.Source.{source_stages, source_progress}
use Rattle.pw_law_source.specs.Lowering.{ByteKept, SameGlobals, MomentKept}
use Rattle.pw_law_layers.specs.Whole.{HasRoom, HaveRooms, roomless, Implements, IsBuilt}
use Rattle.pw_law_analysis.specs.OwedLaws.{IsAnalysed}
use Rattle.pw_tests_runs.proofs.Programs.{bump, bump_main, start, bump_directives, global}
use Rattle.pw_tests_runs.proofs.ProgramRows.{lawful_program}
use Rattle.pw_tests_runs.proofs.SourceRows.{in_c, tree, bump_tree, main_tree}
use Rattle.pw_tests_runs.proofs.BuiltRows.{graphs, places, objects, built}
use Rattle.pw_tests_runs.proofs.SummaryRows.{summaries}
use Rattle.pw_tests_runs.proofs.AnalysedRows.{analysed}
use Rattle.pw_tests_runs.proofs.WrittenLists.{each}
use Rattle.pw_tests_runs.proofs.RunEnds.{refuses, flow_rests}

abbrev q : flows.Program
q = graphs 4096

-- ---- the one global

abbrev number : ℕ → List Byte
number k = B.Num 0 ∷ B.Num 0 ∷ B.Num 0 ∷ B.Num k ∷ []

abbrev n_is : ℕ → List Object
n_is k = record { bytes = number k; live = true; writable = true } ∷ []

bytes_kept : (k : ℕ) (place : ℕ → ℕ) (os : List Object) → AreAlike (ByteKept place os) (number k) (number k)
bytes_kept k place os =
    also (B.Num 0) (B.Num 0) _ _ refl (also (B.Num 0) (B.Num 0) _ _ refl (also (B.Num 0) (B.Num 0) _ _ refl (also (B.Num k) (B.Num k) _ _ refl none)))

same_at : (k : ℕ) → SameGlobals q (n_is k) (n_is k)
same_at k = record { place = λ o. o; globals = (refl, record { bytes = bytes_kept k (λ o. o) (n_is k); scalar = refl }, tt) }

-- ---- calls and returns, the latest first

called_main : AreAlike (MomentKept q) (source.Called (codes "main") (n_is 0) ∷ []) (flow.Called (codes "main") (n_is 0) ∷ [])
called_main = also _ _ _ _ (refl, same_at 0) none

abbrev all_calls : List flow.Moment
all_calls =
    flow.Returned (codes "main") (n_is 2) ∷ flow.Returned (codes "bump") (n_is 2) ∷ flow.Called (codes "bump") (n_is 1)
    ∷ flow.Returned (codes "bump") (n_is 1) ∷ flow.Called (codes "bump") (n_is 0) ∷ flow.Called (codes "main") (n_is 0) ∷ []

abbrev all_moments : List source.Moment
all_moments =
    source.Returned (codes "main") (n_is 2) ∷ source.Returned (codes "bump") (n_is 2) ∷ source.Called (codes "bump") (n_is 1)
    ∷ source.Returned (codes "bump") (n_is 1) ∷ source.Called (codes "bump") (n_is 0) ∷ source.Called (codes "main") (n_is 0) ∷ []

alike : AreAlike (MomentKept q) all_moments all_calls
alike =
    also _ _ _ _ (refl, same_at 2) (also _ _ _ _ (refl, same_at 2) (also _ _ _ _ (refl, same_at 1)
    (also _ _ _ _ (refl, same_at 1) (also _ _ _ _ (refl, same_at 0) called_main))))

-- ---- both runs, whatever the input: within no call, within one, and within more

abbrev whole : View source.Moment
whole = record { output = 50 ∷ []; read = 0; events = 0; log = all_moments }

over : (input : List ℕ) (n : ℕ) → source_progress in_c q.frame_of q.stack input (suc (suc n)) ≡ Over (Ended 2) whole
unfolding give stop go_on ◌>>=◌ branch wrong look make end_object write next_byte get_char put_char called returned during with_object need undefined told judge objects_now within load store copy fetch put truth outcome_of on_numbers unary_number unary advance advance_elements difference ordered compared on_pointers pointer_and_number number_and_pointer binary convert local_place symbol_place used value_by value_at cast bounded_call take_room library_call call_body call call_value old_value update step answer_of place_of values_of go_forward caught taking_up after_body turn loop meet_loop always value_of condition for_condition drop_value switch_to after_switch with_locals set_local initialise initialise_all meaning items arms behind_arms set_parameters result_of run_body callee calls finish run_main source_progress directed in_words entered_from linked
over input zero = refl
over input (suc n) = refl

over_too : (input : List ℕ) → Met (MomentKept q) (Over (Ended 2) whole) (flow_run q input)
unfolding command flow.step flow.steps flow_run directed in_words entered_from selected entered_lines placed laid linked
over_too input = record {
  at = 20;
  view = record { output = 50 ∷ []; read = 0; events = 4; log = all_calls };
  is = refl;
  same = record { output = refl; read = refl; log = alike };
  counted = omega arith;
}

meets : (input : List ℕ) (n : ℕ) → Met (MomentKept q) (source_progress in_c q.frame_of q.stack input n) (flow_run q input)
unfolding give stop go_on ◌>>=◌ branch wrong look make end_object write next_byte get_char put_char called returned during with_object need undefined told judge objects_now within load store copy fetch put truth outcome_of on_numbers unary_number unary advance advance_elements difference ordered compared on_pointers pointer_and_number number_and_pointer binary convert local_place symbol_place used value_by value_at cast bounded_call take_room library_call call_body call call_value old_value update step answer_of place_of values_of go_forward caught taking_up after_body turn loop meet_loop always value_of condition for_condition drop_value switch_to after_switch with_locals set_local initialise initialise_all meaning items arms behind_arms set_parameters result_of run_body callee calls finish run_main source_progress command flow.step flow.steps flow_run directed in_words entered_from selected entered_lines placed laid linked
meets input zero = record {
  at = 0;
  view = record { output = []; read = 0; events = 0; log = [] };
  is = refl;
  same = record { output = refl; read = refl; log = none };
  counted = omega arith;
}
meets input (suc zero) = record {
  at = 1;
  view = record { output = []; read = 0; events = 1; log = flow.Called (codes "main") (n_is 0) ∷ [] };
  is = refl;
  same = record { output = refl; read = refl; log = called_main };
  counted = omega arith;
}
meets input (suc (suc n)) = subst (λ (s : Stage source.Moment). Met (MomentKept q) s (flow_run q input)) (sym (over input n)) (over_too input)

-- ---- and where no function takes room on the stack

over_roomless : (input : List ℕ) (n : ℕ) → source_progress in_c (λ f. 0) 0 input (suc (suc n)) ≡ Over (Ended 2) whole
unfolding give stop go_on ◌>>=◌ branch wrong look make end_object write next_byte get_char put_char called returned during with_object need undefined told judge objects_now within load store copy fetch put truth outcome_of on_numbers unary_number unary advance advance_elements difference ordered compared on_pointers pointer_and_number number_and_pointer binary convert local_place symbol_place used value_by value_at cast bounded_call take_room library_call call_body call call_value old_value update step answer_of place_of values_of go_forward caught taking_up after_body turn loop meet_loop always value_of condition for_condition drop_value switch_to after_switch with_locals set_local initialise initialise_all meaning items arms behind_arms set_parameters result_of run_body callee calls finish run_main source_progress directed in_words entered_from linked
over_roomless input zero = refl
over_roomless input (suc n) = refl

over_roomless_too : (input : List ℕ) → Met (MomentKept q) (Over (Ended 2) whole) (flow_run (roomless q) input)
unfolding command flow.step flow.steps flow_run directed in_words entered_from selected entered_lines placed laid linked
over_roomless_too input = record {
  at = 20;
  view = record { output = 50 ∷ []; read = 0; events = 4; log = all_calls };
  is = refl;
  same = record { output = refl; read = refl; log = alike };
  counted = omega arith;
}

meets_roomless : (input : List ℕ) (n : ℕ) → Met (MomentKept q) (source_progress in_c (λ f. 0) 0 input n) (flow_run (roomless q) input)
unfolding give stop go_on ◌>>=◌ branch wrong look make end_object write next_byte get_char put_char called returned during with_object need undefined told judge objects_now within load store copy fetch put truth outcome_of on_numbers unary_number unary advance advance_elements difference ordered compared on_pointers pointer_and_number number_and_pointer binary convert local_place symbol_place used value_by value_at cast bounded_call take_room library_call call_body call call_value old_value update step answer_of place_of values_of go_forward caught taking_up after_body turn loop meet_loop always value_of condition for_condition drop_value switch_to after_switch with_locals set_local initialise initialise_all meaning items arms behind_arms set_parameters result_of run_body callee calls finish run_main source_progress command flow.step flow.steps flow_run directed in_words entered_from selected entered_lines placed laid linked
meets_roomless input zero = record {
  at = 0;
  view = record { output = []; read = 0; events = 0; log = [] };
  is = refl;
  same = record { output = refl; read = refl; log = none };
  counted = omega arith;
}
meets_roomless input (suc zero) = record {
  at = 1;
  view = record { output = []; read = 0; events = 1; log = flow.Called (codes "main") (n_is 0) ∷ [] };
  is = refl;
  same = record { output = refl; read = refl; log = called_main };
  counted = omega arith;
}
meets_roomless input (suc (suc n)) = subst (λ (s : Stage source.Moment). Met (MomentKept q) s (flow_run (roomless q) input)) (sym (over_roomless input n)) (over_roomless_too input)

-- ---- they implement the program

lawful : IsProgram q
lawful = record {
  modules = lawful_program.modules;
  order = lawful_program.order;
  names = lawful_program.names;
  defined = lawful_program.defined;
  ops = lawful_program.ops;
  items = lawful_program.items;
  start = lawful_program.start;
  start_takes_nothing = lawful_program.start_takes_nothing;
  stack = lawful_program.stack;
}

rooms : HaveRooms in_c q
rooms = record {
  functions = λ m f there inside.
      each (λ (m : ProgramModule). Contains m.tree.functions f → HasRoom q (full_name m.name f.name) (room_of m.tree.records f)) in_c.modules (
        each (λ (f : FunctionValue). HasRoom q (full_name (codes "a") f.name) (room_of tree.records f)) tree.functions (
          record { function = bump; there = (0, omega arith, refl); named = refl; fits = omega arith },
          (record { function = bump_main; there = (1, omega arith, refl); named = refl; fits = omega arith }, tt),
        ) f,
        tt,
      ) m there inside;
  start = record { function = start; there = (2, omega arith, refl); named = refl; fits = omega arith };
}

pub implements : Implements in_c q
implements = record { program = lawful; runs = λ input library bytes. meets input; progress = λ input bytes. meets_roomless input; rooms = rooms }

built_whole : IsBuilt in_c q bump_directives places objects
built_whole = built in_c implements

analysed_whole : IsAnalysed in_c q summaries 8 bump_directives places objects
analysed_whole = analysed in_c implements

-- ---- wrong graphs

abbrev by_two : Op → Op
by_two (op.Const t n) = op.Const t 2
by_two o = o

abbrev twice : FlowFn
twice = record bump { blocks = map (λ (b : Block). record b { ops = map by_two b.ops }) bump.blocks }

abbrev doubling : flows.Program
doubling = record {
  modules = record { name = codes "a"; globals = global (codes "n") ∷ []; functions = twice ∷ bump_main ∷ start ∷ []; declared = [] } ∷ [];
  frame_of = q.frame_of;
  stack = q.stack;
}

wrong_graphs : Refines (MomentKept doubling) (source_stages in_c q.frame_of q.stack []) (flow_run doubling []) → ⊥
unfolding give stop go_on ◌>>=◌ branch wrong look make end_object write next_byte get_char put_char called returned during with_object need undefined told judge objects_now within load store copy fetch put truth outcome_of on_numbers unary_number unary advance advance_elements difference ordered compared on_pointers pointer_and_number number_and_pointer binary convert local_place symbol_place used value_by value_at cast bounded_call take_room library_call call_body call call_value old_value update step answer_of place_of values_of go_forward caught taking_up after_body turn loop meet_loop always value_of condition for_condition drop_value switch_to after_switch with_locals set_local initialise initialise_all meaning items arms behind_arms set_parameters result_of run_body callee calls finish run_main source_stages command flow.step flow.steps flow_run directed in_words entered_from selected entered_lines placed laid linked
wrong_graphs keeps =
    refuses (MomentKept doubling) (source_stages in_c q.frame_of q.stack []) (flow_run doubling []) (flow_rests doubling []) 2 20 refl refl
    (λ e. let apart : 2 ≡ 4 = ap (λ (x : ℕ × List ℕ). x.0) e in omega (arith, apart)) keeps
