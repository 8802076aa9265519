-- Bump and main on a stack that has room for main and none for bump: in C and as flow graphs the run ends for want of stack, with the
-- call of main noted. Where no function takes room, both note the call of bump next: the call that was refused, with the objects
-- that there were.
use Rattle.std.specs.Prelude.{ℕ, ◌≡◌, true, List, [], ◌∷◌, codes}
use Rattle.std.proofs.Common.{refl}
use Rattle.pw_value.specs.declared.value.Byte.TheVariants as B
use Rattle.pw_value.specs.Objects.{Object}
use Rattle.pw_cmean.specs.Acts as source
use Rattle.pw_cmean.specs.Acts.{give, stop, go_on, ◌>>=◌, branch, wrong, look, make, end_object, write, next_byte, get_char, put_char, called, returned, during, with_object, need, undefined, told, judge}
use Rattle.pw_cmean.specs.Access.{objects_now, within, load, store, copy, fetch, put}
use Rattle.pw_cmean.specs.Operators.{truth, outcome_of, on_numbers, unary_number, unary, advance, advance_elements, difference, ordered, compared, on_pointers, pointer_and_number, number_and_pointer, binary, convert}
use Rattle.pw_cmean.specs.Evaluation.{local_place, symbol_place, used, value_by, value_at, cast, bounded_call, take_room, library_call, call_body, call, call_value, old_value, update, step, answer_of, place_of, values_of}
use Rattle.pw_cmean.specs.Execution.{go_forward, caught, taking_up, after_body, turn, loop, meet_loop, always, value_of, condition, for_condition, drop_value, switch_to, after_switch, with_locals, set_local, initialise, initialise_all, meaning, items, arms, behind_arms}
use Rattle.pw_cmean.specs.SourceRun.{set_parameters, result_of, run_body, callee, calls, finish, run_main, source_run, start_state}
use Rattle.pw_cmean.specs.Lasting.{state_behind}
use Rattle.pw_run_languages.specs.Commands as command
use Rattle.pw_run_languages.specs.FlowRun as flow
use Rattle.pw_run_languages.specs.FlowRun.{flow_run}
use Rattle.pw_law_layers.specs.Whole.{roomless}
use Rattle.pw_tests_runs.proofs.Stories.{flow_story}
use Rattle.pw_tests_runs.proofs.Programs.{bumping, frames}
use Rattle.pw_tests_runs.proofs.SourceRows.{in_c}

-- what `$start` and main take
abbrev tight : ℕ
tight = 128

-- ---- in C

abbrev n_is : ℕ → List Object
n_is k = record { bytes = B.Num 0 ∷ B.Num 0 ∷ B.Num 0 ∷ B.Num k ∷ []; live = true; writable = true } ∷ []

-- the calls and returns within the bound 2, the latest first
abbrev noted : (List ℕ → ℕ) → ℕ → List source.Moment
noted frame_of stack = (state_behind (run_main (record { program = in_c; frame_of = frame_of; stack = stack }) 2 (start_state in_c []))).moments

refused_in_c : (source_run in_c frames tight [] 2 ≡ record { end = source.StackFull; out = []; read = 0 })
    × (noted frames tight ≡ source.Called (codes "main") (n_is 0) ∷ [])
    × (noted (λ f. 0) 0 ≡ source.Returned (codes "main") (n_is 2) ∷ source.Returned (codes "bump") (n_is 2) ∷ source.Called (codes "bump") (n_is 1)
    ∷ source.Returned (codes "bump") (n_is 1) ∷ source.Called (codes "bump") (n_is 0) ∷ source.Called (codes "main") (n_is 0) ∷ [])
unfolding give stop go_on ◌>>=◌ branch wrong look make end_object write next_byte get_char put_char called returned during with_object need undefined told judge objects_now within load store copy fetch put truth outcome_of on_numbers unary_number unary advance advance_elements difference ordered compared on_pointers pointer_and_number number_and_pointer binary convert local_place symbol_place used value_by value_at cast bounded_call take_room library_call call_body call call_value old_value update step answer_of place_of values_of go_forward caught taking_up after_body turn loop meet_loop always value_of condition for_condition drop_value switch_to after_switch with_locals set_local initialise initialise_all meaning items arms behind_arms set_parameters result_of run_body callee calls finish run_main source_run
refused_in_c = (refl, refl, refl)

-- ---- as flow graphs

refused_flows : (flow_story (flow_run (record bumping { stack = tight }) [] 40) ≡ codes " (main full ")
    × (flow_story (flow_run (roomless bumping) [] 40) ≡ codes " (main (bump )bump (bump )bump )main = 2 2")
unfolding flow_run flow.steps flow.step command.command
refused_flows = (refl, refl)
