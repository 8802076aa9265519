-- The program by the meaning of C: it is defined, and calls `main` with its object as it was initialised.
use Rattle.std.specs.Prelude.{zero, suc, [], ◌∷◌}
use Rattle.std.proofs.Common.{refl}
use Rattle.pw_value.specs.ProgramNames.{main_name}
use Rattle.pw_cmean.specs.Acts as source
use Rattle.pw_cmean.specs.Acts.{give, stop, go_on, ◌>>=◌, branch as branches, wrong, look, make, end_object, write, next_byte, get_char, put_char, called as calling, returned, during, with_object, need, undefined, told, judge}
use Rattle.pw_cmean.specs.Access.{objects_now, within, load, store, copy, fetch, put}
use Rattle.pw_cmean.specs.Operators.{truth, outcome_of, on_numbers, unary_number, unary, advance, advance_elements, difference, ordered, compared, on_pointers, pointer_and_number, number_and_pointer, binary, convert}
use Rattle.pw_cmean.specs.Evaluation.{local_place, symbol_place, used, value_by, value_at, cast, bounded_call, take_room, library_call, call_body, call, call_value, old_value, update, step as steps, answer_of, place_of, values_of}
use Rattle.pw_cmean.specs.Execution.{go_forward, caught, taking_up, after_body, turn, loop, meet_loop, always, value_of, condition, for_condition, drop_value, switch_to, after_switch, with_locals, set_local, initialise, initialise_all, meaning, items, arms, behind_arms}
use Rattle.pw_cmean.specs.SourceRun.{set_parameters, result_of, run_body, callee, calls, finish, run_main, source_run}
use Rattle.pw_run_agreement.specs.Agreement.{IsDefined}
use Rattle.pw_run_languages.specs.LinkingLaws.{frame_in}
use Rattle.pw_law_source.specs.Source.{source_runs}
use Rattle.pw_law_truth.specs.Truth.{IsPause}
use Rattle.pw_tests_where.specs.Images.{image, program, right_value, things}

pub defined : IsDefined (source_runs program (frame_in (image right_value)) 4096 [])
unfolding give stop go_on ◌>>=◌ branches wrong look make end_object write next_byte get_char put_char calling returned during with_object need undefined told judge objects_now within load store copy fetch put truth outcome_of on_numbers unary_number unary advance advance_elements difference ordered compared on_pointers pointer_and_number number_and_pointer binary convert local_place symbol_place used value_by value_at cast bounded_call take_room library_call call_body call call_value old_value update steps answer_of place_of values_of go_forward caught taking_up after_body turn loop meet_loop always value_of condition for_condition drop_value switch_to after_switch with_locals set_local initialise initialise_all meaning items arms behind_arms set_parameters result_of run_body callee calls finish run_main source_run
defined zero = tt
defined (suc zero) = tt
defined (suc (suc n)) = tt

pub comes : IsPause program [] 1 main_name things
unfolding give stop go_on ◌>>=◌ branches wrong look make end_object write next_byte get_char put_char calling returned during with_object need undefined told judge objects_now within load store copy fetch put truth outcome_of on_numbers unary_number unary advance advance_elements difference ordered compared on_pointers pointer_and_number number_and_pointer binary convert local_place symbol_place used value_by value_at cast bounded_call take_room library_call call_body call call_value old_value update steps answer_of place_of values_of go_forward caught taking_up after_body turn loop meet_loop always value_of condition for_condition drop_value switch_to after_switch with_locals set_local initialise initialise_all meaning items arms behind_arms set_parameters result_of run_body callee calls finish run_main
comes = record { bound = 1; call = record { later = source.Returned main_name things ∷ []; before = []; log_is = refl; count = refl } }
