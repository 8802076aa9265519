-- Rows of allocation: small functions, whose weights, registers and interference are computed by their definitions. What they
-- must be was told by an independent compiler. Registers go by those of the function's webs, and those that it shares with its
-- cluster.
use Rattle.std.specs.Prelude.{ℕ, ◌≡◌, ◌+◌, ◌-◌, Bool, true, false, Option, Some, None, List, [], ◌∷◌, map}
use Rattle.std.specs.List.{filter, range_with_len}
use Rattle.std.proofs.Common.{refl}
use Rattle.pw_flow.specs.Outline.{Act, Stretch, Outline}
use Rattle.pw_live.specs.Interference.{interfere, is_held}
use Rattle.pw_alloc_temps.specs.Weights.{weight}
use Rattle.pw_alloc_temps.specs.Registers.{registers}

-- ---- how rows are written

abbrev act : Option ℕ → List ℕ → Bool → Act
act defines uses calls = record { defines = defines; uses = uses; calls = calls }

abbrev block : ℕ → List Act → List ℕ → List ℕ → Stretch
block depth acts uses next = record { depth = depth; acts = acts; uses = uses; next = next }

abbrev outline : ℕ → ℕ → List Stretch → Outline
outline params temps blocks = record { params = params; temps = temps; blocks = blocks }

abbrev temps : Outline → List ℕ
temps f = range_with_len 0 f.temps

-- those that are held over a call, and of each temporary those of greater number that interfere with it
abbrev held : Outline → List ℕ
held f = filter (is_held f) (temps f)

abbrev beside : Outline → ℕ → List ℕ
beside f t = filter (interfere f t) (range_with_len (t + 1) (f.temps - (t + 1)))

abbrev meeting : Outline → List (List ℕ)
meeting f = map (beside f) (temps f)

-- ---- ends: loops

abbrev ends_loops : Outline
ends_loops = outline 1 4 ((block 0 ((act (Some 1) [] false) ∷ (act (Some 2) [] false) ∷ []) [] (1 ∷ [])) ∷ (block 1 [] (0 ∷ []) (2 ∷ 4 ∷ [])) ∷ (block 2 ((act (Some 1) (1 ∷ 0 ∷ []) false) ∷ (act (Some 3) (2 ∷ 1 ∷ []) false) ∷ []) (3 ∷ []) (3 ∷ 2 ∷ [])) ∷ (block 1 ((act (Some 0) (0 ∷ 2 ∷ []) false) ∷ []) [] (1 ∷ [])) ∷ (block 0 [] (1 ∷ []) []) ∷ [])

ends_loops_weights : map (weight ends_loops) (temps ends_loops) ≡ 89 ∷ 194 ∷ 73 ∷ 128 ∷ []
ends_loops_weights = refl

ends_loops_held : held ends_loops ≡ []
ends_loops_held = refl

ends_loops_meeting : meeting ends_loops ≡ (1 ∷ 2 ∷ 3 ∷ []) ∷ (2 ∷ 3 ∷ []) ∷ (3 ∷ []) ∷ [] ∷ []
ends_loops_meeting = refl

ends_loops_registers : registers ends_loops [] [] ≡ Some 3 ∷ Some 19 ∷ Some 4 ∷ Some 20 ∷ []
ends_loops_registers = refl

-- ---- held: the result is not

abbrev held_the_result_is_not : Outline
held_the_result_is_not = outline 0 2 ((block 0 ((act (Some 0) [] false) ∷ (act (Some 0) (0 ∷ []) true) ∷ (act (Some 1) (0 ∷ []) true) ∷ (act None (0 ∷ 1 ∷ []) true) ∷ []) (0 ∷ []) []) ∷ [])

held_the_result_is_not_weights : map (weight held_the_result_is_not) (temps held_the_result_is_not) ≡ 6 ∷ 2 ∷ []
held_the_result_is_not_weights = refl

held_the_result_is_not_held : held held_the_result_is_not ≡ 0 ∷ []
held_the_result_is_not_held = refl

held_the_result_is_not_meeting : meeting held_the_result_is_not ≡ (1 ∷ []) ∷ [] ∷ []
held_the_result_is_not_meeting = refl

held_the_result_is_not_registers : registers held_the_result_is_not [] [] ≡ Some 3 ∷ Some 19 ∷ []
held_the_result_is_not_registers = refl

-- ---- held: an argument that is dead behind

abbrev held_an_argument_that_is_dead_behind : Outline
held_an_argument_that_is_dead_behind = outline 0 4 ((block 0 ((act (Some 0) [] false) ∷ (act (Some 1) [] false) ∷ (act (Some 2) (0 ∷ 1 ∷ []) true) ∷ (act (Some 3) (2 ∷ 1 ∷ []) false) ∷ []) (3 ∷ []) []) ∷ [])

held_an_argument_that_is_dead_behind_weights : map (weight held_an_argument_that_is_dead_behind) (temps held_an_argument_that_is_dead_behind) ≡ 2 ∷ 3 ∷ 2 ∷ 2 ∷ []
held_an_argument_that_is_dead_behind_weights = refl

held_an_argument_that_is_dead_behind_held : held held_an_argument_that_is_dead_behind ≡ 1 ∷ []
held_an_argument_that_is_dead_behind_held = refl

held_an_argument_that_is_dead_behind_meeting : meeting held_an_argument_that_is_dead_behind ≡ (1 ∷ []) ∷ (2 ∷ []) ∷ [] ∷ [] ∷ []
held_an_argument_that_is_dead_behind_meeting = refl

held_an_argument_that_is_dead_behind_registers : registers held_an_argument_that_is_dead_behind [] [] ≡ Some 19 ∷ Some 3 ∷ Some 19 ∷ Some 19 ∷ []
held_an_argument_that_is_dead_behind_registers = refl

-- ---- held: over a call through a value

abbrev held_over_a_call_through_a_value : Outline
held_over_a_call_through_a_value = outline 0 4 ((block 0 ((act (Some 0) [] false) ∷ (act (Some 1) [] false) ∷ (act (Some 2) (1 ∷ 0 ∷ []) true) ∷ (act (Some 3) (1 ∷ 2 ∷ []) true) ∷ (act (Some 3) (3 ∷ 0 ∷ []) false) ∷ []) (3 ∷ []) []) ∷ [])

held_over_a_call_through_a_value_weights : map (weight held_over_a_call_through_a_value) (temps held_over_a_call_through_a_value) ≡ 3 ∷ 3 ∷ 2 ∷ 4 ∷ []
held_over_a_call_through_a_value_weights = refl

held_over_a_call_through_a_value_held : held held_over_a_call_through_a_value ≡ 0 ∷ 1 ∷ []
held_over_a_call_through_a_value_held = refl

held_over_a_call_through_a_value_meeting : meeting held_over_a_call_through_a_value ≡ (1 ∷ 2 ∷ 3 ∷ []) ∷ (2 ∷ []) ∷ [] ∷ [] ∷ []
held_over_a_call_through_a_value_meeting = refl

held_over_a_call_through_a_value_registers : registers held_over_a_call_through_a_value [] [] ≡ Some 3 ∷ Some 4 ∷ Some 19 ∷ Some 19 ∷ []
held_over_a_call_through_a_value_registers = refl

-- ---- held: on one way only

abbrev held_on_one_way_only : Outline
held_on_one_way_only = outline 1 2 ((block 0 ((act (Some 1) [] false) ∷ []) (0 ∷ []) (1 ∷ 2 ∷ [])) ∷ (block 0 ((act None [] true) ∷ []) [] (3 ∷ [])) ∷ (block 0 ((act (Some 1) [] false) ∷ []) [] (3 ∷ [])) ∷ (block 0 [] (1 ∷ []) []) ∷ [])

held_on_one_way_only_weights : map (weight held_on_one_way_only) (temps held_on_one_way_only) ≡ 2 ∷ 3 ∷ []
held_on_one_way_only_weights = refl

held_on_one_way_only_held : held held_on_one_way_only ≡ 1 ∷ []
held_on_one_way_only_held = refl

held_on_one_way_only_meeting : meeting held_on_one_way_only ≡ (1 ∷ []) ∷ [] ∷ []
held_on_one_way_only_meeting = refl

held_on_one_way_only_registers : registers held_on_one_way_only [] [] ≡ Some 19 ∷ Some 3 ∷ []
held_on_one_way_only_registers = refl

-- ---- held: round a loop

abbrev held_round_a_loop : Outline
held_round_a_loop = outline 0 4 ((block 0 ((act (Some 1) [] false) ∷ (act (Some 2) [] false) ∷ []) [] (1 ∷ [])) ∷ (block 1 ((act (Some 3) (1 ∷ []) true) ∷ (act (Some 1) (1 ∷ 2 ∷ []) false) ∷ []) (1 ∷ []) (1 ∷ 2 ∷ [])) ∷ (block 0 [] (3 ∷ []) []) ∷ [])

held_round_a_loop_weights : map (weight held_round_a_loop) (temps held_round_a_loop) ≡ 0 ∷ 33 ∷ 9 ∷ 9 ∷ []
held_round_a_loop_weights = refl

held_round_a_loop_held : held held_round_a_loop ≡ 1 ∷ 2 ∷ []
held_round_a_loop_held = refl

held_round_a_loop_meeting : meeting held_round_a_loop ≡ [] ∷ (2 ∷ 3 ∷ []) ∷ (3 ∷ []) ∷ [] ∷ []
held_round_a_loop_meeting = refl

held_round_a_loop_registers : registers held_round_a_loop [] [] ≡ Some 19 ∷ Some 3 ∷ Some 4 ∷ Some 19 ∷ []
held_round_a_loop_registers = refl

-- ---- held: behind a call that defines it later

abbrev held_behind_a_call_that_defines_it_later : Outline
held_behind_a_call_that_defines_it_later = outline 0 1 ((block 0 ((act None [] true) ∷ (act (Some 0) [] false) ∷ []) (0 ∷ []) []) ∷ [])

held_behind_a_call_that_defines_it_later_weights : map (weight held_behind_a_call_that_defines_it_later) (temps held_behind_a_call_that_defines_it_later) ≡ 2 ∷ []
held_behind_a_call_that_defines_it_later_weights = refl

held_behind_a_call_that_defines_it_later_held : held held_behind_a_call_that_defines_it_later ≡ []
held_behind_a_call_that_defines_it_later_held = refl

held_behind_a_call_that_defines_it_later_meeting : meeting held_behind_a_call_that_defines_it_later ≡ [] ∷ []
held_behind_a_call_that_defines_it_later_meeting = refl

held_behind_a_call_that_defines_it_later_registers : registers held_behind_a_call_that_defines_it_later [] [] ≡ Some 19 ∷ []
held_behind_a_call_that_defines_it_later_registers = refl

-- ---- parameters: 6, the last ones used

abbrev parameters_6_the_last_ones_used : Outline
parameters_6_the_last_ones_used = outline 6 6 ((block 0 ((act (Some 0) (5 ∷ 4 ∷ []) false) ∷ (act (Some 0) (0 ∷ 4 ∷ []) false) ∷ []) (0 ∷ []) []) ∷ [])

parameters_6_the_last_ones_used_weights : map (weight parameters_6_the_last_ones_used) (temps parameters_6_the_last_ones_used) ≡ 5 ∷ 1 ∷ 1 ∷ 1 ∷ 3 ∷ 2 ∷ []
parameters_6_the_last_ones_used_weights = refl

parameters_6_the_last_ones_used_held : held parameters_6_the_last_ones_used ≡ []
parameters_6_the_last_ones_used_held = refl

parameters_6_the_last_ones_used_meeting : meeting parameters_6_the_last_ones_used ≡ (1 ∷ 2 ∷ 3 ∷ 4 ∷ 5 ∷ []) ∷ (2 ∷ 3 ∷ 4 ∷ 5 ∷ []) ∷ (3 ∷ 4 ∷ 5 ∷ []) ∷ (4 ∷ 5 ∷ []) ∷ (5 ∷ []) ∷ [] ∷ []
parameters_6_the_last_ones_used_meeting = refl

parameters_6_the_last_ones_used_registers : registers parameters_6_the_last_ones_used [] [] ≡ Some 19 ∷ Some 4 ∷ Some 5 ∷ Some 6 ∷ Some 20 ∷ Some 3 ∷ []
parameters_6_the_last_ones_used_registers = refl

-- ---- parameters: one held

abbrev parameters_one_held : Outline
parameters_one_held = outline 2 2 ((block 0 ((act (Some 1) (0 ∷ []) true) ∷ (act (Some 0) (0 ∷ 1 ∷ []) false) ∷ []) (0 ∷ []) []) ∷ [])

parameters_one_held_weights : map (weight parameters_one_held) (temps parameters_one_held) ≡ 5 ∷ 3 ∷ []
parameters_one_held_weights = refl

parameters_one_held_held : held parameters_one_held ≡ 0 ∷ []
parameters_one_held_held = refl

parameters_one_held_meeting : meeting parameters_one_held ≡ (1 ∷ []) ∷ [] ∷ []
parameters_one_held_meeting = refl

parameters_one_held_registers : registers parameters_one_held [] [] ≡ Some 3 ∷ Some 19 ∷ []
parameters_one_held_registers = refl

-- ---- parameters: beside what is live at the start

abbrev parameters_beside_what_is_live_at_the_start : Outline
parameters_beside_what_is_live_at_the_start = outline 2 5 ((block 0 ((act (Some 2) (0 ∷ 3 ∷ []) false) ∷ (act (Some 2) (2 ∷ 4 ∷ []) false) ∷ (act (Some 3) [] false) ∷ []) (2 ∷ []) []) ∷ [])

parameters_beside_what_is_live_at_the_start_weights : map (weight parameters_beside_what_is_live_at_the_start) (temps parameters_beside_what_is_live_at_the_start) ≡ 2 ∷ 1 ∷ 4 ∷ 2 ∷ 1 ∷ []
parameters_beside_what_is_live_at_the_start_weights = refl

parameters_beside_what_is_live_at_the_start_held : held parameters_beside_what_is_live_at_the_start ≡ []
parameters_beside_what_is_live_at_the_start_held = refl

parameters_beside_what_is_live_at_the_start_meeting : meeting parameters_beside_what_is_live_at_the_start ≡ (1 ∷ 3 ∷ 4 ∷ []) ∷ (3 ∷ 4 ∷ []) ∷ (3 ∷ 4 ∷ []) ∷ [] ∷ [] ∷ []
parameters_beside_what_is_live_at_the_start_meeting = refl

parameters_beside_what_is_live_at_the_start_registers : registers parameters_beside_what_is_live_at_the_start [] [] ≡ Some 19 ∷ Some 3 ∷ Some 19 ∷ Some 20 ∷ Some 20 ∷ []
parameters_beside_what_is_live_at_the_start_registers = refl

-- ---- start: live there without parameters

abbrev start_live_there_without_parameters : Outline
start_live_there_without_parameters = outline 0 2 ((block 0 [] (0 ∷ []) (1 ∷ 2 ∷ [])) ∷ (block 0 ((act (Some 1) [] false) ∷ []) [] (2 ∷ [])) ∷ (block 0 [] (1 ∷ []) []) ∷ [])

start_live_there_without_parameters_weights : map (weight start_live_there_without_parameters) (temps start_live_there_without_parameters) ≡ 1 ∷ 2 ∷ []
start_live_there_without_parameters_weights = refl

start_live_there_without_parameters_held : held start_live_there_without_parameters ≡ []
start_live_there_without_parameters_held = refl

start_live_there_without_parameters_meeting : meeting start_live_there_without_parameters ≡ [] ∷ [] ∷ []
start_live_there_without_parameters_meeting = refl

start_live_there_without_parameters_registers : registers start_live_there_without_parameters [] [] ≡ Some 19 ∷ Some 19 ∷ []
start_live_there_without_parameters_registers = refl

-- ---- start: block 0 again

abbrev start_block_0_again : Outline
start_block_0_again = outline 1 3 ((block 0 ((act (Some 1) (0 ∷ 2 ∷ []) false) ∷ (act (Some 2) [] false) ∷ []) (0 ∷ []) (1 ∷ 2 ∷ [])) ∷ (block 0 ((act (Some 0) [] false) ∷ []) [] (0 ∷ [])) ∷ (block 0 [] (1 ∷ []) []) ∷ [])

start_block_0_again_weights : map (weight start_block_0_again) (temps start_block_0_again) ≡ 4 ∷ 2 ∷ 2 ∷ []
start_block_0_again_weights = refl

start_block_0_again_held : held start_block_0_again ≡ []
start_block_0_again_held = refl

start_block_0_again_meeting : meeting start_block_0_again ≡ (1 ∷ 2 ∷ []) ∷ (2 ∷ []) ∷ [] ∷ []
start_block_0_again_meeting = refl

start_block_0_again_registers : registers start_block_0_again [] [] ≡ Some 19 ∷ Some 20 ∷ Some 3 ∷ []
start_block_0_again_registers = refl

-- ---- interfere: no use at all

abbrev interfere_no_use_at_all : Outline
interfere_no_use_at_all = outline 0 5 ((block 0 ((act (Some 0) [] false) ∷ (act (Some 1) [] false) ∷ (act (Some 2) [] false) ∷ (act (Some 3) [] false) ∷ (act (Some 4) [] false) ∷ []) [] []) ∷ [])

interfere_no_use_at_all_weights : map (weight interfere_no_use_at_all) (temps interfere_no_use_at_all) ≡ 1 ∷ 1 ∷ 1 ∷ 1 ∷ 1 ∷ []
interfere_no_use_at_all_weights = refl

interfere_no_use_at_all_held : held interfere_no_use_at_all ≡ []
interfere_no_use_at_all_held = refl

interfere_no_use_at_all_meeting : meeting interfere_no_use_at_all ≡ [] ∷ [] ∷ [] ∷ [] ∷ [] ∷ []
interfere_no_use_at_all_meeting = refl

interfere_no_use_at_all_registers : registers interfere_no_use_at_all [] [] ≡ Some 19 ∷ Some 19 ∷ Some 19 ∷ Some 19 ∷ Some 19 ∷ []
interfere_no_use_at_all_registers = refl

-- ---- interfere: defined from itself

abbrev interfere_defined_from_itself : Outline
interfere_defined_from_itself = outline 0 1 ((block 0 ((act (Some 0) [] false) ∷ (act (Some 0) (0 ∷ 0 ∷ []) false) ∷ (act (Some 0) (0 ∷ []) false) ∷ (act (Some 0) (0 ∷ []) false) ∷ []) (0 ∷ []) []) ∷ [])

interfere_defined_from_itself_weights : map (weight interfere_defined_from_itself) (temps interfere_defined_from_itself) ≡ 9 ∷ []
interfere_defined_from_itself_weights = refl

interfere_defined_from_itself_held : held interfere_defined_from_itself ≡ []
interfere_defined_from_itself_held = refl

interfere_defined_from_itself_meeting : meeting interfere_defined_from_itself ≡ [] ∷ []
interfere_defined_from_itself_meeting = refl

interfere_defined_from_itself_registers : registers interfere_defined_from_itself [] [] ≡ Some 19 ∷ []
interfere_defined_from_itself_registers = refl

-- ---- interfere: a copy beside its source

abbrev interfere_a_copy_beside_its_source : Outline
interfere_a_copy_beside_its_source = outline 0 3 ((block 0 ((act (Some 0) [] false) ∷ (act (Some 1) (0 ∷ []) false) ∷ (act (Some 2) (0 ∷ 1 ∷ []) false) ∷ []) (2 ∷ []) []) ∷ [])

interfere_a_copy_beside_its_source_weights : map (weight interfere_a_copy_beside_its_source) (temps interfere_a_copy_beside_its_source) ≡ 3 ∷ 2 ∷ 2 ∷ []
interfere_a_copy_beside_its_source_weights = refl

interfere_a_copy_beside_its_source_held : held interfere_a_copy_beside_its_source ≡ []
interfere_a_copy_beside_its_source_held = refl

interfere_a_copy_beside_its_source_meeting : meeting interfere_a_copy_beside_its_source ≡ (1 ∷ []) ∷ [] ∷ [] ∷ []
interfere_a_copy_beside_its_source_meeting = refl

interfere_a_copy_beside_its_source_registers : registers interfere_a_copy_beside_its_source [] [] ≡ Some 19 ∷ Some 20 ∷ Some 19 ∷ []
interfere_a_copy_beside_its_source_registers = refl

-- ---- interfere: the last use of one is the definition of the next

abbrev interfere_the_last_use_of_one_is_the_definition_of_the_next : Outline
interfere_the_last_use_of_one_is_the_definition_of_the_next = outline 0 4 ((block 0 ((act (Some 0) [] false) ∷ (act (Some 1) (0 ∷ []) false) ∷ (act (Some 2) (1 ∷ []) false) ∷ (act (Some 3) (2 ∷ []) false) ∷ []) (3 ∷ []) []) ∷ [])

interfere_the_last_use_of_one_is_the_definition_of_the_next_weights : map (weight interfere_the_last_use_of_one_is_the_definition_of_the_next) (temps interfere_the_last_use_of_one_is_the_definition_of_the_next) ≡ 2 ∷ 2 ∷ 2 ∷ 2 ∷ []
interfere_the_last_use_of_one_is_the_definition_of_the_next_weights = refl

interfere_the_last_use_of_one_is_the_definition_of_the_next_held : held interfere_the_last_use_of_one_is_the_definition_of_the_next ≡ []
interfere_the_last_use_of_one_is_the_definition_of_the_next_held = refl

interfere_the_last_use_of_one_is_the_definition_of_the_next_meeting : meeting interfere_the_last_use_of_one_is_the_definition_of_the_next ≡ [] ∷ [] ∷ [] ∷ [] ∷ []
interfere_the_last_use_of_one_is_the_definition_of_the_next_meeting = refl

interfere_the_last_use_of_one_is_the_definition_of_the_next_registers : registers interfere_the_last_use_of_one_is_the_definition_of_the_next [] [] ≡ Some 19 ∷ Some 19 ∷ Some 19 ∷ Some 19 ∷ []
interfere_the_last_use_of_one_is_the_definition_of_the_next_registers = refl

-- ---- interfere: blocks that nothing reaches

abbrev interfere_blocks_that_nothing_reaches : Outline
interfere_blocks_that_nothing_reaches = outline 0 4 ((block 0 ((act (Some 0) [] false) ∷ []) [] (2 ∷ [])) ∷ (block 0 ((act (Some 1) (0 ∷ 2 ∷ []) false) ∷ (act None [] true) ∷ []) (1 ∷ []) []) ∷ (block 0 [] (0 ∷ []) []) ∷ (block 4 ((act (Some 3) (2 ∷ []) false) ∷ []) [] (1 ∷ [])) ∷ [])

interfere_blocks_that_nothing_reaches_weights : map (weight interfere_blocks_that_nothing_reaches) (temps interfere_blocks_that_nothing_reaches) ≡ 3 ∷ 2 ∷ 4097 ∷ 4096 ∷ []
interfere_blocks_that_nothing_reaches_weights = refl

interfere_blocks_that_nothing_reaches_held : held interfere_blocks_that_nothing_reaches ≡ 1 ∷ []
interfere_blocks_that_nothing_reaches_held = refl

interfere_blocks_that_nothing_reaches_meeting : meeting interfere_blocks_that_nothing_reaches ≡ (3 ∷ []) ∷ [] ∷ (3 ∷ []) ∷ [] ∷ []
interfere_blocks_that_nothing_reaches_meeting = refl

interfere_blocks_that_nothing_reaches_registers : registers interfere_blocks_that_nothing_reaches [] [] ≡ Some 19 ∷ Some 3 ∷ Some 19 ∷ Some 20 ∷ []
interfere_blocks_that_nothing_reaches_registers = refl

-- ---- interfere: a block that goes to itself

abbrev interfere_a_block_that_goes_to_itself : Outline
interfere_a_block_that_goes_to_itself = outline 1 2 ((block 0 ((act (Some 1) [] false) ∷ []) [] (1 ∷ [])) ∷ (block 2 ((act (Some 0) (0 ∷ 1 ∷ []) false) ∷ []) (0 ∷ []) (1 ∷ 2 ∷ [])) ∷ (block 0 [] (0 ∷ []) []) ∷ [])

interfere_a_block_that_goes_to_itself_weights : map (weight interfere_a_block_that_goes_to_itself) (temps interfere_a_block_that_goes_to_itself) ≡ 194 ∷ 65 ∷ []
interfere_a_block_that_goes_to_itself_weights = refl

interfere_a_block_that_goes_to_itself_held : held interfere_a_block_that_goes_to_itself ≡ []
interfere_a_block_that_goes_to_itself_held = refl

interfere_a_block_that_goes_to_itself_meeting : meeting interfere_a_block_that_goes_to_itself ≡ (1 ∷ []) ∷ [] ∷ []
interfere_a_block_that_goes_to_itself_meeting = refl

interfere_a_block_that_goes_to_itself_registers : registers interfere_a_block_that_goes_to_itself [] [] ≡ Some 19 ∷ Some 20 ∷ []
interfere_a_block_that_goes_to_itself_registers = refl

-- ---- interfere: two loops into each other

abbrev interfere_two_loops_into_each_other : Outline
interfere_two_loops_into_each_other = outline 1 2 ((block 0 ((act (Some 1) [] false) ∷ []) (0 ∷ []) (1 ∷ 2 ∷ [])) ∷ (block 1 ((act (Some 0) (0 ∷ 1 ∷ []) false) ∷ []) (0 ∷ []) (2 ∷ 3 ∷ [])) ∷ (block 1 ((act (Some 0) (0 ∷ 1 ∷ []) false) ∷ []) (0 ∷ []) (1 ∷ 3 ∷ [])) ∷ (block 0 [] (1 ∷ []) []) ∷ [])

interfere_two_loops_into_each_other_weights : map (weight interfere_two_loops_into_each_other) (temps interfere_two_loops_into_each_other) ≡ 50 ∷ 18 ∷ []
interfere_two_loops_into_each_other_weights = refl

interfere_two_loops_into_each_other_held : held interfere_two_loops_into_each_other ≡ []
interfere_two_loops_into_each_other_held = refl

interfere_two_loops_into_each_other_meeting : meeting interfere_two_loops_into_each_other ≡ (1 ∷ []) ∷ [] ∷ []
interfere_two_loops_into_each_other_meeting = refl

interfere_two_loops_into_each_other_registers : registers interfere_two_loops_into_each_other [] [] ≡ Some 19 ∷ Some 20 ∷ []
interfere_two_loops_into_each_other_registers = refl

-- ---- interfere: for ever

abbrev interfere_for_ever : Outline
interfere_for_ever = outline 0 1 ((block 0 ((act (Some 0) [] false) ∷ []) [] (1 ∷ [])) ∷ (block 1 ((act (Some 0) (0 ∷ 0 ∷ []) false) ∷ []) [] (1 ∷ [])) ∷ [])

interfere_for_ever_weights : map (weight interfere_for_ever) (temps interfere_for_ever) ≡ 25 ∷ []
interfere_for_ever_weights = refl

interfere_for_ever_held : held interfere_for_ever ≡ []
interfere_for_ever_held = refl

interfere_for_ever_meeting : meeting interfere_for_ever ≡ [] ∷ []
interfere_for_ever_meeting = refl

interfere_for_ever_registers : registers interfere_for_ever [] [] ≡ Some 19 ∷ []
interfere_for_ever_registers = refl

-- ---- weights: a parameter counts one more

abbrev weights_a_parameter_counts_one_more : Outline
weights_a_parameter_counts_one_more = outline 1 3 ((block 0 ((act (Some 1) [] false) ∷ (act (Some 2) (0 ∷ 1 ∷ []) false) ∷ []) (2 ∷ []) []) ∷ [])

weights_a_parameter_counts_one_more_weights : map (weight weights_a_parameter_counts_one_more) (temps weights_a_parameter_counts_one_more) ≡ 2 ∷ 2 ∷ 2 ∷ []
weights_a_parameter_counts_one_more_weights = refl

weights_a_parameter_counts_one_more_held : held weights_a_parameter_counts_one_more ≡ []
weights_a_parameter_counts_one_more_held = refl

weights_a_parameter_counts_one_more_meeting : meeting weights_a_parameter_counts_one_more ≡ (1 ∷ []) ∷ [] ∷ [] ∷ []
weights_a_parameter_counts_one_more_meeting = refl

weights_a_parameter_counts_one_more_registers : registers weights_a_parameter_counts_one_more [] [] ≡ Some 19 ∷ Some 20 ∷ Some 19 ∷ []
weights_a_parameter_counts_one_more_registers = refl

-- ---- weights: least number first

abbrev weights_least_number_first : Outline
weights_least_number_first = outline 0 5 ((block 0 ((act (Some 3) [] false) ∷ (act (Some 2) [] false) ∷ (act (Some 1) [] false) ∷ (act (Some 0) [] false) ∷ (act (Some 4) (0 ∷ []) false) ∷ (act (Some 4) (4 ∷ 1 ∷ []) false) ∷ (act (Some 4) (4 ∷ 2 ∷ []) false) ∷ (act (Some 4) (4 ∷ 3 ∷ []) false) ∷ []) (4 ∷ []) []) ∷ [])

weights_least_number_first_weights : map (weight weights_least_number_first) (temps weights_least_number_first) ≡ 2 ∷ 2 ∷ 2 ∷ 2 ∷ 8 ∷ []
weights_least_number_first_weights = refl

weights_least_number_first_held : held weights_least_number_first ≡ []
weights_least_number_first_held = refl

weights_least_number_first_meeting : meeting weights_least_number_first ≡ (1 ∷ 2 ∷ 3 ∷ []) ∷ (2 ∷ 3 ∷ 4 ∷ []) ∷ (3 ∷ 4 ∷ []) ∷ (4 ∷ []) ∷ [] ∷ []
weights_least_number_first_meeting = refl

weights_least_number_first_registers : registers weights_least_number_first [] [] ≡ Some 19 ∷ Some 20 ∷ Some 3 ∷ Some 4 ∷ Some 19 ∷ []
weights_least_number_first_registers = refl

-- ---- webs: 1 beside temps

abbrev webs_1_beside_temps : Outline
webs_1_beside_temps = outline 0 8 ((block 0 ((act (Some 0) [] false) ∷ (act (Some 1) [] false) ∷ (act (Some 2) [] false) ∷ (act (Some 3) [] false) ∷ (act (Some 4) [] false) ∷ (act None (0 ∷ []) false) ∷ (act (Some 5) [] true) ∷ (act (Some 6) (0 ∷ []) false) ∷ (act (Some 6) (6 ∷ 1 ∷ []) false) ∷ (act (Some 6) (6 ∷ 2 ∷ []) false) ∷ (act (Some 6) (6 ∷ 3 ∷ []) false) ∷ (act (Some 6) (6 ∷ 4 ∷ []) false) ∷ (act (Some 6) (6 ∷ 5 ∷ []) false) ∷ (act (Some 7) [] false) ∷ []) (6 ∷ []) []) ∷ [])

webs_1_beside_temps_weights : map (weight webs_1_beside_temps) (temps webs_1_beside_temps) ≡ 3 ∷ 2 ∷ 2 ∷ 2 ∷ 2 ∷ 2 ∷ 12 ∷ 1 ∷ []
webs_1_beside_temps_weights = refl

webs_1_beside_temps_held : held webs_1_beside_temps ≡ 0 ∷ 1 ∷ 2 ∷ 3 ∷ 4 ∷ []
webs_1_beside_temps_held = refl

webs_1_beside_temps_meeting : meeting webs_1_beside_temps ≡ (1 ∷ 2 ∷ 3 ∷ 4 ∷ 5 ∷ []) ∷ (2 ∷ 3 ∷ 4 ∷ 5 ∷ 6 ∷ []) ∷ (3 ∷ 4 ∷ 5 ∷ 6 ∷ []) ∷ (4 ∷ 5 ∷ 6 ∷ []) ∷ (5 ∷ 6 ∷ []) ∷ (6 ∷ []) ∷ (7 ∷ []) ∷ [] ∷ []
webs_1_beside_temps_meeting = refl

webs_1_beside_temps_registers : registers webs_1_beside_temps (3 ∷ []) [] ≡ Some 4 ∷ Some 5 ∷ Some 6 ∷ Some 7 ∷ Some 8 ∷ Some 20 ∷ Some 19 ∷ Some 20 ∷ []
webs_1_beside_temps_registers = refl

-- ---- webs: 16 beside temps

abbrev webs_16_beside_temps : Outline
webs_16_beside_temps = outline 0 8 ((block 0 ((act (Some 0) [] false) ∷ (act (Some 1) [] false) ∷ (act (Some 2) [] false) ∷ (act (Some 3) [] false) ∷ (act (Some 4) [] false) ∷ (act None (0 ∷ []) false) ∷ (act (Some 5) [] true) ∷ (act (Some 6) (0 ∷ []) false) ∷ (act (Some 6) (6 ∷ 1 ∷ []) false) ∷ (act (Some 6) (6 ∷ 2 ∷ []) false) ∷ (act (Some 6) (6 ∷ 3 ∷ []) false) ∷ (act (Some 6) (6 ∷ 4 ∷ []) false) ∷ (act (Some 6) (6 ∷ 5 ∷ []) false) ∷ (act (Some 7) [] false) ∷ []) (6 ∷ []) []) ∷ [])

webs_16_beside_temps_weights : map (weight webs_16_beside_temps) (temps webs_16_beside_temps) ≡ 3 ∷ 2 ∷ 2 ∷ 2 ∷ 2 ∷ 2 ∷ 12 ∷ 1 ∷ []
webs_16_beside_temps_weights = refl

webs_16_beside_temps_held : held webs_16_beside_temps ≡ 0 ∷ 1 ∷ 2 ∷ 3 ∷ 4 ∷ []
webs_16_beside_temps_held = refl

webs_16_beside_temps_meeting : meeting webs_16_beside_temps ≡ (1 ∷ 2 ∷ 3 ∷ 4 ∷ 5 ∷ []) ∷ (2 ∷ 3 ∷ 4 ∷ 5 ∷ 6 ∷ []) ∷ (3 ∷ 4 ∷ 5 ∷ 6 ∷ []) ∷ (4 ∷ 5 ∷ 6 ∷ []) ∷ (5 ∷ 6 ∷ []) ∷ (6 ∷ []) ∷ (7 ∷ []) ∷ [] ∷ []
webs_16_beside_temps_meeting = refl

webs_16_beside_temps_registers : registers webs_16_beside_temps (3 ∷ 4 ∷ 5 ∷ 6 ∷ 7 ∷ 8 ∷ 9 ∷ 10 ∷ 11 ∷ 12 ∷ 13 ∷ 14 ∷ 15 ∷ 16 ∷ 17 ∷ 18 ∷ []) [] ≡ None ∷ None ∷ None ∷ None ∷ None ∷ Some 20 ∷ Some 19 ∷ Some 20 ∷ []
webs_16_beside_temps_registers = refl

-- ---- webs: member and entry

abbrev webs_member_and_entry : Outline
webs_member_and_entry = outline 0 6 ((block 0 ((act (Some 0) [] false) ∷ (act (Some 1) [] false) ∷ (act (Some 2) [] false) ∷ (act (Some 3) [] true) ∷ (act (Some 4) [] false) ∷ (act (Some 5) (0 ∷ []) false) ∷ (act (Some 5) (5 ∷ 1 ∷ []) false) ∷ (act (Some 5) (5 ∷ 2 ∷ []) false) ∷ (act (Some 5) (5 ∷ 3 ∷ []) false) ∷ (act (Some 5) (5 ∷ 4 ∷ []) false) ∷ []) (5 ∷ []) []) ∷ [])

webs_member_and_entry_weights : map (weight webs_member_and_entry) (temps webs_member_and_entry) ≡ 2 ∷ 2 ∷ 2 ∷ 2 ∷ 2 ∷ 10 ∷ []
webs_member_and_entry_weights = refl

webs_member_and_entry_held : held webs_member_and_entry ≡ 0 ∷ 1 ∷ 2 ∷ []
webs_member_and_entry_held = refl

webs_member_and_entry_meeting : meeting webs_member_and_entry ≡ (1 ∷ 2 ∷ 3 ∷ 4 ∷ []) ∷ (2 ∷ 3 ∷ 4 ∷ 5 ∷ []) ∷ (3 ∷ 4 ∷ 5 ∷ []) ∷ (4 ∷ 5 ∷ []) ∷ (5 ∷ []) ∷ [] ∷ []
webs_member_and_entry_meeting = refl

webs_member_and_entry_registers : registers webs_member_and_entry (4 ∷ 3 ∷ []) [] ≡ Some 5 ∷ Some 6 ∷ Some 7 ∷ Some 20 ∷ Some 8 ∷ Some 19 ∷ []
webs_member_and_entry_registers = refl

-- ---- spills: free 1 in a leaf

abbrev spills_free_1_in_a_leaf : Outline
spills_free_1_in_a_leaf = outline 0 7 ((block 0 ((act (Some 0) [] false) ∷ (act (Some 1) [] false) ∷ (act (Some 2) [] false) ∷ (act (Some 3) [] false) ∷ (act (Some 4) [] false) ∷ (act (Some 5) [] false) ∷ (act (Some 6) (0 ∷ []) false) ∷ (act (Some 6) (6 ∷ 1 ∷ []) false) ∷ (act (Some 6) (6 ∷ 2 ∷ []) false) ∷ (act (Some 6) (6 ∷ 3 ∷ []) false) ∷ (act (Some 6) (6 ∷ 4 ∷ []) false) ∷ (act (Some 6) (6 ∷ 5 ∷ []) false) ∷ []) (6 ∷ []) []) ∷ [])

spills_free_1_in_a_leaf_weights : map (weight spills_free_1_in_a_leaf) (temps spills_free_1_in_a_leaf) ≡ 2 ∷ 2 ∷ 2 ∷ 2 ∷ 2 ∷ 2 ∷ 12 ∷ []
spills_free_1_in_a_leaf_weights = refl

spills_free_1_in_a_leaf_held : held spills_free_1_in_a_leaf ≡ []
spills_free_1_in_a_leaf_held = refl

spills_free_1_in_a_leaf_meeting : meeting spills_free_1_in_a_leaf ≡ (1 ∷ 2 ∷ 3 ∷ 4 ∷ 5 ∷ []) ∷ (2 ∷ 3 ∷ 4 ∷ 5 ∷ 6 ∷ []) ∷ (3 ∷ 4 ∷ 5 ∷ 6 ∷ []) ∷ (4 ∷ 5 ∷ 6 ∷ []) ∷ (5 ∷ 6 ∷ []) ∷ (6 ∷ []) ∷ [] ∷ []
spills_free_1_in_a_leaf_meeting = refl

spills_free_1_in_a_leaf_registers : registers spills_free_1_in_a_leaf [] (18 ∷ []) ≡ Some 19 ∷ Some 20 ∷ Some 18 ∷ Some 3 ∷ Some 4 ∷ Some 5 ∷ Some 19 ∷ []
spills_free_1_in_a_leaf_registers = refl

-- ---- spills: saves 1 in a leaf

abbrev spills_saves_1_in_a_leaf : Outline
spills_saves_1_in_a_leaf = outline 0 7 ((block 0 ((act (Some 0) [] false) ∷ (act (Some 1) [] false) ∷ (act (Some 2) [] false) ∷ (act (Some 3) [] false) ∷ (act (Some 4) [] false) ∷ (act (Some 5) [] false) ∷ (act (Some 6) (0 ∷ []) false) ∷ (act (Some 6) (6 ∷ 1 ∷ []) false) ∷ (act (Some 6) (6 ∷ 2 ∷ []) false) ∷ (act (Some 6) (6 ∷ 3 ∷ []) false) ∷ (act (Some 6) (6 ∷ 4 ∷ []) false) ∷ (act (Some 6) (6 ∷ 5 ∷ []) false) ∷ []) (6 ∷ []) []) ∷ [])

spills_saves_1_in_a_leaf_weights : map (weight spills_saves_1_in_a_leaf) (temps spills_saves_1_in_a_leaf) ≡ 2 ∷ 2 ∷ 2 ∷ 2 ∷ 2 ∷ 2 ∷ 12 ∷ []
spills_saves_1_in_a_leaf_weights = refl

spills_saves_1_in_a_leaf_held : held spills_saves_1_in_a_leaf ≡ []
spills_saves_1_in_a_leaf_held = refl

spills_saves_1_in_a_leaf_meeting : meeting spills_saves_1_in_a_leaf ≡ (1 ∷ 2 ∷ 3 ∷ 4 ∷ 5 ∷ []) ∷ (2 ∷ 3 ∷ 4 ∷ 5 ∷ 6 ∷ []) ∷ (3 ∷ 4 ∷ 5 ∷ 6 ∷ []) ∷ (4 ∷ 5 ∷ 6 ∷ []) ∷ (5 ∷ 6 ∷ []) ∷ (6 ∷ []) ∷ [] ∷ []
spills_saves_1_in_a_leaf_meeting = refl

spills_saves_1_in_a_leaf_registers : registers spills_saves_1_in_a_leaf [] (18 ∷ []) ≡ Some 19 ∷ Some 20 ∷ Some 18 ∷ Some 3 ∷ Some 4 ∷ Some 5 ∷ Some 19 ∷ []
spills_saves_1_in_a_leaf_registers = refl

-- ---- spills: free 2 and saves 2 with a call

abbrev spills_free_2_and_saves_2_with_a_call : Outline
spills_free_2_and_saves_2_with_a_call = outline 0 8 ((block 0 ((act (Some 0) [] false) ∷ (act (Some 1) [] false) ∷ (act (Some 2) [] false) ∷ (act (Some 3) [] false) ∷ (act (Some 4) [] false) ∷ (act (Some 5) [] false) ∷ (act (Some 6) [] true) ∷ (act (Some 7) (0 ∷ []) false) ∷ (act (Some 7) (7 ∷ 1 ∷ []) false) ∷ (act (Some 7) (7 ∷ 2 ∷ []) false) ∷ (act (Some 7) (7 ∷ 3 ∷ []) false) ∷ (act (Some 7) (7 ∷ 4 ∷ []) false) ∷ (act (Some 7) (7 ∷ 5 ∷ []) false) ∷ (act (Some 7) (7 ∷ 6 ∷ []) false) ∷ []) (7 ∷ []) []) ∷ [])

spills_free_2_and_saves_2_with_a_call_weights : map (weight spills_free_2_and_saves_2_with_a_call) (temps spills_free_2_and_saves_2_with_a_call) ≡ 2 ∷ 2 ∷ 2 ∷ 2 ∷ 2 ∷ 2 ∷ 2 ∷ 14 ∷ []
spills_free_2_and_saves_2_with_a_call_weights = refl

spills_free_2_and_saves_2_with_a_call_held : held spills_free_2_and_saves_2_with_a_call ≡ 0 ∷ 1 ∷ 2 ∷ 3 ∷ 4 ∷ 5 ∷ []
spills_free_2_and_saves_2_with_a_call_held = refl

spills_free_2_and_saves_2_with_a_call_meeting : meeting spills_free_2_and_saves_2_with_a_call ≡ (1 ∷ 2 ∷ 3 ∷ 4 ∷ 5 ∷ 6 ∷ []) ∷ (2 ∷ 3 ∷ 4 ∷ 5 ∷ 6 ∷ 7 ∷ []) ∷ (3 ∷ 4 ∷ 5 ∷ 6 ∷ 7 ∷ []) ∷ (4 ∷ 5 ∷ 6 ∷ 7 ∷ []) ∷ (5 ∷ 6 ∷ 7 ∷ []) ∷ (6 ∷ 7 ∷ []) ∷ (7 ∷ []) ∷ [] ∷ []
spills_free_2_and_saves_2_with_a_call_meeting = refl

spills_free_2_and_saves_2_with_a_call_registers : registers spills_free_2_and_saves_2_with_a_call [] (17 ∷ 18 ∷ 15 ∷ 16 ∷ []) ≡ Some 3 ∷ Some 4 ∷ Some 5 ∷ Some 6 ∷ Some 7 ∷ Some 8 ∷ Some 20 ∷ Some 19 ∷ []
spills_free_2_and_saves_2_with_a_call_registers = refl

-- ---- spills: free 2 and saves 2 between in a leaf

abbrev spills_free_2_and_saves_2_between_in_a_leaf : Outline
spills_free_2_and_saves_2_between_in_a_leaf = outline 0 7 ((block 0 ((act (Some 0) [] false) ∷ (act (Some 1) [] false) ∷ (act (Some 2) [] false) ∷ (act (Some 3) [] false) ∷ (act (Some 4) [] false) ∷ (act (Some 5) [] false) ∷ (act (Some 6) (0 ∷ []) false) ∷ (act (Some 6) (6 ∷ 1 ∷ []) false) ∷ (act (Some 6) (6 ∷ 2 ∷ []) false) ∷ (act (Some 6) (6 ∷ 3 ∷ []) false) ∷ (act (Some 6) (6 ∷ 4 ∷ []) false) ∷ (act (Some 6) (6 ∷ 5 ∷ []) false) ∷ []) (6 ∷ []) []) ∷ [])

spills_free_2_and_saves_2_between_in_a_leaf_weights : map (weight spills_free_2_and_saves_2_between_in_a_leaf) (temps spills_free_2_and_saves_2_between_in_a_leaf) ≡ 2 ∷ 2 ∷ 2 ∷ 2 ∷ 2 ∷ 2 ∷ 12 ∷ []
spills_free_2_and_saves_2_between_in_a_leaf_weights = refl

spills_free_2_and_saves_2_between_in_a_leaf_held : held spills_free_2_and_saves_2_between_in_a_leaf ≡ []
spills_free_2_and_saves_2_between_in_a_leaf_held = refl

spills_free_2_and_saves_2_between_in_a_leaf_meeting : meeting spills_free_2_and_saves_2_between_in_a_leaf ≡ (1 ∷ 2 ∷ 3 ∷ 4 ∷ 5 ∷ []) ∷ (2 ∷ 3 ∷ 4 ∷ 5 ∷ 6 ∷ []) ∷ (3 ∷ 4 ∷ 5 ∷ 6 ∷ []) ∷ (4 ∷ 5 ∷ 6 ∷ []) ∷ (5 ∷ 6 ∷ []) ∷ (6 ∷ []) ∷ [] ∷ []
spills_free_2_and_saves_2_between_in_a_leaf_meeting = refl

spills_free_2_and_saves_2_between_in_a_leaf_registers : registers spills_free_2_and_saves_2_between_in_a_leaf [] (15 ∷ 17 ∷ 16 ∷ 18 ∷ []) ≡ Some 19 ∷ Some 20 ∷ Some 15 ∷ Some 16 ∷ Some 17 ∷ Some 18 ∷ Some 19 ∷ []
spills_free_2_and_saves_2_between_in_a_leaf_registers = refl

-- ---- spills: free 16 with a call

abbrev spills_free_16_with_a_call : Outline
spills_free_16_with_a_call = outline 0 8 ((block 0 ((act (Some 0) [] false) ∷ (act (Some 1) [] false) ∷ (act (Some 2) [] false) ∷ (act (Some 3) [] false) ∷ (act (Some 4) [] false) ∷ (act (Some 5) [] false) ∷ (act (Some 6) [] true) ∷ (act (Some 7) (0 ∷ []) false) ∷ (act (Some 7) (7 ∷ 1 ∷ []) false) ∷ (act (Some 7) (7 ∷ 2 ∷ []) false) ∷ (act (Some 7) (7 ∷ 3 ∷ []) false) ∷ (act (Some 7) (7 ∷ 4 ∷ []) false) ∷ (act (Some 7) (7 ∷ 5 ∷ []) false) ∷ (act (Some 7) (7 ∷ 6 ∷ []) false) ∷ []) (7 ∷ []) []) ∷ [])

spills_free_16_with_a_call_weights : map (weight spills_free_16_with_a_call) (temps spills_free_16_with_a_call) ≡ 2 ∷ 2 ∷ 2 ∷ 2 ∷ 2 ∷ 2 ∷ 2 ∷ 14 ∷ []
spills_free_16_with_a_call_weights = refl

spills_free_16_with_a_call_held : held spills_free_16_with_a_call ≡ 0 ∷ 1 ∷ 2 ∷ 3 ∷ 4 ∷ 5 ∷ []
spills_free_16_with_a_call_held = refl

spills_free_16_with_a_call_meeting : meeting spills_free_16_with_a_call ≡ (1 ∷ 2 ∷ 3 ∷ 4 ∷ 5 ∷ 6 ∷ []) ∷ (2 ∷ 3 ∷ 4 ∷ 5 ∷ 6 ∷ 7 ∷ []) ∷ (3 ∷ 4 ∷ 5 ∷ 6 ∷ 7 ∷ []) ∷ (4 ∷ 5 ∷ 6 ∷ 7 ∷ []) ∷ (5 ∷ 6 ∷ 7 ∷ []) ∷ (6 ∷ 7 ∷ []) ∷ (7 ∷ []) ∷ [] ∷ []
spills_free_16_with_a_call_meeting = refl

spills_free_16_with_a_call_registers : registers spills_free_16_with_a_call [] (3 ∷ 4 ∷ 5 ∷ 6 ∷ 7 ∷ 8 ∷ 9 ∷ 10 ∷ 11 ∷ 12 ∷ 13 ∷ 14 ∷ 15 ∷ 16 ∷ 17 ∷ 18 ∷ []) ≡ None ∷ None ∷ None ∷ None ∷ None ∷ None ∷ Some 20 ∷ Some 19 ∷ []
spills_free_16_with_a_call_registers = refl

-- ---- spills: held beside the cluster

abbrev spills_held_beside_the_cluster : Outline
spills_held_beside_the_cluster = outline 0 17 ((block 0 ((act (Some 0) [] false) ∷ (act (Some 1) [] false) ∷ (act (Some 2) [] false) ∷ (act (Some 3) [] false) ∷ (act (Some 4) [] false) ∷ (act (Some 5) [] false) ∷ (act (Some 6) [] false) ∷ (act (Some 7) [] false) ∷ (act (Some 8) [] false) ∷ (act (Some 9) [] false) ∷ (act (Some 10) [] false) ∷ (act (Some 11) [] false) ∷ (act (Some 12) [] false) ∷ (act (Some 13) [] false) ∷ (act (Some 14) [] false) ∷ (act (Some 15) [] true) ∷ (act (Some 16) (0 ∷ []) false) ∷ (act (Some 16) (16 ∷ 1 ∷ []) false) ∷ (act (Some 16) (16 ∷ 2 ∷ []) false) ∷ (act (Some 16) (16 ∷ 3 ∷ []) false) ∷ (act (Some 16) (16 ∷ 4 ∷ []) false) ∷ (act (Some 16) (16 ∷ 5 ∷ []) false) ∷ (act (Some 16) (16 ∷ 6 ∷ []) false) ∷ (act (Some 16) (16 ∷ 7 ∷ []) false) ∷ (act (Some 16) (16 ∷ 8 ∷ []) false) ∷ (act (Some 16) (16 ∷ 9 ∷ []) false) ∷ (act (Some 16) (16 ∷ 10 ∷ []) false) ∷ (act (Some 16) (16 ∷ 11 ∷ []) false) ∷ (act (Some 16) (16 ∷ 12 ∷ []) false) ∷ (act (Some 16) (16 ∷ 13 ∷ []) false) ∷ (act (Some 16) (16 ∷ 14 ∷ []) false) ∷ (act (Some 16) (16 ∷ 15 ∷ []) false) ∷ []) (16 ∷ []) []) ∷ [])

spills_held_beside_the_cluster_weights : map (weight spills_held_beside_the_cluster) (temps spills_held_beside_the_cluster) ≡ 2 ∷ 2 ∷ 2 ∷ 2 ∷ 2 ∷ 2 ∷ 2 ∷ 2 ∷ 2 ∷ 2 ∷ 2 ∷ 2 ∷ 2 ∷ 2 ∷ 2 ∷ 2 ∷ 32 ∷ []
spills_held_beside_the_cluster_weights = refl

spills_held_beside_the_cluster_held : held spills_held_beside_the_cluster ≡ 0 ∷ 1 ∷ 2 ∷ 3 ∷ 4 ∷ 5 ∷ 6 ∷ 7 ∷ 8 ∷ 9 ∷ 10 ∷ 11 ∷ 12 ∷ 13 ∷ 14 ∷ []
spills_held_beside_the_cluster_held = refl

spills_held_beside_the_cluster_meeting : meeting spills_held_beside_the_cluster ≡ (1 ∷ 2 ∷ 3 ∷ 4 ∷ 5 ∷ 6 ∷ 7 ∷ 8 ∷ 9 ∷ 10 ∷ 11 ∷ 12 ∷ 13 ∷ 14 ∷ 15 ∷ []) ∷ (2 ∷ 3 ∷ 4 ∷ 5 ∷ 6 ∷ 7 ∷ 8 ∷ 9 ∷ 10 ∷ 11 ∷ 12 ∷ 13 ∷ 14 ∷ 15 ∷ 16 ∷ []) ∷ (3 ∷ 4 ∷ 5 ∷ 6 ∷ 7 ∷ 8 ∷ 9 ∷ 10 ∷ 11 ∷ 12 ∷ 13 ∷ 14 ∷ 15 ∷ 16 ∷ []) ∷ (4 ∷ 5 ∷ 6 ∷ 7 ∷ 8 ∷ 9 ∷ 10 ∷ 11 ∷ 12 ∷ 13 ∷ 14 ∷ 15 ∷ 16 ∷ []) ∷ (5 ∷ 6 ∷ 7 ∷ 8 ∷ 9 ∷ 10 ∷ 11 ∷ 12 ∷ 13 ∷ 14 ∷ 15 ∷ 16 ∷ []) ∷ (6 ∷ 7 ∷ 8 ∷ 9 ∷ 10 ∷ 11 ∷ 12 ∷ 13 ∷ 14 ∷ 15 ∷ 16 ∷ []) ∷ (7 ∷ 8 ∷ 9 ∷ 10 ∷ 11 ∷ 12 ∷ 13 ∷ 14 ∷ 15 ∷ 16 ∷ []) ∷ (8 ∷ 9 ∷ 10 ∷ 11 ∷ 12 ∷ 13 ∷ 14 ∷ 15 ∷ 16 ∷ []) ∷ (9 ∷ 10 ∷ 11 ∷ 12 ∷ 13 ∷ 14 ∷ 15 ∷ 16 ∷ []) ∷ (10 ∷ 11 ∷ 12 ∷ 13 ∷ 14 ∷ 15 ∷ 16 ∷ []) ∷ (11 ∷ 12 ∷ 13 ∷ 14 ∷ 15 ∷ 16 ∷ []) ∷ (12 ∷ 13 ∷ 14 ∷ 15 ∷ 16 ∷ []) ∷ (13 ∷ 14 ∷ 15 ∷ 16 ∷ []) ∷ (14 ∷ 15 ∷ 16 ∷ []) ∷ (15 ∷ 16 ∷ []) ∷ (16 ∷ []) ∷ [] ∷ []
spills_held_beside_the_cluster_meeting = refl

spills_held_beside_the_cluster_registers : registers spills_held_beside_the_cluster [] (18 ∷ 17 ∷ []) ≡ Some 3 ∷ Some 4 ∷ Some 5 ∷ Some 6 ∷ Some 7 ∷ Some 8 ∷ Some 9 ∷ Some 10 ∷ Some 11 ∷ Some 12 ∷ Some 13 ∷ Some 14 ∷ Some 15 ∷ Some 16 ∷ None ∷ Some 20 ∷ Some 19 ∷ []
spills_held_beside_the_cluster_registers = refl

-- ---- spills: beside webs

abbrev spills_beside_webs : Outline
spills_beside_webs = outline 0 7 ((block 0 ((act (Some 0) [] false) ∷ (act (Some 1) [] false) ∷ (act (Some 2) [] false) ∷ (act (Some 3) [] false) ∷ (act (Some 4) [] false) ∷ (act (Some 5) [] false) ∷ (act (Some 6) (0 ∷ []) false) ∷ (act (Some 6) (6 ∷ 1 ∷ []) false) ∷ (act (Some 6) (6 ∷ 2 ∷ []) false) ∷ (act (Some 6) (6 ∷ 3 ∷ []) false) ∷ (act (Some 6) (6 ∷ 4 ∷ []) false) ∷ (act (Some 6) (6 ∷ 5 ∷ []) false) ∷ (act None (6 ∷ []) false) ∷ []) (6 ∷ []) []) ∷ [])

spills_beside_webs_weights : map (weight spills_beside_webs) (temps spills_beside_webs) ≡ 2 ∷ 2 ∷ 2 ∷ 2 ∷ 2 ∷ 2 ∷ 13 ∷ []
spills_beside_webs_weights = refl

spills_beside_webs_held : held spills_beside_webs ≡ []
spills_beside_webs_held = refl

spills_beside_webs_meeting : meeting spills_beside_webs ≡ (1 ∷ 2 ∷ 3 ∷ 4 ∷ 5 ∷ []) ∷ (2 ∷ 3 ∷ 4 ∷ 5 ∷ 6 ∷ []) ∷ (3 ∷ 4 ∷ 5 ∷ 6 ∷ []) ∷ (4 ∷ 5 ∷ 6 ∷ []) ∷ (5 ∷ 6 ∷ []) ∷ (6 ∷ []) ∷ [] ∷ []
spills_beside_webs_meeting = refl

spills_beside_webs_registers : registers spills_beside_webs (3 ∷ 4 ∷ []) (18 ∷ 15 ∷ 16 ∷ []) ≡ Some 19 ∷ Some 20 ∷ Some 15 ∷ Some 16 ∷ Some 18 ∷ Some 5 ∷ Some 19 ∷ []
spills_beside_webs_registers = refl

-- ---- spills: a web among the free ones

abbrev spills_a_web_among_the_free_ones : Outline
spills_a_web_among_the_free_ones = outline 0 7 ((block 0 ((act (Some 0) [] false) ∷ (act (Some 1) [] false) ∷ (act (Some 2) [] false) ∷ (act (Some 3) [] false) ∷ (act (Some 4) [] false) ∷ (act (Some 5) [] false) ∷ (act (Some 6) (0 ∷ []) false) ∷ (act (Some 6) (6 ∷ 1 ∷ []) false) ∷ (act (Some 6) (6 ∷ 2 ∷ []) false) ∷ (act (Some 6) (6 ∷ 3 ∷ []) false) ∷ (act (Some 6) (6 ∷ 4 ∷ []) false) ∷ (act (Some 6) (6 ∷ 5 ∷ []) false) ∷ []) (6 ∷ []) []) ∷ [])

spills_a_web_among_the_free_ones_weights : map (weight spills_a_web_among_the_free_ones) (temps spills_a_web_among_the_free_ones) ≡ 2 ∷ 2 ∷ 2 ∷ 2 ∷ 2 ∷ 2 ∷ 12 ∷ []
spills_a_web_among_the_free_ones_weights = refl

spills_a_web_among_the_free_ones_held : held spills_a_web_among_the_free_ones ≡ []
spills_a_web_among_the_free_ones_held = refl

spills_a_web_among_the_free_ones_meeting : meeting spills_a_web_among_the_free_ones ≡ (1 ∷ 2 ∷ 3 ∷ 4 ∷ 5 ∷ []) ∷ (2 ∷ 3 ∷ 4 ∷ 5 ∷ 6 ∷ []) ∷ (3 ∷ 4 ∷ 5 ∷ 6 ∷ []) ∷ (4 ∷ 5 ∷ 6 ∷ []) ∷ (5 ∷ 6 ∷ []) ∷ (6 ∷ []) ∷ [] ∷ []
spills_a_web_among_the_free_ones_meeting = refl

spills_a_web_among_the_free_ones_registers : registers spills_a_web_among_the_free_ones (3 ∷ []) (3 ∷ 18 ∷ []) ≡ Some 19 ∷ Some 20 ∷ Some 18 ∷ Some 4 ∷ Some 5 ∷ Some 6 ∷ Some 19 ∷ []
spills_a_web_among_the_free_ones_registers = refl

-- ---- spills: by chance

abbrev spills_by_chance : Outline
spills_by_chance = outline 0 5 ((block 2 ((act (Some 0) [] false) ∷ (act (Some 1) [] false) ∷ (act (Some 2) [] false) ∷ (act (Some 2) [] false) ∷ (act (Some 0) (1 ∷ 2 ∷ []) true) ∷ (act (Some 4) (0 ∷ []) false) ∷ (act (Some 4) (4 ∷ 1 ∷ []) false) ∷ (act (Some 4) (4 ∷ 2 ∷ []) false) ∷ []) (0 ∷ []) (0 ∷ 1 ∷ [])) ∷ (block 0 [] (4 ∷ []) []) ∷ [])

spills_by_chance_weights : map (weight spills_by_chance) (temps spills_by_chance) ≡ 256 ∷ 192 ∷ 256 ∷ 0 ∷ 321 ∷ []
spills_by_chance_weights = refl

spills_by_chance_held : held spills_by_chance ≡ 1 ∷ 2 ∷ []
spills_by_chance_held = refl

spills_by_chance_meeting : meeting spills_by_chance ≡ (1 ∷ 2 ∷ 4 ∷ []) ∷ (2 ∷ 4 ∷ []) ∷ (4 ∷ []) ∷ [] ∷ [] ∷ []
spills_by_chance_meeting = refl

spills_by_chance_registers : registers spills_by_chance (11 ∷ []) (7 ∷ 16 ∷ 6 ∷ 15 ∷ []) ≡ Some 20 ∷ Some 4 ∷ Some 3 ∷ Some 19 ∷ Some 19 ∷ []
spills_by_chance_registers = refl

-- ---- spills: by chance with one free

abbrev spills_by_chance_with_one_free : Outline
spills_by_chance_with_one_free = outline 0 8 ((block 2 ((act (Some 0) [] false) ∷ (act (Some 1) [] false) ∷ (act (Some 2) [] false) ∷ (act (Some 3) [] false) ∷ (act (Some 4) [] false) ∷ (act (Some 5) [] false) ∷ (act (Some 5) (1 ∷ 5 ∷ []) true) ∷ (act (Some 0) (1 ∷ 5 ∷ []) false) ∷ (act (Some 5) (5 ∷ 3 ∷ []) false) ∷ (act (Some 3) (1 ∷ 4 ∷ []) false) ∷ (act (Some 2) (3 ∷ 5 ∷ []) false) ∷ (act (Some 7) (0 ∷ []) false) ∷ (act (Some 7) (7 ∷ 1 ∷ []) false) ∷ (act (Some 7) (7 ∷ 2 ∷ []) false) ∷ (act (Some 7) (7 ∷ 3 ∷ []) false) ∷ (act (Some 7) (7 ∷ 4 ∷ []) false) ∷ (act (Some 7) (7 ∷ 5 ∷ []) false) ∷ []) (0 ∷ []) (0 ∷ 1 ∷ [])) ∷ (block 0 [] (7 ∷ []) []) ∷ [])

spills_by_chance_with_one_free_weights : map (weight spills_by_chance_with_one_free) (temps spills_by_chance_with_one_free) ≡ 256 ∷ 320 ∷ 192 ∷ 320 ∷ 192 ∷ 512 ∷ 0 ∷ 705 ∷ []
spills_by_chance_with_one_free_weights = refl

spills_by_chance_with_one_free_held : held spills_by_chance_with_one_free ≡ 1 ∷ 3 ∷ 4 ∷ []
spills_by_chance_with_one_free_held = refl

spills_by_chance_with_one_free_meeting : meeting spills_by_chance_with_one_free ≡ (1 ∷ 2 ∷ 3 ∷ 4 ∷ 5 ∷ 7 ∷ []) ∷ (2 ∷ 3 ∷ 4 ∷ 5 ∷ 7 ∷ []) ∷ (3 ∷ 4 ∷ 5 ∷ 7 ∷ []) ∷ (4 ∷ 5 ∷ 7 ∷ []) ∷ (5 ∷ 7 ∷ []) ∷ (7 ∷ []) ∷ [] ∷ [] ∷ []
spills_by_chance_with_one_free_meeting = refl

spills_by_chance_with_one_free_registers : registers spills_by_chance_with_one_free [] (18 ∷ []) ≡ Some 18 ∷ Some 3 ∷ Some 5 ∷ Some 4 ∷ Some 6 ∷ Some 20 ∷ Some 19 ∷ Some 19 ∷ []
spills_by_chance_with_one_free_registers = refl
