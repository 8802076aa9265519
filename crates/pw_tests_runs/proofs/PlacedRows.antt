-- What the programs do as flow graphs, and under their directives.
use Rattle.std.specs.Prelude.{◌≡◌, [], ◌∷◌, codes}
use Rattle.std.proofs.Common.{refl}
use Rattle.pw_value.specs.declared.value.Value.TheVariants.{Num}
use Rattle.pw_value.specs.declared.value.Byte.TheVariants as B
use Rattle.pw_run_languages.specs.Traces.{InMemory, InPlace}
use Rattle.pw_webflow.specs.Direction.{directed}
use Rattle.pw_alloc.specs.Allocation.{entered_from}
use Rattle.pw_run_languages.specs.Commands as command
use Rattle.pw_run_languages.specs.FlowRun as flow
use Rattle.pw_run_languages.specs.FlowRun.{flow_run}
use Rattle.pw_run_languages.specs.PlacedRun.{placed_run, step, steps}
use Rattle.pw_run_languages.specs.Direction.{web_run}
use Rattle.pw_tests_runs.proofs.Stories.{story, flow_story, globals_at}
use Rattle.pw_tests_runs.proofs.Programs.{bumping, bump_directives, recursion, recursion_directives, starting, start_directives, nesting, nest_directives, pointing, pointing_directives, losing}

bump_flows : flow_story (flow_run bumping [] 40) ≡ codes " (main (bump )bump (bump )bump )main = 2 2"
unfolding flow_run flow.steps flow.step command.command
bump_flows = refl

bump_runs : story (web_run bumping bump_directives [] 40) ≡ codes " ($start (main <n (bump )bump (bump )bump (putchar )putchar >n )main (exit = 2 2"
unfolding web_run placed_run steps step command.command directed entered_from
bump_runs = refl

recursion_flows : flow_story (flow_run (recursion 4096) [] 60) ≡ codes " (main (f (f (f )f )f )f )main = 3 "
unfolding flow_run flow.steps flow.step command.command
recursion_flows = refl

recursion_runs : story (web_run (recursion 4096) recursion_directives [] 60) ≡ codes " ($start (main <n (f (f (f )f )f )f >n )main (exit = 3 "
unfolding web_run placed_run steps step command.command directed entered_from
recursion_runs = refl

full_flows : flow_story (flow_run (recursion 256) [] 60) ≡ codes " (main (f (f full "
unfolding flow_run flow.steps flow.step command.command
full_flows = refl

full_runs : story (web_run (recursion 256) recursion_directives [] 60) ≡ codes " ($start (main <n (f (f !f full "
unfolding web_run placed_run steps step command.command directed entered_from
full_runs = refl

start_flows : flow_story (flow_run starting [] 60) ≡ codes " (main (main )main )main = 2 "
unfolding flow_run flow.steps flow.step command.command
start_flows = refl

start_runs : story (web_run starting start_directives [] 60) ≡ codes " ($start <n (main (main )main )main (exit = 2 "
unfolding web_run placed_run steps step command.command directed entered_from
start_runs = refl

nest_flows : flow_story (flow_run nesting [] 60) ≡ codes " (main (k (h )h )k )main = 5 A"
unfolding flow_run flow.steps flow.step command.command
nest_flows = refl

nest_runs : story (web_run nesting nest_directives [] 60) ≡ codes " ($start (main <n (k (h <m (putchar )putchar >m )h )k >n )main (exit = 5 A"
unfolding web_run placed_run steps step command.command directed entered_from
nest_runs = refl

pointer_flows : flow_story (flow_run pointing [] 40) ≡ codes " (main (g )g )main = 8 "
unfolding flow_run flow.steps flow.step command.command
pointer_flows = refl

pointer_runs : story (web_run pointing pointing_directives [] 40) ≡ codes " ($start (main <n (g )g >n )main (exit = 8 "
unfolding web_run placed_run steps step command.command directed entered_from
pointer_runs = refl

-- Inside h, n stands in the word in which h saved its register, and m in the register; when k is called, m is still in
-- memory.
nest_inside : globals_at (codes "putchar") (web_run nesting nest_directives [] 60) ≡ InPlace (Num 5) ∷ InPlace (Num 7) ∷ []
unfolding web_run placed_run steps step command.command directed entered_from
nest_inside = refl

nest_before : globals_at (codes "k") (web_run nesting nest_directives [] 60) ≡ InPlace (Num 5) ∷ InMemory (B.Num 0 ∷ B.Num 0 ∷ B.Num 0 ∷ B.Num 0 ∷ []) ∷ []
unfolding web_run placed_run steps step command.command directed entered_from
nest_before = refl

-- a branch on a pointer that leads nowhere has no meaning
lost_flows : flow_story (flow_run losing [] 10) ≡ codes "wrong"
unfolding flow_run flow.steps flow.step command.command
lost_flows = refl

lost_runs : story (web_run losing [] [] 10) ≡ codes "wrong"
unfolding web_run placed_run steps step command.command directed entered_from
lost_runs = refl
