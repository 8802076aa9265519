-- Conditions: at the end of a block the machine goes where the truth of a value leads.
use Rattle.std.proofs.Common.{◌≡◌, ℕ, ◌<◌, Bool, true, false, if◌then◌else◌, Some, List, [], length, Contains, slice_index_or, refl, subst}
use Rattle.std.proofs.lemmas.Option.{slice_get_within, slice_get-get_or, get_or_from_slice_get}
use Rattle.std.proofs.lemmas.List.Elements.{All-from_recursion, All-contains}
use Rattle.std.specs.List.{AllByRecursion}
use Rattle.pw_types.specs.TypedModules.{IsFunction, WellTyped}
use Rattle.pw_types.specs.TypedTrees.{FunctionValue, ModuleValue, token_of}
use Rattle.pw_flow.specs.declared.flow.End.{End}
use Rattle.pw_flow.specs.declared.flow.End.TheVariants.{Branch}
use Rattle.pw_flow.specs.declared.flow.Block.{Block}
use Rattle.pw_flow.specs.declared.flow.FlowFn.{FlowFn}
use Rattle.pw_flow.specs.ValidFlow.{IsEnd}
use Rattle.pw_lower.specs.Codes.{temp_of, bare}
use Rattle.pw_lower.specs.Expressions.{lower}
use Rattle.pw_lower.specs.Modules.{lowered_function}
use Rattle.pw_law_lower.specs.Ranges.{IsFunctionInRange, IsBlockInRange}
use Rattle.pw_cmean.specs.Worlds.{ProgramModule}
use Rattle.pw_cmean.specs.Acts.{◌>>=◌}
use Rattle.pw_cmean.specs.Operators.{truth}
use Rattle.pw_cmean.specs.Evaluation.{site, used, answer_of}
use Rattle.pw_cmean.specs.Execution.{condition, value_of}
use Rattle.pw_cmean.specs.SourceRun.{calls}
use Rattle.pw_run_languages.specs.Programs.{block_at}
use Rattle.pw_run_languages.specs.FlowRun.{value_in, steps}
use Rattle.pw_law_refine.specs.Activations.{graph_of, home_of, env_of}
use Rattle.pw_law_refine.specs.Expressions.{assigned_in, HasChosen, ExpressionsKeep, ConditionsKeep}
use Rattle.pw_law_refine_forms.proofs.Laws.{Laws}
use Rattle.pw_law_refine_forms.proofs.Simulation.{meets-then}
use Rattle.pw_law_refine_forms.proofs.Kit.{before-cut, ended-there, done-then, none-in, HasOperand, operand, operand-stands}
use Rattle.pw_law_refine_forms.proofs.Branches.{truth-goes, at-end, branch-comes, gone-done}

abbrev pub RangesHold : Type 0
RangesHold = (home : List ℕ) (m : ModuleValue) (f : FunctionValue) → IsFunction m f → IsFunctionInRange (lowered_function home m.records f)

-- the blocks to which a block of a function branches are there
branched : (g : FlowFn) (temps slots : ℕ) (n t b c : ℕ) (block : Block) → AllByRecursion (IsBlockInRange temps slots (length g.blocks)) g.blocks → block_at g n ≡ Some block → block.end ≡ Branch t b c
    → (b < length g.blocks) × (c < length g.blocks)
branched g temps slots n t b c block all there end =
    let h = All-from_recursion (IsBlockInRange temps slots (length g.blocks)) g.blocks all n block (slice_get_within g.blocks n block there) in
    let r : IsBlockInRange temps slots (length g.blocks) block = subst (λ (d : Block). IsBlockInRange temps slots (length g.blocks) d) (get_or_from_slice_get g.blocks n block block there) h in
    let e = subst (λ (u : End). IsEnd temps (length g.blocks) u) end r.end in
    (e.1, e.2)

chosen-there : (g : FlowFn) (b c : ℕ) (holds : Bool) → (b < length g.blocks) × (c < length g.blocks) → (next : Block) × (block_at g (if holds then b else c) ≡ Some next)
chosen-there g b c true h = (slice_index_or g.blocks b bare, slice_get-get_or g.blocks b bare h.0)
chosen-there g b c false h = (slice_index_or g.blocks c bare, slice_get-get_or g.blocks c bare h.1)

pub conditions : Laws → RangesHold → (bound : ℕ) → ExpressionsKeep bound → ConditionsKeep bound
unfolding condition value_of ◌>>=◌ steps
conditions laws ranges bound keeps x numbers spots a so other next depth c s m active typed slots scalar holds ready =
    let y = lower (home_of x) a c in
    let at = site (env_of x numbers) (token_of a) in
    let end = Branch (temp_of y) so other in
    let whole = before-cut (graph_of x) end next depth y.code holds in
    let block : Block = record { depth = y.code.depth; ops = y.code.ops; end = end } in
    let there = ended-there (graph_of x) end next depth y.code holds in
    let range = ranges x.home.name x.home.tree x.function (All-contains (IsFunction x.home.tree) x.home.tree.functions x.function (All-contains (λ (p : ProgramModule). WellTyped p.tree) x.world.program.modules x.home active.world.program.accepted.typed.modules active.home).functions active.function) in
    meets-then laws x.world bound m ((answer_of a (calls x.world bound) (env_of x numbers) >>= used at) s) (truth at)
    (HasOperand x numbers spots a c s m) (HasChosen x numbers spots a so other c s m)
    (operand laws bound x numbers spots a c s m at active typed ready.related.matches.bytes (keeps a x numbers spots c s m active typed slots whole ready))
    (λ v u n q.
    let later = q.0.done.later in
    truth-goes bound x later.spots at v (value_in n.frame (temp_of y)) u n (HasChosen x numbers spots a so other c s m) laws later.related.matches.shows later.related.matches.memory (operand-stands later.spots v y.temp n q.0.stands)
    (λ which truth.
    let b = chosen-there (graph_of x) so other which (branched (graph_of x) (graph_of x).temps (length (graph_of x).slots) y.code.cur (temp_of y) so other block range.blocks there refl) in
    let g = branch-comes x numbers later.spots u n (temp_of y) so other which b.0 later.related truth b.1 (at-end (graph_of x) y.code end n there q.0.behind) in
    record {
      count = 1;
      machine = g.0;
      comes = g.1;
      holds = record {
        done = done-then laws x numbers spots (assigned_in a) [] (assigned_in a) c y.code s u u m n g.0 ready.related (laws.later (home_of x) a c).temps (λ k e. e) (λ k e. none-in k (Contains (assigned_in a) k) e) q.0.done
            (gone-done x numbers later.spots [] (if which then so else other) y.code u n g.0 g.2);
        front = g.2.front;
      };
    }))
