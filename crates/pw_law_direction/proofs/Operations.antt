-- What an operation of a function under directives enters: a function that the graph says it calls.
use Rattle.std.proofs.Common.{◌≡◌, ℕ, true, List, map, refl, sym, subst}
use Rattle.std.specs.Prelude.{Option, Contains}
use Rattle.std.specs.List.{AllByRecursion}
use Rattle.pw_value.specs.declared.value.Value.{Value}
use Rattle.pw_files.proofs.Standing.{Has, has_by, contains_by, has_map_back, has_flat}
use Rattle.pw_db.specs.declared.database.Web.{Web}
use Rattle.pw_db.specs.declared.database.Role.{Role}
use Rattle.pw_flow.specs.declared.flow.FlowFn.{FlowFn}
use Rattle.pw_flow.specs.declared.flow.Block.{Block}
use Rattle.pw_flow.specs.declared.flow.Op.{Op}
use Rattle.pw_flow.specs.declared.flow.Op.TheVariants as op
use Rattle.pw_flow.specs.Uses.{op_calls}
use Rattle.pw_webflow.specs.declared.web.WebOp.TheVariants.{Flow}
use Rattle.pw_webflow.specs.declared.web.WebBlock.{WebBlock}
use Rattle.pw_webflow.specs.Direction.{directed, directed_op, directed_block}
use Rattle.pw_db_sound.specs.CallGraphs.{Calls}
use Rattle.pw_run_languages.specs.Programs.{Program}
use Rattle.pw_run_languages.specs.Commands as command
use Rattle.pw_run_languages.specs.LawfulPrograms.{ops_of, graph_of}
use Rattle.pw_run_languages.specs.Direction.{directives_of}
use Rattle.pw_law_operations.specs.Laws.{StaysInside}
use Rattle.pw_law_operations.proofs.Asking.{stays_inside}
use Rattle.pw_law_direction.specs.Values.{FineValue}
use Rattle.pw_law_direction.specs.DirectedLaws.{OperationsCallByTheGraph}
use Rattle.pw_law_direction.specs.SideBySide.{IsCall}
use Rattle.pw_law_direction.proofs.Commands.{flow_op}
use Rattle.pw_law_direction.proofs.Edges.{MayCall, call-allowed}

-- ---- only a call enters a function

is_call : (p : Program) (o : Op) (base : ℕ) (value : ℕ → Value) (t : Option ℕ) (g : List ℕ) (args : List Value) → command.command p base o value ≡ command.Enter t g args
    → IsCall o × (op_calls o ≡ true)
is_call p (op.Call x h temps) base value t g args e = (tt, refl)
is_call p (op.CallInd x a shape temps) base value t g args e = (tt, refl)
is_call p o base value t g args e = absurd (subst StaysInside e (stays_inside p base o value refl))

-- ---- an operation of the function under directives is one of the function

own_op : (webs : List (Web × Role)) (f : FlowFn) (block : WebBlock) (o : Op) → Has block (map (directed_block webs) f.blocks) → Has (Flow o) block.ops → Contains (ops_of f) o
own_op webs f block o there among =
    let b = has_map_back (directed_block webs) block f.blocks there in
    let k = has_map_back (directed_op webs) (Flow o) b.0.ops (subst (λ (x : WebBlock). Has (Flow o) x.ops) (sym b.2) among) in
    contains_by o (ops_of f) (subst (λ (x : Op). Has x (ops_of f)) (flow_op webs k.0 o k.2).0 (has_flat (λ (x : Block). x.ops) b.0 k.0 f.blocks b.1 k.1))

pub operations_call : OperationsCallByTheGraph
unfolding directed
operations_call p d f block o base value t g args there block_there op_there fine e =
    let webs = (directives_of d f.name).webs in
    let call = is_call p o base value t g args e in
    let own = own_op webs f block o (has_by block (map (directed_block webs) f.blocks) block_there) (has_by (Flow o) block.ops op_there) in
    let edge : AllByRecursion (FineValue p) args × Calls (graph_of p) f.name g = subst (MayCall p f.name) e (call-allowed p f o base value call.0 there own fine) in
    (call.1, edge.1)
