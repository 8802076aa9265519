use Rattle.std.proofs.Common.{[], ◌∷◌, refl, ap, ◌∙◌}
use Rattle.pw_check_state.specs.StateViews.{view_state}
use Rattle.pw_check_labels.proofs.Steps.{from}
use Rattle.pw_check_rules.specs.Functions.{measured_rule}
use Rattle.pw_check_rules.specs.States.{records_in}
use Rattle.pw_typed.specs.Views as typed
use Rattle.pw_value.specs.Caps.{capped}
use Rattle.pw_types.specs.Rooms.{nodes_of, room_of}
use Rattle.pw_value.specs.Limits.{node_limit, room_limit}
use Rattle.pw_check_walk.specs.Causes.{keeps}
use Rattle.pw_check_walk.specs.declared.constraints.Which.TheVariants.{Nodes, Room}
use Rattle.pw_check_walk.proofs.FindingLaws.{point_end}
use Rattle.pw_check_heads.proofs.PointLaws.{measured, no_want_found}
use Rattle.pw_check_heads.proofs.measures.measured_rule.Goals as goal

pub returns-clause-follows : goal.returns-clause-follows
unfolding measured_rule
returns-clause-follows c =
    let f = typed.view_function c.args.f.now in
    let t = c.args.word.now.token in
    let s = view_state c.args.state.now in
    from _ refl refl
    (point_end (keeps Nodes node_limit t (nodes_of f) ∷ keeps Room room_limit t (room_of (records_in s) f) ∷ []) s _ _
    (measured t (nodes_of f) (room_of (records_in s) f) _ _ _ _ c.none.ensures
    (c.keeps.ensures (nodes_of f) c.stmt_nodes-nodes.ensures)
    (c.keeps-2.ensures (room_of (records_in s) f) (c.room-bytes.ensures ∙ ap (λ r. capped (room_of r f)) c.records.ensures))
    c.from.ensures)
    c.end.ensures)

pub returns-clause-no_memory : goal.returns-clause-no_memory
returns-clause-no_memory c =
    let f = typed.view_function c.args.f.now in
    let t = c.args.word.now.token in
    let s = view_state c.args.state.now in
    no_want_found (keeps Nodes node_limit t (nodes_of f) ∷ keeps Room room_limit t (room_of (records_in s) f) ∷ []) _ c.end.result
    (measured t (nodes_of f) (room_of (records_in s) f) _ _ _ _ c.none.ensures
    (c.keeps.ensures (nodes_of f) c.stmt_nodes-nodes.ensures)
    (c.keeps-2.ensures (room_of (records_in s) f) (c.room-bytes.ensures ∙ ap (λ r. capped (room_of r f)) c.records.ensures))
    c.from.ensures)
    c.end.ensures
