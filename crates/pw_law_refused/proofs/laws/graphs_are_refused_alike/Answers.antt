use Rattle.pw_law_refused.proofs.Graphs.{refused_alike}
use Rattle.pw_law_refused.proofs.laws.graphs_are_refused_alike.Goals as goal

pub returns : goal.returns
returns c = λ p d functions w input n k v u given direction places direction0 places0 over shown more.
    refused_alike c.webs_keep_shape.ensures c.calls_alone_stop.ensures.webs p d functions input w given c.active_calls_are_noted.ensures c.start_is_not_called.ensures
    (λ q e fs x i m s t g at stop. c.stops_are_refusals.ensures q e fs x i m s t g g.frames.library at stop)
    direction places direction0 places0 n k v u over shown more
