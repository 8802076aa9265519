-- What an object is made of.
use Rattle.std.specs.Prelude.{ℕ, List}
use Rattle.pw_flow.specs.declared.flow.FlowModule.{FlowModule}
use Rattle.pw_flowfile.specs.FlowFile.{IsFlowFile}
use Rattle.pw_db.specs.declared.database.Directives.{Directives}
use Rattle.pw_phase_two.specs.declared.origin.Origin.{Origin}
use Rattle.pw_phase_two.specs.Phases.{IsPayloadOf}

-- the file of the flow graph, and the payload of the directives
pub record IsOriginOf (flow : FlowModule) (directives : List (List ℕ × Directives)) (origin : Origin) : Type 0 where
  pub flow_file : IsFlowFile origin.flow.items flow
  pub payload : IsPayloadOf origin.directives.items directives
