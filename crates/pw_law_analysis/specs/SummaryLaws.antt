-- The call graph of summaries is that of the flow modules that they summarise, as a statement.
use Rattle.std.specs.Prelude.{ℕ, ◌≡◌, Some, List, Contains}
use Rattle.pw_flow.specs.declared.flow.FlowModule.{FlowModule}
use Rattle.pw_summarise.specs.Summarises.{addressed, in_module, function_entries, function_shape}
use Rattle.pw_run_languages.specs.Programs as flows
use Rattle.pw_run_languages.specs.Programs.{names_of}
use Rattle.pw_summary.specs.declared.summary.Summary.{Summary}
use Rattle.pw_graph.specs.declared.graph.CallGraph.{CallGraph}
use Rattle.pw_graph.specs.Program.{IsGraphOf}
use Rattle.pw_db_sound.specs.CallGraphs.{SayTheSame}
use Rattle.pw_run_languages.specs.LawfulPrograms.{IsProgram, graph_of}
use Rattle.pw_cmean.specs.Worlds.{Program}
use Rattle.pw_law_source.specs.Lowering.{flow_program, IsAccepted}
use Rattle.pw_law_analysis.specs.SummaryGraphs.{named_graph, AllSummarise}

-- A module has a shape for each function of the program whose address it takes: it defines or declares it.
abbrev pub HaveShapes : flows.Program → Type 0
HaveShapes q =
    (m : FlowModule) (name : List ℕ) → Contains q.modules m → Contains (in_module addressed m) name → Contains (names_of q) name →
    (shape : List ℕ) × (function_shape (function_entries m) m.declared name ≡ Some shape)

-- so it is in the flow graphs of an accepted program
abbrev pub AcceptedHaveShapes : Type 0
AcceptedHaveShapes = (p : Program) (frame_of : List ℕ → ℕ) (stack : ℕ) → IsAccepted p frame_of stack → HaveShapes (flow_program p frame_of stack)

-- of flow graphs that make a program and have shapes
abbrev pub SummariesSayTheSame : Type 0
SummariesSayTheSame =
    (q : flows.Program) (ss : List Summary) (g : CallGraph) →
    IsProgram q → HaveShapes q → AllSummarise q.modules ss → IsGraphOf ss g → SayTheSame (named_graph ss g) (graph_of q)
