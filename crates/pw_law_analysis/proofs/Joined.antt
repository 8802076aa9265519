-- The laws of the layers and those of the analyser together.
use Rattle.std.specs.Prelude.{ℕ, ◌≡◌, ◌==◌, Some, None, List, [], ◌++◌, map, find}
use Rattle.std.proofs.Common.{ap, subst, ◌∙◌}
use Rattle.pw_value.specs.declared.value.Kind.{Kind}
use Rattle.pw_files.proofs.Standing.{Has, has_by, contains_by}
use Rattle.pw_db.specs.declared.database.Directives.{Directives}
use Rattle.pw_summary.specs.declared.summary.Summary.{Summary}
use Rattle.pw_graph.specs.declared.graph.CallGraph.{CallGraph}
use Rattle.pw_milli.specs.Library.{routines}
use Rattle.pw_alloc.specs.declared.located.Located.{Located}
use Rattle.pw_object.specs.declared.object.Object.{Object}
use Rattle.pw_image.specs.declared.image.Image.{Image}
use Rattle.pw_link.specs.Linking.{linked}
use Rattle.pw_machine.specs.Core.{Core}
use Rattle.pw_machine.specs.Start.{image_start}
use Rattle.pw_db_sound.specs.CallGraphs.{Graph, SayTheSame}
use Rattle.pw_run.specs.Runs.{Stage, Going, Over, Wrong}
use Rattle.pw_run_languages.specs.Traces.{Notes}
use Rattle.pw_run_languages.specs.Traffic.{IsCovered, ObeysTraffic}
use Rattle.pw_run_languages.specs.Programs as flows
use Rattle.pw_run_languages.specs.Programs.{functions_of, globals_of}
use Rattle.pw_run_languages.specs.LawfulPrograms.{IsProgram, graph_of, eligible_of}
use Rattle.pw_run_languages.specs.Direction.{directed_functions}
use Rattle.pw_run_languages.specs.Serving.{AllServe}
use Rattle.pw_run_languages.specs.ImageTrace as image
use Rattle.pw_run_languages.specs.ImageTrace.{Symbols, traced, start_state, address_of, symbols_of, trace_of}
use Rattle.pw_run_languages.specs.MachineRun.{Map, function_at, traced_run, symbols_in}
use Rattle.pw_run_languages.specs.LinkingLaws.{AreObjectsOf, map_of, image_run}
use Rattle.pw_law_layers.specs.Whole.{image_of, Holds, LayersCompose}
use Rattle.pw_law_analysis.specs.SummaryGraphs.{named_graph}
use Rattle.pw_law_analysis.specs.ImageTraffic.{IsPlaced}
use Rattle.pw_law_analysis.specs.OwedLaws.{Serves, AnalysesCompose, AllLawsCompose}
use Rattle.pw_law_analysis.proofs.Symbols.{symbols_are}
use Rattle.pw_law_analysis.proofs.ImageTraffic.{of_fewer}
use Rattle.pw_law_analysis.proofs.ImageRegisters.{kept_over_call}

-- what holds of logs of which another thing holds
notes : {M : Type 0} → (P Q : List M → Type 0) → ((l : List M) → P l → Q l) → (s : Stage M) → Notes P s → Notes Q s
notes P Q from (Going v) h = from v.log h
notes P Q from (Over end v) h = from v.log h
notes P Q from Wrong h = tt

-- what the map of an image names
pub record Names : Type 0 where
  pub functions : (p : flows.Program) (d : List (List ℕ × Directives)) (functions : List Located) (objects : List Object) → IsProgram p → AllServe (directed_functions p d) functions → AreObjectsOf p functions objects
      → map (λ f. f.name) (linked objects p.stack).functions ≡ map (λ f. f.name) (functions_of p) ++ map (λ r. r.0) routines
  pub globals : (p : flows.Program) (functions : List Located) (objects : List Object) → IsProgram p → AreObjectsOf p functions objects
      → map (λ g. g.name) (linked objects p.stack).globals ≡ map (λ g. g.name) (globals_of p)

-- how a trace obeys what is noted
abbrev pub TraceObeys : Type 0
TraceObeys = (g : Graph) (d : List (List ℕ × Directives)) (m : Map) (c : Core) (input : List ℕ)
    → ((n : ℕ) → Notes (ObeysTraffic g d) (traced_run m c input n)) → (n : ℕ) → ObeysTraffic g d (traced (symbols_in m) (start_state c input) n).told

-- the eligible globals of the summaries are those of the flow graphs
forth : (ss : List Summary) (g : CallGraph) (q : flows.Program) → SayTheSame (named_graph ss g) (graph_of q) → (v : List ℕ) (k : Kind) → Has (v, k) g.globals → Has (v, k) (eligible_of q)
unfolding named_graph graph_of
forth ss g q same v k h = has_by (v, k) (eligible_of q) ((same.eligible v k).0 (contains_by (v, k) g.globals h))

back : (ss : List Summary) (g : CallGraph) (q : flows.Program) → SayTheSame (named_graph ss g) (graph_of q) → (v : List ℕ) (k : Kind) → Has (v, k) (eligible_of q) → Has (v, k) g.globals
unfolding named_graph graph_of
back ss g q same v k h = has_by (v, k) g.globals ((same.eligible v k).1 (contains_by (v, k) (eligible_of q) h))

-- the function that an image has at an address is the one that the run finds there
found : (q : flows.Program) (functions : List Located) (v : Image) (scalars : List (List ℕ × Kind)) → symbols_in (map_of q functions v) ≡ symbols_of v scalars
    → (a : ℕ) (f : List ℕ) → image.function_at (symbols_of v []) a ≡ Some f → function_at (map_of q functions v) a ≡ Some f
found q functions v scalars same a f e = ap (λ (s : Symbols). find (λ g. address_of v g == a) s.functions) same ∙ e

pub joined : LayersCompose → AnalysesCompose → Names → TraceObeys → AllLawsCompose
joined layers analyses names tells selection link lawful sound covered p q ss colours db functions objects input built bytes direction places =
    let v = image_of objects q.stack in
    let i = built.database in
    let g = named_graph ss i.graph in
    let s : Serves q ss colours db i = analyses lawful sound covered q ss colours db built.linked built.few i built.alike in
    let h : Holds p q db functions objects input =
    layers selection link p q db functions objects input
    (record {
      implements = built.implements;
      frames = built.frames;
      names = built.names;
      enough = built.enough;
      database = s.database;
      sound = s.sound;
      serve = built.serve;
      made = built.made;
      fits = built.fits;
    })
    bytes direction places in
    let is = built.implements.program in
    let same = symbols_are q functions v i.graph.globals is (names.functions q db functions objects is built.serve built.made) (names.globals q functions objects is built.made)
    (forth ss i.graph q built.alike) (back ss i.graph q built.alike) in
    record {
      holds = h;
      traffic = λ defined. record {
        database = db;
        is = i;
        obeys = λ n.
            of_fewer (IsCovered g db) (IsPlaced i) db (λ v placed. s.covered v placed.kind placed.eligible placed.coloured) (trace_of v i.graph.globals input n)
            (subst (λ (symbols : Symbols). ObeysTraffic g db (traced symbols (start_state (image_start v.memory) input) n).told) same
            (tells g db (map_of q functions v) (image_start v.memory) input
            (λ k. notes (ObeysTraffic (graph_of q) db) (ObeysTraffic g db) s.traffic (image_run q functions v input k) (h.traffic defined k)) n));
      };
      registers = λ defined f n m a b call r low high others.
          kept_over_call db (map_of q functions v) (image_start v.memory) input (h.registers defined) f n m a b call.called_after
          (found q functions v i.graph.globals same a.core.front f call.stands_at) call.goes call.later call.returned_after call.back call.first
          r low high others;
    }
