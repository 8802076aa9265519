-- The laws of the layers, one after another, give what holds of a built program.
use Rattle.std.specs.Prelude.{ℕ, ◌≤◌, List}
use Rattle.std.proofs.Common.{arith, subst}
use Rattle.pw_value.specs.declared.value.Value.{Value}
use Rattle.pw_value.specs.Limits.{stack_least}
use Rattle.pw_value.specs.ProgramNames.{start_name}
use Rattle.pw_types.specs.Rooms.{start_room}
use Rattle.pw_value.specs.declared.value.Byte.{Byte}
use Rattle.pw_db.specs.declared.database.Directives.{Directives}
use Rattle.pw_alloc.specs.declared.located.Located.{Located}
use Rattle.pw_image.specs.declared.image.Image.{Image}
use Rattle.pw_machine.specs.Start.{image_start}
use Rattle.pw_cmean.specs.Worlds as source
use Rattle.pw_cmean.specs.Acts.{Moment}
use Rattle.pw_run.specs.Runs.{Stage, Refines, Same, Through}
use Rattle.pw_run_agreement.specs.Agreement.{Agree, IsDefined}
use Rattle.pw_db_sound.specs.CallGraphs.{Graph}
use Rattle.pw_run_languages.specs.Traces.{Event, EventAlike, calls_alone, calls_of, Notes, KeepRegisters}
use Rattle.pw_run_languages.specs.Calls.{FollowsCalls}
use Rattle.pw_run_languages.specs.Traffic.{ObeysTraffic}
use Rattle.pw_run_languages.specs.Meeting.{MetWith}
use Rattle.pw_run_languages.specs.Late.{RefinesLately}
use Rattle.pw_run_languages.proofs.Meeting.{met_with, met_on, carried}
use Rattle.pw_run_languages.proofs.Late.{late_same, carried_late, same_kind}
use Rattle.pw_run_languages.proofs.Traffic.{traffic_alike, follows_alike}
use Rattle.pw_run_languages.specs.Programs.{Program}
use Rattle.pw_run_languages.specs.FlowRun.{flow_run}
use Rattle.pw_run_languages.specs.LawfulPrograms.{graph_of}
use Rattle.pw_run_languages.specs.PlacedRun.{placed_run}
use Rattle.pw_run_languages.specs.Direction.{web_run, with_functions, MomentAlike}
use Rattle.pw_run_languages.specs.PlacementLaws.{DirectionKeeps, PlacesKeep}
use Rattle.pw_run_languages.specs.Standing.{EventInWords}
use Rattle.pw_run_languages.specs.LineRun.{line_run}
use Rattle.pw_run_languages.specs.SelectionLaws.{line_program, placed_program, SelectionKeeps, PlacementKeepsRuns}
use Rattle.pw_run_languages.specs.LinkingLaws.{LinkKeeps, address_of, frame_in, map_of, image_run}
use Rattle.pw_law_source.specs.Source.{source_stages, source_progress, source_runs}
use Rattle.pw_law_source.specs.Lowering.{MomentKept}
use Rattle.pw_law_layers.specs.Whole.{InMachine, image_of, LayersHold, LayersCompose}
use Rattle.pw_law_layers.specs.Guarding.{SoundDirectivesGuard}
use Rattle.pw_law_layers.specs.Rooms.{MapHasFrames}
use Rattle.pw_law_layers.proofs.Fitting.{places_fit}
use Rattle.pw_law_layers.proofs.Frames.{frames_are, frame_of_room}
use Rattle.pw_law_layers.proofs.Agreement.{source_to_machine, source_to_webs, agrees, places_kind, words_kind}
use Rattle.pw_law_layers.proofs.Roomless.{stages_kept}
use Rattle.pw_law_layers.proofs.Noted.{defined_notes, registers_closed, traffic_closed, same_logs, same_kinds}

-- what the lines note of registers holds of the machine
registers_down : (d : List (List ℕ × Directives)) (s : Stage Moment) (lines machine : ℕ → Stage (Event ℕ ℕ))
    → RefinesLately Same lines machine → MetWith (KeepRegisters d) s lines → MetWith (KeepRegisters d) s machine
registers_down d s lines machine r m =
    carried_late Same (KeepRegisters d) (KeepRegisters d) (λ l k a h. subst (KeepRegisters d) (same_logs l k a) h) (λ e l h. h.1) s lines machine r m

-- what the directed run notes of calls holds of the placed run
calls_down : (g : Graph) (s : Stage Moment) (webs places : ℕ → Stage (Event Byte Value)) → Refines (EventAlike Same Same) webs places
    → MetWith (FollowsCalls g) s webs → MetWith (FollowsCalls g) s places
calls_down g s webs places a m =
    carried (EventAlike Same Same) (FollowsCalls g) (FollowsCalls g)
    (λ l k q. follows_alike g l k (same_kinds (EventAlike Same Same) places_kind l k q)) s webs places a m

-- what the directed run notes of traffic holds of the machine
traffic_down : (p : Program) (named : List ℕ → ℕ) (g : Graph) (d : List (List ℕ × Directives)) (s : Stage Moment)
    (webs places : ℕ → Stage (Event Byte Value)) (lines machine : ℕ → Stage (Event ℕ ℕ))
    → Refines (EventAlike Same Same) webs places → Refines (EventInWords p named) places lines → RefinesLately Same lines machine
    → MetWith (ObeysTraffic g d) s webs → MetWith (ObeysTraffic g d) s machine
traffic_down p named g d s webs places lines machine a b c m =
    carried_late Same (ObeysTraffic g d) (ObeysTraffic g d)
    (λ l k q. traffic_alike g d l k (same_kinds Same same_kind l k q)) (λ e l h. h.1) s lines machine c
    (carried (EventInWords p named) (ObeysTraffic g d) (ObeysTraffic g d)
    (λ l k q. traffic_alike g d l k (same_kinds (EventInWords p named) (words_kind p named) l k q)) s places lines b
    (carried (EventAlike Same Same) (ObeysTraffic g d) (ObeysTraffic g d)
    (λ l k q. traffic_alike g d l k (same_kinds (EventAlike Same Same) places_kind l k q)) s webs places a m))

record Holding (p : source.Program) (q : Program) (d : List (List ℕ × Directives)) (functions : List Located) (v : Image) (frame_of : List ℕ → ℕ) (stack : ℕ) (input : List ℕ) : Type 0 where
  agree : Agree (source_runs p frame_of stack input) (image_start v.memory) input
  places : Refines (InMachine q (address_of v)) (source_stages p frame_of stack input) (calls_of (image_run q functions v input))
  registers : IsDefined (source_runs p frame_of stack input) → (n : ℕ) → Notes (KeepRegisters d) (image_run q functions v input n)
  traffic : IsDefined (source_runs p frame_of stack input) → (n : ℕ) → Notes (ObeysTraffic (graph_of q) d) (image_run q functions v input n)

-- the runs of a built program, and what each layer keeps
record Layers (p : source.Program) (q : Program) (d : List (List ℕ × Directives)) (functions : List Located) (v : Image) (frame_of : List ℕ → ℕ) (stack : ℕ) (input : List ℕ) : Type 0 where
  low : Refines (MomentKept q) (source_progress p frame_of stack input) (flow_run q input)
  direction : DirectionKeeps q d input
  places : PlacesKeep q d functions input
  link : LinkKeeps q functions v input
  selection : SelectionKeeps q d functions link.addresses link.scratch input
  placement : RefinesLately Same (line_run (line_program q functions) link.addresses link.scratch input) (line_run (placed_program q functions) link.addresses link.scratch input)

whole : (p : source.Program) (q : Program) (d : List (List ℕ × Directives)) (functions : List Located) (v : Image) (frame_of : List ℕ → ℕ) (stack : ℕ) (input : List ℕ)
    → (l : Layers p q d functions v frame_of stack input)
    → Refines (EventInWords q (address_of v)) (placed_run (with_functions q functions) input) (line_run (line_program q functions) l.link.addresses l.link.scratch input)
    → Holding p q d functions v frame_of stack input
whole p q d functions v frame_of stack input l words =
    let source = source_stages p frame_of stack input in
    let webs = web_run q d input in
    let places = placed_run (with_functions q functions) input in
    let lines = line_run (line_program q functions) l.link.addresses l.link.scratch input in
    let machine = image_run q functions v input in
    let down = late_same lines (line_run (placed_program q functions) l.link.addresses l.link.scratch input) machine l.placement l.link.runs in
    let low = stages_kept (MomentKept q) p frame_of stack input (flow_run q input) l.low in
    let to_machine : (stages : ℕ → Stage Moment) → Refines (MomentKept q) stages (flow_run q input) → Refines (InMachine q (address_of v)) stages (calls_of machine) =
    λ stages kept. source_to_machine q (address_of v) stages (flow_run q input) webs places lines machine kept l.direction.runs l.places.runs words down in
    let to_webs = source_to_webs q source (flow_run q input) webs low l.direction.runs in
    record {
      agree = agrees p frame_of stack input q (address_of v) (map_of q functions v) (image_start v.memory) (to_machine (source_progress p frame_of stack input) l.low);
      places = to_machine source low;
      registers = λ defined n. defined_notes (KeepRegisters d) (registers_closed d) p frame_of stack input (map_of q functions v) (image_start v.memory) defined
          (λ k. registers_down d (source k) lines machine down
          (met_on (FollowsCalls (graph_of q)) (KeepRegisters d) (source k) places lines
          (calls_down (graph_of q) (source k) webs places l.places.runs
          (met_with (Through (MomentKept q) (MomentAlike q)) (FollowsCalls (graph_of q)) calls_alone (source k) webs l.direction.calls (to_webs k))) l.selection.registers)) n;
      traffic = λ defined n. defined_notes (ObeysTraffic (graph_of q) d) (traffic_closed (graph_of q) d) p frame_of stack input (map_of q functions v) (image_start v.memory) defined
          (λ k. traffic_down q (address_of v) (graph_of q) d (source k) webs places lines machine l.places.runs words down
          (met_with (Through (MomentKept q) (MomentAlike q)) (ObeysTraffic (graph_of q) d) calls_alone (source k) webs l.direction.traffic (to_webs k))) n;
    }

pub holds : LayersHold
holds p q d functions objects input l =
    let v = image_of objects q.stack in
    let h = whole p q d functions v (frame_in v) q.stack input
    (record { low = l.lowering; direction = l.direction; places = l.places; link = l.linking; selection = l.selection; placement = l.placement.runs })
    (subst (λ named. Refines (EventInWords q named) (placed_run (with_functions q functions) input) (line_run (line_program q functions) l.linking.addresses l.linking.scratch input)) l.linking.named l.selection.runs) in
    record { agree = h.agree; places = h.places; registers = h.registers; traffic = h.traffic }

-- by the laws on the map and on placement
pub composes : MapHasFrames → PlacementKeepsRuns → SoundDirectivesGuard → LayersHold → LayersCompose
composes map placement guard hold selection link p q d functions objects input built bytes direction places =
    let v = image_of objects q.stack in
    let program = built.implements.program in
    let frames = frames_are map q d functions objects built.frames program built.serve built.made in
    let first : q.frame_of start_name ≤ start_room = frame_of_room places_fit q d functions frames built.serve program built.database start_name start_room built.implements.rooms.start in
    let enough : stack_least ≤ q.stack = built.enough in
    let start : q.frame_of start_name ≤ q.stack = omega (arith, first, enough) in
    let l = link q d functions objects input program built.names built.database.directives built.serve built.made built.fits bytes in
    hold p q d functions objects input
    (record {
      lowering = subst (λ (F : List ℕ → ℕ). Refines (MomentKept q) (source_progress p F q.stack input) (flow_run q input)) built.frames
          (built.implements.runs input frames.library bytes);
      direction = direction;
      places = places;
      linking = l;
      selection = selection q d functions l.addresses l.scratch input program built.database.directives (guard q d functions built.database built.sound built.serve) built.serve frames start l.lawful bytes;
      placement = placement q d functions l.addresses l.scratch input program built.database.directives built.serve frames start l.lawful bytes;
    })
