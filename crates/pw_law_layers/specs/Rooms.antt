-- What allocation and linking give on frames: a frame is at most the room of its flow graph, and the map has the
-- frames that allocation made.
use Rattle.std.specs.Prelude.{ℕ, ◌≤◌, List}
use Rattle.pw_db.specs.declared.database.Directives.{Directives}
use Rattle.pw_db.specs.Database.{IsDirectives}
use Rattle.pw_flow.specs.declared.flow.FlowFn.{FlowFn}
use Rattle.pw_flow.specs.ValidFlow.{IsFunction}
use Rattle.pw_webflow.specs.Direction.{directed}
use Rattle.pw_flow.specs.FrameRooms.{flow_room}
use Rattle.pw_alloc.specs.declared.located.Located.{Located}
use Rattle.pw_object.specs.declared.object.Object.{Object}
use Rattle.pw_link.specs.Linking.{linked}
use Rattle.pw_run_languages.specs.Programs.{Program}
use Rattle.pw_run_languages.specs.LawfulPrograms.{IsProgram}
use Rattle.pw_run_languages.specs.Direction.{directed_functions}
use Rattle.pw_run_languages.specs.Serving.{Serves, AllServe}
use Rattle.pw_run_languages.specs.SelectionLaws.{FramesAre}
use Rattle.pw_run_languages.specs.LinkingLaws.{AreObjectsOf, frame_in}

-- the frame of a function whose places serve it is at most the room of its flow graph
abbrev pub PlacesFit : Type 0
PlacesFit =
    (f : FlowFn) (d : Directives) (l : Located) → IsFunction f → IsDirectives d → Serves (directed f d) l → l.frame ≤ flow_room f

-- the map of a linked image has the frames of its functions, and none for the library's
abbrev pub MapHasFrames : Type 0
MapHasFrames =
    (p : Program) (d : List (List ℕ × Directives)) (functions : List Located) (objects : List Object) →
    IsProgram p → AllServe (directed_functions p d) functions → AreObjectsOf p functions objects →
    FramesAre (record p { frame_of = frame_in (linked objects p.stack) }) functions
