-- What a debugger knows of the functions of objects, by the flow graphs and the directives that the objects were made of.
use Rattle.std.specs.Prelude.{ℕ, ℤ, ◌≡◌, ◌+◌, List, [], ◌∷◌, ◌++◌}
use Rattle.pw_db.specs.declared.database.Directives.{Directives}
use Rattle.pw_db_file.specs.Spelling.{IsPayload}
use Rattle.pw_flow.specs.declared.flow.FlowFn.{FlowFn}
use Rattle.pw_flow.specs.declared.flow.FlowModule.{FlowModule}
use Rattle.pw_flowfile.specs.FlowFile.{IsFlowFile}
use Rattle.pw_object.specs.declared.object.Object.{Object}
use Rattle.pw_object.specs.declared.functions.ObjectFn.{ObjectFn}
use Rattle.pw_webflow.specs.Direction.{directed}
use Rattle.pw_alloc.specs.Frames.{head_size, saved_offset}
use Rattle.pw_alloc.specs.declared.located.Located.{Located}
use Rattle.pw_alloc_temps.specs.Temporaries.{allocated}
use Rattle.pw_phase_two.specs.Phases.{AreDirectivesIn}
use Rattle.pw_debug.specs.declared.info.FrameInfo.{FrameInfo}

-- ---- a function

-- registers that are saved one behind the other, from a place on, each with its offset from the stack pointer
abbrev pub places_from : ℕ → ℕ → List ℕ → List (ℕ × ℤ)
places_from head i [] = []
places_from head i (r ∷ rest) = (r, saved_offset head i) ∷ places_from head (i + 1) rest

abbrev pub save_places : Located → List (ℕ × ℤ)
save_places l = places_from (head_size l.body) 0 l.saved

abbrev pub frame_info : Located → FrameInfo
frame_info l = record { function = l.body.name; frame = l.frame; saved = save_places l; webs = l.body.directives.webs }

-- ---- a module

-- functions, each under the directives that stand at its place
abbrev pub frames_in : List FlowFn → List (List ℕ × Directives) → List FrameInfo
frames_in [] ds = []
frames_in (f ∷ fs) [] = []
frames_in (f ∷ fs) (d ∷ ds) = frame_info (allocated (directed f d.1)) ∷ frames_in fs ds

-- the object was made of a flow graph and of directives: their file and their payload stand in it
pub record IsMade (o : Object) : Type 0 where
  pub flow : FlowModule
  pub stored : List (List ℕ × Directives)
  pub flow_file : IsFlowFile o.flow flow
  pub payload : IsPayload o.directives stored

-- these are the frames of the functions of an object: those of its flow graph, each under its own directives
pub record AreFramesOf (o : Object) (frames : List FrameInfo) : Type 0 where
  pub flow : FlowModule
  pub stored : List (List ℕ × Directives)
  pub directives : List (List ℕ × Directives)
  pub flow_file : IsFlowFile o.flow flow
  pub payload : IsPayload o.directives stored
  pub in_payload : AreDirectivesIn stored flow directives
  pub frames_are : frames ≡ frames_in flow.functions directives

-- ---- a program

-- those of objects, one after the other
pub data AreFrames : List Object → List FrameInfo → Type 0 where
  no_object : AreFrames [] []
  next_object : (o : Object) (os : List Object) (own behind : List FrameInfo) → AreFramesOf o own → AreFrames os behind → AreFrames (o ∷ os) (own ++ behind)

-- ---- names and frames

abbrev pub known_as : FrameInfo → List ℕ × ℕ
known_as i = (i.function, i.frame)

abbrev pub made_as : ObjectFn → List ℕ × ℕ
made_as f = (f.name, f.frame)
