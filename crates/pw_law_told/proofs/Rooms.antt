-- The frames of a built program: those of the map, each at most the room of its function.
use Rattle.std.specs.Prelude.{ℕ, ◌≡◌, ◌≤◌, List, [], ◌∷◌, map}
use Rattle.std.proofs.Common.{arith, subst, sym, ap, refl, inl, inr, ◌∙◌}
use Rattle.pw_files.proofs.Standing.{Has, has_by, contains_by}
use Rattle.pw_db.specs.declared.database.Directives.{Directives}
use Rattle.pw_db.specs.Database.{IsDatabase}
use Rattle.pw_flow.specs.declared.flow.FlowFn.{FlowFn}
use Rattle.pw_flow.specs.FrameRooms.{flow_room}
use Rattle.pw_webflow.specs.declared.web.WebFn.{WebFn}
use Rattle.pw_webflow.specs.Direction.{directed}
use Rattle.pw_alloc.specs.declared.located.Located.{Located}
use Rattle.pw_object.specs.declared.object.Object.{Object}
use Rattle.pw_run_languages.specs.Programs.{Program, NoneForLibrary, functions_of}
use Rattle.pw_run_languages.specs.LawfulPrograms.{IsProgram}
use Rattle.pw_run_languages.specs.Direction.{directives_of, directed_by, directed_functions}
use Rattle.pw_run_languages.specs.Serving.{Serves, AllServe}
use Rattle.pw_run_languages.specs.SelectionLaws.{FramesAre}
use Rattle.pw_run_languages.specs.LinkingLaws.{AreObjectsOf, frame_in}
use Rattle.pw_law_selection.proofs.Given.{directives_lawful, function_valid}
use Rattle.pw_law_layers.specs.Rooms.{MapHasFrames, PlacesFit}
use Rattle.pw_law_layers.specs.Whole.{HasRoom, image_of}

-- one of the places serves the function
record Served (f : WebFn) (ls : List Located) : Type 0 where
  located : Located
  there : Has located ls
  serves : Serves f located

served : (g : FlowFn → WebFn) (fs : List FlowFn) (ls : List Located) (f : FlowFn) → AllServe (map g fs) ls → Has f fs → Served (g f) ls
served g [] ls f all h = absurd h
served g (x ∷ fs) [] f all h = absurd all
served g (x ∷ fs) (l ∷ ls) f all (inl e) = record { located = l; there = inl refl; serves = subst (λ (y : FlowFn). Serves (g y) l) e all.0 }
served g (x ∷ fs) (l ∷ ls) f all (inr h) =
    let k = served g fs ls f all.1 h in
    record { located = k.located; there = inr k.there; serves = k.serves }

directed_name : (f : FlowFn) (d : Directives) → (directed f d).name ≡ f.name
unfolding directed
directed_name f d = refl

-- the frames are those that allocation made
pub frames_are : MapHasFrames → (q : Program) (d : List (List ℕ × Directives)) (functions : List Located) (objects : List Object)
    → q.frame_of ≡ frame_in (image_of objects q.stack) → IsProgram q → AllServe (directed_functions q d) functions → AreObjectsOf q functions objects
    → FramesAre q functions
frames_are map q d functions objects frames program serve made =
    let mapped = map q d functions objects program serve made in
    record {
      defined = λ f c. ap (λ (F : List ℕ → ℕ). F f.body.name) frames ∙ mapped.defined f c;
      library = subst NoneForLibrary (sym frames) mapped.library;
    }

-- the frame of a function that has at most so much room
pub frame_of_room : PlacesFit → (q : Program) (d : List (List ℕ × Directives)) (functions : List Located)
    → FramesAre q functions → AllServe (directed_functions q d) functions → IsProgram q → IsDatabase d
    → (name : List ℕ) (room : ℕ) → HasRoom q name room → q.frame_of name ≤ room
frame_of_room fit q d functions frames serve program database name room has =
    let f = has.function in
    let there = has_by f (functions_of q) has.there in
    let s = served (directed_by d) (functions_of q) functions f serve there in
    let named : s.located.body.name ≡ f.name = ap (λ (b : WebFn). b.name) s.serves.body ∙ directed_name f (directives_of d f.name) in
    let framed : q.frame_of f.name ≡ s.located.frame = subst (λ (n : List ℕ). q.frame_of n ≡ s.located.frame) named (frames.defined s.located (contains_by s.located functions s.there)) in
    let a : s.located.frame ≤ flow_room f = fit f (directives_of d f.name) s.located (function_valid q program f there) (directives_lawful d f.name database.directives) s.serves in
    let b : flow_room f ≤ room = has.fits in
    let c : q.frame_of f.name ≡ q.frame_of name = ap q.frame_of has.named in
    omega (arith, a, b, c, framed)
