-- Frames are within rooms, by the laws of places and the map.
use Rattle.std.specs.Prelude.{ℕ, ◌≡◌, ◌≤◌, ◌<◌, Bool, true, false, if◌then◌else◌, List, [], ◌∷◌, map, Contains}
use Rattle.std.specs.List.{flat_map, AllByRecursion}
use Rattle.std.specs.Str.{bytes_eq}
use Rattle.std.proofs.Common.{arith, subst, sym, ap, refl, inl, inr, ◌∙◌}
use Rattle.std.proofs.lemmas.List.Elements.{All-contains, All-from_recursion, Contains-append_left, Contains-append_right, Contains-append_cases, Contains-push_cases}
use Rattle.std.proofs.lemmas.List.Concat.{flat_map-cons}
use Rattle.pw_value.specs.ProgramNames.{start_name}
use Rattle.pw_types.specs.Rooms.{room_of, start_room}
use Rattle.pw_db.specs.declared.database.Directives.{Directives}
use Rattle.pw_db.specs.Database.{IsDirectives, IsDatabase}
use Rattle.pw_flow.specs.declared.flow.FlowFn.{FlowFn}
use Rattle.pw_flow.specs.declared.flow.FlowModule.{FlowModule}
use Rattle.pw_flow.specs.ValidFlow.{IsFunction, IsValid}
use Rattle.pw_webflow.specs.declared.web.WebFn.{WebFn}
use Rattle.pw_webflow.specs.Direction.{directed}
use Rattle.pw_flow.specs.FrameRooms.{flow_room}
use Rattle.pw_alloc.specs.declared.located.Located.{Located}
use Rattle.pw_object.specs.declared.object.Object.{Object}
use Rattle.pw_cmean.specs.Worlds.{full_name}
use Rattle.pw_run_languages.specs.Programs as flows
use Rattle.pw_run_languages.specs.Programs.{functions_of, NoneForLibrary}
use Rattle.pw_run_languages.specs.LawfulPrograms.{IsProgram}
use Rattle.pw_run_languages.specs.Direction.{directives_of, directed_by, directed_functions}
use Rattle.pw_run_languages.specs.Serving.{Serves, AllServe}
use Rattle.pw_run_languages.specs.SelectionLaws.{FramesAre}
use Rattle.pw_run_languages.specs.LinkingLaws.{AreObjectsOf, frame_in}
use Rattle.pw_law_layers.specs.Rooms.{MapHasFrames, PlacesFit}
use Rattle.pw_law_layers.specs.Whole.{HasRoom, AllFramesFit, image_of}

-- ---- elements

pub nowhere : {X : Type 0} (x : X) → Contains [] x → ⊥
nowhere x c = let h : c.0 < 0 = c.1 in omega (arith, h)

pub first_there : {X : Type 0} (x : X) (xs : List X) → Contains (x ∷ xs) x
first_there x xs = Contains-append_left (x ∷ []) xs x (0, omega arith, refl)

pub map_there : {X Y : Type 0} (h : X → Y) (xs : List X) (x : X) → Contains xs x → Contains (map h xs) (h x)
map_there h [] x c = absurd (nowhere x c)
map_there h (y ∷ ys) x c = elim (Contains-append_cases (y ∷ []) ys x c) [
  | inl first ↦ elim (Contains-push_cases [] y x first) [
    | inl none ↦ absurd (nowhere x none)
    | inr e ↦ subst (λ x. Contains (map h (y ∷ ys)) (h x)) e (first_there (h y) (map h ys))
  ]
  | inr later ↦ Contains-append_right (h y ∷ []) (map h ys) (h x) (map_there h ys x later)
]

-- ---- the place of each function

pub record Served (f : WebFn) (ls : List Located) : Type 0 where
  pub located : Located
  pub there : Contains ls located
  pub serves : Serves f located

pub served : (g : FlowFn → WebFn) (fs : List FlowFn) (ls : List Located) (f : FlowFn) → AllServe (map g fs) ls → Contains fs f → Served (g f) ls
served g [] ls f s c = absurd (nowhere f c)
served g (h ∷ fs) [] f s c = absurd s
served g (h ∷ fs) (l ∷ ls) f s c = elim (Contains-append_cases (h ∷ []) fs f c) [
  | inl first ↦ elim (Contains-push_cases [] h f first) [
    | inl none ↦ absurd (nowhere f none)
    | inr e ↦ record { located = l; there = first_there l ls; serves = subst (λ f. Serves (g f) l) e s.0 }
  ]
  | inr later ↦ let k = served g fs ls f s.1 later in
      record { located = k.located; there = Contains-append_right (l ∷ []) ls k.located k.there; serves = k.serves }
]

-- ---- lawful functions and directives

is_function : (ms : List FlowModule) → AllByRecursion IsValid ms → (f : FlowFn) → Contains (flat_map (λ m. m.functions) ms) f → IsFunction f
is_function [] v f c = absurd (nowhere f c)
is_function (m ∷ ms) v f c = elim (Contains-append_cases m.functions (flat_map (λ m. m.functions) ms) f (subst (λ l. Contains l f) (flat_map-cons (λ m. m.functions) m ms) c)) [
  | inl here ↦ All-contains IsFunction m.functions f (All-from_recursion IsFunction m.functions v.0.parts.functions) here
  | inr later ↦ is_function ms v.1 f later
]

chosen : (b : Bool) (x y : Directives) → IsDirectives x → IsDirectives y → IsDirectives (if b then x else y)
chosen true x y h k = h
chosen false x y h k = k

are_directives : (d : List (List ℕ × Directives)) → AllByRecursion (λ f. IsDirectives f.1) d → (name : List ℕ) → IsDirectives (directives_of d name)
are_directives [] all name = record { each = tt; numbers = tt; globals = tt; registers = tt; free = tt; saves = tt; apart = tt }
are_directives (g ∷ rest) all name = chosen (bytes_eq g.0 name) g.1 (directives_of rest name) all.0 (are_directives rest all.1 name)

pub directed_name : (f : FlowFn) (d : Directives) → (directed f d).name ≡ f.name
unfolding directed
directed_name f d = refl

-- the frame of a function in the map is at most the room of its flow graph
pub frame_fits : PlacesFit → (q : flows.Program) (d : List (List ℕ × Directives)) (functions : List Located)
    → FramesAre q functions → AllServe (map (directed_by d) (functions_of q)) functions
    → AllByRecursion IsValid q.modules → AllByRecursion (λ f. IsDirectives f.1) d
    → (f : FlowFn) → Contains (functions_of q) f → q.frame_of f.name ≤ flow_room f
frame_fits fit q d functions frames serve valid lawful f c =
    let s = served (directed_by d) (functions_of q) functions f serve c in
    let named : s.located.body.name ≡ f.name = ap (λ b. b.name) s.serves.body ∙ directed_name f (directives_of d f.name) in
    let framed : q.frame_of f.name ≡ s.located.frame = subst (λ n. q.frame_of n ≡ s.located.frame) named (frames.defined s.located s.there) in
    subst (λ n. n ≤ flow_room f) (sym framed)
    (fit f (directives_of d f.name) s.located (is_function q.modules valid f c) (are_directives d lawful f.name) s.serves)

-- ---- what was laid out

-- the frames are those that allocation made
pub frames_are : MapHasFrames → (q : flows.Program) (d : List (List ℕ × Directives)) (functions : List Located) (objects : List Object)
    → q.frame_of ≡ frame_in (image_of objects q.stack) → IsProgram q → AllServe (directed_functions q d) functions → AreObjectsOf q functions objects
    → FramesAre q functions
frames_are map q d functions objects frames program serve made =
    let mapped = map q d functions objects program serve made in
    record {
      defined = λ f c. ap (λ (F : List ℕ → ℕ). F f.body.name) frames ∙ mapped.defined f c;
      library = subst NoneForLibrary (sym frames) mapped.library;
    }

-- the frame of a function that has at most so much room
pub frame_of_room : PlacesFit → (q : flows.Program) (d : List (List ℕ × Directives)) (functions : List Located)
    → FramesAre q functions → AllServe (map (directed_by d) (functions_of q)) functions → IsProgram q → IsDatabase d
    → (name : List ℕ) (room : ℕ) → HasRoom q name room → q.frame_of name ≤ room
frame_of_room fit q d functions frames serve program database name room has =
    let a : q.frame_of has.function.name ≤ flow_room has.function = frame_fits fit q d functions frames serve program.modules database.directives has.function has.there in
    let b : flow_room has.function ≤ room = has.fits in
    let c : q.frame_of has.function.name ≡ q.frame_of name = ap q.frame_of has.named in
    omega (arith, a, b, c)

-- by the laws on places and on the map
pub all_fit : PlacesFit → MapHasFrames → AllFramesFit
all_fit fit map p q d functions objects laid =
    let frames = frames_are map q d functions objects laid.frames laid.program laid.serve laid.made in
    let within = λ (name : List ℕ) (room : ℕ) (has : HasRoom q name room).
    let a = frame_of_room fit q d functions frames laid.serve laid.program laid.database name room has in
    subst (λ (F : List ℕ → ℕ). F name ≤ room) laid.frames a in
    record {
      functions = λ m f c h. within (full_name m.name f.name) (room_of m.tree.records f) (laid.rooms.functions m f c h);
      start = λ m c h. within start_name start_room laid.rooms.start;
      library = subst NoneForLibrary laid.frames frames.library;
    }
