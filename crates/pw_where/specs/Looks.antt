-- What a debugger shows of a program at its k-th call.
use Rattle.std.specs.Prelude.{Bool, ℕ, ◌≡◌, ◌≢◌, ◌==◌, ◌&&◌, ◌++◌, ◌<◌, ◌⊎◌, Option, Some, Result, Ok, Err, List, [], ◌∷◌}
use Rattle.std.specs.List.{flat_map, find}
use Rattle.std.specs.Option.{option_map_or}
use Rattle.pw_object.specs.declared.object.Object.{Object}
use Rattle.pw_flow.specs.declared.flow.FlowGlobal.{FlowGlobal}
use Rattle.pw_image.specs.declared.image.Image.{Image}
use Rattle.pw_image.specs.declared.image.Function.{Function}
use Rattle.pw_image.specs.Image.{Contents, IsImageFile}
use Rattle.pw_machine.specs.declared.ends.Stop.{Stop}
use Rattle.pw_machine.specs.declared.ends.Stop.TheVariants.{WriteFault}
use Rattle.pw_machine.specs.Core.{Core}
use Rattle.pw_machine.specs.Run.{State, start_state}
use Rattle.pw_machine.specs.Start.{image_start}
use Rattle.pw_machine.specs.Stops.{ReadCount}
use Rattle.pw_debug.specs.declared.info.FrameInfo.{FrameInfo}
use Rattle.pw_debug.specs.Walk.{seen, start_of, WalksTo}
use Rattle.pw_where.specs.declared.looking.Look.{Look}
use Rattle.pw_where.specs.declared.looking.Look.TheVariants.{Lines, LostAt, StoppedAs}
use Rattle.pw_where.specs.declared.looking.Plan.{Plan}
use Rattle.pw_where.specs.declared.lines.Told.{Told}
use Rattle.pw_where.specs.declared.lines.Told.TheVariants as told
use Rattle.pw_where.specs.declared.shown.Shown.{Shown}
use Rattle.pw_where.specs.Calls.{of_modules, entries_of, is_called, IsCall, StopsBefore, Tells}
use Rattle.pw_where.specs.Shown.{shown_of, IsByName, call_line, value_line}

-- ---- the globals of a program

-- the globals that modules define
abbrev pub globals_of : List Object → List FlowGlobal
globals_of objects = flat_map (λ o. o.globals) objects

-- the shown globals of a program, in order
abbrev pub AreShown : Image → List Object → List Shown → Type 0
AreShown image objects ordered = IsByName (shown_of (globals_of objects) image.globals) ordered

-- ---- values

-- text in front of lines, if there are lines
abbrev pub behind : List ℕ → Result (List ℕ) ℕ → Result (List ℕ) ℕ
behind text (Ok lines) = Ok (text ++ lines)
behind text (Err address) = Err address

-- The values of globals, a line each, by walks over a program's frames; or the address at which the first walk is lost that
-- is.
pub data Values (functions : List Function) (frames : List FrameInfo) (core : Core) : List Shown → Result (List ℕ) ℕ → Type 0 where
  no_more : Values functions frames core [] (Ok [])
  value_of : (g : Shown) (rest : List Shown) (word : ℕ) (lines : Result (List ℕ) ℕ) → WalksTo (seen core.memory functions frames g.object g.number.kind) (start_of core) (Ok word)
      → Values functions frames core rest lines → Values functions frames core (g ∷ rest) (behind (value_line g word) lines)
  lost_of : (g : Shown) (rest : List Shown) (address : ℕ) → WalksTo (seen core.memory functions frames g.object g.number.kind) (start_of core) (Err address)
      → Values functions frames core (g ∷ rest) (Err address)

-- ---- the function that is called

-- a function other than `$start` begins at the address
abbrev pub begins_at : Function → ℕ → Bool
begins_at f a = is_called f && (f.address == a)

-- the first that does
abbrev pub called_at : List Function → ℕ → Option Function
called_at functions a = find (λ f. begins_at f a) functions

-- its name
abbrev pub name_at : List Function → ℕ → List ℕ
name_at functions a = option_map_or (λ f. f.name) (called_at functions a) []

-- ---- the whole

-- lines, or the address at which a walk is lost
abbrev pub told_lines : Told → Result (List ℕ) ℕ
told_lines (told.Lines text) = Ok text.items
told_lines (told.Lost address) = Err address

-- the lines of the k-th call, at which a machine stands in this state
pub record Shows (image : Image) (objects : List Object) (frames : List FrameInfo) (k : ℕ) (core : Core) (lines : Result (List ℕ) ℕ) : Type 0 where
  pub ordered : List Shown
  pub shown : AreShown image objects ordered
  pub values : Result (List ℕ) ℕ
  pub walks : Values image.functions frames core ordered values
  pub lines_are : lines ≡ behind (call_line k (name_at (of_modules objects image.functions) core.front)) values

-- where the functions begin whose calls are counted
abbrev pub entries_in : Image → List Object → List ℕ
entries_in image objects = entries_of (of_modules objects image.functions)

-- the start of a program's run over an input
abbrev pub start_over : Image → List ℕ → State
start_over image input = start_state (image_start image.memory) input

-- the k-th call is among the first steps of the run, and there this is shown
pub record ShowsAt (image : Image) (objects : List Object) (frames : List FrameInfo) (k budget : ℕ) (input : List ℕ) (lines : Result (List ℕ) ℕ) (rest : Option (List ℕ)) : Type 0 where
  pub step : ℕ
  pub state : State
  pub within : step < budget
  pub call : IsCall (entries_in image objects) (start_over image input) k step state
  pub shows : Shows image objects frames k state.core lines
  pub rest_is : rest ≡ Some state.rest

-- the run stopped before it
pub record EndsBefore (image : Image) (objects : List Object) (k budget : ℕ) (input : List ℕ) (stop : Stop) (rest : Option (List ℕ)) : Type 0 where
  pub last : State
  pub stops : StopsBefore (entries_in image objects) (start_over image input) k budget stop last
  pub rest_is : rest ≡ Some last.rest

-- what a look at the k-th call of a program's run over an input, within so many steps, comes to, and what it leaves of the input
abbrev pub LooksAs : Image → List Object → List FrameInfo → ℕ → ℕ → List ℕ → Look → Option (List ℕ) → Type 0
LooksAs image objects frames k budget input (Lines text) rest = ShowsAt image objects frames k budget input (Ok text.items) rest
LooksAs image objects frames k budget input (LostAt address) rest = ShowsAt image objects frames k budget input (Err address) rest
LooksAs image objects frames k budget input (StoppedAs stop) rest = EndsBefore image objects k budget input stop rest

-- where memory runs out, nothing of the input was read, or what the run up to the k-th call reads
pub record ReadTo (image : Image) (objects : List Object) (k budget : ℕ) (input : List ℕ) (rest : Option (List ℕ)) : Type 0 where
  pub step : ℕ
  pub state : State
  pub within : step < budget
  pub call : IsCall (entries_in image objects) (start_over image input) k step state
  pub rest_is : rest ≡ Some state.rest

abbrev pub LeavesUnlooked : Image → List Object → ℕ → ℕ → List ℕ → Option (List ℕ) → Type 0
LeavesUnlooked image objects k budget input rest = (rest ≡ Some input) ⊎ ReadTo image objects k budget input rest

-- the input's count of faults rose where it had one, and else is as before
abbrev pub LookCount : {E : Type 0} → ℕ → ℕ → Result Look E → Type 0
LookCount before now (Ok (StoppedAs stop)) = ReadCount before now stop
LookCount before now (Ok look) = now ≡ before
LookCount before now (Err none) = now ≡ before

-- the output of the run goes nowhere, so that it has no fault
abbrev pub LooksUnwritten : {E : Type 0} → Result Look E → Type 0
LooksUnwritten (Ok (StoppedAs stop)) = stop ≢ WriteFault
LooksUnwritten (Ok look) = Unit {0}
LooksUnwritten (Err none) = Unit {0}

-- ---- inside

-- what was told, as what a look comes to
abbrev pub look_of : Told → Look
look_of (told.Lines text) = Lines text
look_of (told.Lost address) = LostAt address

-- the bytes are the file of an image
abbrev pub HoldsImage : List ℕ → Type 0
HoldsImage bytes = (c : Contents Image) × IsImageFile bytes c

-- what a look needs of a program
pub record IsPlan (image : Image) (objects : List Object) (plan : Plan) : Type 0 where
  pub image_is : plan.image ≡ image
  pub shown : AreShown image objects plan.shown.items
  pub table : Tells plan.table.items (entries_in image objects)
