-- From an operation that calls a function to the turn that does: the arguments are where the callee finds them, and the caller
-- stands behind the call, but for its result.
use Rattle.std.specs.Prelude.{ℕ, true, ◌≡◌, ◌+◌, ◌<◌, ◌≤◌, ◌^◌, ◌⊎◌, Option, Some, List, [], ◌∷◌, map, length, slice_get, Contains}
use Rattle.pw_value.specs.declared.value.Value.{Value}
use Rattle.pw_flow.specs.declared.flow.FlowFn.{FlowFn}
use Rattle.pw_flow.specs.declared.flow.Op.{Op}
use Rattle.pw_flow.specs.Uses.{op_calls}
use Rattle.pw_inst.specs.Registers.{return_address, stack_pointer}
use Rattle.pw_webflow.specs.declared.web.WebOp.{WebOp}
use Rattle.pw_webflow.specs.declared.web.WebOp.TheVariants.{Flow}
use Rattle.pw_webflow.specs.ValidWebs.{IsWebOp}
use Rattle.pw_alloc.specs.declared.located.Located.{Located}
use Rattle.pw_alloc.specs.Frames.{head_bytes, head_size, ops_of}
use Rattle.pw_delay.specs.declared.items.Item.{Item}
use Rattle.pw_run_languages.specs.Programs.{Program, functions_of}
use Rattle.pw_run_languages.specs.Addresses.{Addresses, AreLawful}
use Rattle.pw_run_languages.specs.Acts.{Core, register}
use Rattle.pw_run_languages.specs.Standing.{ValueStands}
use Rattle.pw_run_languages.specs.LineRun as run
use Rattle.pw_run_languages.specs.Commands.{command, Enter}
use Rattle.pw_run_languages.specs.PlacedRun as placed
use Rattle.pw_run_languages.specs.PlacedRun.{value_in}
use Rattle.pw_run_languages.specs.Serving.{IsTempRegister}
use Rattle.pw_run_languages.specs.SelectionLaws.{line_program}
use Rattle.pw_law_select_states.specs.Laid.{address}
use Rattle.pw_law_select_states.specs.Passes.{Passes, further}
use Rattle.pw_law_select_states.specs.Pointers.{AreKnown}
use Rattle.pw_law_select_frames.specs.Arguments.{argument_word, arguments_size}
use Rattle.pw_law_select_frames.specs.Calls.{Calls}
use Rattle.pw_law_select_frames.specs.Chain.{BothStand}
use Rattle.pw_law_select_frames.specs.Library.{ShowAlike}
use Rattle.pw_law_select_frames.specs.Returning.{BothTake}

-- Both runs stand at an operation that calls a function of this name with these arguments; its result goes to a temporary, or
-- nowhere.
pub record MayReach (p : Program) (functions : List Located) (w : Addresses) (site : ℕ → ℕ) (o : Op) (ops : List WebOp) (t : Option ℕ) (f : List ℕ) (args : List Value) (m : placed.Machine) (l : run.Machine) : Type 0 where
  pub lawful : AreLawful p w
  pub names : map (λ (g : Located). g.body.name) functions ≡ map (λ (g : FlowFn). g.name) (functions_of p)
  pub stand : BothStand p w site m l
  pub known : AreKnown p m
  pub show : ShowAlike p w m l
  pub next : m.frame.ops ≡ Flow o ∷ ops
  pub there : Contains (ops_of m.frame.function.body) (Flow o)
  pub valid : IsWebOp m.frame.function.body (Flow o)
  pub call : op_calls o ≡ true
  pub calls : command p m.frame.base o (value_in m.frame m.registers) ≡ Enter t f args

-- the placed run there, with the operations behind the call left
abbrev pub behind_call : List WebOp → placed.Machine → placed.Machine
behind_call ops m = record m { frame = record m.frame { ops = ops } }

-- The lines come to the turn. Behind it the return address is linked and nothing else has changed but the words of arguments, and
-- registers that no temporary and no web has.
pub record Reaches (p : Program) (functions : List Located) (w : Addresses) (scratch : ℕ → (ℕ → ℕ) → ℕ → ℕ) (site : ℕ → ℕ) (ops : List WebOp) (t : Option ℕ) (f : List ℕ) (args : List Value) (m : placed.Machine) (l : run.Machine) : Type 0 where
  pub items : List Item
  pub core : Core
  pub passes : Passes (line_program p functions) w scratch l items core []
  pub called : run.Machine
  pub calls : Calls (line_program p functions) w scratch f (further items core passes.more [] l) called
  pub takes : BothTake p w site t (behind_call ops m) called
  pub arguments : (k : ℕ) (v : Value) → slice_get args k ≡ Some v
      → ValueStands (address p w site) v (argument_word called.core (register called.core stack_pointer) k) × (argument_word called.core (register called.core stack_pointer) k < 2 ^ 32)
  pub room : w.base + arguments_size (length args) ≤ register called.core stack_pointer
  pub head : arguments_size (length args) ≤ head_size m.frame.function.body
  pub link : register called.core return_address ≡ run.return_address w called.frame called.frame.left
  pub frames : (called.frame ≡ record l.frame { left = called.frame.left }) × (called.callers ≡ l.callers)
  pub show : ShowAlike p w m called
  pub trace : called.trace ≡ l.trace
  pub registers : (r : ℕ) → IsTempRegister r → register called.core r ≡ register l.core r
  pub pointer : register called.core stack_pointer ≡ register l.core stack_pointer
  pub memory : (b : ℕ) → (b + head_size m.frame.function.body < register l.core stack_pointer) ⊎ (register l.core stack_pointer ≤ b + head_bytes) → called.core.memory b ≡ l.core.memory b

abbrev pub CallsAreReached : Type 0
CallsAreReached =
    (p : Program) (functions : List Located) (w : Addresses) (scratch : ℕ → (ℕ → ℕ) → ℕ → ℕ) (site : ℕ → ℕ) (o : Op) (ops : List WebOp) (t : Option ℕ) (f : List ℕ) (args : List Value) (m : placed.Machine) (l : run.Machine)
    → MayReach p functions w site o ops t f args m l → Reaches p functions w scratch site ops t f args m l
