-- When the states of the two runs are alike. What an active function finds in registers is said of these as they are when all
-- functions called after it have given back what they saved.
use Rattle.std.specs.Prelude.{ℕ, ◌≡◌, ◌≢◌, ◌⊎◌, ◌-◌, ◌≤◌, true, Option, Some, List, [], ◌∷◌, ◌++◌, length, map, slice_get, Contains}
use Rattle.pw_value.specs.declared.value.Value.{Value}
use Rattle.pw_value.specs.ProgramNames.{start_name}
use Rattle.pw_db.specs.Limits.{first_register, last_register}
use Rattle.pw_db.specs.declared.database.Directives.{Directives}
use Rattle.pw_flow.specs.declared.flow.FlowFn.{FlowFn}
use Rattle.pw_webflow.specs.declared.web.WebOp.{WebOp}
use Rattle.pw_webflow.specs.declared.web.WebBlock.{WebBlock}
use Rattle.pw_webflow.specs.ValidWebs.{HasRegister, IsWebFn}
use Rattle.pw_webflow.specs.WebOutline.{defines, calls}
use Rattle.pw_alloc.specs.Allocation.{saved_of}
use Rattle.pw_run.specs.Runs as run
use Rattle.pw_run.specs.Runs.{Same}
use Rattle.pw_db_sound.specs.CallGraphs.{Calls}
use Rattle.pw_db_sound.specs.Sound.{IsFree}
use Rattle.pw_run_languages.specs.Traces.{EventAlike, MayChange, KeepRegisters}
use Rattle.pw_run_languages.specs.Programs.{Program, functions_of}
use Rattle.pw_run_languages.specs.LawfulPrograms.{graph_of}
use Rattle.pw_run_languages.specs.PlacedRun.{Step, On, Stopped, Astray, with_registers}
use Rattle.pw_run_languages.specs.Direction.{directed_by}
use Rattle.pw_run_languages.specs.Serving.{Live, StandsIn, Serves}
use Rattle.pw_law_placed.specs.Twins.{Own, Active, Twin, bare_side, placed_side, bare_value, placed_value}

abbrev pub Registers : Type 0
Registers = ℕ → Value

abbrev pub name_of : Active → List ℕ
name_of f = f.function.body.name

-- the registers as they are when the function has given back what it saved
abbrev pub given_back : Own → Registers → Registers
given_back own registers = with_registers own.saved registers

-- ---- an active function

-- It is one of the program's under directives, and its places serve it. It saved the registers that it has to save in each
-- run, and has room for its temporaries in both.
pub record IsPlaced (p : Program) (d : List (List ℕ × Directives)) (f : Active) : Type 0 where
  pub flow : FlowFn
  pub there : Contains (functions_of p) flow
  pub body : f.function.body ≡ directed_by d flow
  pub lawful : IsWebFn f.function.body
  pub serves : Serves f.function.body f.function
  pub bare : map (λ s. s.0) f.bare.saved ≡ saved_of f.function.body
  pub placed : map (λ s. s.0) f.placed.saved ≡ f.function.saved
  pub room : length f.bare.temps ≡ f.function.body.temps
  pub words : length f.placed.temps ≡ f.function.body.temps

-- what is left of its block is the end of one
pub record IsInside (f : Active) : Type 0 where
  pub block : WebBlock
  pub there : Contains f.function.body.blocks block
  pub before : List WebOp
  pub ops : block.ops ≡ before ++ f.ops
  pub is : block.end ≡ f.end

-- the registers of its webs hold the same in both runs
abbrev pub WebsAgree : Active → Registers → Registers → Type 0
WebsAgree f registers bank = (r : ℕ) → HasRegister f.function.body.directives r → registers r ≡ bank r

-- the temporaries that it still needs have the same values
abbrev pub TempsAgree : Active → Registers → Type 0
TempsAgree f bank = (t : ℕ) → Live f.function.body t f.ops f.end → bare_value f t ≡ placed_value f bank t

-- what it gives back of the placed run's registers is what they held at its call, but for those that it may change
abbrev pub GivesBack : List (List ℕ × Directives) → Active → Registers → Type 0
GivesBack d f bank =
    (r : ℕ) → first_register ≤ r → r ≤ last_register → ¬ MayChange d (name_of f) r →
    slice_get f.placed.before (r - first_register) ≡ Some (given_back f.placed bank r)

-- the latest one
pub record Runs (p : Program) (d : List (List ℕ × Directives)) (f : Active) (registers bank : Registers) : Type 0 where
  pub placed : IsPlaced p d f
  pub inside : IsInside f
  pub webs : WebsAgree f registers bank
  pub temps : TempsAgree f bank
  pub gives : GivesBack d f bank

-- One directly behind an operation whose result it has not got yet. What it still needs has the same values, but for that.
pub record Gets (p : Program) (d : List (List ℕ × Directives)) (f : Active) (to : Option ℕ) (registers bank : Registers) : Type 0 where
  pub placed : IsPlaced p d f
  pub op : WebOp
  pub inside : StandsIn f.function.body op f.ops f.end
  pub result : defines op ≡ to
  pub webs : WebsAgree f registers bank
  pub temps : (t : ℕ) → Live f.function.body t f.ops f.end → to ≢ Some t → bare_value f t ≡ placed_value f bank t
  pub gives : GivesBack d f bank

-- Directives leave a register to the functions below: it is of no web, and free or saved for others.
abbrev pub LeavesIt : Directives → ℕ → Type 0
LeavesIt d r = (¬ HasRegister d r) × (Contains d.free r ⊎ Contains d.saves r)

-- One that waits for the function that it called, by its name, and where the result goes. What that one is free to use it leaves
-- to it.
pub record Waits (p : Program) (d : List (List ℕ × Directives)) (callee : List ℕ) (result : Option ℕ) (f : Active) (registers bank : Registers) : Type 0 where
  pub edge : Calls (graph_of p) (name_of f) callee
  pub alone : (r : ℕ) → IsFree d callee r → LeavesIt f.function.body.directives r
  pub gets : Gets p d f result registers bank
  pub calls : calls gets.op ≡ true

-- all that are behind one; the first of all was `$start`
abbrev pub AllWait : Program → List (List ℕ × Directives) → List ℕ → Option ℕ → List Active → Registers → Registers → Type 0
AllWait p d callee result [] registers bank = callee ≡ start_name
AllWait p d callee result (f ∷ fs) registers bank =
    Waits p d callee result f registers bank × AllWait p d (name_of f) f.result fs (given_back f.bare registers) (given_back f.placed bank)

-- ---- states

pub record IsAlike (p : Program) (d : List (List ℕ × Directives)) (x : Twin) : Type 0 where
  pub frame : Runs p d x.frame x.registers x.bank
  pub callers : AllWait p d (name_of x.frame) x.frame.result x.callers (given_back x.frame.bare x.registers) (given_back x.frame.placed x.bank)
  pub log : run.AreAlike (EventAlike Same Same) x.trace x.notes
  pub kept : KeepRegisters d x.notes

-- the latest function has not got the result of its last operation yet
pub record IsReady (p : Program) (d : List (List ℕ × Directives)) (x : Twin) (result : Option ℕ) : Type 0 where
  pub frame : Gets p d x.frame result x.registers x.bank
  pub callers : AllWait p d (name_of x.frame) x.frame.result x.callers (given_back x.frame.bare x.registers) (given_back x.frame.placed x.bank)
  pub log : run.AreAlike (EventAlike Same Same) x.trace x.notes
  pub kept : KeepRegisters d x.notes

-- and its last operation is a call
pub record IsCalling (p : Program) (d : List (List ℕ × Directives)) (x : Twin) (result : Option ℕ) : Type 0 where
  pub ready : IsReady p d x result
  pub calls : calls ready.frame.op ≡ true

-- ---- a step of both runs

pub record GoesBoth (p : Program) (d : List (List ℕ × Directives)) (s t : Step) : Type 0 where
  pub twin : Twin
  pub bare : s ≡ On (bare_side twin)
  pub placed : t ≡ On (placed_side twin)
  pub alike : IsAlike p d twin

-- what is noted at an end is alike, and returns up to there kept the registers
pub record StopsBoth (p : Program) (d : List (List ℕ × Directives)) (s t : Step) : Type 0 where
  pub end : run.End
  pub twin : Twin
  pub bare : s ≡ Stopped end (bare_side twin)
  pub placed : t ≡ Stopped end (placed_side twin)
  pub log : run.AreAlike (EventAlike Same Same) twin.trace twin.notes
  pub kept : KeepRegisters d twin.notes

pub data Follows (p : Program) (d : List (List ℕ × Directives)) (s t : Step) : Type 0 where
  goes : GoesBoth p d s t → Follows p d s t
  stops : StopsBoth p d s t → Follows p d s t
  strays : s ≡ Astray → t ≡ Astray → Follows p d s t
