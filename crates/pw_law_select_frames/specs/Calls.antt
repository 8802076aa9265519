-- Turns that call and return: a call by name, a call through a value, and the return.
use Rattle.std.specs.Prelude.{ℕ, false, ◌≡◌, Some, None, List, ◌∷◌, map, Contains}
use Rattle.pw_inst.specs.Registers.{first, return_address, routine_link, stack_pointer}
use Rattle.pw_inst.specs.declared.relocation.Symbol.TheVariants as symbol
use Rattle.pw_delay.specs.Items.{link_moved}
use Rattle.pw_delay.specs.declared.items.Item.{Item}
use Rattle.pw_delay.specs.declared.items.Item.TheVariants.{Turns}
use Rattle.pw_delay.specs.declared.items.Turn.TheVariants.{CallTo, CallReg, Leave}
use Rattle.pw_run_languages.specs.Traces.{Returned}
use Rattle.pw_run_languages.specs.Programs.{Library, library_at, functions_of, names_of}
use Rattle.pw_run_languages.specs.Addresses.{Addresses, AreLawful}
use Rattle.pw_run_languages.specs.Acts.{register, with_register}
use Rattle.pw_run_languages.specs.LineRun as run
use Rattle.pw_run_languages.specs.LineRun.{LineFn, LineProgram, Frame, Machine, On, function_named, name_of, left_behind, globals_in, kept, enters, library, step}

-- the machine at its function's call, with the return address in its register
abbrev pub named_call : Addresses → List Item → Machine → Machine
named_call w rest m = record (left_behind rest m) { core = with_register return_address (run.return_address w m.frame rest) m.core }

-- a call through a value has it in the register of a routine's link too
abbrev pub valued_call : Addresses → List Item → Machine → Machine
valued_call w rest m =
    let to = run.return_address w m.frame rest in
    record (left_behind rest m) { core = with_register return_address to (with_register routine_link to m.core) }

-- The function is entered, or one of the library does what it does.
pub record Calls (p : LineProgram) (w : Addresses) (scratch : ℕ → (ℕ → ℕ) → ℕ → ℕ) (f : List ℕ) (m called : Machine) : Type 0 where
  pub defined : (g : LineFn) → library_at f ≡ None → function_named p f ≡ Some g → step p w scratch m ≡ On (enters p w g called)
  pub library : (g : Library) → library_at f ≡ Some g → step p w scratch m ≡ library p w g called

abbrev pub NamedFunctionsAreCalled : Type 0
NamedFunctionsAreCalled =
    (p : LineProgram) (w : Addresses) (scratch : ℕ → (ℕ → ℕ) → ℕ → ℕ) (f : List ℕ) (rest : List Item) (m : Machine)
    → m.frame.left ≡ Turns (CallTo (symbol.Named f) return_address) None ∷ rest → m.core.skip ≡ false → Calls p w scratch f m (named_call w rest m)

-- the function that stands at the address in the register is called
abbrev pub FunctionsAreCalledByValue : Type 0
FunctionsAreCalledByValue =
    (p : LineProgram) (w : Addresses) (scratch : ℕ → (ℕ → ℕ) → ℕ → ℕ) (f : List ℕ) (rest : List Item) (m : Machine)
    → AreLawful p.flow w → map (λ g. g.located.body.name) p.functions ≡ map (λ g. g.name) (functions_of p.flow)
    → m.frame.left ≡ Turns CallReg (Some link_moved) ∷ rest → m.core.skip ≡ false
    → Contains (names_of p.flow) f → register m.core first ≡ w.named f → Calls p w scratch f m (valued_call w rest m)

-- the caller goes on, with the registers as they are
abbrev pub returned : LineProgram → Addresses → Frame → List Frame → Machine → Machine
returned p w caller callers m = record m {
  frame = caller;
  callers = callers;
  trace = Returned (name_of m.frame) 0 (globals_in p w m.core (caller ∷ callers)) m.frame.before (kept m.core) ∷ m.trace;
}

abbrev pub FunctionsReturn : Type 0
FunctionsReturn =
    (p : LineProgram) (w : Addresses) (scratch : ℕ → (ℕ → ℕ) → ℕ → ℕ) (rest : List Item) (caller : Frame) (callers : List Frame) (m : Machine)
    → m.frame.left ≡ Turns Leave None ∷ rest → m.core.skip ≡ false → m.callers ≡ caller ∷ callers
    → register m.core return_address ≡ run.return_address w caller caller.left → register m.core stack_pointer ≡ m.frame.stack
    → step p w scratch m ≡ On (returned p w caller callers m)
