-- What a program under directives can note, step by step, with the functions that are active then, the latest first, and
-- what the registers hold.
use Rattle.std.proofs.Common.{◌≡◌, ℕ, ◌==◌, Bool, true, false, ◌&&◌, if◌then◌else◌, List, [], ◌∷◌, map}
use Rattle.std.specs.Prelude.{None}
use Rattle.std.specs.List.{flat_map, list_any}
use Rattle.std.specs.Str.{bytes_eq}
use Rattle.pw_value.specs.ProgramNames.{start_name}
use Rattle.pw_value.specs.declared.value.Byte.{Byte}
use Rattle.pw_value.specs.declared.value.Value.{Value}
use Rattle.pw_value.specs.declared.value.Value.TheVariants.{Undefined}
use Rattle.pw_files.proofs.Standing.{Has}
use Rattle.pw_db.specs.Limits.{first_register, register_count, kept_registers}
use Rattle.pw_db.specs.declared.database.Web.{Web}
use Rattle.pw_db.specs.declared.database.Role.{Role}
use Rattle.pw_db.specs.declared.database.Directives.{Directives}
use Rattle.pw_db_sound.specs.CallGraphs.{Calls, References}
use Rattle.pw_run_languages.specs.Traces.{Standing, Event, Called, Refused, Returned, Loaded, Stored}
use Rattle.pw_alloc.specs.Allocation.{is_entry, entered_from}
use Rattle.pw_webflow.specs.Direction.{register_of}
use Rattle.pw_run_languages.specs.Programs.{Program}
use Rattle.pw_run_languages.specs.LawfulPrograms.{eligible_names, graph_of}
use Rattle.pw_run_languages.specs.Direction.{directives_of}
use Rattle.pw_run_languages.specs.PlacedRun.{with_register, with_registers, without_scratch, kept}

abbrev pub Log : Type 0
Log = List (Event Byte Value)

abbrev pub Globals : Type 0
Globals = List (Standing Byte Value)

-- accesses of a global are noted
abbrev pub is_kept : Program → List ℕ → Bool
is_kept p g = list_any (bytes_eq g) (eligible_names p)

abbrev pub noted_in : Bool → Event Byte Value → Log → Log
noted_in true e l = e ∷ l
noted_in false e l = l

-- the webs that a function enters, in the order of their registers
abbrev pub of_register : ℕ → Web × Role → List Web
of_register r w = if is_entry w.1 && (w.0.reg == r) then w.0 ∷ [] else []

abbrev pub entered_among : List (Web × Role) → List Web
entered_among webs = flat_map (λ r. flat_map (of_register r) webs) kept_registers

-- each of them is loaded, and stored back where it writes
abbrev pub loads : Program → List Web → Log → Log
loads p [] l = l
loads p (w ∷ ws) l = loads p ws (noted_in (is_kept p w.global) (Loaded w.global) l)

abbrev pub stored_in : Program → Web → Log → Log
stored_in p w l = if w.writes then noted_in (is_kept p w.global) (Stored w.global) l else l

abbrev pub stores : Program → List Web → Log → Log
stores p [] l = l
stores p (w ∷ ws) l = stores p ws (stored_in p w l)

-- a function refers to the global, and has no register for it
pub record Accesses (p : Program) (d : List (List ℕ × Directives)) (f v : List ℕ) : Type 0 where
  pub refers : References (graph_of p) f v
  pub lacks : register_of (directives_of d f).webs v ≡ None

-- an active function, with what it saved and what the kept registers held at its call
pub record Act : Type 0 where
  pub name : List ℕ
  pub saved : List (ℕ × Value)
  pub before : List Value

abbrev pub Registers : Type 0
Registers = ℕ → Value

-- the registers that a function saves
abbrev pub saves : List (Web × Role) → List ℕ
saves webs = entered_from webs first_register register_count

abbrev pub acted : List (List ℕ × Directives) → List ℕ → Registers → Act
acted d f registers = record { name = f; saved = map (λ r. (r, registers r)) (saves (directives_of d f).webs); before = kept registers }

-- registers that are alike but for those of the webs
abbrev pub AgreeBut : List Web → Registers → Registers → Type 0
AgreeBut ws a b = (r : ℕ) → ((w : Web) → Has w ws → w.reg ≡ r → ⊥) → a r ≡ b r

abbrev pub nothing : Registers
nothing r = Undefined

pub data Trail (p : Program) (d : List (List ℕ × Directives)) : List Act → Registers → Log → Type 0 where
  begun : (gs : Globals) (rs : List Value) (now : Registers) → AgreeBut (entered_among (directives_of d start_name).webs) now nothing
      → Trail p d (acted d start_name nothing ∷ []) now (loads p (entered_among (directives_of d start_name).webs) (Called start_name gs rs ∷ []))
  write : (a : Act) (fs : List Act) (registers : Registers) (w : Web) (role : Role) (v : Value) (l : Log) → Has (w, role) (directives_of d a.name).webs
      → Trail p d (a ∷ fs) registers l → Trail p d (a ∷ fs) (with_register w.reg v registers) l
  load : (a : Act) (fs : List Act) (registers : Registers) (v : List ℕ) (l : Log) → Accesses p d a.name v → Trail p d (a ∷ fs) registers l → Trail p d (a ∷ fs) registers (Loaded v ∷ l)
  store : (a : Act) (fs : List Act) (registers : Registers) (v : List ℕ) (l : Log) → Accesses p d a.name v → Trail p d (a ∷ fs) registers l → Trail p d (a ∷ fs) registers (Stored v ∷ l)
  library : (a : Act) (h : List ℕ) (fs : List Act) (registers : Registers) (gs hs : Globals) (rs ss : List Value) (l : Log)
      → Calls (graph_of p) a.name h → Trail p d (a ∷ fs) registers l → Trail p d (a ∷ fs) (without_scratch registers) (Returned h 0 hs ss ss ∷ Called h gs rs ∷ l)
  call : (a : Act) (h : List ℕ) (fs : List Act) (registers now : Registers) (gs : Globals) (rs : List Value) (l : Log)
      → Calls (graph_of p) a.name h → AgreeBut (entered_among (directives_of d h).webs) now registers → Trail p d (a ∷ fs) registers l
      → Trail p d (acted d h registers ∷ a ∷ fs) now (loads p (entered_among (directives_of d h).webs) (Called h gs rs ∷ l))
  return : (a b : Act) (fs : List Act) (registers : Registers) (gs : Globals) (l : Log) → Trail p d (b ∷ a ∷ fs) registers l
      → Trail p d (a ∷ fs) (without_scratch (with_registers b.saved registers))
      (Returned b.name 0 gs b.before (kept (without_scratch (with_registers b.saved registers))) ∷ stores p (entered_among (directives_of d b.name).webs) l)

-- what stands at the end of a run
pub data Last (p : Program) (d : List (List ℕ × Directives)) : Log → Type 0 where
  ended : (a : Act) (h : List ℕ) (fs : List Act) (registers : Registers) (gs : Globals) (rs : List Value) (l : Log) → Calls (graph_of p) a.name h → Trail p d (a ∷ fs) registers l → Last p d (Called h gs rs ∷ l)
  refused : (a : Act) (h : List ℕ) (fs : List Act) (registers : Registers) (l : Log) → Calls (graph_of p) a.name h → Trail p d (a ∷ fs) registers l → Last p d (Refused h ∷ l)
