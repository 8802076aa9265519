-- What the code answers for the first phases of modules.
use Rattle.std.specs.Prelude.{◌≡◌, ℕ, List, [], ◌∷◌, Option, Some, None, Result, Ok, Err}
use Rattle.pw_front_end.specs.Places.{refusal_line}
use Rattle.pw_law_main.specs.FromPhaseOne.FirstPhase.{Phase, compiled}
use Rattle.pw_store_modules.specs.Modules.{Source}
use Rattle.pw_build.specs.declared.fault.BuildFault.{BuildFault}
use Rattle.pw_build.specs.declared.fault.BuildFault.TheVariants.{Refused, LinkRefused, StoreFault, NoMemory}

-- ---- the line on which a module is refused

abbrev pub line_by : List ℕ → Phase → Option ℕ → Option ℕ
line_by text (Err refusal) other = Some (refusal_line text refusal)
line_by text (Ok flow) other = other

-- the line of the first module that is refused, in its text, where one is
abbrev pub refused_line : List Source → Option ℕ
refused_line [] = None
refused_line (source ∷ sources) = line_by source.1 (compiled source.0 source.1) (refused_line sources)

-- the line, where a module is refused
abbrev pub IsLine : Option ℕ → BuildFault → Option ℕ → Type 0
IsLine due (Refused name refusal) line = line ≡ due
IsLine due _ line = Unit {0}

-- ---- a fault that is answered

-- it is the one that is wanted; want of memory may come in its place, and a fault of the store does not
abbrev pub FaultsAs : {V : Type 0} → Result V BuildFault → BuildFault → Type 0
FaultsAs wanted NoMemory = Unit {0}
FaultsAs wanted StoreFault = ⊥
FaultsAs wanted fault = wanted ≡ Err fault

-- a fault of one module is one of all
abbrev pub FaultsOfPhase : List ℕ → Phase → BuildFault → Type 0
FaultsOfPhase name phase NoMemory = Unit {0}
FaultsOfPhase name phase StoreFault = ⊥
FaultsOfPhase name phase (LinkRefused fault) = ⊥
FaultsOfPhase name phase (Refused other refusal) = (other ≡ name) × (phase ≡ Err refusal)
