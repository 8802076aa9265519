-- What files can hold.
use Rattle.std.specs.Prelude.{ℕ, List, length}
use Rattle.std.specs.List.{AllByRecursion}
use Rattle.pw_value.specs.Names.{IsNameLength}
use Rattle.pw_flow.specs.declared.flow.FlowModule.{FlowModule}
use Rattle.pw_flowfile.specs.FlowFile.{IsFlowFile}
use Rattle.pw_summary.specs.declared.summary.Summary.{Summary}

-- A file can hold the flow graph: its counts fit into their fields, its names are no longer than names may be, and all of it is no longer
-- than a file may be.
abbrev pub HasFile : FlowModule → Type 0
HasFile flow = (bytes : List ℕ) × IsFlowFile bytes flow

-- The names of what a summary's module defines, and of what it takes the address of, are as long as names may be.
pub record HasNames (s : Summary) : Type 0 where
  pub functions : AllByRecursion (λ f. IsNameLength (length f.0)) s.functions
  pub globals : AllByRecursion (λ g. IsNameLength (length g.0)) s.globals
  pub taken : AllByRecursion (λ f. IsNameLength (length f.0)) s.taken
  pub escaped : AllByRecursion (λ name. IsNameLength (length name)) s.escaped
