-- A graph that contains the code behind a list, arms or initialisers contains the code before it.
use Rattle.std.proofs.Common.{ℕ, Option, Some, None, List, [], ◌∷◌, arith}
use Rattle.pw_types.specs.TypedTrees.{Expression, Initialiser, Block, If, Arms, Otherwise, Statements, NoStatement}
use Rattle.pw_flow.specs.declared.flow.FlowFn.{FlowFn}
use Rattle.pw_lower.specs.declared.code.Code.{Code}
use Rattle.pw_lower.specs.declared.place.Ways.{Ways}
use Rattle.pw_lower.specs.Codes.{reserve}
use Rattle.pw_lower.specs.Statements.{effects, initialised_all, lower_statement, lower_statements}
use Rattle.pw_law_lower.specs.Kept.{Keeps}
use Rattle.pw_law_refine.specs.Activations.{Activation, graph_of, home_of, lowering_of}
use Rattle.pw_law_refine.specs.Containing.{ContainsCode}
use Rattle.pw_law_refine.specs.StatementParts.{code_of_if, code_of_initialiser}
use Rattle.pw_law_refine_stmts.proofs.Laws.{Laws}

-- numbers that are given out change nothing that is contained
pub before-reserve : (g : FlowFn) (blocks : ℕ) (c : Code) → ContainsCode g (reserve blocks c) → ContainsCode g c
before-reserve g blocks c w = record {
  closed = w.closed;
  filled = w.filled;
  temps = w.temps;
  blocks = omega (arith, w.blocks);
}

pub before-list : Laws → (x : Activation) (ways : Ways) (list : Statements) (c : Code) → ContainsCode (graph_of x) (lower_statements (lowering_of x) ways list c) → ContainsCode (graph_of x) c
unfolding lower_statement
before-list laws x ways list c w = laws.contains (graph_of x) (lowering_of x) ways (Block 0 0 0 [] list) c w

pub before-arms : Laws → (x : Activation) (ways : Ways) (list : Arms) (otherwise : Otherwise) (c : Code) → ContainsCode (graph_of x) (code_of_if x ways list otherwise c) → ContainsCode (graph_of x) c
unfolding lower_statement
before-arms laws x ways list otherwise c w = laws.contains (graph_of x) (lowering_of x) ways (If 0 list otherwise) c w

pub before-initialisers : Laws → (x : Activation) (ways : Ways) (all : List Initialiser) (c : Code) → ContainsCode (graph_of x) (initialised_all (home_of x) x.function.locals all c) → ContainsCode (graph_of x) c
unfolding lower_statement
before-initialisers laws x ways all c w = laws.contains (graph_of x) (lowering_of x) ways (Block 0 0 0 all NoStatement) c w

-- what more code has given out
pub list-keeps-code : Laws → (x : Activation) (ways : Ways) (list : Statements) (c : Code) → Keeps c (lower_statements (lowering_of x) ways list c)
unfolding lower_statement
list-keeps-code laws x ways list c = laws.grows (lowering_of x) ways (Block 0 0 0 [] list) c

pub arms-keep-code : Laws → (x : Activation) (ways : Ways) (list : Arms) (otherwise : Otherwise) (c : Code) → Keeps c (code_of_if x ways list otherwise c)
unfolding lower_statement
arms-keep-code laws x ways list otherwise c = laws.grows (lowering_of x) ways (If 0 list otherwise) c

pub initialiser-keeps-code : Laws → (x : Activation) (ways : Ways) (i : Initialiser) (c : Code) → Keeps c (code_of_initialiser x i c)
unfolding lower_statement
initialiser-keeps-code laws x ways i c = laws.grows (lowering_of x) ways (Block 0 0 0 (i ∷ []) NoStatement) c

pub before-effects : Laws → (x : Activation) (e : Option Expression) (c : Code) → ContainsCode (graph_of x) (effects (home_of x) e c) → ContainsCode (graph_of x) c
before-effects laws x None c w = w
before-effects laws x (Some e) c w = laws.contain (graph_of x) (home_of x) e c w
