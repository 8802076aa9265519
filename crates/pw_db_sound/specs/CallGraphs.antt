-- What the rules of webs see of a program: which scalar globals a register may hold, which functions each function
-- calls, and which of these globals it reads and writes; all by names.
use Rattle.std.specs.Prelude.{ℕ, ◌≡◌, ◌≢◌, ◌⊎◌, ◌↔◌, Bool, true, false, List, Contains}
use Rattle.pw_value.specs.ProgramNames.{start_name}
use Rattle.pw_value.specs.declared.value.Kind.{Kind}

pub record Node : Type 0 where
  pub name : List ℕ
  -- the functions that it may call, by their names or through values
  pub calls : List (List ℕ)
  -- the eligible globals that it reads and writes by their names
  pub reads : List (List ℕ)
  pub writes : List (List ℕ)
  -- whether a module defines it, and whether its address is taken
  pub defined : Bool
  pub taken : Bool

pub record Graph : Type 0 where
  -- scalars whose address nothing takes, and that are not volatile
  pub eligible : List (List ℕ × Kind)
  pub nodes : List Node

-- a function may call another
pub record Calls (g : Graph) (caller callee : List ℕ) : Type 0 where
  pub node : Node
  pub there : Contains g.nodes node
  pub name : node.name ≡ caller
  pub call : Contains node.calls callee

-- one function reaches another by one call or more
pub data Path (g : Graph) : List ℕ → List ℕ → Type 0 where
  call : (a b : List ℕ) → Calls g a b → Path g a b
  on : (a b c : List ℕ) → Calls g a b → Path g b c → Path g a c

pub record Reads (g : Graph) (f v : List ℕ) : Type 0 where
  pub node : Node
  pub there : Contains g.nodes node
  pub name : node.name ≡ f
  pub read : Contains node.reads v

pub record Writes (g : Graph) (f v : List ℕ) : Type 0 where
  pub node : Node
  pub there : Contains g.nodes node
  pub name : node.name ≡ f
  pub written : Contains node.writes v

abbrev pub References : Graph → List ℕ → List ℕ → Type 0
References g f v = Reads g f v ⊎ Writes g f v

-- a module defines the function, and nothing takes its address, so that all its callers call it by its name
pub record IsMovable (g : Graph) (f : List ℕ) : Type 0 where
  pub node : Node
  pub there : Contains g.nodes node
  pub name : node.name ≡ f
  pub defined : node.defined ≡ true
  pub taken : node.taken ≡ false

-- two graphs that say the same of calls, reads, writes, eligible globals and functions that may be moved
pub record SayTheSame (g h : Graph) : Type 0 where
  pub calls : (a b : List ℕ) → Calls g a b ↔ Calls h a b
  pub reads : (f v : List ℕ) → Reads g f v ↔ Reads h f v
  pub writes : (f v : List ℕ) → Writes g f v ↔ Writes h f v
  pub eligible : (v : List ℕ) (k : Kind) → Contains g.eligible (v, k) ↔ Contains h.eligible (v, k)
  pub movable : (f : List ℕ) → IsMovable g f ↔ IsMovable h f

-- ---- roots

-- a function that is called, by names alone, and never while it is active itself
pub record IsInner (g : Graph) (f : List ℕ) : Type 0 where
  pub movable : IsMovable g f
  pub other : f ≢ start_name
  pub once : ¬ Path g f f
  pub caller : List ℕ
  pub called : Calls g caller f

-- The root of an inner function is that of all its callers, where they have one root. Every other function is its own
-- root.
pub data RootOf (g : Graph) : List ℕ → List ℕ → Type 0 where
  outer : (f : List ℕ) → ¬ IsInner g f → RootOf g f f
  of_callers : (f root : List ℕ) → IsInner g f → ((a : List ℕ) → Calls g a f → RootOf g a root) → RootOf g f root
  of_two : (f a b r s : List ℕ) → IsInner g f → Calls g a f → Calls g b f → RootOf g a r → RootOf g b s → r ≢ s → RootOf g f f

-- calls lead from one function to another, none of them to the root
pub data PathBelow (g : Graph) (root a : List ℕ) : List ℕ → Type 0 where
  here : PathBelow g root a a
  further : (b c : List ℕ) → PathBelow g root a b → Calls g b c → c ≢ root → PathBelow g root a c
