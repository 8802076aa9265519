-- Sets of names that are known by numbers: a set is a list of names, of which only membership counts.
use Rattle.std.specs.Prelude.{◌≡◌, ℕ, suc, ◌<◌, ◌≤◌, Bool, List, [], ◌∷◌, ◌++◌, fold, filter, length, bytes_eq, slice_index_or}
use Rattle.std.specs.List.{list_any}
use Rattle.pw_cpp_sets.specs.declared.sets.Node.{Node}

abbrev pub Names : Type 0
Names = List (List ℕ)

abbrev pub contains : Names → List ℕ → Bool
contains names name = list_any (bytes_eq name) names

-- the sets by their numbers
abbrev pub Known : Type 0
Known = List Names

-- the set of a number
abbrev pub set_at : Known → ℕ → Names
set_at known number = slice_index_or known number []

-- with one more set, which has one name more than a set that is known
abbrev pub with_set : Known → List ℕ → ℕ → Known
with_set known name set = known ++ (name ∷ set_at known set) ∷ []

abbrev pub with_node : Known → Node → Known
with_node known node = with_set known node.name.now node.rest

-- the empty set has number 0
abbrev pub sets_of : List Node → Known
sets_of nodes = fold with_node ([] ∷ []) nodes

-- the sets that were known keep their numbers
pub record Keeps (old new : Known) : Type 0 where
  pub count : length old ≤ length new
  pub same : (number : ℕ) → number < length old → set_at new number ≡ set_at old number

-- what two sets share
abbrev pub shared : Names → Names → Names
shared one other = filter (contains other) one

-- nodes of which each names a set that is known before it, where so many nodes stand before them
abbrev pub AreBehind : ℕ → List Node → Type 0
AreBehind count [] = Unit {0}
AreBehind count (node ∷ nodes) = (node.rest ≤ count) × AreBehind (suc count) nodes

-- The set of a number is made by the node: it has the node's name besides those of the set that the node names, which is known before it.
pub record IsMadeBy (nodes : List Node) (set : ℕ) (node : Node) : Type 0 where
  pub adds : set_at (sets_of nodes) set ≡ node.name.now ∷ set_at (sets_of nodes) node.rest
  pub before : node.rest < set
