-- The labels of statements (ISO C90 6.6.1).
use Rattle.std.specs.Prelude.{ℕ, List, [], ◌++◌, map, option_to_list}
use Rattle.pw_types.specs.TypedTrees.{Initialiser, Statement, Switch, Label, Arms, Otherwise, Statements}
use Rattle.pw_types.specs.Collected.{collected, collected_among, collected_of_arms, collected_behind}

abbrev pub of_none : List Initialiser → List ℕ
of_none initialisers = []

-- ---- the labels that stand in a statement, in the order of the text

abbrev pub own_labels : Statement → List ℕ → List ℕ
own_labels (Label t labels body) rest = labels ++ rest
own_labels s rest = rest

abbrev pub labels_in : Statement → List ℕ
labels_in s = collected own_labels of_none s

abbrev pub labels_among : Statements → List ℕ
labels_among all = collected_among own_labels of_none all

abbrev pub labels_of_arms : Arms → List ℕ
labels_of_arms arms = collected_of_arms own_labels of_none arms

abbrev pub labels_behind : Otherwise → List ℕ
labels_behind otherwise = collected_behind own_labels of_none otherwise

-- ---- the labels of cases and defaults, as the switches that stand in a statement name them

abbrev pub own_cases : Statement → List ℕ → List ℕ
own_cases (Switch t e cases default body) rest = map (λ c. c.label) cases ++ (option_to_list default ++ rest)
own_cases s rest = rest

abbrev pub cases_in : Statement → List ℕ
cases_in s = collected own_cases of_none s

abbrev pub cases_among : Statements → List ℕ
cases_among all = collected_among own_cases of_none all

abbrev pub cases_of_arms : Arms → List ℕ
cases_of_arms arms = collected_of_arms own_cases of_none arms

abbrev pub cases_behind : Otherwise → List ℕ
cases_behind otherwise = collected_behind own_cases of_none otherwise
