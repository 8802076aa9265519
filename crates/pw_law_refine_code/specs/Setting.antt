-- That parts are set where the part is that they stand in: the statements of laws.
use Rattle.std.specs.Prelude.{ℕ, ◌≡◌, ◌≤◌, ◌+◌, Bool, true, false, Option, None, List, [], ◌∷◌, ◌++◌, length}
use Rattle.pw_types.specs.Labels.{labels_in}
use Rattle.pw_types.specs.TypedTrees.{Expression, Initialiser, CaseValue, Statement, Block, If, While, Do, For, Switch, Label, Arms, NoArm, Arm, Otherwise, NoElse, Statements, OneStatement}
use Rattle.pw_flow.specs.declared.flow.End.TheVariants.{Jump, Branch}
use Rattle.pw_lower.specs.declared.code.Code.{Code}
use Rattle.pw_lower.specs.declared.place.Ways.{Ways}
use Rattle.pw_lower.specs.Codes.{temp_of, reserve, cut, cut_here, named_from}
use Rattle.pw_lower.specs.Expressions.{lower}
use Rattle.pw_lower.specs.Modules.{entered}
use Rattle.pw_lower.specs.Statements.{begun, effects, test, test_or_go, initialised_all, labels_of, choose, chosen}
use Rattle.pw_law_refine_steps.specs.FromLawRefine.Activations.{Activation, IsActivation, Numbers, number_of, home_of}
use Rattle.pw_law_refine_steps.specs.FromLawRefine.Statements.{IsSet, code_behind}
use Rattle.pw_law_refine_steps.specs.FromLawRefine.StatementParts.{AreSet, AreArmsSet, HaveBegun}
use Rattle.pw_law_refine_code.specs.Behind.{named_blocks}

-- ---- lists, labels, blocks

-- the first of a list, and the others, behind which the labels of the first lie
abbrev pub ListsAreSet : Type 0
ListsAreSet =
    (x : Activation) (numbers : Numbers) (breaks continues : Bool) (from : ℕ) (back : List ℕ) (ways : Ways) (a : Statement) (rest : Statements) (c : Code) →
    IsActivation x → AreSet x numbers breaks continues from back ways (OneStatement a rest) c →
    IsSet x numbers breaks continues from back ways a c
    × AreSet x numbers breaks continues from (back ++ named_blocks x (labels_in a) c) ways rest (code_behind x ways a c)

-- what stands behind labels
abbrev pub LabelledAreSet : Type 0
LabelledAreSet =
    (x : Activation) (numbers : Numbers) (breaks continues : Bool) (from : ℕ) (back : List ℕ) (ways : Ways) (t : ℕ) (labels : List ℕ) (body : Statement) (c : Code) →
    IsActivation x → IsSet x numbers breaks continues from back ways (Label t labels body) c →
    IsSet x numbers breaks continues from (back ++ named_blocks x labels c) ways body (begun labels c)

-- the statements of a block, once its locals are in scope and initialised
abbrev pub BlocksAreSet : Type 0
BlocksAreSet =
    (x : Activation) (numbers inner : Numbers) (breaks continues : Bool) (from : ℕ) (back : List ℕ) (ways : Ways) (t first count : ℕ) (initialisers : List Initialiser) (items : Statements) (c : Code) →
    IsActivation x → IsSet x numbers breaks continues from back ways (Block t first count initialisers items) c → HaveBegun first count numbers inner →
    AreSet x inner breaks continues (first + count) back ways items (initialised_all (home_of x) x.function.locals initialisers c)

-- ---- `if`

abbrev pub IfsAreSet : Type 0
IfsAreSet =
    (x : Activation) (numbers : Numbers) (breaks continues : Bool) (from : ℕ) (back : List ℕ) (ways : Ways) (t : ℕ) (arms : Arms) (otherwise : Otherwise) (c : Code) →
    IsActivation x → IsSet x numbers breaks continues from back ways (If t arms otherwise) c →
    AreArmsSet x numbers breaks continues from back ways arms otherwise c

-- the code of an arm before its statement, with so many new blocks; and behind an arm that is not the last
abbrev pub code_of_arm : Activation → Expression → ℕ → Code → Code
code_of_arm x e n c =
    let value = lower (home_of x) e c in
    cut_here (Branch (temp_of value) value.code.blocks (value.code.blocks + 1)) value.code.blocks (reserve n value.code)

abbrev pub code_between : Activation → Ways → Expression → Statement → Code → Code
code_between x ways e a c =
    let value = lower (home_of x) e c in
    cut_here (Jump (value.code.blocks + 2)) (value.code.blocks + 1) (code_behind x ways a (code_of_arm x e 3 c))

-- something stands behind an arm
abbrev pub HasMore : Arms → Otherwise → Type 0
HasMore NoArm NoElse = ⊥
HasMore arms otherwise = Unit {0}

abbrev pub ArmsAreSet : Type 0
ArmsAreSet =
    (x : Activation) (numbers : Numbers) (breaks continues : Bool) (from : ℕ) (back : List ℕ) (ways : Ways) (t : ℕ) (e : Expression) (a : Statement) (c : Code) →
    IsActivation x →
    (AreArmsSet x numbers breaks continues from back ways (Arm t e a NoArm) NoElse c → IsSet x numbers breaks continues from back ways a (code_of_arm x e 2 c))
    × ((rest : Arms) (otherwise : Otherwise) → HasMore rest otherwise → AreArmsSet x numbers breaks continues from back ways (Arm t e a rest) otherwise c →
    IsSet x numbers breaks continues from back ways a (code_of_arm x e 3 c)
    × AreArmsSet x numbers breaks continues from (back ++ named_blocks x (labels_in a) c) ways rest otherwise (code_between x ways e a c))

-- ---- loops, whose tops lie behind their bodies

-- the code of a loop before its body
abbrev pub code_of_while : Activation → Expression → Code → Code
code_of_while x e c = test (home_of x) e (c.blocks + 1) (c.blocks + 2) (c.blocks + 1) (c.depth + 1) (cut (Jump c.blocks) c.blocks (c.depth + 1) (reserve 3 c))

abbrev pub code_of_do : Code → Code
code_of_do c = cut (Jump c.blocks) c.blocks (c.depth + 1) (reserve 3 c)

abbrev pub code_of_for : Activation → Option Expression → Option Expression → Code → Code
code_of_for x first e c =
    test_or_go (home_of x) e (c.blocks + 1) (c.blocks + 3) (c.depth + 1) (cut (Jump c.blocks) c.blocks (c.depth + 1) (effects (home_of x) first (reserve 4 c)))

abbrev pub LoopsAreSet : Type 0
LoopsAreSet =
    (x : Activation) (numbers : Numbers) (breaks continues : Bool) (from : ℕ) (back : List ℕ) (ways : Ways) (t : ℕ) (body : Statement) (c : Code) →
    IsActivation x →
    ((e : Expression) → IsSet x numbers breaks continues from back ways (While t e body) c →
    IsSet x numbers true true from (back ++ c.blocks ∷ []) (record { out = c.blocks + 2; on = c.blocks }) body (code_of_while x e c))
    × ((e : Expression) → IsSet x numbers breaks continues from back ways (Do t body e) c →
    IsSet x numbers true true from (back ++ c.blocks ∷ []) (record { out = c.blocks + 2; on = c.blocks + 1 }) body (code_of_do c))
    × ((first e third : Option Expression) → IsSet x numbers breaks continues from back ways (For t first e third body) c →
    IsSet x numbers true true from (back ++ c.blocks ∷ []) (record { out = c.blocks + 3; on = c.blocks + 2 }) body (code_of_for x first e c))

-- ---- `switch`

-- the code of a switch before its body
abbrev pub code_of_switch : Activation → Expression → List CaseValue → Option ℕ → Code → Code
code_of_switch x e cases default c =
    let names = labels_of cases default in
    let value = lower (home_of x) e (named_from (c.blocks + 1) names (reserve (1 + length names) c)) in
    chosen default c.blocks (choose (temp_of value) cases value.code)

abbrev pub SwitchesAreSet : Type 0
SwitchesAreSet =
    (x : Activation) (numbers : Numbers) (breaks continues : Bool) (from : ℕ) (back : List ℕ) (ways : Ways) (t : ℕ) (e : Expression) (cases : List CaseValue) (default : Option ℕ) (body : Statement) (c : Code) →
    IsActivation x → IsSet x numbers breaks continues from back ways (Switch t e cases default body) c →
    IsSet x numbers true continues from back (record ways { out = c.blocks }) body (code_of_switch x e cases default c)

-- ---- functions

-- the body of an active function, behind the code that stores its parameters
abbrev pub BodiesAreSet : Type 0
BodiesAreSet =
    (x : Activation) (numbers : Numbers) → IsActivation x → ((k : ℕ) → x.function.params ≤ k → number_of numbers k ≡ None) →
    IsSet x numbers false false x.function.params [] (record { out = 0; on = 0 }) x.function.body (entered x.function)
