-- The meaning of statements (ISO C90 6.6): from the beginning, or at a label that stands in them.
use Rattle.std.specs.Prelude.{ℕ, zero, suc, ◌==◌, Bool, true, if◌then◌else◌, Option, Some, None, List, [], ◌∷◌, ◌++◌, slice_get, slice_set}
use Rattle.std.specs.List.{list_any}
use Rattle.pw_value.specs.declared.value.Value.{Value}
use Rattle.pw_value.specs.declared.value.Value.TheVariants as V
use Rattle.pw_value.specs.Objects.{object_at}
use Rattle.pw_types.specs.TypeTrees.{type_of}
use Rattle.pw_types.specs.TypedTrees.{Hidden, Expression, token_of, CaseValue, Initialiser, Value as ByValue, Bytes as ByBytes, Statement, Empty, Evaluate, Block, If, While, Do, For, Switch, Label, Goto, Break, Continue, Return, Arms, NoArm, Arm, Otherwise, NoElse, Else, Statements, NoStatement, OneStatement}
use Rattle.pw_types.specs.Labels.{labels_in, labels_among, labels_of_arms, labels_behind}
use Rattle.pw_cmean.specs.Acts.{Act, Site, Bound, ◌>>=◌, ◌>>◌, give, stop, branch, look, need, write, with_object}
use Rattle.pw_cmean.specs.Access.{Initialising, within, put}
use Rattle.pw_cmean.specs.Operators.{truth}
use Rattle.pw_cmean.specs.Evaluation.{Env, Calls, site, records_of, local_place, symbol_place, used, answer_of}
use Rattle.pw_types.specs.Layouts.{layout_of}

-- where a statement is met
pub data Entry : Type 0 where
  Front : Entry
  At_label : ℕ → Entry

-- what comes of a statement
pub data Flow : Type 0 where
  Normal : Flow
  Breaks : Flow
  Continues : Flow
  Returns : Option Value → Flow
  Goes : ℕ → Flow

-- ---- labels

abbrev pub holds : List ℕ → ℕ → Bool
holds labels l = list_any (λ other. other == l) labels

-- Behind a part of a list or of an `if`: to a label that stands later in it a goto goes on, and costs
-- nothing.
unfoldable pub go_forward : List ℕ → (Entry → Act Flow) → Act Flow → Flow → Act Flow
go_forward labels later next Normal = next
go_forward labels later next Breaks = give Breaks
go_forward labels later next Continues = give Continues
go_forward labels later next (Returns v) = give (Returns v)
go_forward labels later next (Goes l) = branch (holds labels l) (later (At_label l)) (give (Goes l))

-- where a goto goes to a label that stands before it in the same statement or list
unfoldable pub caught : List ℕ → (ℕ → Act Flow) → Flow → Act Flow
caught labels again (Goes l) = branch (holds labels l) (again l) (give (Goes l))
caught labels again flow = give flow

-- A statement or list with labels takes up the gotos to them that its parts leave: it goes on at the label,
-- with a bound that is one smaller.
unfoldable pub taking_up : List ℕ → (Entry → Calls → Act Flow) → Entry → Calls → Act Flow
taking_up labels run at [] = run at [] >>= caught labels (λ l. stop Bound)
taking_up labels run at (c ∷ cs) = run at (c ∷ cs) >>= caught labels (λ l. taking_up labels run (At_label l) cs)

-- ---- loops

-- behind the body of a loop
unfoldable pub after_body : Act Flow → Flow → Act Flow
after_body again Normal = again
after_body again Continues = again
after_body again Breaks = give Normal
after_body again (Returns v) = give (Returns v)
after_body again (Goes l) = give (Goes l)

-- one turn of a loop: the body, then what stands behind it, and where that says so the way back to the top
unfoldable pub turn : (Entry → Calls → Act Flow) → (Calls → Act Bool) → Entry → Calls → Act Flow → Act Flow
turn body behind at cs top = body at cs >>= after_body (do
  more ← behind cs
  branch more top (give Normal))

-- A loop from its top. `ahead` is what is tested before the body, `behind` what comes behind it. Each return
-- to the top goes on with a bound that is one smaller.
unfoldable pub loop : (Calls → Act Bool) → (Entry → Calls → Act Flow) → (Calls → Act Bool) → Calls → Act Flow
loop ahead body behind [] = do
  more ← ahead []
  branch more (turn body behind Front [] (stop Bound)) (give Normal)
loop ahead body behind (c ∷ cs) = do
  more ← ahead (c ∷ cs)
  branch more (turn body behind Front (c ∷ cs) (loop ahead body behind cs)) (give Normal)

-- a loop, met at its beginning or in its body
unfoldable pub meet_loop : (Calls → Act Bool) → (Entry → Calls → Act Flow) → (Calls → Act Bool) → Entry → Calls → Act Flow
meet_loop ahead body behind Front cs = loop ahead body behind cs
meet_loop ahead body behind (At_label l) [] = turn body behind (At_label l) [] (stop Bound)
meet_loop ahead body behind (At_label l) (c ∷ cs) = turn body behind (At_label l) (c ∷ cs) (loop ahead body behind cs)

unfoldable pub always : Calls → Act Bool
always cs = give true

-- ---- conditions and values of statements

-- the value of an expression of a statement, which meets that it is missing
unfoldable pub value_of : Expression → Calls → Env → Act Value
value_of a cs e = answer_of a cs e >>= used (site e (token_of a))

-- a condition, which meets a fault of its comparison with 0 (6.6.4.1, 6.6.5)
unfoldable pub condition : Expression → Calls → Env → Act Bool
condition a cs e = value_of a cs e >>= truth (site e (token_of a))

-- the condition of a `for`, which may be left out (6.6.5.3)
unfoldable pub for_condition : Option Expression → Calls → Env → Act Bool
for_condition None cs e = give true
for_condition (Some a) cs e = condition a cs e

-- an expression whose result is dropped
unfoldable pub drop_value : Option Expression → Calls → Env → Act (Unit {0})
drop_value None cs e = give tt
drop_value (Some a) cs e = do
  dropped ← answer_of a cs e
  give tt

-- the label of the first case that has the value, else the default's (6.6.4.2)
abbrev pub label_for : List CaseValue → Option ℕ → Value → Option ℕ
label_for [] default v = default
label_for (c ∷ rest) default (V.Num n) = if c.value == n then Some c.label else label_for rest default (V.Num n)
label_for (c ∷ rest) default v = default

-- behind the body of a switch
unfoldable pub after_switch : Flow → Act Flow
after_switch Breaks = give Normal
after_switch flow = give flow

-- to a label of the body, if there is one
unfoldable pub switch_to : Option ℕ → (ℕ → Act Flow) → Act Flow
switch_to None body = give Normal
switch_to (Some l) body = body l >>= after_switch

-- ---- blocks

-- the local of a place has the object of a number
abbrev pub with_number : ℕ → ℕ → Env → Env
with_number k number e = record e { numbers = slice_set e.numbers k (Some number) }

-- so many locals from a place on have objects of their own, while an act runs (6.1.2.4)
unfoldable pub with_locals : {A : Type 0} → ℕ → ℕ → (Env → Act A) → Env → Act A
with_locals zero first act e = act e
with_locals (suc count) first act e = do
  l ← need (slice_get e.locals first)
  layout ← need (layout_of (records_of e) (type_of l.ty))
  with_object layout.size l.writable (λ number. with_locals count (suc first) act (with_number first number e))

-- a value put into a local, which may be const
unfoldable pub set_local : Site → ℕ → Value → Env → Act (Unit {0})
set_local at k v e = do
  l ← need (slice_get e.locals k)
  place ← local_place e k
  put Initialising at (records_of e) (type_of l.ty) place v

-- an initialiser: the value of an expression, or the bytes of a hidden object (6.5.7)
unfoldable pub initialise : Initialiser → Calls → Env → Act (Unit {0})
initialise (ByValue k a) cs e = do
  v ← value_of a cs e
  set_local (site e (token_of a)) k v e
initialise (ByBytes k hidden parts) cs e = do
  source ← symbol_place e (Hidden hidden)
  place ← local_place e k
  within source (λ from i. within place (λ to j. do
    bytes ← look (λ s. (object_at s.objects from).bytes)
    write to j bytes))

-- at the beginning of a block; entered at a label, it passes over them
unfoldable pub initialise_all : List Initialiser → Entry → Calls → Env → Act (Unit {0})
initialise_all [] at cs e = give tt
initialise_all (i ∷ rest) Front cs e = do
  initialise i cs e
  initialise_all rest Front cs e
initialise_all (i ∷ rest) (At_label l) cs e = give tt

-- ---- statements

-- behind a label of its own a statement is met at its beginning
abbrev pub behind_labels : List ℕ → Entry → Entry
behind_labels labels Front = Front
behind_labels labels (At_label l) = if holds labels l then Front else At_label l

unfoldable mutual
  pub meaning : Statement → Entry → Calls → Env → Act Flow
  meaning (Empty t) at cs e = give Normal
  meaning (Evaluate t a) at cs e = do
    dropped ← answer_of a cs e
    give Normal
  meaning (Block t first count initialisers list) at cs e = with_locals count first (λ inner. do
    initialise_all initialisers at cs inner
    taking_up (labels_among list) (λ at' cs'. items list at' cs' inner) at cs) e
  meaning (If t list otherwise) at cs e =
      taking_up (labels_of_arms list ++ labels_behind otherwise) (λ at' cs'. arms list (labels_behind otherwise) (λ last. behind_arms otherwise last cs' e) at' cs' e) at cs
  meaning (While t c body) at cs e =
      meet_loop (λ cs'. condition c cs' e) (λ at' cs'. meaning body at' cs' e) always at cs
  meaning (Do t body c) at cs e =
      meet_loop always (λ at' cs'. meaning body at' cs' e) (λ cs'. condition c cs' e) at cs
  meaning (For t first c third body) Front cs e = do
    drop_value first cs e
    meet_loop (λ cs'. for_condition c cs' e) (λ at' cs'. meaning body at' cs' e) (λ cs'. drop_value third cs' e >> give true) Front cs
  meaning (For t first c third body) (At_label l) cs e =
      meet_loop (λ cs'. for_condition c cs' e) (λ at' cs'. meaning body at' cs' e) (λ cs'. drop_value third cs' e >> give true) (At_label l) cs
  meaning (Switch t a cases default body) Front cs e = do
    v ← value_of a cs e
    switch_to (label_for cases default v) (λ l. meaning body (At_label l) cs e)
  meaning (Switch t a cases default body) (At_label l) cs e = meaning body (At_label l) cs e >>= after_switch
  meaning (Label t labels body) at cs e =
      taking_up labels (λ at' cs'. meaning body (behind_labels labels at') cs' e) at cs
  meaning (Goto t l) at cs e = give (Goes l)
  meaning (Break t) at cs e = give Breaks
  meaning (Continue t) at cs e = give Continues
  meaning (Return t None) at cs e = give (Returns None)
  meaning (Return t (Some a)) at cs e = do
    v ← value_of a cs e
    give (Returns (Some v))

  -- a list of statements; entered at a label, it starts at the member that holds it
  pub items : Statements → Entry → Calls → Env → Act Flow
  items NoStatement at cs e = give Normal
  items (OneStatement s rest) Front cs e =
      meaning s Front cs e >>= go_forward (labels_among rest) (λ at'. items rest at' cs e) (items rest Front cs e)
  items (OneStatement s rest) (At_label l) cs e = branch (holds (labels_in s) l)
      (meaning s (At_label l) cs e >>= go_forward (labels_among rest) (λ at'. items rest at' cs e) (items rest Front cs e))
      (items rest (At_label l) cs e)

  -- The arms of an `if`, with the labels and the meaning of what stands behind the last `else`. An arm that
  -- was met leaves the `if`, unless it goes to a label in a later one.
  pub arms : Arms → List ℕ → (Entry → Act Flow) → Entry → Calls → Env → Act Flow
  arms NoArm labels last at cs e = last at
  arms (Arm t c s rest) labels last Front cs e = do
    holds' ← condition c cs e
    branch holds'
        (meaning s Front cs e >>= go_forward (labels_of_arms rest ++ labels) (λ at'. arms rest labels last at' cs e) (give Normal))
        (arms rest labels last Front cs e)
  arms (Arm t c s rest) labels last (At_label l) cs e = branch (holds (labels_in s) l)
      (meaning s (At_label l) cs e >>= go_forward (labels_of_arms rest ++ labels) (λ at'. arms rest labels last at' cs e) (give Normal))
      (arms rest labels last (At_label l) cs e)

  pub behind_arms : Otherwise → Entry → Calls → Env → Act Flow
  behind_arms NoElse at cs e = give Normal
  behind_arms (Else s) at cs e = meaning s at cs e
