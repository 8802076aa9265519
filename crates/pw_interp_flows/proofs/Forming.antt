-- Statements by their forms, as what is left of them.
use Rattle.std.proofs.Common.{ℕ, zero, suc, ◌+◌, ◌-◌, ◌≡◌, refl, sym, ap, subst, ◌∙◌, add-one, Option, Some, None, List, [], ◌∷◌, drop, map, arith}
use Rattle.std.specs.Prelude.{slice_get}
use Rattle.pw_value.specs.declared.value.Value.{Value}
use Rattle.pw_types.specs.Labels.{labels_among}
use Rattle.pw_types.specs.TypedTrees.{Expression, Statement, Empty, Evaluate, Block, If, While, Do, For, Switch, Label, Goto, Break, Continue, Return, Arms, Otherwise, Statements, NoStatement, OneStatement, CaseValue, Initialiser, Value as ByValue, Bytes as ByBytes, token_of}
use Rattle.pw_typed.specs.Views.{view_initialiser, view_initialisers}
use Rattle.pw_typed.specs.declared.tree.Initialiser as code
use Rattle.pw_cmean.specs.Acts.{State, Act, give, go_on, ◌>>=◌, ◌>>◌}
use Rattle.pw_cmean.specs.Evaluation.{Env, Calls, site, used}
use Rattle.pw_cmean.specs.Execution as execution
use Rattle.pw_cmean.specs.Execution.{Entry, Front, At_label, Flow, Normal, taking_up, value_of, with_locals, meaning, items, initialise, initialise_all, after_switch, caught}
use Rattle.pw_cmean.specs.SourceRun.{calls}
use Rattle.pw_interp_todo.specs.declared.statements.Part.TheVariants as P
use Rattle.pw_interp_todo.specs.Asking.{answered}
use Rattle.pw_interp_todo.specs.Going.{initialised, switched}
use Rattle.pw_interp_todo.specs.Members.{members_in}
use Rattle.pw_interp_todo.specs.Parts.{met_arms, inside, taking_act, part_act}
use Rattle.pw_interp_todo.proofs.ActLaws.{grouped}
use Rattle.pw_interp_todo.proofs.Firsts.{used_first}
use Rattle.pw_interp_functions.specs.Copies.{by_bytes, copying}
use Rattle.pw_interp_flows.specs.Forms.{return_act}
use Rattle.pw_interp_entries.specs.Looping.{met_act, counting_act}

module _ (at : Entry) (e : Env) (n : ℕ) (s : State) where
  abbrev cs : Calls
  cs = calls e.world n

  -- the meaning of a statement of a form
  abbrev Means : Statement → Act Flow → Type 0
  Means a act = meaning a at cs e s ≡ act s

  as_form : {a b : Statement} (f : Statement → Act Flow) → a ≡ b → Means b (f b) → Means a (f a)
  as_form f is law = subst (λ x. Means x (f x)) (sym is) law

  pub empty_is : {a : Statement} (t : ℕ) → a ≡ Empty t → Means a (give Normal)
  unfolding meaning
  empty_is t is = as_form (λ x. give Normal) is refl

  pub evaluate_is : {a : Statement} (t : ℕ) (x : Expression) → a ≡ Evaluate t x → Means a (answered x e n >>= λ given. give Normal)
  unfolding meaning
  evaluate_is t x is = as_form (λ y. answered x e n >>= λ given. give Normal) is refl

  pub goto_is : {a : Statement} (t l : ℕ) → a ≡ Goto t l → Means a (give (execution.Goes l))
  unfolding meaning
  goto_is t l is = as_form (λ x. give (execution.Goes l)) is refl

  pub break_is : {a : Statement} (t : ℕ) → a ≡ Break t → Means a (give execution.Breaks)
  unfolding meaning
  break_is t is = as_form (λ x. give execution.Breaks) is refl

  pub continue_is : {a : Statement} (t : ℕ) → a ≡ Continue t → Means a (give execution.Continues)
  unfolding meaning
  continue_is t is = as_form (λ x. give execution.Continues) is refl

  pub return_is : {a : Statement} (t : ℕ) (x : Option Expression) → a ≡ Return t x → Means a (return_act x cs e)
  unfolding meaning return_act
  return_is t None is = as_form (λ y. return_act None cs e) is refl
  return_is t (Some x) is = as_form (λ y. return_act (Some x) cs e) is refl

  pub if_is : {a : Statement} (t : ℕ) (list : Arms) (o : Otherwise) → a ≡ If t list o → Means a (taking_act a e at cs)
  unfolding meaning met_arms
  if_is t list o is = as_form (λ x. taking_act x e at cs) is refl

  pub label_is : {a : Statement} (t : ℕ) (labels : List ℕ) (body : Statement) → a ≡ Label t labels body → Means a (taking_act a e at cs)
  unfolding meaning
  label_is t labels body is = as_form (λ x. taking_act x e at cs) is refl

  pub while_is : {a : Statement} (t : ℕ) (c : Expression) (body : Statement) → a ≡ While t c body → Means a (met_act a e at cs)
  unfolding meaning
  while_is t c body is = as_form (λ x. met_act x e at cs) is refl

  pub do_is : {a : Statement} (t : ℕ) (body : Statement) (c : Expression) → a ≡ Do t body c → Means a (met_act a e at cs)
  unfolding meaning
  do_is t body c is = as_form (λ x. met_act x e at cs) is refl

  pub block_is : {a : Statement} (t first count : ℕ) (initialisers : List Initialiser) (list : Statements) → a ≡ Block t first count initialisers list
      → Means a (part_act (P.Locals 0) a at e n)
  unfolding meaning inside
  block_is t first count initialisers list is =
      as_form (λ x. part_act (P.Locals 0) x at e n) is
      (let less : count ≡ count - 0 = omega arith in
      let same : first ≡ first + 0 = omega arith in
      ap (λ c. with_locals c first (inside initialisers list at cs) e s) less ∙ ap (λ f. with_locals (count - 0) f (inside initialisers list at cs) e s) same)

module _ (e : Env) (n : ℕ) (s : State) where
  for_front : {a : Statement} (t : ℕ) (first c third : Option Expression) (body : Statement) → a ≡ For t first c third body
      → meaning a Front (calls e.world n) e s ≡ counting_act first a e Front (calls e.world n) s
  unfolding meaning counting_act
  for_front t first c third body is = subst (λ x. meaning x Front (calls e.world n) e s ≡ counting_act first x e Front (calls e.world n) s) (sym is) refl

  for_label : {a : Statement} (t : ℕ) (first c third : Option Expression) (body : Statement) (l : ℕ) → a ≡ For t first c third body
      → meaning a (At_label l) (calls e.world n) e s ≡ counting_act first a e (At_label l) (calls e.world n) s
  unfolding meaning counting_act
  for_label t first c third body l is = subst (λ x. meaning x (At_label l) (calls e.world n) e s ≡ counting_act first x e (At_label l) (calls e.world n) s) (sym is) refl

  pub for_is : {a : Statement} (t : ℕ) (first c third : Option Expression) (body : Statement) (at : Entry) → a ≡ For t first c third body
      → meaning a at (calls e.world n) e s ≡ counting_act first a e at (calls e.world n) s
  for_is t first c third body Front is = for_front t first c third body is
  for_is t first c third body (At_label l) is = for_label t first c third body l is

  -- the value of an expression, and then this
  pub value_is : {B : Type 0} (a : Expression) (f : Value → Act B)
      → (value_of a (calls e.world n) e >>= f) s ≡ (answered a e n >>= λ given. used (site e (token_of a)) given >>= f) s
  unfolding value_of
  value_is a f = used_first e n (token_of a) a f s

  pub switch_front : {a : Statement} (t : ℕ) (x : Expression) (cases : List CaseValue) (default : Option ℕ) (body : Statement) → a ≡ Switch t x cases default body
      → meaning a Front (calls e.world n) e s ≡ (answered x e n >>= λ given. used (site e (token_of x)) given >>= switched a e (calls e.world n)) s
  unfolding meaning switched
  switch_front t x cases default body is =
      subst (λ y. meaning y Front (calls e.world n) e s ≡ (answered x e n >>= λ given. used (site e (token_of x)) given >>= switched y e (calls e.world n)) s) (sym is)
      (value_is x (switched (Switch t x cases default body) e (calls e.world n)))

  pub switch_label : {a : Statement} (t : ℕ) (x : Expression) (cases : List CaseValue) (default : Option ℕ) (body : Statement) (l : ℕ) → a ≡ Switch t x cases default body
      → meaning a (At_label l) (calls e.world n) e s ≡ (meaning body (At_label l) (calls e.world n) e >>= after_switch) s
  unfolding meaning
  switch_label t x cases default body l is =
      subst (λ y. meaning y (At_label l) (calls e.world n) e s ≡ (meaning body (At_label l) (calls e.world n) e >>= after_switch) s) (sym is) refl

  -- ---- the inside of a block

  -- where no initialiser is left, or it is entered at a label
  pub inside_none : (list : Statements) (at : Entry) → inside [] list at (calls e.world n) e s ≡ taking_up (labels_among list) (λ at' cs'. items list at' cs' e) at (calls e.world n) s
  unfolding inside initialise_all ◌>>=◌ go_on give
  inside_none list at = refl

  pub inside_label : (all : List Initialiser) (list : Statements) (l : ℕ) → inside all list (At_label l) (calls e.world n) e s ≡ inside [] list (At_label l) (calls e.world n) e s
  unfolding inside initialise_all ◌>>=◌ go_on give
  inside_label [] list l = refl
  inside_label (i ∷ rest) list l = refl

  pub list_some : (a x : Statement) (rest : Statements) (at : Entry) → members_in a ≡ OneStatement x rest → inside [] (members_in a) at (calls e.world n) e s ≡ taking_act a e at (calls e.world n) s
  unfolding inside initialise_all ◌>>=◌ go_on give
  list_some (Block t first count initialisers list) x rest at is = refl
  list_some _ x rest at is = cc is

  pub no_list : (at : Entry) → inside [] NoStatement at (calls e.world n) e s ≡ give Normal s
  unfolding inside initialise_all taking_up caught meaning ◌>>=◌ go_on give
  no_list at = by (calls e.world n)
    where
      by : (more : Calls) → inside [] NoStatement at more e s ≡ give Normal s
      by [] = refl
      by (c ∷ more) = refl

  -- an initialiser, and those behind it
  pub inside_value : (all : List Initialiser) (list : Statements) (k : ℕ) (a : Expression) (rest : List Initialiser) → all ≡ ByValue k a ∷ rest
      → inside all list Front (calls e.world n) e s ≡ (answered a e n >>= initialised all list e (calls e.world n)) s
  unfolding inside initialise_all initialise initialised value_of
  inside_value all list k a rest is =
      subst (λ x. inside x list Front (calls e.world n) e s ≡ (answered a e n >>= initialised x list e (calls e.world n)) s) (sym is)
      (grouped _ _ _ s ∙ grouped _ _ _ s ∙ used_first e n (token_of a) a _ s)

  pub inside_bytes : (all : List Initialiser) (list : Statements) (k hidden : ℕ) (parts : List Expression) (rest : List Initialiser) → all ≡ ByBytes k hidden parts ∷ rest
      → inside all list Front (calls e.world n) e s ≡ (by_bytes k hidden e >> inside rest list Front (calls e.world n) e) s
  unfolding inside initialise_all initialise by_bytes copying
  inside_bytes all list k hidden parts rest is =
      subst (λ x. inside x list Front (calls e.world n) e s ≡ (by_bytes k hidden e >> inside rest list Front (calls e.world n) e) s) (sym is)
      (grouped _ _ _ s)

-- initialisers by their places
initialisers_some : (list : List code.Initialiser) (i : ℕ) (a : code.Initialiser) → slice_get list i ≡ Some a → drop i (map view_initialiser list) ≡ view_initialiser a ∷ drop (suc i) (map view_initialiser list)
initialisers_some [] i a is = cc is
initialisers_some (x ∷ list) zero a is = let same : x ≡ a = cc is in ap (λ y. view_initialiser y ∷ map view_initialiser list) same
initialisers_some (x ∷ list) (suc i) a is = initialisers_some list i a is

initialisers_none : (list : List code.Initialiser) (i : ℕ) → slice_get list i ≡ None → drop i (map view_initialiser list) ≡ []
initialisers_none [] zero is = refl
initialisers_none [] (suc i) is = refl
initialisers_none (x ∷ list) zero is = cc is
initialisers_none (x ∷ list) (suc i) is = initialisers_none list i is

pub initialiser_at : {l : List Initialiser} (list : List code.Initialiser) (i : ℕ) (a : code.Initialiser) → view_initialisers list ≡ l → slice_get list i ≡ Some a
    → drop i l ≡ view_initialiser a ∷ drop (i + 1) l
initialiser_at {l = l} list i a same is =
    subst (λ x. drop i x ≡ view_initialiser a ∷ drop (suc i) x) same (initialisers_some list i a is)
    ∙ ap (λ k. view_initialiser a ∷ drop k l) (sym (add-one i))

pub initialiser_past : {l : List Initialiser} (list : List code.Initialiser) (i : ℕ) → view_initialisers list ≡ l → slice_get list i ≡ None → drop i l ≡ []
initialiser_past list i same is = subst (λ x. drop i x ≡ []) same (initialisers_none list i is)
