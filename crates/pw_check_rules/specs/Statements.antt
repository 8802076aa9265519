-- Statements (ISO C90 6.6).
use Rattle.std.specs.Prelude.{ℕ, ◌+◌, ◌-◌, ◌==◌, Bool, true, false, not, ◌||◌, nat_lt, Option, None, Some, is_some, unwrap_or, option_map, List, [], ◌∷◌, ◌++◌, position}
use Rattle.std.specs.List.{list_any}
use Rattle.std.specs.Option.{option_map_or}
use Rattle.std.specs.Str.{bytes_eq}
pub use Rattle.pw_value.specs.NameLists.{has_name}
use Rattle.pw_tree.specs.FirstTokens.{first_of_expr, first_of_labels}
use Rattle.pw_tree.specs.Trees.{Word, Expr, Stmt, Alternative, Block, Stmts, Label, Decl}
use Rattle.pw_tree.specs.Trees as S
use Rattle.pw_types.specs.declared.kind.IntKind.{IntKind}
use Rattle.pw_types.specs.declared.kind.IntKind.TheVariants as K
use Rattle.pw_types.specs.TypeTrees.{type_of}
use Rattle.pw_types.specs.TypedTrees.{Expression, Statement, Statements, Arms, Otherwise, CaseValue}
use Rattle.pw_types.specs.TypedTrees as T
use Rattle.pw_check_walk.specs.Causes.{needs, CaseInSwitch, OneDefault, ScalarCondition, IntegralSwitch, BreakInside, ContinueInside, ReturnedValue, ReturnedType, OneCase, OneLabel, DeclaredLabel}
use Rattle.pw_check_walk.specs.Walks.{meets, pure, asks, change, ◌>>=◌, ◌>>◌}
use Rattle.pw_check_rules.specs.Kinds.{is_integral, is_scalar, is_void, kind_in}
use Rattle.pw_check_rules.specs.Constants.{constant_value, convert_word}
use Rattle.pw_check_rules.specs.Operands.{cast_to, promote}
use Rattle.pw_types.specs.WellTyped.{type_in}
use Rattle.pw_check_rules.specs.Operators.{value_rule, is_assignable}
use Rattle.pw_check_rules.specs.States.{Rule, State, SwitchState, scoped, with_body, next_local}
use Rattle.pw_check_rules.specs.Limits.{name_within}
use Rattle.pw_check_rules.specs.Leaves.{constant_point, is_nil}
use Rattle.pw_check_rules.specs.Phrases.{expr_rule}
use Rattle.pw_check_rules.specs.Declarations.{decls_rule}

-- ---- the labels of a function (6.6.1), in the order of the text

abbrev pub names_of_labels : List Label → List (List ℕ)
names_of_labels [] = []
names_of_labels (S.NameLabel w ∷ rest) = w.text ∷ names_of_labels rest
names_of_labels (S.CaseLabel t e ∷ rest) = names_of_labels rest
names_of_labels (S.DefaultLabel t ∷ rest) = names_of_labels rest

unfoldable mutual
  pub labels_in : Stmt → List (List ℕ)
  labels_in (S.Compound b) = labels_in_block b
  labels_in (S.Labeled ls s) = names_of_labels ls ++ labels_in s
  labels_in (S.If t c s a) = labels_in s ++ labels_in_alternative a
  labels_in (S.Switch t e s) = labels_in s
  labels_in (S.While t e s) = labels_in s
  labels_in (S.Do t s e) = labels_in s
  labels_in (S.For t a b c s) = labels_in s
  labels_in _ = []

  pub labels_in_alternative : Alternative → List (List ℕ)
  labels_in_alternative S.NoElse = []
  labels_in_alternative (S.Otherwise s) = labels_in s
  labels_in_alternative (S.ElseIf t c s a) = labels_in s ++ labels_in_alternative a

  pub labels_in_block : Block → List (List ℕ)
  labels_in_block (S.Braced t ds ss) = labels_in_list ss

  pub labels_in_list : Stmts → List (List ℕ)
  labels_in_list S.NoStmt = []
  labels_in_list (S.Next s rest) = labels_in s ++ labels_in_list rest

-- a label's number is its place among them
abbrev pub place_of_label : State → List ℕ → Option ℕ
place_of_label s name = position (bytes_eq name) s.body.names

-- ---- labels

abbrev pub first_switch : List SwitchState → Option SwitchState
first_switch [] = None
first_switch (w ∷ rest) = Some w

abbrev pub innermost_switch : State → Option SwitchState
innermost_switch s = first_switch s.body.switches

-- a change of the innermost switch
abbrev pub change_switches : (SwitchState → SwitchState) → List SwitchState → List SwitchState
change_switches f [] = []
change_switches f (w ∷ rest) = f w ∷ rest

abbrev pub with_switch : (SwitchState → SwitchState) → State → State
with_switch f = with_body (λ b. record b { switches = change_switches f b.switches })

-- the number of a label more
unfoldable pub new_label : Rule ℕ
new_label =
    asks (λ s. s.body.labels) >>= λ n.
    change (with_body (λ b. record b { labels = n + 1 })) >>
    pure n

abbrev pub switch_kind : Option SwitchState → IntKind
switch_kind None = K.Int
switch_kind (Some w) = w.kind

abbrev pub has_case : Option SwitchState → ℕ → Bool
has_case None value = false
has_case (Some w) value = list_any (λ c. c.value == value) w.cases

abbrev pub has_default : Option SwitchState → Bool
has_default None = false
has_default (Some w) = is_some w.default

-- a case has a constant of its own, in the type of the switch (6.6.4.2)
unfoldable pub case_rule : ℕ → Expression → Rule ℕ
case_rule first e =
    asks innermost_switch >>= λ w.
    let value = option_map (convert_word (switch_kind w)) (constant_value e) in
    meets (
    constant_point first e
    ∷ needs OneCase first (not (option_map_or (has_case w) value false))
    ∷ []) >>
    new_label >>= λ n.
    change (with_switch (λ x. record x { cases = x.cases ++ record { value = unwrap_or value 0; label = n } ∷ [] })) >>
    pure n

unfoldable pub inside_switch : ℕ → Rule (Unit {0})
inside_switch t = asks innermost_switch >>= λ w. meets (needs CaseInSwitch t (is_some w) ∷ [])

unfoldable pub default_rule : ℕ → Rule ℕ
default_rule t =
    asks innermost_switch >>= λ w.
    meets (needs CaseInSwitch t (is_some w) ∷ needs OneDefault t (not (has_default w)) ∷ []) >>
    new_label >>= λ n.
    change (with_switch (λ x. record x { default = Some n })) >>
    pure n

unfoldable pub name_label_rule : Word → Rule ℕ
name_label_rule w =
    asks (λ s. has_name s.body.met w.text) >>= λ twice.
    meets (needs OneLabel w.token (not twice) ∷ name_within w.token w.text ∷ []) >>
    change (with_body (λ b. record b { met = b.met ++ w.text ∷ [] })) >>
    asks (λ s. unwrap_or (place_of_label s w.text) 0)

unfoldable pub label_rule : Label → Rule ℕ
label_rule (S.CaseLabel t e) =
    inside_switch t >>
    expr_rule e >>= λ a. value_rule a >>= λ x.
    case_rule (first_of_expr e) x
label_rule (S.DefaultLabel t) = default_rule t
label_rule (S.NameLabel w) = name_label_rule w

unfoldable pub labels_rule : List Label → Rule (List ℕ)
labels_rule [] = pure []
labels_rule (l ∷ rest) =
    label_rule l >>= λ n.
    labels_rule rest >>= λ ns.
    pure (n ∷ ns)

-- ---- parts of statements

-- the value of an expression
unfoldable pub whole_rule : Expr → Rule Expression
whole_rule e = expr_rule e >>= λ a. value_rule a

unfoldable pub optional_rule : Option Expr → Rule (Option Expression)
optional_rule None = pure None
optional_rule (Some e) = whole_rule e >>= λ x. pure (Some x)

abbrev pub is_condition : Option Expression → Bool
is_condition None = true
is_condition (Some e) = is_scalar (type_in e)

-- a condition is a scalar, of the statement that begins here (6.6.4.1, 6.6.5)
unfoldable pub condition_rule : ℕ → Expr → Rule Expression
condition_rule t e =
    whole_rule e >>= λ x.
    meets (needs ScalarCondition t (is_scalar (type_in x)) ∷ []) >>
    pure x

unfoldable pub optional_condition : ℕ → Option Expr → Rule (Option Expression)
optional_condition t e =
    optional_rule e >>= λ x.
    meets (needs ScalarCondition t (is_condition x) ∷ []) >>
    pure x

-- the value of a switch is promoted (6.6.4.2)
unfoldable pub switch_rule : ℕ → Expr → Rule Expression
switch_rule t e =
    whole_rule e >>= λ x.
    meets (needs IntegralSwitch t (is_integral (type_in x)) ∷ []) >>
    pure (promote x)

abbrev pub switch_of : IntKind → SwitchState
switch_of kind = record { kind = kind; cases = []; default = None }

abbrev pub enter_switch : IntKind → State → State
enter_switch kind = with_body (λ b. record b { switches = switch_of kind ∷ b.switches })

abbrev pub tail_of : List SwitchState → List SwitchState
tail_of [] = []
tail_of (w ∷ rest) = rest

abbrev pub leave_switch : State → State
leave_switch = with_body (λ b. record b { switches = tail_of b.switches })

unfoldable pub in_switch : Expression → Rule Statement → Rule (Statement × SwitchState)
in_switch e body =
    change (enter_switch (kind_in (type_in e))) >>
    body >>= λ s.
    asks (λ st. option_map_or (λ w. w) (innermost_switch st) (switch_of K.Int)) >>= λ w.
    change leave_switch >>
    pure (s, w)

unfoldable pub in_loop : Rule Statement → Rule Statement
in_loop body =
    change (with_body (λ b. record b { loops = b.loops + 1 })) >>
    body >>= λ s.
    change (with_body (λ b. record b { loops = b.loops - 1 })) >>
    pure s

unfoldable pub goto_rule : ℕ → Word → Rule Statement
goto_rule t w =
    asks (λ s. place_of_label s w.text) >>= λ n.
    meets (needs DeclaredLabel w.token (is_some n) ∷ []) >>
    pure (T.Goto t (unwrap_or n 0))

unfoldable pub continue_rule : ℕ → Rule Statement
continue_rule t =
    asks (λ s. s.body.loops) >>= λ loops.
    meets (needs ContinueInside t (nat_lt 0 loops) ∷ []) >>
    pure (T.Continue t)

unfoldable pub break_rule : ℕ → Rule Statement
break_rule t =
    asks (λ s. nat_lt 0 s.body.loops || not (is_nil s.body.switches)) >>= λ inside.
    meets (needs BreakInside t inside ∷ []) >>
    pure (T.Break t)

-- 6.6.6.4
unfoldable pub return_rule : ℕ → Option Expr → Rule Statement
return_rule t None = pure (T.Return t None)
return_rule t (Some e) =
    whole_rule e >>= λ x.
    asks (λ s. type_of s.body.result) >>= λ result.
    meets (
    needs ReturnedValue t (not (is_void result))
    ∷ needs ReturnedType t (is_assignable result x)
    ∷ []) >>
    pure (T.Return t (Some (cast_to result x)))

-- the arms behind an `if`, and its `else`
pub record Behind : Type 0 where
  pub arms : Arms
  pub otherwise : Otherwise

abbrev pub arms_behind : Arms → Otherwise → Behind
arms_behind arms otherwise = record { arms = arms; otherwise = otherwise }

-- ---- statements

unfoldable mutual
  pub stmt_rule : Stmt → Rule Statement
  stmt_rule (S.Compound b) = scoped (block_rule b)
  stmt_rule (S.Expression e) = expr_rule e >>= λ a. value_rule a >>= λ x. pure (T.Evaluate (first_of_expr e) x)
  stmt_rule (S.Empty t) = pure (T.Empty t)
  stmt_rule (S.Labeled ls s) =
      labels_rule ls >>= λ ns.
      stmt_rule s >>= λ body.
      pure (T.Label (first_of_labels ls 0) ns body)
  stmt_rule (S.If t c s a) =
      condition_rule t c >>= λ x.
      stmt_rule s >>= λ body.
      alternative_rule a >>= λ rest.
      pure (T.If t (T.Arm t x body rest.arms) rest.otherwise)
  stmt_rule (S.Switch t e s) =
      switch_rule t e >>= λ x.
      in_switch x (stmt_rule s) >>= λ r.
      pure (T.Switch t x r.1.cases r.1.default r.0)
  stmt_rule (S.While t e s) =
      condition_rule t e >>= λ x.
      in_loop (stmt_rule s) >>= λ body.
      pure (T.While t x body)
  stmt_rule (S.Do t s e) =
      in_loop (stmt_rule s) >>= λ body.
      condition_rule t e >>= λ x.
      pure (T.Do t body x)
  stmt_rule (S.For t a b c s) =
      optional_rule a >>= λ x.
      optional_condition t b >>= λ y.
      optional_rule c >>= λ z.
      in_loop (stmt_rule s) >>= λ body.
      pure (T.For t x y z body)
  stmt_rule (S.Goto t w) = goto_rule t w
  stmt_rule (S.Continue t) = continue_rule t
  stmt_rule (S.Break t) = break_rule t
  stmt_rule (S.Return t e) = return_rule t e

  pub alternative_rule : Alternative → Rule Behind
  alternative_rule S.NoElse = pure (arms_behind T.NoArm T.NoElse)
  alternative_rule (S.Otherwise s) = stmt_rule s >>= λ body. pure (arms_behind T.NoArm (T.Else body))
  alternative_rule (S.ElseIf t c s a) =
      condition_rule t c >>= λ x.
      stmt_rule s >>= λ body.
      alternative_rule a >>= λ rest.
      pure (arms_behind (T.Arm t x body rest.arms) rest.otherwise)

  -- a block, in the scope that is read
  pub block_rule : Block → Rule Statement
  block_rule (S.Braced t ds ss) =
      asks next_local >>= λ first.
      decls_rule ds >>= λ initialisers.
      asks next_local >>= λ end.
      stmts_rule ss >>= λ items.
      pure (T.Block t first (end - first) initialisers items)

  pub stmts_rule : Stmts → Rule Statements
  stmts_rule S.NoStmt = pure T.NoStatement
  stmts_rule (S.Next s rest) =
      stmt_rule s >>= λ x.
      stmts_rule rest >>= λ xs.
      pure (T.OneStatement x xs)
