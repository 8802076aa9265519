-- The tokens before a fault in labels, conditions and simple statements begin them (6.6.1, 6.6.3, 6.6.6).
use Rattle.std.proofs.Common.{◌≡◌, ℕ, ◌<◌, List, [], ◌∷◌, length, Option, Some, None, ◌||◌, arith, refl}
use Rattle.pw_tree.specs.Scopes.{after_expr, after_optional, after_label, after_labels, Env}
use Rattle.pw_tree.specs.Spelling.{spell_expr, spell_optional, spell_label, spell_labels, spell_stmt}
use Rattle.pw_tree.specs.Symbols as symbol
use Rattle.pw_tree.specs.Symbols.{Symbol, Reserved, Sign}
use Rattle.pw_tree.specs.Trees.{Word, Expr, Label, CaseLabel, DefaultLabel, NameLabel, Stmt, Expression, Goto, Continue, Break, Return}
use Rattle.pw_tree.specs.WellFormed.{WellFormed, WellFormedOptional, WellFormedLabel, WellFormedLabels, NotLabeled, WellFormedStmt}
use Rattle.pw_token.specs.declared.symbol.Keyword.TheVariants as k
use Rattle.pw_token.specs.declared.symbol.Mark.{Mark}
use Rattle.pw_token.specs.declared.symbol.Mark.TheVariants as m
use Rattle.pw_parse_grammar.specs.Input.{Input, ahead, step, sees, or_false, and_then, ◌>>=◌, ◌>>◌, pure, ◌<$>◌, expect, ordinary}
use Rattle.pw_parse_grammar.specs.Input as input
use Rattle.pw_parse_grammar.specs.Declarations.{parts}
use Rattle.pw_parse_grammar.specs.Statements.{default_label, name_label, empty_stmt, goto_stmt, continue_stmt, break_stmt, before_label, case_label, label_by, label, labels, expression_stmt, up_to, return_stmt, condition}
use Rattle.pw_parse_grammar.proofs.Trees.Base.{names_of}
use Rattle.pw_parse_grammar.proofs.Sound.Base.{nothing, both, token}
use Rattle.pw_parse_grammar.proofs.Sound.Primaries.{identifier-sound}
use Rattle.pw_parse_grammar.proofs.Sound.Knot.{parts-sound}
use Rattle.pw_parse_grammar.proofs.Written.Statements.{label-long}
use Rattle.pw_parse_grammar.proofs.Viable.Base.{Does, Fails, bind-fails, bind-does, choose-fails, Form, Viable, missing, embed, as_part, absent, counted, expected-fails, eaten-fails}
use Rattle.pw_parse_grammar.proofs.Viable.Parts.{zero_expr, fresh}
use Rattle.pw_parse_grammar.proofs.Viable.Primaries.{identifier-fails}
use Rattle.pw_parse_grammar.proofs.Viable.Knot.{parts-viable}
use Rattle.pw_parse_grammar.proofs.Viable.Lists.{DoneItem, while-does}
use Rattle.pw_parse_grammar.proofs.Viable.Things.{Stands, Handles, below}

-- ---- 6.6.1

abbrev pub label_trees : Form Label
label_trees = record { holds = WellFormedLabel; put = spell_label }

abbrev pub label_lists : Form (List Label)
label_lists = record { holds = WellFormedLabels; put = spell_labels }

label-leads : (env : Env) (i : Input) (l : Label) (j : Input) → Stands label_trees after_label env i l j → DoneItem (Stands label_lists after_labels) (Viable label_lists) [] env i (before_label l) j
label-leads env i l j q = record {
  on = record {
    inner = after_label env l;
    names = q.reads.names;
    shorter = omega (arith, counted q.reads, label-long l);
    rest = λ e v. embed q.reads v (λ ls w. record { thing = l ∷ ls; holds = (q.holds, w); spells = λ z. (z, refl) });
  };
  whole = λ ls k r. record { reads = both q.reads r.reads; holds = (q.holds, r.holds) };
}

label-part : {env : Env} {i e : Input} → Viable label_trees env i e → Viable label_lists env i e
label-part v = as_part v (λ l w. record { thing = l ∷ []; holds = (w, tt); spells = λ z. (z, refl) })

no_labels : (env : Env) (i : Input) → i.names ≡ names_of env → Stands label_lists after_labels env i [] i
no_labels env i names = record { reads = nothing i env names; holds = tt }

default-does : (env : Env) (i : Input) → ahead i ≡ Some (Reserved k.Default) → i.names ≡ names_of env → Does (Stands label_trees after_label env i) (Viable label_trees env i) (default_label i)
unfolding default_label
default-does env i h names =
    let t = token i env (Reserved k.Default) h names in
    expected-fails _ _ (step i) env m.Colon (pure (DefaultLabel i.next)) t.names
    (missing t (record { thing = DefaultLabel i.next; holds = tt; spells = λ z. (Sign m.Colon ∷ z, refl) }))
    (λ j c. record { reads = both t c; holds = tt })

name_label-does : (env : Env) (i : Input) (x : List ℕ) → ahead i ≡ Some (symbol.Identifier x) → i.names ≡ names_of env
    → Does (Stands label_trees after_label env i) (Viable label_trees env i) (name_label x i)
unfolding name_label
name_label-does env i x h names =
    let t = token i env (symbol.Identifier x) h names in
    let w : Word = record { token = i.next; text = x } in
    expected-fails _ _ (step i) env m.Colon (pure (NameLabel w)) t.names
    (missing t (record { thing = NameLabel w; holds = tt; spells = λ z. (Sign m.Colon ∷ z, refl) }))
    (λ j c. record { reads = both t c; holds = tt })

-- ---- the forms of what stands in statements

-- expressions or none, and the mark behind them
abbrev pub up_tos : Mark → Form (Option Expr)
up_tos end = record { holds = WellFormedOptional; put = λ e z. spell_optional e (Sign end ∷ z) }

-- expressions in parentheses
abbrev pub conditions : Form Expr
conditions = record { holds = WellFormed; put = λ e z. Sign m.OpenParen ∷ spell_expr e (Sign m.CloseParen ∷ z) }

-- statements with no label
abbrev pub unlabeled_stmts : Form Stmt
unlabeled_stmts = record { holds = λ env s. WellFormedStmt env s × NotLabeled s; put = spell_stmt }

abbrev pub FailsUnlabeled : Env → Input → input.Outcome Stmt → Type 0
FailsUnlabeled env i o = Fails (Viable unlabeled_stmts env i) o

module _ (limit : ℕ) where
  case-does : (env : Env) (i : Input) → ahead i ≡ Some (Reserved k.Case) → i.names ≡ names_of env → length i.rest < limit → Does (Stands label_trees after_label env i) (Viable label_trees env i) (case_label limit i)
  unfolding case_label
  case-does env i h names less =
      let t = token i env (Reserved k.Case) h names in
      bind-fails _ _ ((parts limit).expr 14 (step i)) (λ e. expect m.Colon >> pure (CaseLabel i.next e)) ((parts-sound limit).expr 14 (omega arith) env (step i) t.names) ((parts-viable limit).expr 14 (omega arith) env (step i) t.names (below t less))
      (λ e v. embed t v (λ x w. record { thing = CaseLabel i.next x; holds = (w.1, w.0); spells = λ z. (Sign m.Colon ∷ z, refl) })) (λ e y q.
      expected-fails _ _ y (after_expr env e) m.Colon (pure (CaseLabel i.next e)) q.reads.names
      (missing (both t q.reads) (record { thing = CaseLabel i.next e; holds = (q.low, q.holds); spells = λ z. (Sign m.Colon ∷ z, refl) }))
      (λ j c. record { reads = both t (both q.reads c); holds = (q.low, q.holds) }))

  label-by : (env : Env) (i : Input) → i.names ≡ names_of env → length i.rest < limit → (s : Option Symbol) → ahead i ≡ s
      → Does (DoneItem (Stands label_lists after_labels) (Viable label_lists) [] env i) (Viable label_lists env i) (label_by limit s i)
  label-by env i names less (Some (Reserved k.Case)) h = bind-does _ _ (case_label limit i) (λ l. pure (before_label l)) (case-does env i h names less) (λ e v. label-part v) (label-leads env i)
  label-by env i names less (Some (Reserved k.Default)) h = bind-does _ _ (default_label i) (λ l. pure (before_label l)) (default-does env i h names) (λ e v. label-part v) (label-leads env i)
  label-by env i names less (Some (symbol.Identifier x)) h = choose-fails _ _ (sees m.Colon (step i) || input.is_typedef_name i x) (before_label <$> name_label x) (pure None) i
      (λ _. bind-does _ _ (name_label x i) (λ l. pure (before_label l)) (name_label-does env i x h names) (λ e v. label-part v) (label-leads env i))
      (λ _. no_labels env i names)
  label-by env i names less None h = no_labels env i names
  label-by env i names less (Some _) h = no_labels env i names

  label-does : (env : Env) (i : Input) → i.names ≡ names_of env → length i.rest < limit → Does (DoneItem (Stands label_lists after_labels) (Viable label_lists) [] env i) (Viable label_lists env i) (label limit i)
  unfolding label
  label-does env i names less = label-by env i names less (ahead i) refl

  pub labels-does : Handles label_lists after_labels limit (labels limit)
  unfolding labels
  labels-does = while-does (Stands label_lists after_labels) (Viable label_lists) limit [] (label limit) label-does

  -- ---- expressions in statements

  pub up_to-does : (end : Mark) → Handles (up_tos end) after_optional limit (up_to limit end)
  unfolding up_to
  up_to-does end env i names less = eaten-fails _ _ i env end (pure None) ((parts limit).expr 16 >>= λ e. expect end >> pure (Some e)) names
      (λ j c. record { reads = c; holds = tt })
      (λ _. bind-fails _ _ ((parts limit).expr 16 i) (λ e. expect end >> pure (Some e)) ((parts-sound limit).expr 16 (omega arith) env i names) ((parts-viable limit).expr 16 (omega arith) env i names less)
      (λ e v. as_part v (λ x w. record { thing = Some x; holds = w.0; spells = λ z. (Sign end ∷ z, refl) })) (λ e y q.
      expected-fails _ _ y (after_expr env e) end (pure (Some e)) q.reads.names
      (missing q.reads (record { thing = Some e; holds = q.holds; spells = λ z. (Sign end ∷ z, refl) }))
      (λ j c. record { reads = both q.reads c; holds = q.holds })))

  pub condition-does : Handles conditions after_expr limit (condition limit)
  unfolding condition WellFormed
  condition-does env i names less = expected-fails _ _ i env m.OpenParen ((parts limit).expr 16 >>= λ e. expect m.CloseParen >> pure e) names (absent conditions i zero_expr tt) (λ x t.
      bind-fails _ _ ((parts limit).expr 16 x) (λ e. expect m.CloseParen >> pure e) ((parts-sound limit).expr 16 (omega arith) env x t.names) ((parts-viable limit).expr 16 (omega arith) env x t.names (below t less))
      (λ e v. embed t v (λ c w. record { thing = c; holds = w.0; spells = λ z. (Sign m.CloseParen ∷ z, refl) })) (λ e y q.
      expected-fails _ _ y (after_expr env e) m.CloseParen (pure e) q.reads.names
      (missing (both t q.reads) (record { thing = e; holds = q.holds; spells = λ z. (Sign m.CloseParen ∷ z, refl) }))
      (λ j c. record { reads = both t (both q.reads c); holds = q.holds })))

  -- ---- statements that hold no others

  pub expression-fails : (env : Env) (i : Input) → i.names ≡ names_of env → length i.rest < limit → FailsUnlabeled env i (expression_stmt limit i)
  unfolding expression_stmt spell_stmt WellFormedStmt
  expression-fails env i names less =
      bind-fails _ _ ((parts limit).expr 16 i) (λ e. expect m.Semicolon >> pure (Expression e)) ((parts-sound limit).expr 16 (omega arith) env i names) ((parts-viable limit).expr 16 (omega arith) env i names less)
      (λ e v. as_part v (λ x w. record { thing = Expression x; holds = (w.0, tt); spells = λ z. (Sign m.Semicolon ∷ z, refl) })) (λ e y q.
      expected-fails _ _ y (after_expr env e) m.Semicolon (pure (Expression e)) q.reads.names
      (missing q.reads (record { thing = Expression e; holds = (q.holds, tt); spells = λ z. (Sign m.Semicolon ∷ z, refl) }))
      (λ j c. tt))

  pub return-fails : (env : Env) (i : Input) → ahead i ≡ Some (Reserved k.Return) → i.names ≡ names_of env → length i.rest < limit → FailsUnlabeled env i (return_stmt limit i)
  unfolding return_stmt spell_stmt WellFormedStmt
  return-fails env i h names less =
      let t = token i env (Reserved k.Return) h names in
      bind-does _ _ (up_to limit m.Semicolon (step i)) (λ e. pure (Return i.next e)) (up_to-does m.Semicolon env (step i) t.names (below t less))
      (λ e v. embed t v (λ x w. record { thing = Return i.next x; holds = (w, tt); spells = λ z. (z, refl) }))
      (λ e j q. tt)

pub empty-fails : (env : Env) (i : Input) → FailsUnlabeled env i (empty_stmt i)
unfolding empty_stmt
empty-fails env i = tt

pub goto-fails : (env : Env) (i : Input) → ahead i ≡ Some (Reserved k.Goto) → i.names ≡ names_of env → FailsUnlabeled env i (goto_stmt i)
unfolding goto_stmt spell_stmt WellFormedStmt
goto-fails env i h names =
    let t = token i env (Reserved k.Goto) h names in
    bind-fails _ _ (input.identifier (step i)) (λ w. expect m.Semicolon >> pure (Goto i.next w)) (identifier-sound env (step i) t.names)
    (identifier-fails (Viable unlabeled_stmts env i) (step i) (missing t (record { thing = Goto i.next (fresh env); holds = (tt, tt); spells = λ z. (symbol.Identifier (fresh env).text ∷ Sign m.Semicolon ∷ z, refl) }))) (λ e v. v) (λ w y q.
    expected-fails _ _ y env m.Semicolon (pure (Goto i.next w)) q.reads.names
    (missing (both t q.reads) (record { thing = Goto i.next w; holds = (tt, tt); spells = λ z. (Sign m.Semicolon ∷ z, refl) }))
    (λ j c. tt))

pub continue-fails : (env : Env) (i : Input) → ahead i ≡ Some (Reserved k.Continue) → i.names ≡ names_of env → FailsUnlabeled env i (continue_stmt i)
unfolding continue_stmt spell_stmt WellFormedStmt
continue-fails env i h names =
    let t = token i env (Reserved k.Continue) h names in
    expected-fails _ _ (step i) env m.Semicolon (pure (Continue i.next)) t.names
    (missing t (record { thing = Continue i.next; holds = (tt, tt); spells = λ z. (Sign m.Semicolon ∷ z, refl) }))
    (λ j c. tt)

pub break-fails : (env : Env) (i : Input) → ahead i ≡ Some (Reserved k.Break) → i.names ≡ names_of env → FailsUnlabeled env i (break_stmt i)
unfolding break_stmt spell_stmt WellFormedStmt
break-fails env i h names =
    let t = token i env (Reserved k.Break) h names in
    expected-fails _ _ (step i) env m.Semicolon (pure (Break i.next)) t.names
    (missing t (record { thing = Break i.next; holds = (tt, tt); spells = λ z. (Sign m.Semicolon ∷ z, refl) }))
    (λ j c. tt)
