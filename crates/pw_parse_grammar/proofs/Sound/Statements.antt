-- Statements that are read are trees (6.6).
use Rattle.std.proofs.Common.{◌≡◌, ℕ, zero, suc, ◌+◌, Bool, true, false, if◌then◌else◌, List, [], ◌∷◌, length, Option, Some, None, ◌||◌, take, arith, refl, sym, ap, ◌∙◌, subst}
use Rattle.pw_tree.specs.Numbering.{past_expr, past_optional, Numbered, NumberedOptional, NumberedDecls, NumberedLabel, NumberedLabels, NumberedStmt, NumberedAlternative, NumberedBlock, NumberedStmts}
use Rattle.pw_tree.specs.Scopes.{after_expr, after_optional, after_decls, after_label, after_labels, after_stmt, after_alternative, Env}
use Rattle.pw_tree.specs.Spelling.{spell_expr, spell_optional, spell_label, spell_labels, spell_stmt, spell_alternative, spell_block, spell_stmts}
use Rattle.pw_tree.specs.Symbols as symbol
use Rattle.pw_tree.specs.Symbols.{Symbol, Reserved, Sign, unary_symbol, binary_mark, assign_mark, access_mark, step_mark}
use Rattle.pw_tree.specs.Trees.{Word, Expr, Decl, Label, CaseLabel, DefaultLabel, NameLabel, Stmt, Compound, Expression, Empty, If, Switch, While, Do, For, Goto, Continue, Break, Return, Alternative, NoElse, Otherwise, ElseIf, Block, Braced, Stmts, NoStmt, Next}
use Rattle.pw_tree.specs.WellFormed.{WellFormed, WellFormedOptional, WellFormedLabel, WellFormedLabels, NotLabeled, NotIf, ends_open, alternative_ends_open, MayPrecede, WellFormedStmt, WellFormedAlternative, WellFormedBlock, WellFormedStmts}
use Rattle.pw_token.specs.declared.symbol.Keyword.{Keyword}
use Rattle.pw_token.specs.declared.symbol.Keyword.TheVariants as k
use Rattle.pw_token.specs.declared.symbol.Mark.{Mark}
use Rattle.pw_token.specs.declared.symbol.Mark.TheVariants as m
use Rattle.pw_parse_grammar.specs.Input.{Input, first_of_rest, ahead, is_none_left, at_end, step_to, step, same_mark, same_keyword, is_mark, is_keyword, sees, sees_keyword, or_false, Outcome, Parser, and_then, ◌>>=◌, ◌>>◌, pure, ◌<$>◌, fault, asks, peek, here, skip, take_number, word, past, past_keyword, eat, eat_keyword, expect, expect_keyword, identifier_by, ordinary_by, ordinary, declare_all, leave, since, turns, go_on, repeat, list_of, turn_of, while_some, turn_with, one_or_more, unless_comma, Binding}
use Rattle.pw_parse_grammar.specs.Input as input
use Rattle.pw_parse_grammar.specs.Input.{More, Last}
use Rattle.pw_parse_grammar.specs.Declarations.{parts, declarations}
use Rattle.pw_parse_grammar.specs.Statements.{default_label, name_label, empty_stmt, goto_stmt, continue_stmt, break_stmt, before_label, with_labels, case_label, label_by, label, labels, expression_stmt, up_to, return_stmt, condition, else_if, behind_else, alternative, alternatives, if_stmt, switch_stmt, while_stmt, do_stmt, for_stmt, stmt_next, stmts, block, compound_by, compound, unlabeled_by, unlabeled, stmt_of, stmt}
use Rattle.pw_parse_grammar.proofs.Trees.Base.{names_of, true_is_not_false, left}
use Rattle.pw_parse_grammar.proofs.Trees.Spreads.{spreads-decls}
use Rattle.pw_parse_grammar.proofs.Written.Statements.{after_stmts, spreads-stmts}
use Rattle.pw_parse_grammar.proofs.Sound.Base.{Post, bind, choose_parser, Reads, nothing, both, token, word_sign, expected, expected_keyword, eaten, eaten_keyword}
use Rattle.pw_parse_grammar.proofs.Sound.Lists.{IsItem, Before, IsTurn, repeat-sound, while-sound}
use Rattle.pw_parse_grammar.proofs.Sound.Primaries.{identifier-sound}
use Rattle.pw_parse_grammar.proofs.Sound.Parameters.{scoped}
use Rattle.pw_parse_grammar.proofs.Sound.Knot.{parts-sound}
use Rattle.pw_parse_grammar.proofs.Sound.Declarations.{IsDecls, declarations-sound}

-- a statement from i to j
pub record IsStmt (env : Env) (i : Input) (s : Stmt) (j : Input) : Type 0 where
  pub reads : Reads i j (after_stmt env s) (spell_stmt s)
  pub holds : WellFormedStmt env s
  pub numbered : NumberedStmt i.next s
  -- no `else` stands behind an `if` that could have it
  pub closed : ends_open s ≡ true → sees_keyword k.Else j ≡ false
  pub no_if : sees_keyword k.If i ≡ false → NotIf s

abbrev pub SoundStmt : Parser Stmt → Type 0
SoundStmt p = (env : Env) (i : Input) → i.names ≡ names_of env → Post (IsStmt env i) (p i)

abbrev pub IsUnlabeled : Env → Input → Stmt → Input → Type 0
IsUnlabeled env i s j = IsStmt env i s j × NotLabeled s

-- ---- 6.6.1

pub record IsLabel (env : Env) (i : Input) (l : Label) (j : Input) : Type 0 where
  pub reads : Reads i j (after_label env l) (spell_label l)
  pub holds : WellFormedLabel env l
  pub numbered : NumberedLabel i.next l

pub record IsLabels (env : Env) (i : Input) (ls : List Label) (j : Input) : Type 0 where
  pub reads : Reads i j (after_labels env ls) (spell_labels ls)
  pub holds : WellFormedLabels env ls
  pub numbered : NumberedLabels i.next ls

no_labels : (env : Env) (i : Input) → i.names ≡ names_of env → IsLabels env i [] i
no_labels env i names = record { reads = nothing i env names; holds = tt; numbered = tt }

label-before : (env : Env) (i : Input) (l : Label) (j : Input) → IsLabel env i l j → IsItem IsLabels [] env i (before_label l) j
label-before env i l j q = (
  after_label env l,
  q.reads.names,
  λ ls k r. record {
    reads = both q.reads r.reads;
    holds = (q.holds, r.holds);
    numbered = (q.numbered, subst (λ v. NumberedLabels v ls) q.reads.next r.numbered);
  },
)

default-sound : (env : Env) (i : Input) → ahead i ≡ Some (Reserved k.Default) → i.names ≡ names_of env → Post (IsLabel env i) (default_label i)
unfolding default_label
default-sound env i h names =
    let t = token i env (Reserved k.Default) h names in
    expected _ (step i) env m.Colon (pure (DefaultLabel i.next)) t.names (λ j c. record { reads = both t c; holds = tt; numbered = refl })

name_label-sound : (env : Env) (i : Input) (x : List ℕ) → ahead i ≡ Some (symbol.Identifier x) → i.names ≡ names_of env → Post (IsLabel env i) (name_label x i)
unfolding name_label
name_label-sound env i x h names =
    let t = token i env (symbol.Identifier x) h names in
    let w : Word = record { token = i.next; text = x } in
    expected _ (step i) env m.Colon (pure (NameLabel w)) t.names (λ j c. record { reads = both t c; holds = tt; numbered = refl })

module _ (limit : ℕ) where
  case-sound : (env : Env) (i : Input) → ahead i ≡ Some (Reserved k.Case) → i.names ≡ names_of env → Post (IsLabel env i) (case_label limit i)
  unfolding case_label
  case-sound env i h names =
      let t = token i env (Reserved k.Case) h names in
      bind _ ((parts limit).expr 14 (step i)) (λ e. expect m.Colon >> pure (CaseLabel i.next e)) ((parts-sound limit).expr 14 (omega arith) env (step i) t.names) (λ e y q.
      expected _ y (after_expr env e) m.Colon (pure (CaseLabel i.next e)) q.reads.names (λ j c. record {
        reads = both t (both q.reads c);
        holds = (q.low, q.holds);
        numbered = (refl, subst (λ v. Numbered v e) t.next q.numbered);
      }))

  label-by : (env : Env) (i : Input) → i.names ≡ names_of env → (s : Option Symbol) → ahead i ≡ s → Post (IsItem IsLabels [] env i) (label_by limit s i)
  label-by env i names (Some (Reserved k.Case)) h = bind _ (case_label limit i) (λ l. pure (before_label l)) (case-sound env i h names) (label-before env i)
  label-by env i names (Some (Reserved k.Default)) h = bind _ (default_label i) (λ l. pure (before_label l)) (default-sound env i h names) (label-before env i)
  label-by env i names (Some (symbol.Identifier x)) h = choose_parser _ (sees m.Colon (step i) || input.is_typedef_name i x) (before_label <$> name_label x) (pure None) i
      (λ _. bind _ (name_label x i) (λ l. pure (before_label l)) (name_label-sound env i x h names) (label-before env i))
      (λ _. no_labels env i names)
  label-by env i names None h = no_labels env i names
  label-by env i names (Some _) h = no_labels env i names

  label-sound : (env : Env) (i : Input) → i.names ≡ names_of env → Post (IsItem IsLabels [] env i) (label limit i)
  unfolding label
  label-sound env i names = label-by env i names (ahead i) refl

  labels-sound : (env : Env) (i : Input) → i.names ≡ names_of env → Post (IsLabels env i) (labels limit i)
  unfolding labels
  labels-sound env i names = while-sound IsLabels [] (label limit) label-sound env i names

  -- ---- 6.6.3, 6.6.6

  expression-sound : (env : Env) (i : Input) → i.names ≡ names_of env → Post (IsUnlabeled env i) (expression_stmt limit i)
  unfolding expression_stmt spell_stmt after_stmt WellFormedStmt NumberedStmt
  expression-sound env i names = bind _ ((parts limit).expr 16 i) (λ e. expect m.Semicolon >> pure (Expression e)) ((parts-sound limit).expr 16 (omega arith) env i names) (λ e y q.
      expected _ y (after_expr env e) m.Semicolon (pure (Expression e)) q.reads.names (λ j c.
      (record { reads = both q.reads c; holds = q.holds; numbered = q.numbered; closed = λ h. true_is_not_false h; no_if = λ _. tt }, tt)))

  -- an expression or none, and the mark behind it
  pub record IsUpTo (end : Mark) (env : Env) (i : Input) (e : Option Expr) (j : Input) : Type 0 where
    pub reads : Reads i j (after_optional env e) (λ z. spell_optional e (Sign end ∷ z))
    pub past : j.next ≡ past_optional i.next e + 1
    pub holds : WellFormedOptional env e
    pub numbered : NumberedOptional i.next e

  up_to-sound : (end : Mark) (env : Env) (i : Input) → i.names ≡ names_of env → Post (IsUpTo end env i) (up_to limit end i)
  unfolding up_to
  up_to-sound end env i names = eaten _ i env end (pure None) ((parts limit).expr 16 >>= λ e. expect end >> pure (Some e)) names
      (λ j c. record { reads = c; past = omega (arith, c.next); holds = tt; numbered = tt })
      (λ _. bind _ ((parts limit).expr 16 i) (λ e. expect end >> pure (Some e)) ((parts-sound limit).expr 16 (omega arith) env i names) (λ e y q.
      expected _ y (after_expr env e) end (pure (Some e)) q.reads.names (λ j c. record { reads = both q.reads c; past = omega (arith, q.reads.next, c.next); holds = q.holds; numbered = q.numbered })))

  -- an expression in parentheses
  pub record IsCondition (env : Env) (i : Input) (e : Expr) (j : Input) : Type 0 where
    pub reads : Reads i j (after_expr env e) (λ z. Sign m.OpenParen ∷ spell_expr e (Sign m.CloseParen ∷ z))
    pub past : j.next ≡ past_expr (i.next + 1) e + 1
    pub holds : WellFormed env e
    pub numbered : Numbered (i.next + 1) e

  condition-sound : (env : Env) (i : Input) → i.names ≡ names_of env → Post (IsCondition env i) (condition limit i)
  unfolding condition
  condition-sound env i names = expected _ i env m.OpenParen ((parts limit).expr 16 >>= λ e. expect m.CloseParen >> pure e) names (λ x t.
      bind _ ((parts limit).expr 16 x) (λ e. expect m.CloseParen >> pure e) ((parts-sound limit).expr 16 (omega arith) env x t.names) (λ e y q.
      expected _ y (after_expr env e) m.CloseParen (pure e) q.reads.names (λ j c. record {
        reads = both t (both q.reads c);
        past = omega (arith, t.next, q.reads.next, c.next);
        holds = q.holds;
        numbered = subst (λ v. Numbered v e) t.next q.numbered;
      })))

-- ---- 6.6.4.1

-- what stands behind the statement of an `if`
pub record IsAlternative (env : Env) (i : Input) (a : Alternative) (j : Input) : Type 0 where
  pub reads : Reads i j (after_alternative env a) (spell_alternative a)
  pub holds : WellFormedAlternative env a
  pub numbered : NumberedAlternative i.next a
  pub closed : alternative_ends_open a ≡ true → sees_keyword k.Else j ≡ false
  pub precedes : (s : Stmt) → (ends_open s ≡ true → sees_keyword k.Else i ≡ false) → MayPrecede s a

pub not_open : (b c : Bool) → (b ≡ true → c ≡ false) → c ≡ true → b ≡ false
not_open false c f h = refl
not_open true c f h = true_is_not_false (sym (f refl) ∙ h)

-- ---- blocks

-- the names before a block
around_block : (env : Env) (ds : List Decl) (ss : Stmts) (a b : List Binding) → a ≡ names_of env → b ≡ names_of (after_stmts (after_decls env ds) ss) → take (length a) b ≡ names_of env
around_block env ds ss a b e f =
    ap (λ v. take (length v) b) e
    ∙ ap (λ v. take (length (names_of env)) v) (f ∙ ap (λ v. names_of (after_stmts v ss)) (spreads-decls [] env ds) ∙ ap names_of (spreads-stmts (after_decls [] ds) env ss))
    ∙ left (after_stmts (after_decls [] ds) ss) env

same_keyword_ahead : (w : Keyword) (i x : Input) → i.rest ≡ x.rest → sees_keyword w x ≡ sees_keyword w i
unfolding sees_keyword ahead
same_keyword_ahead w i x e = ap (λ v. is_keyword w (first_of_rest v)) (sym e)

module _ (limit : ℕ) (p : Parser Stmt) (sound : SoundStmt p) where
  else_if-whole : (env : Env) (i x y u v j : Input) (c : Expr) (s : Stmt) (a : Alternative) → sees_keyword k.Else i ≡ true → Reads i x env (λ z. Reserved k.Else ∷ z) → Reads x y env (λ z. Reserved k.If ∷ z) → IsCondition limit env y c u → IsStmt (after_expr env c) u s v
      → IsAlternative (after_stmt (after_expr env c) s) v a j → IsAlternative env i (ElseIf x.next c s a) j
  unfolding spell_stmt after_stmt WellFormedStmt NumberedStmt
  else_if-whole env i x y u v j c s a h t t2 q r w = record {
    reads = both t (both t2 (both q.reads (both r.reads w.reads)));
    holds = (q.holds, r.holds, w.precedes s r.closed, w.holds);
    numbered = (
      t.next,
      subst (λ n. Numbered n c) (omega (arith, t.next, t2.next)) q.numbered,
      subst (λ n. NumberedStmt n s) (omega (arith, t.next, t2.next, q.past)) r.numbered,
      subst (λ n. NumberedAlternative n a) (omega (arith, t.next, t2.next, q.past, r.reads.next)) w.numbered,
    );
    closed = w.closed;
    precedes = λ s f. not_open (ends_open s) (sees_keyword k.Else i) f h;
  }

  otherwise-whole : (env : Env) (i x j : Input) (s : Stmt) → sees_keyword k.Else i ≡ true → Reads i x env (λ z. Reserved k.Else ∷ z) → sees_keyword k.If x ≡ false → IsStmt env x s j → IsAlternative env i (Otherwise s) j
  unfolding spell_stmt after_stmt WellFormedStmt NumberedStmt
  otherwise-whole env i x j s h t none q = record {
    reads = both t q.reads;
    holds = (q.no_if none, q.holds);
    numbered = subst (λ n. NumberedStmt n s) t.next q.numbered;
    closed = q.closed;
    precedes = λ s f. not_open (ends_open s) (sees_keyword k.Else i) f h;
  }

  no_else : (env : Env) (i : Input) → sees_keyword k.Else i ≡ false → i.names ≡ names_of env → IsAlternative env i NoElse i
  unfolding spell_stmt after_stmt WellFormedStmt NumberedStmt
  no_else env i h names = record { reads = nothing i env names; holds = tt; numbered = tt; closed = λ _. h; precedes = λ s f. tt }

  else_if-sound : (env : Env) (i x : Input) → sees_keyword k.Else i ≡ true → Reads i x env (λ z. Reserved k.Else ∷ z) → sees_keyword k.If x ≡ true → Post (Before IsAlternative env i) (else_if limit p x)
  unfolding else_if
  else_if-sound env i x h t is_if =
      let t2 = word_sign x env k.If is_if t.names in
      bind _ (condition limit (step x)) (λ c. p >>= λ s. pure (ElseIf x.next c s)) (condition-sound limit env (step x) t2.names) (λ c u q.
      bind _ (p u) (λ s. pure (ElseIf x.next c s)) (sound (after_expr env c) u q.reads.names) (λ s v r.
      (after_stmt (after_expr env c) s, r.reads.names, λ a j w. else_if-whole env i x (step x) u v j c s a h t t2 q r w)))

  alternative-sound : (env : Env) (i : Input) → i.names ≡ names_of env → Post (IsTurn IsAlternative env i) (alternative limit p i)
  unfolding alternative behind_else
  alternative-sound env i names = eaten_keyword _ i env k.Else (input.asks (sees_keyword k.If) >>= λ is_if. if is_if then More <$> else_if limit p else (λ s. Last (Otherwise s)) <$> p) (pure (Last NoElse)) names
      (λ x t h. choose_parser _ (sees_keyword k.If x) (More <$> else_if limit p) ((λ s. Last (Otherwise s)) <$> p) x
      (λ is_if. bind _ (else_if limit p x) (λ f. pure (More f)) (else_if-sound env i x h t is_if) (λ f j q. q))
      (λ none. bind _ (p x) (λ s. pure (Last (Otherwise s))) (sound env x t.names) (λ s j q. otherwise-whole env i x j s h t none q)))
      (λ h. no_else env i h names)

  alternatives-sound : (env : Env) (i : Input) → i.names ≡ names_of env → Post (IsAlternative env i) (alternatives limit p i)
  unfolding alternatives
  alternatives-sound env i names = repeat-sound IsAlternative (alternative limit p) alternative-sound (turns i) env i names

  if-sound : (env : Env) (i : Input) → ahead i ≡ Some (Reserved k.If) → i.names ≡ names_of env → Post (IsUnlabeled env i) (if_stmt limit p i)
  unfolding if_stmt spell_stmt after_stmt WellFormedStmt NumberedStmt sees_keyword same_keyword
  if-sound env i h names =
      let t = token i env (Reserved k.If) h names in
      bind _ (condition limit (step i)) (λ c. p >>= λ s. alternatives limit p >>= λ a. pure (If i.next c s a)) (condition-sound limit env (step i) t.names) (λ c u q.
      bind _ (p u) (λ s. alternatives limit p >>= λ a. pure (If i.next c s a)) (sound (after_expr env c) u q.reads.names) (λ s v r.
      bind _ (alternatives limit p v) (λ a. pure (If i.next c s a)) (alternatives-sound (after_stmt (after_expr env c) s) v r.reads.names) (λ a j w. (
        record {
          reads = both t (both q.reads (both r.reads w.reads));
          holds = (q.holds, r.holds, w.precedes s r.closed, w.holds);
          numbered = (
            refl,
            subst (λ n. Numbered n c) (omega (arith, t.next)) q.numbered,
            subst (λ n. NumberedStmt n s) (omega (arith, t.next, q.past)) r.numbered,
            subst (λ n. NumberedAlternative n a) (omega (arith, t.next, q.past, r.reads.next)) w.numbered,
          );
          closed = w.closed;
          no_if = λ f. true_is_not_false (sym f ∙ ap (is_keyword k.If) h);
        },
        tt,
      ))))

  -- ---- 6.6.4.2, 6.6.5

  switch-sound : (env : Env) (i : Input) → ahead i ≡ Some (Reserved k.Switch) → i.names ≡ names_of env → Post (IsUnlabeled env i) (switch_stmt limit p i)
  unfolding switch_stmt spell_stmt after_stmt WellFormedStmt NumberedStmt
  switch-sound env i h names =
      let t = token i env (Reserved k.Switch) h names in
      bind _ (condition limit (step i)) (λ c. p >>= λ s. pure (Switch i.next c s)) (condition-sound limit env (step i) t.names) (λ c u q.
      bind _ (p u) (λ s. pure (Switch i.next c s)) (sound (after_expr env c) u q.reads.names) (λ s j r. (
        record {
          reads = both t (both q.reads r.reads);
          holds = (q.holds, r.holds);
          numbered = (refl, subst (λ n. Numbered n c) (omega (arith, t.next)) q.numbered, subst (λ n. NumberedStmt n s) (omega (arith, t.next, q.past)) r.numbered);
          closed = r.closed;
          no_if = λ _. tt;
        },
        tt,
      )))

  while-sound-stmt : (env : Env) (i : Input) → ahead i ≡ Some (Reserved k.While) → i.names ≡ names_of env → Post (IsUnlabeled env i) (while_stmt limit p i)
  unfolding while_stmt spell_stmt after_stmt WellFormedStmt NumberedStmt
  while-sound-stmt env i h names =
      let t = token i env (Reserved k.While) h names in
      bind _ (condition limit (step i)) (λ c. p >>= λ s. pure (While i.next c s)) (condition-sound limit env (step i) t.names) (λ c u q.
      bind _ (p u) (λ s. pure (While i.next c s)) (sound (after_expr env c) u q.reads.names) (λ s j r. (
        record {
          reads = both t (both q.reads r.reads);
          holds = (q.holds, r.holds);
          numbered = (refl, subst (λ n. Numbered n c) (omega (arith, t.next)) q.numbered, subst (λ n. NumberedStmt n s) (omega (arith, t.next, q.past)) r.numbered);
          closed = r.closed;
          no_if = λ _. tt;
        },
        tt,
      )))

  do-sound : (env : Env) (i : Input) → ahead i ≡ Some (Reserved k.Do) → i.names ≡ names_of env → Post (IsUnlabeled env i) (do_stmt limit p i)
  unfolding do_stmt spell_stmt after_stmt WellFormedStmt NumberedStmt
  do-sound env i h names =
      let t = token i env (Reserved k.Do) h names in
      bind _ (p (step i)) (λ s. expect_keyword k.While >> (condition limit >>= λ c. expect m.Semicolon >> pure (Do i.next s c))) (sound env (step i) t.names) (λ s u q.
      expected_keyword _ u (after_stmt env s) k.While (condition limit >>= λ c. expect m.Semicolon >> pure (Do i.next s c)) q.reads.names (λ v w.
      bind _ (condition limit v) (λ c. expect m.Semicolon >> pure (Do i.next s c)) (condition-sound limit (after_stmt env s) v w.names) (λ c x r.
      expected _ x (after_expr (after_stmt env s) c) m.Semicolon (pure (Do i.next s c)) r.reads.names (λ j d. (
        record {
          reads = both t (both q.reads (both w (both r.reads d)));
          holds = (q.holds, r.holds);
          numbered = (refl, subst (λ n. NumberedStmt n s) t.next q.numbered, subst (λ n. Numbered n c) (omega (arith, t.next, q.reads.next, w.next)) r.numbered);
          closed = λ f. true_is_not_false f;
          no_if = λ _. tt;
        },
        tt,
      )))))

  -- ---- 6.6

  -- what holds of statements that hold no others
  simple : (env : Env) (i : Input) (s : Stmt) (j : Input) → ends_open s ≡ false → NotIf s → NotLabeled s → Reads i j (after_stmt env s) (spell_stmt s) → WellFormedStmt env s → NumberedStmt i.next s → IsUnlabeled env i s j
  simple env i s j never no_if no_label reads holds numbered = (record { reads = reads; holds = holds; numbered = numbered; closed = λ f. true_is_not_false (sym never ∙ f); no_if = λ _. no_if }, no_label)

  for-sound : (env : Env) (i : Input) → ahead i ≡ Some (Reserved k.For) → i.names ≡ names_of env → Post (IsUnlabeled env i) (for_stmt limit p i)
  unfolding for_stmt spell_stmt after_stmt WellFormedStmt NumberedStmt
  for-sound env i h names =
      let t = token i env (Reserved k.For) h names in
      expected _ (step i) env m.OpenParen (up_to limit m.Semicolon >>= λ a. up_to limit m.Semicolon >>= λ b. up_to limit m.CloseParen >>= λ c. p >>= λ s. pure (For i.next a b c s)) t.names (λ i1 o.
      bind _ (up_to limit m.Semicolon i1) (λ a. up_to limit m.Semicolon >>= λ b. up_to limit m.CloseParen >>= λ c. p >>= λ s. pure (For i.next a b c s)) (up_to-sound limit m.Semicolon env i1 o.names) (λ a i2 qa.
      bind _ (up_to limit m.Semicolon i2) (λ b. up_to limit m.CloseParen >>= λ c. p >>= λ s. pure (For i.next a b c s)) (up_to-sound limit m.Semicolon (after_optional env a) i2 qa.reads.names) (λ b i3 qb.
      bind _ (up_to limit m.CloseParen i3) (λ c. p >>= λ s. pure (For i.next a b c s)) (up_to-sound limit m.CloseParen (after_optional (after_optional env a) b) i3 qb.reads.names) (λ c i4 qc.
      bind _ (p i4) (λ s. pure (For i.next a b c s)) (sound (after_optional (after_optional (after_optional env a) b) c) i4 qc.reads.names) (λ s j r. (
        record {
          reads = both t (both o (both qa.reads (both qb.reads (both qc.reads r.reads))));
          holds = (qa.holds, qb.holds, qc.holds, r.holds);
          numbered = (
            refl,
            subst (λ n. NumberedOptional n a) (omega (arith, t.next, o.next)) qa.numbered,
            subst (λ n. NumberedOptional n b) (omega (arith, t.next, o.next, qa.past)) qb.numbered,
            subst (λ n. NumberedOptional n c) (omega (arith, t.next, o.next, qa.past, qb.past)) qc.numbered,
            subst (λ n. NumberedStmt n s) (omega (arith, t.next, o.next, qa.past, qb.past, qc.past)) r.numbered,
          );
          closed = r.closed;
          no_if = λ _. tt;
        },
        tt,
      ))))))

  -- ---- statements of one word

  empty-sound : (env : Env) (i : Input) → ahead i ≡ Some (Sign m.Semicolon) → i.names ≡ names_of env → Post (IsUnlabeled env i) (empty_stmt i)
  unfolding empty_stmt spell_stmt after_stmt WellFormedStmt NumberedStmt
  empty-sound env i h names = simple env i (Empty i.next) (step i) refl tt tt (token i env (Sign m.Semicolon) h names) tt refl

  goto-sound : (env : Env) (i : Input) → ahead i ≡ Some (Reserved k.Goto) → i.names ≡ names_of env → Post (IsUnlabeled env i) (goto_stmt i)
  unfolding goto_stmt spell_stmt after_stmt WellFormedStmt NumberedStmt
  goto-sound env i h names =
      let t = token i env (Reserved k.Goto) h names in
      bind _ (input.identifier (step i)) (λ w. expect m.Semicolon >> pure (Goto i.next w)) (identifier-sound env (step i) t.names) (λ w y q.
      expected _ y env m.Semicolon (pure (Goto i.next w)) q.reads.names (λ j c. simple env i (Goto i.next w) j refl tt tt (both t (both q.reads c)) tt (refl, q.numbered ∙ t.next)))

  continue-sound : (env : Env) (i : Input) → ahead i ≡ Some (Reserved k.Continue) → i.names ≡ names_of env → Post (IsUnlabeled env i) (continue_stmt i)
  unfolding continue_stmt spell_stmt after_stmt WellFormedStmt NumberedStmt
  continue-sound env i h names =
      let t = token i env (Reserved k.Continue) h names in
      expected _ (step i) env m.Semicolon (pure (Continue i.next)) t.names (λ j c. simple env i (Continue i.next) j refl tt tt (both t c) tt refl)

  break-sound : (env : Env) (i : Input) → ahead i ≡ Some (Reserved k.Break) → i.names ≡ names_of env → Post (IsUnlabeled env i) (break_stmt i)
  unfolding break_stmt spell_stmt after_stmt WellFormedStmt NumberedStmt
  break-sound env i h names =
      let t = token i env (Reserved k.Break) h names in
      expected _ (step i) env m.Semicolon (pure (Break i.next)) t.names (λ j c. simple env i (Break i.next) j refl tt tt (both t c) tt refl)

  return-sound : (env : Env) (i : Input) → ahead i ≡ Some (Reserved k.Return) → i.names ≡ names_of env → Post (IsUnlabeled env i) (return_stmt limit i)
  unfolding return_stmt spell_stmt after_stmt WellFormedStmt NumberedStmt
  return-sound env i h names =
      let t = token i env (Reserved k.Return) h names in
      bind _ (up_to limit m.Semicolon (step i)) (λ e. pure (Return i.next e)) (up_to-sound limit m.Semicolon env (step i) t.names) (λ e j q.
      simple env i (Return i.next e) j refl tt tt (both t q.reads) q.holds (refl, subst (λ n. NumberedOptional n e) t.next q.numbered))

  -- ---- 6.6.2

  -- statements from i to j
  pub record IsStmts (env : Env) (i : Input) (ss : Stmts) (j : Input) : Type 0 where
    pub reads : Reads i j (after_stmts env ss) (spell_stmts ss)
    pub holds : WellFormedStmts env ss
    pub numbered : NumberedStmts i.next ss

  stmt_next-sound : (env : Env) (i : Input) → i.names ≡ names_of env → Post (IsItem IsStmts NoStmt env i) (stmt_next limit p i)
  unfolding stmt_next spell_stmt after_stmt WellFormedStmt NumberedStmt
  stmt_next-sound env i names = choose_parser _ (sees m.CloseBrace i) (pure None) ((λ s. Some (Next s)) <$> p) i
      (λ _. record { reads = nothing i env names; holds = tt; numbered = tt })
      (λ _. bind _ (p i) (λ s. pure (Some (Next s))) (sound env i names) (λ s j q. (
        after_stmt env s,
        q.reads.names,
        λ ss end r. record {
          reads = both q.reads r.reads;
          holds = (q.holds, r.holds);
          numbered = (q.numbered, subst (λ n. NumberedStmts n ss) q.reads.next r.numbered);
        },
      )))

  stmts-sound : (env : Env) (i : Input) → i.names ≡ names_of env → Post (IsStmts env i) (stmts limit p i)
  unfolding stmts
  stmts-sound env i names = while-sound IsStmts NoStmt (stmt_next limit p) stmt_next-sound env i names

  -- a block from i to j
  pub record IsBlock (env : Env) (i : Input) (b : Block) (j : Input) : Type 0 where
    pub reads : Reads i j env (spell_block b)
    pub holds : WellFormedBlock env b
    pub numbered : NumberedBlock i.next b

  block-whole : (env : Env) (i x y u j : Input) (ds : List Decl) (ss : Stmts) → Reads i x env (λ z. Sign m.OpenBrace ∷ z) → IsDecls env x ds y → IsStmts (after_decls env ds) y ss u → Reads u j env (λ z. Sign m.CloseBrace ∷ z) → IsBlock env i (Braced i.next ds ss) j
  unfolding spell_stmt WellFormedStmt NumberedStmt
  block-whole env i x y u j ds ss t q r c = record {
    reads = both t (both q.reads (both r.reads c));
    holds = (q.holds, r.holds);
    numbered = (refl, subst (λ n. NumberedDecls n ds) t.next q.numbered, subst (λ n. NumberedStmts n ss) (omega (arith, t.next, q.reads.next)) r.numbered);
  }

  pub block-sound : (env : Env) (i : Input) → i.names ≡ names_of env → Post (IsBlock env i) (block limit p i)
  unfolding block
  block-sound env i names = expected _ i env m.OpenBrace (input.mark >>= λ outer. declarations limit true >>= λ ds. stmts limit p >>= λ ss. expect m.CloseBrace >> (input.leave outer >> pure (Braced i.next ds ss))) names (λ x t.
      let outer = length x.names in
      bind _ (declarations limit true x) (λ ds. stmts limit p >>= λ ss. expect m.CloseBrace >> (input.leave outer >> pure (Braced i.next ds ss))) (declarations-sound limit true env x t.names) (λ ds y q.
      bind _ (stmts limit p y) (λ ss. expect m.CloseBrace >> (input.leave outer >> pure (Braced i.next ds ss))) (stmts-sound (after_decls env ds) y q.reads.names) (λ ss u r.
      expected _ u (after_stmts (after_decls env ds) ss) m.CloseBrace (input.leave outer >> pure (Braced i.next ds ss)) r.reads.names (λ v c.
      block-whole env i x y u (record v { names = take outer v.names }) ds ss t q r (scoped (take outer v.names) c (around_block env ds ss x.names v.names t.names c.names))))))

  block-stmt : (env : Env) (i : Input) (b : Block) (j : Input) → IsBlock env i b j → IsUnlabeled env i (Compound b) j
  unfolding spell_stmt after_stmt WellFormedStmt NumberedStmt
  block-stmt env i b j q = simple env i (Compound b) j refl tt tt q.reads q.holds q.numbered

  -- ---- 6.6

  compound-by : (env : Env) (i : Input) → i.names ≡ names_of env → (s : Option Symbol) → ahead i ≡ s → Post (IsUnlabeled env i) (compound_by limit p s i)
  compound-by env i names (Some (Reserved k.If)) h = if-sound env i h names
  compound-by env i names (Some (Reserved k.Switch)) h = switch-sound env i h names
  compound-by env i names (Some (Reserved k.While)) h = while-sound-stmt env i h names
  compound-by env i names (Some (Reserved k.Do)) h = do-sound env i h names
  compound-by env i names (Some (Reserved k.For)) h = for-sound env i h names
  compound-by env i names None h = expression-sound limit env i names
  compound-by env i names (Some _) h = expression-sound limit env i names

  compound-sound : (env : Env) (i : Input) → i.names ≡ names_of env → Post (IsUnlabeled env i) (compound limit p i)
  unfolding compound
  compound-sound env i names = compound-by env i names (ahead i) refl

  unlabeled-by : (env : Env) (i : Input) → i.names ≡ names_of env → (s : Option Symbol) → ahead i ≡ s → Post (IsUnlabeled env i) (unlabeled_by limit p s i)
  unlabeled-by env i names (Some (Sign m.OpenBrace)) h = bind _ (block limit p i) (λ b. pure (Compound b)) (block-sound env i names) (block-stmt env i)
  unlabeled-by env i names (Some (Sign m.Semicolon)) h = empty-sound env i h names
  unlabeled-by env i names (Some (Reserved k.Goto)) h = goto-sound env i h names
  unlabeled-by env i names (Some (Reserved k.Continue)) h = continue-sound env i h names
  unlabeled-by env i names (Some (Reserved k.Break)) h = break-sound env i h names
  unlabeled-by env i names (Some (Reserved k.Return)) h = return-sound env i h names
  unlabeled-by env i names None h = compound-sound env i names
  unlabeled-by env i names (Some _) h = compound-sound env i names

  unlabeled-sound : (env : Env) (i : Input) → i.names ≡ names_of env → Post (IsUnlabeled env i) (unlabeled limit p i)
  unfolding unlabeled
  unlabeled-sound env i names = unlabeled-by env i names (ahead i) refl

  labeled-whole : (env : Env) (i x j : Input) (ls : List Label) (s : Stmt) → IsLabels env i ls x → IsUnlabeled (after_labels env ls) x s j → IsStmt env i (with_labels ls s) j
  unfolding spell_stmt after_stmt WellFormedStmt NumberedStmt
  labeled-whole env i x j [] s q r = record {
    reads = both q.reads r.0.reads;
    holds = r.0.holds;
    numbered = subst (λ n. NumberedStmt n s) (omega (arith, q.reads.next)) r.0.numbered;
    closed = r.0.closed;
    no_if = λ f. r.0.no_if (same_keyword_ahead k.If i x q.reads.text ∙ f);
  }
  labeled-whole env i x j (l ∷ ls) s q r = record {
    reads = both q.reads r.0.reads;
    holds = (tt, q.holds, r.1, r.0.holds);
    numbered = (q.numbered, subst (λ n. NumberedStmt n s) q.reads.next r.0.numbered);
    closed = r.0.closed;
    no_if = λ _. tt;
  }

  stmt_of-sound : SoundStmt (stmt_of limit p)
  unfolding stmt_of
  stmt_of-sound env i names =
      bind _ (labels limit i) (λ ls. unlabeled limit p >>= λ s. pure (with_labels ls s)) (labels-sound limit env i names) (λ ls x q.
      bind _ (unlabeled limit p x) (λ s. pure (with_labels ls s)) (unlabeled-sound (after_labels env ls) x q.reads.names) (λ s j r.
      labeled-whole env i x j ls s q r))

pub stmt-sound : (limit depth : ℕ) → SoundStmt (stmt limit depth)
unfolding stmt
stmt-sound limit zero env i names = tt
stmt-sound limit (suc depth) env i names = stmt_of-sound limit (stmt limit depth) (stmt-sound limit depth) env i names
