-- Statements leave a lawful state.
use Rattle.std.specs.Prelude.{ℕ, Option, None, Some, List, [], ◌∷◌, refl}
use Rattle.pw_tree.specs.Trees.{Word, Expr, Stmt, Alternative, Block, Stmts, Label}
use Rattle.pw_tree.specs.Trees as S
use Rattle.pw_tree.specs.FirstTokens.{first_of_expr}
use Rattle.pw_types.specs.TypedTrees.{Expression, Statement}
use Rattle.pw_check_walk.specs.Walks.{bind}
use Rattle.pw_check_rules.specs.States.{State, Rule, one_deeper}
use Rattle.pw_check_rules.specs.Statements.{new_label, case_rule, inside_switch, default_rule, name_label_rule, label_rule, labels_rule, whole_rule, optional_rule, condition_rule, optional_condition, switch_rule, in_switch, in_loop, return_rule, stmt_rule, alternative_rule, block_rule, stmts_rule}
use Rattle.pw_law_checked.specs.Lawful.{IsLawful}
use Rattle.pw_law_checked.proofs.States.{Fine, FineValue}
use Rattle.pw_law_checked.proofs.Changes.{deeper_lawful}
use Rattle.pw_law_checked.proofs.Operations.{value_runs}
use Rattle.pw_law_checked.proofs.Phrases.{expr_post}
use Rattle.pw_law_checked.proofs.Initialisers.{value_goes}
use Rattle.pw_law_checked.proofs.Declarations.{decls_goes}
use Rattle.pw_law_checked.proofs.Declaring.{body_kept}
use Rattle.pw_law_checked.proofs.Bare.{bare_post}
use Rattle.pw_law_checked.proofs.Keeping.{After, after_same, Goes, goes_by, of_runs, from_kept, asked, Anything, scoped_goes}

-- ---- labels

case_goes : (s : State) (first : ℕ) (e : Expression) → IsLawful s → Goes s (case_rule first e s) Anything
unfolding case_rule new_label bind
case_goes s first e l = λ met. let a = body_kept s _ l refl in (a.0, a.1, tt)

inside_goes : (s : State) (t : ℕ) → IsLawful s → Goes s (inside_switch t s) Anything
unfolding inside_switch bind
inside_goes s t l = λ met. (l, after_same s, tt)

default_goes : (s : State) (t : ℕ) → IsLawful s → Goes s (default_rule t s) Anything
unfolding default_rule new_label bind
default_goes s t l = λ met. let a = body_kept s _ l refl in (a.0, a.1, tt)

name_label_goes : (s : State) (w : Word) → IsLawful s → Goes s (name_label_rule w s) Anything
unfolding name_label_rule bind
name_label_goes s w l = λ met. let a = body_kept s _ l refl in (a.0, a.1, tt)

label_goes : (s : State) (label : Label) → IsLawful s → Goes s (label_rule label s) Anything
unfolding label_rule
label_goes s (S.CaseLabel t e) l =
    goes_by _ _ Fine Anything (goes_by _ _ Anything Fine (inside_goes s t l) (λ r m x h. of_runs _ _ Fine (expr_post e r.1 m))) (λ r m x f.
    goes_by _ _ FineValue Anything (of_runs _ _ FineValue (value_runs r.1 r.0 m f)) (λ u n y v. case_goes u.1 (first_of_expr e) u.0 n))
label_goes s (S.DefaultLabel t) l = default_goes s t l
label_goes s (S.NameLabel w) l = name_label_goes s w l

pub labels_goes : (ls : List Label) (s : State) → IsLawful s → Goes s (labels_rule ls s) Anything
unfolding labels_rule
labels_goes [] s l = (l, after_same s, tt)
labels_goes (x ∷ rest) s l =
    goes_by _ _ Anything Anything (label_goes s x l) (λ r m y h.
    goes_by _ _ Anything Anything (labels_goes rest r.1 m) (λ u n z k. (n, after_same u.1, tt)))

-- ---- parts of statements

whole_goes : (s : State) (e : Expr) → IsLawful s → Goes s (whole_rule e s) FineValue
unfolding whole_rule
whole_goes s e l = goes_by _ _ Fine FineValue (of_runs _ _ Fine (expr_post e s l)) (λ r m x f. of_runs _ _ FineValue (value_runs r.1 r.0 m f))

optional_goes : (s : State) (e : Option Expr) → IsLawful s → Goes s (optional_rule e s) Anything
unfolding optional_rule
optional_goes s None l = (l, after_same s, tt)
optional_goes s (Some e) l = goes_by _ _ FineValue Anything (whole_goes s e l) (λ r m x f. (m, after_same r.1, tt))

condition_goes : (s : State) (t : ℕ) (e : Expr) → IsLawful s → Goes s (condition_rule t e s) Anything
unfolding condition_rule bind
condition_goes s t e l = goes_by (whole_rule e s) _ FineValue Anything (whole_goes s e l) (λ r m x f met. (m, after_same r.1, tt))

optional_condition_goes : (s : State) (t : ℕ) (e : Option Expr) → IsLawful s → Goes s (optional_condition t e s) Anything
unfolding optional_condition bind
optional_condition_goes s t e l = goes_by (optional_rule e s) _ Anything Anything (optional_goes s e l) (λ r m x f met. (m, after_same r.1, tt))

switch_goes : (s : State) (t : ℕ) (e : Expr) → IsLawful s → Goes s (switch_rule t e s) Anything
unfolding switch_rule bind
switch_goes s t e l = goes_by (whole_rule e s) _ FineValue Anything (whole_goes s e l) (λ r m x f met. (m, after_same r.1, tt))

pub in_switch_goes : (s : State) (e : Expression) (body : Rule Statement) → IsLawful s → ((t : State) → IsLawful t → Goes t (body t) Anything) → Goes s (in_switch e body s) Anything
unfolding in_switch bind
in_switch_goes s e body l h =
    let a = body_kept s _ l refl in
    from_kept _ Anything a (goes_by (body _) _ Anything Anything (h _ a.0) (λ r m x f. let b = body_kept r.1 _ m refl in (b.0, b.1, tt)))

pub in_loop_goes : (s : State) (body : Rule Statement) → IsLawful s → ((t : State) → IsLawful t → Goes t (body t) Anything) → Goes s (in_loop body s) Anything
unfolding in_loop bind
in_loop_goes s body l h =
    let a = body_kept s _ l refl in
    from_kept _ Anything a (goes_by (body _) _ Anything Anything (h _ a.0) (λ r m x f. let b = body_kept r.1 _ m refl in (b.0, b.1, tt)))

return_goes : (s : State) (t : ℕ) (e : Option Expr) → IsLawful s → Goes s (return_rule t e s) Anything
unfolding return_rule bind
return_goes s t None l = (l, after_same s, tt)
return_goes s t (Some e) l = goes_by (whole_rule e s) _ FineValue Anything (whole_goes s e l) (λ r m x f met. (m, after_same r.1, tt))

-- ---- statements

mutual
  unfolding stmt_rule

  pub stmt_goes : (st : Stmt) (s : State) → IsLawful s → Goes s (stmt_rule st s) Anything
  stmt_goes (S.Compound b) s l = scoped_goes s (block_rule b) l (block_goes b (one_deeper s) (deeper_lawful s l))
  stmt_goes (S.Expression e) s l = value_goes s e _ Anything l (λ r m x f. (m, after_same r.1, tt))
  stmt_goes (S.Labeled ls st) s l =
      goes_by _ _ Anything Anything (labels_goes ls s l) (λ r m x h.
      goes_by _ _ Anything Anything (stmt_goes st r.1 m) (λ u n y k. (n, after_same u.1, tt)))
  stmt_goes (S.If t c st a) s l =
      goes_by _ _ Anything Anything (condition_goes s t c l) (λ r m x h.
      goes_by _ _ Anything Anything (stmt_goes st r.1 m) (λ u n y k.
      goes_by _ _ Anything Anything (alternative_goes a u.1 n) (λ v i z j. (i, after_same v.1, tt))))
  stmt_goes (S.Switch t e st) s l =
      goes_by _ _ Anything Anything (switch_goes s t e l) (λ r m x h.
      goes_by _ _ Anything Anything (in_switch_goes r.1 r.0 (stmt_rule st) m (λ v i. stmt_goes st v i)) (λ u n y k. (n, after_same u.1, tt)))
  stmt_goes (S.While t e st) s l =
      goes_by _ _ Anything Anything (condition_goes s t e l) (λ r m x h.
      goes_by _ _ Anything Anything (in_loop_goes r.1 (stmt_rule st) m (λ v i. stmt_goes st v i)) (λ u n y k. (n, after_same u.1, tt)))
  stmt_goes (S.Do t st e) s l =
      goes_by _ _ Anything Anything (in_loop_goes s (stmt_rule st) l (λ v i. stmt_goes st v i)) (λ r m x h.
      goes_by _ _ Anything Anything (condition_goes r.1 t e m) (λ u n y k. (n, after_same u.1, tt)))
  stmt_goes (S.For t a b c st) s l =
      goes_by _ _ Anything Anything (optional_goes s a l) (λ r m x h.
      goes_by _ _ Anything Anything (optional_condition_goes r.1 t b m) (λ u n y k.
      goes_by _ _ Anything Anything (optional_goes u.1 c n) (λ v i z j.
      goes_by _ _ Anything Anything (in_loop_goes v.1 (stmt_rule st) i (λ q p. stmt_goes st q p)) (λ o p q w. (p, after_same o.1, tt)))))
  stmt_goes (S.Return t e) s l = return_goes s t e l
  stmt_goes st s l = bare_post (λ r. IsLawful r.1 × After s r.1 × Anything r.1 r.0) st refl s (λ b. (l, after_same s, tt))

  pub alternative_goes : (a : Alternative) (s : State) → IsLawful s → Goes s (alternative_rule a s) Anything
  alternative_goes S.NoElse s l = (l, after_same s, tt)
  alternative_goes (S.Otherwise st) s l = goes_by _ _ Anything Anything (stmt_goes st s l) (λ r m x h. (m, after_same r.1, tt))
  alternative_goes (S.ElseIf t c st a) s l =
      goes_by _ _ Anything Anything (condition_goes s t c l) (λ r m x h.
      goes_by _ _ Anything Anything (stmt_goes st r.1 m) (λ u n y k.
      goes_by _ _ Anything Anything (alternative_goes a u.1 n) (λ v i z j. (i, after_same v.1, tt))))

  pub block_goes : (b : Block) (s : State) → IsLawful s → Goes s (block_rule b s) Anything
  block_goes (S.Braced t ds ss) s l =
      asked s _ _ Anything
      (goes_by _ _ Anything Anything (decls_goes ds s l) (λ r m x h.
      asked r.1 _ _ Anything
      (goes_by _ _ Anything Anything (stmts_goes ss r.1 m) (λ u n y k. (n, after_same u.1, tt)))))

  pub stmts_goes : (ss : Stmts) (s : State) → IsLawful s → Goes s (stmts_rule ss s) Anything
  stmts_goes S.NoStmt s l = (l, after_same s, tt)
  stmts_goes (S.Next st rest) s l =
      goes_by _ _ Anything Anything (stmt_goes st s l) (λ r m x h.
      goes_by _ _ Anything Anything (stmts_goes rest r.1 m) (λ u n y k. (n, after_same u.1, tt)))
