-- Faults in expressions of each level (6.3.5 to 6.3.17).
use Rattle.std.proofs.Common.{◌≡◌, ℕ, zero, suc, ◌+◌, ◌-◌, ◌==◌, ◌<◌, ◌≤◌, nat_le, true, if◌then◌else◌, ◌∷◌, length, Option, Some, None, arith, refl, sym, subst}
use Rattle.std.proofs.lemmas.Bool.{eqb-true, leb-true, leb-false}
use Rattle.pw_tree.specs.Levels.{level}
use Rattle.pw_tree.specs.Scopes.{Env, after_expr}
use Rattle.pw_tree.specs.Spelling.{spell_expr, spell_operations}
use Rattle.pw_tree.specs.Symbols.{Sign, binary_mark, assign_mark}
use Rattle.pw_tree.specs.Trees.{Expr, Chain, Conditional, Assign, Operations, NoOperation, Operation}
use Rattle.pw_tree.specs.WellFormed.{WellFormed, WellFormedOperations}
use Rattle.pw_tree.specs.declared.operator.AssignOperator.{AssignOperator}
use Rattle.pw_tree.specs.declared.operator.BinaryOperator.{BinaryOperator}
use Rattle.pw_token.specs.declared.symbol.Mark.TheVariants as m
use Rattle.pw_parse_grammar.specs.Input.{Input, ahead, step, sees, pure, ◌<$>◌, fault}
use Rattle.pw_parse_grammar.specs.Parts.{Parts}
use Rattle.pw_parse_grammar.specs.Expressions.{with_operations, operation_by, operation, operations, conditional_behind, condition_of, assigned, assignment_by, assignment_to, goes_on, above_cast, expr_of, unary_expr}
use Rattle.pw_parse_grammar.specs.Tests.{assigns, operator_at}
use Rattle.pw_parse_grammar.proofs.Trees.Base.{names_of}
use Rattle.pw_parse_grammar.proofs.Sound.Base.{both, token, sign}
use Rattle.pw_parse_grammar.proofs.Sound.Parts.{IsExpr, Sound}
use Rattle.pw_parse_grammar.proofs.Sound.Unaries.{lifted}
use Rattle.pw_parse_grammar.proofs.Sound.Levels.{operator_found, assign_found, above-sound}
use Rattle.pw_parse_grammar.proofs.Viable.Base.{Does, Fails, bind-fails, map-fails, weaken-fails, choose-fails, expected-fails, Form, Begins, Viable, missing, embed, counted}
use Rattle.pw_parse_grammar.proofs.Viable.Lists.{AfterItem, more_behind, while-fails}
use Rattle.pw_parse_grammar.proofs.Viable.Parts.{zero_expr, exprs, ViableExpr, ViableParts}
use Rattle.pw_parse_grammar.proofs.Viable.Unaries.{raised, raise-fails, unary-fails, cast-fails}

-- ---- 6.3.5 to 6.3.14, 6.3.17

-- operations of level k
abbrev pub operation_lists : ℕ → Form Operations
operation_lists k = record { holds = λ env ops. WellFormedOperations env k ops; put = spell_operations }

chain-begins : (k : ℕ) (env : Env) (e : Expr) (ops : Operations) → 4 ≤ k → (exprs (k - 1)).holds env e → WellFormedOperations (after_expr env e) k ops → Begins (exprs k) env (λ z. spell_expr e (spell_operations ops z))
unfolding spell_expr WellFormed
chain-begins k env e NoOperation four h r = record { thing = e; holds = (h.0, omega (arith, h.1, four)); spells = λ z. (z, refl) }
chain-begins k env e (Operation t op x ops) four h r = record {
  thing = Chain e (Operation t op x ops);
  holds = ((omega (arith, h.1, r.0, four), h.0, subst (λ v. WellFormedOperations (after_expr env e) v (Operation t op x ops)) (sym r.0) r), omega (arith, r.0));
  spells = λ z. (z, refl);
}

-- ---- 6.3.15

conditional-begins : (n : ℕ) (env : Env) (c a b : Expr) → (exprs 13).holds env c → WellFormed (after_expr env c) a → (exprs 14).holds (after_expr (after_expr env c) a) b
    → Begins (exprs 14) env (λ z. spell_expr c (Sign m.Question ∷ spell_expr a (Sign m.Colon ∷ spell_expr b z)))
unfolding spell_expr WellFormed
conditional-begins n env c a b p q r = record { thing = Conditional n c a b; holds = ((p.1, p.0, q, r.1, r.0), omega arith); spells = λ z. (z, refl) }

module _ (parts : Parts) (sound : Sound parts) (d : ℕ) (viable : ViableParts d parts) where
  operation-by : (k : ℕ) → 4 ≤ k → (env : Env) (i : Input) → i.names ≡ names_of env → length i.rest < suc d → (o : Option BinaryOperator) → operator_at k (ahead i) ≡ o
      → Does (AfterItem (Viable (operation_lists k)) env i) (Viable (operation_lists k) env i) (operation_by parts k o i)
  unfolding spell_expr WellFormed
  operation-by k four env i names below None h = tt
  operation-by k four env i names below (Some op) h =
      let found = operator_found k (ahead i) op h in
      let opening = token i env (Sign (binary_mark op)) found.0 names in
      bind-fails _ _ (parts.expr (k - 1) (step i)) _ (sound.expr (k - 1) (omega (arith, four)) env (step i) opening.names) (viable.expr (k - 1) (omega (arith, four)) env (step i) opening.names (omega (arith, below, counted opening)))
      (λ e v. embed opening v (λ x q. record { thing = Operation i.next op x NoOperation; holds = (found.1, omega (arith, q.1, four), q.0, tt); spells = λ z. (z, refl) }))
      (λ e j q. let all = both opening q.reads in
      more_behind all (omega (arith, counted all)) (λ ops r. record { thing = Operation i.next op e ops; holds = (found.1, omega (arith, q.low, four), q.holds, r); spells = λ z. (z, refl) }))

  operations-fails : (k : ℕ) → 4 ≤ k → (env : Env) (i : Input) → i.names ≡ names_of env → length i.rest < suc d → Fails (Viable (operation_lists k) env i) (operations parts k i)
  unfolding operations operation
  operations-fails k four env i names below = while-fails (Viable (operation_lists k)) (suc d) NoOperation (operation parts k) (λ env i names below. operation-by k four env i names below (operator_at k (ahead i)) refl) env i names below

  -- ---- 6.3.15

  conditional-fails : (env : Env) (i j : Input) (c : Expr) → IsExpr 13 env i c j → sees m.Question j ≡ true → length j.rest < suc d → Fails (Viable (exprs 14) env i) (conditional_behind parts c j)
  unfolding conditional_behind WellFormed spell_expr
  conditional-fails env i j c q h below =
      let asked = sign j (after_expr env c) m.Question h q.reads.names in
      bind-fails _ _ (parts.expr 16 (step j)) _ (sound.expr 16 (omega arith) (after_expr env c) (step j) asked.names) (viable.expr 16 (omega arith) (after_expr env c) (step j) asked.names (omega (arith, below, counted asked)))
      (λ e v. embed (both q.reads asked) v (λ a r. up_to_colon a r.0))
      (λ a x r. expected-fails _ _ x (after_expr (after_expr env c) a) m.Colon _ r.reads.names (missing (both q.reads (both asked r.reads)) (up_to_colon a r.holds))
      (λ y colon. let all = both asked (both r.reads colon) in
      map-fails _ (Conditional j.next c a) (parts.expr 14 y) (weaken-fails _ (parts.expr 14 y) (viable.expr 14 (omega arith) (after_expr (after_expr env c) a) y colon.names (omega (arith, below, counted all)))
      (λ e v. embed (both q.reads all) v (λ b s. conditional-begins j.next env c a b (q.holds, q.low) r.holds s)))))
    where
      up_to_colon : (a : Expr) → WellFormed (after_expr env c) a → Begins (exprs 14) env (λ z. spell_expr c (Sign m.Question ∷ spell_expr a z))
      up_to_colon a h = record { thing = Conditional j.next c a zero_expr; holds = ((q.low, q.holds, h, omega arith, tt), omega arith); spells = λ z. (Sign m.Colon ∷ spell_expr zero_expr z, refl) }

  condition-fails : (env : Env) (i j : Input) (c : Expr) → IsExpr 13 env i c j → length j.rest < suc d → Fails (Viable (exprs 14) env i) (condition_of parts c j)
  unfolding condition_of
  condition-fails env i j c q below = choose-fails _ _ (sees m.Question j) (conditional_behind parts c) (pure c) j (λ h. conditional-fails env i j c q h below) (λ _. tt)

  -- ---- 6.3.16

  assignment-by : (env : Env) (i j : Input) (l : Expr) → IsExpr 14 env i l j → length j.rest < suc d → (o : Option AssignOperator) → assigns (ahead j) ≡ o → Fails (Viable (exprs 15) env i) (assignment_by parts l o j)
  unfolding assigned WellFormed spell_expr
  assignment-by env i j l q below None h = tt
  assignment-by env i j l q below (Some op) h =
      let opening = token j (after_expr env l) (Sign (assign_mark op)) (assign_found (ahead j) op h) q.reads.names in
      choose-fails _ _ (nat_le (level l) 2) (assigned parts l op) fault j
      (λ low. map-fails _ (Assign j.next op l) (parts.expr 15 (step j)) (weaken-fails _ (parts.expr 15 (step j)) (viable.expr 15 (omega arith) (after_expr env l) (step j) opening.names (omega (arith, below, counted opening)))
      (λ e v. embed (both q.reads opening) v (λ r s. record { thing = Assign j.next op l r; holds = ((leb-true (level l) 2 low, q.holds, s.1, s.0), omega arith); spells = λ z. (z, refl) }))))
      (λ _. missing q.reads (record { thing = l; holds = (q.holds, omega (arith, q.low)); spells = λ z. (z, refl) }))

  assignment-fails : (env : Env) (i j : Input) (l : Expr) → IsExpr 14 env i l j → length j.rest < suc d → Fails (Viable (exprs 15) env i) (assignment_to parts l j)
  unfolding assignment_to
  assignment-fails env i j l q below = assignment-by env i j l q below (assigns (ahead j)) refl

  -- ---- levels

  goes_on-fails : (k : ℕ) → 4 ≤ k → (env : Env) (i j : Input) (e : Expr) → IsExpr (k - 1) env i e j → length j.rest < suc d → Fails (Viable (exprs k) env i) (goes_on parts k e j)
  unfolding goes_on
  goes_on-fails k four env i j e q below = choose-fails _ _ (k == 14) (condition_of parts e) (if k == 15 then assignment_to parts e else with_operations e <$> operations parts k) j
      (λ h. subst (λ v. Fails (Viable (exprs v) env i) (condition_of parts e j)) (sym (eqb-true k 14 h)) (condition-fails env i j e (lifted (k - 1) 13 env i e j (omega (arith, eqb-true k 14 h)) q) below))
      (λ _. choose-fails _ _ (k == 15) (assignment_to parts e) (with_operations e <$> operations parts k) j
      (λ h. subst (λ v. Fails (Viable (exprs v) env i) (assignment_to parts e j)) (sym (eqb-true k 15 h)) (assignment-fails env i j e (lifted (k - 1) 14 env i e j (omega (arith, eqb-true k 15 h)) q) below))
      (λ _. map-fails _ (with_operations e) (operations parts k j) (weaken-fails _ (operations parts k j) (operations-fails k four (after_expr env e) j q.reads.names below)
      (λ f v. embed q.reads v (λ ops r. chain-begins k env e ops four (q.holds, q.low) r)))))

  above-fails : (k : ℕ) → ViableExpr (suc d) (k + 3) (above_cast parts k)
  unfolding above_cast
  above-fails zero env i names below = cast-fails parts sound d viable env i names below
  above-fails (suc k) env i names below =
      bind-fails _ _ (above_cast parts k i) (goes_on parts (k + 4)) (above-sound parts sound k env i names) (above-fails k env i names below)
      (λ e v. raised (k + 3) (suc k + 3) env i e (up k) v)
      (λ e j q. subst (λ v. Fails (Viable (exprs v) env i) (goes_on parts (k + 4) e j)) (plus k) (goes_on-fails (k + 4) (four k) env i j e (lifted (k + 3) (k + 4 - 1) env i e j (less k) q) (omega (arith, below, counted q.reads))))
    where
      up : (k : ℕ) → k + 3 ≤ suc k + 3
      up k = omega arith

      plus : (k : ℕ) → k + 4 ≡ suc k + 3
      plus k = omega arith

      four : (k : ℕ) → 4 ≤ k + 4
      four k = omega arith

      less : (k : ℕ) → k + 3 ≤ k + 4 - 1
      less k = omega arith

  pub expr_of-fails : (k : ℕ) → 2 ≤ k → ViableExpr (suc d) k (expr_of parts k)
  unfolding expr_of
  expr_of-fails k two env i names below = choose-fails _ _ (nat_le k 2) (unary_expr parts) (above_cast parts (k - 3)) i
      (λ _. raise-fails (suc d) 2 k (unary_expr parts) two (unary-fails parts sound d viable) env i names below)
      (λ h. raise-fails (suc d) (k - 3 + 3) k (above_cast parts (k - 3)) (omega (arith, leb-false k 2 h)) (above-fails (k - 3)) env i names below)
