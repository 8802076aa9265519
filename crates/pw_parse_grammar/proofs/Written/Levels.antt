-- Expressions of each level are read (6.3.5 to 6.3.17).
use Rattle.std.proofs.Common.{◌≡◌, ℕ, zero, suc, ◌+◌, ◌-◌, ◌==◌, ◌<◌, ◌≤◌, Bool, true, false, if◌then◌else◌, nat_le, ◌⊎◌, inl, inr, List, [], ◌∷◌, length, map, Some, None, Ok, arith, refl, sym, ap, ◌∙◌, subst}
use Rattle.pw_tree.specs.Levels.{level, chain_level, binary_level}
use Rattle.pw_tree.specs.Numbering.{past_expr, past_operations, Numbered, NumberedOperations}
use Rattle.pw_tree.specs.Scopes.{after_expr, after_operations, Env}
use Rattle.pw_tree.specs.Spelling.{spell_expr, spell_operations}
use Rattle.pw_tree.specs.Symbols.{Symbol, Sign, binary_mark, assign_mark}
use Rattle.pw_tree.specs.Trees.{Expr, Identifier, Number, Floating, Character, Wide, Strings, Paren, Postfix, Unary, SizeofType, Cast, Chain, Conditional, Assign, Operations, NoOperation, Operation}
use Rattle.pw_tree.specs.WellFormed.{WellFormed, WellFormedOperations}
use Rattle.pw_tree.specs.declared.operator.AssignOperator.{AssignOperator}
use Rattle.pw_tree.specs.declared.operator.AssignOperator.TheVariants as assign
use Rattle.pw_tree.specs.declared.operator.BinaryOperator.{BinaryOperator}
use Rattle.pw_tree.specs.declared.operator.BinaryOperator.TheVariants as binary
use Rattle.pw_token.specs.declared.symbol.Mark.TheVariants as m
use Rattle.pw_parse_grammar.specs.Input.{ahead, step, same_mark, sees, ◌<$>◌, expect, repeat, turn_of}
use Rattle.pw_parse_grammar.specs.Parts.{Parts}
use Rattle.pw_parse_grammar.specs.Expressions.{with_operations, operation, operations, conditional_behind, condition_of, assignment_to, assigned, goes_on, above_cast, expr_of}
use Rattle.pw_parse_grammar.specs.Tests.{operator_at, assigns}
use Rattle.std.proofs.lemmas.Bool.{eqb-true, leb-true, leb-false, le-leb, lt-leb}
use Rattle.pw_parse_grammar.proofs.Trees.Base.{at, same, turns_enough, no_turns, some_more, some_last}
use Rattle.pw_parse_grammar.proofs.Trees.Follow.{Follow, head, joins, no_operator, no_question, no_assignment}
use Rattle.pw_parse_grammar.proofs.Written.Knows.{Knows, ReadsExpr}
use Rattle.pw_parse_grammar.proofs.Trees.Lengths.{length-expr}
use Rattle.pw_parse_grammar.proofs.Written.Primaries.{whole}
use Rattle.pw_parse_grammar.proofs.Written.Unaries.{unary-read, cast-read}

-- ---- operators

operator-found : (op : BinaryOperator) → operator_at (binary_level op) (Some (Sign (binary_mark op))) ≡ Some op
operator-found binary.Multiply = refl
operator-found binary.Divide = refl
operator-found binary.Remainder = refl
operator-found binary.Add = refl
operator-found binary.Subtract = refl
operator-found binary.LeftShift = refl
operator-found binary.RightShift = refl
operator-found binary.Less = refl
operator-found binary.Greater = refl
operator-found binary.LessEqual = refl
operator-found binary.GreaterEqual = refl
operator-found binary.Equal = refl
operator-found binary.NotEqual = refl
operator-found binary.BitAnd = refl
operator-found binary.BitXor = refl
operator-found binary.BitOr = refl
operator-found binary.And = refl
operator-found binary.Or = refl
operator-found binary.Comma = refl

joins-binary : (op : BinaryOperator) → joins (Some (Sign (binary_mark op))) ≡ binary_level op
joins-binary binary.Multiply = refl
joins-binary binary.Divide = refl
joins-binary binary.Remainder = refl
joins-binary binary.Add = refl
joins-binary binary.Subtract = refl
joins-binary binary.LeftShift = refl
joins-binary binary.RightShift = refl
joins-binary binary.Less = refl
joins-binary binary.Greater = refl
joins-binary binary.LessEqual = refl
joins-binary binary.GreaterEqual = refl
joins-binary binary.Equal = refl
joins-binary binary.NotEqual = refl
joins-binary binary.BitAnd = refl
joins-binary binary.BitXor = refl
joins-binary binary.BitOr = refl
joins-binary binary.And = refl
joins-binary binary.Or = refl
joins-binary binary.Comma = refl

assigns-found : (op : AssignOperator) → assigns (Some (Sign (assign_mark op))) ≡ Some op
assigns-found assign.Plain = refl
assigns-found assign.Multiply = refl
assigns-found assign.Divide = refl
assigns-found assign.Remainder = refl
assigns-found assign.Add = refl
assigns-found assign.Subtract = refl
assigns-found assign.LeftShift = refl
assigns-found assign.RightShift = refl
assigns-found assign.BitAnd = refl
assigns-found assign.BitXor = refl
assigns-found assign.BitOr = refl

joins-assign : (op : AssignOperator) → joins (Some (Sign (assign_mark op))) ≡ 15
joins-assign assign.Plain = refl
joins-assign assign.Multiply = refl
joins-assign assign.Divide = refl
joins-assign assign.Remainder = refl
joins-assign assign.Add = refl
joins-assign assign.Subtract = refl
joins-assign assign.LeftShift = refl
joins-assign assign.RightShift = refl
joins-assign assign.BitAnd = refl
joins-assign assign.BitXor = refl
joins-assign assign.BitOr = refl

binary-not_above : (op : BinaryOperator) → (binary_level op == 14) ≡ false
binary-not_above binary.Multiply = refl
binary-not_above binary.Divide = refl
binary-not_above binary.Remainder = refl
binary-not_above binary.Add = refl
binary-not_above binary.Subtract = refl
binary-not_above binary.LeftShift = refl
binary-not_above binary.RightShift = refl
binary-not_above binary.Less = refl
binary-not_above binary.Greater = refl
binary-not_above binary.LessEqual = refl
binary-not_above binary.GreaterEqual = refl
binary-not_above binary.Equal = refl
binary-not_above binary.NotEqual = refl
binary-not_above binary.BitAnd = refl
binary-not_above binary.BitXor = refl
binary-not_above binary.BitOr = refl
binary-not_above binary.And = refl
binary-not_above binary.Or = refl
binary-not_above binary.Comma = refl

binary-not_assign : (op : BinaryOperator) → (binary_level op == 15) ≡ false
binary-not_assign binary.Multiply = refl
binary-not_assign binary.Divide = refl
binary-not_assign binary.Remainder = refl
binary-not_assign binary.Add = refl
binary-not_assign binary.Subtract = refl
binary-not_assign binary.LeftShift = refl
binary-not_assign binary.RightShift = refl
binary-not_assign binary.Less = refl
binary-not_assign binary.Greater = refl
binary-not_assign binary.LessEqual = refl
binary-not_assign binary.GreaterEqual = refl
binary-not_assign binary.Equal = refl
binary-not_assign binary.NotEqual = refl
binary-not_assign binary.BitAnd = refl
binary-not_assign binary.BitXor = refl
binary-not_assign binary.BitOr = refl
binary-not_assign binary.And = refl
binary-not_assign binary.Or = refl
binary-not_assign binary.Comma = refl

with-operations : (e : Expr) (ops : Operations) → 0 < chain_level ops → with_operations e ops ≡ Chain e ops
with-operations e NoOperation h = absurd (omega (arith, h))
with-operations e (Operation t op r rest) h = refl

-- what stands before the operator of a level
operations-follow : (env : Env) (k : ℕ) (ops : Operations) (z : List Symbol) → WellFormedOperations env (suc k) ops → Follow (suc k) z → Follow k (spell_operations ops z)
unfolding spell_expr WellFormed
operations-follow env k NoOperation z h f = omega (arith, f)
operations-follow env k (Operation t op r rest) z h f = omega (arith, joins-binary op, h.0)

cases_le : (a b : ℕ) → (a ≤ b) ⊎ (b < a)
cases_le a b = by (nat_le a b) refl
  where
    by : (c : Bool) → nat_le a b ≡ c → (a ≤ b) ⊎ (b < a)
    by true h = inl (leb-true a b h)
    by false h = inr (leb-false a b h)

module _ (d : ℕ) (parts : Parts) (known : Knows d parts) where
  -- ---- 6.3.5 to 6.3.14, 6.3.17

  operation-read : (env : Env) (k : ℕ) (op : BinaryOperator) (e : Expr) (z : List Symbol) (n i : ℕ) → 2 ≤ k → binary_level op ≡ k + 1 → level e ≤ k → WellFormed env e → Numbered (n + 1) e → Follow k z
      → length (spell_expr e z) < d → i ≡ n
      → operation parts (k + 1) (at env (Sign (binary_mark op) ∷ spell_expr e z) i) ≡ Ok (Some (Operation i op e), at (after_expr env e) z (past_expr (n + 1) e))
  unfolding operation ahead step
  operation-read env k op e z n i two is l h num follow short at_n =
      rw (subst (λ v. operator_at v (Some (Sign (binary_mark op))) ≡ Some op) is (operator-found op))
      (rw (below k)
      (rw (known.expr k two env e z (n + 1) (i + 1) h num l follow short (omega (arith, at_n))) refl))
    where
      below : (k : ℕ) → (k + 1) - 1 ≡ k
      below k = omega arith

  operation-none : (env : Env) (k : ℕ) (z : List Symbol) (i : ℕ) → Follow k z → operation parts k (at env z i) ≡ Ok (None, at env z i)
  unfolding operation ahead
  operation-none env k z i follow = rw (no_operator (head z) k follow) refl

  rest-follow : (env : Env) (k : ℕ) (ops : Operations) (z : List Symbol) → WellFormedOperations env (k + 1) ops → Follow (k + 1) z → Follow k (spell_operations ops z)
  unfolding spell_expr WellFormed
  rest-follow env k NoOperation z h f = omega (arith, f)
  rest-follow env k (Operation t op r rest) z h f = omega (arith, joins-binary op, h.0)

  operations-turns : (count : ℕ) (env : Env) (k : ℕ) (ops : Operations) (z : List Symbol) (n i : ℕ) → 2 ≤ k → WellFormedOperations env (k + 1) ops → NumberedOperations n ops → Follow (k + 1) z
      → length (spell_operations ops z) < count → length (spell_operations ops z) ≤ d → i ≡ n
      → repeat (turn_of NoOperation <$> operation parts (k + 1)) count (at env (spell_operations ops z) i) ≡ Ok (ops, at (after_operations env ops) z (past_operations n ops))
  unfolding spell_expr WellFormed Numbered after_expr
  operations-turns zero env k ops z n i two w num follow enough short at_n = no_turns enough
  operations-turns (suc count) env k NoOperation z n i two w num follow enough short at_n =
      some_last NoOperation (operation parts (k + 1)) count (at env z i) (at env z i) (operation-none env (k + 1) z i follow) ∙ same env z refl (omega (arith, at_n))
  operations-turns (suc count) env k (Operation t op e rest) z n i two w num follow enough short at_n =
      let long = length-expr e (spell_operations rest z) in
      some_more NoOperation (operation parts (k + 1)) count (at env (spell_operations (Operation t op e rest) z) i) (at (after_expr env e) (spell_operations rest z) (past_expr (n + 1) e))
      (at (after_operations (after_expr env e) rest) z (past_operations (past_expr (n + 1) e) rest)) (Operation i op e) rest
      (operation-read env k op e (spell_operations rest z) n i two w.0 (omega (arith, w.1)) w.2 num.1 (rest-follow (after_expr env e) k rest z w.3 follow) (omega (arith, short)) at_n)
      (operations-turns count (after_expr env e) k rest z (past_expr (n + 1) e) (past_expr (n + 1) e) two w.3 num.2 follow (omega (arith, enough, long)) (omega (arith, short, long)) refl)
      ∙ same (after_operations (after_expr env e) rest) z (ap (λ v. Operation v op e rest) (at_n ∙ sym num.0)) (omega (arith, length-expr e (spell_operations rest [])))

  operations-read : (env : Env) (k : ℕ) (ops : Operations) (z : List Symbol) (n i : ℕ) → 2 ≤ k → WellFormedOperations env (k + 1) ops → NumberedOperations n ops → Follow (k + 1) z
      → length (spell_operations ops z) ≤ d → i ≡ n
      → operations parts (k + 1) (at env (spell_operations ops z) i) ≡ Ok (ops, at (after_operations env ops) z (past_operations n ops))
  unfolding operations
  operations-read env k ops z n i two w num follow short at_n = operations-turns _ env k ops z n i two w num follow (turns_enough (spell_operations ops z)) short at_n

  -- ---- 6.3.15, 6.3.16

  condition-read : (env : Env) (c a b : Expr) (z : List Symbol) (n i : ℕ) → WellFormed env a → level b ≤ 14 → WellFormed (after_expr env a) b → Numbered (n + 1) a → Numbered (past_expr (n + 1) a + 1) b → Follow 14 z
      → length (spell_expr a (Sign m.Colon ∷ spell_expr b z)) < d → i ≡ n
      → condition_of parts c (at env (Sign m.Question ∷ spell_expr a (Sign m.Colon ∷ spell_expr b z)) i) ≡ Ok (Conditional i c a b, at (after_expr (after_expr env a) b) z (past_expr (past_expr (n + 1) a + 1) b))
  unfolding condition_of conditional_behind sees expect ahead step same_mark
  condition-read env c a b z n i w l v num nums follow short at_n =
      rw (whole d parts known env a (Sign m.Colon ∷ spell_expr b z) (n + 1) (i + 1) w num (omega arith) short (omega (arith, at_n)))
      (rw (known.expr 14 (omega arith) (after_expr env a) b z (past_expr (n + 1) a + 1) (past_expr (n + 1) a + 1) v nums l follow (omega (arith, short, length-expr a (Sign m.Colon ∷ spell_expr b z))) refl) refl)

  assignment-read : (env : Env) (op : AssignOperator) (l r : Expr) (z : List Symbol) (n i : ℕ) → level l ≤ 2 → level r ≤ 15 → WellFormed env r → Numbered (n + 1) r → Follow 15 z
      → length (spell_expr r z) < d → i ≡ n
      → assignment_to parts l (at env (Sign (assign_mark op) ∷ spell_expr r z) i) ≡ Ok (Assign i op l r, at (after_expr env r) z (past_expr (n + 1) r))
  unfolding assignment_to assigned ahead step
  assignment-read env op l r z n i low v w num follow short at_n =
      rw (assigns-found op) (rw (le-leb (level l) 2 low) (rw (known.expr 15 (omega arith) env r z (n + 1) (i + 1) w num v follow short (omega (arith, at_n))) refl))

  -- ---- levels

  -- an expression goes on with nothing where no operator of the level stands
  operations-none : (k : ℕ) (env : Env) (z : List Symbol) (n count : ℕ) → Follow k z → 0 < count → repeat (turn_of NoOperation <$> operation parts k) count (at env z n) ≡ Ok (NoOperation, at env z n)
  operations-none k env z n zero follow h = no_turns h
  operations-none k env z n (suc count) follow h = some_last NoOperation (operation parts k) count (at env z n) (at env z n) (operation-none env k z n follow)

  stays-by : (k : ℕ) (env : Env) (e : Expr) (z : List Symbol) (n : ℕ) → Follow k z → (a b : Bool) → (k == 14) ≡ a → (k == 15) ≡ b
      → (if a then condition_of parts e else (if b then assignment_to parts e else with_operations e <$> operations parts k)) (at env z n) ≡ Ok (e, at env z n)
  unfolding condition_of assignment_to operations sees ahead
  stays-by k env e z n follow true b is is_b = rw (no_question (head z) (omega (arith, follow, eqb-true k 14 is))) refl
  stays-by k env e z n follow false true is is_b = rw (no_assignment (head z) (omega (arith, follow, eqb-true k 15 is_b))) refl
  stays-by k env e z n follow false false is is_b = rw (operations-none k env z n (length (map Some z) + 1) follow (omega arith)) refl

  stays : (k : ℕ) (env : Env) (e : Expr) (z : List Symbol) (n : ℕ) → Follow k z → goes_on parts k e (at env z n) ≡ Ok (e, at env z n)
  unfolding goes_on
  stays k env e z n follow = stays-by k env e z n follow (k == 14) (k == 15) refl refl

  goes-chain : (k : ℕ) (op : BinaryOperator) (e : Expr) → binary_level op ≡ k → goes_on parts k e ≡ (with_operations e <$> operations parts k)
  unfolding goes_on
  goes-chain k op e is = subst (λ v. goes_on parts v e ≡ (with_operations e <$> operations parts v)) is (rw (binary-not_above op) (rw (binary-not_assign op) refl))

  goes-condition : (k : ℕ) (e : Expr) → k ≡ 14 → goes_on parts k e ≡ condition_of parts e
  unfolding goes_on
  goes-condition k e is = ap (λ v. goes_on parts v e) is

  goes-assignment : (k : ℕ) (e : Expr) → k ≡ 15 → goes_on parts k e ≡ assignment_to parts e
  unfolding goes_on
  goes-assignment k e is = ap (λ v. goes_on parts v e) is

  chain_operator : (env : Env) (k : ℕ) (ops : Operations) → chain_level ops ≡ k + 4 → (op : BinaryOperator) × (binary_level op ≡ k + 4)
  chain_operator env k NoOperation is = absurd (omega (arith, is))
  chain_operator env k (Operation t op e rest) is = (op, is)

  -- an expression of level k + 4 itself
  level-read : (k : ℕ) → ((env : Env) (e : Expr) (z : List Symbol) (n i : ℕ) → WellFormed env e → Numbered n e → level e ≤ k + 3 → Follow (k + 3) z → length (spell_expr e z) ≤ d → i ≡ n
      → above_cast parts k (at env (spell_expr e z) i) ≡ Ok (e, at (after_expr env e) z (past_expr n e)))
      → (env : Env) (e : Expr) (z : List Symbol) (n i : ℕ) → WellFormed env e → Numbered n e → level e ≡ k + 4 → Follow (k + 4) z → length (spell_expr e z) ≤ d → i ≡ n
      → above_cast parts (suc k) (at env (spell_expr e z) i) ≡ Ok (e, at (after_expr env e) z (past_expr n e))
  unfolding above_cast spell_expr WellFormed Numbered after_expr
  level-read k lower env (Chain e ops) z n i h num is follow short at_n =
      let operator = chain_operator env k ops is in
      let ws : WellFormedOperations (after_expr env e) (k + 3 + 1) ops = subst (λ v. WellFormedOperations (after_expr env e) v ops) (is ∙ plus k) h.2 in
      rw (lower env e (spell_operations ops z) n i h.1 num.0 (omega (arith, h.0, is)) (operations-follow (after_expr env e) (k + 3) ops z (subst (λ v. WellFormedOperations (after_expr env e) v ops) (is ∙ plus_suc k) h.2) (omega (arith, follow))) short at_n)
      (rw (goes-chain (k + 4) operator.0 e operator.1)
      (rw (plus k)
      (rw (operations-read (after_expr env e) (k + 3) ops z (past_expr n e) (past_expr n e) (omega arith) ws num.1 (omega (arith, follow)) (omega (arith, short, length-expr e (spell_operations ops z))) refl)
      (same (after_operations (after_expr env e) ops) z (with-operations e ops (omega (arith, is))) (omega (arith, length-expr e (spell_operations ops [])))))))
    where
      plus : (k : ℕ) → k + 4 ≡ k + 3 + 1
      plus k = omega arith

      plus_suc : (k : ℕ) → k + 4 ≡ suc (k + 3)
      plus_suc k = omega arith
  level-read k lower env (Conditional t c a b) z n i h num is follow short at_n =
      let long = length-expr c (Sign m.Question ∷ spell_expr a (Sign m.Colon ∷ spell_expr b z)) in
      rw (lower env c (Sign m.Question ∷ spell_expr a (Sign m.Colon ∷ spell_expr b z)) n i h.1 num.0 (omega (arith, h.0, is)) (omega (arith, is)) short at_n)
      (rw (goes-condition (k + 4) c (sym is))
      (condition-read (after_expr env c) c a b z (past_expr n c) (past_expr n c) h.2 h.3 h.4 (subst (λ v. Numbered (v + 1) a) num.1 num.2) (subst (λ v. Numbered (past_expr (v + 1) a + 1) b) num.1 num.3) (omega (arith, follow, is)) (omega (arith, short, long)) refl
      ∙ same (after_expr (after_expr (after_expr env c) a) b) z (ap (λ v. Conditional v c a b) (sym num.1)) (omega (arith, length-expr c (Sign m.Question ∷ spell_expr a (Sign m.Colon ∷ spell_expr b [])), length-expr a (Sign m.Colon ∷ spell_expr b [])))))
  level-read k lower env (Assign t op l r) z n i h num is follow short at_n =
      let long = length-expr l (Sign (assign_mark op) ∷ spell_expr r z) in
      rw (lower env l (Sign (assign_mark op) ∷ spell_expr r z) n i h.1 num.0 (omega (arith, h.0)) (omega (arith, is, joins-assign op)) short at_n)
      (rw (goes-assignment (k + 4) l (sym is))
      (assignment-read (after_expr env l) op l r z (past_expr n l) (past_expr n l) h.0 h.2 h.3 (subst (λ v. Numbered (v + 1) r) num.1 num.2) (omega (arith, follow, is)) (omega (arith, short, long)) refl
      ∙ same (after_expr (after_expr env l) r) z (ap (λ v. Assign v op l r) (sym num.1)) (omega (arith, length-expr l (Sign (assign_mark op) ∷ spell_expr r [])))))
  level-read k lower env (Identifier w) z n i h num is follow short at_n = absurd (omega (arith, is))
  level-read k lower env (Number w) z n i h num is follow short at_n = absurd (omega (arith, is))
  level-read k lower env (Floating w) z n i h num is follow short at_n = absurd (omega (arith, is))
  level-read k lower env (Character w) z n i h num is follow short at_n = absurd (omega (arith, is))
  level-read k lower env (Wide w) z n i h num is follow short at_n = absurd (omega (arith, is))
  level-read k lower env (Strings ws) z n i h num is follow short at_n = absurd (omega (arith, is))
  level-read k lower env (Paren t e) z n i h num is follow short at_n = absurd (omega (arith, is))
  level-read k lower env (Postfix e ps) z n i h num is follow short at_n = absurd (omega (arith, is))
  level-read k lower env (Unary t op e) z n i h num is follow short at_n = absurd (omega (arith, is))
  level-read k lower env (SizeofType t ss x) z n i h num is follow short at_n = absurd (omega (arith, is))
  level-read k lower env (Cast t ss x e) z n i h num is follow short at_n = absurd (omega (arith, is))

  above-read : (k : ℕ) (env : Env) (e : Expr) (z : List Symbol) (n i : ℕ) → WellFormed env e → Numbered n e → level e ≤ k + 3 → Follow (k + 3) z → length (spell_expr e z) ≤ d → i ≡ n
      → above_cast parts k (at env (spell_expr e z) i) ≡ Ok (e, at (after_expr env e) z (past_expr n e))
  unfolding above_cast spell_expr WellFormed Numbered after_expr
  above-read zero env e z n i h num l follow short at_n = cast-read d parts known env e z n i h num (omega (arith, l)) (omega (arith, follow)) short at_n
  above-read (suc k) env e z n i h num l follow short at_n =
      elim (cases_le (level e) (k + 3)) [
        | inl low ↦ rw (above-read k env e z n i h num low (omega (arith, follow)) short at_n) (stays (k + 4) (after_expr env e) e z (past_expr n e) (omega (arith, follow)))
        | inr high ↦ level-read k (above-read k) env e z n i h num (omega (arith, l, high)) (omega (arith, follow)) short at_n
      ]

  low-read : (k : ℕ) (env : Env) (e : Expr) (z : List Symbol) (n i : ℕ) → WellFormed env e → Numbered n e → level e ≤ 2 → k ≤ 2 → 2 < joins (head z) → length (spell_expr e z) ≤ d → i ≡ n
      → expr_of parts k (at env (spell_expr e z) i) ≡ Ok (e, at (after_expr env e) z (past_expr n e))
  unfolding expr_of
  low-read k env e z n i h num l low follow short at_n = rw (le-leb k 2 low) (unary-read d parts known env e z n i h num l follow short at_n)

  high-read : (k j : ℕ) (env : Env) (e : Expr) (z : List Symbol) (n i : ℕ) → WellFormed env e → Numbered n e → 2 < k → j + 3 ≡ k → level e ≤ k → Follow k z → length (spell_expr e z) ≤ d → i ≡ n
      → expr_of parts k (at env (spell_expr e z) i) ≡ Ok (e, at (after_expr env e) z (past_expr n e))
  unfolding expr_of
  high-read k j env e z n i h num high is l follow short at_n =
      rw (lt-leb k 2 high) (rw (less k j is) (above-read j env e z n i h num (omega (arith, l, is)) (omega (arith, follow, is)) short at_n))
    where
      less : (k j : ℕ) → j + 3 ≡ k → k - 3 ≡ j
      less k j h = omega (arith, h)

  pub expr_of-read : (k : ℕ) → 2 ≤ k → ReadsExpr (suc d) k (expr_of parts k)
  expr_of-read k two env e z n i h num l follow short at_n =
      elim (cases_le k 2) [
        | inl low ↦ low-read k env e z n i h num (omega (arith, l, low)) low (omega (arith, follow, two)) (omega (arith, short)) at_n
        | inr high ↦ high-read k (k - 3) env e z n i h num high (omega (arith, high)) l follow (omega (arith, short)) at_n
      ]
