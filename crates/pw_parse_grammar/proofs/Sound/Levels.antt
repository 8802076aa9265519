-- Expressions of each level that are read are trees (6.3.5 to 6.3.17).
use Rattle.std.proofs.Common.{◌≡◌, ℕ, zero, suc, ◌+◌, ◌-◌, ◌==◌, ◌≤◌, nat_le, Bool, true, false, if◌then◌else◌, ◌∷◌, Option, Some, None, arith, refl, sym, ap, ◌∙◌, subst}
use Rattle.pw_tree.specs.Levels.{level, binary_level}
use Rattle.pw_tree.specs.Numbering.{Numbered, NumberedOperations}
use Rattle.pw_tree.specs.Scopes.{after_expr, after_operations, Env}
use Rattle.pw_tree.specs.Spelling.{spell_expr, spell_operations}
use Rattle.pw_tree.specs.Symbols.{Symbol, Sign, binary_mark, assign_mark}
use Rattle.pw_tree.specs.Trees.{Expr, Conditional, Assign, Operations, NoOperation, Operation}
use Rattle.pw_tree.specs.WellFormed.{WellFormed, WellFormedOperations}
use Rattle.pw_tree.specs.declared.operator.AssignOperator.{AssignOperator}
use Rattle.pw_tree.specs.declared.operator.BinaryOperator.{BinaryOperator}
use Rattle.pw_token.specs.declared.symbol.Mark.{Mark}
use Rattle.pw_token.specs.declared.symbol.Mark.TheVariants as m
use Rattle.pw_parse_grammar.specs.Input.{Input, ahead, step, sees, ◌>>=◌, ◌>>◌, pure, ◌<$>◌, fault, expect}
use Rattle.pw_parse_grammar.specs.Parts.{Parts}
use Rattle.std.proofs.lemmas.Bool.{eqb-true, leb-true, leb-false}
use Rattle.pw_parse_grammar.specs.Expressions.{with_operations, operation_by, operation, operations, conditional_behind, condition_of, assigned, assignment_by, assignment_to, goes_on, above_cast, expr_of, unary_expr}
use Rattle.pw_parse_grammar.specs.Tests.{binary_operator, assign_operator, assigns, of_level, operator_at}
use Rattle.pw_parse_grammar.proofs.Trees.Base.{names_of}
use Rattle.pw_parse_grammar.proofs.Sound.Base.{Post, bind, choose_parser, Reads, nothing, both, token, sign, expected}
use Rattle.pw_parse_grammar.proofs.Sound.Lists.{IsItem, while-sound}
use Rattle.pw_parse_grammar.proofs.Sound.Parts.{IsExpr, SoundExpr, Sound}
use Rattle.pw_parse_grammar.proofs.Sound.Unaries.{lifted, lift-sound, unary-sound, cast-sound}

-- ---- operators

pub no_some : {A : Type 0} (x : A) → None ≡ Some x → ⊥
no_some x h = cc

abbrev binary_in : Mark → Option BinaryOperator → Mark
binary_in s None = s
binary_in s (Some op) = binary_mark op

binary_stays : (s : Mark) → binary_in s (binary_operator s) ≡ s
binary_stays m.Star = refl
binary_stays m.Slash = refl
binary_stays m.Percent = refl
binary_stays m.Plus = refl
binary_stays m.Minus = refl
binary_stays m.LeftShift = refl
binary_stays m.RightShift = refl
binary_stays m.Less = refl
binary_stays m.Greater = refl
binary_stays m.LessEqual = refl
binary_stays m.GreaterEqual = refl
binary_stays m.EqualEqual = refl
binary_stays m.NotEqual = refl
binary_stays m.Ampersand = refl
binary_stays m.Caret = refl
binary_stays m.Bar = refl
binary_stays m.AndAnd = refl
binary_stays m.BarBar = refl
binary_stays m.Comma = refl
binary_stays _ = refl

abbrev assign_in : Mark → Option AssignOperator → Mark
assign_in s None = s
assign_in s (Some op) = assign_mark op

assign_stays : (s : Mark) → assign_in s (assign_operator s) ≡ s
assign_stays m.Equal = refl
assign_stays m.StarEqual = refl
assign_stays m.SlashEqual = refl
assign_stays m.PercentEqual = refl
assign_stays m.PlusEqual = refl
assign_stays m.MinusEqual = refl
assign_stays m.LeftShiftEqual = refl
assign_stays m.RightShiftEqual = refl
assign_stays m.AmpersandEqual = refl
assign_stays m.CaretEqual = refl
assign_stays m.BarEqual = refl
assign_stays _ = refl

abbrev level_in : Option BinaryOperator → ℕ
level_in None = 0
level_in (Some op) = binary_level op

of_level_some : (k : ℕ) (o : Option BinaryOperator) (op : BinaryOperator) → of_level k o ≡ Some op → (o ≡ Some op) × (binary_level op ≡ k)
of_level_some k None op h = absurd (no_some op h)
of_level_some k (Some x) op h = by (binary_level x == k) refl h
  where
    by : (b : Bool) → (binary_level x == k) ≡ b → (if b then Some x else None) ≡ Some op → (Some x ≡ Some op) × (binary_level op ≡ k)
    by true e f = (f, ap level_in (sym f) ∙ eqb-true (binary_level x) k e)
    by false e f = absurd (no_some op f)

pub operator_found : (k : ℕ) (s : Option Symbol) (op : BinaryOperator) → operator_at k s ≡ Some op → (s ≡ Some (Sign (binary_mark op))) × (binary_level op ≡ k)
operator_found k (Some (Sign s)) op h =
    let found = of_level_some k (binary_operator s) op h in
    (ap (λ v. Some (Sign v)) (sym (binary_stays s) ∙ ap (binary_in s) found.0), found.1)
operator_found k None op h = absurd (no_some op h)
operator_found k (Some _) op h = absurd (no_some op h)

pub assign_found : (s : Option Symbol) (op : AssignOperator) → assigns s ≡ Some op → s ≡ Some (Sign (assign_mark op))
assign_found (Some (Sign s)) op h = ap (λ v. Some (Sign v)) (sym (assign_stays s) ∙ ap (assign_in s) h)
assign_found None op h = absurd (no_some op h)
assign_found (Some _) op h = absurd (no_some op h)

-- operations of level k from i to j
pub record IsOperations (k : ℕ) (env : Env) (i : Input) (ops : Operations) (j : Input) : Type 0 where
  pub reads : Reads i j (after_operations env ops) (spell_operations ops)
  pub holds : WellFormedOperations env k ops
  pub numbered : NumberedOperations i.next ops

module _ (parts : Parts) (sound : Sound parts) where
  -- ---- 6.3.5 to 6.3.14, 6.3.17

  abbrev IsSome : ℕ → Env → Input → Option (Operations → Operations) → Input → Type 0
  IsSome k = IsItem (IsOperations k) NoOperation

  operation-by : (k : ℕ) → 4 ≤ k → (env : Env) (i : Input) → i.names ≡ names_of env → (o : Option BinaryOperator) → operator_at k (ahead i) ≡ o → Post (IsSome k env i) (operation_by parts k o i)
  unfolding spell_expr after_expr WellFormed Numbered
  operation-by k four env i names None h = record { reads = nothing i env names; holds = tt; numbered = tt }
  operation-by k four env i names (Some op) h =
      let found = operator_found k (ahead i) op h in
      let opening = token i env (Sign (binary_mark op)) found.0 names in
      bind _ (parts.expr (k - 1) (step i)) (λ e. pure (Some (Operation i.next op e))) (sound.expr (k - 1) (omega (arith, four)) env (step i) opening.names) (λ e j q. (
        after_expr env e,
        q.reads.names,
        λ ops end r.
            record {
              reads = both opening (both q.reads r.reads);
              holds = (found.1, omega (arith, q.low, four), q.holds, r.holds);
              numbered = (
                refl,
                subst (λ v. Numbered v e) opening.next q.numbered,
                subst (λ v. NumberedOperations v ops) (omega (arith, opening.next, q.reads.next)) r.numbered,
              );
            },
      ))

  operation-sound : (k : ℕ) → 4 ≤ k → (env : Env) (i : Input) → i.names ≡ names_of env → Post (IsSome k env i) (operation parts k i)
  unfolding operation
  operation-sound k four env i names = operation-by k four env i names (operator_at k (ahead i)) refl

  operations-sound : (k : ℕ) → 4 ≤ k → (env : Env) (i : Input) → i.names ≡ names_of env → Post (IsOperations k env i) (operations parts k i)
  unfolding operations
  operations-sound k four env i names = while-sound (IsOperations k) NoOperation (operation parts k) (operation-sound k four) env i names

  chain-whole : (k : ℕ) (env : Env) (i j end : Input) (e : Expr) (ops : Operations) → 4 ≤ k → IsExpr (k - 1) env i e j → IsOperations k (after_expr env e) j ops end → IsExpr k env i (with_operations e ops) end
  unfolding spell_expr after_expr WellFormed Numbered
  chain-whole k env i j end e NoOperation four q r = record { reads = both q.reads r.reads; holds = q.holds; low = omega (arith, q.low, four); numbered = q.numbered }
  chain-whole k env i j end e (Operation t op x ops) four q r = record {
    reads = both q.reads r.reads;
    holds = (omega (arith, q.low, r.holds.0, four), q.holds, subst (λ v. WellFormedOperations (after_expr env e) v (Operation t op x ops)) (sym r.holds.0) r.holds);
    low = omega (arith, r.holds.0);
    numbered = (q.numbered, subst (λ v. NumberedOperations v (Operation t op x ops)) q.reads.next r.numbered);
  }

  -- ---- 6.3.15

  conditional-whole : (env : Env) (i j h k end : Input) (c a b : Expr) (inner : Input) → IsExpr 13 env i c j → Reads j inner (after_expr env c) (λ z. Sign m.Question ∷ z) → IsExpr 16 (after_expr env c) inner a h
      → Reads h k (after_expr (after_expr env c) a) (λ z. Sign m.Colon ∷ z) → IsExpr 14 (after_expr (after_expr env c) a) k b end → IsExpr 14 env i (Conditional j.next c a b) end
  unfolding spell_expr after_expr WellFormed Numbered
  conditional-whole env i j h k end c a b inner q asked r colon s = record {
    reads = both q.reads (both asked (both r.reads (both colon s.reads)));
    holds = (q.low, q.holds, r.holds, s.low, s.holds);
    low = omega arith;
    numbered = (
      q.numbered,
      q.reads.next,
      subst (λ v. Numbered v a) asked.next r.numbered,
      subst (λ v. Numbered v b) (omega (arith, asked.next, r.reads.next, colon.next)) s.numbered,
    );
  }

  conditional-sound : (env : Env) (i j : Input) (c : Expr) → IsExpr 13 env i c j → sees m.Question j ≡ true → Post (IsExpr 14 env i) (conditional_behind parts c j)
  unfolding conditional_behind
  conditional-sound env i j c q h =
      let asked = sign j (after_expr env c) m.Question h q.reads.names in
      bind _ (parts.expr 16 (step j)) (λ a. expect m.Colon >> (parts.expr 14 >>= λ b. pure (Conditional j.next c a b))) (sound.expr 16 (omega arith) (after_expr env c) (step j) asked.names) (λ a x r.
      expected _ x (after_expr (after_expr env c) a) m.Colon (parts.expr 14 >>= λ b. pure (Conditional j.next c a b)) r.reads.names (λ y colon.
      bind _ (parts.expr 14 y) (λ b. pure (Conditional j.next c a b)) (sound.expr 14 (omega arith) (after_expr (after_expr env c) a) y colon.names) (λ b end s.
      conditional-whole env i j x y end c a b (step j) q asked r colon s)))

  condition-sound : (env : Env) (i j : Input) (c : Expr) → IsExpr 13 env i c j → Post (IsExpr 14 env i) (condition_of parts c j)
  unfolding condition_of
  condition-sound env i j c q = choose_parser _ (sees m.Question j) (conditional_behind parts c) (pure c) j
      (λ h. conditional-sound env i j c q h)
      (λ _. lifted 13 14 env i c j (omega arith) q)

  -- ---- 6.3.16

  assign-whole : (env : Env) (i j inner end : Input) (l r : Expr) (op : AssignOperator) → IsExpr 14 env i l j → level l ≤ 2 → Reads j inner (after_expr env l) (λ z. Sign (assign_mark op) ∷ z)
      → IsExpr 15 (after_expr env l) inner r end → IsExpr 15 env i (Assign j.next op l r) end
  unfolding spell_expr after_expr WellFormed Numbered
  assign-whole env i j inner end l r op q low opening s = record {
    reads = both q.reads (both opening s.reads);
    holds = (low, q.holds, s.low, s.holds);
    low = omega arith;
    numbered = (q.numbered, q.reads.next, subst (λ v. Numbered v r) opening.next s.numbered);
  }

  assignment-by : (env : Env) (i j : Input) (l : Expr) → IsExpr 14 env i l j → (o : Option AssignOperator) → assigns (ahead j) ≡ o → Post (IsExpr 15 env i) (assignment_by parts l o j)
  unfolding assigned
  assignment-by env i j l q None h = lifted 14 15 env i l j (omega arith) q
  assignment-by env i j l q (Some op) h =
      let opening = token j (after_expr env l) (Sign (assign_mark op)) (assign_found (ahead j) op h) q.reads.names in
      choose_parser _ (nat_le (level l) 2) (assigned parts l op) fault j
      (λ low. bind _ (parts.expr 15 (step j)) (λ r. pure (Assign j.next op l r)) (sound.expr 15 (omega arith) (after_expr env l) (step j) opening.names) (λ r end s.
      assign-whole env i j (step j) end l r op q (leb-true (level l) 2 low) opening s))
      (λ _. tt)

  assignment-sound : (env : Env) (i j : Input) (l : Expr) → IsExpr 14 env i l j → Post (IsExpr 15 env i) (assignment_to parts l j)
  unfolding assignment_to
  assignment-sound env i j l q = assignment-by env i j l q (assigns (ahead j)) refl

  -- ---- levels

  pub goes_on-sound : (k : ℕ) → 4 ≤ k → (env : Env) (i j : Input) (e : Expr) → IsExpr (k - 1) env i e j → Post (IsExpr k env i) (goes_on parts k e j)
  unfolding goes_on
  goes_on-sound k four env i j e q = choose_parser _ (k == 14) (condition_of parts e) (if k == 15 then assignment_to parts e else with_operations e <$> operations parts k) j
      (λ h. subst (λ v. Post (IsExpr v env i) (condition_of parts e j)) (sym (eqb-true k 14 h)) (condition-sound env i j e (lifted (k - 1) 13 env i e j (omega (arith, eqb-true k 14 h)) q)))
      (λ _. choose_parser _ (k == 15) (assignment_to parts e) (with_operations e <$> operations parts k) j
      (λ h. subst (λ v. Post (IsExpr v env i) (assignment_to parts e j)) (sym (eqb-true k 15 h)) (assignment-sound env i j e (lifted (k - 1) 14 env i e j (omega (arith, eqb-true k 15 h)) q)))
      (λ _. bind _ (operations parts k j) (λ ops. pure (with_operations e ops)) (operations-sound k four (after_expr env e) j q.reads.names) (λ ops end r.
      chain-whole k env i j end e ops four q r)))

  pub above-sound : (k : ℕ) → SoundExpr (k + 3) (above_cast parts k)
  unfolding above_cast
  above-sound zero env i names = cast-sound parts sound env i names
  above-sound (suc k) env i names =
      bind _ (above_cast parts k i) (goes_on parts (k + 4)) (above-sound k env i names) (λ e j q.
      subst (λ v. Post (IsExpr v env i) (goes_on parts (k + 4) e j)) (plus k) (goes_on-sound (k + 4) (four k) env i j e (lifted (k + 3) (k + 4 - 1) env i e j (less k) q)))
    where
      plus : (k : ℕ) → k + 4 ≡ suc k + 3
      plus k = omega arith

      four : (k : ℕ) → 4 ≤ k + 4
      four k = omega arith

      less : (k : ℕ) → k + 3 ≤ k + 4 - 1
      less k = omega arith

  pub expr_of-sound : (k : ℕ) → 2 ≤ k → SoundExpr k (expr_of parts k)
  unfolding expr_of
  expr_of-sound k two env i names = choose_parser _ (nat_le k 2) (unary_expr parts) (above_cast parts (k - 3)) i
      (λ _. lift-sound 2 k (unary_expr parts) two (unary-sound parts sound) env i names)
      (λ h. lift-sound (k - 3 + 3) k (above_cast parts (k - 3)) (omega (arith, leb-false k 2 h)) (above-sound (k - 3)) env i names)
