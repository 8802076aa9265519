-- Statements without parts: the empty one and those that jump and give no value. Their rules leave the state as it is, so an
-- induction over rules has one case for all of them.
use Rattle.std.specs.Prelude.{ℕ, ◌≡◌, Bool, true, false}
use Rattle.pw_tree.specs.Trees.{Stmt}
use Rattle.pw_tree.specs.Trees as S
use Rattle.pw_types.specs.TypedTrees.{Statement}
use Rattle.pw_types.specs.TypedTrees as T
use Rattle.pw_check_walk.specs.Walks.{bind}
use Rattle.pw_check_rules.specs.States.{State}
use Rattle.pw_check_rules.specs.Statements.{goto_rule, continue_rule, break_rule, stmt_rule}
use Rattle.pw_law_checked.proofs.Walking.{Post}

-- what the typed tree has of such a statement
pub data Bare : Type 0 where
  Nothing : ℕ → Bare
  Going : ℕ → ℕ → Bare
  Leaving : ℕ → Bare
  Turning : ℕ → Bare

abbrev pub statement_of : Bare → Statement
statement_of (Nothing t) = T.Empty t
statement_of (Going t n) = T.Goto t n
statement_of (Leaving t) = T.Break t
statement_of (Turning t) = T.Continue t

abbrev pub is_bare : Stmt → Bool
is_bare (S.Empty t) = true
is_bare (S.Goto t w) = true
is_bare (S.Break t) = true
is_bare (S.Continue t) = true
is_bare st = false

-- what holds of each of them, with the state as it is, holds of what their rules make
pub bare_post : (P : Statement × State → Type 0) (st : Stmt) → is_bare st ≡ true → (s : State) → ((b : Bare) → P (statement_of b, s)) → Post (stmt_rule st s) P
unfolding stmt_rule goto_rule continue_rule break_rule bind
bare_post P (S.Empty t) is s h = h (Nothing t)
bare_post P (S.Goto t w) is s h = λ met. h (Going t _)
bare_post P (S.Break t) is s h = λ met. h (Leaving t)
bare_post P (S.Continue t) is s h = λ met. h (Turning t)
bare_post P st is s h = cc is
