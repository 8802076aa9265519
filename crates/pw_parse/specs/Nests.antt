-- Function values that parse statements or initializers to a depth.
use Rattle.std.specs.Prelude.{ℕ, Result}
use Rattle.std.specs.declared.alloc.Global.{Global}
use denote.Ref.{MutBor}
use Rattle.pw_parse_cursor.specs.declared.stop.Stop.{Stop}
use Rattle.pw_parse_grammar.specs.Input.{Input, Parser}
use Rattle.pw_parse_cursor.specs.Reads.{Reads}

-- What is read, seen by a view, is what the parser reads that has the limit of expressions and declarations and the depth.
pub record Nests {V A : Type 0} (view : V → A) (parser : ℕ → ℕ → Parser A) (limit depth : ℕ)
    (pre : Global → MutBor Input → ℕ → ℕ → Type 0)
    (post : Global → MutBor Input → ℕ → ℕ → Result V Stop → MutBor Input → Type 0) : Type 0 where
  pub callable : (alloc : Global) (old : MutBor Input) → pre alloc old limit depth
  pub reads : (alloc : Global) (old new : MutBor Input) (r : Result V Stop) → post alloc old limit depth r new
      → Reads view (parser limit depth old.now) r new.now
