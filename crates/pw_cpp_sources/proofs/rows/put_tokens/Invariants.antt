use Rattle.std.proofs.Common.{◌≡◌, ◌++◌, drop}
use Rattle.pw_cpp_sources.specs.Rows.{spelled_tokens}
use Rattle.pw_cpp_sources.proofs.rows.put_tokens.Given as goal

-- the tokens that are left are still to come
abbrev pub invariant-loop-lexeme : goal.invariant-loop-lexeme
invariant-loop-lexeme l = l.out.items ++ spelled_tokens l.source (drop l.lexeme-index l.tokens) ≡ l.initial.out.items ++ spelled_tokens l.source l.tokens
