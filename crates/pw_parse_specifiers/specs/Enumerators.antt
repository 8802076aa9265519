-- Enumerators whose name was read (C90 6.5.2.2).
use Rattle.std.specs.Prelude.{ℕ, List, false}
use Rattle.pw_tree.specs.Levels.{conditional}
use Rattle.pw_tree.specs.Trees.{Word, Enumerators, ValuedEnumerator}
use Rattle.pw_parse_grammar.specs.Input.{Parser, ◌>>=◌, ◌>>◌, pure, declare}
use Rattle.pw_parse_grammar.specs.Parts.{Parts}

-- the value behind the `=`; the scope of the name, which has this text, begins behind it
unfoldable pub valued : Parts → List ℕ → Word → Parser (Enumerators → Enumerators)
valued parts text name = do
  e ← parts.expr conditional
  declare (text, false)
  pure (ValuedEnumerator name e)
