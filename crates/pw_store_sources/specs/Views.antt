-- What the code's sources stand for.
use Rattle.std.specs.Prelude.{ℕ, List}
use Rattle.pw_store_sources.specs.declared.source.Source.{Source}

-- a C source: its module's name and its text
abbrev pub named_text : Source → List ℕ × List ℕ
named_text source = (source.name, source.text.items)
