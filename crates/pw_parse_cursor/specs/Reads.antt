-- What a function that parses ensures: the parser's outcome, seen by a view, unless memory fails.
use Rattle.std.specs.Prelude.{◌≡◌, ◌≢◌, Result, Ok, Err}
use Rattle.pw_parse_cursor.specs.declared.stop.Stop.{Stop}
use Rattle.pw_parse_cursor.specs.declared.stop.Stop.TheVariants.{NoMemory}
use Rattle.pw_parse_grammar.specs.Input.{Input, Outcome}

abbrev pub Reads : {A V : Type 0} → (V → A) → Outcome A → Result V Stop → Input → Type 0
Reads view outcome (Ok v) new = outcome ≡ Ok (view v, new)
Reads view outcome (Err stop) new = stop ≢ NoMemory → outcome ≡ Err new

abbrev pub unit : Unit {0} → Unit {0}
unit u = u
