-- What every operation asks for, whatever operation it is.
use Rattle.std.specs.Prelude.{ℕ, ◌≡◌, false, Option, Some, None, Contains}
use Rattle.pw_value.specs.declared.value.Value.{Value}
use Rattle.pw_flow.specs.declared.flow.Op.{Op}
use Rattle.pw_flow.specs.Uses.{op_uses, op_defines, op_calls}
use Rattle.pw_run_languages.specs.Programs.{Program}
use Rattle.pw_run_languages.specs.Commands.{Command, Give, Combine, Look, GetGlobal, Enter, Fail, command}

-- it depends on the temporaries that the operation reads alone
abbrev pub CommandsRestOnUses : Type 0
CommandsRestOnUses =
    (p : Program) (base : ℕ) (o : Op) (a b : ℕ → Value) → ((t : ℕ) → Contains (op_uses o) t → a t ≡ b t) →
    command p base o a ≡ command p base o b

-- a command that calls nothing
abbrev pub StaysInside : Command → Type 0
StaysInside (Enter t f args) = ⊥
StaysInside c = Unit {0}

-- an operation that is no call calls nothing
abbrev pub CallsAloneEnter : Type 0
CallsAloneEnter = (p : Program) (base : ℕ) (o : Op) (value : ℕ → Value) → op_calls o ≡ false → StaysInside (command p base o value)

-- a command gives its result to this temporary
abbrev pub HasResult : Option ℕ → Command → Type 0
HasResult result (Give t v) = result ≡ Some t
HasResult result (Combine k t v w) = result ≡ Some t
HasResult result (Look k t a) = result ≡ Some t
HasResult result (GetGlobal t g k) = result ≡ Some t
HasResult result (Enter t f args) = result ≡ t
HasResult result Fail = Unit {0}
HasResult result c = result ≡ None

-- the result goes to the temporary that the operation defines
abbrev pub CommandsHaveResults : Type 0
CommandsHaveResults = (p : Program) (base : ℕ) (o : Op) (value : ℕ → Value) → HasResult (op_defines o) (command p base o value)
