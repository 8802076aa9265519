-- The number that is told of where a global object stands.
use Rattle.std.specs.Prelude.{ℕ, ◌+◌, ◌*◌, ◌^◌, List, [], ◌∷◌, length}
use Rattle.pw_value.specs.Values.{extended}
use Rattle.pw_value.specs.declared.value.Kind.{Kind}
use Rattle.pw_flow.specs.ValidFlow.{kind_size}
use Rattle.pw_run_languages.specs.Traces.{Standing, InMemory, InPlace}
use Rattle.pw_debug.specs.Walk.{is_signed, of_kind}

-- the number that bytes write, the first being worth most
abbrev pub number_in : List ℕ → ℕ
number_in [] = 0
number_in (b ∷ rest) = b * 256 ^ length rest + number_in rest

-- the number of a kind where an object stands: in the low bytes of a word, or in its own bytes in memory; extended to a word
abbrev pub number_of : Kind → Standing ℕ ℕ → ℕ
number_of kind (InPlace word) = of_kind kind word
number_of kind (InMemory bytes) = extended (kind_size kind) (is_signed kind) (number_in bytes)
