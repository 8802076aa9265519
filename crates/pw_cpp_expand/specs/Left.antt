-- How much is left to expand. Each turn leaves less, since what replacements may produce is limited.
use Rattle.std.specs.Prelude.{ℕ, ◌+◌, ◌-◌, List, [], ◌∷◌, length}
use Rattle.pw_cpp_expand.specs.Expansion.{produced_limit}
use Rattle.pw_cpp_expand.specs.declared.expansion.Call.{Call}
use Rattle.pw_cpp_expand.specs.declared.expansion.Expander.{Expander}
use Rattle.pw_cpp_expand.specs.declared.expansion.Raw.{Raw}
use Rattle.pw_cpp_expand.specs.declared.progress.Progress.{Progress}

-- of arguments that wait: their tokens, and a turn for each
abbrev pub left_of_raws : List Raw → ℕ
left_of_raws [] = 0
left_of_raws (raw ∷ raws) = 1 + length raw.tokens + left_of_raws raws

-- of an open call: the arguments that wait, what stands behind it, and its end
abbrev pub left_of_call : Call → ℕ
left_of_call call = 1 + length call.behind + left_of_raws call.waiting

abbrev pub left_of_calls : List Call → ℕ
left_of_calls [] = 0
left_of_calls (call ∷ calls) = left_of_call call + left_of_calls calls

-- Of a text of so many bytes: the tokens that may still be produced, the bytes that are not read, the tokens at hand, and the open calls.
abbrev pub left : ℕ → Expander → Progress → ℕ
left size e p = (produced_limit - p.produced) + (size - p.next) + length e.pending + left_of_calls e.calls
