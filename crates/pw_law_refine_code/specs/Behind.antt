-- The blocks that lie behind a later part: those of the labels in an earlier one that a `goto` can name.
use Rattle.std.specs.Prelude.{ℕ, List, map, filter}
use Rattle.pw_lower.specs.declared.code.Code.{Code}
use Rattle.pw_lower.specs.Codes.{block_of_label}
use Rattle.pw_cmean.specs.Execution.{holds}
use Rattle.pw_law_refine_steps.specs.FromLawRefine.Activations.{Activation}

abbrev pub named_blocks : Activation → (own : List ℕ) → Code → List ℕ
named_blocks x own c = map (block_of_label c) (filter (holds x.function.named) own)
