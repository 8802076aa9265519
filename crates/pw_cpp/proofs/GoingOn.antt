-- The next line begins further on.
use Rattle.std.proofs.Common.{◌≡◌, ℕ, ◌+◌, ◌<◌, ◌≤◌, List, length, Result, arith}
use Rattle.std.proofs.lemmas.Result.{IfOk-weaker}
use Rattle.std.specs.Prelude.{IfOk}
use Rattle.pw_cpp.specs.Answers.{IsWithin}
use Rattle.pw_cpp.specs.declared.reader.Reader.{Reader}
use Rattle.pw_cpp_directives.specs.declared.directive.Fault.{Fault}

-- behind a place that stands no earlier
pub step-on : (new : Reader) (text : List ℕ) (place at : ℕ) (result : Result ℕ Fault) → at ≤ place → IfOk result (λ next. IsWithin new × (next ≤ length text) × (place < next))
    → IfOk result (λ next. IsWithin new × (next ≤ length text) × (at < next))
step-on new text place at result l h =
    let P : ℕ → Type 0 = λ next. IsWithin new × (next ≤ length text) × (place < next) in
    let Q : ℕ → Type 0 = λ next. IsWithin new × (next ≤ length text) × (at < next) in
    IfOk-weaker result P Q (λ next k. (k.0, k.1, omega (arith, l, k.2))) h

-- a header is read, and reading goes on behind the line of its include
pub quoted-on : (new : Reader) (text : List ℕ) (behind next : ℕ) (result : Result ℕ Fault) → next ≤ length text → behind + 1 ≤ next → IfOk result (λ answer. IsWithin new × (answer ≡ next))
    → IfOk result (λ answer. IsWithin new × (answer ≤ length text) × (behind < answer))
quoted-on new text behind next result w l h =
    let P : ℕ → Type 0 = λ answer. IsWithin new × (answer ≡ next) in
    let Q : ℕ → Type 0 = λ answer. IsWithin new × (answer ≤ length text) × (behind < answer) in
    IfOk-weaker result P Q (λ answer k. (k.0, omega (arith, w, k.1), omega (arith, l, k.1))) h
