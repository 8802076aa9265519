use Rattle.std.proofs.Common.{◌≡◌, ℕ, Option, refl, sym, ap, ap₂, subst, ◌∙◌, rules}
use Rattle.clap.specs.Matches.{first_value, found_of}
use Rattle.pw_value.specs.Limits.{stack_least, stack_limit}
use Rattle.pw_top_words.specs.CommandLine.{Reads, stack, number_or, usual_stack}
use Rattle.pw_top_words.proofs.Said.{option_said}
use Rattle.pw_top_words.proofs.reading.stack.Goals as goal

pub returns-in_err-number_or-clause-read : goal.returns-in_err-number_or-clause-read
returns-in_err-number_or-clause-read c = λ parts same.
    let told : Reads (number_or stack_least stack_limit usual_stack (first_value (found_of c.args.matches.now) stack)) c.from_residual.result = search rules in
    subst (λ (o : Option ℕ). Reads o c.from_residual.result) (ap (number_or stack_least stack_limit usual_stack) (option_said stack parts c.args.matches.now refl same)) told

pub returns-clause-read : goal.returns-clause-read
returns-clause-read c = λ parts same.
    let given = first_value (found_of c.args.matches.now) stack in
    let low : c.from.result ≡ stack_least = search rules in
    let high : c.from-2.result ≡ stack_limit = search rules in
    let limits : number_or c.from.result c.from-2.result usual_stack given ≡ number_or stack_least stack_limit usual_stack given = ap₂ (λ (x y : ℕ). number_or x y usual_stack given) low high in
    sym (ap (number_or stack_least stack_limit usual_stack) (option_said stack parts c.args.matches.now refl same)) ∙ sym limits ∙ c.in_ok-number_or.ensures.read
