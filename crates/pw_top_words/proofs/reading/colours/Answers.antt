use Rattle.std.proofs.Common.{◌≡◌, ℕ, Option, Some, refl, sym, ap, subst, ◌∙◌, rules}
use Rattle.clap.specs.Matches.{first_value, found_of}
use Rattle.pw_top_words.specs.CommandLine.{Reads, colours, number_or}
use Rattle.pw_top_words.proofs.Said.{option_said}
use Rattle.pw_top_words.proofs.reading.colours.Goals as goal
use Rattle.pw_db.specs.Limits.{colour_limit}

pub returns-in_err-number_or-clause-read : goal.returns-in_err-number_or-clause-read
returns-in_err-number_or-clause-read c = λ parts same.
    let told : Reads (number_or 0 colour_limit colour_limit (first_value (found_of c.args.matches.now) colours)) c.from_residual.result = search rules in
    subst (λ (o : Option ℕ). Reads o c.from_residual.result) (ap (number_or 0 colour_limit colour_limit) (option_said colours parts c.args.matches.now refl same)) told

pub returns-clause-read : goal.returns-clause-read
returns-clause-read c = λ parts same.
    let told : number_or 0 colour_limit colour_limit (first_value (found_of c.args.matches.now) colours) ≡ Some c.in_ok-number_or.field-0 = c.in_ok-number_or.ensures.read in
    sym (ap (number_or 0 colour_limit colour_limit) (option_said colours parts c.args.matches.now refl same)) ∙ told
