use Rattle.std.proofs.Common.{rules, arith}
use Rattle.std.proofs.lemmas.Grind.{common_steps}
use Rattle.pw_parse_grammar.specs.Declarations.{declaration}
use Rattle.pw_parse_grammar.specs.Expressions.{some_specifiers}
use Rattle.pw_parse_cursor.proofs.Shown.{none_shown}
use Rattle.pw_parse_decl.proofs.decl.declaration.Goals as goal

pub returns-then-eat : goal.returns-then-eat
unfolding declaration some_specifiers
returns-then-eat g c =
    let none = none_shown c.in_ok-specifiers.specifiers.items in
    first_of (search rules, grind (arith, common_steps))

pub returns-in_err-declared : goal.returns-in_err-declared
unfolding declaration some_specifiers
returns-in_err-declared g c =
    let none = none_shown c.in_ok-specifiers.specifiers.items in
    first_of (search rules, grind (arith, common_steps))

pub returns : goal.returns
unfolding declaration some_specifiers
returns g c =
    let none = none_shown c.in_ok-specifiers.specifiers.items in
    first_of (search rules, grind (arith, common_steps))
