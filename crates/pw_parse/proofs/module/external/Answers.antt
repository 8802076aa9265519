use Rattle.std.proofs.Common.{rules, arith}
use Rattle.std.proofs.lemmas.Grind.{common_steps}
use Rattle.pw_parse_grammar.specs.Modules.{external, external_behind}
use Rattle.pw_parse_cursor.proofs.Shown.{none_shown}
use Rattle.pw_parse.proofs.module.external.Goals as goal

pub returns-then-is_empty : goal.returns-then-is_empty
unfolding external external_behind
returns-then-is_empty c =
    let none = none_shown c.in_ok-specifiers.specifiers.items in
    first_of (search rules, grind (arith, common_steps))

pub returns-then-eat : goal.returns-then-eat
unfolding external external_behind
returns-then-eat c =
    let none = none_shown c.in_ok-specifiers.specifiers.items in
    first_of (search rules, grind (arith, common_steps))

pub returns : goal.returns
unfolding external external_behind
returns c =
    let none = none_shown c.in_ok-specifiers.specifiers.items in
    first_of (search rules, grind (arith, common_steps))
