use Rattle.std.proofs.Common.{rules, arith}
use Rattle.std.proofs.lemmas.Grind.{common_steps}
use Rattle.pw_parse_grammar.specs.Modules.{external_with}
use Rattle.pw_parse_cursor.proofs.Shown.{none_shown}
use Rattle.pw_parse.proofs.module.external_with.Goals as goal

pub returns-in_err-decl : goal.returns-in_err-decl
unfolding external_with
returns-in_err-decl c =
    let none = none_shown c.args.specifiers.items in
    first_of (search rules, grind (arith, common_steps))

pub returns-then-goes_on_as_declaration : goal.returns-then-goes_on_as_declaration
unfolding external_with
returns-then-goes_on_as_declaration c =
    let none = none_shown c.args.specifiers.items in
    first_of (search rules, grind (arith, common_steps))
