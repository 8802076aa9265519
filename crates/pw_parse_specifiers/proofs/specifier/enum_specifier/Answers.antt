use Rattle.std.proofs.Common.{rules, arith}
use Rattle.std.proofs.lemmas.Grind.{common_steps}
use Rattle.pw_parse_grammar.specs.Specifiers.{enum_specifier}
use Rattle.pw_parse_specifiers.proofs.Shown.{enum_shown}
use Rattle.pw_parse_specifiers.proofs.specifier.enum_specifier.Goals as goal

pub returns-then-eat : goal.returns-then-eat
unfolding enum_specifier
returns-then-eat g c =
    let shown = enum_shown c.declarators_show_their_lists.ensures.enumerations in
    first_of (search (rules, shown), grind (arith, common_steps, shown))
