use Rattle.std.proofs.Common.{rules, arith}
use Rattle.std.proofs.lemmas.Grind.{common_steps}
use Rattle.pw_parse_grammar.specs.Specifiers.{record_specifier}
use Rattle.pw_parse_specifiers.proofs.Shown.{record_shown}
use Rattle.pw_parse_specifiers.proofs.specifier.record_specifier.Goals as goal

pub returns-then-eat : goal.returns-then-eat
unfolding record_specifier
returns-then-eat g c =
    let shown = record_shown c.declarators_show_their_lists.ensures.records in
    first_of (search (rules, shown), grind (arith, common_steps, shown))
