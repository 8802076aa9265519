use Rattle.std.proofs.Common.{◌∙◌, sym, arith}
use Rattle.std.proofs.lemmas.Grind.{common_steps}
use Rattle.pw_check_init_parts.proofs.CursorLemmas.{given_within}
use Rattle.pw_check_init_parts.proofs.cursor.elements_given.Goals as goal

pub returns-in-Some-checked_add : goal.returns-in-Some-checked_add
returns-in-Some-checked_add c =
    c.in-Some-checked_add.ensures.1
    ∙ sym (given_within c.in-Some.outermost.now c.args.cursor.now c.in-Some.within.now c.in-Some.ensures.cases.0 (grind (arith, common_steps)))

pub returns-in-None : goal.returns-in-None
returns-in-None c =
    let given = given_within c.in-Some.outermost.now c.args.cursor.now c.in-Some.within.now c.in-Some.ensures.cases.0 (grind (arith, common_steps)) in
    grind (arith, common_steps, given)
