use Rattle.pw_db.proofs.ChoosingLaws.{has_found_by, has_none}
use Rattle.pw_db.proofs.choosing.directives_of.Goals as goal

pub returns-in-Some : goal.returns-in-Some
returns-in-Some c = has_found_by c.args.functions.now c.args.name.now c.in-Some.directives.now c.copy.result c.in-Some.ensures.found c.copy.ensures

pub returns-in-None : goal.returns-in-None
returns-in-None c = has_none c.args.functions.now c.args.name.now _ c.in-None.ensures.none c.none.ensures
