use Rattle.pw_fields.proofs.NameTables.{search_found, search_none}
use Rattle.pw_fields.proofs.names.find_name.Goals as goal

pub returns-in-Ok-clause-found : goal.returns-in-Ok-clause-found
returns-in-Ok-clause-found c = (c.in-Ok.ensures.bound, search_found c.args.names.now c.args.name.now c.requires c.in-Ok.place c.in-Ok.ensures.bound c.in-Ok.ensures.position)

pub returns-in-Err-clause-none : goal.returns-in-Err-clause-none
returns-in-Err-clause-none c = search_none c.args.names.now c.args.name.now c.requires c.in-Err.field-0 c.in-Err.ensures.position
