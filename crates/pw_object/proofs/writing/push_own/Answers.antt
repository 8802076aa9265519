use Rattle.pw_object.proofs.writing.push_own.Goals as goal

pub push_name-requires-clause-stands : goal.push_name-requires-clause-stands
push_name-requires-clause-stands c = c.requires.stand.of_module

pub push_shaped_list-requires-clause-stand : goal.push_shaped_list-requires-clause-stand
push_shaped_list-requires-clause-stand c = rw c.as_slice-3.ensures c.requires.stand.declared

pub push_name_list-requires-clause-stand : goal.push_name_list-requires-clause-stand
push_name_list-requires-clause-stand c = rw c.as_slice-4.ensures c.requires.stand.used
