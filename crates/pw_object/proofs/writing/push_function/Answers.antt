use Rattle.pw_object.proofs.writing.push_function.Goals as goal

pub push_fixes-requires-clause-stand : goal.push_fixes-requires-clause-stand
push_fixes-requires-clause-stand c = rw c.as_slice-2.ensures c.requires.stand.fixes
