use Rattle.std.proofs.Common.{map, arith}
use Rattle.pw_store_texts.specs.Seen.{outcome}
use Rattle.pw_store_texts.proofs.SeenLemmas.{answers-many, answers-placed}
use Rattle.pw_store_texts.proofs.modules.placed_modules.Goals as goal

pub returns-in-Ok-clause-modules : goal.returns-in-Ok-clause-modules
returns-in-Ok-clause-modules c = λ files read comes.
    answers-placed (record { exact = c.modules_are_exact.ensures.exact; inserted = c.other_files.ensures.inserted; insertion = c.other_files.ensures.insertion }) files (map outcome c.args.outputs.items) c.args.modules c.in_ok-all.all
    read comes c.in_ok-all.ensures (omega (arith, c.in-Ok.ensures.few))

pub returns-in-Err-clause-modules : goal.returns-in-Err-clause-modules
returns-in-Err-clause-modules c = λ files read comes.
    answers-many (record { exact = c.modules_are_exact.ensures.exact; inserted = c.other_files.ensures.inserted; insertion = c.other_files.ensures.insertion }) files (map outcome c.args.outputs.items) c.args.modules c.in_ok-all.all c.in-Err.fault _
    (omega arith) read comes c.in_ok-all.ensures c.in-Err.ensures.many
