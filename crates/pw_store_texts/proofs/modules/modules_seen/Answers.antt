use Rattle.std.proofs.Common.{◌∙◌}
use Rattle.pw_store_texts.proofs.CrowdLemmas.{answers-within, many-within}
use Rattle.pw_store_texts.proofs.modules.modules_seen.Goals as goal

pub returns-in_ok-modules_within-in-Ok-clause-seen : goal.returns-in_ok-modules_within-in-Ok-clause-seen
returns-in_ok-modules_within-in-Ok-clause-seen c = λ files read comes bytes.
    answers-within (record { laws = record { exact = c.modules_are_exact.ensures.exact; inserted = c.other_files.ensures.inserted; insertion = c.other_files.ensures.insertion }; keys = c.names.ensures.exact })
    files c.in-Ok.all c.in_ok-modules_within-in-Ok.field-0 (c.in-Ok.ensures.modules files read comes) (c.in_ok-modules_within-in-Ok.ensures files (c.in_ok-bytes.ensures ∙ bytes))

pub returns-in-Err-clause-seen : goal.returns-in-Err-clause-seen
returns-in-Err-clause-seen c = λ files read comes bytes.
    many-within (record { laws = record { exact = c.modules_are_exact.ensures.exact; inserted = c.other_files.ensures.inserted; insertion = c.other_files.ensures.insertion }; keys = c.names.ensures.exact })
    files c.in-Err.fault (c.in-Err.ensures.modules files read comes)
