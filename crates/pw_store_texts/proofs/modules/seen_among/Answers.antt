use Rattle.std.proofs.Common.{ap, map, ◌∙◌}
use Rattle.std.specs.Prelude.{string_bytes}
use Rattle.pw_store_texts.specs.Seen.{outcome}
use Rattle.pw_store_texts.proofs.PlainLemmas.{cause_on, many_told, seen_told}
use Rattle.pw_store_texts.proofs.modules.seen_among.Goals as goal

pub returns-in-Ok-clause-seen : goal.returns-in-Ok-clause-seen
returns-in-Ok-clause-seen g c =
    seen_told (g.S.Store.told c.args.store.now) _ (map string_bytes c.args.names.now) (map outcome c.in_ok-made.made.outputs.items) (map outcome c.deref.result.now) c.in-Ok.plain c.in_ok-made.made.bytes c.modules_seen.result
    c.in_ok-made.ensures.comes c.in_ok-made.ensures.bytes c.in_ok-made.ensures.same (ap (map outcome) c.deref.ensures.value) c.in-Ok.ensures.plain c.modules_seen.ensures.seen

pub returns-in-Ok-clause-cause : goal.returns-in-Ok-clause-cause
returns-in-Ok-clause-cause g c = cause_on _ _ c.modules_seen.result (c.in-Ok.ensures.cause ∙ c.in_ok-made.ensures.cause) c.modules_seen.ensures.cause

pub returns-in-Err-clause-seen : goal.returns-in-Err-clause-seen
returns-in-Err-clause-seen g c =
    many_told (record { laws = record { exact = c.modules_are_exact.ensures.exact; inserted = c.other_files.ensures.inserted; insertion = c.other_files.ensures.insertion }; keys = c.names.ensures.exact })
    (g.S.Store.told c.args.store.now) _ (map string_bytes c.args.names.now) (map outcome c.in_ok-made.made.outputs.items) (map outcome c.deref.result.now) c.in-Err.fault c.in_ok-made.ensures.comes c.in_ok-made.ensures.same
    (ap (map outcome) c.deref.ensures.value) c.in-Err.ensures.plain
