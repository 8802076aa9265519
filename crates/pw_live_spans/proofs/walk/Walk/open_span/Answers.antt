use Rattle.std.proofs.Common.{ap, ◌∙◌, vec_len}
use Rattle.std.specs.Prelude.{Some}
use Rattle.std.proofs.lemmas.Option.{slice_get_read}
use Rattle.pw_live_spans.proofs.Walking.{opened_marks, opened_opens}
use Rattle.pw_live_spans.proofs.walk.Walk.open_span.Goals as goal

pub start-requires-clause-shut : goal.start-requires-clause-shut
start-requires-clause-shut c =
    let w = c.args.self.now in
    slice_get_read w.ends.items (vec_len w.ends) c.args.t c.index.result.now w.ends.ok.0 c.requires.temp c.index.ensures ∙ ap Some c.in-None.is

pub returns-in-Some-clause-marked : goal.returns-in-Some-clause-marked
returns-in-Some-clause-marked c =
    let w = c.args.self.now in
    opened_marks w c.args.t c.in-Some.field-0 (slice_get_read w.ends.items (vec_len w.ends) c.args.t c.index.result.now w.ends.ok.0 c.requires.temp c.index.ensures ∙ ap Some c.in-Some.is)

pub returns-in-Some-clause-opens : goal.returns-in-Some-clause-opens
returns-in-Some-clause-opens c =
    let w = c.args.self.now in
    opened_opens w c.args.t c.in-Some.field-0 (slice_get_read w.ends.items (vec_len w.ends) c.args.t c.index.result.now w.ends.ok.0 c.requires.temp c.index.ensures ∙ ap Some c.in-Some.is)
