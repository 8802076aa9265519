use Rattle.std.proofs.Common.{ap, ◌∙◌, vec_len}
use Rattle.std.specs.Prelude.{Some}
use Rattle.std.proofs.lemmas.Option.{slice_get_read}
use Rattle.pw_live_spans.proofs.Walking.{shut_opens}
use Rattle.pw_live_spans.proofs.walk.Walk.close_span.Goals as goal

pub finish-requires : goal.finish-requires
finish-requires c =
    let w = c.args.self.now in
    slice_get_read w.ends.items (vec_len w.ends) c.args.t c.index.result.now w.ends.ok.0 c.requires c.index.ensures ∙ ap Some c.in-Some.is

pub returns-in-None-clause-opens : goal.returns-in-None-clause-opens
returns-in-None-clause-opens c =
    let w = c.args.self.now in
    shut_opens w c.args.t (slice_get_read w.ends.items (vec_len w.ends) c.args.t c.index.result.now w.ends.ok.0 c.requires c.index.ensures ∙ ap Some c.in-None.is)
