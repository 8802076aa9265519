use Rattle.std.proofs.Common.{◌≡◌, ap, refl, ◌∙◌, vec_len}
use Rattle.std.specs.Prelude.{None, Some, slice_get}
use Rattle.std.proofs.lemmas.Option.{slice_get-get_or, slice_get_read}
use Rattle.pw_alloc_taken.proofs.Defining.{definitions_other, definitions_more}
use Rattle.pw_alloc_taken.proofs.facts.put_point.Goals as goal

pub index_mut-requires : goal.index_mut-requires
index_mut-requires c = c.requires.makers c.args.p c.in-Some.t (slice_get-get_or c.args.makers.now c.args.p None c.requires.point ∙ ap Some c.in-Some.is)

pub returns-in_ok-push-in-Some-clause-after : goal.returns-in_ok-push-in-Some-clause-after
returns-in_ok-push-in-Some-clause-after c =
    let makers = c.args.makers.now in
    let p = c.args.p in
    let t = c.in-Some.t in
    let rows = c.args.rows.now in
    let at : slice_get makers p ≡ Some (Some t) = slice_get-get_or makers p None c.requires.point ∙ ap Some c.in-Some.is in
    let there = slice_get_read rows.items (vec_len rows) t c.index_mut.result.now rows.ok.0 (c.requires.makers p t at) c.index_mut.ensures.value in
    definitions_more makers rows.items _ p t c.index_mut.result.now c.push.new.self at there c.in_ok-push-in-Some.ensures refl c.requires.before

pub returns-in-None-clause-after : goal.returns-in-None-clause-after
returns-in-None-clause-after c = definitions_other c.args.makers.now c.args.rows.now.items c.args.p (slice_get-get_or c.args.makers.now c.args.p None c.requires.point ∙ ap Some c.in-None.is) c.requires.before
