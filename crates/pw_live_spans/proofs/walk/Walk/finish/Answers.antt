use Rattle.std.proofs.Common.{◌<◌, arith, refl, vec_len}
use Rattle.std.specs.Prelude.{Some}
use Rattle.std.proofs.lemmas.Option.{slice_get_read, slice_get_within}
use Rattle.pw_live_spans.proofs.Walking.{ahead_without, close_marks, open_without}
use Rattle.pw_live_spans.proofs.walk.Walk.finish.Goals as goal

pub cover-requires : goal.cover-requires
cover-requires c = let up = c.args.self.now.ahead c.args.t c.args.end c.requires in omega (arith, up)

pub invariant_of-self-2 : goal.invariant_of-self-2
invariant_of-self-2 c = let w = c.args.self.now in record { same = w.same; ahead = ahead_without w.ends.items c.args.t w.place w.ahead }

pub returns-clause-marked : goal.returns-clause-marked
returns-clause-marked c =
    let w = c.args.self.now in
    let lt : c.args.t < vec_len w.lists = let low = slice_get_within w.ends.items c.args.t (Some c.args.end) c.requires in let same = w.same in let size = w.ends.ok.0 in omega (arith, low, same, size) in
    close_marks w _ c.args.t c.args.end c.index_mut.result.now c.cover.new.spans refl c.requires refl
    (slice_get_read w.lists.items (vec_len w.lists) c.args.t c.index_mut.result.now w.lists.ok.0 lt c.index_mut.ensures.value) refl c.in_ok-cover.ensures

pub returns-clause-opens : goal.returns-clause-opens
returns-clause-opens c = open_without c.args.self.now.ends.items c.args.t c.args.end c.requires
