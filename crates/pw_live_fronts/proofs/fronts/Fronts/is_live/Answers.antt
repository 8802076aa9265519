use Rattle.std.proofs.Common.{◌≡◌, ◌-◌, ◌<◌, ap, arith, ◌∙◌}
use Rattle.std.specs.Prelude.{Some, slice_get, vec_len}
use Rattle.std.specs.Bool.{IsTrue}
use Rattle.std.proofs.lemmas.Option.{slice_get_read}
use Rattle.pw_live_fronts.proofs.Collecting.{one_live, none_live}
use Rattle.pw_live_fronts.proofs.fronts.Fronts.is_live.Goals as goal

pub returns-in-Some : goal.returns-in-Some
returns-in-Some c =
    let v = c.args.self.now in
    let e = v.exposed in
    let row = c.index-in-Some.result.now in
    let lt = c.requires.block in
    let many = c.len.ensures in
    let place : c.len.result - 1 - c.args.block < vec_len v.rows = omega (arith, lt, many) in
    let same : vec_len v.rows - 1 - c.args.block ≡ c.len.result - 1 - c.args.block = omega (arith, many) in
    one_live v c.args.block c.args.t c.in-Some.i row (IsTrue c.contains.result)
    (slice_get_read e.numbers.items (vec_len e.numbers) c.args.t c.index.result.now e.numbers.ok.0 c.requires.temp c.index.ensures ∙ ap Some c.in-Some.is)
    (ap (slice_get v.rows.items) same ∙ slice_get_read v.rows.items (vec_len v.rows) (c.len.result - 1 - c.args.block) row v.rows.ok.0 place c.index-in-Some.ensures)
    c.contains.ensures

pub returns-in-None : goal.returns-in-None
returns-in-None c = (
  λ e. absurd cc,
  λ l.
      let v = c.args.self.now in
      let e = v.exposed in
      absurd (none_live v c.args.block c.args.t (slice_get_read e.numbers.items (vec_len e.numbers) c.args.t c.index.result.now e.numbers.ok.0 c.requires.temp c.index.ensures ∙ ap Some c.in-None.is) l),
)
