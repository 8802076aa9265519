use Rattle.std.proofs.Common.{sym}
use Rattle.std.proofs.lemmas.Option.{slice_get_read}
use Rattle.std.specs.Vec.{vec_len}
use Rattle.pw_scope.proofs.Places.{Agree_absent, Agree_within, Agree_at}
use Rattle.pw_scope.proofs.scopes.Scopes.visible.Goals as goal

pub returns-in_err-place : goal.returns-in_err-place
returns-in_err-place g c =
    let inside = c.self.inside in
    rw (c.from_residual.ensures, ← c.self.view_is) (sym (Agree_absent inside.entries.items inside.last_places.entries c.self.invariant c.args.name c.in_err-place.ensures.value))

pub index-requires : goal.index-requires
index-requires g c =
    let inside = c.self.inside in
    rw inside.entries.ok.0 (Agree_within inside.entries.items inside.last_places.entries c.self.invariant c.args.name c.in_ok-place.field-0.now c.in_ok-place.ensures.value)

pub returns : goal.returns
returns g c =
    let inside = c.self.inside in
    let place = c.in_ok-place.field-0.now in
    let entries = inside.entries.items in
    let within = Agree_within entries inside.last_places.entries c.self.invariant c.args.name place c.in_ok-place.ensures.value in
    let there = slice_get_read entries (vec_len inside.entries) place c.index.result.now inside.entries.ok.0 (rw inside.entries.ok.0 within) c.index.ensures in
    rw (← c.self.view_is) (Agree_at entries inside.last_places.entries c.self.invariant c.args.name place c.in_ok-place.ensures.value c.index.result.now there)
