use Rattle.std.proofs.Common.{◌≡◌, length, ◌∙◌}
use Rattle.pw_scope.specs.declared.entry.Entry.{Entry}
use Rattle.pw_scope.proofs.Places.{Agree-declared}
use Rattle.pw_scope.proofs.scopes.Scopes.declare.Goals as goal

pub invariant_of-self-2 : goal.invariant_of-self-2
invariant_of-self-2 g c =
    let entry : Entry g.row.T.Denot = record { name = c.args.name; meaning = c.args.meaning; hidden = c.in_ok-hidden.hidden } in
    let inside = c.self.inside in
    let place : c.len.result ≡ length inside.entries.items = c.len.ensures ∙ c.reserve.ensures.len ∙ inside.entries.ok.0 in
    rw (c.in_ok-push.ensures.items, c.reserve.ensures.items) (Agree-declared inside.entries.items entry inside.last_places.entries c.insert.new.self.entries c.len.result place c.self.invariant c.in_ok-hidden.ensures.old c.in_ok-hidden.ensures.updates.0)
