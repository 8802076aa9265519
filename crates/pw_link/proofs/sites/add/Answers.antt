use Rattle.std.proofs.Common.{ℕ, List, [], ◌∷◌, ◌++◌, subst}
use Rattle.pw_link.specs.Views.{Tells}
use Rattle.pw_link.proofs.Telling.{Tells-new, Tells-there, none_of, some_of}
use Rattle.pw_link.proofs.sites.add.Goals as goal

pub returns-in_ok-insert : goal.returns-in_ok-insert
returns-in_ok-insert c = λ sites tells.
    let lacks = none_of c.get.result c.is_none.result c.is_none.ensures c.if-is_none.true _ c.get.ensures.value in
    subst (λ (n : List ℕ). Tells c.insert.new.self.entries (sites ++ (n, c.args.address) ∷ [])) c.as_bytes-bytes.ensures.bytes
    (Tells-new c.args.names.now.entries sites tells c.as_bytes-bytes.result c.args.address c.insert.new.self.entries lacks c.in_ok-insert.ensures.updates.0)

pub returns-else-is_none : goal.returns-else-is_none
returns-else-is_none c = λ sites tells.
    let has = some_of c.get.result c.is_none.result c.is_none.ensures c.if-is_none.false _ c.get.ensures.value in
    subst (λ (n : List ℕ). Tells c.args.names.now.entries (sites ++ (n, c.args.address) ∷ [])) c.as_bytes-bytes.ensures.bytes
    (Tells-there c.args.names.now.entries sites tells c.as_bytes-bytes.result c.args.address has.0 has.1)
