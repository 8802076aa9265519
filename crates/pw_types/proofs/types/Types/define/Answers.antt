use Rattle.std.proofs.Common.{subst, sym}
use Rattle.pw_types.specs.Records.{IsLaid}
use Rattle.pw_types.specs.Views.{view_content}
use Rattle.pw_types.proofs.RecordLemmas.{IsLaid-define, set-defined}
use Rattle.pw_types.proofs.types.Types.define.Goals as goal

pub returns : goal.returns
returns c =
    set-defined
    c.self.inside.records.items c.args.self.now c.args.number c.index.result.now c.args.content
    c.self.view_is c.index.ensures c.requires.undefined

pub invariant_of-self : goal.invariant_of-self
invariant_of-self c =
    subst IsLaid
    (sym (set-defined
    c.self.inside.records.items c.args.self.now c.args.number c.index.result.now c.args.content
    c.self.view_is c.index.ensures c.requires.undefined))
    (IsLaid-define
    c.args.self.now c.args.number (view_content c.args.content)
    c.requires.undefined c.requires.follows (subst IsLaid c.self.view_is c.self.invariant))
