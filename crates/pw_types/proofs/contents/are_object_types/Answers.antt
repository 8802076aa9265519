use Rattle.std.proofs.Common.{◌↔◌, IsTrue, All, rules}
use Rattle.pw_types.specs.Records.{IsObjectType}
use Rattle.pw_types.specs.Views.{view_type}
use Rattle.pw_types.specs.declared.record.Member.{Member}
use Rattle.pw_types.proofs.MeasureLemmas.{All-members, members-All}
use Rattle.pw_types.proofs.contents.are_object_types.Goals as goal

pub returns : goal.returns
returns c =
    let each : IsTrue c.all.result ↔ All (λ (m : Member). IsObjectType c.args.types.now (view_type m.ty.ty)) c.args.members.now = search rules in
    (λ test. All-members c.args.types.now c.args.members.now (each.0 test), λ all. each.1 (members-All c.args.types.now c.args.members.now all))
