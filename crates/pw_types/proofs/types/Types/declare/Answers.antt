use Rattle.std.proofs.Common.{subst, sym, ap, ◌∙◌}
use Rattle.pw_types.specs.Records.{IsLaid}
use Rattle.pw_types.specs.Views.{view_record, view_records}
use Rattle.pw_types.proofs.ListLemmas.{map-append_one}
use Rattle.pw_types.proofs.RecordLemmas.{IsLaid-declare}
use Rattle.pw_types.proofs.types.Types.declare.Goals as goal

pub invariant_of-self : goal.invariant_of-self
invariant_of-self c = subst IsLaid (sym (ap view_records c.in_err-push.ensures.items)) c.self.invariant

pub invariant_of-self-2 : goal.invariant_of-self-2
invariant_of-self-2 c =
    subst IsLaid
    (sym (ap view_records c.in_ok-push.ensures.items ∙ map-append_one view_record c.self.inside.records.items _))
    (IsLaid-declare (view_records c.self.inside.records.items) c.args.kind c.self.invariant)
