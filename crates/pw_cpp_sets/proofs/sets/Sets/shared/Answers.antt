use Rattle.std.proofs.Common.{◌∙◌, ◌++◌, ap, length, map, sym, arith}
use Rattle.std.proofs.lemmas.Result.{IfOk-weaker}
use Rattle.pw_cpp_sets.specs.Sets.{set_at, shared}
use Rattle.pw_cpp_sets.proofs.Nodes.{said, set-within, shared-known, shared-self}
use Rattle.pw_cpp_sets.proofs.sets.Sets.shared.Goals as goal

pub returns-then-one-other-clause-number : goal.returns-then-one-other-clause-number
returns-then-one-other-clause-number c = (
  c.requires.one,
  sym (shared-self (set_at c.args.self.now c.args.one)) ∙ ap (λ x. shared (set_at c.args.self.now c.args.one) (set_at c.args.self.now x)) c.if-one-other.true,
)

pub names_shared-requires-clause-one : goal.names_shared-requires-clause-one
names_shared-requires-clause-one c =
    omega (arith, set-within c.self.inside.nodes.items c.args.self.now c.args.one c.self.view_is c.requires.one, ap length c.deref.ensures.value)

pub names_shared-requires-clause-other : goal.names_shared-requires-clause-other
names_shared-requires-clause-other c =
    omega (arith, set-within c.self.inside.nodes.items c.args.self.now c.args.other c.self.view_is c.requires.other, ap length c.deref.ensures.value)

pub returns-clause-number : goal.returns-clause-number
returns-clause-number c =
    IfOk-weaker c.with_names.result _ _
    (λ n h. (
      h.0,
      h.1 ∙ shared-known c.self.inside.nodes.items c.deref.result.now c.args.self.now c.args.one c.args.other (map said c.in_ok-names.names.items) c.self.view_is c.deref.ensures.value c.in_ok-names.ensures,
    )) c.with_names.ensures.number
