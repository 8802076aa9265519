use Rattle.std.proofs.Common.{List, ℕ, ◌∷◌, [], ◌++◌, sym, ap, ◌∙◌}
use Rattle.std.specs.Option.{is_some}
use Rattle.pw_scope.specs.Visible.{visible}
use Rattle.pw_flow_valid.proofs.Apart.{is_repeated, is_met, stay_apart}
use Rattle.pw_flow_valid.proofs.distinct.are_distinct.Goals as goal

pub returns-then-is_some : goal.returns-then-is_some
returns-then-is_some c =
    let seen = c.visible.ensures ∙ ap (visible c.loop-name.met) (c.as_bytes.ensures.bytes ∙ ap (λ n. n.now) c.name-item.is) in
    let some = sym (ap is_some seen) ∙ sym c.is_some.ensures ∙ c.if-is_some.true in
    (λ b. absurd cc, λ distinct. absurd (is_repeated c.args.names.now c.loop-name.name-index c.name-item.result c.loop-name.met c.loop-name-test.true c.loop-name.invariant.met some distinct))

pub loop-name-preserved : goal.loop-name-preserved
loop-name-preserved c =
    let seen = c.visible.ensures ∙ ap (visible c.loop-name.met) (c.as_bytes.ensures.bytes ∙ ap (λ n. n.now) c.name-item.is) in
    let none = sym (ap is_some seen) ∙ sym c.is_some.ensures ∙ c.if-is_some.false in
    let declared = c.in_ok-declare.ensures.ok ∙ ap (λ (n : List ℕ). c.loop-name.met ++ (n, tt) ∷ []) (c.as_bytes-in-loop-name.ensures.bytes ∙ ap (λ n. n.now) c.name-item.is) in
    record {
      met = is_met c.args.names.now c.loop-name.name-index c.name-item.result c.loop-name.met c.declare.new.self c.loop-name-test.true c.loop-name.invariant.met declared;
      distinct = stay_apart c.args.names.now c.loop-name.name-index c.name-item.result c.loop-name.met c.loop-name-test.true c.loop-name.invariant.met none c.loop-name.invariant.distinct;
    }
