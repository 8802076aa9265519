use Rattle.std.proofs.Common.{◌≡◌, ◌+◌, ◌-◌, ◌≤◌, ◌<◌, ap, length, sym, ◌∙◌, [], ◌∷◌, length-append, arith, refl, subst, List}
use Rattle.std.specs.List.{All}
use Rattle.std.proofs.lemmas.List.Elements.{All-nil}
use Rattle.pw_cpp_expand.specs.Numbered.{AreKnown}
use Rattle.pw_cpp_expand.specs.declared.expansion.Raw.{Raw}
use Rattle.pw_cpp_expand.proofs.Results.{element-at, raws-more, used-all, used-init, used-more}
use Rattle.pw_cpp_expand.proofs.expansion.used_of.Goals as goal

pub loop-tokens-init : goal.loop-tokens-init
loop-tokens-init c = (
  sym c.requires,
  omega arith,
  λ known. used-init known c.args.source.now c.args.parameters.now c.args.replacement.now c.args.arguments _ c.requires c.new-waiting.ensures,
  λ known h. let P : List Raw → Type 0 = λ x. All (λ raw. AreKnown known raw.tokens) x in (h, subst P (sym c.new-waiting.ensures) (All-nil (λ (raw : Raw). AreKnown known raw.tokens))),
)

pub loop-tokens-preserved : goal.loop-tokens-preserved
loop-tokens-preserved c =
    let one = ap length c.in-Some.ensures ∙ length-append c.pop.new.self (c.in-Some.tokens ∷ []) in (
      omega (arith, one, c.loop-tokens.invariant.0),
      omega (arith, c.loop-tokens.invariant.1),
      λ known.
          used-more known c.args.source.now c.args.parameters.now c.args.replacement.now c.args.arguments c.loop-tokens.arguments c.pop.new.self c.loop-tokens.waiting c.push_used.new.waiting c.in-Some.tokens
          _ (c.loop-tokens.invariant.2 known) c.in-Some.ensures (omega (arith, one, c.loop-tokens.invariant.0, c.loop-tokens.invariant.1))
          (element-at c.args.parameters.now (c.loop-tokens.count - 1) (length c.pop.new.self) _ (omega (arith, one, c.loop-tokens.invariant.0)) (omega (arith, one, c.loop-tokens.invariant.0, c.loop-tokens.invariant.1))) c.in_ok-push_used.ensures,
      λ known h.
          let before = c.loop-tokens.invariant.3 known h in
          raws-more known c.args.source.now c.args.replacement.now c.loop-tokens.arguments c.pop.new.self c.loop-tokens.waiting c.push_used.new.waiting c.in-Some.tokens _ c.in-Some.ensures c.in_ok-push_used.ensures
          before.0 before.1,
    )

pub returns : goal.returns
returns c = record {
  waits = λ known. used-all known c.args.source.now c.args.parameters.now c.args.replacement.now c.args.arguments c.loop-tokens.arguments c.loop-tokens.waiting (c.loop-tokens.invariant.2 known) c.in_default.ensures.0;
  known = λ known h. (c.loop-tokens.invariant.3 known h).1;
}
