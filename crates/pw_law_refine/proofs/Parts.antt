-- What contains code contains the code before it, and has room for it.
use Rattle.std.proofs.Common.{◌≡◌, inl, inr, Some, List, [], ◌∷◌, ◌++◌, Contains, refl, ap, sym, ◌∙◌, subst, arith, append_assoc}
use Rattle.std.proofs.lemmas.List.Elements.{Contains-append_left, Contains-append_right}
use Rattle.pw_flow.specs.declared.flow.Op.{Op}
use Rattle.pw_flow.specs.declared.flow.FlowFn.{FlowFn}
use Rattle.pw_lower.specs.declared.code.Code.{Code}
use Rattle.pw_lower.specs.declared.code.Numbered.{Numbered}
use Rattle.pw_law_source.specs.FromRunLanguages.Programs.{block_at}
use Rattle.pw_law_lower.specs.Kept.{IsStillFilled, IsClosedNext, Keeps}
use Rattle.pw_law_refine.specs.Containing.{BeginsWith, ContainsCode}

first_there : (x : Numbered) (xs : List Numbered) → Contains (x ∷ xs) x
first_there x xs = Contains-append_left (x ∷ []) xs x (0, omega arith, refl)

-- the block that is filled, from what became of it
filled_before : (g : FlowFn) (c d : Code) → ContainsCode g d → IsStillFilled c d → BeginsWith g c.cur c.ops
filled_before g c d w k = record {
  block = w.filled.block;
  rest = k.more ++ w.filled.rest;
  there = subst (λ n. block_at g n ≡ Some w.filled.block) k.cur w.filled.there;
  ops = w.filled.ops ∙ ap (λ (o : List Op). o ++ w.filled.rest) k.ops ∙ append_assoc c.ops k.more w.filled.rest;
}

closed_before : (g : FlowFn) (c d : Code) → ContainsCode g d → IsClosedNext c d → BeginsWith g c.cur c.ops
closed_before g c d w k =
    let own : Numbered = record { number = c.cur; block = record { depth = c.depth; ops = c.ops ++ k.more; end = k.end } } in
    record {
      block = own.block;
      rest = k.more;
      there = w.closed own (subst (λ (l : List Numbered). Contains l own) (sym k.closed) (Contains-append_right c.closed (own ∷ k.rest) own (first_there own k.rest)));
      ops = refl;
    }

pub parts : (g : FlowFn) (c d : Code) → ContainsCode g d → Keeps c d → ContainsCode g c
parts g c d w k = record {
  closed = λ b h. w.closed b (elim k.filled [
    | inl f ↦ subst (λ (l : List Numbered). Contains l b) (sym f.closed) h
    | inr f ↦ subst (λ (l : List Numbered). Contains l b) (sym f.closed) (Contains-append_left c.closed _ b h)
  ]);
  filled = elim k.filled [
    | inl f ↦ filled_before g c d w f
    | inr f ↦ closed_before g c d w f
  ];
  temps = omega (arith, w.temps, k.temps);
  blocks = omega (arith, w.blocks, k.blocks);
}
