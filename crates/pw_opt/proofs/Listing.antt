-- Functions optimised, one after the other.
use Rattle.std.proofs.Common.{◌≡◌, Bool, ℕ, ◌+◌, ◌<◌, List, [], ◌∷◌, ◌++◌, length, get_or, take, sym, subst}
use Rattle.std.proofs.lemmas.List.{take_more}
use Rattle.pw_flow.specs.declared.flow.FlowFn.{FlowFn}
use Rattle.pw_flow.specs.declared.flow.FlowModule.{FlowModule}
use Rattle.pw_opt_rules.specs.Rewriting.{Rewriting, IsRewritten}
use Rattle.pw_opt_rules.specs.Optimised.{IsOptimised, AreOptimised, none, also}
use Rattle.pw_opt_rewrite.specs.Within.{IsRewrittenWithin}

optimised_push : (m : FlowModule) (fs gs : List FlowFn) (f g : FlowFn) → AreOptimised m fs gs → IsOptimised m f g → AreOptimised m (fs ++ f ∷ []) (gs ++ g ∷ [])
optimised_push m fs gs f g none o = also f g [] [] o none
optimised_push m fs gs f g (also x y xs ys first rest) o = also x y (xs ++ f ∷ []) (ys ++ g ∷ []) first (optimised_push m xs ys f g rest o)

-- one function more
pub optimised_more : (m : FlowModule) (fs : List FlowFn) (i : ℕ) (f g : FlowFn) (old new : List FlowFn) → i < length fs → f ≡ get_or fs i f → new ≡ old ++ g ∷ [] → IsOptimised m f g → AreOptimised m (take i fs) old
    → AreOptimised m (take (i + 1) fs) new
optimised_more m fs i f g old new lt is pushed o before =
    subst (λ (xs : List FlowFn). AreOptimised m xs new) (sym (take_more fs i f lt))
    (subst (λ (x : FlowFn). AreOptimised m (take i fs ++ x ∷ []) new) is (subst (AreOptimised m (take i fs ++ f ∷ [])) (sym pushed) (optimised_push m (take i fs) old f g before o)))

pub is_rewritten : (w : Rewriting) (may : ℕ → ℕ → Bool) (f g : FlowFn) → IsRewrittenWithin w may f g → IsRewritten w f g
is_rewritten w may f g r = r.rewritten
