use Rattle.std.proofs.Common.{◌≡◌, ◌∙◌, ℕ, List, sym, subst}
use Rattle.std.specs.Prelude.{Option, Some, slice_get, Contains, ◌↔◌}
use Rattle.pw_alloc_taken.specs.Makers.{AreBelow}
use Rattle.pw_alloc_taken.proofs.Defining.{makers_below}
use Rattle.pw_alloc_taken.proofs.facts.find_facts.Goals as goal

pub definitions-requires : goal.definitions-requires
definitions-requires c =
    let makers = c.in_ok-liveness.liveness.makers.items in
    subst (λ (ms : List (Option ℕ)). AreBelow c.temps.result ms) (sym c.deref.ensures.value)
    (subst (λ (n : ℕ). AreBelow n makers) (sym c.temps.ensures) (makers_below c.args.f.now makers c.requires c.in_ok-liveness.ensures.makers))

pub returns : goal.returns
returns c =
    let made = c.deref.ensures.value ∙ c.in_ok-liveness.ensures.makers in
    record {
      liveness = c.in_ok-liveness.ensures;
      count = c.in_ok-definitions.ensures.count ∙ c.temps.ensures;
      definitions = subst (λ (ms : List (Option ℕ)). (t p : ℕ) (row : List ℕ) → slice_get c.in_ok-definitions.definitions.items t ≡ Some row → Contains row p ↔ (slice_get ms p ≡ Some (Some t))) made c.in_ok-definitions.ensures.each;
    }
