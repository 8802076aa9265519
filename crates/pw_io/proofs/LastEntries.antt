-- Of entries for one call the last counts.
use Rattle.std.proofs.Common.{◌≡◌, ℕ, List, [], ◌∷◌, ◌++◌, reverse, true, false, Some, None, ◌==◌, if◌then◌else◌, refl, ap, ◌∙◌}
use Rattle.std.specs.Option.{option_map}
use Rattle.std.specs.List.{find}
use Rattle.std.proofs.lemmas.List.{reverse-append}
use Rattle.pw_io.specs.declared.mem_store.StoreFail.{StoreFail}
use Rattle.pw_io.specs.MemoryStore.{left_by_call}

pub left_by_call-none : (call : ℕ) → left_by_call [] call ≡ None
unfolding left_by_call
left_by_call-none call = refl

pub left_by_call-last : (fails : List StoreFail) (last : StoreFail) (call : ℕ) → left_by_call (fails ++ last ∷ []) call ≡ (if last.call == call then Some last.leaves else left_by_call fails call)
unfolding left_by_call
left_by_call-last fails last call =
    ap (λ fs. option_map (λ (fail : StoreFail). fail.leaves) (find (λ (fail : StoreFail). fail.call == call) fs)) (reverse-append fails (last ∷ []))
    ∙ elim (last.call == call) as (λ b. option_map (λ (fail : StoreFail). fail.leaves) (if b then Some last else find (λ (fail : StoreFail). fail.call == call) (reverse fails)) ≡ (if b then Some last.leaves else option_map (λ (fail : StoreFail). fail.leaves) (find (λ (fail : StoreFail). fail.call == call) (reverse fails)))) [ true ↦ refl | false ↦ refl ]
