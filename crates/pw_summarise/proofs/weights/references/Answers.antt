use Rattle.std.proofs.Common.{◌≡◌, ℕ, List, length, drop, map, refl, sym, subst, ◌∙◌, arith}
use Rattle.std.proofs.lemmas.List.{take_at}
use Rattle.pw_files.specs.Rising.{IsRising}
use Rattle.pw_summarise.specs.Summarises.{IsOrdered, referenced, in_function, reference}
use Rattle.pw_files.proofs.ByteOrder.{table_rises}
use Rattle.pw_summarise.proofs.Orders.{table_ordered, ordered_map}
use Rattle.pw_summarise.proofs.WeightLaws.{names_unweighted, references_are}
use Rattle.pw_summarise.proofs.weights.references.Goals as goal

pub add_blocks-requires : goal.add_blocks-requires
add_blocks-requires c =
    let names = c.in_ok-names.names in
    subst (λ (rs : List (List ℕ × ℕ × ℕ)). IsRising (map (λ r. r.0) rs)) (sym (c.deref_mut.ensures.value ∙ c.in_ok-refs.ensures))
    (subst IsRising (sym (names_unweighted names)) (table_rises names c.in_ok-names.ensures.rising))

pub returns : goal.returns
returns c =
    let f = c.args.function.now in
    let names = c.in_ok-names.names in
    let refs = c.add_blocks.new.refs in
    let made : refs ≡ map (reference f) names = (rw (c.as_slice.ensures, c.deref_mut.ensures.value, c.in_ok-refs.ensures) at c.add_blocks.ensures) ∙ references_are f names in
    let long : length refs ≡ c.in_ok-refs.refs.len = omega (arith, c.add_blocks.auto.refs, c.deref_mut.ensures.len, c.in_ok-refs.refs.ok.0) in
    rw c.from_vec.ensures (subst (λ (rs : List (List ℕ × ℕ × ℕ)). IsOrdered (λ r. r.0) (map (reference f) (in_function referenced f)) rs)
    (sym (take_at refs (drop (length refs) c.in_ok-refs.refs.items) c.in_ok-refs.refs.len long ∙ made))
    (ordered_map (λ (name : List ℕ). name) (λ (r : List ℕ × ℕ × ℕ). r.0) (reference f) (λ name. refl) (in_function referenced f) names (table_ordered names (in_function referenced f) c.in_ok-names.ensures)))
