use Rattle.std.specs.List.Sorted.{IsPermutation}
use Rattle.std.proofs.Common.{ℕ, List, length, map, sym, subst, Bor}
use Rattle.std.specs.List.{All}
use Rattle.pw_image.specs.declared.image.Function.{Function}
use Rattle.pw_image.specs.Image.{IsInText}
use Rattle.pw_list.proofs.Listings.{all_within}
use Rattle.pw_list.proofs.programs.image_text.Goals as goal

pub push_functions-requires-clause-within : goal.push_functions-requires-clause-within
push_functions-requires-clause-within c =
    let image = c.args.image.now in
    let refs = c.in_ok-ordered.ordered.items in
    let within = all_within (length image.memory.words) image.functions refs c.requires.functions (subst (λ (fs : List Function). IsPermutation fs (map (λ f. f.now) refs)) c.as_slice.ensures c.in_ok-ordered.ensures.same) in
    subst (λ (rs : List (Bor Function)). All (λ f. IsInText (length c.as_slice-2.result.now) f.now.address) rs) (sym c.deref.ensures.value)
    (subst (λ (ws : List ℕ). All (λ f. IsInText (length ws) f.now.address) refs) (sym c.as_slice-2.ensures) within)
