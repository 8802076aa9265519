-- Between a function and its root everyone passes a register on.
use Rattle.std.specs.Prelude.{ℕ, ◌≡◌, Bool, true, false, List}
use Rattle.std.specs.Str.{bytes_eq}
use Rattle.std.proofs.Common.{refl, sym, subst, ◌∙◌}
use Rattle.std.proofs.lemmas.Slice.Eq.{bytes_eq-Decides}
use Rattle.pw_db.specs.declared.database.Directives.{Directives}
use Rattle.pw_db_sound.specs.CallGraphs.{Graph, Calls, RootOf, outer, of_callers, of_two, PathBelow, here, further}
use Rattle.pw_db_sound.specs.Sound.{IsFree, IsSaver, LeavesAlone, IsSavedAbove, Sound}

true_false : true ≡ false → ⊥
true_false e = absurd cc

-- where calls lead from the root to a caller, they lead from it to the function, which may be the root itself
one_further : (g : Graph) (a f root : List ℕ) → PathBelow g root root a → Calls g a f → (same : Bool) → bytes_eq f root ≡ same → PathBelow g root root f
one_further g a f root path c true e = subst (PathBelow g root root) (sym ((bytes_eq-Decides f root).0 e)) here
one_further g a f root path c false e = further a f path c (λ s. true_false (sym ((bytes_eq-Decides f root).1 s) ∙ e))

-- calls lead from a function's root to it, and not to the root again
from_root : (g : Graph) (f root : List ℕ) → RootOf g f root → PathBelow g root root f
from_root g f root (outer _ not) = here
from_root g f root (of_two _ a b q r i one two first second apart) = here
from_root g f root (of_callers _ _ i each) =
    one_further g i.caller f root (from_root g i.caller root (each i.caller i.called)) i.called (bytes_eq f root) refl

pub left_alone_above : (g : Graph) (d : List (List ℕ × Directives)) (a f : List ℕ) (r : ℕ) → Sound g d → Calls g a f → IsFree d f r → ¬ IsSaver d f r → LeavesAlone d a r
left_alone_above g d a f r sound c free not = by_saved (sound.free f r free)
  where
    by_root : (root : List ℕ) → RootOf g f root → IsSaver d root r → ((h : List ℕ) → PathBelow g root root h → PathBelow g root h f → LeavesAlone d h r) → LeavesAlone d a r
    by_root root (outer _ _) saver way = absurd (not saver)
    by_root root (of_two _ _ _ _ _ _ _ _ _ _ _) saver way = absurd (not saver)
    by_root root (of_callers _ _ i each) saver way =
        way a (from_root g a root (each a c)) (further a f here c (λ e. not (subst (λ x. IsSaver d x r) (sym e) saver)))

    by_saved : IsSavedAbove g d f r → LeavesAlone d a r
    by_saved saved = by_root saved.root saved.is saved.saver saved.way
