-- What is found at the points of definitions: constraints one behind the other, and limits.
use Rattle.std.specs.Prelude.{◌≢◌, IfErr}
use Rattle.std.proofs.Common.{◌≡◌, ℕ, Option, None, Some, Result, Ok, [], ◌∷◌, ◌++◌, ap, sym, subst, ◌∙◌}
use Rattle.pw_check_walk.specs.declared.constraints.CheckFault.{CheckFault}
use Rattle.pw_value.specs.Limits.{node_limit, room_limit}
use Rattle.pw_check_walk.specs.declared.constraints.CheckKind.TheVariants.{NoMemory}
use Rattle.pw_check_walk.specs.declared.constraints.Which.TheVariants.{Nodes, Room}
use Rattle.pw_check_walk.specs.Causes.{Cause, Point, keeps}
use Rattle.pw_check_walk.specs.Found.{found, found_behind, lesser_found, told}
use Rattle.pw_check_walk.proofs.FindingLaws.{found_after, found_append, no_want}

-- ---- constraints found one behind the other

append_behind : (best : Option CheckFault) (p q : Point) → found_behind best (p ++ q) ≡ found_behind (found_behind best p) q
append_behind best p q = found_append best p q ∙ sym (found_after (found_behind best p) q)

pub found_chain : (p : Point) (u : Cause) (a : Point) (n : Cause) (t : Point) (one two three four limits all : Option CheckFault)
    → one ≡ found p → two ≡ found_behind one (u ∷ []) → three ≡ found_behind two a → four ≡ found_behind three (n ∷ []) → limits ≡ found t
    → all ≡ lesser_found four limits → all ≡ found (p ++ (u ∷ (a ++ (n ∷ t))))
found_chain p u a n t one two three four limits all e f g h i j =
    j ∙ ap (lesser_found four) i
    ∙ ap (λ x. lesser_found x (found t))
    (h ∙ ap (λ x. found_behind x (n ∷ [])) (g ∙ ap (λ x. found_behind x a) (f ∙ ap (λ x. found_behind x (u ∷ [])) e)))
    ∙ sym
    (append_behind None p (u ∷ (a ++ (n ∷ t)))
    ∙ append_behind (found_behind (found p) (u ∷ [])) a (n ∷ t)
    ∙ found_after (found_behind (found_behind (found_behind (found p) (u ∷ [])) a) (n ∷ [])) t)

-- two limits, one found behind the other
pub measured : (t n m most : ℕ) (begun one two : Option CheckFault) → begun ≡ None
    → one ≡ found_behind begun (keeps Nodes node_limit t n ∷ [])
    → two ≡ found_behind one (keeps Room most t m ∷ [])
    → most ≡ room_limit
    → two ≡ found (keeps Nodes node_limit t n ∷ keeps Room room_limit t m ∷ [])
measured t n m most begun one two e f g k =
    g ∙ ap (λ x. found_behind one (keeps Room x t m ∷ [])) k
    ∙ ap (λ o. found_behind o (keeps Room room_limit t m ∷ [])) (f ∙ ap (λ o. found_behind o (keeps Nodes node_limit t n ∷ [])) e)

-- what a point tells is no want of memory
pub no_want_found : (p : Point) (o : Option CheckFault) (r : Result (Unit {0}) CheckFault) → o ≡ found p → r ≡ told o (Ok tt)
    → IfErr r (λ e. e.kind ≢ NoMemory)
no_want_found p None r here is = subst (λ (x : Result (Unit {0}) CheckFault). IfErr x (λ e. e.kind ≢ NoMemory)) (sym is) tt
no_want_found p (Some fault) r here is = no_want p (sym here) is
