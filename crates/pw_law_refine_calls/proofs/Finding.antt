-- What a search finds stands in the list and passes; so a name calls a function of that name.
use Rattle.std.proofs.Common.{◌≡◌, ℕ, Bool, true, false, cond, Some, List, [], ◌∷◌, find, bytes_eq, refl, ap, sym, ◌∙◌, inl, inr}
use Rattle.std.proofs.lemmas.Option.{same_Some}
use Rattle.std.proofs.lemmas.Slice.Eq.{bytes_eq-Decides}
use Rattle.pw_cmean.specs.Worlds.{Program, Callable, functions_of, function_named}
use Rattle.pw_files.proofs.Standing.{Has}

found_by : {X : Type 0} (test : X → Bool) (b : Bool) (x y : X) (ys : List X) → test y ≡ b → (find test ys ≡ Some x → Has x ys × (test x ≡ true)) → cond b (Some y) (find test ys) ≡ Some x → Has x (y ∷ ys) × (test x ≡ true)
found_by test true x y ys e f g = let same : y ≡ x = same_Some y x g in (inl same, ap test (sym same) ∙ e)
found_by test false x y ys e f g = let r = f g in (inr r.0, r.1)

pub found : {X : Type 0} (test : X → Bool) (xs : List X) (x : X) → find test xs ≡ Some x → Has x xs × (test x ≡ true)
found test [] x e = absurd cc
found test (y ∷ ys) x e = found_by test (test y) x y ys refl (found test ys x) e

pub named-so : (p : Program) (name : List ℕ) (f : Callable) → function_named p name ≡ Some f → f.name ≡ name
named-so p name f e = (bytes_eq-Decides f.name name).0 (found (λ (c : Callable). bytes_eq c.name name) (functions_of p) f e).1
