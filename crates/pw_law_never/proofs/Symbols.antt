-- An object that a module of a program defines has a number in the program.
use Rattle.std.proofs.Common.{ℕ, zero, suc, ◌+◌, ◌≡◌, ◌⊎◌, inl, inr, ◌<◌, refl, sym, ap, subst, ◌∙◌, arith, Bool, true, false, List, [], ◌∷◌, ◌++◌, length, Some, None, map}
use Rattle.std.specs.Prelude.{Contains, cond, not, nat_lt, position}
use Rattle.std.specs.List.{flat_map, position_or_len}
use Rattle.std.proofs.lemmas.Bool.{true≢false}
use Rattle.std.proofs.lemmas.Bool.Decides.{nat_tests}
use Rattle.std.specs.Str.{bytes_eq}
use Rattle.std.proofs.lemmas.List.Concat.{flat_map-cons}
use Rattle.std.proofs.lemmas.Slice.Eq.{bytes_eq-Decides}
use Rattle.pw_value.specs.declared.value.Pointer.TheVariants as Ptr
use Rattle.pw_types.specs.TypedTrees.{GlobalValue}
use Rattle.pw_cmean.specs.Worlds.{Program, ProgramModule, full_name, global_names, global_number, pointer_to}
use Rattle.pw_law_never.proofs.NotWrong.{HasOne}

-- stands in a list
abbrev In : {X : Type 0} → X → List X → Type 0
In y [] = ⊥
In y (x ∷ xs) = (x ≡ y) ⊎ In y xs

in-list : {X : Type 0} (xs : List X) (y : X) → Contains xs y → In y xs
in-list [] y c = absurd (below-none c.1)
  where
    below-none : {k : ℕ} → k < 0 → ⊥
    below-none h = omega arith
in-list (x ∷ xs) y (zero, below, e) = inl e
in-list (x ∷ xs) y (suc k, below, e) = inr (in-list xs y (k, omega arith, e))

in-left : {X : Type 0} (xs ys : List X) (y : X) → In y xs → In y (xs ++ ys)
in-left [] ys y h = absurd h
in-left (x ∷ xs) ys y (inl e) = inl e
in-left (x ∷ xs) ys y (inr h) = inr (in-left xs ys y h)

in-right : {X : Type 0} (xs ys : List X) (y : X) → In y ys → In y (xs ++ ys)
in-right [] ys y h = h
in-right (x ∷ xs) ys y h = inr (in-right xs ys y h)

in-map : {X Y : Type 0} (f : X → Y) (xs : List X) (x : X) → In x xs → In (f x) (map f xs)
in-map f [] x h = absurd h
in-map f (y ∷ ys) x (inl e) = inl (ap f e)
in-map f (y ∷ ys) x (inr h) = inr (in-map f ys x h)

in-flat : {X Y : Type 0} (g : X → List Y) (xs : List X) (x : X) (y : Y) → In x xs → In y (g x) → In y (flat_map g xs)
in-flat g [] x y h k = absurd h
in-flat g (z ∷ zs) x y h k = subst (In y) (sym (flat_map-cons g z zs)) (by-first (λ h. in-flat g zs x y h k) h)
  where
    by-first : (In x zs → In y (flat_map g zs)) → In x (z ∷ zs) → In y (g z ++ flat_map g zs)
    by-first rest (inl e) = in-left (g z) (flat_map g zs) y (subst (λ x. In y (g x)) (sym e) k)
    by-first rest (inr h) = in-right (g z) (flat_map g zs) y (rest h)

found-below : {X : Type 0} (test : X → Bool) (xs : List X) (y : X) → In y xs → test y ≡ true → position_or_len test xs < length xs
found-below test [] y h t = absurd h
found-below test (x ∷ xs) y h t = by-test (λ h. found-below test xs y h t) (test x) refl h
  where
    by-test : (In y xs → position_or_len test xs < length xs) → (b : Bool) → test x ≡ b → In y (x ∷ xs) → cond (not b) (1 + position_or_len test xs) 0 < suc (length xs)
    by-test rest true e h = omega arith
    by-test rest false e (inl s) = absurd (true≢false (sym t ∙ ap test (sym s) ∙ e))
    by-test rest false e (inr h) = (let below : position_or_len test xs < length xs = rest h in omega arith)

found-at : {X : Type 0} (test : X → Bool) (xs : List X) → position_or_len test xs < length xs → HasOne (position test xs)
found-at test xs below = by-test (nat_lt (position_or_len test xs) (length xs)) (is-below (position_or_len test xs) (length xs) below)
  where
    is-below : (a b : ℕ) → a < b → nat_lt a b ≡ true
    is-below a b h = grind (arith, nat_tests)

    by-test : (b : Bool) → b ≡ true → HasOne (cond b (Some (position_or_len test xs)) None)
    by-test true e = (position_or_len test xs, refl)
    by-test false e = cc

same-name : (a : List ℕ) → bytes_eq a a ≡ true
same-name a = (bytes_eq-Decides a a).1 refl

-- what a module defines is an object of the program
pub object-numbered : (p : Program) (m : ProgramModule) (g : GlobalValue) → Contains p.modules m → Contains m.tree.globals g
    → (number : ℕ) × (global_number p (full_name m.name g.name) ≡ Some number)
object-numbered p m g inside there =
    found-at (λ other. bytes_eq other (full_name m.name g.name)) (global_names p) (found-below (λ other. bytes_eq other (full_name m.name g.name)) (global_names p) (full_name m.name g.name)
    (in-flat (λ m. map (λ g. full_name m.name g.name) m.tree.globals) p.modules m (full_name m.name g.name) (in-list p.modules m inside)
    (in-map (λ (g : GlobalValue). full_name m.name g.name) m.tree.globals g (in-list m.tree.globals g there)))
    (same-name (full_name m.name g.name)))

-- and its name denotes it
pub object-placed : (p : Program) (name : List ℕ) (n : ℕ) → global_number p name ≡ Some n → pointer_to p name 0 ≡ Some (Ptr.Object n 0)
object-placed p name n e = rw e refl
