-- Tokens have at most one fault.
use Rattle.std.proofs.Common.{◌≡◌, ℕ, ◌<◌, List, [], ◌∷◌, ◌++◌, append_assoc, length, refl, sym, ap, ◌∙◌, subst, arith}
use Rattle.pw_tree.specs.Grammar.{BeginsTree, IsSyntaxFault}
use Rattle.pw_tree.specs.Symbols.{Spelled}

-- of two prefixes of one list the longer one begins with the shorter and the element behind it
record Goes {A : Type 0} (a ra b : List A) : Type 0 where
  x : A
  more : List A
  left : List A
  rest : ra ≡ x ∷ more
  front : b ≡ a ++ x ∷ left

abbrev first_or : {A : Type 0} → A → List A → A
first_or a [] = a
first_or a (x ∷ xs) = x

abbrev others : {A : Type 0} → List A → List A
others [] = []
others (x ∷ xs) = xs

goes : {A : Type 0} (a ra b rb : List A) → a ++ ra ≡ b ++ rb → length a < length b → Goes a ra b
goes [] ra [] rb e h = absurd (omega (arith, h))
goes [] ra (x ∷ b) rb e h = record { x = x; more = b ++ rb; left = b; rest = e; front = refl }
goes (y ∷ a) ra [] rb e h = absurd (omega (arith, h))
goes (y ∷ a) ra (x ∷ b) rb e h =
    let g = goes a ra b rb (ap others e) (omega (arith, h)) in
    record { x = g.x; more = g.more; left = g.left; rest = g.rest; front = ap (λ v. v ∷ b) (sym (ap (first_or y) e)) ∙ ap (λ v. y ∷ v) g.front }

-- a prefix of what begins a tree begins one
pub front_begins : (front rest : List Spelled) → BeginsTree (front ++ rest) → BeginsTree front
front_begins front rest b = record { tree = b.tree; rest = rest ++ b.rest; well_formed = b.well_formed; begins = b.begins ∙ append_assoc front rest b.rest }

not_before : (tokens : List Spelled) (a b : ℕ) → IsSyntaxFault tokens a → IsSyntaxFault tokens b → a < b → ⊥
not_before tokens a b f g h =
    let p = goes f.front f.rest g.front g.rest (sym f.cut ∙ g.cut) (omega (arith, h, f.place, g.place)) in
    f.leaves p.x p.more p.rest (front_begins (f.front ++ p.x ∷ []) p.left (subst BeginsTree (p.front ∙ sym (append_assoc f.front (p.x ∷ []) p.left)) g.begins))

same : (a b : ℕ) → (a < b → ⊥) → (b < a → ⊥) → a ≡ b
same a b f g = omega (arith, f, g)

pub one-fault : (tokens : List Spelled) (a b : ℕ) → IsSyntaxFault tokens a → IsSyntaxFault tokens b → a ≡ b
one-fault tokens a b f g = same a b (not_before tokens a b f g) (not_before tokens b a g f)
