-- Laws of what names stand for.
use Rattle.std.proofs.Common.{◌≡◌, ◌≢◌, ℕ, Bool, true, false, List, [], ◌∷◌, ◌++◌, Option, None, Some, refl, sym, ap, ◌∙◌, if◌then◌else◌}
use Rattle.std.specs.Option.{option_or}
use Rattle.std.specs.Str.{bytes_eq}
use Rattle.std.proofs.lemmas.Slice.Eq.{bytes_eq-Decides}
use Rattle.pw_scope.specs.Visible.{visible}

module _ {T : Type 0} where
  pub option_or-none : (o : Option T) → option_or o None ≡ o
  option_or-none None = refl
  option_or-none (Some x) = refl

  pub option_or-assoc : (o p q : Option T) → option_or (option_or o p) q ≡ option_or o (option_or p q)
  option_or-assoc None p q = refl
  option_or-assoc (Some x) p q = refl

  -- what an inner scope declares hides what the outer one has
  pub visible-append : (outer inner : List (List ℕ × T)) (name : List ℕ) → visible (outer ++ inner) name ≡ option_or (visible inner name) (visible outer name)
  visible-append [] inner name = sym (option_or-none (visible inner name))
  visible-append (entry ∷ outer) inner name =
      let own = if bytes_eq name entry.0 then Some entry.1 else None in
      ap (λ o. option_or o own) (visible-append outer inner name) ∙ option_or-assoc (visible inner name) (visible outer name) own

  -- a declaration decides for its name, and for no other
  pub visible-declared : (scope : List (List ℕ × T)) (declared name : List ℕ) (meaning : T) → visible (scope ++ (declared, meaning) ∷ []) name ≡ (if bytes_eq name declared then Some meaning else visible scope name)
  visible-declared scope declared name meaning = visible-append scope ((declared, meaning) ∷ []) name ∙ by (bytes_eq name declared)
    where
      by : (b : Bool) → option_or (if b then Some meaning else None) (visible scope name) ≡ (if b then Some meaning else visible scope name)
      by true = refl
      by false = refl

  pub visible-declared_same : (scope : List (List ℕ × T)) (name : List ℕ) (meaning : T) → visible (scope ++ (name, meaning) ∷ []) name ≡ Some meaning
  visible-declared_same scope name meaning = rw (visible-declared scope name name meaning, (bytes_eq-Decides name name).1 refl)

  pub visible-declared_other : (scope : List (List ℕ × T)) (declared name : List ℕ) (meaning : T) → name ≢ declared → visible (scope ++ (declared, meaning) ∷ []) name ≡ visible scope name
  visible-declared_other scope declared name meaning other = rw (visible-declared scope declared name meaning) (by (bytes_eq name declared) refl)
    where
      by : (b : Bool) → bytes_eq name declared ≡ b → (if b then Some meaning else visible scope name) ≡ visible scope name
      by true same = absurd (other ((bytes_eq-Decides name declared).0 same))
      by false _ = refl
