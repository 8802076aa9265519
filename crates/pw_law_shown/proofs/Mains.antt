-- The shape of `main`, by what a summary and an object have of it.
use Rattle.std.proofs.Common.{◌≡◌, ◌≢◌, ℕ, Bool, true, false, ◌||◌, if◌then◌else◌, List, [], ◌∷◌, map, refl, sym, ap, inl, inr}
use Rattle.std.specs.Prelude.{Some, None}
use Rattle.std.specs.List.{list_any}
use Rattle.std.specs.Map.{lookup}
use Rattle.std.specs.Str.{bytes_eq}
use Rattle.std.proofs.lemmas.Slice.Eq.{bytes_eq-Decides}
use Rattle.pw_value.specs.ProgramNames.{main_name}
use Rattle.pw_flow.specs.ValidFlow.{AreDistinct}
use Rattle.pw_files.proofs.Standing.{Has, has_each, has_map}
use Rattle.pw_graph.specs.Program.{main_in}

same_text : (a b : List ℕ) → bytes_eq a b ≡ true → a ≡ b
same_text a b e = (bytes_eq-Decides a b).0 e

text_same : (a b : List ℕ) → a ≡ b → bytes_eq a b ≡ true
text_same a b e = (bytes_eq-Decides a b).1 e

clash : (b : Bool) → b ≡ true → b ≡ false → ⊥
clash true d e = cc
clash false d e = cc

-- the name stands under one item alone
one_key : (name : List ℕ) (f : List ℕ × List ℕ) (fs : List (List ℕ × List ℕ)) (shape : List ℕ) → AreDistinct (map (λ e. e.0) (f ∷ fs)) → Has (name, shape) fs → f.0 ≢ name
one_key name f fs shape all h e = has_each (λ (o : List ℕ). o ≢ f.0) (map (λ e. e.0) fs) name all.0 (has_map (λ (e : List ℕ × List ℕ). e.0) (name, shape) fs h) (sym e)

-- ---- in a summary

main_by : (f : List ℕ × List ℕ) (fs : List (List ℕ × List ℕ)) (shape : List ℕ) (b : Bool) → bytes_eq f.0 main_name ≡ b → AreDistinct (map (λ e. e.0) (f ∷ fs)) → Has (main_name, shape) (f ∷ fs)
    → (Has (main_name, shape) fs → main_in fs ≡ Some shape) → (if b then Some f.1 else main_in fs) ≡ Some shape
main_by f fs shape true e all (inl same) later = ap (λ (d : List ℕ × List ℕ). Some d.1) same
main_by f fs shape true e all (inr h) later = absurd (one_key main_name f fs shape all h (same_text f.0 main_name e))
main_by f fs shape false e all (inl same) later = absurd (clash (bytes_eq f.0 main_name) (text_same f.0 main_name (ap (λ (d : List ℕ × List ℕ). d.0) same)) e)
main_by f fs shape false e all (inr h) later = later h

pub main_found : (fs : List (List ℕ × List ℕ)) (shape : List ℕ) → AreDistinct (map (λ e. e.0) fs) → Has (main_name, shape) fs → main_in fs ≡ Some shape
main_found [] shape all h = absurd h
main_found (f ∷ fs) shape all h = main_by f fs shape (bytes_eq f.0 main_name) refl all h (main_found fs shape all.1)

none_by : (f : List ℕ × List ℕ) (fs : List (List ℕ × List ℕ)) (b : Bool) → bytes_eq f.0 main_name ≡ b → f.0 ≢ main_name → main_in fs ≡ None → (if b then Some f.1 else main_in fs) ≡ None
none_by f fs true e other later = absurd (other (same_text f.0 main_name e))
none_by f fs false e other later = later

pub main_lacks : (fs : List (List ℕ × List ℕ)) → (Has main_name (map (λ e. e.0) fs) → ⊥) → main_in fs ≡ None
main_lacks [] lacks = refl
main_lacks (f ∷ fs) lacks = none_by f fs (bytes_eq f.0 main_name) refl (λ e. lacks (inl e)) (main_lacks fs (λ h. lacks (inr h)))

-- ---- in an object

lookup_by : (name : List ℕ) (f : List ℕ × List ℕ) (fs : List (List ℕ × List ℕ)) (shape : List ℕ) (b : Bool) → bytes_eq name f.0 ≡ b → AreDistinct (map (λ e. e.0) (f ∷ fs)) → Has (name, shape) (f ∷ fs)
    → (Has (name, shape) fs → lookup (bytes_eq name) fs ≡ Some shape) → (if b then Some f.1 else lookup (bytes_eq name) fs) ≡ Some shape
lookup_by name f fs shape true e all (inl same) later = ap (λ (d : List ℕ × List ℕ). Some d.1) same
lookup_by name f fs shape true e all (inr h) later = absurd (one_key name f fs shape all h (sym (same_text name f.0 e)))
lookup_by name f fs shape false e all (inl same) later = absurd (clash (bytes_eq name f.0) (text_same name f.0 (sym (ap (λ (d : List ℕ × List ℕ). d.0) same))) e)
lookup_by name f fs shape false e all (inr h) later = later h

pub lookup_found : (name : List ℕ) (fs : List (List ℕ × List ℕ)) (shape : List ℕ) → AreDistinct (map (λ e. e.0) fs) → Has (name, shape) fs → lookup (bytes_eq name) fs ≡ Some shape
lookup_found name [] shape all h = absurd h
lookup_found name (f ∷ fs) shape all h = lookup_by name f fs shape (bytes_eq name f.0) refl all h (lookup_found name fs shape all.1)

any_by : (b c : Bool) → c ≡ true → (b || c) ≡ true
any_by true c e = refl
any_by false c e = e

pub any_found : (name : List ℕ) (names : List (List ℕ)) → Has name names → list_any (bytes_eq name) names ≡ true
any_found name [] h = absurd h
any_found name (n ∷ ns) (inl e) = ap (λ (b : Bool). b || list_any (bytes_eq name) ns) (text_same name n (sym e))
any_found name (n ∷ ns) (inr h) = any_by (bytes_eq name n) (list_any (bytes_eq name) ns) (any_found name ns h)

neither : (name n : List ℕ) (b c : Bool) → bytes_eq name n ≡ b → name ≢ n → c ≡ false → (b || c) ≡ false
neither name n true c e other rest = absurd (other (same_text name n e))
neither name n false c e other rest = rest

pub any_lacks : (name : List ℕ) (names : List (List ℕ)) → (Has name names → ⊥) → list_any (bytes_eq name) names ≡ false
any_lacks name [] lacks = refl
any_lacks name (n ∷ ns) lacks = neither name n (bytes_eq name n) (list_any (bytes_eq name) ns) refl (λ e. lacks (inl (sym e))) (any_lacks name ns (λ h. lacks (inr h)))
