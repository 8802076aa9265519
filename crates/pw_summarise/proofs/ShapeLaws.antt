-- Shapes beside names: they are the same in a list and in its ordered form.
use Rattle.std.proofs.Common.{◌≡◌, ℕ, ◌<◌, Bool, true, false, cond, List, [], ◌∷◌, length, get_or, map, refl, sym, ap, subst, ◌∙◌, inl, inr}
use Rattle.std.specs.Prelude.{Contains, Option, Some, None}
use Rattle.std.specs.List.{HoldsAt}
use Rattle.std.specs.Option.{option_or}
use Rattle.std.proofs.lemmas.List.{get_or_default}
use Rattle.std.specs.Str.{bytes_eq}
use Rattle.std.proofs.lemmas.Slice.Eq.{bytes_eq-Decides}
use Rattle.pw_fields.specs.FieldNames.{IsTableOf}
use Rattle.pw_files.specs.Rising.{IsRising, IsRisingBehind}
use Rattle.pw_summarise.specs.Summarises.{IsOrdered, shape_in, if_function, function_shape, as_taken, as_escaped, taken_of, escaped_of}
use Rattle.pw_files.proofs.Standing.{Has, contains_by, has_by, has_map}
use Rattle.pw_files.proofs.ByteOrder.{differ, behind, less_differs}
use Rattle.pw_summarise.proofs.Orders.{IsPick, picked_ordered, flat_same}

-- ---- a shape that is found stands there

pair_is : (f : List ℕ × List ℕ) (name shape : List ℕ) → f.0 ≡ name → f.1 ≡ shape → f ≡ (name, shape)
pair_is f name shape one two = ap (λ (n : List ℕ). (n, f.1)) one ∙ ap (λ (s : List ℕ). (name, s)) two

has_shape_by : (f : List ℕ × List ℕ) (fs : List (List ℕ × List ℕ)) (name shape : List ℕ) (b : Bool) → bytes_eq f.0 name ≡ b → cond b (Some f.1) (shape_in fs name) ≡ Some shape → (shape_in fs name ≡ Some shape → Has (name, shape) fs) → Has (name, shape) (f ∷ fs)
has_shape_by f fs name shape true is e later = let same : f.1 ≡ shape = cc in inl (pair_is f name shape ((bytes_eq-Decides f.0 name).0 is) same)
has_shape_by f fs name shape false is e later = inr (later e)

has_shape : (fs : List (List ℕ × List ℕ)) (name shape : List ℕ) → shape_in fs name ≡ Some shape → Has (name, shape) fs
has_shape [] name shape e = absurd cc
has_shape (f ∷ fs) name shape e = has_shape_by f fs name shape (bytes_eq f.0 name) refl e (has_shape fs name shape)

-- ---- where one stands, one is found

not_first : (b : Bool) (shape : List ℕ) (o : Option (List ℕ)) → b ≡ true → cond b (Some shape) o ≡ None → ⊥
not_first true shape o is e = cc
not_first false shape o is e = cc

none_later : (b : Bool) (shape : List ℕ) (o : Option (List ℕ)) → cond b (Some shape) o ≡ None → o ≡ None
none_later true shape o e = absurd cc
none_later false shape o e = e

some_found : (fs : List (List ℕ × List ℕ)) (name shape : List ℕ) → Has (name, shape) fs → shape_in fs name ≡ None → ⊥
some_found [] name shape h e = h
some_found (f ∷ fs) name shape (inl same) e = not_first (bytes_eq f.0 name) f.1 (shape_in fs name) ((bytes_eq-Decides f.0 name).1 (ap (λ (g : List ℕ × List ℕ). g.0) same)) e
some_found (f ∷ fs) name shape (inr h) e = some_found fs name shape h (none_later (bytes_eq f.0 name) f.1 (shape_in fs name) e)

-- ---- in byte order that one is found

found_first : (b : Bool) (one shape : List ℕ) (o : Option (List ℕ)) → b ≡ true → one ≡ shape → cond b (Some one) o ≡ Some shape
found_first true one shape o is e = ap Some e
found_first false one shape o is e = absurd cc

passed_first : (b : Bool) (shape : List ℕ) (o : Option (List ℕ)) → b ≡ false → cond b (Some shape) o ≡ o
passed_first true shape o is = absurd cc
passed_first false shape o is = refl

that_found : (before : Option (List ℕ)) (fs : List (List ℕ × List ℕ)) (name shape : List ℕ) → IsRisingBehind before (map (λ f. f.0) fs) → Has (name, shape) fs → shape_in fs name ≡ Some shape
that_found before [] name shape up h = absurd h
that_found before (f ∷ fs) name shape up (inl e) =
    found_first (bytes_eq f.0 name) f.1 shape (shape_in fs name) ((bytes_eq-Decides f.0 name).1 (ap (λ (g : List ℕ × List ℕ). g.0) e)) (ap (λ (g : List ℕ × List ℕ). g.1) e)
that_found before (f ∷ fs) name shape up (inr h) =
    passed_first (bytes_eq f.0 name) f.1 (shape_in fs name) (differ f.0 name (less_differs f.0 name (behind f.0 (map (λ g. g.0) fs) name up.1 (has_map (λ (g : List ℕ × List ℕ). g.0) (name, shape) fs h))))
    ∙ that_found (Some f.0) fs name shape up.1 h

pub shape_there : (fs : List (List ℕ × List ℕ)) (name shape : List ℕ) → IsRising (map (λ f. f.0) fs) → Contains fs (name, shape) → shape_in fs name ≡ Some shape
shape_there fs name shape up h = that_found None fs name shape up (has_by (name, shape) fs h)

none_by : (fs : List (List ℕ × List ℕ)) (name : List ℕ) (o : Option (List ℕ)) → shape_in fs name ≡ o → (Contains (map (λ f. f.0) fs) name → ⊥) → shape_in fs name ≡ None
none_by fs name None e lacks = e
none_by fs name (Some shape) e lacks = absurd (lacks (contains_by name (map (λ f. f.0) fs) (has_map (λ (f : List ℕ × List ℕ). f.0) (name, shape) fs (has_shape fs name shape e))))

pub none_there : (fs : List (List ℕ × List ℕ)) (name : List ℕ) → (Contains (map (λ f. f.0) fs) name → ⊥) → shape_in fs name ≡ None
none_there fs name lacks = none_by fs name (shape_in fs name) refl lacks

-- ---- in an ordered list as in its source

same_by : (source fs : List (List ℕ × List ℕ)) → IsOrdered (λ f. f.0) source fs → (name : List ℕ) (o p : Option (List ℕ)) → shape_in fs name ≡ o → shape_in source name ≡ p → o ≡ p
same_by source fs is name None None a b = refl
same_by source fs is name None (Some shape) a b = absurd (some_found fs name shape (has_by (name, shape) fs ((is.of (name, shape)).1 (contains_by (name, shape) source (has_shape source name shape b)))) a)
same_by source fs is name (Some shape) None a b = absurd (some_found source name shape (has_by (name, shape) source ((is.of (name, shape)).0 (contains_by (name, shape) fs (has_shape fs name shape a)))) b)
same_by source fs is name (Some shape) (Some other) a b = sym a ∙ shape_there fs name other is.rising ((is.of (name, other)).1 (contains_by (name, other) source (has_shape source name other b)))

same_shape : (source fs : List (List ℕ × List ℕ)) → IsOrdered (λ f. f.0) source fs → (name : List ℕ) → shape_in fs name ≡ shape_in source name
same_shape source fs is name = same_by source fs is name (shape_in fs name) (shape_in source name) refl refl

same_function_shape : (functions declared fs ds : List (List ℕ × List ℕ)) → IsOrdered (λ f. f.0) functions fs → IsOrdered (λ d. d.0) declared ds → (name : List ℕ) → function_shape fs ds name ≡ function_shape functions declared name
same_function_shape functions declared fs ds one two name =
    ap (λ (o : Option (List ℕ)). option_or o (if_function (shape_in ds name))) (same_shape functions fs one name)
    ∙ ap (λ (o : Option (List ℕ)). option_or (shape_in functions name) (if_function o)) (same_shape declared ds two name)

-- ---- names whose address is taken

pick_taken : (name : List ℕ) (o : Option (List ℕ)) → IsPick (λ f. f.0) name (as_taken name o)
pick_taken name None = inl refl
pick_taken name (Some shape) = inr ((name, shape), refl, refl)

pick_escaped : (name : List ℕ) (o : Option (List ℕ)) → IsPick (λ n. n) name (as_escaped name o)
pick_escaped name None = inr (name, refl, refl)
pick_escaped name (Some shape) = inl refl

pub taken_ordered : (functions declared fs ds : List (List ℕ × List ℕ)) (names source : List (List ℕ)) → IsOrdered (λ f. f.0) functions fs → IsOrdered (λ d. d.0) declared ds → IsTableOf names source → IsOrdered (λ f. f.0) (taken_of functions declared source) (taken_of fs ds names)
taken_ordered functions declared fs ds names source one two table =
    subst (λ (xs : List (List ℕ × List ℕ)). IsOrdered (λ f. f.0) (taken_of functions declared source) xs)
    (flat_same (λ name. as_taken name (function_shape functions declared name)) (λ name. as_taken name (function_shape fs ds name)) (λ name. ap (as_taken name) (sym (same_function_shape functions declared fs ds one two name))) names)
    (picked_ordered (λ f. f.0) (λ name. as_taken name (function_shape functions declared name)) (λ name. pick_taken name (function_shape functions declared name)) names source table)

pub escaped_ordered : (functions declared fs ds : List (List ℕ × List ℕ)) (names source : List (List ℕ)) → IsOrdered (λ f. f.0) functions fs → IsOrdered (λ d. d.0) declared ds → IsTableOf names source → IsOrdered (λ n. n) (escaped_of functions declared source) (escaped_of fs ds names)
escaped_ordered functions declared fs ds names source one two table =
    subst (λ (xs : List (List ℕ)). IsOrdered (λ n. n) (escaped_of functions declared source) xs)
    (flat_same (λ name. as_escaped name (function_shape functions declared name)) (λ name. as_escaped name (function_shape fs ds name)) (λ name. ap (as_escaped name) (sym (same_function_shape functions declared fs ds one two name))) names)
    (picked_ordered (λ n. n) (λ name. as_escaped name (function_shape functions declared name)) (λ name. pick_escaped name (function_shape functions declared name)) names source table)

-- ---- the place that a search found

pub shape_at : (fs : List (List ℕ × List ℕ)) (name : List ℕ) (i : ℕ) (d : List ℕ × List ℕ) → IsRising (map (λ f. f.0) fs) → i < length fs → HoldsAt (λ f. f.0 ≡ name) fs i → shape_in fs name ≡ Some (get_or fs i d).1
shape_at fs name i d up lt at =
    let pair : get_or fs i d ≡ (name, (get_or fs i d).1) = ap (λ (n : List ℕ). (n, (get_or fs i d).1)) (at d) in
    shape_there fs name (get_or fs i d).1 up (i, lt, get_or_default fs i (name, (get_or fs i d).1) d lt ∙ pair)
