-- Functions of one number have one name; so a pointer to a name whose address is taken is fine.
use Rattle.std.proofs.Common.{◌≡◌, ◌⊎◌, ℕ, ◌<◌, ◌≤◌, ◌==◌, cond, List, [], ◌∷◌, map, refl, sym, ap, subst, ◌∙◌, arith, inl, inr, false, if◌then◌else◌, length, get_or, Bool, true}
use Rattle.std.specs.Prelude.{Option, Some, None, Contains}
use Rattle.std.specs.List.{sum_by}
use Rattle.std.specs.Str.{bytes_eq}
use Rattle.std.specs.Ordering.{nat_cmp, is_lt, ordering_reverse}
use Rattle.std.specs.Cmp.Lexicographic.{slice_cmp}
use Rattle.std.specs.declared.cmp.Ordering.{Ordering}
use Rattle.std.specs.declared.cmp.Ordering.TheVariants.{Less, Equal, Greater}
use Rattle.std.proofs.lemmas.Bool.{eqb-true}
use Rattle.std.proofs.lemmas.Cmp.{nat_list_cmp_total, tied_itself}
use Rattle.std.proofs.lemmas.List.Sums.{sum_by-cons}
use Rattle.std.proofs.lemmas.List.Quantifiers.{position-Some}
use Rattle.std.specs.List.{position}
use Rattle.std.proofs.lemmas.Map.Lookups.{exact_bytes}
use Rattle.std.proofs.lemmas.Slice.Eq.{bytes_eq-Decides}
use Rattle.pw_value.specs.declared.value.Pointer.{Pointer}
use Rattle.pw_value.specs.declared.value.Pointer.TheVariants as P
use Rattle.pw_files.proofs.Standing.{Has, has_by, has_map_back, has_flat_back}
use Rattle.pw_value.specs.declared.value.Kind.{Kind}
use Rattle.pw_flow.specs.declared.flow.FlowGlobal.{FlowGlobal}
use Rattle.pw_run_languages.specs.Programs.{Program, names_of, globals_of, function_number, function_at, global_number, pointer_to}
use Rattle.pw_law_direction.proofs.Lists.{clash, found, placed}
use Rattle.pw_run_languages.specs.LawfulPrograms.{has_name, taken_names, eligible_as, eligible_of, eligible_names}
use Rattle.pw_law_direction.specs.Values.{IsTaken, FinePointer}

-- ---- how many of some names are less than one

abbrev less : List ℕ → List ℕ → ℕ
less a x = cond (is_lt (slice_cmp nat_cmp x a)) 1 0

one_less : (o r : Ordering) → (o ≡ Less → r ≡ Less) → cond {A = ℕ} (is_lt o) 1 0 ≤ cond {A = ℕ} (is_lt r) 1 0
one_less Less r f = subst (λ (s : Ordering). 1 ≤ cond {A = ℕ} (is_lt s) 1 0) (sym (f refl)) (omega arith)
one_less Equal r f = omega arith
one_less Greater r f = omega arith

one_fewer : (x a b : List ℕ) → slice_cmp nat_cmp a b ≡ Less → less a x ≤ less b x
one_fewer x a b lt = one_less (slice_cmp nat_cmp x a) (slice_cmp nat_cmp x b) (λ e. nat_list_cmp_total.trans x a b e lt)

itself_fewer : (a b : List ℕ) → slice_cmp nat_cmp a b ≡ Less → less a a < less b a
itself_fewer a b lt =
    let none : less a a ≡ 0 = ap (λ (o : Ordering). cond {A = ℕ} (is_lt o) 1 0) (tied_itself nat_list_cmp_total a) in
    let one : less b a ≡ 1 = ap (λ (o : Ordering). cond {A = ℕ} (is_lt o) 1 0) lt in
    omega (arith, none, one)

fewer : (xs : List (List ℕ)) (a b : List ℕ) → slice_cmp nat_cmp a b ≡ Less → sum_by (less a) xs ≤ sum_by (less b) xs
fewer [] a b lt = omega arith
fewer (x ∷ xs) a b lt = omega (arith, sum_by-cons (less a) x xs, sum_by-cons (less b) x xs, one_fewer x a b lt, fewer xs a b lt)

strictly_fewer : (xs : List (List ℕ)) (a b : List ℕ) → slice_cmp nat_cmp a b ≡ Less → Has a xs → sum_by (less a) xs < sum_by (less b) xs
strictly_fewer [] a b lt h = absurd h
strictly_fewer (x ∷ xs) a b lt (inl e) =
    let here : less a x < less b x = subst (λ (y : List ℕ). less a y < less b y) (sym e) (itself_fewer a b lt) in
    omega (arith, sum_by-cons (less a) x xs, sum_by-cons (less b) x xs, here, fewer xs a b lt)
strictly_fewer (x ∷ xs) a b lt (inr h) = omega (arith, sum_by-cons (less a) x xs, sum_by-cons (less b) x xs, one_fewer x a b lt, strictly_fewer xs a b lt h)

-- ---- function numbers

module _ (p : Program) where
  by_order : (o : Ordering) (a b : List ℕ) → slice_cmp nat_cmp a b ≡ o → Has a (names_of p) → Has b (names_of p) → function_number p a ≡ function_number p b → a ≡ b
  by_order Less a b e h k same = let lt = strictly_fewer (names_of p) a b e h in absurd (omega (arith, lt, same))
  by_order Equal a b e h k same = exact_bytes a b e
  by_order Greater a b e h k same =
      let back : slice_cmp nat_cmp b a ≡ Less = nat_list_cmp_total.antisymm b a ∙ ap (λ (o : Ordering). ordering_reverse o) e in
      let lt = strictly_fewer (names_of p) b a back k in
      absurd (omega (arith, lt, same))

  one_name : (a b : List ℕ) → Has a (names_of p) → Has b (names_of p) → function_number p a ≡ function_number p b → a ≡ b
  one_name a b h k same = by_order (slice_cmp nat_cmp a b) a b refl h k same

  -- the function at a number is one of the program
  pub function_there : (n : ℕ) (f : List ℕ) → function_at p n ≡ Some f → Has f (names_of p) × (function_number p f ≡ n)
  function_there n f e =
      let r = found (λ (name : List ℕ). function_number p name == n) (names_of p) f e in
      (r.0, eqb-true (function_number p f) n r.1)

  pub function_fine : (name : List ℕ) → IsTaken p name → Has name (names_of p) → FinePointer p (P.Function (function_number p name))
  function_fine name taken there = λ f e.
      let r = function_there (function_number p name) f e in
      subst (IsTaken p) (sym (one_name f name r.0 there r.1)) taken

  abbrev pointer_by : List ℕ → ℕ → Option ℕ → Pointer
  pointer_by name offset (Some n) = P.Object n offset
  pointer_by name offset None = P.Function (function_number p name)

  global_there : (name : List ℕ) → Has name (map (λ g. g.name) (globals_of p)) → global_number p name ≡ None → ⊥
  global_there name h none =
      let g = has_map_back (λ (g : FlowGlobal). g.name) name (globals_of p) h in
      let at = placed (λ (g : FlowGlobal). bytes_eq g.name name) (globals_of p) g.0 g.1 ((bytes_eq-Decides g.0.name name).1 g.2) in
      let clash = sym none ∙ at in
      cc

  -- globals of one number have one name
  one_placed : (gs : List FlowGlobal) (a b : List ℕ) (n : ℕ) → position (λ g. bytes_eq g.name a) gs ≡ Some n → position (λ g. bytes_eq g.name b) gs ≡ Some n → a ≡ b
  one_placed [] a b n e f = absurd cc
  one_placed (x ∷ gs) a b n e f =
      let first = position-Some (λ (g : FlowGlobal). bytes_eq g.name a) (x ∷ gs) n x e in
      let second = position-Some (λ (g : FlowGlobal). bytes_eq g.name b) (x ∷ gs) n x f in
      sym ((bytes_eq-Decides (get_or (x ∷ gs) n x).name a).0 first.1) ∙ (bytes_eq-Decides (get_or (x ∷ gs) n x).name b).0 second.1

  within : (gs : List FlowGlobal) (a : List ℕ) (n : ℕ) → position (λ g. bytes_eq g.name a) gs ≡ Some n → n < length gs
  within [] a n e = absurd cc
  within (x ∷ gs) a n e = (position-Some (λ (g : FlowGlobal). bytes_eq g.name a) (x ∷ gs) n x e).0

  -- a number behind those of the global objects
  pub behind_fine : (o i : ℕ) → length (globals_of p) ≤ o → FinePointer p (P.Object o i)
  behind_fine o i le g kept at = let lt = within (globals_of p) g o at in omega (arith, lt, le)

  not_taken_by : (g : FlowGlobal) (k : Kind) (volatile taken : Bool) (e : List ℕ × Kind) → has_name (taken_names p) g.name ≡ taken
      → Has e (if volatile then [] else if taken then [] else (g.name, k) ∷ []) → (e.0 ≡ g.name) × (has_name (taken_names p) g.name ≡ false)
  not_taken_by g k true taken e t h = absurd h
  not_taken_by g k false true e t h = absurd h
  not_taken_by g k false false e t (inl same) = (sym (ap (λ (x : List ℕ × Kind). x.0) same), t)
  not_taken_by g k false false e t (inr h) = absurd h

  abbrev by_kind : FlowGlobal → Option Kind → List (List ℕ × Kind)
  by_kind g (Some k) = if g.volatile then [] else if has_name (taken_names p) g.name then [] else (g.name, k) ∷ []
  by_kind g None = []

  not_taken_as : (g : FlowGlobal) (k : Option Kind) (e : List ℕ × Kind) → Has e (by_kind g k) → (e.0 ≡ g.name) × (has_name (taken_names p) g.name ≡ false)
  not_taken_as g (Some k) e h = not_taken_by g k g.volatile (has_name (taken_names p) g.name) e refl h
  not_taken_as g None e h = absurd h

  -- nothing takes the address of a global that a register may hold
  not_taken : (name : List ℕ) → Contains (eligible_names p) name → IsTaken p name → ⊥
  not_taken name kept taken =
      let e = has_map_back (λ (e : List ℕ × Kind). e.0) name (eligible_of p) (has_by name (eligible_names p) kept) in
      let g = has_flat_back (eligible_as p) e.0 (globals_of p) e.1 in
      let r = not_taken_as g.0 g.0.kind e.0 g.2 in
      let same : g.0.name ≡ name = sym r.0 ∙ e.2 in
      clash (has_name (taken_names p) name) taken (subst (λ (n : List ℕ). has_name (taken_names p) n ≡ false) same r.1)

  pointer_fine_by : (name : List ℕ) (offset : ℕ) (n : Option ℕ) → global_number p name ≡ n → IsTaken p name → Has name (names_of p) ⊎ Has name (map (λ g. g.name) (globals_of p)) → FinePointer p (pointer_by name offset n)
  pointer_fine_by name offset (Some n) e taken there = λ g kept at. not_taken g kept (subst (IsTaken p) (one_placed (globals_of p) name g n e at) taken)
  pointer_fine_by name offset None e taken (inl function) = function_fine name taken function
  pointer_fine_by name offset None e taken (inr global) = absurd (global_there name global e)

  pub pointer_fine : (name : List ℕ) (offset : ℕ) → IsTaken p name → Has name (names_of p) ⊎ Has name (map (λ g. g.name) (globals_of p)) → FinePointer p (pointer_to p name offset)
  pointer_fine name offset taken there = pointer_fine_by name offset (global_number p name) refl taken there
