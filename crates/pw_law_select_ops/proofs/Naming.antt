-- Functions and global objects by their names and numbers, and where they stand.
use Rattle.std.proofs.Common.{◌≡◌, ◌⊎◌, ℕ, zero, suc, ◌+◌, ◌<◌, ◌≤◌, ◌≢◌, ◌==◌, not, cond, find, Some, None, List, [], ◌∷◌, map, refl, sym, ap, subst, ◌∙◌, arith, inl, inr, true≢false, length, get_or, slice_get, Contains, Bool, true, false}
use Rattle.std.specs.List.{sum_by, position, position_or_len}
use Rattle.std.specs.Str.{bytes_eq}
use Rattle.std.specs.Ordering.{nat_cmp, is_lt, ordering_reverse}
use Rattle.std.specs.Cmp.Lexicographic.{slice_cmp}
use Rattle.std.specs.declared.cmp.Ordering.{Ordering}
use Rattle.std.specs.declared.cmp.Ordering.TheVariants.{Less, Equal, Greater}
use Rattle.std.proofs.lemmas.Bool.{eqb-true, eq-eqb, lt-ltb}
use Rattle.std.proofs.lemmas.Cmp.{nat_list_cmp_total, tied_itself}
use Rattle.std.proofs.lemmas.List.Sums.{sum_by-cons}
use Rattle.std.proofs.lemmas.List.Quantifiers.{position-Some}
use Rattle.std.proofs.lemmas.Map.Lookups.{exact_bytes}
use Rattle.std.proofs.lemmas.Option.{slice_get-get_or}
use Rattle.std.proofs.lemmas.Slice.Eq.{bytes_eq-Decides}
use Rattle.pw_flow.specs.declared.flow.FlowGlobal.{FlowGlobal}
use Rattle.pw_run_languages.specs.Programs.{Program, names_of, globals_of, function_number, function_at, global_number}
use Rattle.pw_run_languages.specs.LawfulPrograms.{IsGlobalName}
use Rattle.pw_run_languages.specs.Standing.{GlobalsAreNamed}

-- ---- elements

pub nowhere : {X : Type 0} (x : X) → Contains [] x → ⊥
nowhere x c = let h : c.0 < 0 = c.1 in omega (arith, h)

pub first_there : {X : Type 0} (x : X) (xs : List X) → Contains (x ∷ xs) x
first_there x xs = (0, omega arith, refl)

pub later_there : {X : Type 0} (y x : X) (xs : List X) → Contains xs x → Contains (y ∷ xs) x
later_there y x xs c = (suc c.0, omega (arith, c.1), c.2)

-- an element of a list stands first or behind
abbrev pub Has : List ℕ → List (List ℕ) → Type 0
Has x [] = ⊥
Has x (y ∷ ys) = (y ≡ x) ⊎ Has x ys

has_at : (x : List ℕ) (ys : List (List ℕ)) (k : ℕ) → k < length ys → get_or ys k x ≡ x → Has x ys
has_at x [] k less e = absurd (omega (arith, less))
has_at x (y ∷ ys) zero less e = inl e
has_at x (y ∷ ys) (suc k) less e = inr (has_at x ys k (omega (arith, less)) e)

pub has_from : (x : List ℕ) (ys : List (List ℕ)) → Contains ys x → Has x ys
has_from x ys c = has_at x ys c.0 c.1 c.2

pub has_there : (x : List ℕ) (ys : List (List ℕ)) → Has x ys → Contains ys x
has_there x [] h = absurd h
has_there x (y ∷ ys) (inl e) = subst (Contains (y ∷ ys)) e (first_there y ys)
has_there x (y ∷ ys) (inr h) = later_there y x ys (has_there x ys h)

-- what is found, and that something is
pub found : (test : List ℕ → Bool) (xs : List (List ℕ)) (x : List ℕ) → find test xs ≡ Some x → Has x xs × (test x ≡ true)
found test [] x e = absurd cc
found test (y ∷ ys) x e = by_test (test y) refl (λ e. found test ys x e) e
  where
    by_test : (t : Bool) → test y ≡ t → (find test ys ≡ Some x → Has x ys × (test x ≡ true)) → cond t (Some y) (find test ys) ≡ Some x → Has x (y ∷ ys) × (test x ≡ true)
    by_test true is later e = let same : y ≡ x = cc in (inl same, subst (λ (z : List ℕ). test z ≡ true) same is)
    by_test false is later e = let r = later e in (inr r.0, r.1)

pub finds : (test : List ℕ → Bool) (xs : List (List ℕ)) (x : List ℕ) → Has x xs → test x ≡ true → (y : List ℕ) × (find test xs ≡ Some y)
finds test [] x h e = absurd h
finds test (y ∷ ys) x h e = by_test (test y) refl (λ h. finds test ys x h e) h
  where
    by_test : (t : Bool) → test y ≡ t → (Has x ys → (z : List ℕ) × (find test ys ≡ Some z)) → Has x (y ∷ ys) → (z : List ℕ) × (cond t (Some y) (find test ys) ≡ Some z)
    by_test true is later h = (y, refl)
    by_test false is later (inl same) = absurd (true≢false (sym e ∙ (sym (ap test same) ∙ is)))
    by_test false is later (inr there) = later there

-- ---- how many of some names are less than one

abbrev less : List ℕ → List ℕ → ℕ
less a x = cond (is_lt (slice_cmp nat_cmp x a)) 1 0

one_less : (o r : Ordering) → (o ≡ Less → r ≡ Less) → cond {A = ℕ} (is_lt o) 1 0 ≤ cond {A = ℕ} (is_lt r) 1 0
one_less Less r f = subst (λ (s : Ordering). 1 ≤ cond {A = ℕ} (is_lt s) 1 0) (sym (f refl)) (omega arith)
one_less Equal r f = omega arith
one_less Greater r f = omega arith

one_fewer : (x a b : List ℕ) → slice_cmp nat_cmp a b ≡ Less → less a x ≤ less b x
one_fewer x a b lt = one_less (slice_cmp nat_cmp x a) (slice_cmp nat_cmp x b) (λ e. nat_list_cmp_total.trans x a b e lt)

itself_fewer : (a b : List ℕ) → slice_cmp nat_cmp a b ≡ Less → less a a < less b a
itself_fewer a b lt =
    let none : less a a ≡ 0 = ap (λ (o : Ordering). cond {A = ℕ} (is_lt o) 1 0) (tied_itself nat_list_cmp_total a) in
    let one : less b a ≡ 1 = ap (λ (o : Ordering). cond {A = ℕ} (is_lt o) 1 0) lt in
    omega (arith, none, one)

fewer : (xs : List (List ℕ)) (a b : List ℕ) → slice_cmp nat_cmp a b ≡ Less → sum_by (less a) xs ≤ sum_by (less b) xs
fewer [] a b lt = omega arith
fewer (x ∷ xs) a b lt = omega (arith, sum_by-cons (less a) x xs, sum_by-cons (less b) x xs, one_fewer x a b lt, fewer xs a b lt)

strictly_fewer : (xs : List (List ℕ)) (a b : List ℕ) → slice_cmp nat_cmp a b ≡ Less → Has a xs → sum_by (less a) xs < sum_by (less b) xs
strictly_fewer [] a b lt h = absurd h
strictly_fewer (x ∷ xs) a b lt (inl e) =
    let here : less a x < less b x = subst (λ (y : List ℕ). less a y < less b y) (sym e) (itself_fewer a b lt) in
    omega (arith, sum_by-cons (less a) x xs, sum_by-cons (less b) x xs, here, fewer xs a b lt)
strictly_fewer (x ∷ xs) a b lt (inr h) = omega (arith, sum_by-cons (less a) x xs, sum_by-cons (less b) x xs, one_fewer x a b lt, strictly_fewer xs a b lt h)

-- ---- function numbers

module _ (p : Program) where
  by_order : (o : Ordering) (a b : List ℕ) → slice_cmp nat_cmp a b ≡ o → Has a (names_of p) → Has b (names_of p) → function_number p a ≡ function_number p b → a ≡ b
  by_order Less a b e h k same = let lt = strictly_fewer (names_of p) a b e h in absurd (omega (arith, lt, same))
  by_order Equal a b e h k same = exact_bytes a b e
  by_order Greater a b e h k same =
      let back : slice_cmp nat_cmp b a ≡ Less = nat_list_cmp_total.antisymm b a ∙ ap (λ (o : Ordering). ordering_reverse o) e in
      let lt = strictly_fewer (names_of p) b a back k in
      absurd (omega (arith, lt, same))

  one_name : (a b : List ℕ) → Has a (names_of p) → Has b (names_of p) → function_number p a ≡ function_number p b → a ≡ b
  one_name a b h k same = by_order (slice_cmp nat_cmp a b) a b refl h k same

  -- the function at a number is one of the program, of that number
  pub function_there : (n : ℕ) (f : List ℕ) → function_at p n ≡ Some f → Contains (names_of p) f × (function_number p f ≡ n)
  function_there n f e =
      let r = found (λ (name : List ℕ). function_number p name == n) (names_of p) f e in
      (has_there f (names_of p) r.0, eqb-true (function_number p f) n r.1)

  pub function_found : (f : List ℕ) → Contains (names_of p) f → function_at p (function_number p f) ≡ Some f
  function_found f c =
      let h = has_from f (names_of p) c in
      let r = finds (λ (name : List ℕ). function_number p name == function_number p f) (names_of p) f h (eq-eqb (function_number p f) (function_number p f) refl) in
      let s = found (λ (name : List ℕ). function_number p name == function_number p f) (names_of p) r.0 r.1 in
      let same : r.0 ≡ f = one_name r.0 f s.0 h (eqb-true (function_number p r.0) (function_number p f) s.1) in
      r.1 ∙ ap Some same

  -- ---- global objects

  -- the global object of a name, at its number
  pub record IsGlobalAt (g : List ℕ) (n : ℕ) : Type 0 where
    pub global : FlowGlobal
    pub there : slice_get (globals_of p) n ≡ Some global
    pub name : global.name ≡ g

  at_number : (gs : List FlowGlobal) (g : List ℕ) (n : ℕ) → position (λ x. bytes_eq x.name g) gs ≡ Some n
      → (x : FlowGlobal) × (slice_get gs n ≡ Some x) × (x.name ≡ g)
  at_number [] g n e = absurd cc
  at_number (y ∷ gs) g n e =
      let first = position-Some (λ (x : FlowGlobal). bytes_eq x.name g) (y ∷ gs) n y e in
      (get_or (y ∷ gs) n y, slice_get-get_or (y ∷ gs) n y first.0, (bytes_eq-Decides (get_or (y ∷ gs) n y).name g).0 first.1)

  pub global_at : (g : List ℕ) (n : ℕ) → global_number p g ≡ Some n → IsGlobalAt g n
  global_at g n e = let r = at_number (globals_of p) g n e in record { global = r.0; there = r.1; name = r.2 }

  pub named_from : (named : List ℕ → ℕ) (site : ℕ → ℕ) (n k : ℕ) (gs : List FlowGlobal) (x : FlowGlobal) → GlobalsAreNamed named site n gs → slice_get gs k ≡ Some x
      → site (n + k) ≡ named x.name
  named_from named site n k [] x h e = absurd cc
  named_from named site n zero (g ∷ gs) x h e =
      let same : g ≡ x = cc in
      let none : n + 0 ≡ n = omega arith in
      ap site none ∙ (h.0 ∙ ap (λ (y : FlowGlobal). named y.name) same)
  named_from named site n (suc k) (g ∷ gs) x h e =
      let more : n + suc k ≡ suc n + k = omega arith in ap site more ∙ named_from named site (suc n) k gs x h.1 e

  pub named_site : (named : List ℕ → ℕ) (site : ℕ → ℕ) (g : List ℕ) (n : ℕ) → GlobalsAreNamed named site 0 (globals_of p) → global_number p g ≡ Some n → site n ≡ named g
  named_site named site g n h e =
      let r = global_at g n e in
      let none : 0 + n ≡ n = omega arith in
      sym (ap site none) ∙ (named_from named site 0 n (globals_of p) r.global h r.there ∙ ap named r.name)

  pub global_there : (g : List ℕ) (n : ℕ) → global_number p g ≡ Some n → (x : FlowGlobal) × Contains (globals_of p) x × (x.name ≡ g)
  global_there g n e = let r = global_at g n e in (r.global, in_list (globals_of p) n r.global r.there, r.name)
    where
      in_list : (gs : List FlowGlobal) (k : ℕ) (x : FlowGlobal) → slice_get gs k ≡ Some x → Contains gs x
      in_list [] k x e = absurd cc
      in_list (y ∷ gs) zero x e = let same : y ≡ x = cc in subst (Contains (y ∷ gs)) same (first_there y gs)
      in_list (y ∷ gs) (suc k) x e = later_there y x gs (in_list gs k x e)

-- a name of a global object has a number
place_by : (b : Bool) (n m : ℕ) → (b ≡ false → n < m) → cond (not b) (1 + n) 0 < suc m
place_by true n m h = omega arith
place_by false n m h = let r : n < m = h refl in omega (arith, r)

place_below : (test : FlowGlobal → Bool) (xs : List FlowGlobal) (x : FlowGlobal) (k : ℕ) → k < length xs → get_or xs k x ≡ x → test x ≡ true → position_or_len test xs < length xs
place_below test [] x k less e t = absurd (omega (arith, less))
place_below test (y ∷ ys) x zero less e t = place_by (test y) (position_or_len test ys) (length ys) (λ f. absurd (true≢false (sym t ∙ (sym (ap test e) ∙ f))))
place_below test (y ∷ ys) x (suc k) less e t = place_by (test y) (position_or_len test ys) (length ys) (λ f. place_below test ys x k (omega (arith, less)) e t)

named_in : (gs : List FlowGlobal) (g : List ℕ) (k : ℕ) → k < length (map (λ x. x.name) gs) → get_or (map (λ x. x.name) gs) k g ≡ g
    → (x : FlowGlobal) × (k < length gs) × (get_or gs k x ≡ x) × (x.name ≡ g)
named_in [] g k less e = absurd (omega (arith, less))
named_in (x ∷ gs) g zero less e = (x, omega arith, refl, e)
named_in (y ∷ gs) g (suc k) less e = let r = named_in gs g k (omega (arith, less)) e in (r.0, omega (arith, r.1), r.2, r.3)

pub has_number : (p : Program) (g : List ℕ) → IsGlobalName p g → global_number p g ≢ None
has_number p g c e =
    let r = named_in (globals_of p) g c.0 c.1 c.2 in
    let test : FlowGlobal → Bool = λ x. bytes_eq x.name g in
    let place : ℕ = position_or_len test (globals_of p) in
    let below : place < length (globals_of p) = place_below test (globals_of p) r.0 c.0 r.1 r.2 ((bytes_eq-Decides r.0.name g).1 r.3) in
    let none : Some place ≡ None = subst (λ (b : Bool). cond b (Some place) None ≡ None) (lt-ltb place (length (globals_of p)) below) e in
    absurd cc
