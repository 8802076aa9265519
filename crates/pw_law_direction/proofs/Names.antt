-- Names: what is eligible is nobody's address, and the addresses in code lead to no eligible global.
use Rattle.std.proofs.Common.{◌≡◌, ◌≢◌, ◌<◌, ◌≤◌, ◌||◌, ℕ, suc, inl, inr, Bool, true, false, true≢false, if◌then◌else◌, Option, Some, None, List, [], ◌∷◌, length, refl, ap, sym, ◌∙◌, subst, arith}
use Rattle.std.specs.Prelude.{◌+◌, cond, not, slice_index_or, Contains}
use Rattle.std.specs.List.{flat_map, position_or_len}
use Rattle.std.proofs.lemmas.Bool.{lt-ltb}
use Rattle.std.specs.Str.{bytes_eq}
use Rattle.std.proofs.lemmas.List.Quantifiers.{position-Some}
use Rattle.std.proofs.lemmas.List.Elements.{Contains-append_right, Contains-append_cases}
use Rattle.std.proofs.lemmas.Slice.Eq.{bytes_eq-Decides}
use Rattle.pw_value.specs.declared.value.Kind.{Kind}
use Rattle.pw_value.specs.declared.value.Pointer.TheVariants as P
use Rattle.pw_value.specs.declared.value.Pointer.{Pointer}
use Rattle.pw_flow.specs.Addressed.{addressed}
use Rattle.pw_flow.specs.FlowGraph.{names_in_global}
use Rattle.pw_flow.specs.declared.flow.Op.{Op}
use Rattle.pw_flow.specs.declared.flow.FlowGlobal.{FlowGlobal}
use Rattle.pw_flow.specs.declared.flow.FlowFn.{FlowFn}
use Rattle.pw_run_languages.specs.Programs.{Program, functions_of, globals_of, global_number, function_number, pointer_to}
use Rattle.pw_run_languages.specs.LawfulPrograms.{IsGlobalName, ops_of, taken_names, has_name, eligible_as, eligible_of, eligible_names}
use Rattle.pw_law_direction.specs.Alike.{IsPlain, FinePointer}
use Rattle.pw_law_direction.proofs.Elements.{nowhere, the-first, map-back, flat-back, flat-there}

or-right : (a b : Bool) → b ≡ true → (a || b) ≡ true
or-right true b h = refl
or-right false b h = h

or-left : (a b : Bool) → a ≡ true → (a || b) ≡ true
or-left true b h = refl
or-left false b h = absurd (true≢false (sym h))

pub has-there : (names : List (List ℕ)) (name : List ℕ) → Contains names name → has_name names name ≡ true
has-there [] name c = absurd (nowhere name c)
has-there (x ∷ xs) name c = elim (Contains-append_cases (x ∷ []) xs name c) [
  | inl first ↦ or-left (bytes_eq name x) (has_name xs name) ((bytes_eq-Decides name x).1 (sym (the-first x name first)))
  | inr later ↦ or-right (bytes_eq name x) (has_name xs name) (has-there xs name later)
]

-- ---- what is taken

pub address-taken : (p : Program) (f : FlowFn) (o : Op) (g : List ℕ) → Contains (functions_of p) f → Contains (ops_of f) o → Contains (addressed o) g → has_name (taken_names p) g ≡ true
address-taken p f o g there code names = has-there (taken_names p) g
    (Contains-append_right (flat_map names_in_global (globals_of p)) (flat_map (λ (f : FlowFn). flat_map addressed (ops_of f)) (functions_of p)) g
    (flat-there (λ (f : FlowFn). flat_map addressed (ops_of f)) (functions_of p) f g there (flat-there addressed (ops_of f) o g code names)))

-- an eligible global, as a global of the program
pub record IsEligible (p : Program) (g : List ℕ) (k : Kind) : Type 0 where
  pub global : FlowGlobal
  pub there : Contains (globals_of p) global
  pub name : global.name ≡ g
  pub kind : global.kind ≡ Some k
  pub free : has_name (taken_names p) g ≡ false

abbrev unless : Bool → List (List ℕ × Kind) → List (List ℕ × Kind)
unless b xs = if b then [] else xs

pick : (a b : Bool) (x y : List ℕ × Kind) → Contains (unless a (unless b (x ∷ []))) y → (b ≡ false) × (x ≡ y)
pick true b x y c = absurd (nowhere y c)
pick false true x y c = absurd (nowhere y c)
pick false false x y c = (refl, the-first x y c)

by-kind : (p : Program) (x : FlowGlobal) (kind : Option Kind) (g : List ℕ) (k : Kind) → x.kind ≡ kind → Contains (globals_of p) x → Contains (eligible_as p x) (g, k) → IsEligible p g k
by-kind p x None g k e there c = absurd (nowhere (g, k) (subst (λ (o : Option Kind). Contains (eligible_as p (record x { kind = o })) (g, k)) e c))
by-kind p x (Some j) g k e there c =
    let r : (has_name (taken_names p) x.name ≡ false) × ((x.name, j) ≡ (g, k)) =
    pick x.volatile (has_name (taken_names p) x.name) (x.name, j) (g, k) (subst (λ (o : Option Kind). Contains (eligible_as p (record x { kind = o })) (g, k)) e c) in
    let same : x.name ≡ g = ap (λ (y : List ℕ × Kind). y.0) r.1 in record {
      global = x;
      there = there;
      name = same;
      kind = e ∙ ap (λ (y : List ℕ × Kind). Some y.1) r.1;
      free = subst (λ (n : List ℕ). has_name (taken_names p) n ≡ false) same r.0;
    }

pub is-eligible : (p : Program) (g : List ℕ) (k : Kind) → Contains (eligible_of p) (g, k) → IsEligible p g k
is-eligible p g k c = let r = flat-back (eligible_as p) (globals_of p) (g, k) c in by-kind p r.is r.is.kind g k refl r.there r.holds

pub name-eligible : (p : Program) (g : List ℕ) → Contains (eligible_names p) g → (k : Kind) × IsEligible p g k
name-eligible p g c = let r = map-back (λ (e : List ℕ × Kind). e.0) (eligible_of p) g c in
    (r.is.1, is-eligible p g r.is.1 (subst (λ (n : List ℕ). Contains (eligible_of p) (n, r.is.1)) r.holds r.there))

-- ---- numbers of globals

abbrev pub named : List ℕ → FlowGlobal → Bool
named g x = bytes_eq x.name g

pub number-within : (p : Program) (d : FlowGlobal) (g : List ℕ) (n : ℕ) → global_number p g ≡ Some n → n < length (globals_of p)
number-within p d g n e = (position-Some (named g) (globals_of p) n d e).0

pub number-name : (p : Program) (d : FlowGlobal) (g : List ℕ) (n : ℕ) → global_number p g ≡ Some n → (slice_index_or (globals_of p) n d).name ≡ g
number-name p d g n e = (bytes_eq-Decides (slice_index_or (globals_of p) n d).name g).0 (position-Some (named g) (globals_of p) n d e).1

pub one-number : (p : Program) (d : FlowGlobal) (g h : List ℕ) (n : ℕ) → global_number p g ≡ Some n → global_number p h ≡ Some n → g ≡ h
one-number p d g h n e f = sym (number-name p d g n e) ∙ number-name p d h n f

pub behind-globals : (p : Program) (o : ℕ) → length (globals_of p) ≤ o → IsPlain p o
behind-globals p o h g c e = let r = name-eligible p g c in let w : o < length (globals_of p) = number-within p r.1.global g o e in absurd (omega (arith, w, h))

place-by : (b : Bool) (n m : ℕ) → (b ≡ false → n < m) → cond (not b) (1 + n) 0 < suc m
place-by true n m h = omega arith
place-by false n m h = let r : n < m = h refl in omega (arith, r)

pub place-below : (test : FlowGlobal → Bool) (xs : List FlowGlobal) (x : FlowGlobal) → Contains xs x → test x ≡ true → position_or_len test xs < length xs
place-below test [] x c t = absurd (nowhere x c)
place-below test (y ∷ ys) x c t = place-by (test y) (position_or_len test ys) (length ys) (λ e. elim (Contains-append_cases (y ∷ []) ys x c) [
  | inl first ↦ absurd (true≢false (sym t ∙ sym (ap test (the-first y x first)) ∙ e))
  | inr later ↦ place-below test ys x later t
])

pub has-number : (p : Program) (g : List ℕ) → IsGlobalName p g → global_number p g ≢ None
has-number p g c e =
    let r = map-back (λ (x : FlowGlobal). x.name) (globals_of p) g c in
    let place : ℕ = position_or_len (named g) (globals_of p) in
    let k : place < length (globals_of p) = place-below (named g) (globals_of p) r.is r.there ((bytes_eq-Decides r.is.name g).1 r.holds) in
    let none : Some place ≡ None = subst (λ (b : Bool). cond b (Some place) None ≡ None) (lt-ltb place (length (globals_of p)) k) e in
    absurd cc

abbrev pub pointer-by : Program → List ℕ → ℕ → Option ℕ → Pointer
pointer-by p g n (Some o) = P.Object o n
pointer-by p g n None = P.Function (function_number p g)

-- a global whose address is taken is no eligible one
pub number-leads : (p : Program) (g : List ℕ) (o : ℕ) → global_number p g ≡ Some o → has_name (taken_names p) g ≡ true → IsPlain p o
number-leads p g o e t h k f =
    let r = name-eligible p h k in
    true≢false (sym t ∙ ap (λ (x : List ℕ). has_name (taken_names p) x) (one-number p r.1.global g h o e f) ∙ r.1.free)

leads-by : (p : Program) (g : List ℕ) (n : ℕ) (found : Option ℕ) → global_number p g ≡ found → IsGlobalName p g → has_name (taken_names p) g ≡ true → FinePointer p (pointer-by p g n found)
leads-by p g n None e c t = absurd (has-number p g c e)
leads-by p g n (Some o) e c t = number-leads p g o e t

pub global-leads : (p : Program) (g : List ℕ) (n : ℕ) → IsGlobalName p g → has_name (taken_names p) g ≡ true → FinePointer p (pointer_to p g n)
global-leads p g n c t = leads-by p g n (global_number p g) refl c t
