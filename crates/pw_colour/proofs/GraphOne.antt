-- The call graph of summaries is one.
use Rattle.std.proofs.Common.{◌≡◌, ℕ, zero, suc, ◌+◌, ◌<◌, List, [], ◌∷◌, length, get_or, map, refl, sym, ap, subst, ◌∙◌, arith, inl, inr}
use Rattle.std.specs.Prelude.{Some, slice_get}
use Rattle.std.specs.List.{AllByRecursion}
use Rattle.std.specs.List.Sorted.{IsStrictlyIncreasing}
use Rattle.std.proofs.lemmas.Bool.{cases_eq}
use Rattle.std.proofs.lemmas.Option.{slice_get_within, same_Some}
use Rattle.pw_value.specs.declared.value.Kind.{Kind}
use Rattle.pw_files.specs.Rising.{IsRising}
use Rattle.pw_files.proofs.ByteOrder.{one_rising}
use Rattle.pw_files.proofs.Standing.{Has, has_each, each_by, has_by, contains_by}
use Rattle.pw_summary.specs.declared.summary.Summary.{Summary}
use Rattle.pw_summary.specs.declared.summary.Uses.{Uses}
use Rattle.pw_graph.specs.declared.graph.CallGraph.{CallGraph}
use Rattle.pw_graph.specs.CallGraph.{Calls, Weighs}
use Rattle.pw_graph.specs.Program.{IsUseOf, HasNeed, IsGraphOf}
use Rattle.pw_graph.proofs.Lists.{has_at}
use Rattle.pw_clusters.proofs.Once.{map_same}

-- ---- lists whose keys rise

abbrev pub KeyUps : {X : Type 0} → (X → ℕ) → List X → Type 0
KeyUps key [] = Unit {0}
KeyUps key (x ∷ xs) = AllByRecursion (λ y. key x < key y) xs × KeyUps key xs

heads : {X : Type 0} (key : X → ℕ) (x y : X) (xs ys : List X) → AllByRecursion (λ z. key x < key z) xs → AllByRecursion (λ z. key y < key z) ys → Has x (y ∷ ys) → Has y (x ∷ xs) → x ≡ y
heads key x y xs ys a b (inl e) h = sym e
heads key x y xs ys a b (inr k) (inl e) = e
heads key x y xs ys a b (inr k) (inr j) = let one = has_each (λ z. key y < key z) ys x b k in let two = has_each (λ z. key x < key z) xs y a j in absurd (omega (arith, one, two))

in_tail : {X : Type 0} (key : X → ℕ) (x y z : X) (xs ys : List X) → AllByRecursion (λ w. key x < key w) xs → x ≡ y → Has z xs → Has z (y ∷ ys) → Has z ys
in_tail key x y z xs ys up same h (inl e) = let lt = has_each (λ w. key x < key w) xs z up h in let level = ap key (same ∙ e) in absurd (omega (arith, lt, level))
in_tail key x y z xs ys up same h (inr k) = k

pub keys_one : {X : Type 0} (key : X → ℕ) (xs ys : List X) → KeyUps key xs → KeyUps key ys → ((x : X) → Has x xs → Has x ys) → ((x : X) → Has x ys → Has x xs) → xs ≡ ys
keys_one key [] [] a b f g = refl
keys_one key [] (y ∷ ys) a b f g = absurd (g y (inl refl))
keys_one key (x ∷ xs) [] a b f g = absurd (f x (inl refl))
keys_one {X} key (x ∷ xs) (y ∷ ys) a b f g =
    let e : x ≡ y = heads key x y xs ys a.0 b.0 (f x (inl refl)) (g y (inl refl)) in
    let tails = keys_one key xs ys a.1 b.1 (λ z h. in_tail key x y z xs ys a.0 e h (f z (inr h))) (λ z h. in_tail key y x z ys xs b.0 (sym e) h (g z (inr h))) in
    ap (λ (z : X). z ∷ xs) e ∙ ap (λ (zs : List X). y ∷ zs) tails

-- from keys that rise place by place
below_tail : {X : Type 0} (key : X → ℕ) (x : X) (xs : List X) → IsStrictlyIncreasing (map key (x ∷ xs)) → IsStrictlyIncreasing (map key xs)
below_tail key x xs up k lt =
    let e : suc k + 1 ≡ suc (k + 1) = omega arith in
    let at : suc k + 1 < length (map key (x ∷ xs)) = omega (arith, lt) in
    subst (λ m. get_or (map key xs) k 0 < get_or (map key (x ∷ xs)) m 0) e (up (suc k) at)

all_above : {X : Type 0} (key : X → ℕ) (x : X) (xs : List X) → IsStrictlyIncreasing (map key (x ∷ xs)) → AllByRecursion (λ y. key x < key y) xs
all_above key x [] up = tt
all_above key x (y ∷ xs) up =
    let lt : key x < key y = up 0 (omega arith) in
    (lt, each_by (λ z. key x < key z) xs (λ z h. let far = has_each (λ t. key y < key t) xs z (all_above key y xs (below_tail key x (y ∷ xs) up)) h in omega (arith, lt, far)))

pub key_ups : {X : Type 0} (key : X → ℕ) (xs : List X) → IsStrictlyIncreasing (map key xs) → KeyUps key xs
key_ups key [] up = tt
key_ups key (x ∷ xs) up = (all_above key x xs up, key_ups key xs (below_tail key x xs up))

-- ---- lists place by place

pub rows_one : {X : Type 0} (xs ys : List X) → length xs ≡ length ys → ((i : ℕ) (a b : X) → slice_get xs i ≡ Some a → slice_get ys i ≡ Some b → a ≡ b) → xs ≡ ys
rows_one [] [] same f = refl
rows_one [] (y ∷ ys) same f = absurd (omega (arith, same))
rows_one (x ∷ xs) [] same f = absurd (omega (arith, same))
rows_one {X} (x ∷ xs) (y ∷ ys) same f = ap (λ (z : X). z ∷ xs) (f 0 x y refl refl) ∙ ap (λ (zs : List X). y ∷ zs) (rows_one xs ys (omega (arith, same)) (λ i a b ea eb. f (suc i) a b ea eb))

pub item_there : {X : Type 0} (xs : List X) (i : ℕ) → i < length xs → (x : X) × (slice_get xs i ≡ Some x)
item_there [] i lt = absurd (omega (arith, lt))
item_there (x ∷ xs) zero lt = (x, refl)
item_there (x ∷ xs) (suc i) lt = item_there xs i (omega (arith, lt))

pub each_at : {X : Type 0} (P : X → Type 0) (xs : List X) (i : ℕ) (x : X) → AllByRecursion P xs → slice_get xs i ≡ Some x → P x
each_at P xs i x all at = has_each P xs x all (has_at xs i x at)

-- ---- a graph

module _ (ss : List Summary) (g h : CallGraph) (one : IsGraphOf ss g) (two : IsGraphOf ss h) where
  functions_one : g.functions ≡ h.functions
  functions_one = one_rising (λ f. f) g.functions h.functions (subst IsRising (sym (map_same g.functions)) one.functions) (subst IsRising (sym (map_same h.functions)) two.functions)
      (λ f. (λ c. (two.each_function f).1 ((one.each_function f).0 c), λ c. (one.each_function f).1 ((two.each_function f).0 c)))

  globals_one : g.globals ≡ h.globals
  globals_one = one_rising (λ v. v.0) g.globals h.globals one.globals two.globals
      (λ v. (λ c. (two.each_global v.0 v.1).1 ((one.each_global v.0 v.1).0 c), λ c. (one.each_global v.0 v.1).1 ((two.each_global v.0 v.1).0 c)))

calls_too : (ss : List Summary) (g h : CallGraph) → IsGraphOf ss g → IsGraphOf ss h → (a b : ℕ) → Calls g a b → Calls h a b
calls_too ss g h one two a b calls =
    let here = slice_get_within g.calls a calls.row calls.at in
    let rows = one.call_rows in
    let within = one.calls_within a b calls in
    let f = item_there g.functions a (omega (arith, here, rows)) in
    let k = item_there g.functions b within in
    let same = functions_one ss g h one two in
    (two.calls a b f.0 k.0 (subst (λ (fs : List (List ℕ)). slice_get fs a ≡ Some f.0) same f.1) (subst (λ (fs : List (List ℕ)). slice_get fs b ≡ Some k.0) same k.1)).1 ((one.calls a b f.0 k.0 f.1 k.1).0 calls)

refs_too : (ss : List Summary) (g h : CallGraph) → IsGraphOf ss g → IsGraphOf ss h → (a v r w : ℕ) → Weighs g a v r w → Weighs h a v r w
refs_too ss g h one two a v r w weighs =
    let here = slice_get_within g.refs a weighs.row weighs.at in
    let rows = one.ref_rows in
    let within = one.refs_within a v r w weighs in
    let f = item_there g.functions a (omega (arith, here, rows)) in
    let k = item_there g.globals v within in
    let same = functions_one ss g h one two in
    let globals = globals_one ss g h one two in
    (two.refs a v r w f.0 k.0 (subst (λ (fs : List (List ℕ)). slice_get fs a ≡ Some f.0) same f.1) (subst (λ (vs : List (List ℕ × Kind)). slice_get vs v ≡ Some k.0) globals k.1)).1 ((one.refs a v r w f.0 k.0 f.1 k.1).0 weighs)

call_in : (ss : List Summary) (g h : CallGraph) → IsGraphOf ss g → IsGraphOf ss h → (i : ℕ) (a b : List ℕ) → slice_get g.calls i ≡ Some a → slice_get h.calls i ≡ Some b → (x : ℕ) → Has x a → Has x b
call_in ss g h one two i a b ea eb x k =
    let c = calls_too ss g h one two i x (record { row = a; at = ea; stands = contains_by x a k }) in
    subst (λ (ys : List ℕ). Has x ys) (same_Some c.row b (sym c.at ∙ eb)) (has_by x c.row c.stands)

ref_in : (ss : List Summary) (g h : CallGraph) → IsGraphOf ss g → IsGraphOf ss h → (i : ℕ) (a b : List (ℕ × ℕ × ℕ)) → slice_get g.refs i ≡ Some a → slice_get h.refs i ≡ Some b → (x : ℕ × ℕ × ℕ) → Has x a → Has x b
ref_in ss g h one two i a b ea eb x k =
    let c = refs_too ss g h one two i x.0 x.1 x.2 (record { row = a; at = ea; stands = contains_by x a k }) in
    subst (λ (ys : List (ℕ × ℕ × ℕ)). Has x ys) (same_Some c.row b (sym c.at ∙ eb)) (has_by x c.row c.stands)

calls_one : (ss : List Summary) (g h : CallGraph) → IsGraphOf ss g → IsGraphOf ss h → g.calls ≡ h.calls
calls_one ss g h one two =
    rows_one g.calls h.calls (one.call_rows ∙ ap (λ (fs : List (List ℕ)). length fs) (functions_one ss g h one two) ∙ sym two.call_rows)
    (λ i a b ea eb. keys_one (λ n. n) a b
    (key_ups (λ n. n) a (subst IsStrictlyIncreasing (sym (map_same a)) (each_at IsStrictlyIncreasing g.calls i a one.calls_rise ea)))
    (key_ups (λ n. n) b (subst IsStrictlyIncreasing (sym (map_same b)) (each_at IsStrictlyIncreasing h.calls i b two.calls_rise eb)))
    (call_in ss g h one two i a b ea eb) (call_in ss h g two one i b a eb ea))

refs_one : (ss : List Summary) (g h : CallGraph) → IsGraphOf ss g → IsGraphOf ss h → g.refs ≡ h.refs
refs_one ss g h one two =
    rows_one g.refs h.refs (one.ref_rows ∙ ap (λ (fs : List (List ℕ)). length fs) (functions_one ss g h one two) ∙ sym two.ref_rows)
    (λ i a b ea eb. keys_one (λ (r : ℕ × ℕ × ℕ). r.0) a b
    (key_ups (λ (r : ℕ × ℕ × ℕ). r.0) a (each_at (λ (row : List (ℕ × ℕ × ℕ)). IsStrictlyIncreasing (map (λ r. r.0) row)) g.refs i a one.refs_rise ea))
    (key_ups (λ (r : ℕ × ℕ × ℕ). r.0) b (each_at (λ (row : List (ℕ × ℕ × ℕ)). IsStrictlyIncreasing (map (λ r. r.0) row)) h.refs i b two.refs_rise eb))
    (ref_in ss g h one two i a b ea eb) (ref_in ss h g two one i b a eb ea))

need_one : (ss : List Summary) (f : List ℕ) (m n : ℕ) → HasNeed ss f m → HasNeed ss f n → m ≡ n
need_one ss f m n one two = elim (cases_eq m n) [
  | inl e ↦ e
  | inr differ ↦
      let none : (u : Uses) → IsUseOf ss f u → ⊥ = λ u of. differ (one.told u of ∙ sym (two.told u of)) in
      one.untold none ∙ sym (two.untold none)
]

needs_one : (ss : List Summary) (g h : CallGraph) → IsGraphOf ss g → IsGraphOf ss h → g.needs ≡ h.needs
needs_one ss g h one two =
    let same = functions_one ss g h one two in
    rows_one g.needs h.needs (one.need_rows ∙ ap (λ (fs : List (List ℕ)). length fs) same ∙ sym two.need_rows)
    (λ i m n em en.
    let here = slice_get_within g.needs i m em in
    let rows = one.need_rows in
    let f = item_there g.functions i (omega (arith, here, rows)) in
    need_one ss f.0 m n (one.needs i m f.0 f.1 em) (two.needs i n f.0 (subst (λ (fs : List (List ℕ)). slice_get fs i ≡ Some f.0) same f.1) en))

abbrev made : List (List ℕ) → List (List ℕ × Kind) → List (List ℕ) → List (List (ℕ × ℕ × ℕ)) → List ℕ → CallGraph
made a b c d e = record { functions = a; globals = b; calls = c; refs = d; needs = e }

same_fields : (g h : CallGraph) → g.functions ≡ h.functions → g.globals ≡ h.globals → g.calls ≡ h.calls → g.refs ≡ h.refs → g.needs ≡ h.needs → g ≡ h
same_fields g h a b c d e =
    ap (λ (x : List (List ℕ)). made x g.globals g.calls g.refs g.needs) a
    ∙ ap (λ (x : List (List ℕ × Kind)). made h.functions x g.calls g.refs g.needs) b
    ∙ ap (λ (x : List (List ℕ)). made h.functions h.globals x g.refs g.needs) c
    ∙ ap (λ (x : List (List (ℕ × ℕ × ℕ))). made h.functions h.globals h.calls x g.needs) d
    ∙ ap (λ (x : List ℕ). made h.functions h.globals h.calls h.refs x) e

pub graph_one : (ss : List Summary) (g h : CallGraph) → IsGraphOf ss g → IsGraphOf ss h → g ≡ h
graph_one ss g h one two = same_fields g h (functions_one ss g h one two) (globals_one ss g h one two) (calls_one ss g h one two) (refs_one ss g h one two) (needs_one ss g h one two)
