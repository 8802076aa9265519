-- Globals of a program: what a load of an eligible one by its name gives, and what a store makes of it.
use Rattle.std.proofs.Common.{◌≡◌, ◌≢◌, ℕ, zero, suc, inl, inr, Bool, true, false, true≢false, if◌then◌else◌, Option, Some, None, List, [], ◌∷◌, ◌++◌, map, length, refl, ap, sym, ◌∙◌, subst}
use Rattle.std.specs.Prelude.{cond, find, IfSome, Contains}
use Rattle.std.specs.List.{AllByRecursion}
use Rattle.std.specs.Str.{bytes_eq}
use Rattle.std.proofs.lemmas.Option.{same_Some}
use Rattle.std.proofs.lemmas.List.Elements.{Contains-append_cases}
use Rattle.std.proofs.lemmas.Slice.Eq.{bytes_eq-Decides}
use denote.Enum.Bare.{sameb}
use Rattle.pw_value.specs.contracts.value.Kind.{the_type as the_kinds}
use Rattle.pw_value.specs.declared.value.Kind.{Kind}
use Rattle.pw_value.specs.declared.value.Kind.TheVariants.{S8, U8, S16, U16, W32}
use Rattle.pw_value.specs.declared.value.Value.{Value}
use Rattle.pw_value.specs.declared.value.Byte.{Byte}
use Rattle.pw_value.specs.Objects.{Object, object_at, byte_at, bytes_from}
use Rattle.pw_flow.specs.declared.flow.FlowGlobal.{FlowGlobal}
use Rattle.pw_flow.specs.ValidFlow.{AreDistinct, kind_size}
use Rattle.pw_run_languages.specs.Programs.{Program, globals_of, names_of, global_named, global_number}
use Rattle.pw_run_languages.specs.Memory.{scalar_of, is_open, look_in}
use Rattle.pw_run_languages.specs.FlowRun.{is_own_kind, get_global}
use Rattle.pw_run_languages.specs.LawfulPrograms.{IsProgram}
use Rattle.pw_law_direction.proofs.Elements.{nowhere, first-there, later-there, the-first, map-there}
use Rattle.pw_law_direction.proofs.Names.{IsEligible, has-number}

-- ---- whole lists of bytes

bytes-later : (n i : ℕ) (b : Byte) (bytes : List Byte) → bytes_from n (suc i) (b ∷ bytes) ≡ bytes_from n i bytes
bytes-later zero i b bytes = refl
bytes-later (suc n) i b bytes = ap (λ (l : List Byte). byte_at bytes i ∷ l) (bytes-later n (suc i) b bytes)

bytes-all : (bytes : List Byte) → bytes_from (length bytes) 0 bytes ≡ bytes
bytes-all [] = refl
bytes-all (b ∷ bytes) = ap (λ (l : List Byte). b ∷ l) (bytes-later (length bytes) 0 b bytes ∙ bytes-all bytes)

pub bytes-whole : (n : ℕ) (bytes : List Byte) → length bytes ≡ n → bytes_from n 0 bytes ≡ bytes
bytes-whole n bytes e = ap (λ (k : ℕ). bytes_from k 0 bytes) (sym e) ∙ bytes-all bytes

-- ---- one global of a name

pub distinct-right : (xs ys : List (List ℕ)) → AreDistinct (xs ++ ys) → AreDistinct ys
distinct-right [] ys h = h
distinct-right (x ∷ xs) ys h = distinct-right xs ys h.1

pub all-hold : {X : Type 0} (P : X → Type 0) (xs : List X) (x : X) → AllByRecursion P xs → Contains xs x → P x
all-hold P [] x h c = absurd (nowhere x c)
all-hold P (y ∷ ys) x h c = elim (Contains-append_cases (y ∷ []) ys x c) [
  | inl first ↦ subst P (the-first y x first) h.0
  | inr later ↦ all-hold P ys x h.1 later
]

pub one-of-name : (xs : List FlowGlobal) (x y : FlowGlobal) → AreDistinct (map (λ g. g.name) xs) → Contains xs x → Contains xs y → x.name ≡ y.name → x ≡ y
one-of-name [] x y h c k e = absurd (nowhere x c)
one-of-name (z ∷ zs) x y h c k e = elim (Contains-append_cases (z ∷ []) zs x c) [
  | inl first ↦ elim (Contains-append_cases (z ∷ []) zs y k) [
    | inl both ↦ sym (the-first z x first) ∙ the-first z y both
    | inr later ↦ absurd (all-hold (λ (n : List ℕ). n ≢ z.name) (map (λ g. g.name) zs) y.name h.0 (map-there (λ (g : FlowGlobal). g.name) zs y later)
        (sym e ∙ ap (λ (g : FlowGlobal). g.name) (sym (the-first z x first))))
  ]
  | inr later ↦ elim (Contains-append_cases (z ∷ []) zs y k) [
    | inl first ↦ absurd (all-hold (λ (n : List ℕ). n ≢ z.name) (map (λ g. g.name) zs) x.name h.0 (map-there (λ (g : FlowGlobal). g.name) zs x later)
        (e ∙ ap (λ (g : FlowGlobal). g.name) (sym (the-first z y first))))
    | inr both ↦ one-of-name zs x y h.1 later both e
  ]
]

found-by : {X : Type 0} (test : X → Bool) (b : Bool) (x y : X) (ys : List X) → test y ≡ b → (find test ys ≡ Some x → Contains ys x × (test x ≡ true))
    → cond b (Some y) (find test ys) ≡ Some x → Contains (y ∷ ys) x × (test x ≡ true)
found-by test true x y ys e f g = let same : y ≡ x = same_Some y x g in (subst (Contains (y ∷ ys)) same (first-there y ys), ap test (sym same) ∙ e)
found-by test false x y ys e f g = let r = f g in (later-there y x ys r.0, r.1)

pub found-there : {X : Type 0} (test : X → Bool) (xs : List X) (x : X) → find test xs ≡ Some x → Contains xs x × (test x ≡ true)
found-there test [] x e = absurd cc
found-there test (y ∷ ys) x e = found-by test (test y) x y ys refl (found-there test ys x) e

-- ---- the kind of a global

same-kind : (a b : Kind) → sameb the_kinds a b ≡ true → a ≡ b
same-kind S8 S8 h = refl
same-kind U8 U8 h = refl
same-kind S16 S16 h = refl
same-kind U16 U16 h = refl
same-kind W32 W32 h = refl
same-kind a b h = absurd (true≢false (sym h))

abbrev pub kind-is : Kind → Option Kind → Bool
kind-is k (Some own) = sameb the_kinds own k
kind-is k None = false

abbrev pub own-by : Kind → Option FlowGlobal → Bool
own-by k (Some x) = kind-is k x.kind
own-by k None = false

own-found : (p : Program) (g : List ℕ) (j k : Kind) (found : Option FlowGlobal) → global_named p g ≡ found → IsProgram p → IsEligible p g k → own-by j found ≡ true → j ≡ k
own-found p g j k None e lawful el own = absurd (true≢false (sym own))
own-found p g j k (Some x) e lawful el own =
    let r = found-there (λ (y : FlowGlobal). bytes_eq y.name g) (globals_of p) x e in
    let same : x ≡ el.global = one-of-name (globals_of p) x el.global (distinct-right (names_of p) (map (λ g. g.name) (globals_of p)) lawful.names) r.0 el.there
    ((bytes_eq-Decides x.name g).0 r.1 ∙ sym el.name) in
    let kind : kind-is j (Some k) ≡ true = subst (λ (o : Option Kind). kind-is j o ≡ true) (ap (λ (y : FlowGlobal). y.kind) same ∙ el.kind) own in
    sym (same-kind k j kind)

pub own-kind : (p : Program) (g : List ℕ) (j k : Kind) → IsProgram p → IsEligible p g k → is_own_kind p g j ≡ true → j ≡ k
own-kind p g j k lawful el own = own-found p g j k (global_named p g) refl lawful el own

pub kind-of : (p : Program) (g : List ℕ) (j k : Kind) → IsProgram p → IsEligible p g j → IsEligible p g k → j ≡ k
kind-of p g j k lawful one other =
    let same : one.global ≡ other.global = one-of-name (globals_of p) one.global other.global (distinct-right (names_of p) (map (λ g. g.name) (globals_of p)) lawful.names) one.there other.there
    (one.name ∙ sym other.name) in
    same_Some j k (sym one.kind ∙ ap (λ (x : FlowGlobal). x.kind) same ∙ other.kind)

-- ---- its number, and what a load gives

some-of : (o : Option ℕ) → o ≢ None → (n : ℕ) × (o ≡ Some n)
some-of (Some n) h = (n, refl)
some-of None h = absurd (h refl)

pub number-of-eligible : (p : Program) (g : List ℕ) (k : Kind) → IsEligible p g k → (n : ℕ) × (global_number p g ≡ Some n)
number-of-eligible p g k el = some-of (global_number p g)
    (has-number p g (subst (Contains (map (λ x. x.name) (globals_of p))) el.name (map-there (λ (x : FlowGlobal). x.name) (globals_of p) el.global el.there)))

pub if-some : {X : Type 0} (Q : X → Type 0) (b : Bool) (o : Option X) → (b ≡ true → IfSome o Q) → IfSome (if b then o else None) Q
if-some Q true o h = h refl
if-some Q false o h = tt

abbrev pub get-by : Kind → List Object → Option ℕ → Option Value
get-by k objects (Some o) = look_in k o 0 objects
get-by k objects None = None

pub global-value : (p : Program) (g : List ℕ) (j k : Kind) (n : ℕ) (objects : List Object) → IsProgram p → IsEligible p g k → global_number p g ≡ Some n
    → length (object_at objects n).bytes ≡ kind_size k → IfSome (get_global p g j objects) (λ v. v ≡ scalar_of k (object_at objects n).bytes)
global-value p g j k n objects lawful el is size =
    if-some (λ (v : Value). v ≡ scalar_of k (object_at objects n).bytes) (is_own_kind p g j) (get-by j objects (global_number p g)) (λ own.
    let same : j ≡ k = own-kind p g j k lawful el own in
    subst (λ (o : Option ℕ). IfSome (get-by j objects o) (λ v. v ≡ scalar_of k (object_at objects n).bytes)) (sym is)
    (if-some (λ (v : Value). v ≡ scalar_of k (object_at objects n).bytes) (is_open objects n 0 (kind_size j) (kind_size j)) (Some (scalar_of j (bytes_from (kind_size j) 0 (object_at objects n).bytes))) (λ o.
    subst (λ (i : Kind). scalar_of i (bytes_from (kind_size i) 0 (object_at objects n).bytes) ≡ scalar_of k (object_at objects n).bytes) (sym same)
    (ap (λ (l : List Byte). scalar_of k l) (bytes-whole (kind_size k) (object_at objects n).bytes size)))))
