-- Names among all modules: which are ordinary, and which are the same.
use Rattle.std.proofs.Common.{◌≡◌, ◌≢◌, ℕ, suc, ◌<◌, List, [], ◌∷◌, ◌++◌, map, refl, ap, sym, subst, arith}
use Rattle.std.specs.Prelude.{decimal, AllPairs}
use Rattle.std.specs.List.{AllByRecursion}
use Rattle.std.proofs.lemmas.Fmt.{decimal_injective}
use Rattle.std.proofs.lemmas.List.{append_cancel_left}
use Rattle.std.proofs.lemmas.List.Elements.{recursion_from_All}
use Rattle.pw_value.specs.ProgramNames.{start_name, main_name, IsOrdinary}
use Rattle.pw_types.specs.TypedTrees.{Symbol, External, Internal, Hidden}
use Rattle.pw_flow.specs.ValidFlow.{AreDistinct}
use Rattle.pw_flow.proofs.Lists.{all_append}
use Rattle.pw_lower.specs.Expressions.{full_name}
use Rattle.pw_law_lower.specs.Within.{IsLetter, AreLetters, IsNamed}

pub all_more : {X : Type 0} (P Q : X → Type 0) (xs : List X) → ((x : X) → P x → Q x) → AllByRecursion P xs → AllByRecursion Q xs
all_more P Q [] f h = tt
all_more P Q (x ∷ xs) f h = (f x h.0, all_more P Q xs f h.1)

-- ---- bytes that no identifier has

letter_no_colon : (b : ℕ) → IsLetter b → b ≢ 58
letter_no_colon b h = λ e. grind arith

letter_no_dot : IsLetter 46 → ⊥
letter_no_dot h = grind arith

letter_no_dollar : IsLetter 36 → ⊥
letter_no_dollar h = grind arith

colon_in : (home x : List ℕ) → AllByRecursion (λ (b : ℕ). b ≢ 58) (home ++ 58 ∷ x) → ⊥
colon_in [] x h = h.0 refl
colon_in (b ∷ home) x h = colon_in home x h.1

no_colon : (name : List ℕ) → AreLetters name → AllByRecursion (λ (b : ℕ). b ≢ 58) name
no_colon name h = all_more IsLetter (λ (b : ℕ). b ≢ 58) name letter_no_colon h

apart : (a b : ℕ) → a < b → a ≢ b
apart a b h = λ e. absurd (omega (arith, e))

pub above : (a b : ℕ) → b < a → a ≢ b
above a b h = λ e. absurd (omega (arith, e))

start_no_colon : AllByRecursion (λ (b : ℕ). b ≢ 58) start_name
start_no_colon = (apart 36 58 (omega arith), (above 115 58 (omega arith), (above 116 58 (omega arith), (above 97 58 (omega arith), (above 114 58 (omega arith), (above 116 58 (omega arith), tt))))))

main_no_colon : AllByRecursion (λ (b : ℕ). b ≢ 58) main_name
main_no_colon = (above 109 58 (omega arith), (above 97 58 (omega arith), (above 105 58 (omega arith), (above 110 58 (omega arith), tt))))

-- a name of a module's own among all modules
own_is_not : (home x name : List ℕ) → AllByRecursion (λ (b : ℕ). b ≢ 58) name → (home ++ 58 ∷ x) ≢ name
own_is_not home x name h = λ e. colon_in home x (subst (λ (n : List ℕ). AllByRecursion (λ (b : ℕ). b ≢ 58) n) (sym e) h)

-- ---- ordinary names

pub identifier_ordinary : (name : List ℕ) → AreLetters name → IsOrdinary name
identifier_ordinary name h = λ e. letter_no_dollar (subst AreLetters e h).0

-- a name that all modules share is an identifier
abbrev pub IsShared : Symbol → Type 0
IsShared (External name) = AreLetters name
IsShared (Internal name) = Unit {0}
IsShared (Hidden k) = Unit {0}

pub name_ordinary : (home : List ℕ) (s : Symbol) → IsShared s → IsOrdinary (full_name home s)
name_ordinary home (External x) h = identifier_ordinary x h
name_ordinary home (Internal x) h = own_is_not home x start_name start_no_colon
name_ordinary home (Hidden k) h = own_is_not home (46 ∷ decimal k) start_name start_no_colon

pub shared : (s : Symbol) → IsNamed s → IsShared s
shared (External x) h = h
shared (Internal x) h = tt
shared (Hidden k) h = tt

-- only the symbol `main` has the name
pub named_main : (home : List ℕ) (s : Symbol) → full_name home s ≡ main_name → s ≡ External main_name
named_main home (External x) e = ap External e
named_main home (Internal x) e = absurd (own_is_not home x main_name main_no_colon e)
named_main home (Hidden k) e = absurd (own_is_not home (46 ∷ decimal k) main_name main_no_colon e)

-- ---- one name, one symbol

no_dot : (x : List ℕ) (k : ℕ) → AreLetters x → x ≡ 46 ∷ decimal k → ⊥
no_dot x k h e = letter_no_dot (subst AreLetters e h).0

pub one_symbol : (home : List ℕ) (s t : Symbol) → IsNamed s → IsNamed t → full_name home s ≡ full_name home t → s ≡ t
one_symbol home (External x) (External y) h i e = ap External e
one_symbol home (External x) (Internal y) h i e = absurd (own_is_not home y x (no_colon x h) (sym e))
one_symbol home (External x) (Hidden k) h i e = absurd (own_is_not home (46 ∷ decimal k) x (no_colon x h) (sym e))
one_symbol home (Internal x) (External y) h i e = absurd (own_is_not home x y (no_colon y i) e)
one_symbol home (Internal x) (Internal y) h i e = let same : 58 ∷ x ≡ 58 ∷ y = append_cancel_left home (58 ∷ x) (58 ∷ y) e in ap Internal cc
one_symbol home (Internal x) (Hidden k) h i e =
    let same : 58 ∷ x ≡ 58 ∷ 46 ∷ decimal k = append_cancel_left home (58 ∷ x) (58 ∷ 46 ∷ decimal k) e in absurd (no_dot x k h cc)
one_symbol home (Hidden k) (External y) h i e = absurd (own_is_not home (46 ∷ decimal k) y (no_colon y i) e)
one_symbol home (Hidden k) (Internal y) h i e =
    let same : 58 ∷ 46 ∷ decimal k ≡ 58 ∷ y = append_cancel_left home (58 ∷ 46 ∷ decimal k) (58 ∷ y) e in absurd (no_dot y k i cc)
one_symbol home (Hidden j) (Hidden k) h i e =
    let same : 58 ∷ 46 ∷ decimal j ≡ 58 ∷ 46 ∷ decimal k = append_cancel_left home (58 ∷ 46 ∷ decimal j) (58 ∷ 46 ∷ decimal k) e in
    let digits : decimal j ≡ decimal k = cc in
    ap Hidden (decimal_injective j k (omega (arith, h)) (omega (arith, i)) digits)

-- ---- lists of names

pub all_both : {X : Type 0} (P Q R : X → Type 0) (xs : List X) → ((x : X) → P x → Q x → R x) → AllByRecursion P xs → AllByRecursion Q xs → AllByRecursion R xs
all_both P Q R [] f h i = tt
all_both P Q R (x ∷ xs) f h i = (f x h.0 i.0, all_both P Q R xs f h.1 i.1)

pub all_mapped : {X Y : Type 0} (f : X → Y) (P : Y → Type 0) (xs : List X) → AllByRecursion (λ (x : X). P (f x)) xs → AllByRecursion P (map f xs)
all_mapped f P [] h = tt
all_mapped f P (x ∷ xs) h = (h.0, all_mapped f P xs h.1)

-- R holds of each element and each later one
abbrev pub Apart : {X : Type 0} → (X → X → Type 0) → List X → Type 0
Apart R [] = Unit {0}
Apart R (x ∷ xs) = AllByRecursion (R x) xs × Apart R xs

pub apart_from_pairs : {X : Type 0} (R : X → X → Type 0) (xs : List X) → AllPairs R xs → Apart R xs
apart_from_pairs R [] h = tt
apart_from_pairs R (x ∷ xs) h =
    (recursion_from_All (R x) xs (λ k d l. h 0 (suc k) d (omega arith) (omega (arith, l))), apart_from_pairs R xs (λ i j d l k. h (suc i) (suc j) d (omega (arith, l)) (omega (arith, k))))

pub apart_more : {X : Type 0} (P : X → Type 0) (R S : X → X → Type 0) (xs : List X) → ((x y : X) → P x → P y → R x y → S x y) → AllByRecursion P xs → Apart R xs → Apart S xs
apart_more P R S [] f h r = tt
apart_more P R S (x ∷ xs) f h r =
    (all_both P (R x) (S x) xs (λ y p q. f x y h.0 p q) h.1 r.0, apart_more P R S xs f h.1 r.1)

pub distinct_append : (xs ys : List (List ℕ)) → AreDistinct xs → AreDistinct ys → AllByRecursion (λ (x : List ℕ). AllByRecursion (λ (y : List ℕ). y ≢ x) ys) xs → AreDistinct (xs ++ ys)
distinct_append [] ys a b h = b
distinct_append (x ∷ xs) ys a b h = (all_append (λ (y : List ℕ). y ≢ x) xs ys a.0 h.0, distinct_append xs ys a.1 b h.1)

pub names_ordinary : (home : List ℕ) (symbols : List Symbol) → AllByRecursion IsNamed symbols → AllByRecursion IsOrdinary (map (full_name home) symbols)
names_ordinary home symbols h =
    all_mapped (full_name home) IsOrdinary symbols (all_more IsNamed (λ (s : Symbol). IsOrdinary (full_name home s)) symbols (λ s i. name_ordinary home s (shared s i)) h)

-- different symbols have different names
pub others : (home : List ℕ) (s : Symbol) (symbols : List Symbol) → IsNamed s → AllByRecursion IsNamed symbols → AllByRecursion (λ (t : Symbol). s ≢ t) symbols → AllByRecursion (λ (name : List ℕ). name ≢ full_name home s) (map (full_name home) symbols)
others home s symbols i h a =
    all_mapped (full_name home) (λ (name : List ℕ). name ≢ full_name home s) symbols
    (all_both IsNamed (λ (t : Symbol). s ≢ t) (λ (t : Symbol). full_name home t ≢ full_name home s) symbols (λ t j n e. n (one_symbol home s t i j (sym e))) h a)

pub names_distinct : (home : List ℕ) (symbols : List Symbol) → AllByRecursion IsNamed symbols → Apart (λ (s t : Symbol). s ≢ t) symbols → AreDistinct (map (full_name home) symbols)
names_distinct home [] h a = tt
names_distinct home (s ∷ symbols) h a = (others home s symbols h.0 h.1 a.0, names_distinct home symbols h.1 a.1)
