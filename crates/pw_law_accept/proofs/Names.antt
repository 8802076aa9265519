-- The full names of what modules have: which are ordinary, which are of one symbol, and none is a routine's.
use Rattle.std.proofs.Common.{◌≡◌, ◌≢◌, ℕ, zero, suc, ◌<◌, List, [], ◌∷◌, ◌++◌, refl, sym, ap, subst, ◌∙◌, arith, inl, inr}
use Rattle.std.specs.Prelude.{decimal, codes}
use Rattle.pw_value.specs.ProgramNames.{start_name, library_functions}
use Rattle.pw_types.specs.FullNames.{full_name}
use Rattle.pw_types.specs.TypedTrees.{Symbol, External, Internal, Hidden}
use Rattle.pw_law_lower.specs.Within.{IsLetter, AreLetters}
use Rattle.pw_law_lower.proofs.Names.{IsShared, all_more, above}
use Rattle.pw_flow.specs.ValidFlow.{AreDistinct}
use Rattle.pw_files.proofs.Standing.{Has}
use Rattle.pw_law_accept.specs.Linked.{HasNoColon}

letter_no_colon : (b : ℕ) → IsLetter b → b ≢ 58
letter_no_colon b h = λ e. grind arith

pub letters_no_colon : (name : List ℕ) → AreLetters name → HasNoColon name
letters_no_colon name h = all_more IsLetter (λ (b : ℕ). b ≢ 58) name letter_no_colon h

letter_no_dollar : IsLetter 36 → ⊥
letter_no_dollar h = grind arith

colon_in : (home x : List ℕ) → HasNoColon (home ++ 58 ∷ x) → ⊥
colon_in [] x h = h.0 refl
colon_in (b ∷ home) x h = colon_in home x h.1

pub own_is_not : (home x name : List ℕ) → HasNoColon name → (home ++ 58 ∷ x) ≢ name
own_is_not home x name h = λ e. colon_in home x (subst (λ (n : List ℕ). HasNoColon n) (sym e) h)

-- ---- the colon between a module's name and a name of its own

abbrev head_or : ℕ → List ℕ → ℕ
head_or n [] = n
head_or n (x ∷ xs) = x

abbrev tail_of : List ℕ → List ℕ
tail_of [] = []
tail_of (x ∷ xs) = xs

pub one_colon : (home other x y : List ℕ) → HasNoColon home → HasNoColon other → (home ++ 58 ∷ x) ≡ (other ++ 58 ∷ y) → (home ≡ other) × (x ≡ y)
one_colon [] [] x y h i e = (refl, ap tail_of e)
one_colon [] (b ∷ other) x y h i e = absurd (i.0 (sym (ap (head_or 0) e)))
one_colon (a ∷ home) [] x y h i e = absurd (h.0 (ap (head_or 0) e))
one_colon (a ∷ home) (b ∷ other) x y h i e =
    let r = one_colon home other x y h.1 i.1 (ap tail_of e) in
    (ap (λ (n : ℕ). n ∷ home) (ap (head_or 0) e) ∙ ap (λ (t : List ℕ). b ∷ t) r.0, r.1)

-- ---- an external name

-- an external name of letters is that of one symbol alone
pub named_external : (home x : List ℕ) (s : Symbol) → AreLetters x → full_name home s ≡ x → s ≡ External x
named_external home x (External y) h e = ap External e
named_external home x (Internal y) h e = absurd (own_is_not home y x (letters_no_colon x h) e)
named_external home x (Hidden k) h e = absurd (own_is_not home (46 ∷ decimal k) x (letters_no_colon x h) e)

-- ---- the routines of the library that no module names

abbrev pub dollars : List (List ℕ)
dollars = codes "$divs" ∷ codes "$divu" ∷ codes "$mul" ∷ codes "$rems" ∷ codes "$remu" ∷ []

-- it begins with a dollar, and has no colon
abbrev IsDollar : List ℕ → Type 0
IsDollar name = (rest : List ℕ) × (name ≡ 36 ∷ rest) × HasNoColon name

no_dollar : (home : List ℕ) (s : Symbol) (name : List ℕ) → IsShared s → IsDollar name → full_name home s ≢ name
no_dollar home (External x) name h d = λ e. letter_no_dollar (subst AreLetters (e ∙ d.1) h).0
no_dollar home (Internal x) name h d = own_is_not home x name d.2
no_dollar home (Hidden k) name h d = own_is_not home (46 ∷ decimal k) name d.2

less : (a b : ℕ) → a < b → a ≢ b
less a b h = λ e. absurd (omega (arith, e))

dollar_is : (name : List ℕ) → Has name dollars → IsDollar name
dollar_is name (inl e) = subst IsDollar e (_, refl, (less 36 58 (omega arith), (above 100 58 (omega arith), (above 105 58 (omega arith), (above 118 58 (omega arith), (above 115 58 (omega arith), tt))))))
dollar_is name (inr (inl e)) = subst IsDollar e (_, refl, (less 36 58 (omega arith), (above 100 58 (omega arith), (above 105 58 (omega arith), (above 118 58 (omega arith), (above 117 58 (omega arith), tt))))))
dollar_is name (inr (inr (inl e))) = subst IsDollar e (_, refl, (less 36 58 (omega arith), (above 109 58 (omega arith), (above 117 58 (omega arith), (above 108 58 (omega arith), tt)))))
dollar_is name (inr (inr (inr (inl e)))) = subst IsDollar e (_, refl, (less 36 58 (omega arith), (above 114 58 (omega arith), (above 101 58 (omega arith), (above 109 58 (omega arith), (above 115 58 (omega arith), tt))))))
dollar_is name (inr (inr (inr (inr (inl e))))) = subst IsDollar e (_, refl, (less 36 58 (omega arith), (above 114 58 (omega arith), (above 101 58 (omega arith), (above 109 58 (omega arith), (above 117 58 (omega arith), tt))))))
dollar_is name (inr (inr (inr (inr (inr h))))) = absurd h

pub dollar_apart : (home : List ℕ) (s : Symbol) (name : List ℕ) → IsShared s → Has name dollars → full_name home s ≢ name
dollar_apart home s name h k = no_dollar home s name h (dollar_is name k)

-- the byte at a place
abbrev byte_at : ℕ → List ℕ → ℕ
byte_at n [] = 0
byte_at zero (x ∷ xs) = x
byte_at (suc n) (x ∷ xs) = byte_at n xs

differ : (n a b : ℕ) (one other : List ℕ) → byte_at n one ≡ a → byte_at n other ≡ b → a ≢ b → one ≢ other
differ n a b one other e d apart = λ same. apart (sym e ∙ (ap (byte_at n) same ∙ d))

pub start_no_dollar : Has start_name dollars → ⊥
start_no_dollar (inl e) = differ 1 100 115 _ start_name refl refl (less 100 115 (omega arith)) e
start_no_dollar (inr (inl e)) = differ 1 100 115 _ start_name refl refl (less 100 115 (omega arith)) e
start_no_dollar (inr (inr (inl e))) = differ 1 109 115 _ start_name refl refl (less 109 115 (omega arith)) e
start_no_dollar (inr (inr (inr (inl e)))) = differ 1 114 115 _ start_name refl refl (less 114 115 (omega arith)) e
start_no_dollar (inr (inr (inr (inr (inl e))))) = differ 1 114 115 _ start_name refl refl (less 114 115 (omega arith)) e
start_no_dollar (inr (inr (inr (inr (inr h))))) = absurd h

-- none of the library's functions is among them
pub library_no_dollar : (name : List ℕ) → Has name library_functions → Has name dollars → ⊥
library_no_dollar name h k = by name h (dollar_is name k)
  where
    by : (name : List ℕ) → Has name library_functions → IsDollar name → ⊥
    by name (inl e) d = differ 0 101 36 _ name refl (ap (byte_at 0) d.1) (above 101 36 (omega arith)) e
    by name (inr (inl e)) d = differ 0 103 36 _ name refl (ap (byte_at 0) d.1) (above 103 36 (omega arith)) e
    by name (inr (inr (inl e))) d = differ 0 112 36 _ name refl (ap (byte_at 0) d.1) (above 112 36 (omega arith)) e
    by name (inr (inr (inr j))) d = absurd j

pub dollars_once : AreDistinct dollars
dollars_once = (
  (differ 4 117 115 _ _ refl refl (above 117 115 (omega arith)), (differ 1 109 100 _ _ refl refl (above 109 100 (omega arith)), (differ 1 114 100 _ _ refl refl (above 114 100 (omega arith)), (differ 1 114 100 _ _ refl refl (above 114 100 (omega arith)), tt)))),
  (
    (differ 1 109 100 _ _ refl refl (above 109 100 (omega arith)), (differ 1 114 100 _ _ refl refl (above 114 100 (omega arith)), (differ 1 114 100 _ _ refl refl (above 114 100 (omega arith)), tt))),
    (
      (differ 1 114 109 _ _ refl refl (above 114 109 (omega arith)), (differ 1 114 109 _ _ refl refl (above 114 109 (omega arith)), tt)),
      (
        (differ 4 117 115 _ _ refl refl (above 117 115 (omega arith)), tt),
        (
          tt,
          tt,
        ),
      ),
    ),
  ),
)
