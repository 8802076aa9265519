-- What the statements of laws take in and leave out.
use Rattle.std.specs.Prelude.{ℕ, ◌≡◌, ◌≤◌, ◌<◌, true, false, Bool, None, List, [], ◌∷◌, map, codes}
use Rattle.std.specs.Str.{bytes_eq}
use Rattle.std.proofs.Common.{arith, subst, refl}
use Rattle.std.proofs.lemmas.List.Elements.{All-contains, All-from_recursion}
use Rattle.pw_inst.specs.declared.Inst.TheVariants.{Ldil}
use Rattle.pw_inst.specs.declared.line.Line.TheVariants.{Fixed, CallTo}
use Rattle.pw_inst.specs.declared.relocation.FixKind.TheVariants as kind
use Rattle.pw_inst.specs.declared.relocation.Symbol.TheVariants as symbol
use Rattle.pw_flow.specs.declared.flow.Item.TheVariants.{Bytes, Address}
use Rattle.pw_flow.specs.declared.flow.Op.TheVariants.{AddrFn, Call}
use Rattle.pw_run_languages.specs.Traces.{Event, Called, Returned}
use Rattle.pw_run_languages.specs.Traffic.{active}
use Rattle.pw_run_languages.specs.Programs.{Program, names_of, AreBytes}
use Rattle.pw_run_languages.specs.LawfulPrograms.{IsFunctionName, NamesRightly, IsItem, StartFits}
use Rattle.pw_run_languages.specs.CodeStands.{IsReady}
use Rattle.pw_run_languages.specs.LinkingLaws.{AreNamesApart}
use Rattle.pw_tests_runs.proofs.Programs.{bumping, bump, program, global}

Holds : Bool → Type 0
Holds true = Unit {0}
Holds false = ⊥

-- ---- names keep to their sort

no_function : IsFunctionName bumping (codes "n") → ⊥
unfolding Holds
no_function c =
    let other : bytes_eq (codes "n") (codes "n") ≡ false =
    All-contains (λ f. bytes_eq f (codes "n") ≡ false) (names_of bumping) (codes "n")
    (All-from_recursion (λ f. bytes_eq f (codes "n") ≡ false) (names_of bumping) (refl, (refl, (refl, (refl, (refl, (refl, tt))))))) c in
    subst Holds other tt

-- the address of a function is not that of a global
mistaken : NamesRightly bumping (AddrFn 0 (codes "n")) → ⊥
mistaken = no_function

called : NamesRightly bumping (Call None (codes "n") []) → ⊥
called = no_function

-- ---- items

-- what does not fit in a byte is none
too_large : IsItem bumping (Bytes (300 ∷ [])) → ⊥
too_large h = let low : 300 < 256 = h.0 in omega (arith, low)

-- nothing is added to the address of a function; to that of a global something may be
beside : IsItem bumping (Address (codes "n") 2)
beside c = absurd (no_function c)

-- ---- lines

of_word : IsReady (Fixed (Ldil 0 1) kind.Ldil (symbol.Word 0) 0) → ⊥
of_word r = r.2

to_word : IsReady (CallTo (symbol.Word 0) 2) → ⊥
to_word r = r.1

-- ---- names of routines

multiplying : Program
multiplying = program (global (codes "$mul") ∷ []) (bump ∷ []) 4096

taken : AreNamesApart multiplying → ⊥
unfolding multiplying
taken a = a.1.1.1.1.1.0.1.1.1.1.0 refl

-- ---- the stack and the input

fitting : StartFits bumping
fitting = let h : 64 ≤ 4096 = omega arith in h

too_wide : AreBytes (256 ∷ []) → ⊥
too_wide h = let low : 256 < 256 = h.0 in omega (arith, low)

-- ---- active calls

abbrev names : List (Event ℕ ℕ) → List (List ℕ)
names log = map (λ o. o.function) (active log)

abbrev two_calls : List (Event ℕ ℕ)
two_calls = Called (codes "g") [] [] ∷ Called (codes "f") [] [] ∷ []

-- the innermost call returns, or the one around it
inner_returns : names (Returned (codes "g") 0 [] [] [] ∷ two_calls) ≡ codes "f" ∷ []
inner_returns = refl

outer_returns : names (Returned (codes "f") 1 [] [] [] ∷ two_calls) ≡ codes "g" ∷ []
outer_returns = refl
