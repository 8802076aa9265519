-- In whose words an address lies, of functions that stand one behind another.
use Rattle.std.specs.Prelude.{ℕ, suc, ◌≡◌, ◌+◌, ◌*◌, ◌<◌, ◌≤◌, ◌==◌, ◌||◌, nat_le, if◌then◌else◌, Bool, true, false, Option, Some, None, option_and_then, List, [], ◌∷◌, ◌++◌, map, length, bytes_eq}
use Rattle.std.specs.List.{find, list_any, AllByRecursion}
use Rattle.std.proofs.Common.{arith, sym, ap, refl, ◌∙◌}
use Rattle.std.proofs.lemmas.Bool.{eq-eqb, eqb-true, le-leb, leb-true}
use Rattle.pw_image.specs.declared.image.Function.{Function}
use Rattle.pw_link.specs.Layout.{Piece, Placed, placed_from}
use Rattle.pw_link.specs.Linking.{function_of}
use Rattle.pw_debug.specs.declared.info.FrameInfo.{FrameInfo}
use Rattle.pw_debug.specs.Holding.{beginning, frame_at, frame_of, function_at, greater, is_before_some, nearer, nearest}

-- ---- where pieces stand

-- where those end that begin at an address
abbrev pub end_of : ℕ → List Piece → ℕ
end_of at [] = at
end_of at (p ∷ ps) = end_of (at + 4 * length p.words) ps

abbrev pub functions_from : ℕ → List Piece → List Function
functions_from at ps = map function_of (placed_from at ps)

rises : (at : ℕ) (ps : List Piece) → at ≤ end_of at ps
rises at [] = omega arith
rises at (p ∷ ps) = let rest = rises (at + 4 * length p.words) ps in omega (arith, rest)

-- what holds of all that are placed holds of one
pub one_placed : (P : Placed → Type 0) (at : ℕ) (before : List Piece) (q : Piece) (after : List Piece) → AllByRecursion P (placed_from at (before ++ q ∷ after)) → P (record { address = end_of at before; piece = q })
one_placed P at [] q after all = all.0
one_placed P at (p ∷ ps) q after all = one_placed P (at + 4 * length p.words) ps q after all.1

-- ---- the nearest one before an address

past : (a : ℕ) (o : Option ℕ) (at : ℕ) (ps : List Piece) → a < at → nearest a o (functions_from at ps) ≡ o
past a o at [] lt = refl
past a o at (p ∷ ps) lt =
    let next = at + 4 * length p.words in
    ap (λ (b : Bool). nearest a (if b then o else greater o at) (functions_from next ps)) (le-leb (suc a) at (omega (arith, lt)))
    ∙ past a o next ps (omega (arith, lt))

abbrev pub IsUpTo : Option ℕ → ℕ → Type 0
IsUpTo None at = Unit {0}
IsUpTo (Some g) at = g ≤ at

greater_is : (o : Option ℕ) (at : ℕ) → IsUpTo o at → greater o at ≡ Some at
greater_is None at le = refl
greater_is (Some g) at le = by (nat_le (suc at) g) refl
  where
    by : (b : Bool) → nat_le (suc at) g ≡ b → (if b then Some g else Some at) ≡ Some at
    by true e = let lt = leb-true (suc at) g e in absurd (omega (arith, lt, le))
    by false e = refl

nearer_is : (a : ℕ) (o : Option ℕ) (at : ℕ) → IsUpTo o at → at ≤ a → nearer a o at ≡ Some at
nearer_is a o at low le = by (nat_le (suc a) at) refl
  where
    by : (b : Bool) → nat_le (suc a) at ≡ b → (if b then o else greater o at) ≡ Some at
    by true e = let lt = leb-true (suc a) at e in absurd (omega (arith, lt, le))
    by false e = greater_is o at low

nearest_is : (a : ℕ) (o : Option ℕ) (at : ℕ) (before : List Piece) (q : Piece) (after : List Piece) → IsUpTo o at → end_of at before ≤ a → a < end_of at before + 4 * length q.words
    → nearest a o (functions_from at (before ++ q ∷ after)) ≡ Some (end_of at before)
nearest_is a o at [] q after low le lt =
    let next = at + 4 * length q.words in
    ap (λ (n : Option ℕ). nearest a n (functions_from next after)) (nearer_is a o at low le) ∙ past a (Some at) next after lt
nearest_is a o at (p ∷ ps) q after low le lt =
    let next = at + 4 * length p.words in
    let rest = rises next ps in
    ap (λ (n : Option ℕ). nearest a n (functions_from next (ps ++ q ∷ after))) (nearer_is a o at low (omega (arith, rest, le)))
    ∙ nearest_is a (Some at) next ps q after (omega arith) le lt

-- ---- one behind it

or_true : (b : Bool) → (b || true) ≡ true
or_true true = refl
or_true false = refl

some_behind : (a at : ℕ) (before : List Piece) (q r : Piece) (after : List Piece) → a < end_of at before + 4 * length q.words → is_before_some (functions_from at (before ++ q ∷ r ∷ after)) a ≡ true
some_behind a at [] q r after lt =
    let next = at + 4 * length q.words in
    ap (λ (b : Bool). nat_le (suc a) at || (b || is_before_some (functions_from (next + 4 * length r.words) after) a)) (le-leb (suc a) next (omega (arith, lt)))
    ∙ or_true (nat_le (suc a) at)
some_behind a at (p ∷ ps) q r after lt =
    ap (λ (b : Bool). nat_le (suc a) at || b) (some_behind a (at + 4 * length p.words) ps q r after lt) ∙ or_true (nat_le (suc a) at)

-- ---- the first at an address

-- what stands at an address has the name
abbrev pub HasNameThere : ℕ → List ℕ → Placed → Type 0
HasNameThere own name p = p.address ≡ own → p.piece.name ≡ name

-- a function that is found has the name
pub record IsNamed (o : Option Function) (name : List ℕ) : Type 0 where
  pub function : Function
  pub found : o ≡ Some function
  pub named : function.name ≡ name

begins : (own at : ℕ) (before : List Piece) (q : Piece) (after : List Piece) → end_of at before ≡ own → AllByRecursion (HasNameThere own q.name) (placed_from at before)
    → IsNamed (beginning (functions_from at (before ++ q ∷ after)) own) q.name
begins own at [] q after is names = record {
  function = function_of (record { address = at; piece = q });
  found = ap (λ (b : Bool). if b then Some (function_of (record { address = at; piece = q })) else beginning (functions_from (at + 4 * length q.words) after) own) (eq-eqb at own is);
  named = refl;
}
begins own at (p ∷ ps) q after is names = by (at == own) refl (begins own (at + 4 * length p.words) ps q after is names.1)
  where
    rest : Option Function
    rest = beginning (functions_from (at + 4 * length p.words) (ps ++ q ∷ after)) own

    by : (b : Bool) → (at == own) ≡ b → IsNamed rest q.name → IsNamed (if b then Some (function_of (record { address = at; piece = p })) else rest) q.name
    by true e later = record { function = function_of (record { address = at; piece = p }); found = refl; named = names.0 (eqb-true at own e) }
    by false e later = later

-- ---- together

pub lies_in : (a own at : ℕ) (before : List Piece) (q r : Piece) (after : List Piece) → end_of at before ≡ own → own ≤ a → a < own + 4 * length q.words → AllByRecursion (HasNameThere own q.name) (placed_from at before)
    → IsNamed (function_at (functions_from at (before ++ q ∷ r ∷ after)) a) q.name
lies_in a own at before q r after is le lt names =
    let fs = functions_from at (before ++ q ∷ r ∷ after) in
    let h = begins own at before q (r ∷ after) is names in
    let behind = some_behind a at before q r after (omega (arith, is, lt)) in
    let near = nearest_is a None at before q (r ∷ after) tt (omega (arith, is, le)) (omega (arith, is, lt)) in
    record {
      function = h.function;
      found = ap (λ (b : Bool). if b then option_and_then (beginning fs) (nearest a None fs) else None) behind
          ∙ ap (λ (o : Option ℕ). option_and_then (beginning fs) o) (near ∙ ap (λ (n : ℕ). Some n) is)
          ∙ h.found;
      named = h.named;
    }

-- what is known of that function
pub known_in : (functions : List Function) (frames : List FrameInfo) (a : ℕ) (name : List ℕ) (i : FrameInfo) → IsNamed (function_at functions a) name → frame_of frames name ≡ Some i → frame_at functions frames a ≡ Some i
known_in functions frames a name i h known =
    ap (λ (o : Option Function). option_and_then (λ f. frame_of frames f.name) o) h.found ∙ ap (λ (n : List ℕ). frame_of frames n) h.named ∙ known
