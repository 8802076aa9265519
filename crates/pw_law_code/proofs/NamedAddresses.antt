-- Addresses by names: pieces of text one behind the other, and global objects behind them.
use Rattle.std.proofs.Common.{◌≡◌, ◌≢◌, ◌⊎◌, inl, inr, ℕ, zero, suc, ◌+◌, ◌*◌, ◌%◌, ◌^◌, ◌≤◌, ◌<◌, Bool, true, false, ◌||◌, cond, if◌then◌else◌, Some, List, [], ◌∷◌, ◌++◌, map, length, get_or, refl, sym, ap, subst, ◌∙◌, arith}
use Rattle.std.specs.Prelude.{Contains}
use Rattle.std.specs.List.{AllByRecursion, list_any, sum_by}
use Rattle.std.specs.Map.{lookup}
use Rattle.std.specs.Str.{bytes_eq}
use Rattle.std.proofs.lemmas.List.Sums.{sum_by-cons}
use Rattle.std.proofs.lemmas.Slice.Eq.{bytes_eq-Decides}
use Rattle.pw_flow.specs.declared.flow.FlowGlobal.{FlowGlobal}
use Rattle.pw_flow.specs.ValidFlow.{AreDistinct}
use Rattle.pw_flow.proofs.Lists.{all_right}
use Rattle.pw_link.specs.Layout.{Piece, placed_from, function_site, standing_from, global_site}
use Rattle.pw_flow.specs.ValidFlow.{global_room}
use Rattle.pw_law_link.proofs.Starting.{IsFound, found}

-- ---- names

pub same_name : (a b : List ℕ) → a ≡ b → bytes_eq a b ≡ true
same_name a b e = (bytes_eq-Decides a b).1 e

pub other_name : (a b : List ℕ) → a ≢ b → bytes_eq a b ≡ false
other_name a b other = by (bytes_eq a b) refl
  where
    by : (t : Bool) → bytes_eq a b ≡ t → bytes_eq a b ≡ false
    by true e = absurd (other ((bytes_eq-Decides a b).0 e))
    by false e = e

pub all_at : (P : List ℕ → Type 0) (names : List (List ℕ)) (name : List ℕ) → AllByRecursion P names → Contains names name → P name
all_at P [] name all c = absurd (omega (arith, c.1))
all_at P (n ∷ names) name all c = by c.0 c.1 c.2 (all_at P names name all.1)
  where
    by : (k : ℕ) → k < length (n ∷ names) → get_or (n ∷ names) k name ≡ name → (Contains names name → P name) → P name
    by zero lt e later = subst P e all.0
    by (suc k) lt e later = later (k, omega (arith, lt), e)

-- what stands before a name has others
pub others_before : (xs ys : List (List ℕ)) (name : List ℕ) → AreDistinct (xs ++ ys) → Contains ys name → AllByRecursion (λ x. x ≢ name) xs
others_before [] ys name d c = tt
others_before (x ∷ xs) ys name d c =
    let other : name ≢ x = all_at (λ (n : List ℕ). n ≢ x) ys name (all_right (λ (n : List ℕ). n ≢ x) xs ys d.0) c in
    ((λ e. other (sym e)), others_before xs ys name d.1 c)

-- ---- functions

abbrev pub piece_names : List Piece → List (List ℕ)
piece_names ps = map (λ p. p.name) ps

pub any_named : (name : List ℕ) (ps : List Piece) → Contains (piece_names ps) name → list_any (λ p. bytes_eq name p.name) ps ≡ true
any_named name [] c = absurd (omega (arith, c.1))
any_named name (p ∷ ps) c = by c.0 c.1 c.2 (any_named name ps)
  where
    or_true : (b : Bool) → (b || true) ≡ true
    or_true true = refl
    or_true false = refl

    by : (k : ℕ) → k < length (piece_names (p ∷ ps)) → get_or (piece_names (p ∷ ps)) k name ≡ name → (Contains (piece_names ps) name → list_any (λ p. bytes_eq name p.name) ps ≡ true)
        → list_any (λ p. bytes_eq name p.name) (p ∷ ps) ≡ true
    by zero lt e later = ap (λ (b : Bool). b || list_any (λ p. bytes_eq name p.name) ps) (same_name name p.name (sym e))
    by (suc k) lt e later = ap (λ (b : Bool). bytes_eq name p.name || b) (later (k, omega (arith, lt), e)) ∙ or_true (bytes_eq name p.name)

-- a function's address
pub function_found : (name : List ℕ) (rest : List (List ℕ × ℕ)) (at : ℕ) (ps : List Piece) → at % 4 ≡ 0 → Contains (piece_names ps) name
    → IsFound (lookup (bytes_eq name) (map function_site (placed_from at ps) ++ rest)) at (at + 4 * sum_by (λ p. length p.words) ps)
function_found name rest at ps aligned c = found name rest at ps aligned (any_named name ps c)

some_same : (a b : ℕ) → Some a ≡ Some b → a ≡ b
some_same a b e = cc

-- two functions at one address are one, where each has words
pub one_function : (f g : List ℕ) (rest : List (List ℕ × ℕ)) (at address : ℕ) (ps : List Piece) → at % 4 ≡ 0 → AllByRecursion (λ p. 0 < length p.words) ps
    → list_any (λ p. bytes_eq f p.name) ps ≡ true → list_any (λ p. bytes_eq g p.name) ps ≡ true
    → lookup (bytes_eq f) (map function_site (placed_from at ps) ++ rest) ≡ Some address → lookup (bytes_eq g) (map function_site (placed_from at ps) ++ rest) ≡ Some address → f ≡ g
one_function f g rest at address [] aligned words some other e h = absurd cc
one_function f g rest at address (p ∷ ps) aligned words some other e h =
    by (bytes_eq f p.name) (bytes_eq g p.name) refl refl some other e h (one_function f g rest next address ps even words.1)
  where
    next : ℕ
    next = at + 4 * length p.words

    even : next % 4 ≡ 0
    even = omega (arith, aligned)

    later : (name : List ℕ) → list_any (λ q. bytes_eq name q.name) ps ≡ true → lookup (bytes_eq name) (map function_site (placed_from next ps) ++ rest) ≡ Some at → ⊥
    later name any is =
        let f = found name rest next ps even any in
        let same = some_same f.address at (sym f.is ∙ is) in
        omega (arith, f.start, same, words.0)

    by : (b c : Bool) → bytes_eq f p.name ≡ b → bytes_eq g p.name ≡ c
        → (b || list_any (λ q. bytes_eq f q.name) ps) ≡ true → (c || list_any (λ q. bytes_eq g q.name) ps) ≡ true
        → cond b (Some at) (lookup (bytes_eq f) (map function_site (placed_from next ps) ++ rest)) ≡ Some address
        → cond c (Some at) (lookup (bytes_eq g) (map function_site (placed_from next ps) ++ rest)) ≡ Some address
        → (list_any (λ q. bytes_eq f q.name) ps ≡ true → list_any (λ q. bytes_eq g q.name) ps ≡ true
        → lookup (bytes_eq f) (map function_site (placed_from next ps) ++ rest) ≡ Some address → lookup (bytes_eq g) (map function_site (placed_from next ps) ++ rest) ≡ Some address → f ≡ g)
        → f ≡ g
    by true true is same some other e h more = (bytes_eq-Decides f p.name).0 is ∙ sym ((bytes_eq-Decides g p.name).0 same)
    by true false is same some other e h more = absurd (later g other (h ∙ sym e))
    by false true is same some other e h more = absurd (later f some (e ∙ sym h))
    by false false is same some other e h more = more some other e h

-- no function has the name
pub behind_functions : (name : List ℕ) (rest : List (List ℕ × ℕ)) (at : ℕ) (ps : List Piece) → AllByRecursion (λ n. n ≢ name) (piece_names ps)
    → lookup (bytes_eq name) (map function_site (placed_from at ps) ++ rest) ≡ lookup (bytes_eq name) rest
behind_functions name rest at [] others = refl
behind_functions name rest at (p ∷ ps) others =
    let next = at + 4 * length p.words in
    ap (λ (b : Bool). cond b (Some at) (lookup (bytes_eq name) (map function_site (placed_from next ps) ++ rest))) (other_name name p.name (λ e. others.0 (sym e)))
    ∙ behind_functions name rest next ps others.1

-- ---- global objects

abbrev pub global_names : List FlowGlobal → List (List ℕ)
global_names gs = map (λ g. g.name) gs

-- the offset of the first of a name, where the first object stands at one
abbrev pub offset_of : ℕ → List FlowGlobal → List ℕ → ℕ
offset_of at [] name = at
offset_of at (g ∷ gs) name = if bytes_eq name g.name then at else offset_of (at + global_room g) gs name

offset_here : (x : FlowGlobal) (at : ℕ) (gs : List FlowGlobal) (name : List ℕ) → name ≡ x.name → offset_of at (x ∷ gs) name ≡ at
offset_here x at gs name e = ap (λ (b : Bool). if b then at else offset_of (at + global_room x) gs name) (same_name name x.name e)

offset_there : (x : FlowGlobal) (at : ℕ) (gs : List FlowGlobal) (name : List ℕ) → name ≢ x.name → offset_of at (x ∷ gs) name ≡ offset_of (at + global_room x) gs name
offset_there x at gs name other = ap (λ (b : Bool). if b then at else offset_of (at + global_room x) gs name) (other_name name x.name other)

-- an object behind the first has another name
names_differ : (name : List ℕ) (g : FlowGlobal) (gs : List FlowGlobal) (k : ℕ) → k < length gs → get_or gs k g ≡ g → AllByRecursion (λ other. other ≢ name) (global_names gs) → g.name ≢ name
names_differ name g [] k lt e others = absurd (omega (arith, lt))
names_differ name g (y ∷ ys) zero lt e others = λ h. others.0 (ap (λ (z : FlowGlobal). z.name) e ∙ h)
names_differ name g (y ∷ ys) (suc k) lt e others = names_differ name g ys k (omega (arith, lt)) e others.1

pub global_found : (g : FlowGlobal) (begin at : ℕ) (gs : List FlowGlobal) (k : ℕ) → k < length gs → get_or gs k g ≡ g → AreDistinct (global_names gs)
    → lookup (bytes_eq g.name) (map (global_site begin) (standing_from at gs)) ≡ Some ((begin + offset_of at gs g.name) % 2 ^ 32)
global_found g begin at [] k lt e distinct = absurd (omega (arith, lt))
global_found g begin at (x ∷ gs) zero lt e distinct =
    let same : g.name ≡ x.name = ap (λ (y : FlowGlobal). y.name) (sym e) in
    ap (λ (b : Bool). cond b (Some ((begin + at) % 2 ^ 32)) (lookup (bytes_eq g.name) (map (global_site begin) (standing_from (at + global_room x) gs)))) (same_name g.name x.name same)
    ∙ ap (λ (n : ℕ). Some ((begin + n) % 2 ^ 32)) (sym (offset_here x at gs g.name same))
global_found g begin at (x ∷ gs) (suc k) lt e distinct =
    let other = names_differ x.name g gs k (omega (arith, lt)) e distinct.0 in
    ap (λ (b : Bool). cond b (Some ((begin + at) % 2 ^ 32)) (lookup (bytes_eq g.name) (map (global_site begin) (standing_from (at + global_room x) gs)))) (other_name g.name x.name other)
    ∙ global_found g begin (at + global_room x) gs k (omega (arith, lt)) e distinct.1
    ∙ ap (λ (n : ℕ). Some ((begin + n) % 2 ^ 32)) (sym (offset_there x at gs g.name other))

-- where an object stands, with its room
pub record Stands (at offset room end : ℕ) : Type 0 where
  pub aligned : offset % 8 ≡ 0
  pub start : at ≤ offset
  pub within : offset + room ≤ end

pub global_stands : (g : FlowGlobal) (at : ℕ) (gs : List FlowGlobal) (k : ℕ) → k < length gs → get_or gs k g ≡ g → at % 8 ≡ 0 → AreDistinct (global_names gs)
    → Stands at (offset_of at gs g.name) (global_room g) (at + sum_by global_room gs)
global_stands g at [] k lt e aligned distinct = absurd (omega (arith, lt))
global_stands g at (x ∷ gs) zero lt e aligned distinct =
    let here = offset_here x at gs g.name (ap (λ (y : FlowGlobal). y.name) (sym e)) in
    let room : global_room x ≡ global_room g = ap global_room e in
    let all = sum_by-cons global_room x gs in
    record { aligned = rw here aligned; start = omega (arith, here); within = omega (arith, here, room, all) }
global_stands g at (x ∷ gs) (suc k) lt e aligned distinct =
    let s = global_stands g (at + global_room x) gs k (omega (arith, lt)) e (omega (arith, aligned)) distinct.1 in
    let there = offset_there x at gs g.name (names_differ x.name g gs k (omega (arith, lt)) e distinct.0) in
    let all = sum_by-cons global_room x gs in
    record { aligned = rw there s.aligned; start = omega (arith, there, s.start); within = omega (arith, there, s.within, all) }

pub globals_apart : (g h : FlowGlobal) (at : ℕ) (gs : List FlowGlobal) (j k : ℕ) → j < length gs → get_or gs j g ≡ g → k < length gs → get_or gs k h ≡ h → g.name ≢ h.name
    → at % 8 ≡ 0 → AreDistinct (global_names gs)
    → (offset_of at gs g.name + global_room g ≤ offset_of at gs h.name) ⊎ (offset_of at gs h.name + global_room h ≤ offset_of at gs g.name)
globals_apart g h at [] j k lt e less same other aligned distinct = absurd (omega (arith, lt))
globals_apart g h at (x ∷ gs) zero zero lt e less same other aligned distinct = absurd (other (ap (λ (y : FlowGlobal). y.name) (sym e ∙ same)))
globals_apart g h at (x ∷ gs) zero (suc k) lt e less same other aligned distinct =
    let here = offset_here x at gs g.name (ap (λ (y : FlowGlobal). y.name) (sym e)) in
    let room : global_room x ≡ global_room g = ap global_room e in
    let there = offset_there x at gs h.name (names_differ x.name h gs k (omega (arith, less)) same distinct.0) in
    let s = global_stands h (at + global_room x) gs k (omega (arith, less)) same (omega (arith, aligned)) distinct.1 in
    inl (omega (arith, here, there, room, s.start))
globals_apart g h at (x ∷ gs) (suc j) zero lt e less same other aligned distinct =
    let here = offset_here x at gs h.name (ap (λ (y : FlowGlobal). y.name) (sym same)) in
    let room : global_room x ≡ global_room h = ap global_room same in
    let there = offset_there x at gs g.name (names_differ x.name g gs j (omega (arith, lt)) e distinct.0) in
    let s = global_stands g (at + global_room x) gs j (omega (arith, lt)) e (omega (arith, aligned)) distinct.1 in
    inr (omega (arith, here, there, room, s.start))
globals_apart g h at (x ∷ gs) (suc j) (suc k) lt e less same other aligned distinct =
    let one = offset_there x at gs g.name (names_differ x.name g gs j (omega (arith, lt)) e distinct.0) in
    let two = offset_there x at gs h.name (names_differ x.name h gs k (omega (arith, less)) same distinct.0) in
    elim (globals_apart g h (at + global_room x) gs j k (omega (arith, lt)) e (omega (arith, less)) same other (omega (arith, aligned)) distinct.1) [
      | inl before ↦ inl (omega (arith, one, two, before))
      | inr behind ↦ inr (omega (arith, one, two, behind))
    ]

-- an object's name is among those of all
pub name_there : (g : FlowGlobal) (gs : List FlowGlobal) (k : ℕ) → k < length gs → get_or gs k g ≡ g → Contains (global_names gs) g.name
name_there g [] k lt e = absurd (omega (arith, lt))
name_there g (x ∷ gs) zero lt e = (0, omega arith, ap (λ (y : FlowGlobal). y.name) e)
name_there g (x ∷ gs) (suc k) lt e = let c = name_there g gs k (omega (arith, lt)) e in (suc c.0, omega (arith, c.1), c.2)
