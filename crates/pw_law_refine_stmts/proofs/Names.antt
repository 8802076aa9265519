-- The labels of a part, and of what it is made of: which are open, and where their blocks are.
use Rattle.std.proofs.Common.{◌≡◌, ◌≢◌, ℕ, ◌+◌, ◌<◌, ◌≤◌, ◌==◌, Bool, true, false, true≢false, nat_eq, Contains, ◌⊎◌, inl, inr, List, [], ◌∷◌, ◌++◌, map, length, refl, ap, sym, subst, ◌∙◌, arith, eqb-true, eq-eqb}
use Rattle.std.specs.Prelude.{All, cond, filter, slice_get, unwrap_or}
use Rattle.std.specs.List.{IsDistinct}
use Rattle.std.proofs.lemmas.Bool.{or_cases, or_left, or_right}
use Rattle.std.proofs.lemmas.List.Elements.{All-nil, All-cons, All-contains, All-from_recursion, Contains-append_left, Contains-append_right, Contains-append_cases}
use Rattle.std.proofs.lemmas.Map.Keys.{IsDistinct-head, IsDistinct-tail}
use Rattle.pw_flow.specs.declared.flow.FlowFn.{FlowFn}
use Rattle.pw_lower.specs.declared.code.Code.{Code}
use Rattle.pw_lower.specs.Codes.{block_of_label}
use Rattle.pw_cmean.specs.Execution.{holds}
use Rattle.pw_run_languages.specs.FlowRun.{Machine}
use Rattle.pw_law_refine.specs.Activations.{Activation}
use Rattle.pw_law_refine.specs.Containing.{ContainsCode}
use Rattle.pw_law_refine.specs.Statements.{IsOpen, AreLabelled, IsLeaving, GoesOut}
use Rattle.pw_law_refine.specs.StatementParts.{GoesOn}
use Rattle.pw_law_refine_code.specs.Behind.{named_blocks}
use Rattle.pw_law_refine_code.specs.Opening.{Fits}
use Rattle.pw_law_refine_stmts.proofs.Leaving.{leaving-less}

-- ---- lists

pub one-is : (k l : ℕ) → Contains (k ∷ []) l → k ≡ l
one-is k l w = All-contains (λ z. k ≡ z) (k ∷ []) l (All-cons (λ z. k ≡ z) k [] refl (All-nil (λ z. k ≡ z))) w

pub holds-contained : (xs : List ℕ) (l : ℕ) → Contains xs l → holds xs l ≡ true
holds-contained [] l h = absurd (omega (arith, h.1))
holds-contained (x ∷ xs) l h =
    elim (Contains-append_cases (x ∷ []) xs l h) [
      | inl here ↦ or_left (x == l) (holds xs l) (eq-eqb x l (one-is x l here))
      | inr later ↦ or_right (x == l) (holds xs l) (holds-contained xs l later)
    ]

pub contained-held : (xs : List ℕ) (l : ℕ) → holds xs l ≡ true → Contains xs l
contained-held [] l e = absurd (true≢false (sym e))
contained-held (x ∷ xs) l e =
    elim (or_cases (x == l) (holds xs l) e) [
      | inl here ↦ (0, omega arith, eqb-true x l here)
      | inr later ↦ Contains-append_right (x ∷ []) xs l (contained-held xs l later)
    ]

pub not-contained : (xs : List ℕ) (l : ℕ) → holds xs l ≡ false → ¬ Contains xs l
not-contained xs l e w = true≢false (sym (holds-contained xs l w) ∙ e)

pub none-in : {R : Type 0} → (l : ℕ) → Contains [] l → R
none-in l w = absurd (omega (arith, w.1))

pub distinct-second : (xs ys : List ℕ) → IsDistinct nat_eq (xs ++ ys) → IsDistinct nat_eq ys
distinct-second [] ys h = h
distinct-second (x ∷ xs) ys h = distinct-second xs ys (IsDistinct-tail nat_eq x (xs ++ ys) h)

-- no label stands in both
pub distinct-apart : (xs ys : List ℕ) (l : ℕ) → IsDistinct nat_eq (xs ++ ys) → Contains xs l → Contains ys l → ⊥
distinct-apart [] ys l h v w = absurd (omega (arith, v.1))
distinct-apart (x ∷ xs) ys l h v w = elim (Contains-append_cases (x ∷ []) xs l v) [
  | inl here ↦ true≢false (sym (same-is x l (one-is x l here)) ∙ All-contains (λ y. nat_eq x y ≡ false) (xs ++ ys) l (All-from_recursion (λ y. nat_eq x y ≡ false) (xs ++ ys) (IsDistinct-head nat_eq x (xs ++ ys) h)) (Contains-append_right xs ys l w))
  | inr later ↦ distinct-apart xs ys l (IsDistinct-tail nat_eq x (xs ++ ys) h) later w
]
  where
    same-is : (a b : ℕ) → a ≡ b → nat_eq a b ≡ true
    same-is a b e = eq-eqb a b e

-- ---- labels of a part

-- a label that a `goto` can name is no case's
pub named-free : (x : Activation) (own cased : List ℕ) (c : Code) (l : ℕ) → AreLabelled x own cased c → Contains x.function.named l → ¬ Contains cased l
named-free x own cased c l a w v = distinct-apart x.function.named cased l a.one_use w v

pub fits-in : (x : Activation) (own cased : List ℕ) (c : Code) → AreLabelled x own cased c → Fits c own cased
fits-in x own cased c a = record {
  once = a.once;
  one_use = distinct-second x.function.named cased a.one_use;
  below = subst (λ (n : ℕ). All (λ l. l < n) own) (sym a.all) a.below;
}

-- an open label has a block in the graph
pub room-for : (x : Activation) (own cased : List ℕ) (c d : Code) (g : FlowFn) (l : ℕ) → AreLabelled x own cased c → c.blocks ≤ d.blocks → ContainsCode g d → IsOpen own cased l → block_of_label c l < length g.blocks
room-for x own cased c d g l a more w o = omega (arith, a.given l o, more, w.blocks)

-- where the code before has the same labels, so has it the same blocks of them
pub same-block : (c d : Code) (l : ℕ) → d.labels ≡ c.labels → block_of_label d l ≡ block_of_label c l
same-block c d l e = ap (λ (ls : List ℕ). unwrap_or (slice_get ls l) 0) e

-- the block of a label with a name is among the named blocks
pub named-there : (x : Activation) (own : List ℕ) (c : Code) (l : ℕ) → Contains own l → Contains x.function.named l → Contains (named_blocks x own c) (block_of_label c l)
named-there x [] c l w v = absurd (omega (arith, w.1))
named-there x (k ∷ own) c l w v = by_case (Contains-append_cases (k ∷ []) own l w) (λ h. named-there x own c l h v)
  where
    first : k ≡ l → (b : Bool) → holds x.function.named k ≡ b → Contains (map (block_of_label c) (cond b (k ∷ filter (holds x.function.named) own) (filter (holds x.function.named) own))) (block_of_label c l)
    first is true e = (0, omega arith, ap (block_of_label c) is)
    first is false e = absurd (true≢false (sym (holds-contained x.function.named l v) ∙ ap (holds x.function.named) (sym is) ∙ e))

    others : (b : Bool) → Contains (named_blocks x own c) (block_of_label c l) → Contains (map (block_of_label c) (cond b (k ∷ filter (holds x.function.named) own) (filter (holds x.function.named) own))) (block_of_label c l)
    others true h = Contains-append_right (block_of_label c k ∷ []) (named_blocks x own c) (block_of_label c l) h
    others false h = h

    by_case : Contains (k ∷ []) l ⊎ Contains own l → (Contains own l → Contains (named_blocks x own c) (block_of_label c l)) → Contains (named_blocks x (k ∷ own) c) (block_of_label c l)
    by_case (inl here) rest = first (one-is k l here) (holds x.function.named k) refl
    by_case (inr later) rest = others (holds x.function.named k) (rest later)

-- ---- gotos

pub leaves-to : (back : List ℕ) (b d : ℕ) (m : Machine) → d ≡ b → IsLeaving back d m → IsLeaving back b m
leaves-to back b d m e l = subst (λ (k : ℕ). IsLeaving back k m) e l

-- of a part behind another, which may be left for a label of that one
pub goes-on-behind :
    (x : Activation) (back own1 own2 : List ℕ) (c d : Code) → ((l : ℕ) → Contains x.function.named l → block_of_label d l ≡ block_of_label c l)
    → (l : ℕ) (m : Machine) → GoesOn x (back ++ named_blocks x own1 c) own2 d l m → GoesOn x back (own1 ++ own2) c l m
goes-on-behind x back own1 own2 c d same l m g =
    let leaving = leaves-to (back ++ named_blocks x own1 c) (block_of_label c l) (block_of_label d l) m (same l g.named) g.leaving in
    record {
      named = g.named;
      leaving = leaving-less back (back ++ named_blocks x own1 c) (block_of_label c l) m (λ k w. Contains-append_left back (named_blocks x own1 c) k w) leaving;
      counts = λ w. by_case leaving (Contains-append_cases own1 own2 l w);
    }
  where
    by_case : IsLeaving (back ++ named_blocks x own1 c) (block_of_label c l) m → Contains own1 l ⊎ Contains own2 l → m.frame.block + 1 ≢ block_of_label c l
    by_case leaving (inl v) = leaving.counts (Contains-append_right back (named_blocks x own1 c) (block_of_label c l) (named-there x own1 c l v g.named))
    by_case leaving (inr v) = subst (λ (b : ℕ). m.frame.block + 1 ≢ b) (same l g.named) (g.counts v)

-- of a part before another, for which it does not go on
pub goes-out-before :
    (x : Activation) (back own1 own2 : List ℕ) (c : Code) (l : ℕ) (m : Machine) → GoesOut x back own1 c l m → holds own2 l ≡ false → GoesOn x back (own1 ++ own2) c l m
goes-out-before x back own1 own2 c l m g not = record {
  named = g.named;
  leaving = g.leaving;
  counts = λ w. by_case (Contains-append_cases own1 own2 l w);
}
  where
    by_case : Contains own1 l ⊎ Contains own2 l → m.frame.block + 1 ≢ block_of_label c l
    by_case (inl v) = absurd (g.elsewhere v)
    by_case (inr v) = absurd (not-contained own2 l not v)

-- with the same labels before, and fewer blocks behind
pub goes-out-same :
    (x : Activation) (back more own : List ℕ) (c d : Code) → ((k : ℕ) → Contains back k → Contains more k) → ((l : ℕ) → Contains x.function.named l → block_of_label d l ≡ block_of_label c l)
    → (l : ℕ) (m : Machine) → GoesOut x more own d l m → GoesOut x back own c l m
goes-out-same x back more own c d less same l m g = record {
  named = g.named;
  elsewhere = g.elsewhere;
  leaving = leaving-less back more (block_of_label c l) m less (leaves-to more (block_of_label c l) (block_of_label d l) m (same l g.named) g.leaving);
}
