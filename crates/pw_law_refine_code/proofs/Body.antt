-- The body of an active function is set, behind the code at the function's beginning.
use Rattle.std.proofs.Common.{◌≡◌, ℕ, zero, suc, ◌+◌, ◌<◌, ◌==◌, ◌||◌, not, cond, Bool, true, false, true≢false, nat_eq, Contains, Some, List, [], ◌∷◌, ◌++◌, length, slice_get, refl, ap, sym, subst, ◌∙◌, arith}
use Rattle.std.specs.Prelude.{filter, replicate, slice_set}
use Rattle.std.specs.List.{AllByRecursion, IsDistinct}
use Rattle.std.proofs.lemmas.Option.{slice_get_read, same_Some}
use Rattle.std.proofs.lemmas.List.{append-nil, length-replicate}
use Rattle.std.proofs.lemmas.List.Elements.{recursion_from_All, All-from_recursion, All-contains}
use Rattle.std.proofs.lemmas.Map.Keys.{IsDistinct-head, IsDistinct-tail}
use Rattle.pw_types.specs.Labels.{labels_in, cases_in}
use Rattle.pw_types.specs.TypedModules.{IsFunction}
use Rattle.pw_types.specs.TypedTrees.{ModuleValue}
use Rattle.pw_lower.specs.Codes.{block_of_label, numbered}
use Rattle.pw_lower.specs.Modules.{entered, blocks_at_start}
use Rattle.pw_cmean.specs.Execution.{holds}
use Rattle.pw_law_refine_steps.specs.FromLawRefine.Activations.{Activation}
use Rattle.pw_law_refine_steps.specs.FromLawRefine.Statements.{IsOpen, AreLabelled}
use Rattle.pw_law_refine_code.proofs.Totals.{look, holds-append, contained-held, look-same, numbered-other, set-length}
use Rattle.pw_law_refine_code.proofs.Opening.{split}
use Rattle.pw_law_refine_code.proofs.Labelling.{apart-contains}
use Rattle.pw_law_refine_code.proofs.Spreads.{OfExpressions}
use Rattle.pw_law_refine_code.proofs.FunctionCode.{labels-count, held, below-all, entered-labels, entered-blocks}

-- ---- labels that are numbered

not-held : (l : ℕ) (own : List ℕ) → AllByRecursion (λ z. nat_eq l z ≡ false) own → holds own l ≡ false
not-held l [] h = refl
not-held l (k ∷ own) h = by_test (k == l) (turned k l h.0) (not-held l own h.1)
  where
    turned : (a b : ℕ) → nat_eq b a ≡ false → (a == b) ≡ false
    turned a b e = grind (arith, e)

    by_test : (v : Bool) → v ≡ false → holds own l ≡ false → (v || holds own l) ≡ false
    by_test true e rest = absurd (true≢false e)
    by_test false e rest = rest

-- the label at a place has the number of that place
numbered-at :
    (n : ℕ) (own blocks : List ℕ) (l i : ℕ) → IsDistinct nat_eq own → AllByRecursion (λ k. k < length blocks) own → slice_get own i ≡ Some l
    → look (numbered n own blocks) l ≡ n + i
numbered-at n [] blocks l i d h e = absurd (cc)
numbered-at n (k ∷ own) blocks l zero d h e =
    let same : k ≡ l = same_Some k l e in
    ap (λ (j : ℕ). look (numbered (n + 1) own (slice_set blocks k n)) j) (sym same)
    ∙ numbered-other (n + 1) own (slice_set blocks k n) k (not-held k own (IsDistinct-head nat_eq k own d)) ∙ look-same blocks k n h.0
    ∙ (let none : n ≡ n + 0 = omega arith in none)
numbered-at n (k ∷ own) blocks l (suc i) d h e =
    numbered-at (n + 1) own (slice_set blocks k n) l i (IsDistinct-tail nat_eq k own d) (kept own h.1) e
    ∙ (let sum : (n + 1) + i ≡ n + suc i = omega arith in sum)
  where
    kept : (ks : List ℕ) → AllByRecursion (λ j. j < length blocks) ks → AllByRecursion (λ j. j < length (slice_set blocks k n)) ks
    kept [] g = tt
    kept (j ∷ ks) g = (omega (arith, g.0, set-length blocks k n), kept ks g.1)

-- ---- the labels with names, in the order of the text

filter-same : (p q : ℕ → Bool) (xs : List ℕ) → AllByRecursion (λ l. p l ≡ q l) xs → filter p xs ≡ filter q xs
filter-same p q [] h = refl
filter-same p q (x ∷ xs) h = by_test (p x) (q x) h.0 (filter-same p q xs h.1)
  where
    by_test : (v w : Bool) → v ≡ w → filter p xs ≡ filter q xs → cond v (x ∷ filter p xs) (filter p xs) ≡ cond w (x ∷ filter q xs) (filter q xs)
    by_test true true e rest = ap (λ (ls : List ℕ). x ∷ ls) rest
    by_test false false e rest = rest
    by_test true false e rest = absurd (true≢false e)
    by_test false true e rest = absurd (true≢false (sym e))

-- a label of a function has a name or is a case's, and not both
one-of : (named cased own : List ℕ) → IsDistinct nat_eq (named ++ cased) → AllByRecursion (λ l. holds (named ++ cased) l ≡ true) own → AllByRecursion (λ l. holds named l ≡ not (holds cased l)) own
one-of named cased [] d h = tt
one-of named cased (l ∷ own) d h = (by_test (holds named l) (holds cased l) refl refl (sym (holds-append named cased l) ∙ h.0), one-of named cased own d h.1)
  where
    by_test : (p q : Bool) → holds named l ≡ p → holds cased l ≡ q → (p || q) ≡ true → p ≡ not q
    by_test true false e f g = refl
    by_test false true e f g = refl
    by_test false false e f g = absurd (true≢false (sym g))
    by_test true true e f g = absurd (apart-contains named cased l (split named cased d).2 (contained-held named l e) (contained-held cased l f))

-- ---- functions

pub body-labelled :
    OfExpressions → (x : Activation) → (home : List ℕ) (m : ModuleValue) → IsFunction m x.function
    → x.function.named ≡ filter (λ l. not (holds (cases_in x.function.body) l)) (labels_in x.function.body)
    → AreLabelled x (labels_in x.function.body) (cases_in x.function.body) (entered x.function)
body-labelled known x home m typed formed =
    let f = x.function in
    let own = labels_in f.body in
    let cased = cases_in f.body in
    let labels = typed.labels in
    let used = held (f.named ++ cased) own (recursion_from_All (Contains (f.named ++ cased)) own labels.used) in
    let room : AllByRecursion (λ l. l < length (replicate f.labels 0)) f.named =
    subst (λ (n : ℕ). AllByRecursion (λ l. l < n) f.named) (sym (length-replicate f.labels 0))
    (below-all f.labels own f.named labels.below (recursion_from_All (Contains own) f.named labels.there)) in
    let block : (l i : ℕ) → slice_get f.named i ≡ Some l → block_of_label (entered f) l ≡ i + 1 = λ l i e.
    ap (λ (ls : List ℕ). look ls l) (entered-labels known home m f typed)
    ∙ numbered-at 1 f.named (replicate f.labels 0) l i (split f.named cased labels.one_use).0 room e ∙ (let sum : 1 + i ≡ i + 1 = omega arith in sum) in
    let name-of : (l : ℕ) → IsOpen own cased l → Contains f.named l = λ l o. contained-held f.named l (named-open f.named own cased l used o) in
    record {
      once = labels.once;
      one_use = labels.one_use;
      below = labels.below;
      all = labels-count known home m f typed;
      order = ([], [], (formed ∙ sym (filter-same (holds f.named) (λ l. not (holds cased l)) own (one-of f.named cased own labels.one_use used))) ∙ sym (append-nil (filter (holds f.named) own)));
      named = block;
      first = omega (arith, entered-blocks known home m f typed, at-start f.named);
      given = λ l o. (let w = name-of l o in
          omega (arith, block l w.0 (there f.named l w), w.1, entered-blocks known home m f typed, two-more f.named w.0 w.1));
      cases = λ l o n. absurd (n (name-of l o));
    }
  where
    there : (ls : List ℕ) (l : ℕ) (w : Contains ls l) → slice_get ls w.0 ≡ Some l
    there ls l w = slice_get_read ls (length ls) w.0 l refl w.1 (sym w.2)

    named-open : (named own cased : List ℕ) (l : ℕ) → AllByRecursion (λ k. holds (named ++ cased) k ≡ true) own → IsOpen own cased l → holds named l ≡ true
    named-open named own cased l used o =
        by_test (holds named l) (holds cased l) refl
        (sym (holds-append named cased l) ∙ All-contains (λ k. holds (named ++ cased) k ≡ true) own l (All-from_recursion (λ k. holds (named ++ cased) k ≡ true) own used) o.0)
      where
        by_test : (p q : Bool) → holds cased l ≡ q → (p || q) ≡ true → p ≡ true
        by_test true q e g = refl
        by_test false true e g = absurd (o.1 (contained-held cased l e))
        by_test false false e g = absurd (true≢false (sym g))

    at-start : (named : List ℕ) → length named < blocks_at_start named
    at-start [] = omega arith
    at-start (l ∷ rest) = omega arith

    two-more : (named : List ℕ) (i : ℕ) → i < length named → i + 2 < blocks_at_start named
    two-more [] i h = absurd (omega arith)
    two-more (l ∷ rest) i h = omega arith
