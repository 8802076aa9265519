-- The weights that the code adds up are the sums that a summary has.
use Rattle.std.proofs.Common.{◌≡◌, ℕ, zero, suc, ◌+◌, ◌*◌, ◌^◌, ◌<◌, ◌≤◌, Bool, true, false, cond, List, [], ◌∷◌, ◌++◌, length, get_or, take, map, refl, sym, ap, ◌∙◌, arith, lit<}
use Rattle.std.specs.Prelude.{min, count_by}
use Rattle.std.specs.List.{sum_by, fold}
use Rattle.std.specs.Str.{bytes_eq}
use Rattle.std.proofs.Math.Nat.{mul-add}
use Rattle.std.proofs.lemmas.List.{take_more}
use Rattle.std.proofs.lemmas.List.Sums.{sum_by-cons, fold-append}
use Rattle.pw_value.specs.declared.value.Kind.{Kind}
use Rattle.pw_flow.specs.declared.flow.Op.{Op}
use Rattle.pw_flow.specs.declared.flow.Op.TheVariants as variant
use Rattle.pw_flow.specs.declared.flow.Block.{Block}
use Rattle.pw_flow.specs.declared.flow.FlowFn.{FlowFn}
use Rattle.pw_flow.specs.declared.flow.Op.TheVariants.{LoadG, StoreG}
use Rattle.pw_summarise.specs.Summarises.{deepest, most, weight, is_read, is_write, reference}
use Rattle.pw_summarise.specs.Tallies.{with_weight, with_op, with_ops, with_blocks, none_yet}

-- a global whose reads and writes come to these so far
abbrev state : List ℕ → ℕ → ℕ → List ℕ × ℕ × ℕ
state name reads writes = (name, min most reads, min most writes)

-- one, where a test passes
abbrev one : Bool → ℕ
one b = cond b 1 0

weighs_by : (b : Bool) (sum w : ℕ) → cond b (with_weight (min most sum) w) (min most sum) ≡ min most (sum + w * one b)
weighs_by true sum w = let e : w * 1 ≡ w = omega arith in rw e (omega arith)
weighs_by false sum w = let e : w * 0 ≡ 0 = omega arith in rw e (omega arith)

unweighed : (sum w : ℕ) → min most sum ≡ min most (sum + w * 0)
unweighed sum w = let e : w * 0 ≡ 0 = omega arith in rw e (omega arith)

states : (name : List ℕ) (a b c d : ℕ) → min most a ≡ min most b → min most c ≡ min most d → state name a c ≡ state name b d
states name a b c d one two = ap (λ (n : ℕ). (name, n, min most c)) one ∙ ap (λ (n : ℕ). (name, min most b, n)) two

op_weighs : (w : ℕ) (name : List ℕ) (reads writes : ℕ) (op : Op) → with_op w (state name reads writes) op ≡ state name (reads + w * one (is_read name op)) (writes + w * one (is_write name op))
op_weighs w name reads writes (LoadG t g k) =
    ap (λ (n : ℕ). (name, n, min most writes)) (weighs_by (bytes_eq g name) reads w) ∙ ap (λ (n : ℕ). (name, min most (reads + w * one (bytes_eq g name)), n)) (unweighed writes w)
op_weighs w name reads writes (StoreG g a k) =
    ap (λ (n : ℕ). (name, min most reads, n)) (weighs_by (bytes_eq g name) writes w) ∙ ap (λ (n : ℕ). (name, n, min most (writes + w * one (bytes_eq g name)))) (unweighed reads w)
op_weighs w name reads writes _ = states name reads (reads + w * 0) writes (writes + w * 0) (unweighed reads w) (unweighed writes w)

counted_on : (p : Op → Bool) (w sum : ℕ) (op : Op) (ops : List Op) → (sum + w * one (p op)) + w * count_by p ops ≡ sum + w * count_by p (op ∷ ops)
counted_on p w sum op ops =
    let e : count_by p (op ∷ ops) ≡ one (p op) + count_by p ops = sum_by-cons (λ x. cond (p x) 1 0) op ops in
    rw (e, mul-add w (one (p op)) (count_by p ops)) (omega arith)

ops_weigh : (w : ℕ) (name : List ℕ) (ops : List Op) (reads writes : ℕ) → with_ops w ops (state name reads writes) ≡ state name (reads + w * count_by (is_read name) ops) (writes + w * count_by (is_write name) ops)
ops_weigh w name [] reads writes = states name reads (reads + w * 0) writes (writes + w * 0) (unweighed reads w) (unweighed writes w)
ops_weigh w name (op ∷ ops) reads writes =
    ap (with_ops w ops) (op_weighs w name reads writes op)
    ∙ ops_weigh w name ops (reads + w * one (is_read name op)) (writes + w * one (is_write name op))
    ∙ states name _ _ _ _ (ap (min most) (counted_on (is_read name) w reads op ops)) (ap (min most) (counted_on (is_write name) w writes op ops))

-- what one test of operations comes to in a block
abbrev in_block : (Op → Bool) → Block → ℕ
in_block p b = weight b.depth * count_by p b.ops

summed_on : (p : Op → Bool) (sum : ℕ) (b : Block) (bs : List Block) → (sum + in_block p b) + sum_by (in_block p) bs ≡ sum + sum_by (in_block p) (b ∷ bs)
summed_on p sum b bs = rw (sum_by-cons (in_block p) b bs) (omega arith)

blocks_weigh : (name : List ℕ) (bs : List Block) (reads writes : ℕ) → with_blocks bs (state name reads writes) ≡ state name (reads + sum_by (in_block (is_read name)) bs) (writes + sum_by (in_block (is_write name)) bs)
blocks_weigh name [] reads writes = states name reads (reads + 0) writes (writes + 0) (omega arith) (omega arith)
blocks_weigh name (b ∷ bs) reads writes =
    ap (with_blocks bs) (ops_weigh (weight b.depth) name b.ops reads writes)
    ∙ blocks_weigh name bs (reads + in_block (is_read name) b) (writes + in_block (is_write name) b)
    ∙ states name _ _ _ _ (ap (min most) (summed_on (is_read name) reads b bs)) (ap (min most) (summed_on (is_write name) writes b bs))

pub reference_is : (f : FlowFn) (name : List ℕ) → with_blocks f.blocks (none_yet name) ≡ reference f name
reference_is f name = blocks_weigh name f.blocks 0 0 ∙ states name _ _ _ _ (omega arith) (omega arith)

pub references_are : (f : FlowFn) (names : List (List ℕ)) → map (with_blocks f.blocks) (map none_yet names) ≡ map (reference f) names
references_are f [] = refl
references_are f (name ∷ names) = ap (λ (r : List ℕ × ℕ × ℕ). r ∷ map (with_blocks f.blocks) (map none_yet names)) (reference_is f name) ∙ ap (λ (rs : List (List ℕ × ℕ × ℕ)). reference f name ∷ rs) (references_are f names)

-- ---- operations leave the names

pub op_keeps : (w : ℕ) (r : List ℕ × ℕ × ℕ) (op : Op) → (with_op w r op).0 ≡ r.0
op_keeps w r (LoadG t g k) = refl
op_keeps w r (StoreG g a k) = refl
op_keeps w r _ = refl

pub ops_keep : (w : ℕ) (ops : List Op) (r : List ℕ × ℕ × ℕ) → (with_ops w ops r).0 ≡ r.0
ops_keep w [] r = refl
ops_keep w (op ∷ ops) r = ops_keep w ops (with_op w r op) ∙ op_keeps w r op

pub blocks_keep : (bs : List Block) (r : List ℕ × ℕ × ℕ) → (with_blocks bs r).0 ≡ r.0
blocks_keep [] r = refl
blocks_keep (b ∷ bs) r = blocks_keep bs (with_ops (weight b.depth) b.ops r) ∙ ops_keep (weight b.depth) b.ops r

pub names_kept : (h : List ℕ × ℕ × ℕ → List ℕ × ℕ × ℕ) → ((r : List ℕ × ℕ × ℕ) → (h r).0 ≡ r.0) → (rs : List (List ℕ × ℕ × ℕ)) → map (λ r. r.0) (map h rs) ≡ map (λ r. r.0) rs
names_kept h keeps [] = refl
names_kept h keeps (r ∷ rs) = ap (λ (n : List ℕ). n ∷ map (λ r. r.0) (map h rs)) (keeps r) ∙ ap (λ (ns : List (List ℕ)). r.0 ∷ ns) (names_kept h keeps rs)

pub op_leaves : (w : ℕ) (o : Op) (r : List ℕ × ℕ × ℕ) → ((t : ℕ) (g : List ℕ) (k : Kind) → o ≡ variant.LoadG t g k → ⊥) → ((g : List ℕ) (a : ℕ) (k : Kind) → o ≡ variant.StoreG g a k → ⊥) → with_op w r o ≡ r
op_leaves w (variant.LoadG t g k) r no_load no_store = absurd (no_load t g k refl)
op_leaves w (variant.StoreG g a k) r no_load no_store = absurd (no_store g a k refl)
op_leaves w _ r no_load no_store = refl

pub map_leaves : {X : Type 0} (h : X → X) → ((x : X) → h x ≡ x) → (xs : List X) → map h xs ≡ xs
map_leaves h same [] = refl
map_leaves {X} h same (x ∷ xs) = ap (λ (y : X). y ∷ map h xs) (same x) ∙ ap (λ (ys : List X). x ∷ ys) (map_leaves h same xs)

-- the same items, each treated twice
pub map_twice : {X : Type 0} (f g h : X → X) → ((x : X) → g (f x) ≡ h x) → (xs : List X) → map g (map f xs) ≡ map h xs
map_twice f g h same [] = refl
map_twice {X} f g h same (x ∷ xs) = ap (λ (y : X). y ∷ map g (map f xs)) (same x) ∙ ap (λ (ys : List X). h x ∷ ys) (map_twice f g h same xs)

-- ---- one step of a loop

pub folded_on : {A B : Type 0} (f : B → A → B) (xs : List A) (i : ℕ) (x : A) (b : B) → i < length xs → x ≡ get_or xs i x → f (fold f b (take i xs)) x ≡ fold f b (take (i + 1) xs)
folded_on {A} {B} f xs i x b lt is =
    sym (ap (λ (ys : List A). fold f b ys) (take_more xs i x lt ∙ ap (λ (y : A). take i xs ++ y ∷ []) (sym is))
    ∙ fold-append f b (take i xs) (x ∷ []))

pub names_unweighted : (names : List (List ℕ)) → map (λ r. r.0) (map none_yet names) ≡ names
names_unweighted [] = refl
names_unweighted (name ∷ names) = ap (λ (ns : List (List ℕ)). name ∷ ns) (names_unweighted names)

-- ---- the greatest weight of one operation

pub power_fits : (n : ℕ) → n ≤ deepest → 8 ^ n < 2 ^ 64
power_fits zero le = lit< tt
power_fits (suc zero) le = lit< tt
power_fits (suc (suc zero)) le = lit< tt
power_fits (suc (suc (suc zero))) le = lit< tt
power_fits (suc (suc (suc (suc zero)))) le = lit< tt
power_fits (suc (suc (suc (suc (suc n))))) le = absurd (omega (arith, le))
