-- A module has one optimised form.
use Rattle.std.specs.Prelude.{ℕ, suc, ◌≡◌, ◌<◌, List, [], ◌∷◌, length}
use Rattle.std.proofs.Common.{refl, sym, ap, ap₂, subst, ◌∙◌, arith}
use Rattle.pw_flow.specs.declared.flow.FlowGlobal.{FlowGlobal}
use Rattle.pw_flow.specs.declared.flow.FlowFn.{FlowFn}
use Rattle.pw_flow.specs.declared.flow.FlowModule.{FlowModule}
use Rattle.pw_opt_rules.specs.declared.flat.Flat.{Flat}
use Rattle.pw_opt_rules.specs.declared.flat.Flat.TheVariants.{Bottom, One, Many}
use Rattle.pw_opt_rules.specs.Flat.{IsBelow}
use Rattle.pw_opt_rules.specs.Rows.{IsRowBelow, front, IsLeastSolution}
use Rattle.pw_opt_rules.specs.Rewriting.{Rewriting, rewritten_blocks, with_blocks, IsRewritten}
use Rattle.pw_opt_rules.specs.Constants.{constants}
use Rattle.pw_opt_rules.specs.Copies.{copies}
use Rattle.pw_opt_rules.specs.Dead.{without_dead}
use Rattle.pw_opt_rules.specs.Optimised.{IsOptimised, stays, steps, AreOptimised, none, also, IsOptimisedModule}

-- ---- rows

same_flat : (x y : Flat) → IsBelow x y → IsBelow y x → x ≡ y
same_flat Bottom Bottom a b = refl
same_flat Bottom (One n) a b = absurd b
same_flat Bottom Many a b = absurd b
same_flat (One m) Bottom a b = absurd a
same_flat (One m) (One n) a b = ap One a
same_flat (One m) Many a b = absurd b
same_flat Many Bottom a b = absurd a
same_flat Many (One n) a b = absurd a
same_flat Many Many a b = refl

same_row : (xs ys : List Flat) → length xs ≡ length ys → IsRowBelow xs ys → IsRowBelow ys xs → xs ≡ ys
same_row [] [] e a b = refl
same_row [] (y ∷ ys) e a b = absurd (omega (arith, e))
same_row (x ∷ xs) [] e a b = absurd (omega (arith, e))
same_row (x ∷ xs) (y ∷ ys) e a b =
    ap₂ (λ (z : Flat) (zs : List Flat). z ∷ zs) (same_flat x y (a 0) (b 0)) (same_row xs ys (omega (arith, e)) (λ t. a (suc t)) (λ t. b (suc t)))

same_rows : (rows others : List (List Flat)) → length rows ≡ length others → ((b : ℕ) → b < length rows → front rows b ≡ front others b) → rows ≡ others
same_rows [] [] e same = refl
same_rows [] (y ∷ ys) e same = absurd (omega (arith, e))
same_rows (x ∷ xs) [] e same = absurd (omega (arith, e))
same_rows (x ∷ xs) (y ∷ ys) e same =
    ap₂ (λ (z : List Flat) (zs : List (List Flat)). z ∷ zs) (same 0 (omega arith)) (same_rows xs ys (omega (arith, e)) (λ b lt. same (suc b) (omega (arith, lt))))

least_same : (w : Rewriting) (f : FlowFn) (rows others : List (List Flat)) → IsLeastSolution w.transfer f rows → IsLeastSolution w.transfer f others → rows ≡ others
least_same w f rows others l k =
    let long : length rows ≡ length f.blocks = l.solution.each_block in
    same_rows rows others (l.solution.each_block ∙ sym k.solution.each_block)
    (λ b lt.
    let within : b < length f.blocks = omega (arith, lt, long) in
    same_row (front rows b) (front others b) (l.solution.each_temp b within ∙ sym (k.solution.each_temp b within))
    (l.least others k.solution b) (k.least rows l.solution b))

rewritten_same : (w : Rewriting) (f g h : FlowFn) → IsRewritten w f g → IsRewritten w f h → g ≡ h
rewritten_same w f g h r s =
    r.is ∙ ap (λ (rows : List (List Flat)). with_blocks f (rewritten_blocks w rows f.blocks)) (least_same w f r.rows s.rows r.known s.known) ∙ sym s.is

-- ---- functions

same_function : (m : FlowModule) (f g h : FlowFn) → IsOptimised m f g → IsOptimised m f h → g ≡ h
same_function m f g h (stays large) (stays also_large) = refl
same_function m f g h (stays large) (steps a b small r s) = absurd (omega (arith, large, small))
same_function m f g h (steps a b small r s) (stays large) = absurd (omega (arith, large, small))
same_function m f g h (steps a b small r s) (steps c d also_small t u) =
    let first : c ≡ a = rewritten_same constants f c a t r in
    ap (without_dead m) (rewritten_same copies a b d s (subst (λ (x : FlowFn). IsRewritten copies x d) first u))

same_functions : (m : FlowModule) (fs gs hs : List FlowFn) → AreOptimised m fs gs → AreOptimised m fs hs → gs ≡ hs
same_functions m fs gs hs none none = refl
same_functions m fs gs hs (also f g more others o rest) (also f' h more' others' o' rest') =
    ap₂ (λ (x : FlowFn) (xs : List FlowFn). x ∷ xs) (same_function m f g h o o') (same_functions m more others others' rest rest')

abbrev module_of : List ℕ → List FlowGlobal → List FlowFn → List (List ℕ × List ℕ) → FlowModule
module_of name globals functions declared = record { name = name; globals = globals; functions = functions; declared = declared }

pub same_modules : (m n o : FlowModule) → IsOptimisedModule m n → IsOptimisedModule m o → n ≡ o
same_modules m n o a b =
    ap₂ (λ (name : List ℕ) (globals : List FlowGlobal). module_of name globals n.functions n.declared) (a.name ∙ sym b.name) (a.globals ∙ sym b.globals)
    ∙ ap₂ (λ (functions : List FlowFn) (declared : List (List ℕ × List ℕ)). module_of o.name o.globals functions declared)
    (same_functions m m.functions n.functions o.functions a.functions b.functions) (a.declared ∙ sym b.declared)
