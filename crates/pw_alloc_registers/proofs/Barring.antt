-- Registers of webs, and others, as a set, one by one.
use Rattle.std.proofs.Common.{◌≡◌, ◌⊎◌, ℕ, suc, ◌+◌, ◌<◌, ◌==◌, ◌||◌, Bool, List, [], ◌∷◌, ◌++◌, length, get_or, map, take, sym, ap, subst, ◌∙◌, append_assoc, arith, inl, inr}
use Rattle.std.specs.Prelude.{All, ◌↔◌}
use Rattle.std.specs.Int.{bit_at}
use Rattle.std.specs.List.{AllByRecursion}
use Rattle.std.proofs.lemmas.Bool.{eqb-true, eq-eqb, or_cases, or_left, or_right}
use Rattle.std.proofs.Math.Bool.{or-false}
use Rattle.std.proofs.lemmas.List.{map_more, take_more}
use Rattle.std.proofs.lemmas.List.Elements.{All-from_recursion}
use Rattle.std.proofs.lemmas.List.Folds.{list_any-append}
use Rattle.std.proofs.lemmas.Nat.Bits.{bit_at-zero}
use Rattle.pw_db.specs.declared.database.Web.{Web}
use Rattle.pw_db.specs.declared.database.Role.{Role}
use Rattle.pw_db.specs.Limits.{first_register}
use Rattle.pw_db.specs.Database.{IsWeb, AreKeptFrom}
use Rattle.pw_webflow.specs.declared.web.WebFn.{WebFn}
use Rattle.pw_webflow.specs.ValidWebs.{IsWebFn}
use Rattle.pw_live.specs.Liveness.{has}
use Rattle.pw_alloc_masks.specs.Masks.{in_mask, HasRegister}
use Rattle.pw_alloc_registers.specs.Masks.{IsMaskOf}
use Rattle.std.specs.Cmp.{both_ways}

-- registers of webs are numbers below 32
each_low : (ws : List (Web × Role)) → AllByRecursion IsWeb (map (λ w. w.0) ws) → AllByRecursion (λ (w : Web × Role). w.0.reg < 32) ws
each_low [] all = tt
each_low (w ∷ ws) all = (let high = all.0.high in omega (arith, high), each_low ws all.1)

pub webs_low : (f : WebFn) (ws : List (Web × Role)) → IsWebFn f → ws ≡ f.directives.webs → All (λ (w : Web × Role). w.0.reg < 32) ws
webs_low f ws lawful is = subst (All (λ (w : Web × Role). w.0.reg < 32)) (sym is) (All-from_recursion (λ (w : Web × Role). w.0.reg < 32) f.directives.webs (each_low f.directives.webs lawful.directives.each))

-- so are those that it shares
each_kept : (least : ℕ) (rs : List ℕ) → AreKeptFrom least rs → AllByRecursion (λ r. r < 32) rs
each_kept least [] all = tt
each_kept least (r ∷ rs) all = (let high = all.1 in omega (arith, high), each_kept (suc r) rs all.2)

pub kept_low : (own rs : List ℕ) → AreKeptFrom first_register own → rs ≡ own → All (λ (r : ℕ). r < 32) rs
kept_low own rs kept is = subst (All (λ (r : ℕ). r < 32)) (sym is) (All-from_recursion (λ r. r < 32) own (each_kept first_register own kept))

-- ---- register by register

pub barred_none : IsMaskOf 0 []
barred_none r = ap (λ (n : ℕ). n == 1) (bit_at-zero r)

has_push : (r : ℕ) (xs : List ℕ) (x : ℕ) → has r (xs ++ x ∷ []) ≡ (has r xs || (x == r))
has_push r xs x = list_any-append (λ u. u == r) xs (x ∷ []) ∙ ap (λ (b : Bool). has r xs || b) (or-false (x == r))

-- one more register
pub mask_more : (old new x : ℕ) (so_far : List ℕ) → ((r : ℕ) → HasRegister new r ↔ (HasRegister old r ⊎ (r ≡ x))) → IsMaskOf old so_far → IsMaskOf new (so_far ++ x ∷ [])
mask_more old new x so_far now before r =
    both_ways (in_mask new r) (has r so_far || (x == r))
    (λ e. elim ((now r).0 (eqb-true (bit_at new r) 1 e)) [
      | inl o ↦ or_left (has r so_far) (x == r) (sym (before r) ∙ eq-eqb (bit_at old r) 1 o)
      | inr same ↦ or_right (has r so_far) (x == r) (eq-eqb x r (sym same))
    ])
    (λ e. eq-eqb (bit_at new r) 1 ((now r).1 (elim (or_cases (has r so_far) (x == r) e) [
      | inl o ↦ inl (eqb-true (bit_at old r) 1 (before r ∙ o))
      | inr same ↦ inr (sym (eqb-true x r same))
    ])))
    ∙ sym (has_push r so_far x)

pub more_registers : (rs : List ℕ) (k x : ℕ) (before : List ℕ) (old new : ℕ) → k < length rs → get_or rs k x ≡ x
    → ((r : ℕ) → HasRegister new r ↔ (HasRegister old r ⊎ (r ≡ x))) → IsMaskOf old (before ++ take k rs) → IsMaskOf new (before ++ take (k + 1) rs)
more_registers rs k x before old new lt is now so_far =
    let more : take (k + 1) rs ≡ take k rs ++ x ∷ [] = take_more rs k x lt ∙ ap (λ (y : ℕ). take k rs ++ y ∷ []) is in
    let whole : before ++ take (k + 1) rs ≡ (before ++ take k rs) ++ x ∷ [] = ap (λ (xs : List ℕ). before ++ xs) more ∙ sym (append_assoc before (take k rs) (x ∷ [])) in
    subst (IsMaskOf new) (sym whole) (mask_more old new x (before ++ take k rs) now so_far)

pub barred_more : (webs : List (Web × Role)) (k : ℕ) (w : Web × Role) (old new : ℕ) → k < length webs → get_or webs k w ≡ w
    → ((r : ℕ) → HasRegister new r ↔ (HasRegister old r ⊎ (r ≡ w.0.reg)))
    → IsMaskOf old (map (λ w. w.0.reg) (take k webs)) → IsMaskOf new (map (λ w. w.0.reg) (take (k + 1) webs))
barred_more webs k w old new lt is now before =
    let more : map (λ (x : Web × Role). x.0.reg) (take (k + 1) webs) ≡ map (λ (x : Web × Role). x.0.reg) (take k webs) ++ w.0.reg ∷ [] =
    map_more (λ (x : Web × Role). x.0.reg) webs k w lt ∙ ap (λ (x : Web × Role). map (λ (y : Web × Role). y.0.reg) (take k webs) ++ x.0.reg ∷ []) is in
    subst (IsMaskOf new) (sym more) (mask_more old new w.0.reg (map (λ (x : Web × Role). x.0.reg) (take k webs)) now before)
