-- The weight of one global in a list in byte order.
use Rattle.std.proofs.Common.{◌≡◌, ℕ, zero, suc, ◌<◌, Bool, false, cond, List, [], ◌∷◌, length, get_or, set, map, refl, sym, ap, subst, ◌∙◌, arith, inl, inr}
use Rattle.std.specs.Prelude.{Contains, Option, Some, None}
use Rattle.std.specs.Str.{bytes_eq}
use Rattle.std.proofs.lemmas.Slice.Eq.{bytes_eq-Decides}
use Rattle.pw_files.specs.Rising.{IsRising, IsRisingBehind}
use Rattle.pw_summarise.specs.Tallies.{with_weight, with_read, with_write}
use Rattle.pw_files.proofs.Standing.{Has, contains_by, has_by, has_map}
use Rattle.pw_files.proofs.ByteOrder.{differ, behind, less_differs}

-- what leaves globals of other names as they are
abbrev Leaves : List ℕ → (List ℕ × ℕ × ℕ → List ℕ × ℕ × ℕ) → Type 0
Leaves name h = (r : List ℕ × ℕ × ℕ) → bytes_eq name r.0 ≡ false → h r ≡ r

untouched : (name : List ℕ) (h : List ℕ × ℕ × ℕ → List ℕ × ℕ × ℕ) → Leaves name h → (rs : List (List ℕ × ℕ × ℕ)) → ((r : List ℕ × ℕ × ℕ) → Has r rs → bytes_eq name r.0 ≡ false) → map h rs ≡ rs
untouched name h leaves [] others = refl
untouched name h leaves (r ∷ rs) others =
    ap (λ (x : List ℕ × ℕ × ℕ). x ∷ map h rs) (leaves r (others r (inl refl))) ∙ ap (λ (xs : List (List ℕ × ℕ × ℕ)). r ∷ xs) (untouched name h leaves rs (λ x k. others x (inr k)))

one_changed : (name : List ℕ) (h : List ℕ × ℕ × ℕ → List ℕ × ℕ × ℕ) → Leaves name h → (before : Option (List ℕ)) (rs : List (List ℕ × ℕ × ℕ)) → IsRisingBehind before (map (λ r. r.0) rs)
    → (i : ℕ) (x y : List ℕ × ℕ × ℕ) → i < length rs → x ≡ get_or rs i x → x.0 ≡ name → y ≡ h x → set rs i y ≡ map h rs
one_changed name h leaves before [] up i x y lt is same e = absurd (omega (arith, lt))
one_changed name h leaves before (r ∷ rs) up zero x y lt is same e =
    let first : name ≡ r.0 = sym same ∙ ap (λ (z : List ℕ × ℕ × ℕ). z.0) is in
    ap (λ (z : List ℕ × ℕ × ℕ). z ∷ rs) (e ∙ ap h is)
    ∙ ap (λ (zs : List (List ℕ × ℕ × ℕ)). h r ∷ zs) (sym (untouched name h leaves rs (λ z k. differ name z.0 (λ d. less_differs r.0 z.0 (behind r.0 (map (λ q. q.0) rs) z.0 up.1 (has_map (λ (q : List ℕ × ℕ × ℕ). q.0) z rs k)) (sym first ∙ d)))))
one_changed name h leaves before (r ∷ rs) up (suc i) x y lt is same e =
    let there : Has name (map (λ q. q.0) rs) = subst (λ n. Has n (map (λ q. q.0) rs)) same (has_map (λ (q : List ℕ × ℕ × ℕ). q.0) x rs (has_by x rs (i, omega (arith, lt), sym is))) in
    ap (λ (zs : List (List ℕ × ℕ × ℕ)). r ∷ zs) (one_changed name h leaves (Some r.0) rs up.1 i x y (omega (arith, lt)) is same e)
    ∙ ap (λ (z : List ℕ × ℕ × ℕ). z ∷ map h rs) (sym (leaves r (differ name r.0 (λ d. less_differs r.0 name (behind r.0 (map (λ q. q.0) rs) name up.1 there) (sym d)))))

none_changed : (name : List ℕ) (h : List ℕ × ℕ × ℕ → List ℕ × ℕ × ℕ) → Leaves name h → (rs : List (List ℕ × ℕ × ℕ)) → (Contains (map (λ r. r.0) rs) name → ⊥) → rs ≡ map h rs
none_changed name h leaves rs lacks =
    sym (untouched name h leaves rs (λ r k. differ name r.0 (λ d. lacks (contains_by name (map (λ q. q.0) rs) (subst (λ n. Has n (map (λ q. q.0) rs)) (sym d) (has_map (λ (q : List ℕ × ℕ × ℕ). q.0) r rs k))))))

-- ---- reads

read_leaves : (w : ℕ) (name : List ℕ) → Leaves name (with_read w name)
read_leaves w name r e = ap (λ (b : Bool). (r.0, cond b (with_weight r.1 w) r.1, r.2)) e

pub read_changed : (w : ℕ) (name : List ℕ) (rs : List (List ℕ × ℕ × ℕ)) → IsRising (map (λ r. r.0) rs) → (i : ℕ) (x y : List ℕ × ℕ × ℕ) → i < length rs → x ≡ get_or rs i x → x.0 ≡ name → y ≡ (x.0, with_weight x.1 w, x.2) → set rs i y ≡ map (with_read w name) rs
read_changed w name rs up i x y lt is same e =
    one_changed name (with_read w name) (read_leaves w name) None rs up i x y lt is same (e ∙ ap (λ (b : Bool). (x.0, cond b (with_weight x.1 w) x.1, x.2)) (sym ((bytes_eq-Decides name x.0).1 (sym same))))

pub read_nowhere : (w : ℕ) (name : List ℕ) (rs : List (List ℕ × ℕ × ℕ)) → (Contains (map (λ r. r.0) rs) name → ⊥) → rs ≡ map (with_read w name) rs
read_nowhere w name rs lacks = none_changed name (with_read w name) (read_leaves w name) rs lacks

-- ---- writes

write_leaves : (w : ℕ) (name : List ℕ) → Leaves name (with_write w name)
write_leaves w name r e = ap (λ (b : Bool). (r.0, r.1, cond b (with_weight r.2 w) r.2)) e

pub write_changed : (w : ℕ) (name : List ℕ) (rs : List (List ℕ × ℕ × ℕ)) → IsRising (map (λ r. r.0) rs) → (i : ℕ) (x y : List ℕ × ℕ × ℕ) → i < length rs → x ≡ get_or rs i x → x.0 ≡ name → y ≡ (x.0, x.1, with_weight x.2 w) → set rs i y ≡ map (with_write w name) rs
write_changed w name rs up i x y lt is same e =
    one_changed name (with_write w name) (write_leaves w name) None rs up i x y lt is same (e ∙ ap (λ (b : Bool). (x.0, x.1, cond b (with_weight x.2 w) x.2)) (sym ((bytes_eq-Decides name x.0).1 (sym same))))

pub write_nowhere : (w : ℕ) (name : List ℕ) (rs : List (List ℕ × ℕ × ℕ)) → (Contains (map (λ r. r.0) rs) name → ⊥) → rs ≡ map (with_write w name) rs
write_nowhere w name rs lacks = none_changed name (with_write w name) (write_leaves w name) rs lacks
