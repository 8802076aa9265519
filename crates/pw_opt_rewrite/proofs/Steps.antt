-- Rewriting, operation by operation and block by block.
use Rattle.std.proofs.Common.{◌≡◌, ℕ, zero, suc, ◌+◌, ◌<◌, ◌≤◌, List, [], ◌∷◌, ◌++◌, length, get_or, set, take, drop, refl, sym, ap, ◌∙◌, arith}
use Rattle.std.proofs.lemmas.Grind.{common_steps}
use Rattle.std.proofs.lemmas.List.{take_more, get_or_default, get_or-set_other}
use Rattle.pw_flow.specs.declared.flow.Op.{Op}
use Rattle.pw_flow.specs.declared.flow.Block.{Block}
use Rattle.pw_opt_rules.specs.declared.flat.Flat.{Flat}
use Rattle.pw_opt_rules.specs.Rows.{behind}
use Rattle.pw_opt_rules.specs.Rewriting.{Rewriting, rewritten_ops, rewritten_block, rewritten_blocks}

behind_join : (transfer : List Flat → Op → List Flat) (row : List Flat) (xs ys : List Op) → behind transfer row (xs ++ ys) ≡ behind transfer (behind transfer row xs) ys
behind_join transfer row [] ys = refl
behind_join transfer row (x ∷ xs) ys = behind_join transfer (transfer row x) xs ys

-- what is known behind one operation more
behind_more : (transfer : List Flat → Op → List Flat) (row : List Flat) (ops : List Op) (k : ℕ) (o : Op) → k < length ops → get_or ops k o ≡ o
    → behind transfer row (take (k + 1) ops) ≡ transfer (behind transfer row (take k ops)) o
behind_more transfer row ops k o lt is =
    ap (behind transfer row) (take_more ops k o lt) ∙ behind_join transfer row (take k ops) (get_or ops k o ∷ []) ∙ ap (transfer (behind transfer row (take k ops))) is

ops_join : (w : Rewriting) (row : List Flat) (xs ys : List Op) → rewritten_ops w row (xs ++ ys) ≡ rewritten_ops w row xs ++ rewritten_ops w (behind w.transfer row xs) ys
ops_join w row [] ys = refl
ops_join w row (x ∷ xs) ys = ap (λ (ops : List Op). w.op row x ∷ ops) (ops_join w (w.transfer row x) xs ys)

-- one operation more
ops_more : (w : Rewriting) (row : List Flat) (ops : List Op) (k : ℕ) (o : Op) → k < length ops → get_or ops k o ≡ o
    → rewritten_ops w row (take (k + 1) ops) ≡ rewritten_ops w row (take k ops) ++ w.op (behind w.transfer row (take k ops)) o ∷ []
ops_more w row ops k o lt is =
    ap (rewritten_ops w row) (take_more ops k o lt) ∙ ops_join w row (take k ops) (get_or ops k o ∷ [])
    ∙ ap (λ (x : Op). rewritten_ops w row (take k ops) ++ w.op (behind w.transfer row (take k ops)) x ∷ []) is

-- one block more
blocks_more : (w : Rewriting) (rows : List (List Flat)) (bs : List Block) (k : ℕ) (row : List Flat) (b : Block) → k < length bs → k < length rows → get_or rows k row ≡ row → get_or bs k b ≡ b
    → rewritten_blocks w rows (take (k + 1) bs) ≡ rewritten_blocks w rows (take k bs) ++ rewritten_block w row b ∷ []
blocks_more w rows [] k row b lt low is_row is = absurd (omega (arith, lt))
blocks_more w [] (x ∷ bs) k row b lt low is_row is = absurd (omega (arith, low))
blocks_more w (r ∷ rows) (x ∷ bs) zero row b lt low is_row is =
    ap (λ (y : List Flat). rewritten_block w y x ∷ []) is_row ∙ ap (λ (y : Block). rewritten_block w row y ∷ []) is
blocks_more w (r ∷ rows) (x ∷ bs) (suc k) row b lt low is_row is =
    let longer : suc k + 1 ≡ suc (k + 1) = omega arith in
    ap (λ (n : ℕ). rewritten_blocks w (r ∷ rows) (take n (x ∷ bs))) longer
    ∙ ap (λ (new : List Block). rewritten_block w r x ∷ new) (blocks_more w rows bs k row b (omega (arith, lt)) (omega (arith, low)) is_row is)

-- ---- as the loops go

pub behind_now : (transfer : List Flat → Op → List Flat) (row : List Flat) (ops : List Op) (k : ℕ) (o : Op) → k < length ops → o ≡ get_or ops k o → (at on : List Flat)
    → at ≡ behind transfer row (take k ops) → on ≡ transfer at o → on ≡ behind transfer row (take (k + 1) ops)
behind_now transfer row ops k o lt is at on before e =
    e ∙ ap (λ (x : List Flat). transfer x o) before ∙ sym (behind_more transfer row ops k o lt (sym is))

pub ops_now : (w : Rewriting) (row : List Flat) (ops : List Op) (k : ℕ) (o : Op) → k < length ops → o ≡ get_or ops k o → (at : List Flat) (made : Op) (old new : List Op)
    → at ≡ behind w.transfer row (take k ops) → made ≡ w.op at o → old ≡ rewritten_ops w row (take k ops) → new ≡ old ++ made ∷ [] → new ≡ rewritten_ops w row (take (k + 1) ops)
ops_now w row ops k o lt is at made old new before e so_far pushed =
    pushed ∙ ap (λ (x : Op). old ++ x ∷ []) (e ∙ ap (λ (x : List Flat). w.op x o) before)
    ∙ ap (λ (xs : List Op). xs ++ w.op (behind w.transfer row (take k ops)) o ∷ []) so_far ∙ sym (ops_more w row ops k o lt (sym is))

pub blocks_now : (w : Rewriting) (rows : List (List Flat)) (bs : List Block) (k : ℕ) (row : List Flat) (b made : Block) (old new : List Block) → k < length bs → k < length rows
    → row ≡ get_or rows k [] → b ≡ get_or bs k b → made ≡ rewritten_block w row b → old ≡ rewritten_blocks w rows (take k bs) → new ≡ old ++ made ∷ []
    → new ≡ rewritten_blocks w rows (take (k + 1) bs)
blocks_now w rows bs k row b made old new lt low is_row is e so_far pushed =
    pushed ∙ ap (λ (x : Block). old ++ x ∷ []) e ∙ ap (λ (xs : List Block). xs ++ rewritten_block w row b ∷ []) so_far
    ∙ sym (blocks_more w rows bs k row b lt low (get_or_default rows k row [] low ∙ sym is_row) (sym is))

-- what a loan of all of the items leaves
pub all_written : {X : Type 0} (n : ℕ) (xs ys : List X) → length xs ≡ n → length ys ≡ n → take n (xs ++ drop (length xs) ys) ≡ xs
all_written n xs ys hx hy = grind (arith, common_steps)

-- what is in place so far, with one more
pub take_set : {X : Type 0} (xs : List X) (k : ℕ) (x : X) → k < length xs → take (k + 1) (set xs k x) ≡ take k xs ++ x ∷ []
take_set [] k x lt = absurd (omega (arith, lt))
take_set (y ∷ ys) zero x lt = refl
take_set {X = X} (y ∷ ys) (suc k) x lt =
    let longer : suc k + 1 ≡ suc (k + 1) = omega arith in
    ap (λ (n : ℕ). take n (y ∷ set ys k x)) longer ∙ ap (λ (zs : List X). y ∷ zs) (take_set ys k x (omega (arith, lt)))

-- what is not rewritten yet, and rows that are not spent yet, stay
pub rest_now : {X : Type 0} (d : X) (rows now : List X) (place : ℕ) (row : X) → ((j : ℕ) → place ≤ j → get_or now j d ≡ get_or rows j d) → (j : ℕ) → place + 1 ≤ j
    → get_or (set now place row) j d ≡ get_or rows j d
rest_now d rows now place row rest j le = get_or-set_other now place j row d (λ same. absurd (omega (arith, same, le))) ∙ rest j (omega (arith, le))
