-- Originals, one after the other.
use Rattle.std.proofs.Common.{◌≡◌, ◌∙◌, ℕ, ◌+◌, ◌<◌, Bool, true, false, List, All, length, get_or, set, take, sym, subst, inl, inr}
use Rattle.std.proofs.lemmas.Bool.{cases_eq}
use Rattle.std.proofs.lemmas.List.{take_more, get_or-set_same, get_or-set_other}
use Rattle.std.proofs.lemmas.List.Elements.{All-push}
use Rattle.pw_flow.specs.declared.flow.Op.{Op}
use Rattle.pw_flow.specs.declared.flow.Op.TheVariants as op
use Rattle.pw_flow.specs.declared.flow.Block.{Block}
use Rattle.pw_opt_rows.specs.Outflows.{AreAbout}
use Rattle.pw_opt_copies.specs.Originals.{may_copy, is_noted}

-- ---- one original more

pub original_kept : (originals : List Bool) (a b : ℕ) → a < length originals → get_or originals b false ≡ true → get_or (set originals a true) b false ≡ true
original_kept originals a b lt e = elim (cases_eq b a) [
  | inl same ↦ subst (λ (k : ℕ). get_or (set originals a true) k false ≡ true) (sym same) (get_or-set_same originals a true false lt)
  | inr other ↦ get_or-set_other originals a b true false other ∙ e
]

-- ---- operations and blocks

abbrev pub Keeps : List Bool → List Bool → Type 0
Keeps old new = (u b : ℕ) → may_copy old u b ≡ true → may_copy new u b ≡ true

noted_kept : (old new : List Bool) → Keeps old new → (o : Op) → is_noted old o ≡ true → is_noted new o ≡ true
noted_kept old new keeps (op.Copy t a) e = keeps t a e
noted_kept old new keeps o e = e

pub ops_kept : (old new : List Bool) → Keeps old new → (ops : List Op) → All (λ o. is_noted old o ≡ true) ops → All (λ o. is_noted new o ≡ true) ops
ops_kept old new keeps ops all k d lt = noted_kept old new keeps (get_or ops k d) (all k d lt)

pub blocks_kept : (old new : List Bool) → Keeps old new → (bs : List Block) → All (AreAbout (is_noted old)) bs → All (AreAbout (is_noted new)) bs
blocks_kept old new keeps bs all k d lt = ops_kept old new keeps (get_or bs k d).ops (all k d lt)

pub all_more : {X : Type 0} (P : X → Type 0) (xs : List X) (i : ℕ) (x : X) → i < length xs → x ≡ get_or xs i x → All P (take i xs) → P x → All P (take (i + 1) xs)
all_more P xs i x lt is all here = subst (All P) (sym (take_more xs i x lt)) (All-push P (take i xs) (get_or xs i x) all (subst P is here))

-- what holds of the operations of each block holds of those of one
pub ops_at : (P : Op → Type 0) (bs own : List Block) (i : ℕ) (b : Block) → bs ≡ own → i < length bs → b ≡ get_or bs i b → All (λ (x : Block). All P x.ops) own → All P b.ops
ops_at P bs own i b same lt is all =
    subst (λ (x : Block). All P x.ops) (sym is) ((subst (λ (xs : List Block). All (λ (x : Block). All P x.ops) xs) (sym same) all) i b lt)
