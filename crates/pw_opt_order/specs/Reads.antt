-- What rewritings read of rows: operands alone. So rows that know the same of what a block reads before it defines it make the
-- same of the block.
use Rattle.std.specs.Prelude.{ℕ, suc, ◌≡◌, ◌≢◌, ◌⊎◌, ◌<◌, Option, Some, None, List, [], ◌∷◌, length, map, slice_set, Contains}
use Rattle.std.proofs.Common.{refl, sym, ap, subst, ◌∙◌, arith, inl, inr}
use Rattle.std.proofs.lemmas.Bool.{cases_lt, cases_eq}
use Rattle.std.proofs.lemmas.List.{get_or-set_same, get_or-set_other, get_or_past, length-set}
use Rattle.std.proofs.lemmas.Option.{same_Some}
use Rattle.std.proofs.Math.ListN.{get_or-map}
use Rattle.pw_flow.specs.declared.flow.Op.{Op}
use Rattle.pw_flow.specs.declared.flow.Op.TheVariants as op
use Rattle.pw_flow.specs.declared.flow.End.{End}
use Rattle.pw_flow.specs.declared.flow.End.TheVariants.{Jump, Branch, Return}
use Rattle.pw_flow.specs.declared.flow.Block.{Block}
use Rattle.pw_flow.specs.Uses.{op_uses, op_defines, end_uses}
use Rattle.pw_opt_rules.specs.declared.flat.Flat.{Flat}
use Rattle.pw_opt_rules.specs.declared.flat.Flat.TheVariants.{One, Many}
use Rattle.pw_opt_rules.specs.Flat.{of_one, of_two}
use Rattle.pw_opt_rules.specs.Rows.{known, behind}
use Rattle.pw_opt_rules.specs.Rewriting.{Rewriting, rewritten_ops, rewritten_block}
use Rattle.pw_opt_rules.specs.Constants.{un_word, ext_word, bin_word, constant, with_known, const_or, constant_op, jump_or, constant_end, constants}
use Rattle.pw_opt_rules.specs.Copies.{copied, without_copies, with_copy, one_or, original, with_operands, with_end_operand, copies}
use Rattle.pw_opt_order.specs.Rises.{Rises}
use Rattle.pw_opt_order.specs.Order.{forgotten, without_long}

-- two rows know the same of some temporaries
abbrev pub KnowTheSame : List ℕ → List Flat → List Flat → Type 0
KnowTheSame ts xs ys = (a : ℕ) → Contains ts a → known xs a ≡ known ys a

-- a temporary is read before it is defined
abbrev pub ReadsFirst : ℕ → List Op → List ℕ → Type 0
ReadsFirst t [] uses = Contains uses t
ReadsFirst t (o ∷ ops) uses = Contains (op_uses o) t ⊎ ((op_defines o ≢ Some t) × ReadsFirst t ops uses)

-- Behind an operation what is known of its temporary comes of what is known of its operands, and of each other one of what is
-- known of that one; and operations and ends are rewritten by what is known of their operands.
pub record ReadsOperands (w : Rewriting) : Type 0 where
  pub defined : (xs ys : List Flat) (o : Op) (t : ℕ) → length xs ≡ length ys → op_defines o ≡ Some t → KnowTheSame (op_uses o) xs ys → known (w.transfer xs o) t ≡ known (w.transfer ys o) t
  pub others : (xs ys : List Flat) (o : Op) (t : ℕ) → length xs ≡ length ys → op_defines o ≢ Some t → known xs t ≡ known ys t → known (w.transfer xs o) t ≡ known (w.transfer ys o) t
  pub ops : (xs ys : List Flat) (o : Op) → KnowTheSame (op_uses o) xs ys → w.op xs o ≡ w.op ys o
  pub ends : (xs ys : List Flat) (e : End) → KnowTheSame (end_uses e) xs ys → w.end xs e ≡ w.end ys e

-- ---- lists

first_of : (a : ℕ) (ts : List ℕ) → Contains (a ∷ ts) a
first_of a ts = (0, omega arith, refl)

later_of : (a t : ℕ) (ts : List ℕ) → Contains ts t → Contains (a ∷ ts) t
later_of a t ts c = (suc c.0, (let lt : c.0 < length ts = c.1 in omega (arith, lt)), c.2)

mapped_alike : (g h : ℕ → ℕ) (ts : List ℕ) → ((t : ℕ) → Contains ts t → g t ≡ h t) → map g ts ≡ map h ts
mapped_alike g h [] same = refl
mapped_alike g h (t ∷ ts) same =
    ap (λ (x : ℕ). x ∷ map g ts) (same t (first_of t ts)) ∙ ap (λ (xs : List ℕ). h t ∷ xs) (mapped_alike g h ts (λ u c. same u (later_of t u ts c)))

-- ---- one place

set_alike : (xs ys : List Flat) (t : ℕ) (x y : Flat) → length xs ≡ length ys → x ≡ y → known (slice_set xs t x) t ≡ known (slice_set ys t y) t
set_alike xs ys t x y same e = elim (cases_lt t (length xs)) [
  | inl low ↦ get_or-set_same xs t x Many low ∙ e ∙ sym (get_or-set_same ys t y Many (omega (arith, low, same)))
  | inr past ↦
      let long : length (slice_set xs t x) ≡ length xs = length-set xs t x in
      let other : length (slice_set ys t y) ≡ length ys = length-set ys t y in
      get_or_past (slice_set xs t x) t Many (omega (arith, past, long)) ∙ sym (get_or_past (slice_set ys t y) t Many (omega (arith, past, other, same)))
]

no_temp : (t : ℕ) → ◌≡◌ {A = Option ℕ} None (Some t) → ⊥
no_temp t e = cc

apart : (d t : ℕ) → ◌≢◌ {A = Option ℕ} (Some d) (Some t) → t ≢ d
apart d t other e = other (ap Some (sym e))

-- ---- constants

known_defined : (xs ys : List Flat) (d : Option ℕ) (t : ℕ) (x y : Flat) → length xs ≡ length ys → d ≡ Some t → x ≡ y → known (with_known xs d x) t ≡ known (with_known ys d y) t
known_defined xs ys None t x y same e is = absurd (no_temp t e)
known_defined xs ys (Some d) t x y same e is = subst (λ (k : ℕ). known (slice_set xs d x) k ≡ known (slice_set ys d y) k) (same_Some d t e) (set_alike xs ys d x y same is)

known_others : (xs ys : List Flat) (d : Option ℕ) (t : ℕ) (x y : Flat) → d ≢ Some t → known xs t ≡ known ys t → known (with_known xs d x) t ≡ known (with_known ys d y) t
known_others xs ys None t x y other is = is
known_others xs ys (Some d) t x y other is = get_or-set_other xs d t x Many (apart d t other) ∙ is ∙ sym (get_or-set_other ys d t y Many (apart d t other))

constant_alike : (xs ys : List Flat) (o : Op) → KnowTheSame (op_uses o) xs ys → constant xs o ≡ constant ys o
constant_alike xs ys (op.Const t n) same = refl
constant_alike xs ys (op.Copy t a) same = same a (first_of a [])
constant_alike xs ys (op.Un k t a) same = ap (of_one (λ x. One (un_word k x))) (same a (first_of a []))
constant_alike xs ys (op.Bin k t a b) same =
    ap (λ (z : Flat). of_two (bin_word k) z (known xs b)) (same a (first_of a (b ∷ []))) ∙ ap (of_two (bin_word k) (known ys a)) (same b (later_of a b (b ∷ []) (first_of b [])))
constant_alike xs ys (op.Ext k t a) same = ap (of_one (λ x. One (ext_word k x))) (same a (first_of a []))
constant_alike xs ys o same = refl

constant_op_alike : (xs ys : List Flat) (o : Op) → KnowTheSame (op_uses o) xs ys → constant_op xs o ≡ constant_op ys o
constant_op_alike xs ys (op.Copy t a) same = ap (λ (z : Flat). const_or t z (op.Copy t a)) (constant_alike xs ys (op.Copy t a) same)
constant_op_alike xs ys (op.Un k t a) same = ap (λ (z : Flat). const_or t z (op.Un k t a)) (constant_alike xs ys (op.Un k t a) same)
constant_op_alike xs ys (op.Bin k t a b) same = ap (λ (z : Flat). const_or t z (op.Bin k t a b)) (constant_alike xs ys (op.Bin k t a b) same)
constant_op_alike xs ys (op.Ext k t a) same = ap (λ (z : Flat). const_or t z (op.Ext k t a)) (constant_alike xs ys (op.Ext k t a) same)
constant_op_alike xs ys o same = refl

constant_end_alike : (xs ys : List Flat) (e : End) → KnowTheSame (end_uses e) xs ys → constant_end xs e ≡ constant_end ys e
constant_end_alike xs ys (Jump b) same = refl
constant_end_alike xs ys (Branch a b c) same = ap (λ (z : Flat). jump_or z a b c) (same a (first_of a []))
constant_end_alike xs ys (Return t) same = refl

pub constants_read : ReadsOperands constants
constants_read = record {
  defined = λ xs ys o t long e same. known_defined xs ys (op_defines o) t (constant xs o) (constant ys o) long e (constant_alike xs ys o same);
  others = λ xs ys o t long other is. known_others xs ys (op_defines o) t (constant xs o) (constant ys o) other is;
  ops = constant_op_alike;
  ends = constant_end_alike;
}

-- ---- copies

copy_defined : (xs ys : List Flat) (d : Option ℕ) (t : ℕ) (x : Flat) → length xs ≡ length ys → d ≡ Some t → known (with_copy xs d x) t ≡ known (with_copy ys d x) t
copy_defined xs ys None t x same e = absurd (no_temp t e)
copy_defined xs ys (Some d) t x same e =
    subst (λ (k : ℕ). known (slice_set (without_copies xs d) d x) k ≡ known (slice_set (without_copies ys d) d x) k) (same_Some d t e)
    (set_alike (without_copies xs d) (without_copies ys d) d x x (without_long xs d ∙ same ∙ sym (without_long ys d)) refl)

copy_others : (xs ys : List Flat) (d : Option ℕ) (t : ℕ) (x : Flat) → d ≢ Some t → known xs t ≡ known ys t → known (with_copy xs d x) t ≡ known (with_copy ys d x) t
copy_others xs ys None t x other is = is
copy_others xs ys (Some d) t x other is =
    get_or-set_other (without_copies xs d) d t x Many (apart d t other) ∙ get_or-map (forgotten d) xs t Many ∙ ap (forgotten d) is ∙ sym (get_or-map (forgotten d) ys t Many)
    ∙ sym (get_or-set_other (without_copies ys d) d t x Many (apart d t other))

module _ (xs ys : List Flat) where
  original_alike : (a : ℕ) → known xs a ≡ known ys a → original xs a ≡ original ys a
  original_alike a e = ap (λ (x : Flat). one_or x a) e

  originals_alike : (args : List ℕ) → KnowTheSame args xs ys → map (original xs) args ≡ map (original ys) args
  originals_alike args same = mapped_alike (original xs) (original ys) args (λ a c. original_alike a (same a c))

  one_alike : (a : ℕ) (rest : List ℕ) → KnowTheSame (a ∷ rest) xs ys → original xs a ≡ original ys a
  one_alike a rest same = original_alike a (same a (first_of a rest))

  two_alike : (a b : ℕ) → KnowTheSame (a ∷ b ∷ []) xs ys → original xs b ≡ original ys b
  two_alike a b same = original_alike b (same b (later_of a b (b ∷ []) (first_of b [])))

  operands_alike : (o : Op) → KnowTheSame (op_uses o) xs ys → with_operands (original xs) o ≡ with_operands (original ys) o
  operands_alike (op.Const t n) same = refl
  operands_alike (op.Copy t a) same = ap (op.Copy t) (one_alike a [] same)
  operands_alike (op.Un k t a) same = ap (op.Un k t) (one_alike a [] same)
  operands_alike (op.Bin k t a b) same = ap (λ (x : ℕ). op.Bin k t x (original xs b)) (one_alike a (b ∷ []) same) ∙ ap (op.Bin k t (original ys a)) (two_alike a b same)
  operands_alike (op.Ext k t a) same = ap (op.Ext k t) (one_alike a [] same)
  operands_alike (op.AddrGlobal t g n) same = refl
  operands_alike (op.AddrSlot t s) same = refl
  operands_alike (op.AddrFn t f) same = refl
  operands_alike (op.LoadG t g k) same = refl
  operands_alike (op.StoreG g a k) same = ap (λ (x : ℕ). op.StoreG g x k) (one_alike a [] same)
  operands_alike (op.Load k t a) same = ap (op.Load k t) (one_alike a [] same)
  operands_alike (op.Store k a b) same = ap (λ (x : ℕ). op.Store k x (original xs b)) (one_alike a (b ∷ []) same) ∙ ap (op.Store k (original ys a)) (two_alike a b same)
  operands_alike (op.Move a b size unit) same =
      ap (λ (x : ℕ). op.Move x (original xs b) size unit) (one_alike a (b ∷ []) same) ∙ ap (λ (x : ℕ). op.Move (original ys a) x size unit) (two_alike a b same)
  operands_alike (op.Call t f args) same = ap (op.Call t f) (originals_alike args same)
  operands_alike (op.CallInd t a shape args) same =
      ap (λ (x : ℕ). op.CallInd t x shape (map (original xs) args)) (one_alike a args same)
      ∙ ap (op.CallInd t (original ys a) shape) (originals_alike args (λ b c. same b (later_of a b args c)))

  end_operand_alike : (e : End) → KnowTheSame (end_uses e) xs ys → with_end_operand (original xs) e ≡ with_end_operand (original ys) e
  end_operand_alike (Jump b) same = refl
  end_operand_alike (Branch a b c) same = ap (λ (x : ℕ). Branch x b c) (one_alike a [] same)
  end_operand_alike (Return None) same = refl
  end_operand_alike (Return (Some a)) same = ap (λ (x : ℕ). Return (Some x)) (one_alike a [] same)

pub copies_read : ReadsOperands copies
copies_read = record {
  defined = λ xs ys o t long e same. copy_defined xs ys (op_defines o) t (copied o) long e;
  others = λ xs ys o t long other is. copy_others xs ys (op_defines o) t (copied o) other is;
  ops = operands_alike;
  ends = end_operand_alike;
}

-- ---- operations one behind the other

defined_or : (d : Option ℕ) (t : ℕ) → (d ≡ Some t) ⊎ (d ≢ Some t)
defined_or None t = inr (no_temp t)
defined_or (Some d) t = elim (cases_eq d t) [ inl same ↦ inl (ap Some same) | inr other ↦ inr (λ e. other (same_Some d t e)) ]

abbrev block_with : ℕ → List Op → End → Block
block_with depth ops e = record { depth = depth; ops = ops; end = e }

module _ (w : Rewriting) (r : Rises w.transfer) (reads : ReadsOperands w) where
  one_more : (xs ys : List Flat) (o : Op) (t : ℕ) → length xs ≡ length ys → KnowTheSame (op_uses o) xs ys → (op_defines o ≢ Some t → known xs t ≡ known ys t)
      → known (w.transfer xs o) t ≡ known (w.transfer ys o) t
  one_more xs ys o t long same is = elim (defined_or (op_defines o) t) [
    | inl e ↦ reads.defined xs ys o t long e same
    | inr other ↦ reads.others xs ys o t long other (is other)
  ]

  as_long : (xs ys : List Flat) (o : Op) → length xs ≡ length ys → length (w.transfer xs o) ≡ length (w.transfer ys o)
  as_long xs ys o long = r.long xs o ∙ long ∙ sym (r.long ys o)

  -- rows that know the same of what is read first know the same behind it of what they know the same of
  pub behind_alike : (ops : List Op) (uses : List ℕ) (xs ys : List Flat) → length xs ≡ length ys → ((t : ℕ) → ReadsFirst t ops uses → known xs t ≡ known ys t)
      → (t : ℕ) → known xs t ≡ known ys t → known (behind w.transfer xs ops) t ≡ known (behind w.transfer ys ops) t
  behind_alike [] uses xs ys long same t is = is
  behind_alike (o ∷ ops) uses xs ys long same t is =
      let here : KnowTheSame (op_uses o) xs ys = λ a c. same a (inl c) in
      behind_alike ops uses (w.transfer xs o) (w.transfer ys o) (as_long xs ys o long) (λ u first. one_more xs ys o u long here (λ other. same u (inr (other, first)))) t
      (one_more xs ys o t long here (λ other. is))

  pub uses_alike : (ops : List Op) (uses : List ℕ) (xs ys : List Flat) → length xs ≡ length ys → ((t : ℕ) → ReadsFirst t ops uses → known xs t ≡ known ys t)
      → KnowTheSame uses (behind w.transfer xs ops) (behind w.transfer ys ops)
  uses_alike [] uses xs ys long same = same
  uses_alike (o ∷ ops) uses xs ys long same =
      uses_alike ops uses (w.transfer xs o) (w.transfer ys o) (as_long xs ys o long) (λ u first. one_more xs ys o u long (λ a c. same a (inl c)) (λ other. same u (inr (other, first))))

  pub ops_alike : (ops : List Op) (uses : List ℕ) (xs ys : List Flat) → length xs ≡ length ys → ((t : ℕ) → ReadsFirst t ops uses → known xs t ≡ known ys t)
      → rewritten_ops w xs ops ≡ rewritten_ops w ys ops
  ops_alike [] uses xs ys long same = refl
  ops_alike (o ∷ ops) uses xs ys long same =
      ap (λ (x : Op). x ∷ rewritten_ops w (w.transfer xs o) ops) (reads.ops xs ys o (λ a c. same a (inl c)))
      ∙ ap (λ (rest : List Op). w.op ys o ∷ rest)
      (ops_alike ops uses (w.transfer xs o) (w.transfer ys o) (as_long xs ys o long) (λ u first. one_more xs ys o u long (λ a c. same a (inl c)) (λ other. same u (inr (other, first)))))

  -- and make the same of a block
  pub block_alike : (b : Block) (xs ys : List Flat) → length xs ≡ length ys → ((t : ℕ) → ReadsFirst t b.ops (end_uses b.end) → known xs t ≡ known ys t) → rewritten_block w xs b ≡ rewritten_block w ys b
  block_alike b xs ys long same =
      ap (λ (ops : List Op). block_with b.depth ops (w.end (behind w.transfer xs b.ops) b.end)) (ops_alike b.ops (end_uses b.end) xs ys long same)
      ∙ ap (block_with b.depth (rewritten_ops w ys b.ops)) (reads.ends (behind w.transfer xs b.ops) (behind w.transfer ys b.ops) b.end (uses_alike b.ops (end_uses b.end) xs ys long same))
