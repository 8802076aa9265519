-- Code whose operations and ends stay in range, and the steps that keep it so.
use Rattle.std.proofs.Common.{ℕ, zero, suc, ◌+◌, ◌<◌, ◌≤◌, Option, Some, None, unwrap_or, List, [], ◌∷◌, length, arith}
use Rattle.std.specs.Prelude.{slice_get, slice_set}
use Rattle.std.specs.List.{AllByRecursion}
use Rattle.std.proofs.lemmas.List.Elements.{All-set, recursion_from_All, All-from_recursion}
use Rattle.pw_flow.specs.declared.flow.Op.{Op}
use Rattle.pw_flow.specs.declared.flow.Op.TheVariants.{Const}
use Rattle.pw_flow.specs.declared.flow.End.{End}
use Rattle.pw_flow.specs.declared.flow.End.TheVariants.{Jump, Branch, Return}
use Rattle.pw_flow.specs.declared.flow.Block.{Block}
use Rattle.pw_flow.specs.Uses.{op_uses, op_defines}
use Rattle.pw_flow.specs.ValidFlow.{IsResult, IsEnd}
use Rattle.pw_flow.proofs.Lists.{all_append}
use Rattle.pw_lower.specs.declared.code.Code.{Code}
use Rattle.pw_lower.specs.declared.code.Numbered.{Numbered}
use Rattle.pw_lower.specs.Codes.{Lowered, temp_of, emit, fresh, constant, reserve, reserve_temps, cut, leave, block_of_label, numbered, named_from}
use Rattle.pw_law_lower.specs.Ranges.{IsInRange, IsBlockInRange}
use Rattle.pw_law_lower.proofs.Names.{all_more}

-- ---- more temporaries and blocks

result_more : (n m : ℕ) (t : Option ℕ) → n ≤ m → IsResult n t → IsResult m t
result_more n m None l h = tt
result_more n m (Some t) l h = omega (arith, l, h)

pub below_more_all : (n m : ℕ) (args : List ℕ) → n ≤ m → AllByRecursion (λ (a : ℕ). a < n) args → AllByRecursion (λ (a : ℕ). a < m) args
below_more_all n m args l h = all_more (λ (a : ℕ). a < n) (λ (a : ℕ). a < m) args (λ a b. omega (arith, l, b)) h

range_more : (n m slots : ℕ) (o : Op) → n ≤ m → IsInRange n slots o → IsInRange m slots o
range_more n m slots o l h = (below_more_all n m (op_uses o) l h.0, result_more n m (op_defines o) l h.1, h.2)

end_more : (n m b c : ℕ) (e : End) → n ≤ m → b ≤ c → IsEnd n b e → IsEnd m c e
end_more n m b c (Jump to) l k h = omega (arith, k, h)
end_more n m b c (Branch a so other) l k h = (omega (arith, l, h.0), omega (arith, k, h.1), omega (arith, k, h.2))
end_more n m b c (Return t) l k h = result_more n m t l h

block_more : (n m slots b c : ℕ) (block : Block) → n ≤ m → b ≤ c → IsBlockInRange n slots b block → IsBlockInRange m slots c block
block_more n m slots b c block l k h = record {
  ops = all_more (IsInRange n slots) (IsInRange m slots) block.ops (λ o r. range_more n m slots o l r) h.ops;
  end = end_more n m b c block.end l k h.end;
}

-- ---- code in range

pub record Sound (slots : ℕ) (c : Code) : Type 0 where
  pub closed : AllByRecursion (λ (b : Numbered). IsBlockInRange c.temps slots c.blocks b.block) c.closed
  pub ops : AllByRecursion (IsInRange c.temps slots) c.ops
  pub labels : AllByRecursion (λ (l : ℕ). l < c.blocks) c.labels
  pub some : 0 < c.blocks

-- the later code d is in range too
pub record Goes (slots : ℕ) (c d : Code) : Type 0 where
  pub sound : Sound slots d
  pub temps : c.temps ≤ d.temps
  pub blocks : c.blocks ≤ d.blocks

pub stays : (slots : ℕ) (c : Code) → Sound slots c → Goes slots c c
stays slots c s = record { sound = s; temps = omega arith; blocks = omega arith }

pub goes_then : {slots : ℕ} {c d e : Code} → Goes slots c d → Goes slots d e → Goes slots c e
goes_then f g = record { sound = g.sound; temps = omega (arith, f.temps, g.temps); blocks = omega (arith, f.blocks, g.blocks) }

pub emits-in : (slots : ℕ) (o : Op) (c : Code) → Sound slots c → IsInRange c.temps slots o → Goes slots c (emit o c)
emits-in slots o c s r = record {
  sound = record { closed = s.closed; ops = all_append (IsInRange c.temps slots) c.ops (o ∷ []) s.ops (r, tt); labels = s.labels; some = s.some };
  temps = omega arith;
  blocks = omega arith;
}

pub temps-in : (slots n : ℕ) (c : Code) → Sound slots c → Goes slots c (reserve_temps n c)
temps-in slots n c s = record {
  sound = record {
    closed = all_more (λ (b : Numbered). IsBlockInRange c.temps slots c.blocks b.block) (λ (b : Numbered). IsBlockInRange (c.temps + n) slots c.blocks b.block) c.closed
        (λ b h. block_more c.temps (c.temps + n) slots c.blocks c.blocks b.block (omega arith) (omega arith) h) s.closed;
    ops = all_more (IsInRange c.temps slots) (IsInRange (c.temps + n) slots) c.ops (λ o r. range_more c.temps (c.temps + n) slots o (omega arith) r) s.ops;
    labels = s.labels;
    some = s.some;
  };
  temps = omega arith;
  blocks = omega arith;
}

pub blocks-in : (slots n : ℕ) (c : Code) → Sound slots c → Goes slots c (reserve n c)
blocks-in slots n c s = record {
  sound = record {
    closed = all_more (λ (b : Numbered). IsBlockInRange c.temps slots c.blocks b.block) (λ (b : Numbered). IsBlockInRange c.temps slots (c.blocks + n) b.block) c.closed
        (λ b h. block_more c.temps c.temps slots c.blocks (c.blocks + n) b.block (omega arith) (omega arith) h) s.closed;
    ops = s.ops;
    labels = all_more (λ (l : ℕ). l < c.blocks) (λ (l : ℕ). l < c.blocks + n) c.labels (λ l h. omega (arith, h)) s.labels;
    some = omega (arith, s.some);
  };
  temps = omega arith;
  blocks = omega arith;
}

pub cuts-in : (slots : ℕ) (end : End) (number depth : ℕ) (c : Code) → Sound slots c → IsEnd c.temps c.blocks end → Goes slots c (cut end number depth c)
cuts-in slots end number depth c s h = record {
  sound = record {
    closed = all_append (λ (b : Numbered). IsBlockInRange c.temps slots c.blocks b.block) c.closed (record { number = c.cur; block = record { depth = c.depth; ops = c.ops; end = end } } ∷ []) s.closed
        (record { ops = s.ops; end = h }, tt);
    ops = tt;
    labels = s.labels;
    some = s.some;
  };
  temps = omega arith;
  blocks = omega arith;
}

pub leaves-in : (slots : ℕ) (end : End) (c : Code) → Sound slots c → IsEnd c.temps c.blocks end → Goes slots c (leave end c)
leaves-in slots end c s h =
    let d = reserve 1 c in
    let g = blocks-in slots 1 c s in
    goes_then g (cuts-in slots end c.blocks c.depth d g.sound (end_more c.temps c.temps c.blocks d.blocks end (omega arith) (omega arith) h))

-- ---- labels

set_below : (n i v : ℕ) (xs : List ℕ) → v < n → AllByRecursion (λ (l : ℕ). l < n) xs → AllByRecursion (λ (l : ℕ). l < n) (slice_set xs i v)
set_below n i v xs l h = recursion_from_All (λ (l : ℕ). l < n) (slice_set xs i v) (All-set (λ (l : ℕ). l < n) xs i v l (All-from_recursion (λ (l : ℕ). l < n) xs h))

pub numbered_below : (n first : ℕ) (labels blocks : List ℕ) → first + length labels ≤ n → AllByRecursion (λ (l : ℕ). l < n) blocks → AllByRecursion (λ (l : ℕ). l < n) (numbered first labels blocks)
numbered_below n first [] blocks l h = h
numbered_below n first (x ∷ rest) blocks l h =
    numbered_below n (first + 1) rest (slice_set blocks x first) (omega (arith, l)) (set_below n x first blocks (omega (arith, l)) h)

pub names-in : (slots first : ℕ) (labels : List ℕ) (c : Code) → Sound slots c → first + length labels ≤ c.blocks → Goes slots c (named_from first labels c)
names-in slots first labels c s l = record {
  sound = record { closed = s.closed; ops = s.ops; labels = numbered_below c.blocks first labels c.labels l s.labels; some = s.some };
  temps = omega arith;
  blocks = omega arith;
}

at_below : (n l : ℕ) (xs : List ℕ) → 0 < n → AllByRecursion (λ (l : ℕ). l < n) xs → unwrap_or (slice_get xs l) 0 < n
at_below n l [] p h = p
at_below n zero (x ∷ xs) p h = h.0
at_below n (suc l) (x ∷ xs) p h = at_below n l xs p h.1

pub label-in : (slots l : ℕ) (c : Code) → Sound slots c → block_of_label c l < c.blocks
label-in slots l c s = at_below c.blocks l c.labels s.some s.labels

-- ---- values

-- The code of x is in range, and so is its temporary: below the count of temporaries where `count` is 1.
pub record Made (slots : ℕ) (c : Code) (count : ℕ) (x : Lowered) : Type 0 where
  pub goes : Goes slots c x.code
  pub reach : temp_of x + count ≤ x.code.temps

pub less : {slots : ℕ} {c : Code} {x : Lowered} (n m : ℕ) → m ≤ n → Made slots c n x → Made slots c m x
less n m l h = record { goes = h.goes; reach = omega (arith, l, h.reach) }

pub made_then : {slots n : ℕ} {c d : Code} {x : Lowered} → Goes slots c d → Made slots d n x → Made slots c n x
made_then f g = record { goes = goes_then f g.goes; reach = g.reach }

pub adds-in : (slots n : ℕ) (o : ℕ → Op) (c : Code) → Sound slots c → n ≤ 1 → IsInRange (c.temps + 1) slots (o c.temps) → Made slots c n (fresh o c)
adds-in slots n o c s l r =
    let g = temps-in slots 1 c s in
    record { goes = goes_then g (emits-in slots (o c.temps) (reserve_temps 1 c) g.sound r); reach = omega (arith, l) }

pub constant-in : (slots n k : ℕ) (c : Code) → Sound slots c → n ≤ 1 → Made slots c n (constant k c)
constant-in slots n k c s l = adds-in slots n (λ t. Const t k) c s l (tt, omega arith, tt)
