-- Where temporaries are at home, block by block.
use Rattle.std.specs.Prelude.{ℕ, zero, suc, ◌≡◌, ◌≢◌, ◌⊎◌, ◌+◌, ◌<◌, ◌≤◌, ◌==◌, ◌++◌, if◌then◌else◌, Bool, true, false, Option, None, Some, List, [], ◌∷◌, length, take, replicate, slice_set, slice_get, Contains}
use Rattle.std.proofs.Common.{refl, sym, ap, subst, ◌∙◌, arith, inl, inr, get_or}
use Rattle.std.proofs.lemmas.Bool.{cases_lt, cases_eq, eqb-true}
use Rattle.std.proofs.lemmas.List.{get_or-set_same, get_or-set_other, get_or_past, length-set, take_more}
use Rattle.std.proofs.lemmas.Option.{same_Some, slice_get_within}
use Rattle.pw_flow.specs.declared.flow.Op.{Op}
use Rattle.pw_flow.specs.declared.flow.Block.{Block}
use Rattle.pw_flow.specs.Uses.{op_uses, op_defines, end_uses}
use Rattle.pw_opt_order.specs.Reads.{ReadsFirst}
use Rattle.pw_opt_places.specs.declared.homes.Home.{Home}
use Rattle.pw_opt_places.specs.declared.homes.Home.TheVariants.{Nowhere, At, Everywhere}
use Rattle.pw_opt_places.specs.Homes.{home_of, home_read, home_defined, with_read, with_reads, with_defined, with_op, with_ops, with_block, with_blocks}
use Rattle.pw_opt_places.proofs.Listing.{contains_cases, all_alike}

-- ---- one temporary

-- more blocks have it
abbrev pub Ups : Home → Home → Type 0
Ups Nowhere y = Unit {0}
Ups (At c) Nowhere = ⊥
Ups (At c) (At d) = c ≡ d
Ups (At c) Everywhere = Unit {0}
Ups Everywhere Nowhere = ⊥
Ups Everywhere (At d) = ⊥
Ups Everywhere Everywhere = Unit {0}

ups_itself : (x : Home) → Ups x x
ups_itself Nowhere = tt
ups_itself (At c) = refl
ups_itself Everywhere = tt

ups_through : (x y z : Home) → Ups x y → Ups y z → Ups x z
ups_through Nowhere y z a b = tt
ups_through (At c) Nowhere z a b = absurd a
ups_through (At c) (At d) z a b = subst (λ k. Ups (At k) z) (sym a) b
ups_through (At c) Everywhere Nowhere a b = absurd b
ups_through (At c) Everywhere (At d) a b = absurd b
ups_through (At c) Everywhere Everywhere a b = tt
ups_through Everywhere Nowhere z a b = absurd a
ups_through Everywhere (At d) z a b = absurd a
ups_through Everywhere Everywhere z a b = b

-- a block has it
abbrev pub IsIn : ℕ → Home → Type 0
IsIn b Nowhere = ⊥
IsIn b (At c) = c ≡ b
IsIn b Everywhere = Unit {0}

in_up : (b : ℕ) (x y : Home) → IsIn b x → Ups x y → IsIn b y
in_up b Nowhere y i u = absurd i
in_up b (At c) Nowhere i u = absurd u
in_up b (At c) (At d) i u = sym u ∙ i
in_up b (At c) Everywhere i u = tt
in_up b Everywhere Nowhere i u = absurd u
in_up b Everywhere (At d) i u = absurd u
in_up b Everywhere Everywhere i u = tt

up_from : (y : Home) → Ups Everywhere y → y ≡ Everywhere
up_from Nowhere u = absurd u
up_from (At d) u = absurd u
up_from Everywhere u = refl

everywhere_up : (x y : Home) → x ≡ Everywhere → Ups x y → y ≡ Everywhere
everywhere_up x y e u = up_from y (subst (λ z. Ups z y) e u)

read_up : (b : ℕ) (x : Home) → Ups x (home_read b x)
read_up b Nowhere = tt
read_up b (At c) = by (c == b)
  where
    by : (k : Bool) → Ups (At c) (if k then At c else Everywhere)
    by true = refl
    by false = tt
read_up b Everywhere = tt

read_in : (b : ℕ) (x : Home) → IsIn b (home_read b x)
read_in b Nowhere = tt
read_in b (At c) = by (c == b) refl
  where
    by : (k : Bool) → (c == b) ≡ k → IsIn b (if k then At c else Everywhere)
    by true e = eqb-true c b e
    by false e = tt
read_in b Everywhere = tt

-- what another block has is everywhere behind a read
read_other : (b : ℕ) (x : Home) → x ≢ At b → home_read b x ≡ Everywhere
read_other b Nowhere other = refl
read_other b (At c) other = by (c == b) refl
  where
    by : (k : Bool) → (c == b) ≡ k → (if k then At c else Everywhere) ≡ Everywhere
    by true e = absurd (other (ap At (eqb-true c b e)))
    by false e = refl
read_other b Everywhere other = refl

read_at : (b c : ℕ) (x : Home) → home_read b x ≡ At c → x ≡ At c
read_at b c Nowhere e = absurd cc
read_at b c (At d) e = by (d == b) e
  where
    by : (k : Bool) → (if k then At d else Everywhere) ≡ At c → At d ≡ At c
    by true e = e
    by false e = absurd cc
read_at b c Everywhere e = absurd cc

defined_up : (b : ℕ) (x : Home) → Ups x (home_defined b x)
defined_up b Nowhere = tt
defined_up b (At c) = by (c == b)
  where
    by : (k : Bool) → Ups (At c) (if k then At c else Everywhere)
    by true = refl
    by false = tt
defined_up b Everywhere = tt

defined_in : (b : ℕ) (x : Home) → IsIn b (home_defined b x)
defined_in b Nowhere = refl
defined_in b (At c) = by (c == b) refl
  where
    by : (k : Bool) → (c == b) ≡ k → IsIn b (if k then At c else Everywhere)
    by true e = eqb-true c b e
    by false e = tt
defined_in b Everywhere = tt

defined_at : (b c : ℕ) (x : Home) → home_defined b x ≡ At c → (x ≡ At c) ⊎ (c ≡ b)
defined_at b c Nowhere e = inr (let same : b ≡ c = cc in sym same)
defined_at b c (At d) e = by (d == b) e
  where
    by : (k : Bool) → (if k then At d else Everywhere) ≡ At c → (At d ≡ At c) ⊎ (c ≡ b)
    by true e = inl e
    by false e = absurd cc
defined_at b c Everywhere e = absurd cc

-- ---- all temporaries

abbrev pub AllUp : List Home → List Home → Type 0
AllUp old new = (t : ℕ) → Ups (home_of old t) (home_of new t)

-- of one that is set, and of the others
set_cases : (homes : List Home) (t u : ℕ) (h : Home) → ((u ≡ t) × (t < length homes) × (home_of (slice_set homes t h) u ≡ h)) ⊎ (((u ≡ t) → length homes ≤ t) × (home_of (slice_set homes t h) u ≡ home_of homes u))
set_cases homes t u h = elim (cases_eq u t) [
  | inr other ↦ inr (λ same. absurd (other same), get_or-set_other homes t u h Nowhere other)
  | inl same ↦ elim (cases_lt t (length homes)) [
    | inl low ↦ inl (same, low, ap (home_of (slice_set homes t h)) same ∙ get_or-set_same homes t h Nowhere low)
    | inr past ↦
        let long : length (slice_set homes t h) ≡ length homes = length-set homes t h in
        inr (λ e. past, get_or_past (slice_set homes t h) u Nowhere (omega (arith, past, same, long)) ∙ sym (get_or_past homes u Nowhere (omega (arith, past, same))))
  ]
]

set_up : (homes : List Home) (t : ℕ) (h : Home) → Ups (home_of homes t) h → AllUp homes (slice_set homes t h)
set_up homes t h up u = elim (set_cases homes t u h) [
  | inl w ↦ subst (λ z. Ups (home_of homes u) z) (sym w.2) (subst (λ k. Ups (home_of homes k) h) (sym w.0) up)
  | inr w ↦ subst (λ z. Ups (home_of homes u) z) (sym w.1) (ups_itself (home_of homes u))
]

all_itself : (homes : List Home) → AllUp homes homes
all_itself homes t = ups_itself (home_of homes t)

all_through : (xs ys zs : List Home) → AllUp xs ys → AllUp ys zs → AllUp xs zs
all_through xs ys zs f g t = ups_through (home_of xs t) (home_of ys t) (home_of zs t) (f t) (g t)

-- ---- reads

read_all_up : (b : ℕ) (homes : List Home) (t : ℕ) → AllUp homes (with_read b homes t)
read_all_up b homes t = set_up homes t (home_read b (home_of homes t)) (read_up b (home_of homes t))

pub reads_up : (b : ℕ) (homes : List Home) (ts : List ℕ) → AllUp homes (with_reads b homes ts)
reads_up b homes [] = all_itself homes
reads_up b homes (t ∷ ts) = all_through homes (with_read b homes t) (with_reads b (with_read b homes t) ts) (read_all_up b homes t) (reads_up b (with_read b homes t) ts)

pub reads_long : (b : ℕ) (homes : List Home) (ts : List ℕ) → length (with_reads b homes ts) ≡ length homes
reads_long b homes [] = refl
reads_long b homes (t ∷ ts) = reads_long b (with_read b homes t) ts ∙ length-set homes t (home_read b (home_of homes t))

-- a read gives no block a temporary for itself
one_read_at : (b c : ℕ) (homes : List Home) (t u : ℕ) → home_of (with_read b homes t) u ≡ At c → home_of homes u ≡ At c
one_read_at b c homes t u e = elim (set_cases homes t u (home_read b (home_of homes t))) [
  | inl w ↦ ap (home_of homes) w.0 ∙ read_at b c (home_of homes t) (sym w.2 ∙ e)
  | inr w ↦ sym w.1 ∙ e
]

pub reads_at : (b c : ℕ) (homes : List Home) (ts : List ℕ) (u : ℕ) → home_of (with_reads b homes ts) u ≡ At c → home_of homes u ≡ At c
reads_at b c homes [] u e = e
reads_at b c homes (t ∷ ts) u e = one_read_at b c homes t u (reads_at b c (with_read b homes t) ts u e)

-- what is read in a block and is not its own is everywhere from then on
one_read_other : (b : ℕ) (homes : List Home) (t u : ℕ) → t ≡ u → u < length homes → home_of homes u ≢ At b → home_of (with_read b homes t) u ≡ Everywhere
one_read_other b homes t u same lt other = elim (set_cases homes t u (home_read b (home_of homes t))) [
  | inl w ↦ w.2 ∙ read_other b (home_of homes t) (λ e. other (ap (home_of homes) w.0 ∙ e))
  | inr w ↦ absurd (let past = w.0 (sym same) in omega (arith, past, same, lt))
]

pub reads_other : (b : ℕ) (homes : List Home) (ts : List ℕ) (u : ℕ) → Contains ts u → u < length homes → home_of homes u ≢ At b → home_of (with_reads b homes ts) u ≡ Everywhere
reads_other b homes [] u c lt other = absurd (let none = c.1 in omega (arith, none))
reads_other b homes (t ∷ ts) u c lt other = elim (contains_cases t u ts c) [
  | inl same ↦
      everywhere_up (home_of (with_read b homes t) u) (home_of (with_reads b (with_read b homes t) ts) u) (one_read_other b homes t u same lt other)
      (reads_up b (with_read b homes t) ts u)
  | inr later ↦
      let long : length (with_read b homes t) ≡ length homes = length-set homes t (home_read b (home_of homes t)) in
      reads_other b (with_read b homes t) ts u later (omega (arith, lt, long)) (λ e. other (one_read_at b b homes t u e))
]

-- ---- operations

defined_all_up : (b : ℕ) (homes : List Home) (d : Option ℕ) → AllUp homes (with_defined b homes d)
defined_all_up b homes None = all_itself homes
defined_all_up b homes (Some t) = set_up homes t (home_defined b (home_of homes t)) (defined_up b (home_of homes t))

defined_long : (b : ℕ) (homes : List Home) (d : Option ℕ) → length (with_defined b homes d) ≡ length homes
defined_long b homes None = refl
defined_long b homes (Some t) = length-set homes t (home_defined b (home_of homes t))

defined_all_at : (b c : ℕ) (homes : List Home) (d : Option ℕ) (u : ℕ) → home_of (with_defined b homes d) u ≡ At c → (home_of homes u ≡ At c) ⊎ ((d ≡ Some u) × (c ≡ b))
defined_all_at b c homes None u e = inl e
defined_all_at b c homes (Some t) u e = elim (set_cases homes t u (home_defined b (home_of homes t))) [
  | inl w ↦ elim (defined_at b c (home_of homes t) (sym w.2 ∙ e)) [
    | inl was ↦ inl (ap (home_of homes) w.0 ∙ was)
    | inr here ↦ inr (ap Some (sym w.0), here)
  ]
  | inr w ↦ inl (sym w.1 ∙ e)
]

defined_all_in : (b : ℕ) (homes : List Home) (d : Option ℕ) (t : ℕ) → d ≡ Some t → t < length homes → IsIn b (home_of (with_defined b homes d) t)
defined_all_in b homes None t e lt = absurd cc
defined_all_in b homes (Some u) t e lt = elim (set_cases homes u t (home_defined b (home_of homes u))) [
  | inl w ↦ subst (IsIn b) (sym w.2) (defined_in b (home_of homes u))
  | inr w ↦ absurd (let same : u ≡ t = same_Some u t e in let past = w.0 (sym same) in omega (arith, past, same, lt))
]

op_up : (b : ℕ) (homes : List Home) (o : Op) → AllUp homes (with_op b homes o)
op_up b homes o = all_through homes (with_reads b homes (op_uses o)) (with_op b homes o) (reads_up b homes (op_uses o)) (defined_all_up b (with_reads b homes (op_uses o)) (op_defines o))

op_long : (b : ℕ) (homes : List Home) (o : Op) → length (with_op b homes o) ≡ length homes
op_long b homes o = defined_long b (with_reads b homes (op_uses o)) (op_defines o) ∙ reads_long b homes (op_uses o)

op_at : (b c : ℕ) (homes : List Home) (o : Op) (u : ℕ) → home_of (with_op b homes o) u ≡ At c → (home_of homes u ≡ At c) ⊎ ((op_defines o ≡ Some u) × (c ≡ b))
op_at b c homes o u e = elim (defined_all_at b c (with_reads b homes (op_uses o)) (op_defines o) u e) [
  | inl was ↦ inl (reads_at b c homes (op_uses o) u was)
  | inr here ↦ inr here
]

ops_up : (b : ℕ) (homes : List Home) (ops : List Op) → AllUp homes (with_ops b homes ops)
ops_up b homes [] = all_itself homes
ops_up b homes (o ∷ ops) = all_through homes (with_op b homes o) (with_ops b (with_op b homes o) ops) (op_up b homes o) (ops_up b (with_op b homes o) ops)

ops_long : (b : ℕ) (homes : List Home) (ops : List Op) → length (with_ops b homes ops) ≡ length homes
ops_long b homes [] = refl
ops_long b homes (o ∷ ops) = ops_long b (with_op b homes o) ops ∙ op_long b homes o

ops_at : (b c : ℕ) (homes : List Home) (ops : List Op) (u : ℕ) → home_of (with_ops b homes ops) u ≡ At c → (home_of homes u ≡ At c) ⊎ (c ≡ b)
ops_at b c homes [] u e = inl e
ops_at b c homes (o ∷ ops) u e = elim (ops_at b c (with_op b homes o) ops u e) [
  | inr here ↦ inr here
  | inl was ↦ elim (op_at b c homes o u was) [ inl before ↦ inl before | inr here ↦ inr here.1 ]
]

-- ---- a block

abbrev ended : ℕ → List Home → List Op → List ℕ → List Home
ended b homes ops uses = with_reads b (with_ops b homes ops) uses

ended_up : (b : ℕ) (homes : List Home) (ops : List Op) (uses : List ℕ) → AllUp homes (ended b homes ops uses)
ended_up b homes ops uses = all_through homes (with_ops b homes ops) (ended b homes ops uses) (ops_up b homes ops) (reads_up b (with_ops b homes ops) uses)

ended_long : (b : ℕ) (homes : List Home) (ops : List Op) (uses : List ℕ) → length (ended b homes ops uses) ≡ length homes
ended_long b homes ops uses = reads_long b (with_ops b homes ops) uses ∙ ops_long b homes ops

ended_at : (b c : ℕ) (homes : List Home) (ops : List Op) (uses : List ℕ) (u : ℕ) → home_of (ended b homes ops uses) u ≡ At c → (home_of homes u ≡ At c) ⊎ (c ≡ b)
ended_at b c homes ops uses u e = ops_at b c homes ops u (reads_at b c (with_ops b homes ops) uses u e)

-- what it defines is at home in it
pub defines_home : (b : ℕ) (ops : List Op) (uses : List ℕ) (homes : List Home) (o : Op) (t : ℕ) → Contains ops o → op_defines o ≡ Some t → t < length homes → IsIn b (home_of (ended b homes ops uses) t)
defines_home b [] uses homes o t c e lt = absurd (let none = c.1 in omega (arith, none))
defines_home b (x ∷ ops) uses homes o t c e lt = elim (contains_cases x o ops c) [
  | inl same ↦
      let long : length (with_reads b homes (op_uses x)) ≡ length homes = reads_long b homes (op_uses x) in
      in_up b (home_of (with_op b homes x) t) (home_of (ended b (with_op b homes x) ops uses) t)
      (defined_all_in b (with_reads b homes (op_uses x)) (op_defines x) t (ap op_defines same ∙ e) (omega (arith, lt, long)))
      (ended_up b (with_op b homes x) ops uses t)
  | inr later ↦ let long : length (with_op b homes x) ≡ length homes = op_long b homes x in defines_home b ops uses (with_op b homes x) o t later e (omega (arith, lt, long))
]

-- and what it reads before it defines it is everywhere
pub first_everywhere : (b : ℕ) (ops : List Op) (uses : List ℕ) (homes : List Home) (t : ℕ) → ReadsFirst t ops uses → t < length homes → home_of homes t ≢ At b → home_of (ended b homes ops uses) t ≡ Everywhere
first_everywhere b [] uses homes t first lt other = reads_other b homes uses t first lt other
first_everywhere b (o ∷ ops) uses homes t (inl read) lt other =
    let here : home_of (with_reads b homes (op_uses o)) t ≡ Everywhere = reads_other b homes (op_uses o) t read lt other in
    everywhere_up (home_of (with_op b homes o) t) (home_of (ended b (with_op b homes o) ops uses) t)
    (everywhere_up (home_of (with_reads b homes (op_uses o)) t) (home_of (with_op b homes o) t) here (defined_all_up b (with_reads b homes (op_uses o)) (op_defines o) t))
    (ended_up b (with_op b homes o) ops uses t)
first_everywhere b (o ∷ ops) uses homes t (inr later) lt other =
    let long : length (with_op b homes o) ≡ length homes = op_long b homes o in
    first_everywhere b ops uses (with_op b homes o) t later.1 (omega (arith, lt, long))
    (λ e. elim (op_at b b homes o t e) [ inl was ↦ other was | inr here ↦ later.0 here.0 ])

-- ---- blocks

-- blocks that have temporaries for themselves are below this one
abbrev pub Below : ℕ → List Home → Type 0
Below b homes = (t c : ℕ) → home_of homes t ≡ At c → c < b

pub none_below : (temps : ℕ) → Below 0 (replicate temps Nowhere)
none_below temps t c e = absurd (let none : Nowhere ≡ At c = sym (all_alike temps t Nowhere) ∙ e in cc)

block_below : (b : ℕ) (homes : List Home) (block : Block) → Below b homes → Below (suc b) (with_block b homes block)
block_below b homes block below t c e = elim (ended_at b c homes block.ops (end_uses block.end) t e) [
  | inl was ↦ let lt = below t c was in omega (arith, lt)
  | inr here ↦ omega (arith, here)
]

block_long : (b : ℕ) (homes : List Home) (block : Block) → length (with_block b homes block) ≡ length homes
block_long b homes block = ended_long b homes block.ops (end_uses block.end)

pub blocks_up : (b : ℕ) (homes : List Home) (blocks : List Block) → AllUp homes (with_blocks b homes blocks)
blocks_up b homes [] = all_itself homes
blocks_up b homes (x ∷ blocks) =
    all_through homes (with_block b homes x) (with_blocks (suc b) (with_block b homes x) blocks) (ended_up b homes x.ops (end_uses x.end)) (blocks_up (suc b) (with_block b homes x) blocks)

pub blocks_long : (b : ℕ) (homes : List Home) (blocks : List Block) → length (with_blocks b homes blocks) ≡ length homes
blocks_long b homes [] = refl
blocks_long b homes (x ∷ blocks) = blocks_long (suc b) (with_block b homes x) blocks ∙ block_long b homes x

pub blocks_below : (b n : ℕ) (homes : List Home) (blocks : List Block) → n ≡ b + length blocks → Below b homes → Below n (with_blocks b homes blocks)
blocks_below b n homes [] e below = λ t c at. let lt = below t c at in omega (arith, lt, e)
blocks_below b n homes (x ∷ blocks) e below = blocks_below (suc b) n (with_block b homes x) blocks (omega (arith, e)) (block_below b homes x below)

-- what a block defines is at home in it, and what it reads first is everywhere
pub record Serves (b : ℕ) (block : Block) (homes : List Home) : Type 0 where
  pub defines : (o : Op) (t : ℕ) → Contains block.ops o → op_defines o ≡ Some t → t < length homes → IsIn b (home_of homes t)
  pub first : (t : ℕ) → ReadsFirst t block.ops (end_uses block.end) → t < length homes → home_of homes t ≡ Everywhere

one_serves : (b : ℕ) (homes : List Home) (block : Block) → Below b homes → (later : List Home) → length later ≡ length homes → AllUp (with_block b homes block) later → Serves b block later
one_serves b homes block below later long up = record {
  defines = λ o t c e lt.
      in_up b (home_of (with_block b homes block) t) (home_of later t) (defines_home b block.ops (end_uses block.end) homes o t c e (omega (arith, lt, long))) (up t);
  first = λ t reads lt.
      everywhere_up (home_of (with_block b homes block) t) (home_of later t)
      (first_everywhere b block.ops (end_uses block.end) homes t reads (omega (arith, lt, long)) (λ e. let less = below t b e in absurd (omega (arith, less)))) (up t);
}

pub blocks_serve : (b k n : ℕ) (homes : List Home) (blocks : List Block) (block : Block) → n ≡ b + k → Below b homes → slice_get blocks k ≡ Some block → Serves n block (with_blocks b homes blocks)
blocks_serve b k n homes [] block e below is = absurd (let lt = slice_get_within [] k block is in omega (arith, lt))
blocks_serve b zero n homes (x ∷ blocks) block e below is =
    let here : n ≡ b = omega (arith, e) in
    subst (λ m. Serves m block (with_blocks b homes (x ∷ blocks))) (sym here)
    (subst (λ y. Serves b y (with_blocks b homes (x ∷ blocks))) (same_Some x block is)
    (one_serves b homes x below (with_blocks b homes (x ∷ blocks)) (blocks_long b homes (x ∷ blocks)) (blocks_up (suc b) (with_block b homes x) blocks)))
blocks_serve b (suc k) n homes (x ∷ blocks) block e below is =
    blocks_serve (suc b) k n (with_block b homes x) blocks block (omega (arith, e)) (block_below b homes x below) is

-- ---- as the loops go

reads_join : (b : ℕ) (homes : List Home) (ts us : List ℕ) → with_reads b homes (ts ++ us) ≡ with_reads b (with_reads b homes ts) us
reads_join b homes [] us = refl
reads_join b homes (t ∷ ts) us = reads_join b (with_read b homes t) ts us

pub reads_now : (b : ℕ) (homes now new : List Home) (ts : List ℕ) (k t : ℕ) → k < length ts → get_or ts k 0 ≡ t → now ≡ with_reads b homes (take k ts) → new ≡ with_read b now t
    → new ≡ with_reads b homes (take (k + 1) ts)
reads_now b homes now new ts k t lt is before e =
    e ∙ ap (λ (x : List Home). with_read b x t) before ∙ ap (with_read b (with_reads b homes (take k ts))) (sym is)
    ∙ sym (ap (with_reads b homes) (take_more ts k 0 lt) ∙ reads_join b homes (take k ts) (get_or ts k 0 ∷ []))

ops_join : (b : ℕ) (homes : List Home) (xs ys : List Op) → with_ops b homes (xs ++ ys) ≡ with_ops b (with_ops b homes xs) ys
ops_join b homes [] ys = refl
ops_join b homes (x ∷ xs) ys = ops_join b (with_op b homes x) xs ys

pub ops_now : (b : ℕ) (homes now new : List Home) (ops : List Op) (k : ℕ) (o : Op) → k < length ops → o ≡ get_or ops k o → now ≡ with_ops b homes (take k ops) → new ≡ with_op b now o
    → new ≡ with_ops b homes (take (k + 1) ops)
ops_now b homes now new ops k o lt is before e =
    e ∙ ap (λ (x : List Home). with_op b x o) before ∙ ap (with_op b (with_ops b homes (take k ops))) is
    ∙ sym (ap (with_ops b homes) (take_more ops k o lt) ∙ ops_join b homes (take k ops) (get_or ops k o ∷ []))

blocks_more : (b k n : ℕ) (homes : List Home) (blocks : List Block) (x : Block) → n ≡ b + k → k < length blocks → get_or blocks k x ≡ x
    → with_blocks b homes (take (k + 1) blocks) ≡ with_block n (with_blocks b homes (take k blocks)) x
blocks_more b k n homes [] x e lt is = absurd (omega (arith, lt))
blocks_more b zero n homes (y ∷ blocks) x e lt is =
    let here : n ≡ b = omega (arith, e) in
    ap (with_block b homes) is ∙ ap (λ (m : ℕ). with_block m homes x) (sym here)
blocks_more b (suc k) n homes (y ∷ blocks) x e lt is =
    let longer : suc k + 1 ≡ suc (k + 1) = omega arith in
    ap (λ (m : ℕ). with_blocks b homes (take m (y ∷ blocks))) longer
    ∙ blocks_more (suc b) k n (with_block b homes y) blocks x (omega (arith, e)) (omega (arith, lt)) is

pub blocks_now : (homes now new : List Home) (blocks : List Block) (k : ℕ) (x : Block) → k < length blocks → x ≡ get_or blocks k x → now ≡ with_blocks 0 homes (take k blocks) → new ≡ with_block k now x
    → new ≡ with_blocks 0 homes (take (k + 1) blocks)
blocks_now homes now new blocks k x lt is before e =
    e ∙ ap (λ (y : List Home). with_block k y x) before ∙ sym (blocks_more 0 k k homes blocks x (omega arith) lt (sym is))
