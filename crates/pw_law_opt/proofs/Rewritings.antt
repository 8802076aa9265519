-- A rewriting by what is known of temporaries is a sound pass where what is known is so, and what becomes of operations and
-- ends does the same.
use Rattle.std.specs.Prelude.{ℕ, zero, suc, ◌≡◌, ◌+◌, ◌-◌, ◌≤◌, Bool, true, false, if◌then◌else◌, Some, None, List, [], ◌∷◌, length, replicate, slice_get, Contains}
use Rattle.std.proofs.Common.{refl, sym, ap, ap₂, subst, ◌∙◌, arith, length-append}
use Rattle.std.proofs.lemmas.List.{length-replicate}
use Rattle.std.proofs.lemmas.Option.{same_Some, slice_get_within}
use Rattle.pw_value.specs.declared.value.Value.{Value}
use Rattle.pw_value.specs.declared.value.Value.TheVariants.{Undefined, Num, Null, At, Piece}
use Rattle.pw_value.specs.Objects.{Object}
use Rattle.pw_flow.specs.declared.flow.Op.{Op}
use Rattle.pw_flow.specs.declared.flow.End.{End}
use Rattle.pw_flow.specs.declared.flow.End.TheVariants.{Jump, Branch, Return}
use Rattle.pw_flow.specs.declared.flow.Block.{Block}
use Rattle.pw_flow.specs.declared.flow.FlowFn.{FlowFn}
use Rattle.pw_flow.specs.Uses.{op_calls, op_defines, successors}
use Rattle.pw_run_languages.specs.Values.{is_somewhere}
use Rattle.pw_run_languages.specs.Programs.{Program}
use Rattle.pw_run_languages.specs.Commands.{command}
use Rattle.pw_run_languages.specs.FlowRun.{start_temps}
use Rattle.pw_opt_rules.specs.declared.flat.Flat.{Flat}
use Rattle.pw_opt_rules.specs.declared.flat.Flat.TheVariants.{Bottom, One, Many}
use Rattle.pw_opt_rules.specs.Flat.{IsBelow}
use Rattle.pw_opt_rules.specs.Rows.{known, IsRowBelow, behind, front, IsSolution}
use Rattle.pw_opt_rules.specs.Rewriting.{Rewriting, rewritten_ops, rewritten_block, rewritten_blocks}
use Rattle.pw_law_opt.specs.Deeds.{Deed, deed, value, got, with_result, Way, To, Back, branch_way, way}
use Rattle.pw_law_opt.specs.Sides.{Left, left}
use Rattle.pw_law_opt.specs.Passes.{Pass, Meets, done_too, CallsToo, EntersToo, IsSound}
use Rattle.pw_law_opt.proofs.Lists.{first_there, later_there}

-- ---- what is known is so

-- of one thing that is known this is so; and no path is without anything
abbrev pub OneIs : (ℕ → Type 0) → Flat → Type 0
OneIs P Bottom = ⊥
OneIs P (One n) = P n
OneIs P Many = Unit {0}

pub one_rises : (P : ℕ → Type 0) (x y : Flat) → IsBelow x y → OneIs P x → OneIs P y
one_rises P Bottom y b o = absurd o
one_rises P (One n) Bottom b o = absurd b
one_rises P (One n) (One m) b o = subst P b o
one_rises P (One n) Many b o = tt
one_rises P Many Bottom b o = absurd b
one_rises P Many (One m) b o = absurd b
one_rises P Many Many b o = tt

-- a row holds of what the temporaries hold: `tells ts t n` says what it means that t has n
pub record Holds (tells : List Value → ℕ → ℕ → Type 0) (row : List Flat) (ts : List Value) : Type 0 where
  pub same : length ts ≡ length row
  pub told : (t : ℕ) → OneIs (tells ts t) (known row t)

-- ---- what a rewriting owes

pub record DoesToo (w : Rewriting) (tells : List Value → ℕ → ℕ → Type 0) (p : Program) (base : ℕ) (objects : List Object) (row : List Flat) (ts : List Value) (o : Op) (d : Deed) : Type 0 where
  pub calls : op_calls (w.op row o) ≡ false
  pub does : deed p objects (command p base (w.op row o) (value ts)) ≡ Some d
  pub after : Holds tells (w.transfer row o) (got d ts)

pub record IsTruthful (w : Rewriting) (tells : List Value → ℕ → ℕ → Type 0) : Type 0 where
  pub stays_long : (row : List Flat) (o : Op) → length (w.transfer row o) ≡ length row
  pub deeds : (p : Program) (base : ℕ) (objects : List Object) (row : List Flat) (ts : List Value) (o : Op) (d : Deed) → Holds tells row ts → op_calls o ≡ false
      → deed p objects (command p base o (value ts)) ≡ Some d → DoesToo w tells p base objects row ts o d
  pub calls : (p : Program) (base : ℕ) (row : List Flat) (ts : List Value) (o : Op) → Holds tells row ts → op_calls o ≡ true → command p base (w.op row o) (value ts) ≡ command p base o (value ts)
  pub results : (row : List Flat) (ts : List Value) (o : Op) (v : Value) → Holds tells row ts → op_calls o ≡ true → Holds tells (w.transfer row o) (with_result (op_defines o) v ts)
  pub ends : (objects : List Object) (row : List Flat) (ts : List Value) (e : End) (k : Way) → Holds tells row ts → way objects e (value ts) ≡ Some k → way objects (w.end row e) (value ts) ≡ Some k

-- ---- the pass

pub record RewrittenPair (w : Rewriting) (f : FlowFn) (bs : List Block) : Type 0 where
  pub rows : List (List Flat)
  pub solution : IsSolution w.transfer f rows
  pub is : bs ≡ rewritten_blocks w rows f.blocks
  pub params : f.params ≤ f.temps

-- the second run is at the same place with the same temporaries, and what is known there is so
pub record RewrittenAt (w : Rewriting) (tells : List Value → ℕ → ℕ → Type 0) (f : FlowFn) (bs : List Block) (x y : Left) : Type 0 where
  pub rows : List (List Flat)
  pub solution : IsSolution w.transfer f rows
  pub is : bs ≡ rewritten_blocks w rows f.blocks
  pub row : List Flat
  pub long : length row ≡ f.temps
  pub holds : Holds tells row x.temps
  pub ops : y.ops ≡ rewritten_ops w row x.ops
  pub end : y.end ≡ w.end (behind w.transfer row x.ops) x.end
  pub temps : y.temps ≡ x.temps
  pub flows : (c : ℕ) → Contains (successors x.end) c → IsRowBelow (behind w.transfer row x.ops) (front rows c)

abbrev pub rewriting_pass : Rewriting → (List Value → ℕ → ℕ → Type 0) → Pass
rewriting_pass w tells = record { pairs = RewrittenPair w; at = RewrittenAt w tells }

-- ---- blocks

pub rewritten_there : (w : Rewriting) (rows : List (List Flat)) (blocks : List Block) (b : ℕ) (block : Block) → slice_get blocks b ≡ Some block
    → slice_get (rewritten_blocks w rows blocks) b ≡ Some (rewritten_block w (front rows b) block)
rewritten_there w rows [] b block e = absurd cc
rewritten_there w [] (c ∷ blocks) zero block e = ap (λ (x : Block). Some (rewritten_block w [] x)) (same_Some c block e)
rewritten_there w [] (c ∷ blocks) (suc b) block e = rewritten_there w [] blocks b block e
rewritten_there w (row ∷ rows) (c ∷ blocks) zero block e = ap (λ (x : Block). Some (rewritten_block w row x)) (same_Some c block e)
rewritten_there w (row ∷ rows) (c ∷ blocks) (suc b) block e = rewritten_there w rows blocks b block e

-- ---- where an end leads

abbrev target : Way → ℕ
target (To b) = b
target (Back v) = 0

same_target : (b n : ℕ) → Some (To b) ≡ Some (To n) → b ≡ n
same_target b n e = ap target (same_Some (To b) (To n) e)

here : (b n : ℕ) (rest : List ℕ) → Some (To b) ≡ Some (To n) → Contains (b ∷ rest) n
here b n rest e = subst (λ m. Contains (m ∷ rest) n) (sym (same_target b n e)) (first_there n rest)

branch_leads : (objects : List Object) (v : Value) (b c n : ℕ) → branch_way objects v b c ≡ Some (To n) → Contains (b ∷ c ∷ []) n
branch_leads objects (Num zero) b c n e = later_there b n (c ∷ []) (here c n [] e)
branch_leads objects (Num (suc k)) b c n e = here b n (c ∷ []) e
branch_leads objects (At q) b c n e = either (is_somewhere objects q) e where
  either : (w : Bool) → (if w then Some (To b) else None) ≡ Some (To n) → Contains (b ∷ c ∷ []) n
  either true e = here b n (c ∷ []) e
  either false e = absurd cc
branch_leads objects Undefined b c n e = absurd cc
branch_leads objects Null b c n e = absurd cc
branch_leads objects (Piece q i) b c n e = absurd cc

pub way_leads : (objects : List Object) (e : End) (v : ℕ → Value) (n : ℕ) → way objects e v ≡ Some (To n) → Contains (successors e) n
way_leads objects (Jump b) v n e = here b n [] e
way_leads objects (Branch a b c) v n e = branch_leads objects (v a) b c n e
way_leads objects (Return t) v n e = absurd cc

-- ---- the start

pub start_long : (f : FlowFn) (args : List Value) → length args ≤ f.temps → length (start_temps f args) ≡ f.temps
start_long f args fits =
    let a : length (start_temps f args) ≡ length args + length (replicate (f.temps - length args) Undefined) = length-append args (replicate (f.temps - length args) Undefined) in
    let b : length (replicate (f.temps - length args) Undefined) ≡ f.temps - length args = length-replicate (f.temps - length args) Undefined in
    omega (arith, a, b, fits)

module _ (w : Rewriting) (tells : List Value → ℕ → ℕ → Type 0) (true_to : IsTruthful w tells) where
  -- at the front of a block
  enters : (f : FlowFn) (bs : List Block) (rows : List (List Flat)) (ts us : List Value) (b : ℕ) (block : Block) → IsSolution w.transfer f rows → bs ≡ rewritten_blocks w rows f.blocks
      → slice_get f.blocks b ≡ Some block → Holds tells (front rows b) ts → us ≡ ts → EntersToo (RewrittenAt w tells f bs) ts us block (slice_get bs b)
  enters f bs rows ts us b block solution is there holds same = record {
    entered = rewritten_block w (front rows b) block;
    is = ap (λ (l : List Block). slice_get l b) is ∙ rewritten_there w rows f.blocks b block there;
    at_front = record {
      rows = rows;
      solution = solution;
      is = is;
      row = front rows b;
      long = solution.each_temp b (slice_get_within f.blocks b block there);
      holds = holds;
      ops = refl;
      end = refl;
      temps = same;
      flows = λ c next. solution.flows b c block there next;
    };
  }

  ops_meet : (p : Program) (base : ℕ) (objects : List Object) (f : FlowFn) (bs : List Block) (o : Op) (ops : List Op) (end : End) (ts : List Value) (y : Left) (d : Deed)
      → RewrittenAt w tells f bs (left (o ∷ ops) end ts) y → op_calls o ≡ false → deed p objects (command p base o (value ts)) ≡ Some d → Meets p base objects (RewrittenAt w tells f bs) ops end ts d y
  ops_meet p base objects f bs o ops end ts y d a calls does =
      let k = true_to.deeds p base objects a.row ts o d a.holds calls does in
      done_too (w.op a.row o) (rewritten_ops w (w.transfer a.row o) ops) a.ops k.calls (subst (λ (us : List Value). deed p objects (command p base (w.op a.row o) (value us)) ≡ Some d) (sym a.temps) k.does)
      (record {
        rows = a.rows;
        solution = a.solution;
        is = a.is;
        row = w.transfer a.row o;
        long = true_to.stays_long a.row o ∙ a.long;
        holds = k.after;
        ops = refl;
        end = a.end;
        temps = ap (got d) a.temps;
        flows = a.flows;
      })

  calls_meet : (p : Program) (base : ℕ) (f : FlowFn) (bs : List Block) (o : Op) (ops : List Op) (end : End) (ts : List Value) (y : Left)
      → RewrittenAt w tells f bs (left (o ∷ ops) end ts) y → op_calls o ≡ true → CallsToo p base (RewrittenAt w tells f bs) o ops end ts y
  calls_meet p base f bs o ops end ts y a calls = record {
    op = w.op a.row o;
    rest = rewritten_ops w (w.transfer a.row o) ops;
    is = a.ops;
    asks = subst (λ (us : List Value). command p base (w.op a.row o) (value us) ≡ command p base o (value ts)) (sym a.temps) (true_to.calls p base a.row ts o a.holds calls);
    behind = λ v. record {
      rows = a.rows;
      solution = a.solution;
      is = a.is;
      row = w.transfer a.row o;
      long = true_to.stays_long a.row o ∙ a.long;
      holds = true_to.results a.row ts o v a.holds calls;
      ops = refl;
      end = a.end;
      temps = ap (with_result (op_defines o) v) a.temps;
      flows = a.flows;
    };
  }

  ends_meet : (objects : List Object) (f : FlowFn) (bs : List Block) (end : End) (ts : List Value) (y : Left) (k : Way)
      → RewrittenAt w tells f bs (left [] end ts) y → way objects end (value ts) ≡ Some k → (y.ops ≡ []) × (way objects y.end (value y.temps) ≡ Some k)
  ends_meet objects f bs end ts y k a is =
      (a.ops, ap₂ (λ (e : End) (us : List Value). way objects e (value us)) a.end a.temps ∙ true_to.ends objects a.row ts end k a.holds is)

  onward_meet : (objects : List Object) (f : FlowFn) (bs : List Block) (end : End) (ts : List Value) (y : Left) (b : ℕ) (block : Block)
      → RewrittenAt w tells f bs (left [] end ts) y → way objects end (value ts) ≡ Some (To b) → slice_get f.blocks b ≡ Some block → EntersToo (RewrittenAt w tells f bs) ts y.temps block (slice_get bs b)
  onward_meet objects f bs end ts y b block a is there =
      enters f bs a.rows ts y.temps b block a.solution a.is there
      (record {
        same = a.holds.same ∙ a.long ∙ sym (a.solution.each_temp b (slice_get_within f.blocks b block there));
        told = λ t. one_rises (tells ts t) (known a.row t) (known (front a.rows b) t) (a.flows b (way_leads objects end (value ts) b is) t) (a.holds.told t);
      }) a.temps

  start_meets : (f : FlowFn) (bs : List Block) (args : List Value) (block : Block)
      → RewrittenPair w f bs → length args ≤ f.temps → slice_get f.blocks 0 ≡ Some block → EntersToo (RewrittenAt w tells f bs) (start_temps f args) (start_temps f args) block (slice_get bs 0)
  start_meets f bs args block pair fits there =
      enters f bs pair.rows (start_temps f args) (start_temps f args) 0 block pair.solution pair.is there
      (record {
        same = start_long f args fits ∙ sym (pair.solution.each_temp 0 (slice_get_within f.blocks 0 block there));
        told = λ t. subst (OneIs (tells (start_temps f args) t)) (sym (pair.solution.start t)) tt;
      }) refl

  pub rewriting_sound : IsSound (rewriting_pass w tells)
  rewriting_sound = record {
    params = λ f bs pair. pair.params;
    ops = ops_meet;
    calls = calls_meet;
    ends = ends_meet;
    onward = onward_meet;
    start = start_meets;
  }
