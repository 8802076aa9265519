-- The comparisons of a `switch`: the machine goes to the block of the first case that has the value, else to the default's,
-- else behind the `switch`.
use Rattle.std.proofs.Common.{◌≡◌, ℕ, ◌+◌, ◌<◌, ◌==◌, Bool, true, false, if◌then◌else◌, Option, Some, None, List, [], ◌∷◌, length, slice_index_or, refl, ap, sym, ◌∙◌, subst, arith, append_assoc}
use Rattle.std.proofs.lemmas.Option.{slice_get_within, get_or_from_slice_get}
use Rattle.std.proofs.lemmas.List.Elements.{All-from_recursion, All-contains}
use Rattle.pw_value.specs.declared.value.Value.{Value}
use Rattle.pw_value.specs.declared.value.Value.TheVariants as V
use Rattle.pw_types.specs.Conversions.{promoted, size_of_kind}
use Rattle.pw_types.specs.declared.kind.IntKind.{IntKind}
use Rattle.pw_types.specs.declared.kind.IntKind.TheVariants as K
use Rattle.pw_types.specs.TypeTrees.{CType, Void, Int, Pointer, Array, Function, Record}
use Rattle.pw_types.specs.TypedModules.{IsFunction, WellTyped}
use Rattle.pw_types.specs.TypedTrees.{CaseValue}
use Rattle.pw_types.specs.WellTyped.{IsPromoted}
use Rattle.pw_flow.specs.declared.flow.Op.{Op}
use Rattle.pw_flow.specs.declared.flow.Op.TheVariants as op
use Rattle.pw_flow.specs.declared.flow.BinKind.TheVariants.{Eq}
use Rattle.pw_flow.specs.declared.flow.End.TheVariants.{Jump, Branch}
use Rattle.pw_flow.specs.declared.flow.Block.{Block}
use Rattle.pw_flow.specs.declared.flow.FlowFn.{FlowFn}
use Rattle.pw_flow.specs.ValidFlow.{IsEnd}
use Rattle.pw_lower.specs.declared.code.Code.{Code}
use Rattle.pw_lower.specs.Codes.{temp_of, fresh, constant, reserve, cut_here, block_of_label}
use Rattle.pw_lower.specs.Operators.{with}
use Rattle.pw_lower.specs.Statements.{choose, chosen, default_or}
use Rattle.pw_law_lower.specs.Ranges.{IsBlockInRange}
use Rattle.pw_cmean.specs.Worlds.{ProgramModule, World}
use Rattle.pw_cmean.specs.Acts.{State}
use Rattle.pw_cmean.specs.Execution.{label_for}
use Rattle.pw_cmean.specs.Typed.{IsValueOf}
use Rattle.pw_run_languages.specs.Commands.{command}
use Rattle.pw_run_languages.specs.Values as flow
use Rattle.pw_run_languages.specs.Programs.{block_at}
use Rattle.pw_run_languages.specs.FlowRun as run
use Rattle.pw_run_languages.specs.FlowRun.{Machine, On, value_in, branches, steps}
use Rattle.pw_law_refine.specs.Standing.{Spot, Stands}
use Rattle.pw_law_refine.specs.Activations.{Activation, IsActivation, Numbers, graphs, graph_of}
use Rattle.pw_law_refine.specs.Matching.{Related, Later}
use Rattle.pw_law_refine.specs.Containing.{ContainsCode, IsAt}
use Rattle.pw_law_refine.specs.Meeting.{Reaches}
use Rattle.pw_law_refine.specs.Expressions.{IsReady}
use Rattle.pw_law_refine.specs.StatementParts.{HasSwitched, ComparisonsKeep}
use Rattle.pw_law_refine_stmts.proofs.Laws.{Laws}
use Rattle.pw_law_refine_stmts.proofs.Simulation.{Comes, comes-on}
use Rattle.pw_law_refine_stmts.proofs.Jumps.{IsAtEnd, HasJumped, ended-there, before-cut, behind-end, jumps-goes, steps-end, reaches-jump, later-jump, later-then}
use Rattle.pw_law_refine_stmts.proofs.CodeBefore.{before-reserve}
use Rattle.pw_law_refine_stmts.proofs.Names.{none-in, same-block}

-- ---- code

-- what contains the code with a new temporary contains it without
before-fresh : (g : FlowFn) (o : ℕ → Op) (c : Code) → ContainsCode g (fresh o c).code → ContainsCode g c
before-fresh g o c w = record {
  closed = w.closed;
  filled = record {
    block = w.filled.block;
    rest = o c.temps ∷ w.filled.rest;
    there = w.filled.there;
    ops = w.filled.ops ∙ append_assoc c.ops (o c.temps ∷ []) w.filled.rest;
  };
  temps = omega (arith, w.temps);
  blocks = w.blocks;
}

-- the code behind one comparison
abbrev compared : ℕ → CaseValue → Code → Code
compared v k c =
    let x = with Eq v (constant k.value c) in
    cut_here (Branch (temp_of x) (block_of_label x.code k.label) x.code.blocks) x.code.blocks (reserve 1 x.code)

before-compared : (g : FlowFn) (v : ℕ) (k : CaseValue) (c : Code) → ContainsCode g (compared v k c) → ContainsCode g (with Eq v (constant k.value c)).code
before-compared g v k c w =
    let x = with Eq v (constant k.value c) in
    before-reserve g 1 x.code (before-cut g (Branch (temp_of x) (block_of_label x.code k.label) x.code.blocks) x.code.blocks x.code.depth (reserve 1 x.code) w)

before-constant : (g : FlowFn) (v : ℕ) (k : CaseValue) (c : Code) → ContainsCode g (with Eq v (constant k.value c)).code → ContainsCode g (constant k.value c).code
before-constant g v k c w = before-fresh g (λ t. op.Bin Eq t v (temp_of (constant k.value c))) (constant k.value c).code w

pub before-choose : (g : FlowFn) (v : ℕ) (cases : List CaseValue) (c : Code) → ContainsCode g (choose v cases c) → ContainsCode g c
before-choose g v [] c w = w
before-choose g v (k ∷ rest) c w =
    before-fresh g (λ t. op.Const t k.value) c (before-constant g v k c (before-compared g v k c (before-choose g v rest (compared v k c) w)))

pub before-chosen : (g : FlowFn) (default : Option ℕ) (out : ℕ) (c : Code) → ContainsCode g (chosen default out c) → ContainsCode g c
before-chosen g default out c w = before-reserve g 1 c (before-cut g (Jump (default_or c default out)) c.blocks c.depth (reserve 1 c) w)

pub choose-labels : (v : ℕ) (cases : List CaseValue) (c : Code) → (choose v cases c).labels ≡ c.labels
choose-labels v [] c = refl
choose-labels v (k ∷ rest) c = choose-labels v rest (compared v k c)

default-same : (default : Option ℕ) (out : ℕ) (c d : Code) → d.labels ≡ c.labels → default_or d default out ≡ default_or c default out
default-same None out c d e = refl
default-same (Some l) out c d e = same-block c d l e

-- ---- ends

-- the blocks to which a block of the function's graph ends are there
end-there : Laws → (x : Activation) (n : ℕ) (block : Block) → IsActivation x → block_at (graph_of x) n ≡ Some block → IsEnd (graph_of x).temps (length (graph_of x).blocks) block.end
end-there laws x n block active there =
    let g = graph_of x in
    let tree = All-contains (λ (p : ProgramModule). WellTyped p.tree) x.world.program.modules x.home active.world.program.accepted.typed.modules active.home in
    let range = laws.ranges x.home.name x.home.tree x.function (All-contains (IsFunction x.home.tree) x.home.tree.functions x.function tree.functions active.function) in
    let P = IsBlockInRange g.temps (length g.slots) (length g.blocks) in
    let h = All-from_recursion P g.blocks range.blocks n block (slice_get_within g.blocks n block there) in
    let r : P block = subst P (get_or_from_slice_get g.blocks n block block there) h in
    r.end

reaches-later : Laws → (w : World) (m n : Machine) (k : ℕ) (P : Machine → Type 0) → Comes w k m n → Reaches (graphs w) n P → Reaches (graphs w) m P
reaches-later laws w m n k P c r = record {
  count = k + r.count;
  machine = r.machine;
  comes = comes-on laws w k r.count m n (On r.machine) c r.comes;
  holds = r.holds;
}

-- a branch on 1 or 0
abbrev bit : Bool → ℕ
bit v = if v then 1 else 0

bit-goes : (v : Bool) (b c : ℕ) (m : Machine) → branches (V.Num (bit v)) b c m ≡ run.jumps (if v then b else c) m
bit-goes true b c m = refl
bit-goes false b c m = refl

bit-comes :
    (x : Activation) (numbers : Numbers) (spots : List Spot) (s : State) (m : Machine) (t b c : ℕ) (v : Bool)
    → Related x numbers spots s m → value_in m.frame t ≡ V.Num (bit v) → IsAtEnd (Branch t b c) m → (if v then b else c) < length (graph_of x).blocks
    → (n : Machine) × (steps (graphs x.world) 1 (On m) ≡ On n) × HasJumped x numbers spots (if v then b else c) s m n
unfolding steps
bit-comes x numbers spots s m t b c v r is at within =
    let j = jumps-goes x numbers spots s m (if v then b else c) r within in
    (j.0, steps-end x (Branch t b c) m at ∙ ap (λ (w : Value). branches w b c m) is ∙ bit-goes v b c m ∙ j.1, j.2)

-- ---- values of a switch

promoted-size : (k : IntKind) → size_of_kind (promoted k) ≡ 4
promoted-size K.Char = refl
promoted-size K.SChar = refl
promoted-size K.UChar = refl
promoted-size K.Short = refl
promoted-size K.UShort = refl
promoted-size K.Int = refl
promoted-size K.UInt = refl
promoted-size K.Long = refl
promoted-size K.ULong = refl

-- it is a number
number-of : (ty : CType) (v : Value) → IsPromoted ty → IsValueOf ty v → (n : ℕ) × (v ≡ V.Num n)
number-of (Int kind) (V.Num n) p h = (n, refl)
number-of (Int kind) (V.Piece q i) p h = absurd (four (size_of_kind kind) (sym (ap size_of_kind p) ∙ promoted-size kind) h)
  where
    four : (size : ℕ) → size ≡ 4 → size ≡ 1 → ⊥
    four size e f = omega (arith, e, f)
number-of (Int kind) V.Undefined p h = absurd h
number-of (Int kind) V.Null p h = absurd h
number-of (Int kind) (V.At q) p h = absurd h
number-of Void v p h = absurd p
number-of (Pointer q) v p h = absurd p
number-of (Array q k) v p h = absurd p
number-of (Function r ps) v p h = absurd p
number-of (Record k) v p h = absurd p

-- ---- the comparisons

truth-bit : (v : Bool) → flow.truth v ≡ V.Num (bit v)
truth-bit true = refl
truth-bit false = refl

turned-test : (a b : ℕ) → (a == b) ≡ (b == a)
turned-test a b = grind arith

module _ (laws : Laws) (x : Activation) (numbers : Numbers) (active : IsActivation x) where
  -- one comparison: the machine is at the case's block, or behind the comparison, and the value is still there
  record HasCompared (spots : List Spot) (v n : ℕ) (k : CaseValue) (c : Code) (s : State) (m r : Machine) : Type 0 where
    later : Later x numbers spots s m s r
    front : IsAt (graph_of x) (if n == k.value then block_of_label c k.label else (compared v k c).cur) [] r
    value : value_in r.frame v ≡ V.Num n

  compare-comes :
      (spots : List Spot) (v n : ℕ) (k : CaseValue) (c : Code) (s : State) (m : Machine) → ContainsCode (graph_of x) (compared v k c) → IsReady x numbers spots c s m → v < c.temps → value_in m.frame v ≡ V.Num n
      → Reaches (graphs x.world) m (HasCompared spots v n k c s m)
  unfolding command later-jump later-then
  compare-comes spots v n k c s m code ready low is =
      let y = constant k.value c in
      let z = with Eq v y in
      let hit = n == k.value in
      let whole = before-compared (graph_of x) v k c code in
      let r1 = laws.fresh x numbers spots [] c s m (λ t. op.Const t k.value) (V.Num k.value) (V.Num k.value) (before-constant (graph_of x) v k c whole) ready refl (λ rest. refl) in
      let h1 = r1.holds in
      let n1 = r1.machine in
      let is1 : value_in n1.frame v ≡ V.Num n = h1.done.temps v low (λ j w. none-in j w) ∙ is in
      let r2 = laws.fresh x numbers h1.done.later.spots [] y.code s n1 (λ t. op.Bin Eq t v (temp_of y)) (V.Num (bit hit)) (V.Num (bit hit)) whole
      (record { related = h1.done.later.related; behind = h1.behind; temps = omega (arith, ready.temps) }) refl
      (λ rest. ap (λ (o : Option Value). run.gives y.code.temps o (record n1 { frame = record n1.frame { ops = rest } }))
      (ap (λ (w : Value). flow.binary n1.objects Eq (value_in n1.frame v) w) h1.stands ∙ ap (λ (w : Value). flow.binary n1.objects Eq w (V.Num k.value)) is1 ∙ ap Some (truth-bit hit))) in
      let h2 = r2.holds in
      let n2 = r2.machine in
      let is2 : value_in n2.frame v ≡ V.Num n = h2.done.temps v (omega (arith, low)) (λ j w. none-in j w) ∙ is1 in
      let end = Branch (temp_of z) (block_of_label z.code k.label) z.code.blocks in
      let at = behind-end (graph_of x) end z.code.blocks z.code.depth (reserve 1 z.code) n2 code h2.behind in
      let range = end-there laws x z.code.cur (record { depth = z.code.depth; ops = z.code.ops; end = end }) active (ended-there (graph_of x) end z.code.blocks z.code.depth (reserve 1 z.code) code) in
      let j = bit-comes x numbers h2.done.later.spots s n2 (temp_of z) (block_of_label z.code k.label) z.code.blocks hit h2.done.later.related h2.stands at (either hit (block_of_label z.code k.label) z.code.blocks range.1 range.2) in
      record {
        count = r1.count + (r2.count + 1);
        machine = j.0;
        comes = comes-on laws x.world r1.count (r2.count + 1) m n1 (On j.0) r1.comes (comes-on laws x.world r2.count 1 n1 n2 (On j.0) r2.comes j.1);
        holds = record {
          later = later-then laws x numbers spots s s s m n1 j.0 ready.related h1.done.later
              (later-then laws x numbers h1.done.later.spots s s s n1 n2 j.0 h1.done.later.related h2.done.later (later-jump x numbers h2.done.later.spots (if hit then block_of_label z.code k.label else z.code.blocks) s n2 j.0 j.2));
          front = j.2.front;
          value = ap (λ (l : List Value). slice_index_or l v V.Undefined) j.2.temps ∙ is2;
        };
      }
    where
      either : (w : Bool) (a b : ℕ) → a < length (graph_of x).blocks → b < length (graph_of x).blocks → (if w then a else b) < length (graph_of x).blocks
      either true a b h k = h
      either false a b h k = k

  -- all of them
  choose-comes :
      (cases : List CaseValue) (default : Option ℕ) (out v n : ℕ) (spots : List Spot) (c : Code) (s : State) (m : Machine)
      → ContainsCode (graph_of x) (chosen default out (choose v cases c)) → IsReady x numbers spots c s m → v < c.temps → value_in m.frame v ≡ V.Num n
      → Reaches (graphs x.world) m (HasSwitched x numbers spots c out (label_for cases default (V.Num n)) s m)
  unfolding steps later-then
  choose-comes [] default out v n spots c s m code ready low is =
      let b = default_or c default out in
      let range = end-there laws x c.cur (record { depth = c.depth; ops = c.ops; end = Jump b }) active (ended-there (graph_of x) (Jump b) c.blocks c.depth (reserve 1 c) code) in
      reaches-jump x numbers spots s m b (HasSwitched x numbers spots c out default s m) ready.related (behind-end (graph_of x) (Jump b) c.blocks c.depth (reserve 1 c) m code ready.behind) range
      (λ r j. record { later = later-jump x numbers spots b s m r j; front = j.front })
  choose-comes (k ∷ rest) default out v n spots c s m code ready low is =
      let d = compared v k c in
      let r = compare-comes spots v n k c s m (before-choose (graph_of x) v rest d (before-chosen (graph_of x) default out (choose v rest d) code)) ready low is in
      reaches-later laws x.world m r.machine r.count (HasSwitched x numbers spots c out (label_for (k ∷ rest) default (V.Num n)) s m) r.comes
      (by_hit (n == k.value) refl r.machine r.holds (choose-comes rest default out v n))
    where
      labelled : (w : Bool) → (n == k.value) ≡ w → label_for (k ∷ rest) default (V.Num n) ≡ (if w then Some k.label else label_for rest default (V.Num n))
      labelled w e = ap (λ (b : Bool). if b then Some k.label else label_for rest default (V.Num n)) (turned-test k.value n ∙ e)

      by_hit :
          (w : Bool) → (n == k.value) ≡ w → (q : Machine) → HasCompared spots v n k c s m q
          → ((spots2 : List Spot) (c2 : Code) (s2 : State) (m2 : Machine) → ContainsCode (graph_of x) (chosen default out (choose v rest c2)) → IsReady x numbers spots2 c2 s2 m2 → v < c2.temps → value_in m2.frame v ≡ V.Num n
          → Reaches (graphs x.world) m2 (HasSwitched x numbers spots2 c2 out (label_for rest default (V.Num n)) s2 m2))
          → Reaches (graphs x.world) q (HasSwitched x numbers spots c out (label_for (k ∷ rest) default (V.Num n)) s m)
      by_hit true e q h later =
          subst (λ (label : Option ℕ). Reaches (graphs x.world) q (HasSwitched x numbers spots c out label s m)) (sym (labelled true e))
          (record {
            count = 0;
            machine = q;
            comes = refl;
            holds = record { later = h.later; front = subst (λ (w : Bool). IsAt (graph_of x) (if w then block_of_label c k.label else (compared v k c).cur) [] q) e h.front };
          })
      by_hit false e q h later =
          let d = compared v k c in
          let again = later h.later.spots d s q code
          (record {
            related = h.later.related;
            behind = subst (λ (w : Bool). IsAt (graph_of x) (if w then block_of_label c k.label else (compared v k c).cur) [] q) e h.front;
            temps = omega (arith, ready.temps);
          }) (omega (arith, low)) h.value in
          let label = label_for rest default (V.Num n) in
          subst (λ (l : Option ℕ). Reaches (graphs x.world) q (HasSwitched x numbers spots c out l s m)) (sym (labelled false e))
          (record {
            count = again.count;
            machine = again.machine;
            comes = again.comes;
            holds = record {
              later = later-then laws x numbers spots s s s m q again.machine ready.related h.later again.holds.later;
              front = subst (λ (b : ℕ). IsAt (graph_of x) b [] again.machine) (default-same label out c d refl) again.holds.front;
            };
          })

pub comparisons-keep : Laws → ComparisonsKeep
comparisons-keep laws x numbers spots ty cases default out temp v c s m active promoted-type numbers-of typed stands low code ready =
    let n = number-of ty v promoted-type typed in
    subst (λ (w : Value). Reaches (graphs x.world) m (HasSwitched x numbers spots c out (label_for cases default w) s m)) (sym n.1)
    (choose-comes laws x numbers active cases default out temp n.0 spots c s m code ready low (subst (λ (w : Value). Stands spots w (value_in m.frame temp)) n.1 stands))
