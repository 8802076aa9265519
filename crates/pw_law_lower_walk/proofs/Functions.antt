-- Each operation in the code of a statement, and of a function, by the statement's parts.
use Rattle.std.proofs.Common.{◌≡◌, ℕ, zero, suc, ◌+◌, ◌==◌, Bool, true, false, if◌then◌else◌, Option, Some, None, unwrap_or, List, [], ◌∷◌, length, refl, subst}
use Rattle.std.specs.List.{AllByRecursion}
use Rattle.pw_value.specs.declared.value.Kind.{Kind}
use Rattle.pw_types.specs.TypeTrees.{CType, type_of, RecordValue}
use Rattle.pw_types.specs.TypedTrees.{Expression, Initialiser, Value, Bytes, Hidden, CaseValue, Statement, Empty, Evaluate, Block, If, While, Do, For, Switch, Label, Return, Arms, NoArm, Arm, Otherwise, NoElse, Else, Statements, NoStatement, OneStatement, LocalValue, FunctionValue}
use Rattle.pw_flow.specs.declared.flow.Op.{Op}
use Rattle.pw_flow.specs.declared.flow.Op.TheVariants as op
use Rattle.pw_flow.specs.declared.flow.BinKind.TheVariants.{Eq}
use Rattle.pw_flow.specs.declared.flow.Block.{Block as FlowBlock}
use Rattle.pw_flow.specs.declared.flow.End.{End}
use Rattle.pw_flow.specs.declared.flow.End.TheVariants.{Jump, Branch, Return as Returned}
use Rattle.pw_flow.proofs.Lists.{all_append}
use Rattle.pw_lower.specs.declared.code.Code.{Code}
use Rattle.pw_lower.specs.declared.code.Numbered.{Numbered}
use Rattle.pw_lower.specs.declared.place.Ways.{Ways}
use Rattle.pw_lower.specs.declared.place.LocalPlace.{LocalPlace}
use Rattle.pw_lower.specs.declared.place.LocalPlace.TheVariants.{Temp, Slot}
use Rattle.pw_lower.specs.Codes.{temp_of, emit, fresh, constant, reserve, cut, cut_here, bare, block_of, blocks_below, block_of_label, named_from, leave}
use Rattle.pw_lower.specs.Places.{place_at, places_of, temps_from}
use Rattle.pw_lower.specs.Operators.{with, kind_of}
use Rattle.pw_lower.specs.Expressions.{full_name, address_of_global, address_of_local, target_of_local, scalar_kind, lower}
use Rattle.pw_lower.specs.Statements.{labels_of, local_type, initialised_by, copied_from, initialised, initialised_all, effects, test, test_or_go, choose, default_or, chosen, begun, looping, repeating, counting, switching, returning, Frame, lower_statement, lower_arms, lower_otherwise, lower_statements}
use Rattle.pw_lower.specs.Modules.{parameters_stored, closed_at_start, start_code, frame_of, entered, function_code, lowered_function}
use Rattle.pw_law_lower_walk.specs.Parts.{IfAny, EachStatement, EachArm, InElse}
use Rattle.pw_law_lower_walk.specs.Given.{IsBare, OfNumber, OfCopy, OfObject, Trees}
use Rattle.pw_law_lower_walk.proofs.Expressions.{EachBlock, Good, emits_bare, adds_bare, constant_good, cuts, turns, leaves, with_good, global_good, address_good, local_good, local_target, stored_good, copied_good, lower_good}

-- a property of statements that goes over to their parts, as that of expressions does
module _ (P : Op → Type 0) (D : ℕ → Type 0) (fr : Frame) (N : Expression → Type 0) (I : Initialiser → Type 0) (S : ℕ → Statement → Type 0) (give : Trees P D fr.home.name fr.home.records fr.locals N I S) where
  -- in code at a depth of which D holds
  module _ (d : ℕ) (deep : D d) where
    value_good : (e : Expression) (c : Code) → N e → Good P D d c → Good P D d (lower fr.home e c).code
    value_good e c w g = lower_good P D fr.home N give.nodes d deep e c w g

    -- ---- initialisers

    initialised_by_good : (k : Option Kind) (ty : CType) (p : LocalPlace) (e : Expression) (c : Code) → (k ≡ None → OfCopy P fr.home.records ty) → N e → Good P D d c → Good P D d (initialised_by fr.home k ty p e c)
    initialised_by_good (Some kind) ty p e c r w g =
        let q = target_of_local p c in
        stored_good P D give.nodes.bare d deep kind q.target (lower fr.home e q.code) (local_target P D give.nodes.bare d deep p c)
        (value_good e q.code w (local_good P D give.nodes.bare d deep p c g))
    initialised_by_good None ty p e c r w g =
        let q = address_of_local p c in
        copied_good P D give.nodes.bare d deep fr.home.records ty (temp_of q) (lower fr.home e q.code) (r refl)
        (value_good e q.code w (address_good P D give.nodes.bare d deep p c g))

    copied_from_good : (ty : CType) (p : LocalPlace) (hidden : ℕ) (c : Code) → OfObject P (full_name fr.home.name (Hidden hidden)) → OfCopy P fr.home.records ty → Good P D d c → Good P D d (copied_from fr.home ty p hidden c)
    copied_from_good ty p hidden c o r g =
        let q = address_of_local p c in
        let name = full_name fr.home.name (Hidden hidden) in
        copied_good P D give.nodes.bare d deep fr.home.records ty (temp_of q) (address_of_global name q.code) r
        (global_good P D give.nodes.bare d deep name q.code o (address_good P D give.nodes.bare d deep p c g))

    initialised_good : (i : Initialiser) (c : Code) → I i → Good P D d c → Good P D d (initialised fr.home fr.locals i c)
    initialised_good (Value k e) c w g =
        let v = give.initialiser (Value k e) w in
        initialised_by_good (kind_of (local_type fr.locals k)) (local_type fr.locals k) (place_at fr.home.places k) e c v.1 v.0 g
    initialised_good (Bytes k hidden made) c w g =
        let v = give.initialiser (Bytes k hidden made) w in
        copied_from_good (local_type fr.locals k) (place_at fr.home.places k) hidden c v.0 v.1 g

    initialised_all_good : (all : List Initialiser) (c : Code) → AllByRecursion I all → Good P D d c → Good P D d (initialised_all fr.home fr.locals all c)
    initialised_all_good [] c w g = g
    initialised_all_good (i ∷ rest) c w g = initialised_all_good rest (initialised fr.home fr.locals i c) w.1 (initialised_good i c w.0 g)

    -- ---- parts of statements

    effects_good : (e : Option Expression) (c : Code) → IfAny N e → Good P D d c → Good P D d (effects fr.home e c)
    effects_good None c w g = g
    effects_good (Some e) c w g = value_good e c w g

    test_good : (e : Expression) (so other next depth : ℕ) (c : Code) → N e → Good P D d c → Good P D depth (test fr.home e so other next depth c)
    test_good e so other next depth c w g =
        let x = lower fr.home e c in cuts P D give.nodes.bare d deep (Branch (temp_of x) so other) next depth x.code (value_good e c w g)

    test_or_go_good : (e : Option Expression) (so other depth : ℕ) (c : Code) → IfAny N e → Good P D d c → Good P D depth (test_or_go fr.home e so other depth c)
    test_or_go_good None so other depth c w g = cuts P D give.nodes.bare d deep (Jump so) so depth c g
    test_or_go_good (Some e) so other depth c w g = test_good e so other so depth c w g

    choose_good : (v : ℕ) (cases : List CaseValue) (c : Code) → AllByRecursion (λ (k : CaseValue). OfNumber P k.value) cases → Good P D d c → Good P D d (choose v cases c)
    choose_good v [] c r g = g
    choose_good v (k ∷ rest) c r g =
        let x = with Eq v (constant k.value c) in
        let end = Branch (temp_of x) (block_of_label x.code k.label) x.code.blocks in
        choose_good v rest (cut_here end x.code.blocks (reserve 1 x.code)) r.1
        (turns P D give.nodes.bare d deep end x.code.blocks (reserve 1 x.code)
        (with_good P D give.nodes.bare d deep Eq v (constant k.value c) (constant_good P D give.nodes.bare d deep k.value c r.0 g)))

    begun_good : (labels : List ℕ) (c : Code) → Good P D d c → Good P D d (begun labels c)
    begun_good [] c g = g
    begun_good (l ∷ rest) c g =
        let b = block_of_label c l in begun_good rest (cut_here (Jump b) b c) (turns P D give.nodes.bare d deep (Jump b) b c g)

    leave_good : (end : End) (c : Code) → Good P D d c → Good P D d (leave end c)
    leave_good end c g = leaves P D give.nodes.bare d deep end c g

    returning_good : (e : Option Expression) (c : Code) → IfAny N e → Good P D d c → Good P D d (returning fr.home e c)
    returning_good None c w g = leave_good (Returned None) c g
    returning_good (Some e) c w g = let x = lower fr.home e c in leave_good (Returned x.temp) x.code (value_good e c w g)

    -- a condition by which one of two blocks is gone to, of so many that are new
    arm_good : (e : Expression) (n other : ℕ) (c : Code) → N e → Good P D d c → Good P D d (let x = lower fr.home e c in cut_here (Branch (temp_of x) x.code.blocks other) x.code.blocks (reserve n x.code))
    arm_good e n other c w g =
        let x = lower fr.home e c in turns P D give.nodes.bare d deep (Branch (temp_of x) x.code.blocks other) x.code.blocks (reserve n x.code) (value_good e c w g)

    join_good : (end : End) (number : ℕ) (c : Code) → Good P D d c → Good P D d (cut_here end number c)
    join_good end number c g = turns P D give.nodes.bare d deep end number c g

  -- ---- loops and `switch`, by what is known of their bodies

  -- back at the depth of the code before
  back : (d depth : ℕ) (c : Code) → depth ≡ d → Good P D depth c → Good P D d c
  back d depth c e g = subst (λ (n : ℕ). Good P D n c) e g

  -- one loop further in
  inside : (d : ℕ) (c e : Code) → Good P D d c → Good P D (c.depth + 1) e → Good P D (d + 1) e
  inside d c e g q = subst (λ (n : ℕ). Good P D (n + 1) e) g.2 q

  looping_good : (d : ℕ) → D d → D (d + 1) → (e : Expression) (body : Ways → Code → Code) (c : Code) → N e → ((own : Ways) (b : Code) → Good P D (d + 1) b → Good P D (d + 1) (body own b)) → Good P D d c → Good P D d (looping fr.home e body c)
  looping_good d deep deeper e body c w h g =
      let head = c.blocks in
      let inner = c.blocks + 1 in
      let out = c.blocks + 2 in
      let before = cut (Jump head) head (c.depth + 1) (reserve 3 c) in
      let entered = test fr.home e inner out inner (c.depth + 1) before in
      let own : Ways = record { out = out; on = head } in
      let q = inside d c before g (cuts P D give.nodes.bare d deep (Jump head) head (c.depth + 1) (reserve 3 c) g) in
      let t = inside d c entered g (test_good (d + 1) deeper e inner out inner (c.depth + 1) before w q) in
      back d c.depth (looping fr.home e body c) g.2 (cuts P D give.nodes.bare (d + 1) deeper (Jump head) out c.depth (body own entered) (h own entered t))

  repeating_good : (d : ℕ) → D d → D (d + 1) → (e : Expression) (body : Ways → Code → Code) (c : Code) → N e → ((own : Ways) (b : Code) → Good P D (d + 1) b → Good P D (d + 1) (body own b)) → Good P D d c → Good P D d (repeating fr.home e body c)
  repeating_good d deep deeper e body c w h g =
      let inner = c.blocks in
      let on = c.blocks + 1 in
      let out = c.blocks + 2 in
      let before = cut (Jump inner) inner (c.depth + 1) (reserve 3 c) in
      let own : Ways = record { out = out; on = on } in
      let turned = body own before in
      let last = cut (Jump on) on (c.depth + 1) turned in
      let q = inside d c before g (cuts P D give.nodes.bare d deep (Jump inner) inner (c.depth + 1) (reserve 3 c) g) in
      let t = inside d c last g (cuts P D give.nodes.bare (d + 1) deeper (Jump on) on (c.depth + 1) turned (h own before q)) in
      back d c.depth (repeating fr.home e body c) g.2 (test_good (d + 1) deeper e inner out out c.depth last w t)

  counting_good :
      (d : ℕ) → D d → D (d + 1) → (first condition third : Option Expression) (body : Ways → Code → Code) (c : Code)
      → IfAny N first → IfAny N condition → IfAny N third
      → ((own : Ways) (b : Code) → Good P D (d + 1) b → Good P D (d + 1) (body own b)) → Good P D d c → Good P D d (counting fr.home first condition third body c)
  counting_good d deep deeper first condition third body c w1 w2 w3 h g =
      let head = c.blocks in
      let inner = c.blocks + 1 in
      let on = c.blocks + 2 in
      let out = c.blocks + 3 in
      let ready = effects fr.home first (reserve 4 c) in
      let before = cut (Jump head) head (c.depth + 1) ready in
      let entered = test_or_go fr.home condition inner out (c.depth + 1) before in
      let own : Ways = record { out = out; on = on } in
      let turned = cut (Jump on) on (c.depth + 1) (body own entered) in
      let last = effects fr.home third turned in
      let r = effects_good d deep first (reserve 4 c) w1 g in
      let q = inside d c before g (cuts P D give.nodes.bare d deep (Jump head) head (c.depth + 1) ready r) in
      let t = inside d c entered g (test_or_go_good (d + 1) deeper condition inner out (c.depth + 1) before w2 q) in
      let u = inside d c turned g (cuts P D give.nodes.bare (d + 1) deeper (Jump on) on (c.depth + 1) (body own entered) (h own entered t)) in
      back d c.depth (counting fr.home first condition third body c) g.2 (cuts P D give.nodes.bare (d + 1) deeper (Jump head) out c.depth last (effects_good (d + 1) deeper third turned w3 u))

  switching_good :
      (d : ℕ) → D d → (e : Expression) (cases : List CaseValue) (default : Option ℕ) (body : ℕ → Code → Code) (c : Code) → N e
      → AllByRecursion (λ (k : CaseValue). OfNumber P k.value) cases → ((out : ℕ) (b : Code) → Good P D d b → Good P D d (body out b)) → Good P D d c → Good P D d (switching fr.home e cases default body c)
  switching_good d deep e cases default body c w k h g =
      let out = c.blocks in
      let labels = labels_of cases default in
      let named = named_from (c.blocks + 1) labels (reserve (1 + length labels) c) in
      let x = lower fr.home e named in
      let compared = choose (temp_of x) cases x.code in
      let entered = chosen default out compared in
      back d c.depth (switching fr.home e cases default body c) g.2
      (cuts P D give.nodes.bare d deep (Jump out) out c.depth (body out entered)
      (h out entered (leave_good d deep (Jump (default_or compared default out)) compared (choose_good d deep (temp_of x) cases x.code k (value_good d deep e named w g)))))

  -- ---- statements

  -- what stands behind the arms of an `if`
  abbrev LastGood : ℕ → Option (Code → Code) → Type 0
  LastGood d None = Unit {0}
  LastGood d (Some last) = (c : Code) → Good P D d c → Good P D d (last c)

  mutual
    unfolding lower_statement

    pub statement_good : (s : Statement) (ways : Ways) (d : ℕ) (c : Code) → S d s → Good P D d c → Good P D d (lower_statement fr ways s c)
    statement_good (Empty t) ways d c w g = g
    statement_good (Evaluate t e) ways d c w g = value_good d (give.depth d (Evaluate t e) w) e c (give.parts d (Evaluate t e) w) g
    statement_good (Block t first count initialisers items) ways d c w g =
        let n = give.parts d (Block t first count initialisers items) w in
        let deep = give.depth d (Block t first count initialisers items) w in
        statements_good items ways d (initialised_all fr.home fr.locals initialisers c) n.1 (initialised_all_good d deep initialisers c n.0 g)
    statement_good (If t arms otherwise) ways d c w g =
        let n = give.parts d (If t arms otherwise) w in
        arms_good arms (lower_otherwise fr ways otherwise) ways d c (give.depth d (If t arms otherwise) w) n.0 (otherwise_good otherwise ways d n.1) g
    statement_good (While t e body) ways d c w g =
        let n = give.parts d (While t e body) w in
        looping_good d (give.depth d (While t e body) w) (give.depth (d + 1) body n.1) e (λ own b. lower_statement fr own body b) c n.0 (λ own b q. statement_good body own (d + 1) b n.1 q) g
    statement_good (Do t body e) ways d c w g =
        let n = give.parts d (Do t body e) w in
        repeating_good d (give.depth d (Do t body e) w) (give.depth (d + 1) body n.1) e (λ own b. lower_statement fr own body b) c n.0 (λ own b q. statement_good body own (d + 1) b n.1 q) g
    statement_good (For t first e third body) ways d c w g =
        let n = give.parts d (For t first e third body) w in
        counting_good d (give.depth d (For t first e third body) w) (give.depth (d + 1) body n.3) first e third (λ own b. lower_statement fr own body b) c n.0 n.1 n.2
        (λ own b q. statement_good body own (d + 1) b n.3 q) g
    statement_good (Switch t e cases default body) ways d c w g =
        let n = give.parts d (Switch t e cases default body) w in
        switching_good d (give.depth d (Switch t e cases default body) w) e cases default (λ out b. lower_statement fr (record ways { out = out }) body b) c n.0
        (give.cases d (Switch t e cases default body) w) (λ out b q. statement_good body (record ways { out = out }) d b n.1 q) g
    statement_good (Label t labels body) ways d c w g =
        statement_good body ways d (begun labels c) (give.parts d (Label t labels body) w) (begun_good d (give.depth d (Label t labels body) w) labels c g)
    statement_good (Return t e) ways d c w g = returning_good d (give.depth d (Return t e) w) e c (give.parts d (Return t e) w) g
    -- a jump
    statement_good s ways d c w g = leave_good d (give.depth d s w) _ c g

    arms_good : (arms : Arms) (last : Option (Code → Code)) (ways : Ways) (d : ℕ) (c : Code) → D d → EachArm N (S d) arms → LastGood d last → Good P D d c → Good P D d (lower_arms fr ways arms last c)
    arms_good NoArm None ways d c deep w h g = g
    arms_good NoArm (Some last) ways d c deep w h g = h c g
    arms_good (Arm t e s NoArm) None ways d c deep w h g =
        let x = lower fr.home e c in
        let so = x.code.blocks in
        let join = x.code.blocks + 1 in
        let entered = cut_here (Branch (temp_of x) so join) so (reserve 2 x.code) in
        join_good d deep (Jump join) join (lower_statement fr ways s entered) (statement_good s ways d entered w.1 (arm_good d deep e 2 join c w.0 g))
    arms_good (Arm t e s NoArm) (Some last) ways d c deep w h g =
        let x = lower fr.home e c in
        let so = x.code.blocks in
        let other = x.code.blocks + 1 in
        let join = x.code.blocks + 2 in
        let entered = cut_here (Branch (temp_of x) so other) so (reserve 3 x.code) in
        let done = lower_statement fr ways s entered in
        let behind = cut_here (Jump join) other done in
        join_good d deep (Jump join) join (lower_arms fr ways NoArm (Some last) behind)
        (arms_good NoArm (Some last) ways d behind deep w.2 h
        (join_good d deep (Jump join) other done (statement_good s ways d entered w.1 (arm_good d deep e 3 other c w.0 g))))
    arms_good (Arm t e s (Arm u a q rest)) last ways d c deep w h g =
        let x = lower fr.home e c in
        let so = x.code.blocks in
        let other = x.code.blocks + 1 in
        let join = x.code.blocks + 2 in
        let entered = cut_here (Branch (temp_of x) so other) so (reserve 3 x.code) in
        let done = lower_statement fr ways s entered in
        let behind = cut_here (Jump join) other done in
        join_good d deep (Jump join) join (lower_arms fr ways (Arm u a q rest) last behind)
        (arms_good (Arm u a q rest) last ways d behind deep w.2 h
        (join_good d deep (Jump join) other done (statement_good s ways d entered w.1 (arm_good d deep e 3 other c w.0 g))))

    otherwise_good : (o : Otherwise) (ways : Ways) (d : ℕ) → InElse (S d) o → LastGood d (lower_otherwise fr ways o)
    otherwise_good NoElse ways d w = tt
    otherwise_good (Else s) ways d w = λ c g. statement_good s ways d c w g

    statements_good : (all : Statements) (ways : Ways) (d : ℕ) (c : Code) → EachStatement (S d) all → Good P D d c → Good P D d (lower_statements fr ways all c)
    statements_good NoStatement ways d c w g = g
    statements_good (OneStatement s rest) ways d c w g = statements_good rest ways d (lower_statement fr ways s c) w.1 (statement_good s ways d c w.0 g)

-- ---- functions

-- the blocks in order, and those that nothing was put into
module _ (B : FlowBlock → Type 0) (empty : B bare) where
  found_by : (b : Bool) (block : FlowBlock) (rest : Option FlowBlock) → B block → B (unwrap_or rest bare) → B (unwrap_or (if b then Some block else rest) bare)
  found_by true block rest h i = h
  found_by false block rest h i = i

  found : (closed : List Numbered) (n : ℕ) → AllByRecursion (λ (b : Numbered). B b.block) closed → B (unwrap_or (block_of closed n) bare)
  found [] n h = empty
  found (b ∷ rest) n h = found_by (b.number == n) b.block (block_of rest n) h.0 (found rest n h.1)

  pub in_order : (closed : List Numbered) (n : ℕ) → AllByRecursion (λ (b : Numbered). B b.block) closed → AllByRecursion B (blocks_below closed n)
  in_order closed zero h = tt
  in_order closed (suc n) h = all_append B (blocks_below closed n) (unwrap_or (block_of closed n) bare ∷ []) (in_order closed n h) (found closed n h, tt)

module _ (P : Op → Type 0) (D : ℕ → Type 0) (none : (o : Op) → IsBare o → P o) (bottom : D 0) where
  parameters_good : (locals : List LocalValue) (places : List LocalPlace) (k left : ℕ) (c : Code) → Good P D 0 c → Good P D 0 (parameters_stored locals places k left c)
  parameters_good [] places k left c g = g
  parameters_good (local ∷ locals) [] k left c g = g
  parameters_good (local ∷ locals) (Slot q ∷ places) k zero c g = g
  parameters_good (local ∷ locals) (Temp t ∷ places) k zero c g = g
  parameters_good (local ∷ locals) (Slot q ∷ places) k (suc left) c g =
      let x = fresh (λ t. op.AddrSlot t q) c in
      let o = op.Store (scalar_kind (type_of local.ty)) (temp_of x) k in
      parameters_good locals places (k + 1) left (emit o x.code) (emits_bare P D none 0 bottom o x.code tt (adds_bare P D none 0 bottom (λ t. op.AddrSlot t q) c tt g))
  parameters_good (local ∷ locals) (Temp t ∷ places) k (suc left) c g = parameters_good locals places (k + 1) left c g

  closed_good : (named : List ℕ) → AllByRecursion (λ (b : Numbered). EachBlock P D b.block) (closed_at_start named)
  closed_good [] = tt
  closed_good (l ∷ rest) = ((bottom, tt), tt)

-- each block of a function of whose body S holds
module _ (P : Op → Type 0) (D : ℕ → Type 0) (home : List ℕ) (records : List RecordValue) (N : Expression → Type 0) (I : Initialiser → Type 0) (S : ℕ → Statement → Type 0) where
  pub each_block : (f : FunctionValue) → Trees P D home records f.locals N I S → S 0 f.body → AllByRecursion (EachBlock P D) (lowered_function home records f).blocks
  unfolding lowered_function
  each_block f give h =
      let fr = frame_of home records f in
      let start = start_code f (temps_from f.params (places_of f)) in
      let bottom = give.depth 0 f.body h in
      let none = give.nodes.bare in
      let begun = entered f in
      let gb : Good P D 0 begun = parameters_good P D none bottom f.locals (places_of f) 0 f.params start (tt, closed_good P D none bottom f.named, refl) in
      let ways : Ways = record { out = 0; on = 0 } in
      let body = lower_statement fr ways f.body begun in
      let gs = statement_good P D fr N I S give f.body ways 0 begun h gb in
      let gc = turns P D none 0 bottom (Returned None) 0 body gs in
      let c = function_code home records f in
      in_order (EachBlock P D) (bottom, tt) c.closed c.blocks gc.1
