-- Steps that neither load or store a global by its name nor call or return.
use Rattle.std.proofs.Common.{◌≡◌, ◌==◌, ◌+◌, ◌&&◌, ◌||◌, ℕ, zero, suc, Bool, true, false, if◌then◌else◌, Option, Some, None, List, [], ◌∷◌, refl, ap, sym, ◌∙◌, subst}
use Rattle.std.specs.Prelude.{IfSome, slice_set, slice_get, slice_index_or, option_map, not, Contains}
use Rattle.std.specs.List.{AllByRecursion}
use Rattle.std.proofs.lemmas.Option.{slice_get-map}
use Rattle.pw_value.specs.declared.value.Kind.{Kind}
use Rattle.pw_value.specs.declared.value.Value.{Value}
use Rattle.pw_value.specs.declared.value.Value.TheVariants.{Undefined, Num, Null, At, Piece}
use Rattle.pw_value.specs.declared.value.Byte.{Byte}
use Rattle.pw_value.specs.declared.value.Pointer.TheVariants as P
use Rattle.pw_value.specs.Objects.{Object, object_at, bytes_from, written}
use Rattle.pw_value.specs.Values.{encoding}
use Rattle.pw_db.specs.declared.database.Web.{Web}
use Rattle.pw_db.specs.declared.database.Role.{Role}
use Rattle.pw_db.specs.declared.database.Directives.{Directives}
use Rattle.pw_flow.specs.declared.flow.Op.{Op}
use Rattle.pw_flow.specs.declared.flow.Op.TheVariants as op
use Rattle.pw_flow.specs.declared.flow.End.{End}
use Rattle.pw_flow.specs.declared.flow.End.TheVariants.{Jump, Branch, Return}
use Rattle.pw_flow.specs.declared.flow.Block.{Block}
use Rattle.pw_flow.specs.ValidFlow.{kind_size}
use Rattle.pw_webflow.specs.declared.web.WebBlock.{WebBlock}
use Rattle.pw_webflow.specs.declared.web.WebOp.{WebOp}
use Rattle.pw_webflow.specs.declared.web.WebOp.TheVariants.{Flow}
use Rattle.pw_webflow.specs.Direction.{directed, directed_op, directed_block}
use Rattle.pw_run_languages.specs.Programs.{Program}
use Rattle.pw_run_languages.specs.Values.{binary, is_somewhere}
use Rattle.pw_run_languages.specs.Memory.{may_stand, is_open, is_apart, look, poke, copy}
use Rattle.pw_run_languages.specs.Commands as command
use Rattle.pw_run_languages.specs.FlowRun as flow
use Rattle.pw_run_languages.specs.LawfulPrograms.{IsProgram, ops_of}
use Rattle.pw_run_languages.specs.PlacedRun as web
use Rattle.pw_law_direction.specs.DirectedLaws.{TakenFunctionsAreFine}
use Rattle.pw_law_direction.specs.Pairs.{Active, Pair, active_of, flow_side, web_side, webs_of, under}
use Rattle.pw_law_direction.specs.Alike.{FinePointer, FineValue, FineByte, IsActive, IsAlike, GoesBoth, Follows}
use Rattle.pw_law_direction.specs.SideBySide.{OperationsFollow, BlocksFollow, LeavesGlobals, StepsFollow, StaysInside}
use Rattle.pw_law_direction.proofs.Elements.{first-there, later-there, at-there, flat-there}
use Rattle.pw_law_direction.proofs.Names.{global-leads, address-taken}
use Rattle.pw_law_direction.proofs.Tame.{tame-not, unary-tame, extension-tame, binary-tame, bytes-from-tame, encoding-tame, set-tame}
use Rattle.pw_law_direction.proofs.Memory.{open-alike, look-alike, look-tame, somewhere-alike, binary-alike, objects-written}

-- ---- pairs of which a part is changed

abbrev pub with-value : ℕ → Value → Pair → Pair
with-value t v x = record x { frame = record x.frame { temps = slice_set x.frame.temps t v } }

abbrev pub with-ops : List Op → Pair → Pair
with-ops ops x = record x { frame = record x.frame { ops = ops } }

abbrev pub with-objects : List Object → List Object → Pair → Pair
with-objects objects memory x = record x { objects = objects; memory = memory }

abbrev pub at-block : ℕ → Block → Pair → Pair
at-block b next x = record x { frame = record x.frame { block = b; ops = next.ops; end = next.end } }

pub value-alike : (p : Program) (d : List (List ℕ × Directives)) (x : Pair) (t : ℕ) (v : Value) → FineValue p v → IsAlike p d x → IsAlike p d (with-value t v x)
value-alike p d x t v h a = record {
  frame = record {
    there = a.frame.there;
    code = a.frame.code;
    slots = a.frame.slots;
    temps = set-tame p x.frame.temps t v a.frame.temps h;
    saves = record { entries = a.frame.saves.entries; alone = a.frame.saves.alone };
  };
  callers = a.callers;
  linked = a.linked;
  objects = record { count = a.objects.count; others = a.objects.others; globals = a.objects.globals; tame = a.objects.tame };
  log = a.log;
}

pub ops-alike : (p : Program) (d : List (List ℕ × Directives)) (x : Pair) (ops : List Op) → ((o : Op) → Contains ops o → Contains (ops_of x.frame.function) o) → IsAlike p d x → IsAlike p d (with-ops ops x)
ops-alike p d x ops h a = record {
  frame = record { there = a.frame.there; code = h; slots = a.frame.slots; temps = a.frame.temps; saves = record { entries = a.frame.saves.entries; alone = a.frame.saves.alone } };
  callers = a.callers;
  linked = a.linked;
  objects = record { count = a.objects.count; others = a.objects.others; globals = a.objects.globals; tame = a.objects.tame };
  log = a.log;
}

block-alike : (p : Program) (d : List (List ℕ × Directives)) (x : Pair) (b : ℕ) (next : Block) → ((o : Op) → Contains next.ops o → Contains (ops_of x.frame.function) o)
    → IsAlike p d x → IsAlike p d (at-block b next x)
block-alike p d x b next h a = record {
  frame = record { there = a.frame.there; code = h; slots = a.frame.slots; temps = a.frame.temps; saves = record { entries = a.frame.saves.entries; alone = a.frame.saves.alone } };
  callers = a.callers;
  linked = a.linked;
  objects = record { count = a.objects.count; others = a.objects.others; globals = a.objects.globals; tame = a.objects.tame };
  log = a.log;
}

counted-alike : (p : Program) (d : List (List ℕ × Directives)) (x : Pair) (n : ℕ) → IsAlike p d x → IsAlike p d (record x { events = n })
counted-alike p d x n a = record { frame = a.frame; callers = a.callers; linked = a.linked; objects = a.objects; log = a.log }

-- ---- what a command gives

pub gives-follow : (p : Program) (d : List (List ℕ × Directives)) (x : Pair) (t : ℕ) (r s : Option Value) → s ≡ r → IfSome r (FineValue p) → IsAlike p d x
    → Follows p d (flow.gives t r (flow_side x)) (web.gives t s (web_side d x))
gives-follow p d x t None s e h a = tt
gives-follow p d x t (Some v) s e h a = record {
  pair = with-value t v x;
  flow = refl;
  web = ap (λ (s : Option Value). web.gives t s (web_side d x)) e;
  alike = value-alike p d x t v h a;
}

written-follow : (p : Program) (d : List (List ℕ × Directives)) (x : Pair) (b c : Bool) (o i : ℕ) (new now : List Byte) → c ≡ b → now ≡ new → FinePointer p (P.Object o i)
    → (b ≡ true → (object_at x.objects o).live ≡ true) → AllByRecursion (FineByte p) new → IsAlike p d x
    → Follows p d (flow.changes (if b then Some (written o i new x.objects) else None) (flow_side x)) (web.changes (if c then Some (written o i now x.memory) else None) (web_side d x))
written-follow p d x false c o i new now e f plain live tame a = tt
written-follow p d x true c o i new now e f plain live tame a = record {
  pair = with-objects (written o i new x.objects) (written o i new x.memory) x;
  flow = refl;
  web = ap (λ (c : Bool). web.changes (if c then Some (written o i now x.memory) else None) (web_side d x)) e
      ∙ ap (λ (now : List Byte). web.On (web_side d (with-objects x.objects (written o i now x.memory) x))) f;
  alike = record {
    frame = a.frame;
    callers = a.callers;
    linked = a.linked;
    objects = objects-written p d (active_of x) x.registers x.objects x.memory o i new plain (live refl) tame a.objects;
    log = a.log;
  };
}

and-left : (a b : Bool) → (a && b) ≡ true → a ≡ true
and-left true b h = refl
and-left false b h = h

-- ---- commands

abbrev IsTameCommand : Program → command.Command → Type 0
IsTameCommand p (command.Give t v) = FineValue p v
IsTameCommand p (command.Combine k t v w) = FineValue p v × FineValue p w
IsTameCommand p (command.Look k t v) = FineValue p v
IsTameCommand p (command.Poke k v w) = FineValue p v × FineValue p w
IsTameCommand p (command.Copied v w size unit) = FineValue p v × FineValue p w
IsTameCommand p command.Fail = Unit {0}
IsTameCommand p c = ⊥

poke-follow : (p : Program) (d : List (List ℕ × Directives)) (x : Pair) (k : Kind) (v w : Value) → FineValue p v → FineValue p w → IsAlike p d x
    → Follows p d (flow.changes (poke k v w x.objects) (flow_side x)) (web.changes (poke k v w x.memory) (web_side d x))
poke-follow p d x k (At (P.Object o i)) w h j a =
    written-follow p d x (is_open x.objects o i (kind_size k) (kind_size k) && may_stand k w) (is_open x.memory o i (kind_size k) (kind_size k) && may_stand k w)
    o i (encoding w (kind_size k)) (encoding w (kind_size k))
    (ap (λ (b : Bool). b && may_stand k w) (open-alike x.objects x.memory o i (kind_size k) (kind_size k) (a.objects.others o h))) refl h
    (λ e. and-left (object_at x.objects o).live _ (and-left (is_open x.objects o i (kind_size k) (kind_size k)) (may_stand k w) e))
    (encoding-tame p w (kind_size k) j) a
poke-follow p d x k (At (P.Function f)) w h j a = tt
poke-follow p d x k Undefined w h j a = tt
poke-follow p d x k (Num n) w h j a = tt
poke-follow p d x k Null w h j a = tt
poke-follow p d x k (Piece q i) w h j a = tt

abbrev both-open : List Object → ℕ → ℕ → ℕ → ℕ → ℕ → ℕ → Bool
both-open objects o i s j size unit = is_open objects o i size unit && (is_open objects s j size unit && (not (o == s) || is_apart i j size))

copy-follow : (p : Program) (d : List (List ℕ × Directives)) (x : Pair) (v w : Value) (size unit : ℕ) → FineValue p v → FineValue p w → IsAlike p d x
    → Follows p d (flow.changes (copy v w size unit x.objects) (flow_side x)) (web.changes (copy v w size unit x.memory) (web_side d x))
copy-follow p d x (At (P.Object o i)) (At (P.Object s j)) size unit h k a =
    written-follow p d x (both-open x.objects o i s j size unit) (both-open x.memory o i s j size unit)
    o i (bytes_from size j (object_at x.objects s).bytes) (bytes_from size j (object_at x.memory s).bytes)
    (ap (λ (b : Bool). b && (is_open x.memory s j size unit && (not (o == s) || is_apart i j size))) (open-alike x.objects x.memory o i size unit (a.objects.others o h))
    ∙ ap (λ (b : Bool). is_open x.objects o i size unit && (b && (not (o == s) || is_apart i j size))) (open-alike x.objects x.memory s j size unit (a.objects.others s k)))
    (ap (λ (y : Object). bytes_from size j y.bytes) (a.objects.others s k)) h
    (λ e. and-left (object_at x.objects o).live _ (and-left (is_open x.objects o i size unit) _ e))
    (bytes-from-tame p size j (object_at x.objects s).bytes (a.objects.tame s)) a
copy-follow p d x v w size unit h k a = tt

obeys-follow : (p : Program) (d : List (List ℕ × Directives)) (x : Pair) (c : command.Command) → IsTameCommand p c → IsAlike p d x
    → Follows p d (flow.obeys p c (flow_side x)) (web.obeys (under p d) c (web_side d x))
obeys-follow p d x (command.Give t v) h a = gives-follow p d x t (Some v) (Some v) refl h a
obeys-follow p d x (command.Combine k t v w) h a =
    gives-follow p d x t (binary x.objects k v w) (binary x.memory k v w) (binary-alike p x.objects x.memory k v w a.objects.others h.0 h.1) (binary-tame p x.objects k v w h.0 h.1) a
obeys-follow p d x (command.Look k t v) h a =
    subst (λ (b : Bool). Follows p d (flow.gives t (look k v x.objects) (flow_side x)) (if b then web.Astray else web.gives t (look k v x.memory) (web_side d x))) (sym (tame-not p d v h))
    (gives-follow p d x t (look k v x.objects) (look k v x.memory) (look-alike p x.objects x.memory k v a.objects.others h) (look-tame p x.objects k v a.objects.tame) a)
obeys-follow p d x (command.Poke k v w) h a =
    subst (λ (b : Bool). Follows p d (flow.changes (poke k v w x.objects) (flow_side x)) (if b then web.Astray else web.changes (poke k v w x.memory) (web_side d x))) (sym (tame-not p d v h.0))
    (poke-follow p d x k v w h.0 h.1 a)
obeys-follow p d x (command.Copied v w size unit) h a =
    let e : (web.is_reserved (under p d) v || web.is_reserved (under p d) w) ≡ false =
    ap (λ (b : Bool). b || web.is_reserved (under p d) w) (tame-not p d v h.0) ∙ tame-not p d w h.1 in
    subst (λ (b : Bool). Follows p d (flow.changes (copy v w size unit x.objects) (flow_side x)) (if b then web.Astray else web.changes (copy v w size unit x.memory) (web_side d x))) (sym e)
    (copy-follow p d x v w size unit h.0 h.1 a)
obeys-follow p d x command.Fail h a = tt
obeys-follow p d x (command.GetGlobal t g k) h a = absurd h
obeys-follow p d x (command.PutGlobal g k v) h a = absurd h
obeys-follow p d x (command.Enter t f args) h a = absurd h

give-tame : (p : Program) (t : ℕ) (r : Option Value) → IfSome r (FineValue p) → IsTameCommand p (command.give t r)
give-tame p t (Some v) h = h
give-tame p t None h = tt

command-tame : (p : Program) (d : List (List ℕ × Directives)) (f : Active) (o : Op) → IsProgram p → TakenFunctionsAreFine → IsActive p d f → Contains (ops_of f.function) o → LeavesGlobals o
    → IsTameCommand p (command.command p f.base o (λ t. slice_index_or f.temps t Undefined))
unfolding command.command
command-tame p d f (op.Const t n) lawful fine a c h = tt
command-tame p d f (op.Copy t b) lawful fine a c h = a.temps b
command-tame p d f (op.Un k t b) lawful fine a c h = give-tame p t _ (unary-tame p k (slice_index_or f.temps b Undefined))
command-tame p d f (op.Bin k t b e) lawful fine a c h = (a.temps b, a.temps e)
command-tame p d f (op.Ext k t b) lawful fine a c h = give-tame p t _ (extension-tame p k (slice_index_or f.temps b Undefined) (a.temps b))
command-tame p d f (op.AddrGlobal t g n) lawful fine a c h = global-leads p g n (lawful.ops f.function (op.AddrGlobal t g n) a.there c) (address-taken p f.function (op.AddrGlobal t g n) g a.there c (first-there g []))
command-tame p d f (op.AddrSlot t s) lawful fine a c h = a.slots s
command-tame p d f (op.AddrFn t g) lawful fine a c h = fine p g (address-taken p f.function (op.AddrFn t g) g a.there c (first-there g [])) (lawful.ops f.function (op.AddrFn t g) a.there c)
command-tame p d f (op.Load k t b) lawful fine a c h = a.temps b
command-tame p d f (op.Store k b e) lawful fine a c h = (a.temps b, a.temps e)
command-tame p d f (op.Move b e size unit) lawful fine a c h = (a.temps b, a.temps e)
command-tame p d f _ lawful fine a c h = absurd h

-- ---- operations

stays-flow : (webs : List (Web × Role)) (o : Op) → LeavesGlobals o → directed_op webs o ≡ Flow o
stays-flow webs (op.LoadG t g k) h = absurd h
stays-flow webs (op.StoreG g b k) h = absurd h
stays-flow webs _ h = refl

operation-follows : (p : Program) (d : List (List ℕ × Directives)) (x : Pair) (o : Op) (ops : List Op) → IsProgram p → TakenFunctionsAreFine → IsAlike p d (with-ops (o ∷ ops) x) → LeavesGlobals o
    → StepsFollow p d (with-ops (o ∷ ops) x)
unfolding flow.step web.step
operation-follows p d x o ops lawful fine a h =
    let rest : IsAlike p d (with-ops ops x) = ops-alike p d (with-ops (o ∷ ops) x) ops (λ u c. a.frame.code u (later-there o u ops c)) a in
    subst (λ (w : WebOp). Follows p d (flow.obeys p (command.command p x.frame.base o (λ t. slice_index_or x.frame.temps t Undefined)) (flow_side (with-ops ops x))) (web.does (under p d) w (web_side d (with-ops ops x))))
    (sym (stays-flow (webs_of d x.frame.function) o h))
    (obeys-follow p d (with-ops ops x) (command.command p x.frame.base o (λ t. slice_index_or x.frame.temps t Undefined)) (command-tame p d (record x.frame { ops = ops }) o lawful fine rest.frame (a.frame.code o (first-there o ops)) h) rest)

pub operations-follow : TakenFunctionsAreFine → OperationsFollow
operations-follow fine p d x o ops lawful a e h =
    subst (λ (l : List Op). StepsFollow p d (with-ops l x)) (sym e)
    (operation-follows p d x o ops lawful fine (subst (λ (l : List Op). IsAlike p d (with-ops l x)) e a) h)

-- ---- ends of blocks

abbrev flow-to : ℕ → flow.Machine → Option Block → flow.Step
flow-to b m (Some next) =
    flow.On (if b == m.frame.block + 1 then record m { frame = record m.frame { block = b; ops = next.ops; end = next.end } }
    else flow.counted (record m { frame = record m.frame { block = b; ops = next.ops; end = next.end } }))
flow-to b m None = flow.Astray

abbrev web-to : ℕ → web.Machine → Option WebBlock → web.Step
web-to b m (Some next) =
    web.On (if b == m.frame.block + 1 then record m { frame = record m.frame { block = b; ops = next.ops; end = next.end } }
    else web.counted (record m { frame = record m.frame { block = b; ops = next.ops; end = next.end } }))
web-to b m None = web.Astray

arrives : (p : Program) (d : List (List ℕ × Directives)) (x : Pair) (b : Bool) → IsAlike p d x
    → GoesBoth p d (if b then flow_side x else flow.counted (flow_side x)) (web.On (if b then web_side d x else web.counted (web_side d x)))
arrives p d x true a = record { pair = x; flow = refl; web = refl; alike = a }
arrives p d x false a = record { pair = record x { events = x.events + 1 }; flow = refl; web = refl; alike = counted-alike p d x (x.events + 1) a }

to-follows : (p : Program) (d : List (List ℕ × Directives)) (x : Pair) (b : ℕ) (found : Option Block) → slice_get x.frame.function.blocks b ≡ found → IsAlike p d x
    → Follows p d (flow-to b (flow_side x) found) (web-to b (web_side d x) (option_map (directed_block (webs_of d x.frame.function)) found))
to-follows p d x b None e a = tt
to-follows p d x b (Some next) e a = arrives p d (at-block b next x) (b == x.frame.block + 1)
    (block-alike p d x b next (λ o c. flat-there (λ (k : Block). k.ops) x.frame.function.blocks next o (at-there x.frame.function.blocks b next e) c) a)

jumps-follow : (p : Program) (d : List (List ℕ × Directives)) (x : Pair) (b : ℕ) → IsAlike p d x → Follows p d (flow.jumps b (flow_side x)) (web.jumps b (web_side d x))
unfolding directed
jumps-follow p d x b a =
    subst (λ (r : Option WebBlock). Follows p d (flow.jumps b (flow_side x)) (web-to b (web_side d x) r)) (sym (slice_get-map (directed_block (webs_of d x.frame.function)) x.frame.function.blocks b))
    (to-follows p d x b (slice_get x.frame.function.blocks b) refl a)

somewhere-follows : (p : Program) (d : List (List ℕ × Directives)) (x : Pair) (b : ℕ) (r s : Bool) → s ≡ r → IsAlike p d x
    → Follows p d (if r then flow.jumps b (flow_side x) else flow.Astray) (if s then web.jumps b (web_side d x) else web.Astray)
somewhere-follows p d x b false s e a = tt
somewhere-follows p d x b true s e a =
    subst (λ (s : Bool). Follows p d (flow.jumps b (flow_side x)) (if s then web.jumps b (web_side d x) else web.Astray)) (sym e) (jumps-follow p d x b a)

branches-follow : (p : Program) (d : List (List ℕ × Directives)) (x : Pair) (v : Value) (b c : ℕ) → FineValue p v → IsAlike p d x
    → Follows p d (flow.branches v b c (flow_side x)) (web.branches v b c (web_side d x))
branches-follow p d x (Num zero) b c h a = jumps-follow p d x c a
branches-follow p d x (Num (suc n)) b c h a = jumps-follow p d x b a
branches-follow p d x (At q) b c h a = somewhere-follows p d x b (is_somewhere x.objects q) (is_somewhere x.memory q) (somewhere-alike p x.objects x.memory q a.objects.others h) a
branches-follow p d x Undefined b c h a = tt
branches-follow p d x Null b c h a = tt
branches-follow p d x (Piece q i) b c h a = tt

ends-follow : (p : Program) (d : List (List ℕ × Directives)) (x : Pair) (end : End) → StaysInside end → IsAlike p d x → Follows p d (flow.ends end (flow_side x)) (web.ends (under p d) end (web_side d x))
ends-follow p d x (Jump b) h a = jumps-follow p d x b a
ends-follow p d x (Branch t b c) h a = branches-follow p d x (slice_index_or x.frame.temps t Undefined) b c (a.frame.temps t) a
ends-follow p d x (Return t) h a = absurd h

block-follows : (p : Program) (d : List (List ℕ × Directives)) (x : Pair) → IsAlike p d (with-ops [] x) → StaysInside x.frame.end → StepsFollow p d (with-ops [] x)
unfolding flow.step web.step
block-follows p d x a h = ends-follow p d (with-ops [] x) x.frame.end h a

pub blocks-follow : BlocksFollow
blocks-follow p d x a e h =
    subst (λ (l : List Op). StepsFollow p d (with-ops l x)) (sym e) (block-follows p d x (subst (λ (l : List Op). IsAlike p d (with-ops l x)) e a) h)
