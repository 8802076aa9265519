-- Initialisers of locals (C90 6.5.7): a scalar gets a value, a structure or union a copy of one, and a local of another type
-- the bytes of a hidden object.
use Rattle.std.proofs.Common.{◌≡◌, ℕ, suc, zero, ◌+◌, ◌%◌, ◌≤◌, ◌==◌, ◌&&◌, ◌||◌, not, nat_le, Bool, true, if◌then◌else◌, Option, Some, None, option_map, unwrap_or, List, [], ◌∷◌, ◌++◌, length, map, get_or, slice_get, slice_index_or, Contains, refl, ap, sym, ◌∙◌, subst, arith, le-leb, eq-eqb}
use Rattle.std.specs.Prelude.{bytes_eq}
use Rattle.std.proofs.lemmas.Bool.{and_from, or_right}
use Rattle.std.proofs.lemmas.Option.{same_Some}
use Rattle.std.proofs.lemmas.List.Elements.{Contains-get_or}
use Rattle.std.proofs.lemmas.List.Quantifiers.{position-Some}
use Rattle.std.proofs.lemmas.Slice.Eq.{bytes_eq-Decides}
use Rattle.pw_value.specs.declared.value.Kind.{Kind}
use Rattle.pw_value.specs.declared.value.Byte.{Byte}
use Rattle.pw_value.specs.declared.value.Value.{Value}
use Rattle.pw_value.specs.declared.value.Value.TheVariants as V
use Rattle.pw_value.specs.declared.value.Pointer.{Pointer}
use Rattle.pw_value.specs.declared.value.Pointer.TheVariants as P
use Rattle.pw_value.specs.Objects.{Object, object_at, bytes_from, written}
use Rattle.pw_types.specs.TypeTrees.{CType, Void, Int, Pointer as PointerTo, Array, Function, Record, RecordValue, type_of}
use Rattle.pw_types.specs.FullNames.{full_name}
use Rattle.pw_types.specs.TypedTrees.{Symbol, Hidden, Expression, token_of, LocalValue, GlobalValue, Value as ByValue, Bytes as ByBytes}
use Rattle.pw_types.specs.WellTyped.{IsTyped, IsScalar, type_in}
use Rattle.pw_flow.specs.declared.flow.Op.TheVariants as op
use Rattle.pw_flow.specs.declared.flow.FlowGlobal.{FlowGlobal}
use Rattle.pw_lower.specs.declared.code.Code.{Code}
use Rattle.pw_lower.specs.declared.place.LocalPlace.{LocalPlace}
use Rattle.pw_lower.specs.declared.place.LocalPlace.TheVariants.{Temp, Slot}
use Rattle.pw_lower.specs.declared.place.Target.TheVariants.{Kept, Led}
use Rattle.pw_lower.specs.Codes.{Lowered, lowered_as, temp_of}
use Rattle.pw_lower.specs.Operators.{kind_of, bytes_of, unit_of}
use Rattle.pw_lower.specs.Places.{addressed_in}
use Rattle.pw_lower.specs.Expressions.{Placed, lower, write, copied, scalar_kind, address_of_local, address_of_global}
use Rattle.pw_lower.specs.Modules.{lowered_global}
use Rattle.pw_lower.specs.Statements.{local_type, initialised_by, copied_from}
use Rattle.pw_cmean.specs.Worlds as source
use Rattle.pw_cmean.specs.Acts.{State, Site, Outcome, Gives, give, stop, wrong, need, look, go_on, ◌>>=◌}
use Rattle.pw_cmean.specs.Acts as acts
use Rattle.pw_cmean.specs.Access.{Initialising, put, store, within}
use Rattle.pw_cmean.specs.Evaluation.{site, used, local_place, symbol_place, answer_of}
use Rattle.pw_cmean.specs.Execution.{value_of, set_local, initialise}
use Rattle.pw_cmean.specs.SourceRun.{calls}
use Rattle.pw_cmean.specs.Typed.{IsValueOf}
use Rattle.pw_run_languages.specs.Commands.{command}
use Rattle.pw_run_languages.specs.Memory as flow
use Rattle.pw_run_languages.specs.Programs.{globals_of, names_of, global_number}
use Rattle.pw_run_languages.specs.FlowRun as run
use Rattle.pw_run_languages.specs.FlowRun.{Machine, value_in}
use Rattle.pw_law_refine.specs.Standing.{Spot, Stands}
use Rattle.pw_law_refine.specs.Activations.{Activation, IsActivation, Numbers, number_of, graphs, graph_of, home_of, env_of, place_in, HaveSlots}
use Rattle.pw_law_refine.specs.Matching.{Related, Later, global_size}
use Rattle.pw_law_refine.specs.Containing.{ContainsCode}
use Rattle.pw_law_refine.specs.Meeting.{Meets}
use Rattle.pw_law_refine.specs.Expressions.{IsReady, HasValue, TargetStands, ExpressionKeeps}
use Rattle.pw_law_refine.specs.StatementParts.{HasInitialised, InitialiserKeeps}
use Rattle.pw_law_refine_forms.proofs.Laws.{Laws}
use Rattle.pw_law_refine_forms.proofs.Simulation.{meets-later, meets-then, meets-less}
use Rattle.pw_law_refine_forms.specs.Accesses.{SuitsType, Covers}
use Rattle.pw_law_refine_forms.proofs.Kit.{before-emit, before-fresh, comes-by, none-in, HasOperand, operand, operand-stands, stays}
use Rattle.pw_law_refine_forms.proofs.Bytes.{BytesStand, same-object, from-stand, whole-read}
use Rattle.pw_law_refine_forms.proofs.Memory.{bytes-of}
use Rattle.pw_law_refine_forms.proofs.States.{with_objects, related-written, lasts-written}
use Rattle.pw_law_refine_forms.proofs.Access.{global-at, writes}
use Rattle.pw_law_refine_forms.proofs.Assign.{scalar-of, puts-scalar, before-write}
use Rattle.pw_law_refine_forms.proofs.Copies.{puts-record}
use Rattle.pw_law_refine_forms.proofs.Loads.{local-suits, slot-reaches}
use Rattle.pw_law_refine_forms.proofs.Owning.{to-globals, no-global, distinct-right, one-global}
use Rattle.pw_law_refine_forms.proofs.Places.{kept-scalar}
use Rattle.pw_law_refine_forms.proofs.Strings.{numbered, address-reaches}
use Rattle.pw_law_refine_forms.proofs.Truths.{scalar-not-void}

-- ---- stretches

later-both :
    Laws → (x : Activation) (numbers : Numbers) (spots : List Spot) (s t u : State) (m n r : Machine) → Related x numbers spots s m
    → (a : Later x numbers spots s m t n) → Later x numbers a.spots t n u r → Later x numbers spots s m u r
later-both laws x numbers spots s t u m n r start a b = record {
  spots = b.spots;
  related = b.related;
  lasts = laws.lasts numbers spots a.spots b.spots s t u m n r start.matches.memory.count a.related.matches.memory.count a.lasts b.lasts;
}

-- ---- types

no-scalar : (ty : CType) → kind_of ty ≡ None → IsScalar ty → ⊥
no-scalar (Int kind) e h = cc
no-scalar (PointerTo q) e h = cc
no-scalar Void e h = h
no-scalar (Array q n) e h = h
no-scalar (Function q ps) e h = h
no-scalar (Record n) e h = h

has-scalar : (ty : CType) (kind : Kind) → kind_of ty ≡ Some kind → IsScalar ty
has-scalar (Int i) kind e = tt
has-scalar (PointerTo q) kind e = tt
has-scalar Void kind e = absurd (cc)
has-scalar (Array q n) kind e = absurd (cc)
has-scalar (Function q ps) kind e = absurd (cc)
has-scalar (Record n) kind e = absurd (cc)

-- what is no scalar has a slot
slot-of : (x : Activation) (k : ℕ) (l : LocalValue) → slice_get x.function.locals k ≡ Some l → (IsScalar (type_of l.ty) → ⊥) → (p : LocalPlace) → place_in x k ≡ p → (j : ℕ) × (place_in x k ≡ Slot j)
slot-of x k l is not (Temp t) e = absurd (not (kept-scalar x k t l is e))
slot-of x k l is not (Slot j) e = (j, e)

-- ---- the meaning

sets :
    (x : Activation) (numbers : Numbers) (at : Site) (k o : ℕ) (l : LocalValue) (v : Value) (s : State) → slice_get x.function.locals k ≡ Some l → number_of numbers k ≡ Some o
    → set_local at k v (env_of x numbers) s ≡ put Initialising at x.home.tree.records (type_of l.ty) (V.At (P.Object o 0)) v s
unfolding set_local local_place need give go_on ◌>>=◌
sets x numbers at k o l v s is named =
    let records = x.home.tree.records in
    ap (λ (a : Option LocalValue). (need a >>= λ (l : LocalValue). (local_place (env_of x numbers) k >>= λ (place : Value). put Initialising at records (type_of l.ty) place v)) s) is
    ∙ ap (λ (a : Option ℕ). (need (option_map (λ (number : ℕ). V.At (P.Object number 0)) a) >>= λ (place : Value). put Initialising at records (type_of l.ty) place v) s) named

-- a structure or union is put into its place; nothing else that is no scalar has a meaning
puts-other :
    Laws → (bound : ℕ) (x : Activation) (numbers : Numbers) (spots : List Spot) (at : Site) (ty : CType) (to : ℕ) (y : Lowered) (s : State) (m : Machine) (target origin : Value)
    → kind_of ty ≡ None → IsReady x numbers spots y.code s m → ContainsCode (graph_of x) (copied x.home.tree.records ty to y).code → Stands spots target (value_in m.frame to) → Stands spots origin (value_in m.frame (temp_of y))
    → Meets x.world bound m (put Initialising at x.home.tree.records ty target origin s) (λ done. HasValue x numbers spots [] (copied x.home.tree.records ty to y) y.code s m (Some target))
unfolding put wrong stop
puts-other laws bound x numbers spots at (Record number) to y s m target origin e ready holds st so =
    puts-record laws bound x numbers spots [] Initialising at number to y s m target origin ready holds st so
puts-other laws bound x numbers spots at (Int kind) to y s m target origin e ready holds st so = absurd (cc)
puts-other laws bound x numbers spots at (PointerTo q) to y s m target origin e ready holds st so = absurd (cc)
puts-other laws bound x numbers spots at Void to y s m target origin e ready holds st so = tt
puts-other laws bound x numbers spots at (Array q n) to y s m target origin e ready holds st so = tt
puts-other laws bound x numbers spots at (Function q ps) to y s m target origin e ready holds st so = tt

-- ---- by a value

module _ (laws : Laws) (bound k : ℕ) (a : Expression) (keeps : ExpressionKeeps bound a) (x : Activation) (numbers : Numbers) (active : IsActivation x)
    (typed : IsTyped x.home.tree x.function.locals a) (slots : HaveSlots x (addressed_in a)) (o : ℕ) (named : number_of numbers k ≡ Some o)
    (l : LocalValue) (is : slice_get x.function.locals k ≡ Some l) (same : type_in a ≡ type_of l.ty)
  where
    abbrev ty : CType
    ty = type_of l.ty

    abbrev at : Site
    at = site (env_of x numbers) (token_of a)

    abbrev code : LocalPlace → Code → Code
    code place c = initialised_by (home_of x) (kind_of ty) ty place a c

    abbrev Done : List Spot → Code → State → Machine → Unit {0} → State → Machine → Type 0
    Done spots d s m = HasInitialised x numbers spots d s m

    -- the value, and what comes behind it
    valued :
        (spots : List Spot) (c d : Code) (s : State) (m : Machine) → IsReady x numbers spots c s m → ContainsCode (graph_of x) (lower (home_of x) a c).code
        → ((v : Value) (u : State) (n : Machine) → HasOperand x numbers spots a c s m v u n → Meets x.world bound n (put Initialising at x.home.tree.records ty (V.At (P.Object o 0)) v u) (Done spots d s m))
        → Meets x.world bound m (initialise (ByValue k a) (calls x.world bound) (env_of x numbers) s) (Done spots d s m)
    unfolding initialise value_of ◌>>=◌
    valued spots c d s m ready holds behind =
        meets-then laws x.world bound m ((answer_of a (calls x.world bound) (env_of x numbers) >>= used at) s) (λ (v : Value). set_local at k v (env_of x numbers)) (HasOperand x numbers spots a c s m) (Done spots d s m)
        (operand laws bound x numbers spots a c s m at active typed ready.related.matches.bytes (keeps x numbers spots c s m active typed slots holds ready))
        (λ v u n q. subst (λ (r : Outcome (Unit {0})). Meets x.world bound n r (Done spots d s m)) (sym (sets x numbers at k o l v u is named)) (behind v u n q))

    -- a scalar is written to its target
    scalar-behind :
        (scalar : IsScalar ty) (spots : List Spot) (p : Placed) (s : State) (m : Machine) (v : Value) (u : State) (n : Machine)
        → IsReady x numbers spots p.code s m → ContainsCode (graph_of x) (write (scalar_kind ty) p.target (temp_of (lower (home_of x) a p.code)) (lower (home_of x) a p.code).code)
        → SuitsType x ty p.target → Covers x (k ∷ []) p.target → (q : HasOperand x numbers spots a p.code s m v u n) → TargetStands x numbers q.0.done.later.spots (V.At (P.Object o 0)) p.target n
        → Meets x.world bound n (put Initialising at x.home.tree.records ty (V.At (P.Object o 0)) v u) (Done spots (write (scalar_kind ty) p.target (temp_of (lower (home_of x) a p.code)) (lower (home_of x) a p.code).code) s m)
    scalar-behind scalar spots p s m v u n ready holds suits covers q stands =
        let y = lower (home_of x) a p.code in
        let d = write (scalar_kind ty) p.target (temp_of y) y.code in
        let new = laws.results x a p.code typed slots (scalar-not-void (type_in a) (subst IsScalar (sym same) scalar)) in
        let temp : temp_of y ≡ new.result = ap (λ (r : Option ℕ). unwrap_or r 0) new.is in
        let later = q.0.done.later in
        subst (λ (act : acts.Act (Unit {0})). Meets x.world bound n (act u) (Done spots d s m)) (sym (puts-scalar Initialising at x.home.tree.records ty (V.At (P.Object o 0)) v scalar))
        (meets-less x.world bound n (store Initialising at ty (V.At (P.Object o 0)) v u) (λ done. HasValue x numbers later.spots (k ∷ []) (lowered_as (Some (temp_of y)) d) y.code u n (Some v)) (Done spots d s m)
        (writes laws bound x numbers later.spots (k ∷ []) Initialising ty (scalar_kind ty) at p.target (temp_of y) y.code u n (V.At (P.Object o 0)) v (scalar-of ty scalar)
        (record { related = later.related; behind = q.0.behind; temps = omega (arith, ready.temps, (laws.later (home_of x) a p.code).temps) })
        holds suits covers (omega (arith, temp, new.since, ready.temps)) (subst (λ (T : CType). IsValueOf T v) same q.1) (operand-stands later.spots v y.temp n q.0.stands) stands)
        (λ done w r h. record { later = later-both laws x numbers spots s u w m n r ready.related later h.done.later; behind = h.behind }))

    -- behind the code of an address the value is made
    addressed :
        (j : ℕ) (spots : List Spot) (c d : Code) (s : State) (m : Machine) → place_in x k ≡ Slot j → IsReady x numbers spots c s m
        → ContainsCode (graph_of x) (lower (home_of x) a (address_of_local (Slot j) c).code).code
        → ((first : List Spot) (n : Machine) → IsReady x numbers first (address_of_local (Slot j) c).code s n → Stands first (V.At (P.Object o 0)) (value_in n.frame c.temps)
        → Meets x.world bound n (initialise (ByValue k a) (calls x.world bound) (env_of x numbers) s) (Done first d s n))
        → Meets x.world bound m (initialise (ByValue k a) (calls x.world bound) (env_of x numbers) s) (Done spots d s m)
    addressed j spots c d s m place ready holds behind =
        let b = laws.contain (graph_of x) (home_of x) a (address_of_local (Slot j) c).code holds in
        let r = slot-reaches laws bound x numbers spots c s m k o j ready b named place in
        let h = r.holds in
        meets-later laws x.world bound m r.machine r.count (initialise (ByValue k a) (calls x.world bound) (env_of x numbers) s) (Done spots d s m) r.comes
        (meets-less x.world bound r.machine (initialise (ByValue k a) (calls x.world bound) (env_of x numbers) s) (Done h.done.later.spots d s r.machine) (Done spots d s m)
        (behind h.done.later.spots r.machine (record { related = h.done.later.related; behind = h.behind; temps = omega (arith, ready.temps) }) h.stands)
        (λ done w z g. record { later = later-both laws x numbers spots s s w m r.machine z ready.related h.done.later g.later; behind = g.behind }))

    scalar-initialises :
        (scalar : IsScalar ty) (place : LocalPlace) (spots : List Spot) (c : Code) (s : State) (m : Machine) → place_in x k ≡ place → IsReady x numbers spots c s m
        → ContainsCode (graph_of x) (initialised_by (home_of x) (Some (scalar_kind ty)) ty place a c)
        → Meets x.world bound m (initialise (ByValue k a) (calls x.world bound) (env_of x numbers) s) (Done spots (initialised_by (home_of x) (Some (scalar_kind ty)) ty place a c) s m)
    scalar-initialises scalar (Temp t) spots c s m place ready holds =
        let y = lower (home_of x) a c in
        let d = write (scalar_kind ty) (Kept t) (temp_of y) y.code in
        valued spots c d s m ready (before-write (graph_of x) (scalar_kind ty) (Kept t) (temp_of y) y.code holds)
        (λ v u n q. scalar-behind scalar spots (record { code = c; target = Kept t }) s m v u n ready holds (local-suits x k t l ty is refl place) (k, (0, omega arith, refl), place) q (k, o, named, place, refl))
    scalar-initialises scalar (Slot j) spots c s m place ready holds =
        let address = address_of_local (Slot j) c in
        let y = lower (home_of x) a address.code in
        let d = write (scalar_kind ty) (Led c.temps) (temp_of y) y.code in
        let inside = before-write (graph_of x) (scalar_kind ty) (Led c.temps) (temp_of y) y.code holds in
        addressed j spots c d s m place ready inside (λ first n again stand.
        valued first address.code d s n again inside
        (λ v u r q. scalar-behind scalar first (record { code = address.code; target = Led c.temps }) s n v u r again holds tt tt q
        (let kept = stays laws x numbers first a address.code c.temps s u n r typed ready.temps (omega arith) q.0.done in
        subst (λ (w : Value). Stands q.0.done.later.spots (V.At (P.Object o 0)) w) (sym kept) (laws.stands first q.0.done.later.spots (V.At (P.Object o 0)) (value_in n.frame c.temps) q.0.done.later.lasts.more stand))))

    other-initialises :
        (none : kind_of ty ≡ None) (place : LocalPlace) (spots : List Spot) (c : Code) (s : State) (m : Machine) → place_in x k ≡ place → IsReady x numbers spots c s m
        → ContainsCode (graph_of x) (initialised_by (home_of x) None ty place a c)
        → Meets x.world bound m (initialise (ByValue k a) (calls x.world bound) (env_of x numbers) s) (Done spots (initialised_by (home_of x) None ty place a c) s m)
    other-initialises none (Temp t) spots c s m place ready holds = absurd (no-scalar ty none (kept-scalar x k t l is place))
    other-initialises none (Slot j) spots c s m place ready holds =
        let address = address_of_local (Slot j) c in
        let y = lower (home_of x) a address.code in
        let records = x.home.tree.records in
        let z = copied records ty c.temps y in
        let inside = before-emit (graph_of x) (op.Move c.temps (temp_of y) (bytes_of records ty) (unit_of records ty)) y.code holds in
        addressed j spots c z.code s m place ready inside (λ first n again stand.
        valued first address.code z.code s n again inside
        (λ v u r q.
        let later = q.0.done.later in
        let kept = stays laws x numbers first a address.code c.temps s u n r typed ready.temps (omega arith) q.0.done in
        meets-less x.world bound r (put Initialising at records ty (V.At (P.Object o 0)) v u) (λ done. HasValue x numbers later.spots [] z y.code u r (Some (V.At (P.Object o 0)))) (Done first z.code s n)
        (puts-other laws bound x numbers later.spots at ty c.temps y u r (V.At (P.Object o 0)) v none
        (record { related = later.related; behind = q.0.behind; temps = omega (arith, again.temps, (laws.later (home_of x) a address.code).temps) }) holds
        (subst (λ (w : Value). Stands later.spots (V.At (P.Object o 0)) w) (sym kept) (laws.stands first later.spots (V.At (P.Object o 0)) (value_in n.frame c.temps) later.lasts.more stand))
        (operand-stands later.spots v y.temp r q.0.stands))
        (λ done w g h. record { later = later-both laws x numbers first s u w n r g again.related later h.done.later; behind = h.behind })))

    by-kind :
        (kind : Option Kind) (place : LocalPlace) (spots : List Spot) (c : Code) (s : State) (m : Machine) → kind_of ty ≡ kind → place_in x k ≡ place → IsReady x numbers spots c s m
        → ContainsCode (graph_of x) (initialised_by (home_of x) kind ty place a c)
        → Meets x.world bound m (initialise (ByValue k a) (calls x.world bound) (env_of x numbers) s) (Done spots (initialised_by (home_of x) kind ty place a c) s m)
    by-kind None place spots c s m e there ready holds = other-initialises e place spots c s m there ready holds
    by-kind (Some kind) place spots c s m e there ready holds =
        let scalar = has-scalar ty kind e in
        let same-kind : kind ≡ scalar_kind ty = same_Some kind (scalar_kind ty) (sym e ∙ scalar-of ty scalar) in
        subst (λ (i : Kind). Meets x.world bound m (initialise (ByValue k a) (calls x.world bound) (env_of x numbers) s) (Done spots (initialised_by (home_of x) (Some i) ty place a c) s m)) (sym same-kind)
        (scalar-initialises scalar place spots c s m there ready (subst (λ (i : Kind). ContainsCode (graph_of x) (initialised_by (home_of x) (Some i) ty place a c)) same-kind holds))

local-type : (x : Activation) (k : ℕ) (l : LocalValue) → slice_get x.function.locals k ≡ Some l → local_type x.function.locals k ≡ type_of l.ty
local-type x k l is = ap (λ (o : Option LocalValue). unwrap_or (option_map (λ (a : LocalValue). type_of a.ty) o) Void) is

pub value-initialises : Laws → (bound k : ℕ) (a : Expression) → ExpressionKeeps bound a → InitialiserKeeps bound (ByValue k a)
value-initialises laws bound k a keeps x numbers spots first count c s m active typed suits slots begun holds ready =
    let own = begun k typed.0 typed.1 in
    let l = typed.3.0 in
    let is = typed.3.1 in
    let T-is = local-type x k l is in
    let code : CType → Code = λ (T : CType). initialised_by (home_of x) (kind_of T) T (place_in x k) a c in
    subst (λ (T : CType). Meets x.world bound m (initialise (ByValue k a) (calls x.world bound) (env_of x numbers) s) (HasInitialised x numbers spots (code T) s m)) (sym T-is)
    (by-kind laws bound k a keeps x numbers active typed.2 slots own.0 own.1 l is typed.3.2 (kind_of (type_of l.ty)) (place_in x k) spots c s m refl refl ready
    (subst (λ (T : CType). ContainsCode (graph_of x) (code T)) T-is holds))

-- ---- by the bytes of a hidden object

-- the object of a name has the size of the global of that name
size-at : (gs : List FlowGlobal) (n : ℕ) → slice_index_or (map (λ (g : FlowGlobal). g.size) gs) n 0 ≡ (get_or gs n no-global).size
size-at [] n = refl
size-at (g ∷ gs) zero = refl
size-at (g ∷ gs) (suc n) = size-at gs n

hidden-size :
    (x : Activation) (hidden n : ℕ) (g : GlobalValue) → IsActivation x → Contains x.home.tree.globals g → g.name ≡ Hidden hidden
    → global_number (graphs x.world) (full_name x.home.name (Hidden hidden)) ≡ Some n → global_size x.world n ≡ bytes_of x.home.tree.records (type_of g.ty)
hidden-size x hidden n g active there name number =
    let gs = globals_of (graphs x.world) in
    let full = full_name x.home.name (Hidden hidden) in
    let at = position-Some (λ (e : FlowGlobal). bytes_eq e.name full) gs n no-global number in
    let found = get_or gs n no-global in
    let own = lowered_global x.home.name x.home.tree.records g in
    let names = map (λ (e : FlowGlobal). e.name) gs in
    let same : found ≡ own = one-global gs found own (distinct-right (names_of (graphs x.world)) names active.world.program.accepted.program.names) (Contains-get_or gs n no-global at.0)
    (to-globals x.world.program.modules x.home g active.home there) ((bytes_eq-Decides found.name full).0 at.1 ∙ ap (λ (symbol : Symbol). full_name x.home.name symbol) (sym name)) in
    size-at gs n ∙ ap (λ (e : FlowGlobal). e.size) same

-- what the meaning of C does
copies-bytes :
    (x : Activation) (numbers : Numbers) (bound k hidden o n : ℕ) (parts : List Expression) (s : State) → number_of numbers k ≡ Some o → source.pointer_to x.world.program (full_name x.home.name (Hidden hidden)) 0 ≡ Some (P.Object n 0)
    → initialise (ByBytes k hidden parts) (calls x.world bound) (env_of x numbers) s ≡ Gives tt (record s { objects = written o 0 (object_at s.objects n).bytes s.objects })
unfolding initialise symbol_place local_place within need look acts.write give go_on ◌>>=◌
copies-bytes x numbers bound k hidden o n parts s named means =
    ap (λ (p : Option Pointer). (need (option_map V.At p) >>= λ (source : Value). (local_place (env_of x numbers) k >>= λ (place : Value).
    within source (λ (from i : ℕ). within place (λ (to j : ℕ). (look (λ (t : State). (object_at t.objects from).bytes) >>= λ (bytes : List Byte). acts.write to j bytes))))) s) means
    ∙ ap (λ (a : Option ℕ). (need (option_map (λ (number : ℕ). V.At (P.Object number 0)) a) >>= λ (place : Value).
    within place (λ (to j : ℕ). (look (λ (t : State). (object_at t.objects n).bytes) >>= λ (bytes : List Byte). acts.write to j bytes))) s) named

-- an access from the beginning of an object that has so many bytes
opens-first : (objects : List Object) (f size unit : ℕ) → (object_at objects f).live ≡ true → length (object_at objects f).bytes ≡ size → flow.is_open objects f 0 size unit ≡ true
opens-first objects f size unit live same =
    let whole : 0 + size ≤ length (object_at objects f).bytes = omega (arith, same) in
    let none : 0 % unit ≡ 0 = omega arith in
    and_from (object_at objects f).live (nat_le (0 + size) (length (object_at objects f).bytes) && (0 % unit == 0)) live
    (and_from (nat_le (0 + size) (length (object_at objects f).bytes)) (0 % unit == 0) (le-leb (0 + size) (length (object_at objects f).bytes) whole) (eq-eqb (0 % unit) 0 none))

module _ (laws : Laws) (bound k hidden : ℕ) (x : Activation) (numbers : Numbers) (active : IsActivation x) (o j : ℕ) (named : number_of numbers k ≡ Some o)
    (l : LocalValue) (is : slice_get x.function.locals k ≡ Some l) (g : GlobalValue) (there : Contains x.home.tree.globals g) (name : g.name ≡ Hidden hidden) (same : type_of g.ty ≡ type_of l.ty) (place : place_in x k ≡ Slot j)
  where
    abbrev records : List RecordValue
    records = x.home.tree.records

    abbrev size : ℕ
    size = bytes_of records (type_of l.ty)

    abbrev unit : ℕ
    unit = unit_of records (type_of l.ty)

    abbrev full : List ℕ
    full = full_name x.home.name (Hidden hidden)

    -- the bytes are moved
    moves :
        (spots : List Spot) (d : Code) (to from n : ℕ) (s : State) (m : Machine) → IsReady x numbers spots d s m → ContainsCode (graph_of x) (record d { ops = d.ops ++ op.Move to from size unit ∷ [] })
        → global_number (graphs x.world) full ≡ Some n → Stands spots (V.At (P.Object o 0)) (value_in m.frame to) → Stands spots (V.At (P.Object n 0)) (value_in m.frame from)
        → Meets x.world bound m (Gives tt (record s { objects = written o 0 (object_at s.objects n).bytes s.objects })) (HasInitialised x numbers spots (record d { ops = d.ops ++ op.Move to from size unit ∷ [] }) s m)
    unfolding command
    moves spots d to from n s m ready holds number st so =
        let memory = ready.related.matches.memory in
        let local = ready.related.frame.locals k o named in
        let own : local.local ≡ l = same_Some local.local l (sym local.is ∙ is) in
        let f = st.1.object in
        let target = memory.holds o f st.1.size local.live st.1.there in
        let q = global-at x numbers spots d s m full n ready number in
        let origin = memory.holds n n (global_size x.world n) q.live q.there in
        let h = so.1.object in
        let from-is : n ≡ h = same-object n (global_size x.world n) h so.1.size (sym q.there ∙ so.1.there) in
        let bytes-size : global_size x.world n ≡ size = hidden-size x hidden n g active there name number ∙ ap (λ (T : CType). bytes_of records T) same in
        let local-size : length (object_at s.objects o).bytes ≡ size = local.size ∙ ap (λ (a : LocalValue). bytes_of records (type_of a.ty)) own in
        let new = (object_at s.objects n).bytes in
        let now = bytes_from size 0 (object_at m.objects h).bytes in
        let nx = laws.next (graph_of x) d (op.Move to from size unit) m holds.filled ready.behind in
        let e = nx.behind 0 V.Undefined in
        let after : Machine = with_objects nx.rest (written f 0 now m.objects) m in
        let opens : (flow.is_open m.objects f 0 size unit && (flow.is_open m.objects h 0 size unit && (not (f == h) || flow.is_apart 0 0 size))) ≡ true =
        and_from (flow.is_open m.objects f 0 size unit) (flow.is_open m.objects h 0 size unit && (not (f == h) || flow.is_apart 0 0 size))
        (opens-first m.objects f size unit target.live (target.same_size ∙ sym target.own_size ∙ local-size))
        (and_from (flow.is_open m.objects h 0 size unit) (not (f == h) || flow.is_apart 0 0 size)
        (subst (λ (i : ℕ). flow.is_open m.objects i 0 size unit ≡ true) from-is (opens-first m.objects n size unit origin.live (origin.same_size ∙ bytes-size)))
        (or_right (not (f == h)) (flow.is_apart 0 0 size) refl)) in
        let stand : BytesStand spots new now =
        subst (λ (bytes : List Byte). BytesStand spots bytes now) (whole-read size new laws.back (origin.own_size ∙ bytes-size))
        (subst (λ (i : ℕ). BytesStand spots (bytes_from size 0 new) (bytes_from size 0 (object_at m.objects i).bytes)) from-is (from-stand spots size 0 new (object_at m.objects n).bytes origin.bytes)) in
        record {
          count = 1;
          machine = after;
          comes = comes-by laws x d (op.Move to from size unit) m after nx
              (ap (λ (objects : Option (List Object)). run.changes objects (record m { frame = record m.frame { ops = nx.rest } }))
              (ap (λ (u : Value). flow.copy u (value_in m.frame from) size unit m.objects) (st.2 ∙ ap V.At st.1.is) ∙ ap (λ (u : Value). flow.copy (V.At (P.Object f 0)) u size unit m.objects) (so.2 ∙ ap V.At so.1.is)
              ∙ ap (λ (t : Bool). if t then Some (written f 0 now m.objects) else None) opens));
          holds = record {
            later = record {
              spots = spots;
              related = related-written x numbers spots s m nx.rest o f st.1.size 0 new now ready.related local.live st.1.there stand (bytes-of s.objects n ready.related.matches.bytes.objects);
              lasts = lasts-written numbers spots s m nx.rest o f st.1.size 0 new now st.1.there;
            };
            behind = record { block = e.block; there = e.there; here = e.here; ops = e.ops; end = e.end };
          };
        }

    slot-initialises :
        (spots : List Spot) (c : Code) (parts : List Expression) (s : State) (m : Machine) → IsReady x numbers spots c s m → ContainsCode (graph_of x) (copied_from (home_of x) (type_of l.ty) (Slot j) hidden c)
        → Meets x.world bound m (initialise (ByBytes k hidden parts) (calls x.world bound) (env_of x numbers) s) (HasInitialised x numbers spots (copied_from (home_of x) (type_of l.ty) (Slot j) hidden c) s m)
    slot-initialises spots c parts s m ready holds =
        let a = address_of_local (Slot j) c in
        let b = address_of_global full a.code in
        let d = copied_from (home_of x) (type_of l.ty) (Slot j) hidden c in
        let in-b : ContainsCode (graph_of x) b.code = before-emit (graph_of x) (op.Move c.temps a.code.temps size unit) b.code holds in
        let in-a : ContainsCode (graph_of x) a.code = before-fresh (graph_of x) (λ t. op.AddrGlobal t full 0) a.code in-b in
        let n = numbered x full a.code active in-b in
        let r = slot-reaches laws bound x numbers spots c s m k o j ready in-a named place in
        let one = r.holds in
        let ready-a : IsReady x numbers one.done.later.spots a.code s r.machine = record { related = one.done.later.related; behind = one.behind; temps = omega (arith, ready.temps) } in
        let z = address-reaches laws bound x numbers one.done.later.spots a.code s r.machine full ready-a in-b n in
        let two = z.holds in
        let ready-b : IsReady x numbers two.done.later.spots b.code s z.machine = record { related = two.done.later.related; behind = two.behind; temps = omega (arith, ready.temps) } in
        let kept : value_in z.machine.frame c.temps ≡ value_in r.machine.frame c.temps = two.done.temps c.temps (omega arith) (λ i e. none-in i _ e) in
        let target : Stands two.done.later.spots (V.At (P.Object o 0)) (value_in z.machine.frame c.temps) =
        subst (λ (w : Value). Stands two.done.later.spots (V.At (P.Object o 0)) w) (sym kept)
        (laws.stands one.done.later.spots two.done.later.spots (V.At (P.Object o 0)) (value_in r.machine.frame c.temps) two.done.later.lasts.more one.stands) in
        let u : State = record s { objects = written o 0 (object_at s.objects n.number).bytes s.objects } in
        subst (λ (outcome : Outcome (Unit {0})). Meets x.world bound m outcome (HasInitialised x numbers spots d s m)) (sym (copies-bytes x numbers bound k hidden o n.number parts s named n.means))
        (meets-later laws x.world bound m r.machine r.count (Gives tt u) (HasInitialised x numbers spots d s m) r.comes
        (meets-later laws x.world bound r.machine z.machine z.count (Gives tt u) (HasInitialised x numbers spots d s m) z.comes
        (meets-less x.world bound z.machine (Gives tt u) (HasInitialised x numbers two.done.later.spots d s z.machine) (HasInitialised x numbers spots d s m)
        (moves two.done.later.spots b.code c.temps a.code.temps n.number s z.machine ready-b holds n.flows target two.stands)
        (λ done w v h. record {
          later = later-both laws x numbers spots s s w m r.machine v ready.related one.done.later
              (later-both laws x numbers one.done.later.spots s s w r.machine z.machine v one.done.later.related two.done.later h.later);
          behind = h.behind;
        }))))

pub bytes-initialise : Laws → (bound k hidden : ℕ) (parts : List Expression) → InitialiserKeeps bound (ByBytes k hidden parts)
bytes-initialise laws bound k hidden parts x numbers spots first count c s m active typed suits slots begun holds ready =
    let own = begun k typed.0 typed.1 in
    let l = typed.2.0 in
    let g = typed.2.1 in
    let is = typed.2.2 in
    let T-is = local-type x k l is in
    let place = slot-of x k l is (suits l is) (place_in x k) refl in
    let code : CType → LocalPlace → Code = λ (T : CType) (p : LocalPlace). copied_from (home_of x) T p hidden c in
    subst (λ (d : Code). Meets x.world bound m (initialise (ByBytes k hidden parts) (calls x.world bound) (env_of x numbers) s) (HasInitialised x numbers spots d s m))
    (sym (ap (λ (T : CType). code T (place_in x k)) T-is ∙ ap (λ (p : LocalPlace). code (type_of l.ty) p) place.1))
    (slot-initialises laws bound k hidden x numbers active own.0 place.0 own.1 l is g typed.2.3 typed.2.4 typed.2.5 place.1 spots c parts s m ready
    (subst (λ (d : Code). ContainsCode (graph_of x) d) (ap (λ (T : CType). code T (place_in x k)) T-is ∙ ap (λ (p : LocalPlace). code (type_of l.ty) p) place.1) holds))
