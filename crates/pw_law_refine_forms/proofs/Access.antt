-- What is read where a place is, and what is written there.
use Rattle.pw_flow.specs.ValidFlow.{kind_size}
use Rattle.std.proofs.Common.{◌≡◌, ℕ, ◌+◌, ◌%◌, ◌<◌, ◌≤◌, ◌==◌, ◌&&◌, nat_le, Bool, true, false, not, true≢false, if◌then◌else◌, Option, Some, None, List, [], ◌∷◌, length, refl, ap, sym, ◌∙◌, subst, arith}
use Rattle.std.proofs.lemmas.Bool.{and_from, not-false}
use Rattle.std.proofs.lemmas.List.{get_or-set_other, set-get_or}
use Rattle.std.proofs.lemmas.List.Quantifiers.{position-Some}
use Rattle.std.specs.Prelude.{bytes_eq}
use Rattle.pw_value.specs.declared.value.Kind.{Kind}
use Rattle.pw_value.specs.declared.value.Byte.{Byte}
use Rattle.pw_value.specs.declared.value.Value.{Value}
use Rattle.pw_value.specs.declared.value.Value.TheVariants as V
use Rattle.pw_value.specs.declared.value.Pointer.TheVariants as P
use Rattle.pw_value.specs.Values.{encoding}
use Rattle.pw_value.specs.Objects.{Object, object_at, bytes_from, with_bytes, written}
use Rattle.pw_types.specs.TypeTrees.{CType, Void, Int, Pointer as PointerTo, Array, Function, Record, type_of, RecordValue}
use Rattle.pw_flow.specs.declared.flow.FlowGlobal.{FlowGlobal}
use Rattle.pw_flow.specs.declared.flow.Op.TheVariants as op
use Rattle.pw_lower.specs.declared.code.Code.{Code}
use Rattle.pw_lower.specs.declared.place.LocalPlace.{LocalPlace}
use Rattle.pw_lower.specs.declared.place.LocalPlace.TheVariants.{Temp}
use Rattle.pw_lower.specs.declared.place.Target.TheVariants.{Kept, Named, Led}
use Rattle.pw_lower.specs.Codes.{lowered_as}
use Rattle.pw_lower.specs.Operators.{kind_of, bytes_of}
use Rattle.pw_lower.specs.Expressions.{read_target, write}
use Rattle.std.specs.List.{list_any}
use Rattle.pw_cmean.specs.declared.undefined.Undef.{Undef}
use Rattle.pw_cmean.specs.declared.undefined.Undef.TheVariants as U
use Rattle.pw_cmean.specs.Undefined.{Finding, ◌when◌, least}
use Rattle.pw_cmean.specs.Acts as source
use Rattle.pw_cmean.specs.Acts.{State, Site, give, stop, wrong, look, ◌>>=◌, go_on}
use Rattle.pw_cmean.specs.Access as source_access
use Rattle.pw_cmean.specs.Access.{Purpose, Assigning, Initialising, access, reading, writing, is_inside, is_within, bytes_at, is_undefined_byte, has_no_value, is_read_only, load, store, within, objects_now}
use Rattle.pw_cmean.specs.Typed.{IsValueOf}
use Rattle.pw_run_languages.specs.Commands.{command}
use Rattle.pw_run_languages.specs.Memory as flow
use Rattle.pw_run_languages.specs.Programs.{Program, globals_of, global_number}
use Rattle.pw_run_languages.specs.FlowRun as run
use Rattle.pw_run_languages.specs.FlowRun.{Machine, On, value_in, obeys, steps, is_own_kind}
use Rattle.pw_law_refine.specs.Standing.{Spot, In, spot_of, Stands, MemoryStands}
use Rattle.pw_law_refine.specs.Activations.{Activation, Numbers, graphs, graph_of, number_of, place_in, local_temps}
use Rattle.pw_law_refine.specs.Matching.{StandsAt, IsGlobalAt, global_size, Related}
use Rattle.pw_law_refine.specs.Containing.{ContainsCode}
use Rattle.pw_law_refine.specs.Meeting.{Meets}
use Rattle.pw_law_refine.specs.Expressions.{IsReady, HasValue}
use Rattle.pw_law_refine_steps.specs.Stretches.{moved_on}
use Rattle.pw_law_refine_forms.proofs.Bytes.{same-width, value-stands, bytes-stand, may-stand, reads-back, encoding-length, encoding-are, whole-read, whole-new, of-kind}
use Rattle.pw_law_refine_forms.proofs.Memory.{bytes-of}
use Rattle.pw_law_refine_forms.proofs.States.{with_objects, related-written, lasts-written, related-kept, lasts-kept}
use Rattle.pw_law_refine_forms.specs.Accesses.{SuitsType, Covers, ReadsKeep, WritesKeep, WritesThroughKeep, WritesStay}
use Rattle.pw_law_refine_forms.proofs.Laws.{Laws}
use Rattle.pw_law_refine_forms.proofs.Simulation.{judged}
use Rattle.pw_law_refine_forms.proofs.Kit.{comes-by}

-- ---- findings

is_one : Option Undef → Bool
is_one None = false
is_one (Some o) = true

-- where there is no finding, the first is none, and none is behind it
pub first-false : (o : Undef) (b : Bool) (rest : List Finding) → least (o when b ∷ rest) ≡ None → (b ≡ false) × (least rest ≡ None)
unfolding is_one
first-false o true rest e = absurd (true≢false (ap is_one e))
first-false o false rest e = (refl, e)

-- an access that has a meaning, to an object: it lives, and the access is inside, at a multiple of the alignment
pub record IsAllowed (objects : List Object) (width align o i : ℕ) : Type 0 where
  pub live : (object_at objects o).live ≡ true
  pub inside : nat_le (i + width) (length (object_at objects o).bytes) ≡ true
  pub aligned : (i % align == 0) ≡ true

pub access-allowed : (objects : List Object) (width align o i : ℕ) → least (access objects width align (V.At (P.Object o i))) ≡ None → IsAllowed objects width align o i
access-allowed objects width align o i e =
    let x = object_at objects o in
    let a = first-false U.OutsideObject (not (is_inside width i x.bytes)) (U.EndedObject when not x.live ∷ U.Alignment when not (i % align == 0) ∷ []) e in
    let b = first-false U.EndedObject (not x.live) (U.Alignment when not (i % align == 0) ∷ []) a.1 in
    let c = first-false U.Alignment (not (i % align == 0)) [] b.1 in
    record { live = not-false x.live b.0; inside = not-false (is_inside width i x.bytes) a.0; aligned = not-false (i % align == 0) c.0 }

reading-allowed : (objects : List Object) (ty : CType) (o i : ℕ) → least (reading objects ty (V.At (P.Object o i))) ≡ None
    → IsAllowed objects (source_access.width_of ty) (source_access.width_of ty) o i
reading-allowed objects ty o i e =
    let w = source_access.width_of ty in
    let p = V.At (P.Object o i) in
    let a = first-false U.UndefinedValue (is_within objects w p && list_any is_undefined_byte (bytes_at objects w p))
    (U.PointerBytes when (is_within objects w p && has_no_value (source_access.value_in ty (bytes_at objects w p))) ∷ access objects w w p) e in
    let b = first-false U.PointerBytes (is_within objects w p && has_no_value (source_access.value_in ty (bytes_at objects w p))) (access objects w w p) a.1 in
    access-allowed objects w w o i b.1

pub writing-allowed : (purpose : Purpose) (objects : List Object) (width align o i : ℕ) → least (writing purpose objects width align (V.At (P.Object o i))) ≡ None
    → IsAllowed objects width align o i
writing-allowed Assigning objects width align o i e =
    access-allowed objects width align o i (first-false U.ReadOnlyObject (is_read_only objects (V.At (P.Object o i))) (access objects width align (V.At (P.Object o i))) e).1
writing-allowed Initialising objects width align o i e = access-allowed objects width align o i e

-- what is allowed in an object is open in that in which it stands
pub is-open : (spots : List Spot) (objects kept : List Object) (width align o i f size : ℕ) → MemoryStands spots objects kept → IsAllowed objects width align o i
    → spot_of spots o ≡ In f size → flow.is_open kept f i width align ≡ true
is-open spots objects kept width align o i f size m a spot =
    let h = m.holds o f size a.live spot in
    let y = object_at kept f in
    and_from y.live (nat_le (i + width) (length y.bytes) && (i % align == 0)) h.live
    (and_from (nat_le (i + width) (length y.bytes)) (i % align == 0) (ap (λ (n : ℕ). nat_le (i + width) n) (h.same_size ∙ sym h.own_size) ∙ a.inside) a.aligned)

-- a scalar that is looked at in the object in which another stands
pub looks-in : (spots : List Spot) (objects kept : List Object) (ty : CType) (k : Kind) (o i f size : ℕ) → MemoryStands spots objects kept → kind_of ty ≡ Some k
    → IsAllowed objects (source_access.width_of ty) (source_access.width_of ty) o i → spot_of spots o ≡ In f size
    → flow.look_in k f i kept ≡ Some (flow.scalar_of k (bytes_from (kind_size k) i (object_at kept f).bytes))
looks-in spots objects kept ty k o i f size m e a spot =
    ap (λ (b : Bool). if b then Some (flow.scalar_of k (bytes_from (kind_size k) i (object_at kept f).bytes)) else None)
    (subst (λ (w : ℕ). flow.is_open kept f i w w ≡ true) (same-width ty k e) (is-open spots objects kept (source_access.width_of ty) (source_access.width_of ty) o i f size m a spot))

pub pokes-in : (spots : List Spot) (objects kept : List Object) (ty : CType) (k : Kind) (o i f size : ℕ) (v w : Value) → MemoryStands spots objects kept → kind_of ty ≡ Some k
    → IsAllowed objects (source_access.width_of ty) (source_access.width_of ty) o i → spot_of spots o ≡ In f size → IsValueOf ty v → Stands spots v w
    → flow.poke_in k f i w kept ≡ Some (written f i (encoding w (kind_size k)) kept)
pokes-in spots objects kept ty k o i f size v w m e a spot typed st =
    ap (λ (b : Bool). if b then Some (written f i (encoding w (kind_size k)) kept) else None)
    (and_from (flow.is_open kept f i (kind_size k) (kind_size k)) (flow.may_stand k w)
    (subst (λ (u : ℕ). flow.is_open kept f i u u ≡ true) (same-width ty k e) (is-open spots objects kept (source_access.width_of ty) (source_access.width_of ty) o i f size m a spot))
    (may-stand spots ty k v w e typed st))

-- ---- targets

has_kind : Option Kind → Bool
has_kind None = false
has_kind (Some k) = true

scalar-size : (records : List RecordValue) (ty : CType) (k : Kind) → kind_of ty ≡ Some k → bytes_of records ty ≡ source_access.width_of ty
unfolding has_kind
scalar-size records (Int kind) k e = refl
scalar-size records (PointerTo q) k e = refl
scalar-size records Void k e = absurd (true≢false (sym (ap has_kind e)))
scalar-size records (Array q n) k e = absurd (true≢false (sym (ap has_kind e)))
scalar-size records (Function r ps) k e = absurd (true≢false (sym (ap has_kind e)))
scalar-size records (Record n) k e = absurd (true≢false (sym (ap has_kind e)))

-- ---- reading

-- the scalar that a load reads stands for the one that the flow run looks at
look-stands : (x : Activation) (numbers : Numbers) (spots : List Spot) (d : Code) (s : State) (m : Machine) (ty : CType) (k : Kind) (o i f size : ℕ)
    → IsReady x numbers spots d s m → kind_of ty ≡ Some k → (object_at s.objects o).live ≡ true → spot_of spots o ≡ In f size
    → Stands spots (source_access.value_in ty (bytes_from (source_access.width_of ty) i (object_at s.objects o).bytes))
    (flow.scalar_of k (bytes_from (kind_size k) i (object_at m.objects f).bytes))
look-stands x numbers spots d s m ty k o i f size ready e live spot =
    value-stands spots ty k i (object_at s.objects o).bytes (object_at m.objects f).bytes e (bytes-of s.objects o ready.related.matches.bytes.objects)
    (ready.related.matches.memory.holds o f size live spot).bytes

pub led-reads :
    Laws → (bound : ℕ) (x : Activation) (numbers : Numbers) (spots : List Spot) (ty : CType) (k : Kind) (at : Site) (a : ℕ) (d : Code) (s : State) (m : Machine) (place : Value)
    → kind_of ty ≡ Some k → IsReady x numbers spots d s m → ContainsCode (graph_of x) (read_target k (Led a) d).code → Stands spots place (value_in m.frame a)
    → Meets x.world bound m (load at ty place s) (λ v t n. HasValue x numbers spots [] (read_target k (Led a) d) d s m (Some v) t n)
unfolding load objects_now look within give wrong stop command ◌>>=◌ go_on
led-reads laws bound x numbers spots ty k at a d s m (V.At (P.Object o i)) e ready holds st =
    judged x.world bound m at (reading s.objects ty (V.At (P.Object o i))) _ s _ ready.related.matches.shows (λ none.
    let allowed = reading-allowed s.objects ty o i none in
    let f = st.1.object in
    let w = flow.scalar_of k (bytes_from (kind_size k) i (object_at m.objects f).bytes) in
    laws.fresh x numbers spots [] d s m (λ t. op.Load k t a) (source_access.value_in ty (bytes_from (source_access.width_of ty) i (object_at s.objects o).bytes)) w holds ready
    (look-stands x numbers spots d s m ty k o i f st.1.size ready e allowed.live st.1.there)
    (λ rest. ap (λ (u : Option Value). run.gives d.temps u (record m { frame = record m.frame { ops = rest } }))
    (ap (λ (u : Value). flow.look k u m.objects) (st.2 ∙ ap V.At st.1.is) ∙ looks-in spots s.objects m.objects ty k o i f st.1.size ready.related.matches.memory e allowed st.1.there)))
led-reads laws bound x numbers spots ty k at a d s m (V.At (P.Function f)) e ready holds st = judged x.world bound m at (reading s.objects ty (V.At (P.Function f))) _ s _ ready.related.matches.shows (λ none. tt)
led-reads laws bound x numbers spots ty k at a d s m V.Undefined e ready holds st = judged x.world bound m at (reading s.objects ty V.Undefined) _ s _ ready.related.matches.shows (λ none. tt)
led-reads laws bound x numbers spots ty k at a d s m (V.Num n) e ready holds st = judged x.world bound m at (reading s.objects ty (V.Num n)) _ s _ ready.related.matches.shows (λ none. tt)
led-reads laws bound x numbers spots ty k at a d s m V.Null e ready holds st = judged x.world bound m at (reading s.objects ty V.Null) _ s _ ready.related.matches.shows (λ none. tt)
led-reads laws bound x numbers spots ty k at a d s m (V.Piece p i) e ready holds st = judged x.world bound m at (reading s.objects ty (V.Piece p i)) _ s _ ready.related.matches.shows (λ none. tt)

kept-reads :
    Laws → (bound : ℕ) (x : Activation) (numbers : Numbers) (spots : List Spot) (ty : CType) (k : Kind) (at : Site) (t j o : ℕ) (d : Code) (s : State) (m : Machine)
    → kind_of ty ≡ Some k → IsReady x numbers spots d s m → ContainsCode (graph_of x) (read_target k (Kept t) d).code → SuitsType x ty (Kept t)
    → number_of numbers j ≡ Some o → place_in x j ≡ Temp t
    → Meets x.world bound m (load at ty (V.At (P.Object o 0)) s) (λ v u n. HasValue x numbers spots [] (read_target k (Kept t) d) d s m (Some v) u n)
unfolding load objects_now look within give command ◌>>=◌ go_on
kept-reads laws bound x numbers spots ty k at t j o d s m e ready holds suits named place =
    judged x.world bound m at (reading s.objects ty (V.At (P.Object o 0))) _ s _ ready.related.matches.shows (λ none.
    let own = ready.related.frame.locals j o named in
    let bytes = (object_at s.objects o).bytes in
    let here : StandsAt x spots s m own.local o (Temp t) = subst (λ (p : LocalPlace). StandsAt x spots s m own.local o p) place own.stands in
    let is : type_of own.local.ty ≡ ty = suits j own.local own.is place in
    let size : length bytes ≡ source_access.width_of ty =
    own.size ∙ ap (λ (u : CType). bytes_of x.home.tree.records u) is ∙ scalar-size x.home.tree.records ty k e in
    laws.fresh x numbers spots [] d s m (λ r. op.Copy r t) (source_access.value_in ty (bytes_from (source_access.width_of ty) 0 bytes)) (value_in m.frame t) holds ready
    (subst (λ (l : List Byte). Stands spots (source_access.value_in ty l) (value_in m.frame t)) (sym (whole-read (source_access.width_of ty) bytes laws.back size))
    (subst (λ (u : CType). Stands spots (source_access.value_in u bytes) (value_in m.frame t)) is here.1))
    (λ rest. refl))

-- ---- globals

abbrev at-number : Kind → List Object → Option ℕ → Option Value
at-number k objects (Some o) = flow.look_in k o 0 objects
at-number k objects None = None

get-named : (p : Program) (g : List ℕ) (k : Kind) (objects : List Object) (o : ℕ) (w : Value) → is_own_kind p g k ≡ true → global_number p g ≡ Some o
    → flow.look_in k o 0 objects ≡ Some w → run.get_global p g k objects ≡ Some w
get-named p g k objects o w own number looks =
    ap (λ (b : Bool). if b then at-number k objects (global_number p g) else None) own ∙ ap (λ (n : Option ℕ). at-number k objects n) number ∙ looks

abbrev put-number : Kind → Value → List Object → Option ℕ → Option (List Object)
put-number k v objects (Some o) = flow.poke_in k o 0 v objects
put-number k v objects None = None

put-named : (p : Program) (g : List ℕ) (k : Kind) (v : Value) (objects : List Object) (o : ℕ) (after : List Object) → is_own_kind p g k ≡ true → flow.is_of_kind k v ≡ true
    → global_number p g ≡ Some o → flow.poke_in k o 0 v objects ≡ Some after → run.put_global p g k v objects ≡ Some after
put-named p g k v objects o after own kind number pokes =
    ap (λ (b : Bool). if b then put-number k v objects (global_number p g) else None) (and_from (is_own_kind p g k) (flow.is_of_kind k v) own kind)
    ∙ ap (λ (n : Option ℕ). put-number k v objects n) number ∙ pokes

-- what stands at no number
none-global : FlowGlobal
none-global = record { name = []; size = 0; shape = []; kind = None; volatile = false; items = [] }

-- a global is an object that lives, in its own
pub global-at : (x : Activation) (numbers : Numbers) (spots : List Spot) (d : Code) (s : State) (m : Machine) (g : List ℕ) (o : ℕ)
    → IsReady x numbers spots d s m → global_number (graphs x.world) g ≡ Some o → IsGlobalAt (global_size x.world o) spots s.objects o
global-at x numbers spots d s m g o ready number = ready.related.matches.globals o (position-Some (λ (e : FlowGlobal). bytes_eq e.name g) (globals_of (graphs x.world)) o none-global number).0

-- ---- writing

pub led-writes :
    Laws → (bound : ℕ) (x : Activation) (numbers : Numbers) (spots : List Spot) (assigned : List ℕ) (purpose : Purpose) (ty : CType) (k : Kind) (at : Site) (a t : ℕ) (d : Code) (s : State) (m : Machine) (place v : Value)
    → kind_of ty ≡ Some k → IsReady x numbers spots d s m → ContainsCode (graph_of x) (write k (Led a) t d)
    → IsValueOf ty v → Stands spots v (value_in m.frame t) → Stands spots place (value_in m.frame a)
    → Meets x.world bound m (store purpose at ty place v s) (λ u r n. HasValue x numbers spots assigned (lowered_as (Some t) (write k (Led a) t d)) d s m (Some v) r n)
unfolding store objects_now look within source.write give wrong stop command ◌>>=◌ go_on
led-writes laws bound x numbers spots assigned purpose ty k at a t d s m (V.At (P.Object o i)) v e ready holds typed sv st =
    judged x.world bound m at (writing purpose s.objects (source_access.width_of ty) (source_access.width_of ty) (V.At (P.Object o i))) _ s _ ready.related.matches.shows (λ none.
    let allowed = writing-allowed purpose s.objects (source_access.width_of ty) (source_access.width_of ty) o i none in
    let f = st.1.object in
    let size = st.1.size in
    let spot = st.1.there in
    let w = value_in m.frame t in
    let new = encoding v (source_access.width_of ty) in
    let now = encoding w (kind_size k) in
    let memory = ready.related.matches.memory in
    let nx = laws.next (graph_of x) d (op.Store k a t) m holds.filled ready.behind in
    let b = nx.behind 0 V.Undefined in
    let n : Machine = with_objects nx.rest (written f i now m.objects) m in
    record {
      count = 1;
      machine = n;
      comes = comes-by laws x d (op.Store k a t) m n nx
          (ap (λ (objects : Option (List Object)). run.changes objects (record m { frame = record m.frame { ops = nx.rest } }))
          (ap (λ (u : Value). flow.poke k u w m.objects) (st.2 ∙ ap V.At st.1.is) ∙ pokes-in spots s.objects m.objects ty k o i f size v w memory e allowed spot typed sv));
      holds = record {
        done = record {
          later = record {
            spots = spots;
            related = related-written x numbers spots s m nx.rest o f size i new now ready.related allowed.live spot (bytes-stand spots ty k v w e typed sv) (encoding-are v (source_access.width_of ty));
            lasts = lasts-written numbers spots s m nx.rest o f size i new now spot;
          };
          temps = λ j h not. refl;
        };
        behind = record { block = b.block; there = b.there; here = b.here; ops = b.ops; end = b.end };
        stands = sv;
      };
    })
led-writes laws bound x numbers spots assigned purpose ty k at a t d s m (V.At (P.Function f)) v e ready holds typed sv st =
    judged x.world bound m at (writing purpose s.objects (source_access.width_of ty) (source_access.width_of ty) (V.At (P.Function f))) _ s _ ready.related.matches.shows (λ none. tt)
led-writes laws bound x numbers spots assigned purpose ty k at a t d s m V.Undefined v e ready holds typed sv st =
    judged x.world bound m at (writing purpose s.objects (source_access.width_of ty) (source_access.width_of ty) V.Undefined) _ s _ ready.related.matches.shows (λ none. tt)
led-writes laws bound x numbers spots assigned purpose ty k at a t d s m (V.Num j) v e ready holds typed sv st =
    judged x.world bound m at (writing purpose s.objects (source_access.width_of ty) (source_access.width_of ty) (V.Num j)) _ s _ ready.related.matches.shows (λ none. tt)
led-writes laws bound x numbers spots assigned purpose ty k at a t d s m V.Null v e ready holds typed sv st =
    judged x.world bound m at (writing purpose s.objects (source_access.width_of ty) (source_access.width_of ty) V.Null) _ s _ ready.related.matches.shows (λ none. tt)
led-writes laws bound x numbers spots assigned purpose ty k at a t d s m (V.Piece p i) v e ready holds typed sv st =
    judged x.world bound m at (writing purpose s.objects (source_access.width_of ty) (source_access.width_of ty) (V.Piece p i)) _ s _ ready.related.matches.shows (λ none. tt)

kept-writes :
    Laws → (bound : ℕ) (x : Activation) (numbers : Numbers) (spots : List Spot) (assigned : List ℕ) (purpose : Purpose) (ty : CType) (k : Kind) (at : Site) (t r j o : ℕ) (d : Code) (s : State) (m : Machine) (v : Value)
    → kind_of ty ≡ Some k → IsReady x numbers spots d s m → ContainsCode (graph_of x) (write k (Kept t) r d) → SuitsType x ty (Kept t) → Covers x assigned (Kept t)
    → local_temps x ≤ r → IsValueOf ty v → Stands spots v (value_in m.frame r)
    → number_of numbers j ≡ Some o → place_in x j ≡ Temp t
    → Meets x.world bound m (store purpose at ty (V.At (P.Object o 0)) v s) (λ u q n. HasValue x numbers spots assigned (lowered_as (Some r) (write k (Kept t) r d)) d s m (Some v) q n)
unfolding store objects_now look within source.write give command ◌>>=◌ go_on
kept-writes laws bound x numbers spots assigned purpose ty k at t r j o d s m v e ready holds suits covers fresh typed sv named place =
    judged x.world bound m at (writing purpose s.objects (source_access.width_of ty) (source_access.width_of ty) (V.At (P.Object o 0))) _ s _ ready.related.matches.shows (λ none.
    let own = ready.related.frame.locals j o named in
    let bytes = (object_at s.objects o).bytes in
    let w = value_in m.frame r in
    let new = encoding v (source_access.width_of ty) in
    let nx = laws.next (graph_of x) d (op.Copy t r) m holds.filled ready.behind in
    let n : Machine = moved_on nx.rest t w m in
    let low : t < local_temps x = laws.below x j t own.local own.is place in
    let is : type_of own.local.ty ≡ ty = suits j own.local own.is place in
    let size : length bytes ≡ source_access.width_of ty =
    own.size ∙ ap (λ (u : CType). bytes_of x.home.tree.records u) is ∙ scalar-size x.home.tree.records ty k e in
    let back : source_access.value_in (type_of own.local.ty) (with_bytes new 0 bytes) ≡ v =
    ap (λ (l : List Byte). source_access.value_in (type_of own.local.ty) l) (whole-new new bytes laws.back (encoding-length ty k v e typed ∙ sym size))
    ∙ ap (λ (u : CType). source_access.value_in u new) is ∙ reads-back ty k v laws.back e typed in
    record {
      count = 1;
      machine = n;
      comes = comes-by laws x d (op.Copy t r) m n nx refl;
      holds = record {
        done = record {
          later = record {
            spots = spots;
            related = related-kept x numbers spots s m nx.rest j o t new w ready.related named place (omega (arith, low, ready.temps, holds.temps, ready.related.frame.temps)) (encoding-are v (source_access.width_of ty))
                (subst (λ (u : Value). Stands spots u w) (sym back) sv);
            lasts = lasts-kept numbers spots s m n j o new named refl;
          };
          temps = λ i h not. get_or-set_other m.frame.temps t i w V.Undefined (λ same. not covers.0 covers.1 (covers.2 ∙ ap Temp (sym same)));
        };
        behind = nx.behind t w;
        stands = subst (λ (u : Value). Stands spots v u) (sym (get_or-set_other m.frame.temps t r w V.Undefined (λ same. omega (arith, same, low, fresh)))) sv;
      };
    })

-- a local that is kept, where the value stands in its temporary already
pub kept-stays : Laws → WritesStay
unfolding store objects_now look within source.write give ◌>>=◌ go_on steps
kept-stays laws bound x numbers spots purpose ty k at t j o s m v e related suits named place room typed sv =
    judged x.world bound m at (writing purpose s.objects (source_access.width_of ty) (source_access.width_of ty) (V.At (P.Object o 0))) _ s _ related.matches.shows (λ none.
    let own = related.frame.locals j o named in
    let bytes = (object_at s.objects o).bytes in
    let w = value_in m.frame t in
    let new = encoding v (source_access.width_of ty) in
    let is : type_of own.local.ty ≡ ty = suits own.local own.is in
    let size : length bytes ≡ source_access.width_of ty =
    own.size ∙ ap (λ (u : CType). bytes_of x.home.tree.records u) is ∙ scalar-size x.home.tree.records ty k e in
    let back : source_access.value_in (type_of own.local.ty) (with_bytes new 0 bytes) ≡ v =
    ap (λ (l : List Byte). source_access.value_in (type_of own.local.ty) l) (whole-new new bytes laws.back (encoding-length ty k v e typed ∙ sym size))
    ∙ ap (λ (u : CType). source_access.value_in u new) is ∙ reads-back ty k v laws.back e typed in
    let same : moved_on m.frame.ops t w m ≡ m = ap (λ (temps : List Value). record m { frame = record m.frame { temps = temps } }) (set-get_or m.frame.temps t V.Undefined) in
    record {
      count = 0;
      machine = m;
      comes = refl;
      holds = record {
        later = record {
          spots = spots;
          related = subst (λ (n : Machine). Related x numbers spots (record s { objects = written o 0 new s.objects }) n) same
              (related-kept x numbers spots s m m.frame.ops j o t new w related named place (omega (arith, room, related.frame.temps)) (encoding-are v (source_access.width_of ty))
              (subst (λ (u : Value). Stands spots u w) (sym back) sv));
          lasts = lasts-kept numbers spots s m m j o new named refl;
        };
        same = refl;
      };
    })

named-reads :
    Laws → (bound : ℕ) (x : Activation) (numbers : Numbers) (spots : List Spot) (ty : CType) (k : Kind) (at : Site) (g : List ℕ) (o : ℕ) (d : Code) (s : State) (m : Machine)
    → kind_of ty ≡ Some k → IsReady x numbers spots d s m → ContainsCode (graph_of x) (read_target k (Named g) d).code → SuitsType x ty (Named g)
    → global_number (graphs x.world) g ≡ Some o
    → Meets x.world bound m (load at ty (V.At (P.Object o 0)) s) (λ v u n. HasValue x numbers spots [] (read_target k (Named g) d) d s m (Some v) u n)
unfolding load objects_now look within give command ◌>>=◌ go_on
named-reads laws bound x numbers spots ty k at g o d s m e ready holds suits number =
    judged x.world bound m at (reading s.objects ty (V.At (P.Object o 0))) _ s _ ready.related.matches.shows (λ none.
    let allowed = reading-allowed s.objects ty o 0 none in
    let q = global-at x numbers spots d s m g o ready number in
    let w = flow.scalar_of k (bytes_from (kind_size k) 0 (object_at m.objects o).bytes) in
    laws.fresh x numbers spots [] d s m (λ t. op.LoadG t g k) (source_access.value_in ty (bytes_from (source_access.width_of ty) 0 (object_at s.objects o).bytes)) w holds ready
    (look-stands x numbers spots d s m ty k o 0 o (global_size x.world o) ready e q.live q.there)
    (λ rest. ap (λ (u : Option Value). run.gives d.temps u (record m { frame = record m.frame { ops = rest } }))
    (get-named (graphs x.world) g k m.objects o w (suits k o e number) number (looks-in spots s.objects m.objects ty k o 0 o (global_size x.world o) ready.related.matches.memory e allowed q.there))))

named-writes :
    Laws → (bound : ℕ) (x : Activation) (numbers : Numbers) (spots : List Spot) (assigned : List ℕ) (purpose : Purpose) (ty : CType) (k : Kind) (at : Site) (g : List ℕ) (t o : ℕ) (d : Code) (s : State) (m : Machine) (v : Value)
    → kind_of ty ≡ Some k → IsReady x numbers spots d s m → ContainsCode (graph_of x) (write k (Named g) t d) → SuitsType x ty (Named g)
    → IsValueOf ty v → Stands spots v (value_in m.frame t) → global_number (graphs x.world) g ≡ Some o
    → Meets x.world bound m (store purpose at ty (V.At (P.Object o 0)) v s) (λ u r n. HasValue x numbers spots assigned (lowered_as (Some t) (write k (Named g) t d)) d s m (Some v) r n)
unfolding store objects_now look within source.write give command ◌>>=◌ go_on
named-writes laws bound x numbers spots assigned purpose ty k at g t o d s m v e ready holds suits typed sv number =
    judged x.world bound m at (writing purpose s.objects (source_access.width_of ty) (source_access.width_of ty) (V.At (P.Object o 0))) _ s _ ready.related.matches.shows (λ none.
    let allowed = writing-allowed purpose s.objects (source_access.width_of ty) (source_access.width_of ty) o 0 none in
    let q = global-at x numbers spots d s m g o ready number in
    let w = value_in m.frame t in
    let new = encoding v (source_access.width_of ty) in
    let now = encoding w (kind_size k) in
    let nx = laws.next (graph_of x) d (op.StoreG g t k) m holds.filled ready.behind in
    let b = nx.behind 0 V.Undefined in
    let n : Machine = with_objects nx.rest (written o 0 now m.objects) m in
    record {
      count = 1;
      machine = n;
      comes = comes-by laws x d (op.StoreG g t k) m n nx
          (ap (λ (objects : Option (List Object)). run.changes objects (record m { frame = record m.frame { ops = nx.rest } }))
          (put-named (graphs x.world) g k w m.objects o (written o 0 now m.objects) (suits k o e number) (of-kind spots ty k v w laws.back e typed sv) number
          (pokes-in spots s.objects m.objects ty k o 0 o (global_size x.world o) v w ready.related.matches.memory e allowed q.there typed sv)));
      holds = record {
        done = record {
          later = record {
            spots = spots;
            related = related-written x numbers spots s m nx.rest o o (global_size x.world o) 0 new now ready.related q.live q.there (bytes-stand spots ty k v w e typed sv) (encoding-are v (source_access.width_of ty));
            lasts = lasts-written numbers spots s m nx.rest o o (global_size x.world o) 0 new now q.there;
          };
          temps = λ j h not. refl;
        };
        behind = record { block = b.block; there = b.there; here = b.here; ops = b.ops; end = b.end };
        stands = sv;
      };
    })

-- ---- by the target

pub reads : Laws → ReadsKeep
reads laws bound x numbers spots ty k at (Led a) c s m place e ready holds suits there = led-reads laws bound x numbers spots ty k at a c s m place e ready holds there
reads laws bound x numbers spots ty k at (Kept t) c s m place e ready holds suits there =
    subst (λ (p : Value). Meets x.world bound m (load at ty p s) (λ v u n. HasValue x numbers spots [] (read_target k (Kept t) c) c s m (Some v) u n)) (sym there.4)
    (kept-reads laws bound x numbers spots ty k at t there.0 there.1 c s m e ready holds suits there.2 there.3)
reads laws bound x numbers spots ty k at (Named g) c s m place e ready holds suits there =
    subst (λ (p : Value). Meets x.world bound m (load at ty p s) (λ v u n. HasValue x numbers spots [] (read_target k (Named g) c) c s m (Some v) u n)) (sym there.2)
    (named-reads laws bound x numbers spots ty k at g there.0 c s m e ready holds suits there.1)

pub writes : Laws → WritesKeep
writes laws bound x numbers spots assigned purpose ty k at (Led a) t c s m place v e ready holds suits covers fresh typed sv there =
    led-writes laws bound x numbers spots assigned purpose ty k at a t c s m place v e ready holds typed sv there
writes laws bound x numbers spots assigned purpose ty k at (Kept i) t c s m place v e ready holds suits covers fresh typed sv there =
    subst (λ (p : Value). Meets x.world bound m (store purpose at ty p v s) (λ u r n. HasValue x numbers spots assigned (lowered_as (Some t) (write k (Kept i) t c)) c s m (Some v) r n)) (sym there.4)
    (kept-writes laws bound x numbers spots assigned purpose ty k at i t there.0 there.1 c s m v e ready holds suits covers fresh typed sv there.2 there.3)
writes laws bound x numbers spots assigned purpose ty k at (Named g) t c s m place v e ready holds suits covers fresh typed sv there =
    subst (λ (p : Value). Meets x.world bound m (store purpose at ty p v s) (λ u r n. HasValue x numbers spots assigned (lowered_as (Some t) (write k (Named g) t c)) c s m (Some v) r n)) (sym there.2)
    (named-writes laws bound x numbers spots assigned purpose ty k at g t there.0 c s m v e ready holds suits typed sv there.1)

-- ---- from any temporary

pub writes-through : Laws → WritesThroughKeep
writes-through laws bound x numbers spots assigned purpose ty k at a t c s m place v e ready holds typed sv there =
    led-writes laws bound x numbers spots assigned purpose ty k at a t c s m place v e ready holds typed sv there
