-- A local begins: it gets an object of its own, without values, which stands in its slot; or nowhere, where the local is kept
-- in a temporary. The machine does nothing for it.
use Rattle.std.proofs.Common.{◌≡◌, ◌≢◌, ◌⊎◌, ℕ, zero, suc, ◌+◌, ◌^◌, ◌<◌, ◌≤◌, Bool, true, false, true≢false, Option, Some, None, option_map, unwrap_or, List, [], ◌∷◌, ◌++◌, length, replicate, slice_get, slice_set, All, inl, inr, refl, ap, sym, ◌∙◌, subst, arith, length-append, length-set}
use Rattle.std.proofs.lemmas.Bool.{cases_lt, cases_eq, cases_order}
use Rattle.std.proofs.lemmas.Option.{same_Some, slice_get_within, get_or_from_slice_get}
use Rattle.std.proofs.lemmas.List.{get_or_append_left, get_or-append-add, get_or_past, length-replicate}
use Rattle.std.proofs.lemmas.List.Elements.{All-push, All-replicate}
use Rattle.pw_value.specs.declared.value.Value.{Value}
use Rattle.pw_value.specs.declared.value.Value.TheVariants as V
use Rattle.pw_value.specs.declared.value.Byte.{Byte}
use Rattle.pw_value.specs.declared.value.Byte.TheVariants as B
use Rattle.pw_value.specs.declared.value.Pointer.{Pointer}
use Rattle.pw_value.specs.declared.value.Pointer.TheVariants as P
use Rattle.pw_value.specs.Values.{pointer_in}
use Rattle.pw_value.specs.Objects.{Object, no_object, object_at, byte_at}
use Rattle.pw_types.specs.declared.kind.IntKind.{IntKind}
use Rattle.pw_types.specs.declared.kind.IntKind.TheVariants as K
use Rattle.pw_types.specs.declared.record.Layout.{Layout}
use Rattle.pw_types.specs.Conversions.{size_of_kind}
use Rattle.pw_types.specs.Layouts.{layout_of, scalar_layout}
use Rattle.pw_types.specs.TypeTrees.{CType, Void, Int, Pointer as To, Array, Function, Record, RecordValue, type_of}
use Rattle.pw_types.specs.TypedTrees.{LocalValue, FunctionValue}
use Rattle.pw_lower.specs.declared.place.LocalPlace.{LocalPlace}
use Rattle.pw_lower.specs.declared.place.LocalPlace.TheVariants.{Temp, Slot}
use Rattle.pw_lower.specs.Operators.{bytes_of}
use Rattle.pw_lower.specs.Places.{places_of, place_at}
use Rattle.pw_lower.specs.Modules.{lowered_function}
use Rattle.pw_cmean.specs.Acts.{State}
use Rattle.pw_cmean.specs.Access as source
use Rattle.pw_cmean.specs.Typed.{IsByte}
use Rattle.pw_run_languages.specs.FlowRun.{Machine, value_in}
use Rattle.pw_law_refine.specs.Standing.{Spot, Nowhere, In, spot_of, Leads, Stands, ByteStands, Holds, MemoryStands}
use Rattle.pw_law_refine.specs.Activations.{Activation, Numbers, number_of, graph_of, place_in}
use Rattle.pw_law_refine.specs.Matching.{AreSmall, Matches, StandsAt, IsLocalAt, Related}
use Rattle.pw_law_refine_steps.specs.Stretches.{StandsLater}
use Rattle.pw_law_refine_code.specs.Slots.{IsSlotOf}

-- ---- spots

is_in : Spot → Bool
is_in Nowhere = false
is_in (In f size) = true

object_in : Spot → ℕ
object_in Nowhere = 0
object_in (In f size) = f

size_in : Spot → ℕ
size_in Nowhere = 0
size_in (In f size) = size

pub nowhere-in : (f size : ℕ) → Nowhere ≡ In f size → ⊥
unfolding is_in
nowhere-in f size e = true≢false (sym (ap is_in e))

same-object : (f g a b : ℕ) → In f a ≡ In g b → f ≡ g
unfolding object_in
same-object f g a b e = ap object_in e

same-size : (f g a b : ℕ) → In f a ≡ In g b → a ≡ b
unfolding size_in
same-size f g a b e = ap size_in e

-- what has a spot in an object is there
pub in-there : (spots : List Spot) (o f size : ℕ) → spot_of spots o ≡ In f size → o < length spots
in-there spots o f size e = elim (cases_lt o (length spots)) [
  | inl less ↦ less
  | inr more ↦ absurd (nowhere-in f size (sym (get_or_past spots o Nowhere more) ∙ e))
]

leads-on : (spots : List Spot) (spot : Spot) (p q : Pointer) → Leads spots p q → Leads (spots ++ spot ∷ []) p q
leads-on spots spot (P.Object o i) q l = record {
  object = l.object;
  size = l.size;
  there = get_or_append_left spots (spot ∷ []) Nowhere o (in-there spots o l.object l.size l.there) ∙ l.there;
  inside = l.inside;
  is = l.is;
}
leads-on spots spot (P.Function f) q l = l

byte-on : (spots : List Spot) (spot : Spot) (a b : Byte) → ByteStands spots a b → ByteStands (spots ++ spot ∷ []) a b
byte-on spots spot B.Undefined b h = tt
byte-on spots spot (B.Num n) b h = h
byte-on spots spot (B.Piece p i) b h = (h.0, leads-on spots spot p h.0 h.1, h.2)

-- ---- bytes without a value

undefined-at : (size i : ℕ) → byte_at (replicate size B.Undefined) i ≡ B.Undefined
undefined-at zero i = refl
undefined-at (suc size) zero = refl
undefined-at (suc size) (suc i) = undefined-at size i

no-number : (kind : IntKind) → source.value_in (Int kind) (replicate (size_of_kind kind) B.Undefined) ≡ V.Undefined
no-number K.Char = refl
no-number K.SChar = refl
no-number K.UChar = refl
no-number K.Short = refl
no-number K.UShort = refl
no-number K.Int = refl
no-number K.UInt = refl
no-number K.Long = refl
no-number K.ULong = refl

no-pointer : (size : ℕ) → pointer_in (replicate size B.Undefined) ≡ V.Undefined
no-pointer zero = refl
no-pointer (suc size) = refl

no-value : (records : List RecordValue) (ty : CType) (layout : Layout) → layout_of records ty ≡ Some layout → source.value_in ty (replicate layout.size B.Undefined) ≡ V.Undefined
no-value records (Int kind) layout e =
    subst (λ (a : Layout). source.value_in (Int kind) (replicate a.size B.Undefined) ≡ V.Undefined) (same_Some (scalar_layout (size_of_kind kind)) layout e) (no-number kind)
no-value records Void layout e = no-pointer layout.size
no-value records (To target) layout e = no-pointer layout.size
no-value records (Array element count) layout e = no-pointer layout.size
no-value records (Function result params) layout e = no-pointer layout.size
no-value records (Record number) layout e = no-pointer layout.size

-- ---- numbers of locals

pub put-number : (numbers : Numbers) (k o : ℕ) → k < length numbers → number_of (slice_set numbers k (Some o)) k ≡ Some o
put-number [] k o less = absurd (omega (arith, less))
put-number (n ∷ numbers) zero o less = refl
put-number (n ∷ numbers) (suc k) o less = put-number numbers k o (omega (arith, less))

pub other-number : (numbers : Numbers) (k j : ℕ) (v : Option ℕ) → j ≢ k → number_of (slice_set numbers k v) j ≡ number_of numbers j
other-number [] k j v ne = refl
other-number (n ∷ numbers) zero zero v ne = absurd (ne refl)
other-number (n ∷ numbers) zero (suc j) v ne = refl
other-number (n ∷ numbers) (suc k) zero v ne = refl
other-number (n ∷ numbers) (suc k) (suc j) v ne = other-number numbers k j v (λ e. ne (ap (λ (i : ℕ). suc i) e))

pub no-number-there : (o : Option ℕ) (p : ℕ) → o ≡ None → o ≡ Some p → ⊥
no-number-there o p e f = absurd (cc)

-- ---- objects with one more

pub is-there : (objects : List Object) (o : ℕ) → (object_at objects o).live ≡ true → o < length objects
is-there objects o live = elim (cases_lt o (length objects)) [
  | inl less ↦ less
  | inr more ↦ absurd (true≢false (sym live ∙ ap (λ (x : Object). x.live) (get_or_past objects o no_object more)))
]

pub object-old : (objects : List Object) (new : Object) (p : ℕ) → p < length objects → object_at (objects ++ new ∷ []) p ≡ object_at objects p
object-old objects new p less = get_or_append_left objects (new ∷ []) no_object p less

pub object-new : (objects : List Object) (new : Object) → object_at (objects ++ new ∷ []) (length objects) ≡ new
object-new objects new =
    let e : length objects ≡ length objects + 0 = omega arith in
    ap (λ (k : ℕ). object_at (objects ++ new ∷ []) k) e ∙ get_or-append-add objects (new ∷ []) 0 no_object

-- what lives is one of the old, or the new one
pub old-or-new : (objects : List Object) (new : Object) (p : ℕ) → (object_at (objects ++ new ∷ []) p).live ≡ true → (p < length objects) ⊎ (p ≡ length objects)
old-or-new objects new p live = elim (cases_order p (length objects)) [
  | inl same ↦ inr same
  | inr rest ↦ elim rest [
    | inl less ↦ inl less
    | inr more ↦
        let past : length (objects ++ new ∷ []) ≤ p = omega (arith, more, length-append objects (new ∷ [])) in
        absurd (true≢false (sym live ∙ ap (λ (x : Object). x.live) (get_or_past (objects ++ new ∷ []) p no_object past)))
  ]
]

-- ---- the local

-- the object of a local at its beginning, and where it stands
abbrev pub undefined_object : ℕ → Bool → Object
undefined_object size writable = record { bytes = replicate size B.Undefined; live = true; writable = writable }

abbrev pub spot_for : Activation → LocalPlace → ℕ → Spot
spot_for x (Temp t) size = Nowhere
spot_for x (Slot n) size = In (x.base + n) size

-- what the code of functions says of slots
pub record SlotLaws : Type 0 where
  pub sizes : (records : List RecordValue) (f : FunctionValue) (k n : ℕ) → place_at (places_of f) k ≡ Slot n → IsSlotOf records f k n
  pub alone : (f : FunctionValue) (j k n : ℕ) → place_at (places_of f) j ≡ Slot n → place_at (places_of f) k ≡ Slot n → j ≡ k
  pub stands : StandsLater

graph-slots : (x : Activation) (k n : ℕ) (l : LocalValue) (layout : Layout) → SlotLaws → slice_get x.function.locals k ≡ Some l → layout_of x.home.tree.records (type_of l.ty) ≡ Some layout
    → place_in x k ≡ Slot n → slice_get (graph_of x).slots n ≡ Some layout.size
unfolding lowered_function
graph-slots x k n l layout laws is laid place =
    let q = laws.sizes x.home.tree.records x.function k n place in
    let same : q.local ≡ l = same_Some q.local l (sym q.is ∙ is) in
    q.size ∙ ap (λ (a : LocalValue). Some (bytes_of x.home.tree.records (type_of a.ty))) same
    ∙ ap (λ (o : Option Layout). Some (unwrap_or (option_map (λ (a : Layout). a.size) o) 0)) laid

module _
    (laws : SlotLaws) (x : Activation) (numbers : Numbers) (spots : List Spot) (s : State) (m : Machine) (r : Related x numbers spots s m)
    (k : ℕ) (l : LocalValue) (layout : Layout) (free : number_of numbers k ≡ None) (is : slice_get x.function.locals k ≡ Some l)
    (laid : layout_of x.home.tree.records (type_of l.ty) ≡ Some layout) (small : layout.size < 2 ^ 31)
  where
    abbrev o : ℕ
    o = length s.objects

    abbrev new : Object
    new = undefined_object layout.size l.writable

    abbrev spot : Spot
    spot = spot_for x (place_in x k) layout.size

    abbrev more : List Spot
    more = spots ++ spot ∷ []

    abbrev inner : Numbers
    inner = slice_set numbers k (Some o)

    abbrev t : State
    t = record s { objects = s.objects ++ new ∷ [] }

    within : k < length numbers
    within = let in-locals = slice_get_within x.function.locals k l is in omega (arith, in-locals, r.frame.scope)

    spot-old : (p : ℕ) → p < o → spot_of more p ≡ spot_of spots p
    spot-old p less = get_or_append_left spots (spot ∷ []) Nowhere p (omega (arith, less, r.matches.memory.count))

    spot-new : spot_of more o ≡ spot
    spot-new =
        let e : o ≡ length spots + 0 = omega (arith, r.matches.memory.count) in
        ap (λ (i : ℕ). spot_of more i) e ∙ get_or-append-add spots (spot ∷ []) 0 Nowhere

    -- ---- memory

    -- no object that lives stands in the slot of the local
    slot-is-free : (n p size : ℕ) → place_in x k ≡ Slot n → (object_at s.objects p).live ≡ true → spot_of spots p ≡ In (x.base + n) size → ⊥
    slot-is-free n p size place live there =
        let few = slice_get_within (graph_of x).slots n layout.size (graph-slots x k n l layout laws is laid place) in
        let own = r.frame.owned p n size live there few in
        let same : own.0 ≡ k = laws.alone x.function own.0 k n own.2 place in
        no-number-there (number_of numbers k) p free (ap (λ (j : ℕ). number_of numbers j) (sym same) ∙ own.1)

    new-apart : (place : LocalPlace) (p f a b : ℕ) → place_in x k ≡ place → spot_for x place layout.size ≡ In f a → (object_at s.objects p).live ≡ true → spot_of spots p ≡ In f b → ⊥
    new-apart (Temp i) p f a b is-place here live there = nowhere-in f a here
    new-apart (Slot n) p f a b is-place here live there =
        let same : x.base + n ≡ f = same-object (x.base + n) f layout.size a here in
        slot-is-free n p b is-place live (there ∙ ap (λ (g : ℕ). In g b) (sym same))

    new-holds : (place : LocalPlace) (f size : ℕ) → place_in x k ≡ place → spot_for x place layout.size ≡ In f size → Holds more size new (object_at m.objects f)
    new-holds (Temp i) f size is-place here = absurd (nowhere-in f size here)
    new-holds (Slot n) f size is-place here =
        let there = graph-slots x k n l layout laws is laid is-place in
        let slot = r.frame.slots n (slice_get_within (graph_of x).slots n layout.size there) in
        let same : x.base + n ≡ f = same-object (x.base + n) f layout.size size here in
        let fits : layout.size ≡ size = same-size (x.base + n) f layout.size size here in
        record {
          live = ap (λ (g : ℕ). (object_at m.objects g).live) (sym same) ∙ slot.live;
          own_size = length-replicate layout.size B.Undefined ∙ fits;
          same_size = ap (λ (g : ℕ). length (object_at m.objects g).bytes) (sym same) ∙ slot.size
              ∙ get_or_from_slice_get (graph_of x).slots n layout.size 0 there ∙ fits;
          bytes = λ i. subst (λ (b : Byte). ByteStands more b (byte_at (object_at m.objects f).bytes i)) (sym (undefined-at layout.size i)) tt;
        }

    old-holds : (p f size : ℕ) → p < o → (object_at s.objects p).live ≡ true → spot_of spots p ≡ In f size → Holds more size (object_at t.objects p) (object_at m.objects f)
    old-holds p f size less live there =
        let h = r.matches.memory.holds p f size live there in
        subst (λ (y : Object). Holds more size y (object_at m.objects f)) (sym (object-old s.objects new p less)) (record {
          live = h.live;
          own_size = h.own_size;
          same_size = h.same_size;
          bytes = λ i. byte-on spots spot (byte_at (object_at s.objects p).bytes i) (byte_at (object_at m.objects f).bytes i) (h.bytes i);
        })

    live-old : (p : ℕ) → p < o → (object_at t.objects p).live ≡ (object_at s.objects p).live
    live-old p less = ap (λ (y : Object). y.live) (object-old s.objects new p less)

    memory : MemoryStands more t.objects m.objects
    memory = record {
      count = let count = r.matches.memory.count in
          let a = length-append spots (spot ∷ []) in let b = length-append s.objects (new ∷ []) in omega (arith, a, b, count);
      holds = λ p f size live there. elim (old-or-new s.objects new p live) [
        | inl less ↦ old-holds p f size less (sym (live-old p less) ∙ live) (sym (spot-old p less) ∙ there)
        | inr same ↦
            subst (λ (y : Object). Holds more size y (object_at m.objects f)) (sym (ap (λ (i : ℕ). object_at t.objects i) same ∙ object-new s.objects new))
            (new-holds (place_in x k) f size refl (sym spot-new ∙ ap (λ (i : ℕ). spot_of more i) (sym same) ∙ there))
      ];
      apart = λ p q f a b lp lq sp sq. elim (old-or-new s.objects new p lp) [
        | inl less ↦ elim (old-or-new s.objects new q lq) [
          | inl few ↦ r.matches.memory.apart p q f a b (sym (live-old p less) ∙ lp) (sym (live-old q few) ∙ lq) (sym (spot-old p less) ∙ sp) (sym (spot-old q few) ∙ sq)
          | inr same ↦ absurd (new-apart (place_in x k) p f b a refl (sym spot-new ∙ ap (λ (i : ℕ). spot_of more i) (sym same) ∙ sq) (sym (live-old p less) ∙ lp) (sym (spot-old p less) ∙ sp))
        ]
        | inr same ↦ elim (old-or-new s.objects new q lq) [
          | inl few ↦ absurd (new-apart (place_in x k) q f a b refl (sym spot-new ∙ ap (λ (i : ℕ). spot_of more i) (sym same) ∙ sp) (sym (live-old q few) ∙ lq) (sym (spot-old q few) ∙ sq))
          | inr too ↦ same ∙ sym too
        ]
      ];
    }

    are-small : AreSmall t.objects
    are-small p = elim (cases_order p o) [
      | inl same ↦
          let e : length (object_at t.objects p).bytes ≡ layout.size =
          ap (λ (i : ℕ). length (object_at t.objects i).bytes) same ∙ ap (λ (y : Object). length y.bytes) (object-new s.objects new) ∙ length-replicate layout.size B.Undefined in
          omega (arith, e, small)
      | inr rest ↦ elim rest [
        | inl less ↦ subst (λ (y : Object). length y.bytes < 2 ^ 31) (sym (object-old s.objects new p less)) (r.matches.small p)
        | inr past ↦
            let e : object_at t.objects p ≡ no_object = get_or_past t.objects p no_object (let a = length-append s.objects (new ∷ []) in omega (arith, past, a)) in
            subst (λ (y : Object). length y.bytes < 2 ^ 31) (sym e) (omega arith)
      ]
    ]

    matches : Matches x.world more t m
    matches = record {
      memory = memory;
      globals = λ g h.
          let q = r.matches.globals g h in
          let less = is-there s.objects g q.live in
          record { there = spot-old g less ∙ q.there; live = live-old g less ∙ q.live };
      input = r.matches.input;
      shows = record { output = r.matches.shows.output; read = r.matches.shows.read; log = r.matches.shows.log };
      active = r.matches.active;
      bytes = record {
        objects = All-push (λ (y : Object). All IsByte y.bytes) s.objects new r.matches.bytes.objects (All-replicate IsByte layout.size B.Undefined tt);
        input = r.matches.bytes.input;
      };
      small = are-small;
    }

    -- ---- the frame

    stands-new : (place : LocalPlace) → spot_of more o ≡ spot_for x place layout.size → StandsAt x more t m l o place
    stands-new (Temp i) there = (
      there,
      subst (λ (v : Value). Stands more v (value_in m.frame i))
          (sym (ap (λ (y : Object). source.value_in (type_of l.ty) y.bytes) (object-new s.objects new) ∙ no-value x.home.tree.records (type_of l.ty) layout laid)) tt,
    )
    stands-new (Slot n) there = (layout.size, there)

    stands-old : (a : LocalValue) (p : ℕ) (place : LocalPlace) → p < o → StandsAt x spots s m a p place → StandsAt x more t m a p place
    stands-old a p (Temp i) less st = (
      spot-old p less ∙ st.0,
      subst (λ (y : Object). Stands more (source.value_in (type_of a.ty) y.bytes) (value_in m.frame i)) (sym (object-old s.objects new p less))
          (laws.stands spots more (source.value_in (type_of a.ty) (object_at s.objects p).bytes) (value_in m.frame i) (spot ∷ [], refl) st.1),
    )
    stands-old a p (Slot n) less st = (st.0, spot-old p less ∙ st.1)

    local-new : IsLocalAt x more t m k o
    local-new = record {
      local = l;
      is = is;
      live = ap (λ (y : Object). y.live) (object-new s.objects new);
      size = ap (λ (y : Object). length y.bytes) (object-new s.objects new) ∙ length-replicate layout.size B.Undefined
          ∙ ap (λ (a : Option Layout). unwrap_or (option_map (λ (b : Layout). b.size) a) 0) (sym laid);
      stands = stands-new (place_in x k) spot-new;
    }

    local-at : (j p : ℕ) → number_of inner j ≡ Some p → IsLocalAt x more t m j p
    local-at j p e = elim (cases_eq j k) [
      | inl same ↦
          let here : o ≡ p = same_Some o p (sym (put-number numbers k o within) ∙ ap (λ (i : ℕ). number_of inner i) (sym same) ∙ e) in
          subst (λ (i : ℕ). IsLocalAt x more t m i p) (sym same) (subst (λ (q : ℕ). IsLocalAt x more t m k q) here local-new)
      | inr ne ↦
          let own = r.frame.locals j p (sym (other-number numbers k j (Some o) ne) ∙ e) in
          let less = is-there s.objects p own.live in
          record {
            local = own.local;
            is = own.is;
            live = live-old p less ∙ own.live;
            size = ap (λ (y : Object). length y.bytes) (object-old s.objects new p less) ∙ own.size;
            stands = stands-old own.local p (place_in x j) less own.stands;
          }
    ]

    -- an older local has an older object
    older : (j p : ℕ) → j ≢ k → number_of inner j ≡ Some p → (number_of numbers j ≡ Some p) × (p < o)
    older j p ne e =
        let old : number_of numbers j ≡ Some p = sym (other-number numbers k j (Some o) ne) ∙ e in
        (old, is-there s.objects p (r.frame.locals j p old).live)

    newer : (j p : ℕ) → j ≡ k → number_of inner j ≡ Some p → p ≡ o
    newer j p same e = same_Some p o (sym e ∙ ap (λ (i : ℕ). number_of inner i) same ∙ put-number numbers k o within)

    one-each : (i j p : ℕ) → number_of inner i ≡ Some p → number_of inner j ≡ Some p → i ≡ j
    one-each i j p e f = elim (cases_eq i k) [
      | inl a ↦ elim (cases_eq j k) [
        | inl b ↦ a ∙ sym b
        | inr b ↦ absurd (let n = newer i p a e in let old = (older j p b f).1 in omega (arith, n, old))
      ]
      | inr a ↦ elim (cases_eq j k) [
        | inl b ↦ absurd (let n = newer j p b f in let old = (older i p a e).1 in omega (arith, n, old))
        | inr b ↦ r.frame.apart i j p (older i p a e).0 (older j p b f).0
      ]
    ]

    new-owner : (place : LocalPlace) (n size : ℕ) → place_in x k ≡ place → spot_for x place layout.size ≡ In (x.base + n) size → place_in x k ≡ Slot n
    new-owner (Temp i) n size is-place here = absurd (nowhere-in (x.base + n) size here)
    new-owner (Slot a) n size is-place here =
        let same : x.base + a ≡ x.base + n = same-object (x.base + a) (x.base + n) layout.size size here in
        let e : a ≡ n = omega (arith, same) in
        is-place ∙ ap Slot e

    owner : (p n size : ℕ) → (object_at t.objects p).live ≡ true → spot_of more p ≡ In (x.base + n) size → n < length (graph_of x).slots
        → (j : ℕ) × (number_of inner j ≡ Some p) × (place_in x j ≡ Slot n)
    owner p n size live there few = elim (old-or-new s.objects new p live) [
      | inl less ↦
          let own = r.frame.owned p n size (sym (live-old p less) ∙ live) (sym (spot-old p less) ∙ there) few in
          let ne : own.0 ≢ k = λ e. no-number-there (number_of numbers k) p free (ap (λ (j : ℕ). number_of numbers j) (sym e) ∙ own.1) in
          (own.0, other-number numbers k own.0 (Some o) ne ∙ own.1, own.2)
      | inr same ↦ (
        k,
        put-number numbers k o within ∙ ap Some (sym same),
        new-owner (place_in x k) n size refl (sym spot-new ∙ ap (λ (i : ℕ). spot_of more i) (sym same) ∙ there),
      )
    ]

    pub begins : Related x inner more t m
    begins = record {
      matches = matches;
      frame = record {
        function = r.frame.function;
        base = r.frame.base;
        result = r.frame.result;
        callers = r.frame.callers;
        temps = r.frame.temps;
        scope = length-set numbers k (Some o) ∙ r.frame.scope;
        locals = local-at;
        apart = one-each;
        slots = λ n few. let q = r.frame.slots n few in record { live = q.live; size = q.size };
        owned = owner;
      };
    }

    pub begun-number : number_of inner k ≡ Some o
    begun-number = put-number numbers k o within
