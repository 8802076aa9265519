-- A local ends: its object ends, and what is related in its scope is related outside of it.
use Rattle.std.proofs.Common.{◌≡◌, ◌≢◌, ℕ, ◌+◌, ◌^◌, ◌<◌, ◌≤◌, true, false, true≢false, Some, None, List, [], ◌∷◌, ◌++◌, length, slice_set, All, inl, inr, ap, sym, ◌∙◌, subst, arith, append_assoc, length-set, length-append}
use Rattle.std.proofs.lemmas.Bool.{cases_lt, cases_eq}
use Rattle.std.proofs.lemmas.Option.{same_Some}
use Rattle.std.proofs.lemmas.List.{get_or_append_left, get_or_past, get_or-set_same, get_or-set_other, set_past}
use Rattle.std.proofs.lemmas.List.Elements.{All-nil, All-set}
use Rattle.pw_value.specs.Objects.{Object, no_object, object_at, ended}
use Rattle.pw_types.specs.TypeTrees.{type_of}
use Rattle.pw_types.specs.TypedTrees.{LocalValue}
use Rattle.pw_lower.specs.declared.place.LocalPlace.{LocalPlace}
use Rattle.pw_lower.specs.declared.place.LocalPlace.TheVariants.{Temp, Slot}
use Rattle.pw_cmean.specs.Acts.{State}
use Rattle.pw_cmean.specs.Access as source
use Rattle.pw_cmean.specs.Typed.{IsByte}
use Rattle.pw_run_languages.specs.FlowRun.{Machine, value_in}
use Rattle.pw_law_refine.specs.Standing.{Spot, Nowhere, In, spot_of, Stands, Holds, MemoryStands}
use Rattle.pw_law_refine.specs.Activations.{Activation, Numbers, number_of, graph_of, place_in}
use Rattle.pw_law_refine.specs.Matching.{AreSmall, Matches, StandsAt, IsLocalAt, Related, Lasts, Later}
use Rattle.pw_law_refine_locals.proofs.Beginning.{object-old, is-there, other-number, no-number-there}

-- ---- objects of which one has ended

ended-other : (objects : List Object) (o p : ℕ) → p ≢ o → object_at (ended o objects) p ≡ object_at objects p
ended-other objects o p ne = get_or-set_other objects o p (record (object_at objects o) { live = false }) no_object ne

ended-there : (objects : List Object) (o : ℕ) → (object_at (ended o objects) o).live ≡ false
ended-there objects o = elim (cases_lt o (length objects)) [
  | inl less ↦ ap (λ (y : Object). y.live) (get_or-set_same objects o (record (object_at objects o) { live = false }) no_object less)
  | inr more ↦ ap (λ (l : List Object). (object_at l o).live) (set_past objects o (record (object_at objects o) { live = false }) more)
      ∙ ap (λ (y : Object). y.live) (get_or_past objects o no_object more)
]

ended-size : (objects : List Object) (o p : ℕ) → length (object_at (ended o objects) p).bytes ≡ length (object_at objects p).bytes
ended-size objects o p = elim (cases_eq p o) [
  | inl same ↦ elim (cases_lt o (length objects)) [
    | inl less ↦ ap (λ (i : ℕ). length (object_at (ended o objects) i).bytes) same
        ∙ ap (λ (y : Object). length y.bytes) (get_or-set_same objects o (record (object_at objects o) { live = false }) no_object less)
        ∙ ap (λ (i : ℕ). length (object_at objects i).bytes) (sym same)
    | inr more ↦ ap (λ (l : List Object). length (object_at l p).bytes) (set_past objects o (record (object_at objects o) { live = false }) more)
  ]
  | inr ne ↦ ap (λ (y : Object). length y.bytes) (ended-other objects o p ne)
]

-- what lives is another one
lives-other : (objects : List Object) (o p : ℕ) → (object_at (ended o objects) p).live ≡ true → p ≢ o
lives-other objects o p live e = true≢false (sym live ∙ ap (λ (i : ℕ). (object_at (ended o objects) i).live) e ∙ ended-there objects o)

bytes-at : (objects : List Object) (o : ℕ) → All (λ (y : Object). All IsByte y.bytes) objects → All IsByte (object_at objects o).bytes
bytes-at objects o h = elim (cases_lt o (length objects)) [
  | inl less ↦ h o no_object less
  | inr more ↦ subst (λ (y : Object). All IsByte y.bytes) (sym (get_or_past objects o no_object more)) (All-nil IsByte)
]

-- ---- the end of a local

-- The local of a number began in an object behind those of a state, and the act that followed has come to related states.
module _
    (x : Activation) (numbers : Numbers) (spots : List Spot) (s : State) (m : Machine) (r : Related x numbers spots s m)
    (k : ℕ) (free : number_of numbers k ≡ None) (new : Object) (spot : Spot) (begun : number_of (slice_set numbers k (Some (length s.objects))) k ≡ Some (length s.objects)) (t : State) (n : Machine)
    (after : Later x (slice_set numbers k (Some (length s.objects))) (spots ++ spot ∷ []) (record s { objects = s.objects ++ new ∷ [] }) m t n)
  where
    abbrev o : ℕ
    o = length s.objects

    abbrev inner : Numbers
    inner = slice_set numbers k (Some o)

    abbrev later : List Spot
    later = after.spots

    abbrev u : State
    u = record t { objects = ended o t.objects }

    abbrev own : Related x inner later t n
    own = after.related

    -- an older local has its object in both scopes, and that is another
    kept-number : (j p : ℕ) → number_of numbers j ≡ Some p → number_of inner j ≡ Some p
    kept-number j p e =
        other-number numbers k j (Some o) (λ same. no-number-there (number_of numbers k) p free (ap (λ (i : ℕ). number_of numbers i) (sym same) ∙ e)) ∙ e

    other-object : (j p : ℕ) → number_of numbers j ≡ Some p → p ≢ o
    other-object j p e same =
        let is : j ≡ k = own.frame.apart j k o (kept-number j p e ∙ ap Some same) begun in
        no-number-there (number_of numbers k) p free (ap (λ (i : ℕ). number_of numbers i) (sym is) ∙ e)

    live-left : (p : ℕ) → p ≢ o → (object_at u.objects p).live ≡ (object_at t.objects p).live
    live-left p ne = ap (λ (y : Object). y.live) (ended-other t.objects o p ne)

    still-lives : (p : ℕ) → (object_at u.objects p).live ≡ true → (object_at t.objects p).live ≡ true
    still-lives p live = sym (live-left p (lives-other t.objects o p live)) ∙ live

    memory : MemoryStands later u.objects n.objects
    memory = record {
      count = own.matches.memory.count ∙ sym (length-set t.objects o (record (object_at t.objects o) { live = false }));
      holds = λ p f size live there.
          subst (λ (y : Object). Holds later size y (object_at n.objects f)) (sym (ended-other t.objects o p (lives-other t.objects o p live)))
          (own.matches.memory.holds p f size (still-lives p live) there);
      apart = λ p q f a b lp lq sp sq. own.matches.memory.apart p q f a b (still-lives p lp) (still-lives q lq) sp sq;
    }

    are-small : AreSmall u.objects
    are-small p = subst (λ (size : ℕ). size < 2 ^ 31) (sym (ended-size t.objects o p)) (own.matches.small p)

    matches : Matches x.world later u n
    matches = record {
      memory = memory;
      globals = λ g h.
          let q = own.matches.globals g h in
          let old = is-there s.objects g (r.matches.globals g h).live in
          record { there = q.there; live = live-left g (λ e. omega (arith, e, old)) ∙ q.live };
      input = own.matches.input;
      shows = record { output = own.matches.shows.output; read = own.matches.shows.read; log = own.matches.shows.log };
      active = own.matches.active;
      bytes = record {
        objects = All-set (λ (y : Object). All IsByte y.bytes) t.objects o (record (object_at t.objects o) { live = false }) (bytes-at t.objects o own.matches.bytes.objects) own.matches.bytes.objects;
        input = own.matches.bytes.input;
      };
      small = are-small;
    }

    stands-still : (l : LocalValue) (p : ℕ) (place : LocalPlace) → p ≢ o → StandsAt x later t n l p place → StandsAt x later u n l p place
    stands-still l p (Temp i) ne st = (
      st.0,
      subst (λ (y : Object). Stands later (source.value_in (type_of l.ty) y.bytes) (value_in n.frame i)) (sym (ended-other t.objects o p ne)) st.1,
    )
    stands-still l p (Slot i) ne st = st

    local-at : (j p : ℕ) → number_of numbers j ≡ Some p → IsLocalAt x later u n j p
    local-at j p e =
        let l = own.frame.locals j p (kept-number j p e) in
        let ne = other-object j p e in
        record {
          local = l.local;
          is = l.is;
          live = live-left p ne ∙ l.live;
          size = ended-size t.objects o p ∙ l.size;
          stands = stands-still l.local p (place_in x j) ne l.stands;
        }

    owner : (p i size : ℕ) → (object_at u.objects p).live ≡ true → spot_of later p ≡ In (x.base + i) size → i < length (graph_of x).slots
        → (j : ℕ) × (number_of numbers j ≡ Some p) × (place_in x j ≡ Slot i)
    owner p i size live there few =
        let q = own.frame.owned p i size (still-lives p live) there few in
        let ne : q.0 ≢ k = λ e. lives-other t.objects o p live (same_Some p o (sym q.1 ∙ ap (λ (j : ℕ). number_of inner j) e ∙ begun)) in
        (q.0, sym (other-number numbers k q.0 (Some o) ne) ∙ q.1, q.2)

    pub related : Related x numbers later u n
    related = record {
      matches = matches;
      frame = record {
        function = own.frame.function;
        base = own.frame.base;
        result = own.frame.result;
        callers = own.frame.callers;
        temps = own.frame.temps;
        scope = r.frame.scope;
        locals = local-at;
        apart = λ i j p e f. own.frame.apart i j p (kept-number i p e) (kept-number j p f);
        slots = own.frame.slots;
        owned = owner;
      };
    }

    unnamed : (p : ℕ) → p < o → spot_of spots p ≡ Nowhere → ((j : ℕ) → number_of numbers j ≢ Some p) → object_at u.objects p ≡ object_at s.objects p
    unnamed p less there not =
        let ne : p ≢ o = λ e. omega (arith, e, less) in
        let few : p < length (s.objects ++ new ∷ []) = omega (arith, less, length-append s.objects (new ∷ [])) in
        ended-other t.objects o p ne
        ∙ after.lasts.unnamed p few (get_or_append_left spots (spot ∷ []) Nowhere p (omega (arith, less, r.matches.memory.count)) ∙ there)
        (λ j e. elim (cases_eq j k) [
          | inl same ↦ ne (same_Some p o (sym e ∙ ap (λ (i : ℕ). number_of inner i) same ∙ begun))
          | inr other ↦ not j (sym (other-number numbers k j (Some o) other) ∙ e)
        ])
        ∙ object-old s.objects new p less

    pub lasts : Lasts numbers spots later s u m n
    lasts = record {
      more = (spot ∷ after.lasts.more.0, after.lasts.more.1 ∙ append_assoc spots (spot ∷ []) after.lasts.more.0);
      unnamed = unnamed;
      lives = λ p less.
          let few : p < length (s.objects ++ new ∷ []) = omega (arith, less, length-append s.objects (new ∷ [])) in
          live-left p (λ e. omega (arith, e, less)) ∙ after.lasts.lives p few ∙ ap (λ (y : Object). y.live) (object-old s.objects new p less);
      ended = λ p past. elim (cases_eq p o) [
        | inl same ↦ ap (λ (i : ℕ). (object_at u.objects i).live) same ∙ ended-there t.objects o
        | inr ne ↦
            let more : length (s.objects ++ new ∷ []) ≤ p = omega (arith, past, ne, length-append s.objects (new ∷ [])) in
            live-left p ne ∙ after.lasts.ended p more
      ];
      count = after.lasts.count;
      living = after.lasts.living;
      sizes = after.lasts.sizes;
    }

    unfoldable pub finishes : Later x numbers spots s m u n
    finishes = record { spots = later; related = related; lasts = lasts }
