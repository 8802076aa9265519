-- Stores by name: of globals that no web of the function holds.
use Rattle.std.proofs.Common.{◌≡◌, ◌≢◌, ◌==◌, ◌+◌, ◌%◌, ◌&&◌, ℕ, inl, inr, Bool, true, false, true≢false, if◌then◌else◌, Option, Some, None, List, [], ◌∷◌, length, refl, ap, sym, ◌∙◌, subst}
use Rattle.std.specs.Prelude.{IfSome, slice_index_or, nat_le, Contains}
use Rattle.std.proofs.lemmas.Bool.{cases_eq}
use Rattle.std.proofs.lemmas.Map.Views.{Contains-from_any}
use Rattle.std.proofs.lemmas.Slice.Eq.{bytes_eq-Decides}
use Rattle.pw_value.specs.declared.value.Kind.{Kind}
use Rattle.pw_value.specs.declared.value.Value.{Value}
use Rattle.pw_value.specs.declared.value.Value.TheVariants.{Undefined}
use Rattle.pw_value.specs.declared.value.Byte.{Byte}
use Rattle.pw_value.specs.Objects.{Object, object_at, with_bytes, written}
use Rattle.pw_value.specs.Values.{encoding}
use Rattle.pw_db.specs.declared.database.Web.{Web}
use Rattle.pw_db.specs.declared.database.Directives.{Directives}
use Rattle.pw_db.specs.Database.{IsDatabase}
use Rattle.pw_flow.specs.declared.flow.Op.{Op}
use Rattle.pw_flow.specs.declared.flow.Op.TheVariants.{StoreG}
use Rattle.pw_flow.specs.ValidFlow.{kind_size}
use Rattle.pw_webflow.specs.Direction.{register_of, write_of}
use Rattle.pw_db_sound.specs.Sound.{In, Needs, refers, Sound}
use Rattle.pw_run_languages.specs.Traces.{Stored}
use Rattle.pw_run_languages.specs.Programs.{Program, global_number}
use Rattle.pw_run_languages.specs.Memory.{scalar_of, is_of_kind, may_stand, same_value, is_open}
use Rattle.pw_run_languages.specs.FlowRun as flow
use Rattle.pw_run_languages.specs.FlowRun.{is_own_kind, put_global}
use Rattle.pw_run_languages.specs.Commands.{command}
use Rattle.pw_run_languages.specs.LawfulPrograms.{IsProgram, graph_of, eligible_of, eligible_names}
use Rattle.pw_run_languages.specs.PlacedRun as web
use Rattle.pw_run_languages.specs.PlacedRun.{is_eligible, held, with_registers}
use Rattle.pw_law_direction.specs.Pairs.{Active, Pair, active_of, flow_side, web_side, web_frames, webs_of, under}
use Rattle.pw_law_direction.specs.Alike.{IsPlain, FineValue, names_active, GlobalStands, ObjectsAlike, IsAlike, Follows}
use Rattle.pw_law_direction.specs.SideBySide.{StepsFollow, StoresFollow}
use Rattle.pw_law_direction.proofs.Elements.{first-there, later-there, map-back}
use Rattle.pw_law_direction.proofs.Names.{name-eligible, is-eligible, one-number, has-there}
use Rattle.pw_law_direction.proofs.Tame.{encoding-tame}
use Rattle.pw_law_direction.proofs.Memory.{with-new, is-written, is-other, count-left, eligible-name, tame-written, objects-written}
use Rattle.pw_law_direction.proofs.Globals.{own-kind, kind-of}
use Rattle.pw_law_direction.proofs.Registers.{kept-in}
use Rattle.pw_law_direction.proofs.Steps.{with-ops, ops-alike}
use Rattle.pw_law_direction.proofs.Calls.{further}
use Rattle.pw_law_direction.proofs.WebWrites.{and-left, and-right, given-back, encoding-length, with-all, writes-of, put-by}
use Rattle.pw_law_direction.proofs.ByName.{SameObject, same-object, no-web, nobody}

-- ---- nobody holds it

held-by : (d : List (List ℕ × Directives)) (v : List ℕ) (f : Active) (fs : List Active) (a : ℕ → Value) → ((n : List ℕ) → Contains (names_active (f ∷ fs)) n → (w : Web) → In d w n → w.global ≡ v → ⊥)
    → (o : Option ℕ) → register_of (webs_of d f.function) v ≡ o → held v (with_registers f.saved a) (web_frames d fs) ≡ None → held v a (web_frames d (f ∷ fs)) ≡ None
held-by d v f fs a none None e below = further d f v fs a e ∙ below
held-by d v f fs a none (Some r) e below = let k = kept-in d f v r e in absurd (none f.function.name (first-there f.function.name (names_active fs)) k.web k.within k.global)

pub held-none : (d : List (List ℕ × Directives)) (v : List ℕ) (fs : List Active) (a : ℕ → Value) → ((n : List ℕ) → Contains (names_active fs) n → (w : Web) → In d w n → w.global ≡ v → ⊥)
    → held v a (web_frames d fs) ≡ None
held-none d v [] a none = refl
held-none d v (f ∷ fs) a none =
    held-by d v f fs a none (register_of (webs_of d f.function) v) refl
    (held-none d v fs (with_registers f.saved a) (λ n c. none n (later-there f.function.name n (names_active fs) c)))

-- ---- the global that is written

fresh-stands : (d : List (List ℕ × Directives)) (names : List (List ℕ)) (g : List ℕ) (k : Kind) (place : Option Value) (a b : Object) (v : Value) → place ≡ None → is_of_kind k v ≡ true
    → GlobalStands d names g k place a b → GlobalStands d names g k place (with-new a 0 (encoding v (kind_size k))) (with-new b 0 (encoding v (kind_size k)))
fresh-stands d names g k place a b v none fits st =
    let new : List Byte = encoding v (kind_size k) in
    let long : length new ≡ kind_size k = encoding-length k v (and-left (may_stand k v) (same_value (scalar_of k new) v) fits) in
    let whole : with_bytes new 0 a.bytes ≡ new = with-all new a.bytes (long ∙ sym st.size) in
    let other : with_bytes new 0 b.bytes ≡ new = with-all new b.bytes (long ∙ sym st.size_too) in
    let back : scalar_of k (with_bytes new 0 a.bytes) ≡ v = ap (λ (l : List Byte). scalar_of k l) whole ∙ given-back k v fits in
    record {
      lives = st.lives;
      lives_too = st.lives_too;
      size = ap (λ (l : List Byte). length l) whole ∙ long;
      size_too = ap (λ (l : List Byte). length l) other ∙ long;
      kind = subst (λ (u : Value). is_of_kind k u ≡ true) (sym back) fits;
      bytes = whole ∙ ap (λ (u : Value). encoding u (kind_size k)) (sym back);
      stands = subst (λ (o : Option Value). IfSome o (λ u. u ≡ scalar_of k (with_bytes new 0 a.bytes))) (sym none) tt;
      memory = λ not. other ∙ sym whole;
    }

named-globals : (p : Program) (d : List (List ℕ × Directives)) (x : Pair) (g : List ℕ) (k : Kind) (n : ℕ) (v : Value) → IsProgram p → IsAlike p d x → Contains (eligible_of p) (g, k) → global_number p g ≡ Some n
    → is_of_kind k v ≡ true → held g x.registers (web_frames d (active_of x)) ≡ None
    → (i : List ℕ) (j : Kind) (m : ℕ) → Contains (eligible_of p) (i, j) → global_number p i ≡ Some m
    → GlobalStands d (names_active (active_of x)) i j (held i x.registers (web_frames d (active_of x)))
    (object_at (written n 0 (encoding v (kind_size k)) x.objects) m) (object_at (written n 0 (encoding v (kind_size k)) x.memory) m)
named-globals p d x g k n v lawful a there number fits none i j m c is =
    let new : List Byte = encoding v (kind_size k) in
    let st = a.objects.globals g k n there number in
    elim (cases_eq m n) [
      | inl same ↦
          let name : g ≡ i = one-number p (is-eligible p g k there).global g i n number (is ∙ ap (λ (q : ℕ). Some q) same) in
          let kind : k ≡ j = kind-of p g k j lawful (is-eligible p g k there) (is-eligible p g j (subst (λ (q : List ℕ). Contains (eligible_of p) (q, j)) (sym name) c)) in
          let fresh = fresh-stands d (names_active (active_of x)) g k (held g x.registers (web_frames d (active_of x))) (object_at x.objects n) (object_at x.memory n) v none fits st in
          let first = subst (λ (o : Object). GlobalStands d (names_active (active_of x)) g k (held g x.registers (web_frames d (active_of x))) o (with-new (object_at x.memory n) 0 new)) (sym (is-written x.objects n 0 new st.lives)) fresh in
          let second = subst (λ (o : Object). GlobalStands d (names_active (active_of x)) g k (held g x.registers (web_frames d (active_of x))) (object_at (written n 0 new x.objects) n) o) (sym (is-written x.memory n 0 new st.lives_too)) first in
          let named = subst (λ (q : List ℕ). GlobalStands d (names_active (active_of x)) q k (held q x.registers (web_frames d (active_of x))) (object_at (written n 0 new x.objects) n) (object_at (written n 0 new x.memory) n)) name second in
          let placed = subst (λ (q : ℕ). GlobalStands d (names_active (active_of x)) i k (held i x.registers (web_frames d (active_of x))) (object_at (written n 0 new x.objects) q) (object_at (written n 0 new x.memory) q)) (sym same) named in
          subst (λ (q : Kind). GlobalStands d (names_active (active_of x)) i q (held i x.registers (web_frames d (active_of x))) (object_at (written n 0 new x.objects) m) (object_at (written n 0 new x.memory) m)) kind placed
      | inr other ↦
          subst (λ (o : Object). GlobalStands d (names_active (active_of x)) i j (held i x.registers (web_frames d (active_of x))) o (object_at (written n 0 new x.memory) m)) (sym (is-other x.objects n 0 m new other))
          (subst (λ (o : Object). GlobalStands d (names_active (active_of x)) i j (held i x.registers (web_frames d (active_of x))) (object_at x.objects m) o) (sym (is-other x.memory n 0 m new other)) (a.objects.globals i j m c is))
    ]

named-objects : (p : Program) (d : List (List ℕ × Directives)) (x : Pair) (g : List ℕ) (k : Kind) (n : ℕ) (v : Value) → IsProgram p → IsAlike p d x → Contains (eligible_of p) (g, k) → global_number p g ≡ Some n
    → is_of_kind k v ≡ true → held g x.registers (web_frames d (active_of x)) ≡ None → FineValue p v
    → ObjectsAlike p d (active_of x) x.registers (written n 0 (encoding v (kind_size k)) x.objects) (written n 0 (encoding v (kind_size k)) x.memory)
named-objects p d x g k n v lawful a there number fits none tame =
    let new : List Byte = encoding v (kind_size k) in
    let plain-apart : (o : ℕ) → IsPlain p o → o ≢ n = λ o plain same. plain g (eligible-name p g k there) (number ∙ ap (λ (q : ℕ). Some q) (sym same)) in
    record {
      count = count-left x.memory n 0 new ∙ a.objects.count ∙ sym (count-left x.objects n 0 new);
      others = λ o plain. is-other x.memory n 0 o new (plain-apart o plain) ∙ a.objects.others o plain ∙ sym (is-other x.objects n 0 o new (plain-apart o plain));
      globals = named-globals p d x g k n v lawful a there number fits none;
      tame = tame-written p x.objects n 0 new (encoding-tame p v (kind_size k) tame) (a.objects.globals g k n there number).lives a.objects.tame;
    }

-- both memories after the store are alike
stored-objects : (p : Program) (d : List (List ℕ × Directives)) (x : Pair) (g : List ℕ) (k : Kind) (n : ℕ) (v : Value) (b : Bool) → is_eligible (under p d) g ≡ b → IsProgram p → IsDatabase d → Sound (graph_of p) d
    → IsAlike p d x → register_of (webs_of d x.frame.function) g ≡ None → (Contains (eligible_names p) g → Needs (graph_of p) d x.frame.function.name g) → global_number p g ≡ Some n
    → is_own_kind p g k ≡ true → is_of_kind k v ≡ true → FineValue p v → (object_at x.objects n).live ≡ true
    → ObjectsAlike p d (active_of x) x.registers (written n 0 (encoding v (kind_size k)) x.objects) (written n 0 (encoding v (kind_size k)) x.memory)
stored-objects p d x g k n v false e lawful is s a none needs number own fits tame live =
    let plain : IsPlain p n = λ h c f. let el = name-eligible p h c in
    let same : h ≡ g = one-number p el.1.global h g n f number in
    absurd (true≢false (sym (has-there (eligible_names p) g (subst (Contains (eligible_names p)) same c)) ∙ e)) in
    objects-written p d (active_of x) x.registers x.objects x.memory n 0 (encoding v (kind_size k)) plain live (encoding-tame p v (kind_size k) tame) a.objects
stored-objects p d x g k n v true e lawful is s a none needs number own fits tame live =
    let c : Contains (eligible_names p) g = Contains-from_any (λ (u v : List ℕ) q. (bytes_eq-Decides u v).0 q) g (eligible_names p) e in
    let r = map-back (λ (e : List ℕ × Kind). e.0) (eligible_of p) g c in
    let there : Contains (eligible_of p) (g, r.is.1) = subst (λ (m : List ℕ). Contains (eligible_of p) (m, r.is.1)) r.holds r.there in
    let same : k ≡ r.is.1 = own-kind p g k r.is.1 lawful (is-eligible p g r.is.1 there) own in
    let nowhere-held : held g x.registers (web_frames d (active_of x)) ≡ None =
    held-none d g (active_of x) x.registers (nobody (graph_of p) d g x.frame x.callers s a.linked (needs c) (no-web d x.frame g is none)) in
    named-objects p d x g k n v lawful a (subst (λ (q : Kind). Contains (eligible_of p) (g, q)) (sym same) there) number fits nowhere-held tame

-- ---- the store

abbrev web-put : Bool → List ℕ → web.Machine → Option (List Object) → web.Step
web-put b g m (Some objects) = web.On (web.noted_if b (Stored g) (record m { objects = objects }))
web-put b g m None = web.Astray

open-same : (objects memory : List Object) (n size unit : ℕ) → SameObject (object_at objects n) (object_at memory n) → is_open memory n 0 size unit ≡ is_open objects n 0 size unit
open-same objects memory n size unit e =
    ap (λ (b : Bool). b && (nat_le (0 + size) (length (object_at memory n).bytes) && (0 % unit == 0))) e.live
    ∙ ap (λ (l : List Byte). (object_at objects n).live && (nat_le (0 + size) (length l) && (0 % unit == 0))) e.bytes

both-if : (p : Program) (d : List (List ℕ × Directives)) (x : Pair) (g : List ℕ) (b c e : Bool) (o r : Option (List Object)) → e ≡ c → (c ≡ true → Follows p d (flow.changes o (flow_side x)) (web-put b g (web_side d x) r))
    → Follows p d (flow.changes (if c then o else None) (flow_side x)) (web-put b g (web_side d x) (if e then r else None))
both-if p d x g b true e o r same h = subst (λ (e : Bool). Follows p d (flow.changes o (flow_side x)) (web-put b g (web_side d x) (if e then r else None))) (sym same) (h refl)
both-if p d x g b false e o r same h = tt

both-written : (p : Program) (d : List (List ℕ × Directives)) (x : Pair) (g : List ℕ) (b : Bool) (objects memory : List Object) → IsAlike p d x → ObjectsAlike p d (active_of x) x.registers objects memory
    → Follows p d (flow.On (record (flow_side x) { objects = objects })) (web-put b g (web_side d x) (Some memory))
both-written p d x g true objects memory a h = record {
  pair = record x { objects = objects; memory = memory; trace = Stored g ∷ x.trace };
  flow = refl;
  web = refl;
  alike = record { frame = a.frame; callers = a.callers; linked = a.linked; objects = h; log = a.log };
}
both-written p d x g false objects memory a h = record {
  pair = record x { objects = objects; memory = memory };
  flow = refl;
  web = refl;
  alike = record { frame = a.frame; callers = a.callers; linked = a.linked; objects = h; log = a.log };
}

at-number : (p : Program) (d : List (List ℕ × Directives)) (x : Pair) (g : List ℕ) (k : Kind) (v : Value) (b : Bool) (found : Option ℕ) → global_number p g ≡ found → is_eligible (under p d) g ≡ b → IsProgram p → IsDatabase d
    → Sound (graph_of p) d → IsAlike p d x → register_of (webs_of d x.frame.function) g ≡ None → (Contains (eligible_names p) g → Needs (graph_of p) d x.frame.function.name g)
    → is_own_kind p g k ≡ true → is_of_kind k v ≡ true → FineValue p v
    → Follows p d (flow.changes (put-by k v x.objects found) (flow_side x)) (web-put b g (web_side d x) (put-by k v x.memory found))
at-number p d x g k v b None number e lawful is s a none needs own fits tame = tt
at-number p d x g k v b (Some n) number e lawful is s a none needs own fits tame =
    both-if p d x g b (is_open x.objects n 0 (kind_size k) (kind_size k) && may_stand k v) (is_open x.memory n 0 (kind_size k) (kind_size k) && may_stand k v)
    (Some (written n 0 (encoding v (kind_size k)) x.objects)) (Some (written n 0 (encoding v (kind_size k)) x.memory))
    (ap (λ (c : Bool). c && may_stand k v) (open-same x.objects x.memory n (kind_size k) (kind_size k) (same-object p d x g b e is s a none needs n number)))
    (λ opened. both-written p d x g b (written n 0 (encoding v (kind_size k)) x.objects) (written n 0 (encoding v (kind_size k)) x.memory) a
    (stored-objects p d x g k n v b e lawful is s a none needs number own fits tame
    (and-left (object_at x.objects n).live _ (and-left (is_open x.objects n 0 (kind_size k) (kind_size k)) (may_stand k v) opened))))

put-by-name : (p : Program) (d : List (List ℕ × Directives)) (x : Pair) (g : List ℕ) (k : Kind) (v : Value) → IsProgram p → IsDatabase d
    → Sound (graph_of p) d → IsAlike p d x → register_of (webs_of d x.frame.function) g ≡ None → (Contains (eligible_names p) g → Needs (graph_of p) d x.frame.function.name g) → FineValue p v
    → Follows p d (flow.changes (put_global p g k v x.objects) (flow_side x)) (web.stores_global (under p d) g k v (web_side d x))
put-by-name p d x g k v lawful is s a none needs tame =
    both-if p d x g (is_eligible (under p d) g) (is_own_kind p g k && is_of_kind k v) (is_own_kind p g k && is_of_kind k v)
    (put-by k v x.objects (global_number p g)) (put-by k v x.memory (global_number p g)) refl
    (λ both. at-number p d x g k v (is_eligible (under p d) g) (global_number p g) refl refl lawful is s a none needs
    (and-left (is_own_kind p g k) (is_of_kind k v) both) (and-right (is_own_kind p g k) (is_of_kind k v) both) tame)

store-follows : (p : Program) (d : List (List ℕ × Directives)) (x : Pair) (t : ℕ) (g : List ℕ) (k : Kind) (ops : List Op) → IsProgram p → IsDatabase d → Sound (graph_of p) d
    → IsAlike p d (with-ops (StoreG g t k ∷ ops) x) → register_of (webs_of d x.frame.function) g ≡ None → StepsFollow p d (with-ops (StoreG g t k ∷ ops) x)
unfolding flow.step web.step command
store-follows p d x t g k ops lawful is s a none =
    let y : Pair = with-ops ops x in
    let b : IsAlike p d y = ops-alike p d (with-ops (StoreG g t k ∷ ops) x) ops (λ u c. a.frame.code u (later-there (StoreG g t k) u ops c)) a in
    let v : Value = slice_index_or x.frame.temps t Undefined in
    subst (λ (o : Option ℕ). Follows p d (flow.changes (put_global p g k v y.objects) (flow_side y)) (web.does (under p d) (write_of o t (StoreG g t k)) (web_side d y))) (sym none)
    (put-by-name p d y g k v lawful is s b none
    (λ el. refers (inr (writes-of p x.frame.function g t k a.frame.there (a.frame.code (StoreG g t k) (first-there (StoreG g t k) ops)) el))) (b.frame.temps t))

pub stores-follow : StoresFollow
stores-follow p d x t g k ops lawful is s a here none =
    subst (λ (l : List Op). StepsFollow p d (with-ops l x)) (sym here)
    (store-follows p d x t g k ops lawful is s (subst (λ (l : List Op). IsAlike p d (with-ops l x)) here a) none)
