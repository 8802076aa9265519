-- Loads and stores by name: of globals that no web of the function holds.
use Rattle.std.proofs.Common.{◌≡◌, ◌==◌, ◌+◌, ◌%◌, ◌&&◌, ℕ, inl, inr, Bool, true, false, true≢false, if◌then◌else◌, Option, Some, None, List, [], ◌∷◌, length, refl, ap, sym, ◌∙◌, subst}
use Rattle.std.specs.Prelude.{IfSome, nat_le, Contains}
use Rattle.std.specs.Str.{bytes_eq}
use Rattle.std.proofs.lemmas.List.Elements.{Contains-append_cases}
use Rattle.std.proofs.lemmas.Map.Views.{Contains-from_any}
use Rattle.std.proofs.lemmas.Slice.Eq.{bytes_eq-Decides}
use Rattle.pw_value.specs.declared.value.Kind.{Kind}
use Rattle.pw_value.specs.declared.value.Value.{Value}
use Rattle.pw_value.specs.declared.value.Byte.{Byte}
use Rattle.pw_value.specs.Objects.{Object, object_at, bytes_from}
use Rattle.pw_db.specs.declared.database.Web.{Web}
use Rattle.pw_db.specs.declared.database.Directives.{Directives}
use Rattle.pw_db.specs.Database.{IsDatabase}
use Rattle.pw_flow.specs.declared.flow.Op.{Op}
use Rattle.pw_flow.specs.declared.flow.Op.TheVariants.{LoadG}
use Rattle.pw_flow.specs.declared.flow.FlowFn.{FlowFn}
use Rattle.pw_flow.specs.ValidFlow.{kind_size}
use Rattle.pw_webflow.specs.Direction.{register_of, read_of}
use Rattle.pw_db_sound.specs.CallGraphs.{Graph, Reads}
use Rattle.pw_db_sound.specs.Sound.{In, Needs, refers, Sound}
use Rattle.pw_run_languages.specs.Traces.{Loaded}
use Rattle.pw_run_languages.specs.Programs.{Program, functions_of, global_number}
use Rattle.pw_run_languages.specs.Memory.{scalar_of, look_in}
use Rattle.pw_run_languages.specs.FlowRun as flow
use Rattle.pw_run_languages.specs.FlowRun.{is_own_kind, get_global}
use Rattle.pw_run_languages.specs.Commands.{command}
use Rattle.pw_run_languages.specs.LawfulPrograms.{graph_of, node_of, read_by, ops_of, eligible_of, eligible_names}
use Rattle.pw_run_languages.specs.PlacedRun as web
use Rattle.pw_run_languages.specs.PlacedRun.{is_eligible}
use Rattle.pw_law_direction.specs.Pairs.{Active, Pair, flow_side, web_side, webs_of, under}
use Rattle.pw_law_direction.specs.Alike.{IsPlain, FineValue, AreTameBytes, Linked, names_active, IsWritten, IsAlike, Follows}
use Rattle.pw_law_direction.specs.SideBySide.{StepsFollow, LoadsFollow}
use Rattle.pw_law_direction.proofs.Elements.{first-there, later-there, the-first, map-there, map-back, flat-there}
use Rattle.pw_law_direction.proofs.Names.{name-eligible, one-number, has-there}
use Rattle.pw_law_direction.proofs.Memory.{look-in-tame}
use Rattle.pw_law_direction.proofs.Globals.{get-by, if-some}
use Rattle.pw_law_direction.proofs.Steps.{with-ops, ops-alike, gives-follow}
use Rattle.pw_law_direction.proofs.Webs.{register-in}
use Rattle.pw_law_direction.proofs.Calls.{path-below}
use Rattle.pw_law_direction.proofs.WebWrites.{filter-there}

-- ---- nobody holds it

-- a function with no register for a global is in no web of it
pub no-web : (d : List (List ℕ × Directives)) (f : Active) (g : List ℕ) → IsDatabase d → register_of (webs_of d f.function) g ≡ None → (w : Web) → In d w f.function.name → w.global ≡ g → ⊥
no-web d f g is none w i e =
    let some : Some w.reg ≡ None = sym (register-in d f w is i) ∙ ap (λ (n : List ℕ). register_of (webs_of d f.function) n) e ∙ none in absurd cc

-- where the current function needs a global and is in no web of it, no active function is
pub nobody : (g : Graph) (d : List (List ℕ × Directives)) (v : List ℕ) (f : Active) (fs : List Active) → Sound g d → Linked g (f ∷ fs) → Needs g d f.function.name v
    → ((w : Web) → In d w f.function.name → w.global ≡ v → ⊥) → (n : List ℕ) → Contains (names_active (f ∷ fs)) n → (w : Web) → In d w n → w.global ≡ v → ⊥
nobody g d v f fs s l needs none n c w i e = elim (Contains-append_cases (f.function.name ∷ []) (names_active fs) n c) [
  | inl first ↦ none w (subst (In d w) (sym (the-first f.function.name n first)) i) e
  | inr later ↦ none w (s.references w n f.function.name i (path-below g f fs n l later) (subst (Needs g d f.function.name) (sym e) needs)) e
]

not-written : (g : Graph) (d : List (List ℕ × Directives)) (v : List ℕ) (f : Active) (fs : List Active) → Sound g d → Linked g (f ∷ fs) → Needs g d f.function.name v
    → ((w : Web) → In d w f.function.name → w.global ≡ v → ⊥) → IsWritten d v (names_active (f ∷ fs)) → ⊥
not-written g d v f fs s l needs none t = nobody g d v f fs s l needs none t.function t.is_active t.web t.within t.global

reads-of : (p : Program) (f : FlowFn) (g : List ℕ) (t : ℕ) (k : Kind) → Contains (functions_of p) f → Contains (ops_of f) (LoadG t g k) → Contains (eligible_names p) g → Reads (graph_of p) f.name g
unfolding graph_of
reads-of p f g t k there code el = record {
  node = node_of p f;
  there = map-there (node_of p) (functions_of p) f there;
  name = refl;
  read = flat-there (read_by p) (ops_of f) (LoadG t g k) g code (filter-there (bytes_eq g) (eligible_names p) g el ((bytes_eq-Decides g g).1 refl));
}

-- ---- what a load gives

pub record SameObject (a b : Object) : Type 0 where
  pub live : b.live ≡ a.live
  pub bytes : b.bytes ≡ a.bytes

look-same : (objects memory : List Object) (k : Kind) (o : ℕ) → SameObject (object_at objects o) (object_at memory o) → look_in k o 0 memory ≡ look_in k o 0 objects
look-same objects memory k o e =
    ap (λ (b : Bool). if b && (nat_le (0 + kind_size k) (length (object_at memory o).bytes) && (0 % kind_size k == 0)) then Some (scalar_of k (bytes_from (kind_size k) 0 (object_at memory o).bytes)) else None) e.live
    ∙ ap (λ (l : List Byte). if (object_at objects o).live && (nat_le (0 + kind_size k) (length l) && (0 % kind_size k == 0)) then Some (scalar_of k (bytes_from (kind_size k) 0 l)) else None) e.bytes

get-same : (p : Program) (g : List ℕ) (k : Kind) (objects memory : List Object) (o : Option ℕ) → ((n : ℕ) → o ≡ Some n → SameObject (object_at objects n) (object_at memory n))
    → get-by k memory o ≡ get-by k objects o
get-same p g k objects memory None h = refl
get-same p g k objects memory (Some n) h = look-same objects memory k n (h n refl)

get-tame : (p : Program) (k : Kind) (objects : List Object) (o : Option ℕ) → ((o : ℕ) → AreTameBytes p (object_at objects o).bytes) → IfSome (get-by k objects o) (FineValue p)
get-tame p k objects None h = tt
get-tame p k objects (Some n) h = look-in-tame p objects k n 0 h

-- the object of a global that no web of the function holds is the same in both runs
pub same-object : (p : Program) (d : List (List ℕ × Directives)) (x : Pair) (g : List ℕ) (b : Bool) → is_eligible (under p d) g ≡ b → IsDatabase d → Sound (graph_of p) d → IsAlike p d x
    → register_of (webs_of d x.frame.function) g ≡ None → (Contains (eligible_names p) g → Needs (graph_of p) d x.frame.function.name g)
    → (n : ℕ) → global_number p g ≡ Some n → SameObject (object_at x.objects n) (object_at x.memory n)
same-object p d x g false e is s a none needs n number =
    let plain : IsPlain p n = λ h c f. let el = name-eligible p h c in
    let same : h ≡ g = one-number p el.1.global h g n f number in
    absurd (true≢false (sym (has-there (eligible_names p) g (subst (Contains (eligible_names p)) same c)) ∙ e)) in
    let same = a.objects.others n plain in record { live = ap (λ (o : Object). o.live) same; bytes = ap (λ (o : Object). o.bytes) same }
same-object p d x g true e is s a none needs n number =
    let c : Contains (eligible_names p) g = Contains-from_any (λ (u v : List ℕ) q. (bytes_eq-Decides u v).0 q) g (eligible_names p) e in
    let r = map-back (λ (e : List ℕ × Kind). e.0) (eligible_of p) g c in
    let there : Contains (eligible_of p) (g, r.is.1) = subst (λ (m : List ℕ). Contains (eligible_of p) (m, r.is.1)) r.holds r.there in
    let st = a.objects.globals g r.is.1 n there number in
    record {
      live = st.lives_too ∙ sym st.lives;
      bytes = st.memory (λ t. not-written (graph_of p) d g x.frame x.callers s a.linked (needs c) (no-web d x.frame g is none) t);
    }

-- ---- the load

load-by : (p : Program) (d : List (List ℕ × Directives)) (x : Pair) (t : ℕ) (g : List ℕ) (k : Kind) (b : Bool) → is_eligible (under p d) g ≡ b → IsDatabase d → Sound (graph_of p) d → IsAlike p d x
    → register_of (webs_of d x.frame.function) g ≡ None → (Contains (eligible_names p) g → Needs (graph_of p) d x.frame.function.name g)
    → Follows p d (flow.gives t (get_global p g k x.objects) (flow_side x)) (web.gives t (get_global p g k x.memory) (web.noted_if b (Loaded g) (web_side d x)))
load-by p d x t g k b e is s a none needs =
    noted b (ap (λ (o : Option Value). if is_own_kind p g k then o else None)
    (get-same p g k x.objects x.memory (global_number p g) (same-object p d x g b e is s a none needs)))
    (if-some (FineValue p) (is_own_kind p g k) (get-by k x.objects (global_number p g)) (λ own. get-tame p k x.objects (global_number p g) a.objects.tame))
  where
    noted : (b : Bool) → get_global p g k x.memory ≡ get_global p g k x.objects → IfSome (get_global p g k x.objects) (FineValue p)
        → Follows p d (flow.gives t (get_global p g k x.objects) (flow_side x)) (web.gives t (get_global p g k x.memory) (web.noted_if b (Loaded g) (web_side d x)))
    noted true same tame = gives-follow p d (record x { trace = Loaded g ∷ x.trace }) t (get_global p g k x.objects) (get_global p g k x.memory) same tame
        (record { frame = a.frame; callers = a.callers; linked = a.linked; objects = a.objects; log = a.log })
    noted false same tame = gives-follow p d x t (get_global p g k x.objects) (get_global p g k x.memory) same tame a

load-follows : (p : Program) (d : List (List ℕ × Directives)) (x : Pair) (t : ℕ) (g : List ℕ) (k : Kind) (ops : List Op) → IsDatabase d → Sound (graph_of p) d
    → IsAlike p d (with-ops (LoadG t g k ∷ ops) x) → register_of (webs_of d x.frame.function) g ≡ None → StepsFollow p d (with-ops (LoadG t g k ∷ ops) x)
unfolding flow.step web.step command
load-follows p d x t g k ops is s a none =
    let y : Pair = with-ops ops x in
    let b : IsAlike p d y = ops-alike p d (with-ops (LoadG t g k ∷ ops) x) ops (λ u c. a.frame.code u (later-there (LoadG t g k) u ops c)) a in
    subst (λ (o : Option ℕ). Follows p d (flow.gives t (get_global p g k y.objects) (flow_side y)) (web.does (under p d) (read_of o t (LoadG t g k)) (web_side d y))) (sym none)
    (load-by p d y t g k (is_eligible (under p d) g) refl is s b none
    (λ el. refers (inl (reads-of p x.frame.function g t k a.frame.there (a.frame.code (LoadG t g k) (first-there (LoadG t g k) ops)) el))))

pub loads-follow : LoadsFollow
loads-follow p d x t g k ops is s a here none =
    subst (λ (l : List Op). StepsFollow p d (with-ops l x)) (sym here)
    (load-follows p d x t g k ops is s (subst (λ (l : List Op). IsAlike p d (with-ops l x)) here a) none)
