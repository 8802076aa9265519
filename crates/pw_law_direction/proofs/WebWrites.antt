-- A store to a global that a web of the function holds, as a copy to its register.
use Rattle.std.proofs.Common.{◌≡◌, ◌≢◌, ◌==◌, ◌&&◌, ℕ, zero, suc, inl, inr, Bool, true, false, true≢false, if◌then◌else◌, cond, Option, Some, None, List, [], ◌∷◌, length, refl, ap, sym, ◌∙◌, subst, arith}
use Rattle.std.specs.Prelude.{IfSome, option_map, slice_set, slice_index_or, nat_eq, Contains}
use Rattle.std.specs.List.{AllByRecursion, filter}
use Rattle.std.specs.Option.{option_or}
use Rattle.std.specs.Str.{bytes_eq}
use Rattle.std.proofs.lemmas.Bool.{cases_eq}
use Rattle.std.proofs.lemmas.Option.{same_Some}
use Rattle.std.proofs.lemmas.List.{length-replicate}
use Rattle.std.proofs.lemmas.List.Elements.{Contains-append_cases}
use Rattle.std.proofs.lemmas.Slice.Eq.{bytes_eq-Decides}
use Rattle.pw_value.specs.declared.value.Kind.{Kind}
use Rattle.pw_value.specs.declared.value.Kind.TheVariants.{S8, U8, S16, U16, W32}
use Rattle.pw_value.specs.declared.value.Value.{Value}
use Rattle.pw_value.specs.declared.value.Value.TheVariants.{Undefined, Num, Null, At, Piece}
use Rattle.pw_value.specs.declared.value.Byte.{Byte}
use Rattle.pw_value.specs.declared.value.Byte.TheVariants as B
use Rattle.pw_value.specs.declared.value.Pointer.{Pointer}
use Rattle.pw_value.specs.declared.value.Pointer.TheVariants as P
use Rattle.pw_value.specs.Objects.{Object, object_at, with_bytes, written}
use Rattle.pw_value.specs.Values.{encoding, number_bytes, same_pointer}
use Rattle.pw_db.specs.declared.database.Directives.{Directives}
use Rattle.pw_flow.specs.declared.flow.Op.{Op}
use Rattle.pw_flow.specs.declared.flow.Op.TheVariants.{StoreG}
use Rattle.pw_flow.specs.declared.flow.FlowFn.{FlowFn}
use Rattle.pw_flow.specs.ValidFlow.{kind_size}
use Rattle.pw_webflow.specs.Direction.{register_of, write_of, directed}
use Rattle.pw_db_sound.specs.CallGraphs.{Writes}
use Rattle.pw_db_sound.specs.Sound.{Sound}
use Rattle.pw_run_languages.specs.Programs.{Program, functions_of, global_number}
use Rattle.pw_run_languages.specs.Memory.{scalar_of, is_of_kind, may_stand, same_value, is_open, poke_in}
use Rattle.pw_run_languages.specs.FlowRun as flow
use Rattle.pw_run_languages.specs.FlowRun.{is_own_kind, put_global}
use Rattle.pw_run_languages.specs.Commands.{command}
use Rattle.pw_run_languages.specs.LawfulPrograms.{IsProgram, graph_of, node_of, written_by, ops_of, eligible_of, eligible_names}
use Rattle.pw_run_languages.specs.PlacedRun as web
use Rattle.pw_run_languages.specs.PlacedRun.{held, with_register, with_registers}
use Rattle.pw_law_direction.specs.Pairs.{Active, Pair, active_of, flow_side, web_side, webs_of, web_frames, under}
use Rattle.pw_law_direction.specs.Alike.{FineValue, names_active, Saves, IsActive, GlobalStands, IsAlike, Follows}
use Rattle.pw_law_direction.specs.SideBySide.{StepsFollow, WritesFollow}
use Rattle.pw_law_direction.proofs.Elements.{nowhere, first-there, later-there, the-first, map-there, flat-there}
use Rattle.pw_law_direction.proofs.Names.{is-eligible, one-number}
use Rattle.pw_law_direction.proofs.Tame.{encoding-tame}
use Rattle.pw_law_direction.proofs.Memory.{with-new, is-written, is-other, count-left, eligible-name, tame-written}
use Rattle.pw_law_direction.proofs.Globals.{own-kind, kind-of}
use Rattle.pw_law_direction.proofs.Registers.{if-same, other-globals-stay}
use Rattle.pw_law_direction.proofs.Steps.{with-ops, ops-alike}
use Rattle.pw_law_direction.proofs.WebReads.{HeldGlobal, held-global}

-- ---- values that are the same

pub and-left : (a b : Bool) → (a && b) ≡ true → a ≡ true
and-left true b h = refl
and-left false b h = h

pub and-right : (a b : Bool) → (a && b) ≡ true → b ≡ true
and-right true b h = h
and-right false b h = absurd (true≢false (sym h))

same-number : (a b : ℕ) → (a == b) ≡ true → a ≡ b
same-number a b h = elim (cases_eq a b) [
  | inl e ↦ e
  | inr ne ↦ let f : (a == b) ≡ false = grind (arith, ne) in absurd (true≢false (sym h ∙ f))
]

same-pointer : (q r : Pointer) → same_pointer q r ≡ true → q ≡ r
same-pointer (P.Object a i) (P.Object b j) h =
    ap (λ (n : ℕ). P.Object n i) (same-number a b (and-left (nat_eq a b) (nat_eq i j) h)) ∙ ap (λ (n : ℕ). P.Object b n) (same-number i j (and-right (nat_eq a b) (nat_eq i j) h))
same-pointer (P.Function f) (P.Function g) h = ap (λ (n : ℕ). P.Function n) (same-number f g h)
same-pointer (P.Object a i) (P.Function g) h = absurd (true≢false (sym h))
same-pointer (P.Function f) (P.Object b j) h = absurd (true≢false (sym h))

same-value : (v w : Value) → same_value v w ≡ true → v ≡ w
same-value Undefined Undefined h = refl
same-value (Num a) (Num b) h = ap (λ (n : ℕ). Num n) (same-number a b h)
same-value (At q) (At r) h = ap (λ (s : Pointer). At s) (same-pointer q r h)
same-value (Piece q i) (Piece r j) h =
    ap (λ (s : Pointer). Piece s i) (same-pointer q r (and-left (same_pointer q r) (i == j) h)) ∙ ap (λ (n : ℕ). Piece r n) (same-number i j (and-right (same_pointer q r) (i == j) h))
same-value v w h = absurd (true≢false (sym h))

-- what is stored is given back
pub given-back : (k : Kind) (v : Value) → is_of_kind k v ≡ true → scalar_of k (encoding v (kind_size k)) ≡ v
given-back k v h = same-value (scalar_of k (encoding v (kind_size k))) v (and-right (may_stand k v) (same_value (scalar_of k (encoding v (kind_size k))) v) h)

-- ---- how long its bytes are

numbers-length : (n m : ℕ) → length (number_bytes n m) ≡ n
numbers-length zero m = refl
numbers-length (suc n) m = ap (λ (k : ℕ). suc k) (numbers-length n m)

pub encoding-length : (k : Kind) (v : Value) → may_stand k v ≡ true → length (encoding v (kind_size k)) ≡ kind_size k
encoding-length W32 (At q) h = refl
encoding-length W32 Null h = absurd (true≢false (sym h))
encoding-length W32 (Piece q i) h = absurd (true≢false (sym h))
encoding-length W32 Undefined h = length-replicate 4 B.Undefined
encoding-length W32 (Num n) h = numbers-length 4 n
encoding-length S16 (Piece q i) h = absurd (true≢false (sym h))
encoding-length U16 (Piece q i) h = absurd (true≢false (sym h))
encoding-length S8 (Piece q i) h = refl
encoding-length U8 (Piece q i) h = refl
encoding-length k (At q) h = absurd (true≢false (sym h))
encoding-length k Null h = absurd (true≢false (sym h))
encoding-length k Undefined h = length-replicate (kind_size k) B.Undefined
encoding-length k (Num n) h = numbers-length (kind_size k) n

with-later : (new : List Byte) (i : ℕ) (b : Byte) (bytes : List Byte) → with_bytes new (suc i) (b ∷ bytes) ≡ b ∷ with_bytes new i bytes
with-later [] i b bytes = refl
with-later (x ∷ new) i b bytes = with-later new (suc i) b (slice_set bytes i x)

pub with-all : (new old : List Byte) → length new ≡ length old → with_bytes new 0 old ≡ new
with-all [] [] e = refl
with-all [] (y ∷ old) e = absurd (omega (arith, e))
with-all (x ∷ new) [] e = absurd (omega (arith, e))
with-all (x ∷ new) (y ∷ old) e = with-later new 0 x old ∙ ap (λ (l : List Byte). x ∷ l) (with-all new old (omega (arith, e)))

-- ---- the global that is written

filter-by : {X : Type 0} (b : Bool) (y x : X) (ys : List X) → Contains ys x → Contains (cond b (y ∷ ys) ys) x
filter-by true y x ys c = later-there y x ys c
filter-by false y x ys c = c

pub filter-there : {X : Type 0} (test : X → Bool) (xs : List X) (x : X) → Contains xs x → test x ≡ true → Contains (filter test xs) x
filter-there test [] x c t = absurd (nowhere x c)
filter-there test (y ∷ ys) x c t = elim (Contains-append_cases (y ∷ []) ys x c) [
  | inl first ↦ let same = the-first y x first in
      subst (λ (b : Bool). Contains (cond b (y ∷ filter test ys) (filter test ys)) x) (sym (ap test same ∙ t)) (subst (Contains (y ∷ filter test ys)) same (first-there y (filter test ys)))
  | inr later ↦ filter-by (test y) y x (filter test ys) (filter-there test ys x later t)
]

pub writes-of : (p : Program) (f : FlowFn) (g : List ℕ) (t : ℕ) (k : Kind) → Contains (functions_of p) f → Contains (ops_of f) (StoreG g t k) → Contains (eligible_names p) g → Writes (graph_of p) f.name g
unfolding graph_of
writes-of p f g t k there code el = record {
  node = node_of p f;
  there = map-there (node_of p) (functions_of p) f there;
  name = refl;
  written = flat-there (written_by p) (ops_of f) (StoreG g t k) g code (filter-there (bytes_eq g) (eligible_names p) g el ((bytes_eq-Decides g g).1 refl));
}

-- after the store, the global stands in its register, and in memory it need not
own-stands : (p : Program) (d : List (List ℕ × Directives)) (x : Pair) (g : List ℕ) (r : ℕ) (v : Value) (h : HeldGlobal p d x g r) → register_of (webs_of d x.frame.function) g ≡ Some r
    → IsAlike p d x → is_of_kind h.kept.web.kind v ≡ true → h.kept.web.writes ≡ true
    → GlobalStands d (names_active (active_of x)) g h.kept.web.kind (held g (with_register r v x.registers) (web_frames d (active_of x)))
    (with-new (object_at x.objects h.number) 0 (encoding v (kind_size h.kept.web.kind))) (object_at x.memory h.number)
unfolding directed
own-stands p d x g r v h e a fits writes =
    let k : Kind = h.kept.web.kind in
    let st = a.objects.globals g k h.number h.there h.is in
    let new : List Byte = encoding v (kind_size k) in
    let long : length new ≡ kind_size k = encoding-length k v (and-left (may_stand k v) (same_value (scalar_of k new) v) fits) in
    let whole : with_bytes new 0 (object_at x.objects h.number).bytes ≡ new = with-all new (object_at x.objects h.number).bytes (long ∙ sym st.size) in
    let back : scalar_of k (with_bytes new 0 (object_at x.objects h.number).bytes) ≡ v = ap (λ (l : List Byte). scalar_of k l) whole ∙ given-back k v fits in
    record {
      lives = st.lives;
      lives_too = st.lives_too;
      size = ap (λ (l : List Byte). length l) whole ∙ long;
      size_too = st.size_too;
      kind = subst (λ (u : Value). is_of_kind k u ≡ true) (sym back) fits;
      bytes = whole ∙ ap (λ (u : Value). encoding u (kind_size k)) (sym back);
      stands = subst (λ (o : Option ℕ). IfSome (option_or (option_map (with_register r v x.registers) o) (held g (with_registers x.frame.saved (with_register r v x.registers)) (web_frames d x.callers)))
          (λ u. u ≡ scalar_of k (with_bytes new 0 (object_at x.objects h.number).bytes))) (sym e) (if-same r v (x.registers r) ∙ sym back);
      memory = λ not. absurd (not (record {
        function = x.frame.function.name;
        is_active = first-there x.frame.function.name (names_active x.callers);
        web = h.kept.web;
        within = h.kept.within;
        global = h.kept.global;
        writes = writes;
      }));
    }

frames-save : (p : Program) (d : List (List ℕ × Directives)) (fs : List Active) → AllByRecursion (IsActive p d) fs → AllByRecursion (Saves d) fs
frames-save p d [] h = tt
frames-save p d (f ∷ fs) h = (h.0.saves, frames-save p d fs h.1)

stored-globals : (p : Program) (d : List (List ℕ × Directives)) (x : Pair) (g : List ℕ) (r : ℕ) (v : Value) (h : HeldGlobal p d x g r) → IsProgram p → Sound (graph_of p) d
    → register_of (webs_of d x.frame.function) g ≡ Some r → IsAlike p d x → is_of_kind h.kept.web.kind v ≡ true → h.kept.web.writes ≡ true
    → (i : List ℕ) (j : Kind) (m : ℕ) → Contains (eligible_of p) (i, j) → global_number p i ≡ Some m
    → GlobalStands d (names_active (active_of x)) i j (held i (with_register r v x.registers) (web_frames d (active_of x)))
    (object_at (written h.number 0 (encoding v (kind_size h.kept.web.kind)) x.objects) m) (object_at x.memory m)
stored-globals p d x g r v h lawful s e a fits writes i j m c is = elim (cases_eq m h.number) [
  | inl same ↦
      let k : Kind = h.kept.web.kind in
      let new : List Byte = encoding v (kind_size k) in
      let name : g ≡ i = one-number p h.eligible.global g i h.number h.is (is ∙ ap (λ (n : ℕ). Some n) same) in
      let kind : k ≡ j = kind-of p g k j lawful h.eligible (is-eligible p g j (subst (λ (n : List ℕ). Contains (eligible_of p) (n, j)) (sym name) c)) in
      let at : GlobalStands d (names_active (active_of x)) g k (held g (with_register r v x.registers) (web_frames d (active_of x))) (object_at (written h.number 0 new x.objects) h.number) (object_at x.memory h.number) =
      subst (λ (o : Object). GlobalStands d (names_active (active_of x)) g k (held g (with_register r v x.registers) (web_frames d (active_of x))) o (object_at x.memory h.number))
      (sym (is-written x.objects h.number 0 new (a.objects.globals g k h.number h.there h.is).lives)) (own-stands p d x g r v h e a fits writes) in
      let named = subst (λ (n : List ℕ). GlobalStands d (names_active (active_of x)) n k (held n (with_register r v x.registers) (web_frames d (active_of x))) (object_at (written h.number 0 new x.objects) h.number) (object_at x.memory h.number)) name at in
      let placed = subst (λ (n : ℕ). GlobalStands d (names_active (active_of x)) i k (held i (with_register r v x.registers) (web_frames d (active_of x))) (object_at (written h.number 0 new x.objects) n) (object_at x.memory n)) (sym same) named in
      subst (λ (q : Kind). GlobalStands d (names_active (active_of x)) i q (held i (with_register r v x.registers) (web_frames d (active_of x))) (object_at (written h.number 0 new x.objects) m) (object_at x.memory m)) kind placed
  | inr other ↦
      let new : List Byte = encoding v (kind_size h.kept.web.kind) in
      let ne : h.kept.web.global ≢ i = λ u. other (same_Some m h.number (sym is ∙ ap (λ (n : List ℕ). global_number p n) (sym (sym h.kept.global ∙ u)) ∙ h.is)) in
      let stays : held i (with_register r v x.registers) (web_frames d (active_of x)) ≡ held i x.registers (web_frames d (active_of x)) =
      subst (λ (q : ℕ). held i (with_register q v x.registers) (web_frames d (active_of x)) ≡ held i x.registers (web_frames d (active_of x))) h.kept.is
      (other-globals-stay (graph_of p) d s h.kept.web i v x.frame x.callers x.registers a.linked (a.frame.saves, frames-save p d x.callers a.callers) h.kept.within ne) in
      subst (λ (o : Object). GlobalStands d (names_active (active_of x)) i j (held i (with_register r v x.registers) (web_frames d (active_of x))) o (object_at x.memory m)) (sym (is-other x.objects h.number 0 m new other))
      (subst (λ (o : Option Value). GlobalStands d (names_active (active_of x)) i j o (object_at x.objects m) (object_at x.memory m)) (sym stays) (a.objects.globals i j m c is))
]

abbrev stored : ℕ → ℕ → Value → List Byte → Pair → Pair
stored n r v new x = record x { objects = written n 0 new x.objects; registers = with_register r v x.registers }

stored-alike : (p : Program) (d : List (List ℕ × Directives)) (x : Pair) (g : List ℕ) (r : ℕ) (v : Value) (h : HeldGlobal p d x g r) → IsProgram p → Sound (graph_of p) d
    → register_of (webs_of d x.frame.function) g ≡ Some r → IsAlike p d x → is_of_kind h.kept.web.kind v ≡ true → h.kept.web.writes ≡ true → FineValue p v
    → IsAlike p d (stored h.number r v (encoding v (kind_size h.kept.web.kind)) x)
stored-alike p d x g r v h lawful s e a fits writes tame =
    let new : List Byte = encoding v (kind_size h.kept.web.kind) in record {
      frame = a.frame;
      callers = a.callers;
      linked = a.linked;
      objects = record {
        count = a.objects.count ∙ sym (count-left x.objects h.number 0 new);
        others = λ o plain. a.objects.others o plain ∙ sym (is-other x.objects h.number 0 o new
            (λ same. plain g (eligible-name p g h.kept.web.kind h.there) (h.is ∙ ap (λ (n : ℕ). Some n) (sym same))));
        globals = stored-globals p d x g r v h lawful s e a fits writes;
        tame = tame-written p x.objects h.number 0 new (encoding-tame p v (kind_size h.kept.web.kind) tame) (a.objects.globals g h.kept.web.kind h.number h.there h.is).lives a.objects.tame;
      };
      log = a.log;
    }

-- ---- the step

follows-if : (p : Program) (d : List (List ℕ × Directives)) (m : flow.Machine) (s : web.Step) (b : Bool) (o : Option (List Object)) → (b ≡ true → Follows p d (flow.changes o m) s)
    → Follows p d (flow.changes (if b then o else None) m) s
follows-if p d m s true o h = h refl
follows-if p d m s false o h = tt

abbrev pub put-by : Kind → Value → List Object → Option ℕ → Option (List Object)
put-by k v objects (Some o) = poke_in k o 0 v objects
put-by k v objects None = None

put-follows : (p : Program) (d : List (List ℕ × Directives)) (x : Pair) (g : List ℕ) (j : Kind) (r : ℕ) (v : Value) (h : HeldGlobal p d x g r) → IsProgram p → Sound (graph_of p) d
    → register_of (webs_of d x.frame.function) g ≡ Some r → IsAlike p d x → h.kept.web.writes ≡ true → FineValue p v
    → Follows p d (flow.changes (put_global p g j v x.objects) (flow_side x)) (web.On (record (web_side d x) { registers = with_register r v x.registers }))
put-follows p d x g j r v h lawful s e a writes tame =
    let after : web.Step = web.On (record (web_side d x) { registers = with_register r v x.registers }) in
    follows-if p d (flow_side x) after (is_own_kind p g j && is_of_kind j v) (put-by j v x.objects (global_number p g)) (λ both.
    let same : j ≡ h.kept.web.kind = own-kind p g j h.kept.web.kind lawful h.eligible (and-left (is_own_kind p g j) (is_of_kind j v) both) in
    let fits : is_of_kind h.kept.web.kind v ≡ true = subst (λ (k : Kind). is_of_kind k v ≡ true) same (and-right (is_own_kind p g j) (is_of_kind j v) both) in
    subst (λ (k : Kind). Follows p d (flow.changes (put-by k v x.objects (global_number p g)) (flow_side x)) after) (sym same)
    (subst (λ (o : Option ℕ). Follows p d (flow.changes (put-by h.kept.web.kind v x.objects o) (flow_side x)) after) (sym h.is)
    (follows-if p d (flow_side x) after (is_open x.objects h.number 0 (kind_size h.kept.web.kind) (kind_size h.kept.web.kind) && may_stand h.kept.web.kind v)
    (Some (written h.number 0 (encoding v (kind_size h.kept.web.kind)) x.objects)) (λ opened.
    record {
      pair = stored h.number r v (encoding v (kind_size h.kept.web.kind)) x;
      flow = refl;
      web = refl;
      alike = stored-alike p d x g r v h lawful s e a fits writes tame;
    }))))

write-follows : (p : Program) (d : List (List ℕ × Directives)) (x : Pair) (t : ℕ) (g : List ℕ) (k : Kind) (ops : List Op) (r : ℕ) → IsProgram p → Sound (graph_of p) d
    → IsAlike p d (with-ops (StoreG g t k ∷ ops) x) → register_of (webs_of d x.frame.function) g ≡ Some r → StepsFollow p d (with-ops (StoreG g t k ∷ ops) x)
unfolding flow.step web.step command
write-follows p d x t g k ops r lawful s a e =
    let y : Pair = with-ops ops x in
    let b : IsAlike p d y = ops-alike p d (with-ops (StoreG g t k ∷ ops) x) ops (λ u c. a.frame.code u (later-there (StoreG g t k) u ops c)) a in
    let h : HeldGlobal p d y g r = held-global p d y g r s e in
    let v : Value = slice_index_or x.frame.temps t Undefined in
    let writes : h.kept.web.writes ≡ true = s.writes h.kept.web x.frame.function.name h.kept.within
    (subst (λ (n : List ℕ). Writes (graph_of p) x.frame.function.name n) (sym h.kept.global)
    (writes-of p x.frame.function g t k a.frame.there (a.frame.code (StoreG g t k) (first-there (StoreG g t k) ops)) (eligible-name p g h.kept.web.kind h.there))) in
    subst (λ (o : Option ℕ). Follows p d (flow.changes (put_global p g k v y.objects) (flow_side y)) (web.does (under p d) (write_of o t (StoreG g t k)) (web_side d y))) (sym e)
    (put-follows p d y g k r v h lawful s e b writes (b.frame.temps t))

pub writes-follow : WritesFollow
writes-follow p d x t g k ops r lawful s a here e =
    subst (λ (l : List Op). StepsFollow p d (with-ops l x)) (sym here)
    (write-follows p d x t g k ops r lawful s (subst (λ (l : List Op). IsAlike p d (with-ops l x)) here a) e)
