-- The end of a function that enters webs: each of those that write is stored back, and its slots end.
use Rattle.std.proofs.Common.{◌≡◌, ◌≢◌, ◌+◌, ◌&&◌, ℕ, zero, suc, inl, inr, Bool, true, false, true≢false, if◌then◌else◌, Option, Some, None, List, [], ◌∷◌, length, refl, ap, sym, ◌∙◌, subst, arith, length-set}
use Rattle.std.specs.Prelude.{slice_set, Contains}
use Rattle.std.proofs.lemmas.Bool.{cases_lt, cases_eq}
use Rattle.std.proofs.lemmas.Option.{same_Some}
use Rattle.std.proofs.lemmas.List.{get_or-set_same, get_or-set_other, set_past}
use Rattle.std.proofs.lemmas.List.Elements.{Contains-append_cases}
use Rattle.pw_value.specs.declared.value.Kind.{Kind}
use Rattle.pw_value.specs.declared.value.Value.{Value}
use Rattle.pw_value.specs.declared.value.Byte.{Byte}
use Rattle.pw_value.specs.Objects.{Object, no_object, object_at, with_bytes, written, ended}
use Rattle.pw_value.specs.Values.{encoding}
use Rattle.pw_db.specs.declared.database.Web.{Web}
use Rattle.pw_db.specs.declared.database.Directives.{Directives}
use Rattle.pw_flow.specs.ValidFlow.{kind_size}
use Rattle.pw_run_languages.specs.Traces.{Event, Stored, calls_alone}
use Rattle.pw_run_languages.specs.Programs.{Program, global_number}
use Rattle.pw_run_languages.specs.Memory.{scalar_of, is_of_kind, may_stand, same_value}
use Rattle.pw_run_languages.specs.FlowRun.{put_global, end_from}
use Rattle.pw_run_languages.specs.LawfulPrograms.{IsProgram, eligible_of}
use Rattle.pw_run_languages.specs.PlacedRun as web
use Rattle.pw_run_languages.specs.PlacedRun.{held, is_eligible}
use Rattle.pw_law_direction.specs.Pairs.{Active, web_frames, under}
use Rattle.pw_law_direction.specs.Alike.{IsPlain, AreTameBytes, names_active, IsWritten, GlobalStands, ObjectsAlike}
use Rattle.pw_law_direction.proofs.Elements.{first-there, later-there, the-first}
use Rattle.pw_law_direction.proofs.Names.{IsEligible}
use Rattle.pw_law_direction.proofs.Memory.{with-new, is-written, is-other, count-left, eligible-name}
use Rattle.pw_law_direction.proofs.WebWrites.{and-left, encoding-length, with-all, put-by}
use Rattle.pw_law_direction.proofs.Bytes.{with-bytes-length}
use Rattle.pw_law_direction.proofs.Entering.{own-kind-of, open-of-kind}

-- ---- what is stored back

-- a register holds the value that its web's global has in the flow run
pub record Holds (p : Program) (objects : List Object) (registers : ℕ → Value) (w : Web) : Type 0 where
  pub number : ℕ
  pub is : global_number p w.global ≡ Some number
  pub eligible : IsEligible p w.global w.kind
  pub there : Contains (eligible_of p) (w.global, w.kind)
  pub value : registers w.reg ≡ scalar_of w.kind (object_at objects number).bytes
  pub fits : is_of_kind w.kind (scalar_of w.kind (object_at objects number).bytes) ≡ true
  pub bytes : (object_at objects number).bytes ≡ encoding (scalar_of w.kind (object_at objects number).bytes) (kind_size w.kind)

-- The memory while these webs are still to be stored back: it is the flow run's, but for globals that functions called
-- before may have written, and for those that are still to be stored.
pub record Stores (p : Program) (d : List (List ℕ × Directives)) (below : List (List ℕ)) (objects : List Object) (todo : List Web) (memory : List Object) : Type 0 where
  pub count : length memory ≡ length objects
  pub others : (o : ℕ) → IsPlain p o → object_at memory o ≡ object_at objects o
  pub lives : (g : List ℕ) (k : Kind) (n : ℕ) → Contains (eligible_of p) (g, k) → global_number p g ≡ Some n → (object_at memory n).live ≡ true
  pub size : (g : List ℕ) (k : Kind) (n : ℕ) → Contains (eligible_of p) (g, k) → global_number p g ≡ Some n → length (object_at memory n).bytes ≡ kind_size k
  pub bytes : (g : List ℕ) (k : Kind) (n : ℕ) → Contains (eligible_of p) (g, k) → global_number p g ≡ Some n → (IsWritten d g below → ⊥)
      → ((w : Web) → Contains todo w → w.writes ≡ true → w.global ≡ g → ⊥) → (object_at memory n).bytes ≡ (object_at objects n).bytes

store-one : (p : Program) (d : List (List ℕ × Directives)) (below : List (List ℕ)) (objects memory : List Object) (registers : ℕ → Value) (w : Web) (rest : List Web) (h : Holds p objects registers w)
    → Stores p d below objects (w ∷ rest) memory → Stores p d below objects rest (written h.number 0 (encoding (registers w.reg) (kind_size w.kind)) memory)
store-one p d below objects memory registers w rest h s =
    let n : ℕ = h.number in
    let v : Value = scalar_of w.kind (object_at objects n).bytes in
    let new : List Byte = encoding (registers w.reg) (kind_size w.kind) in
    let same : new ≡ encoding v (kind_size w.kind) = ap (λ (u : Value). encoding u (kind_size w.kind)) h.value in
    let live : (object_at memory n).live ≡ true = s.lives w.global w.kind n h.there h.is in
    let at : object_at (written n 0 new memory) n ≡ with-new (object_at memory n) 0 new = is-written memory n 0 new live in
    let long : length new ≡ kind_size w.kind = ap (λ (l : List Byte). length l) same ∙ encoding-length w.kind v (and-left (may_stand w.kind v) (same_value (scalar_of w.kind (encoding v (kind_size w.kind))) v) h.fits) in
    let whole : with_bytes new 0 (object_at memory n).bytes ≡ new = with-all new (object_at memory n).bytes (long ∙ sym (s.size w.global w.kind n h.there h.is)) in
    record {
      count = count-left memory n 0 new ∙ s.count;
      others = λ o plain. is-other memory n 0 o new (λ e. plain w.global (eligible-name p w.global w.kind h.there) (h.is ∙ ap (λ (q : ℕ). Some q) (sym e))) ∙ s.others o plain;
      lives = λ g k m there number. elim (cases_eq m n) [
        | inl e ↦ subst (λ (q : ℕ). (object_at (written n 0 new memory) q).live ≡ true) (sym e) (ap (λ (x : Object). x.live) at ∙ live)
        | inr ne ↦ ap (λ (x : Object). x.live) (is-other memory n 0 m new ne) ∙ s.lives g k m there number
      ];
      size = λ g k m there number. elim (cases_eq m n) [
        | inl e ↦
            let old : length (object_at memory n).bytes ≡ kind_size k = subst (λ (q : ℕ). length (object_at memory q).bytes ≡ kind_size k) e (s.size g k m there number) in
            subst (λ (q : ℕ). length (object_at (written n 0 new memory) q).bytes ≡ kind_size k) (sym e)
            (ap (λ (x : Object). length x.bytes) at ∙ with-bytes-length new 0 (object_at memory n).bytes ∙ old)
        | inr ne ↦ ap (λ (x : Object). length x.bytes) (is-other memory n 0 m new ne) ∙ s.size g k m there number
      ];
      bytes = λ g k m there number not todo. elim (cases_eq m n) [
        | inl e ↦
            subst (λ (q : ℕ). (object_at (written n 0 new memory) q).bytes ≡ (object_at objects q).bytes) (sym e)
            (ap (λ (x : Object). x.bytes) at ∙ whole ∙ same ∙ sym h.bytes)
        | inr ne ↦
            ap (λ (x : Object). x.bytes) (is-other memory n 0 m new ne) ∙ s.bytes g k m there number not (λ u c writes global. elim (Contains-append_cases (w ∷ []) rest u c) [
              | inl first ↦
                  let is : w.global ≡ g = ap (λ (x : Web). x.global) (the-first w u first) ∙ global in
                  ne (same_Some m n (sym number ∙ ap (λ (x : List ℕ). global_number p x) (sym is) ∙ h.is))
              | inr later ↦ todo u later writes global
            ])
      ];
    }

skip-one : (p : Program) (d : List (List ℕ × Directives)) (below : List (List ℕ)) (objects memory : List Object) (w : Web) (rest : List Web) → w.writes ≡ false
    → Stores p d below objects (w ∷ rest) memory → Stores p d below objects rest memory
skip-one p d below objects memory w rest idle s = record {
  count = s.count;
  others = s.others;
  lives = s.lives;
  size = s.size;
  bytes = λ g k n there number not todo. s.bytes g k n there number not (λ u c writes global. elim (Contains-append_cases (w ∷ []) rest u c) [
    | inl first ↦ true≢false (sym writes ∙ ap (λ (x : Web). x.writes) (sym (the-first w u first)) ∙ idle)
    | inr later ↦ todo u later writes global
  ]);
}

store-of-eligible : (p : Program) (objects memory : List Object) (registers : ℕ → Value) (w : Web) (h : Holds p objects registers w) → IsProgram p → (object_at memory h.number).live ≡ true → length (object_at memory h.number).bytes ≡ kind_size w.kind
    → put_global p w.global w.kind (registers w.reg) memory ≡ Some (written h.number 0 (encoding (registers w.reg) (kind_size w.kind)) memory)
store-of-eligible p objects memory registers w h lawful live size =
    let v : Value = registers w.reg in
    let k : Kind = w.kind in
    let fits : is_of_kind k v ≡ true = subst (λ (u : Value). is_of_kind k u ≡ true) (sym h.value) h.fits in
    let stands : may_stand k v ≡ true = and-left (may_stand k v) (same_value (scalar_of k (encoding v (kind_size k))) v) fits in
    ap (λ (b : Bool). if b && is_of_kind k v then put-by k v memory (global_number p w.global) else None) (own-kind-of p w.global k lawful h.eligible)
    ∙ ap (λ (b : Bool). if b then put-by k v memory (global_number p w.global) else None) fits
    ∙ ap (λ (o : Option ℕ). put-by k v memory o) h.is
    ∙ ap (λ (b : Bool). if b && may_stand k v then Some (written h.number 0 (encoding v (kind_size k)) memory) else None) (open-of-kind k (object_at memory h.number) live size)
    ∙ ap (λ (b : Bool). if b then Some (written h.number 0 (encoding v (kind_size k)) memory) else None) stands

-- ---- all that is stored back

pub record Left (p : Program) (d : List (List ℕ × Directives)) (below : List (List ℕ)) (objects : List Object) (m : web.Machine) (s : web.Step) : Type 0 where
  pub memory : List Object
  pub trace : List (Event Byte Value)
  pub on : s ≡ web.On (record m { objects = memory; trace = trace })
  pub quiet : calls_alone trace ≡ calls_alone m.trace
  pub stores : Stores p d below objects [] memory

abbrev stored-so : web.PlacedProgram → Web → web.Machine → Option (List Object) → web.Step
stored-so p w m (Some objects) = web.On (web.noted_if (is_eligible p w.global) (Stored w.global) (record m { objects = objects }))
stored-so p w m None = web.Astray

noted-on : (p : Program) (d : List (List ℕ × Directives)) (below : List (List ℕ)) (objects memory : List Object) (m : web.Machine) (w : Web) (rest : List Web) (b : Bool)
    → ((n : web.Machine) → n.registers ≡ m.registers → Stores p d below objects rest n.objects → Left p d below objects n (web.leaves_webs (under p d) rest n))
    → Stores p d below objects rest memory
    → Left p d below objects m (web.leaves_webs (under p d) rest (web.noted_if b (Stored w.global) (record m { objects = memory })))
noted-on p d below objects memory m w rest true next s =
    let r = next (record m { objects = memory; trace = Stored w.global ∷ m.trace }) refl s in
    record { memory = r.memory; trace = r.trace; on = r.on; quiet = r.quiet; stores = r.stores }
noted-on p d below objects memory m w rest false next s =
    let r = next (record m { objects = memory }) refl s in
    record { memory = r.memory; trace = r.trace; on = r.on; quiet = r.quiet; stores = r.stores }

leaves-by : (p : Program) (d : List (List ℕ × Directives)) (below : List (List ℕ)) (objects : List Object) (m : web.Machine) (w : Web) (rest : List Web) (b : Bool) → w.writes ≡ b → IsProgram p → Holds p objects m.registers w
    → ((n : web.Machine) → n.registers ≡ m.registers → Stores p d below objects rest n.objects → Left p d below objects n (web.leaves_webs (under p d) rest n))
    → Stores p d below objects (w ∷ rest) m.objects
    → Left p d below objects m (web.and_then (if b then web.stores_global (under p d) w.global w.kind (m.registers w.reg) m else web.On m) (web.leaves_webs (under p d) rest))
leaves-by p d below objects m w rest true e lawful h next s =
    subst (λ (o : Option (List Object)). Left p d below objects m (web.and_then (stored-so (under p d) w m o) (web.leaves_webs (under p d) rest)))
    (sym (store-of-eligible p objects m.objects m.registers w h lawful (s.lives w.global w.kind h.number h.there h.is) (s.size w.global w.kind h.number h.there h.is)))
    (noted-on p d below objects (written h.number 0 (encoding (m.registers w.reg) (kind_size w.kind)) m.objects) m w rest (is_eligible (under p d) w.global) next
    (store-one p d below objects m.objects m.registers w rest h s))
leaves-by p d below objects m w rest false e lawful h next s =
    let r = next m refl (skip-one p d below objects m.objects w rest e s) in
    record { memory = r.memory; trace = r.trace; on = r.on; quiet = r.quiet; stores = r.stores }

pub leaves-on : (p : Program) (d : List (List ℕ × Directives)) (below : List (List ℕ)) (objects : List Object) (registers : ℕ → Value) → IsProgram p → (ws : List Web) → ((w : Web) → Contains ws w → Holds p objects registers w)
    → (m : web.Machine) → m.registers ≡ registers → Stores p d below objects ws m.objects → Left p d below objects m (web.leaves_webs (under p d) ws m)
leaves-on p d below objects registers lawful [] each m same s = record { memory = m.objects; trace = m.trace; on = refl; quiet = refl; stores = s }
leaves-on p d below objects registers lawful (w ∷ rest) each m same s =
    leaves-by p d below objects m w rest w.writes refl lawful (subst (λ (r : ℕ → Value). Holds p objects r w) (sym same) (each w (first-there w rest)))
    (λ n e k. leaves-on p d below objects registers lawful rest (λ u c. each u (later-there w u rest c)) n (e ∙ same) k) s

-- ---- the slots end

set-alike : (xs ys : List Object) (o : ℕ) (x : Object) (q : ℕ) → length ys ≡ length xs → object_at ys q ≡ object_at xs q → object_at (slice_set ys o x) q ≡ object_at (slice_set xs o x) q
set-alike xs ys o x q e same = elim (cases_eq q o) [
  | inl at ↦ subst (λ (i : ℕ). object_at (slice_set ys o x) i ≡ object_at (slice_set xs o x) i) (sym at) (elim (cases_lt o (length xs)) [
    | inl less ↦ get_or-set_same ys o x no_object (omega (arith, less, e)) ∙ sym (get_or-set_same xs o x no_object less)
    | inr more ↦ ap (λ (l : List Object). object_at l o) (set_past ys o x (omega (arith, more, e))) ∙ subst (λ (i : ℕ). object_at ys i ≡ object_at xs i) at same ∙ sym (ap (λ (l : List Object). object_at l o) (set_past xs o x more))
  ])
  | inr ne ↦ get_or-set_other ys o q x no_object ne ∙ same ∙ sym (get_or-set_other xs o q x no_object ne)
]

ended-bytes : (xs : List Object) (o q : ℕ) → (object_at (ended o xs) q).bytes ≡ (object_at xs q).bytes
ended-bytes xs o q = elim (cases_eq q o) [
  | inl at ↦ subst (λ (i : ℕ). (object_at (ended o xs) i).bytes ≡ (object_at xs i).bytes) (sym at) (elim (cases_lt o (length xs)) [
    | inl less ↦ ap (λ (x : Object). x.bytes) (get_or-set_same xs o (record (object_at xs o) { live = false }) no_object less)
    | inr more ↦ ap (λ (l : List Object). (object_at l o).bytes) (set_past xs o (record (object_at xs o) { live = false }) more)
  ])
  | inr ne ↦ ap (λ (x : Object). x.bytes) (get_or-set_other xs o q (record (object_at xs o) { live = false }) no_object ne)
]

ended-alike : (p : Program) (d : List (List ℕ × Directives)) (active : List Active) (registers : ℕ → Value) (objects memory : List Object) (o : ℕ) → IsPlain p o
    → ObjectsAlike p d active registers objects memory → ObjectsAlike p d active registers (ended o objects) (ended o memory)
ended-alike p d active registers objects memory o plain a = record {
  count = length-set memory o (record (object_at memory o) { live = false }) ∙ a.count ∙ sym (length-set objects o (record (object_at objects o) { live = false }));
  others = λ q h.
      ap (λ (x : Object). object_at (slice_set memory o (record x { live = false })) q) (a.others o plain)
      ∙ set-alike objects memory o (record (object_at objects o) { live = false }) q a.count (a.others q h);
  globals = λ g k n there number.
      let ne : n ≢ o = λ e. plain g (eligible-name p g k there) (number ∙ ap (λ (q : ℕ). Some q) e) in
      subst (λ (x : Object). GlobalStands d (names_active active) g k (held g registers (web_frames d active)) x (object_at (ended o memory) n)) (sym (get_or-set_other objects o n (record (object_at objects o) { live = false }) no_object ne))
      (subst (λ (x : Object). GlobalStands d (names_active active) g k (held g registers (web_frames d active)) (object_at objects n) x) (sym (get_or-set_other memory o n (record (object_at memory o) { live = false }) no_object ne))
      (a.globals g k n there number));
  tame = λ q. subst (AreTameBytes p) (sym (ended-bytes objects o q)) (a.tame q);
}

pub end-alike : (p : Program) (d : List (List ℕ × Directives)) (active : List Active) (registers : ℕ → Value) (more o : ℕ) (objects memory : List Object) → ((s : ℕ) → IsPlain p (o + s))
    → ObjectsAlike p d active registers objects memory → ObjectsAlike p d active registers (end_from more o objects) (end_from more o memory)
end-alike p d active registers zero o objects memory plain a = a
end-alike p d active registers (suc more) o objects memory plain a =
    end-alike p d active registers more (suc o) (ended o objects) (ended o memory)
    (λ s. let e : o + suc s ≡ suc o + s = omega arith in subst (IsPlain p) e (plain (suc s)))
    (ended-alike p d active registers objects memory o (let e : o + 0 ≡ o = omega arith in subst (IsPlain p) e (plain 0)) a)
