-- Tests of values against 0, and where a machine goes at the end of a block.
use Rattle.std.proofs.Common.{◌≡◌, ℕ, zero, suc, ◌+◌, ◌==◌, Bool, true, false, not, ne_eqb, nat_le, le-leb, if◌then◌else◌, Option, Some, None, List, [], ◌∷◌, length, slice_index_or, refl, ap, sym, ◌∙◌, subst, arith, append-nil}
use Rattle.std.proofs.lemmas.Bool.{and_from, not-false}
use Rattle.std.proofs.lemmas.List.{append_cancel_left}
use Rattle.pw_value.specs.declared.value.Value.{Value}
use Rattle.pw_value.specs.declared.value.Value.TheVariants as V
use Rattle.pw_value.specs.declared.value.Pointer.{Pointer}
use Rattle.pw_value.specs.declared.value.Pointer.TheVariants as P
use Rattle.pw_value.specs.Objects.{Object, object_at}
use Rattle.pw_flow.specs.declared.flow.Op.{Op}
use Rattle.pw_flow.specs.declared.flow.End.{End}
use Rattle.pw_flow.specs.declared.flow.End.TheVariants.{Jump, Branch}
use Rattle.pw_flow.specs.declared.flow.Block.{Block}
use Rattle.pw_flow.specs.declared.flow.BinKind.TheVariants.{Eq, Ne}
use Rattle.pw_flow.specs.declared.flow.FlowFn.{FlowFn}
use Rattle.pw_lower.specs.declared.code.Code.{Code}
use Rattle.pw_cmean.specs.declared.undefined.Undef.TheVariants as U
use Rattle.pw_cmean.specs.Undefined.{◌when◌}
use Rattle.pw_cmean.specs.Acts.{State, Site, Outcome, Gives, Ends, give, stop, wrong, need, look, ◌>>=◌, go_on}
use Rattle.pw_cmean.specs.Access.{objects_now}
use Rattle.pw_cmean.specs.Operators.{truth, is_ended, is_piece}
use Rattle.pw_run_languages.specs.Values as flow
use Rattle.pw_run_languages.specs.Programs.{block_at}
use Rattle.pw_run_languages.specs.FlowRun.{Machine, Step, On, Astray, value_in, counted, jumps, branches, ends, step, steps}
use Rattle.pw_law_refine.specs.Standing.{Spot, Leads, Stands, MemoryStands}
use Rattle.pw_law_refine.specs.Activations.{Activation, Numbers, graphs, graph_of}
use Rattle.pw_law_refine.specs.Matching.{Shows, Related}
use Rattle.pw_law_refine.specs.Containing.{IsAt, IsBehind}
use Rattle.pw_law_refine.specs.Meeting.{Meets}
use Rattle.pw_law_refine.specs.Expressions.{IsDone}
use Rattle.pw_law_refine_forms.proofs.Laws.{Laws}
use Rattle.pw_law_refine_forms.proofs.Simulation.{judged, meets-then}
use Rattle.pw_law_refine_forms.proofs.Kit.{lasts-same}
use Rattle.pw_law_refine_forms.proofs.Access.{first-false}

-- ---- pointers that lead somewhere

pub somewhere : (spots : List Spot) (objects kept : List Object) (p q : Pointer) → MemoryStands spots objects kept → Leads spots p q → is_ended objects (V.At p) ≡ false
    → flow.is_somewhere kept q ≡ true
somewhere spots objects kept (P.Object o i) q m l live =
    let h = m.holds o l.object l.size (not-false (object_at objects o).live live) l.there in
    ap (λ (u : Pointer). flow.is_somewhere kept u) l.is
    ∙ and_from (object_at kept l.object).live (nat_le i (length (object_at kept l.object).bytes)) h.live (le-leb i (length (object_at kept l.object).bytes) (omega (arith, l.inside, h.same_size)))
somewhere spots objects kept (P.Function f) q m l live = ap (λ (u : Pointer). flow.is_somewhere kept u) l

-- ---- truth

-- what operations make of a value that is unlike 0, or is not
pub record IsTruth (objects : List Object) (w : Value) (holds : Bool) : Type 0 where
  pub branch : (b c : ℕ) (n : Machine) → n.objects ≡ objects → branches w b c n ≡ jumps (if holds then b else c) n
  pub equal : flow.binary objects Eq w (V.Num 0) ≡ Some (flow.truth (not holds))
  pub unequal : flow.binary objects Ne w (V.Num 0) ≡ Some (flow.truth holds)

number-truth : (objects : List Object) (n : ℕ) → IsTruth objects (V.Num n) (not (n == 0))
number-truth objects zero = record { branch = λ b c n e. refl; equal = refl; unequal = refl }
number-truth objects (suc k) =
    let e : (suc k == 0) ≡ false = ne_eqb (suc k) 0 (λ h. omega (arith, h)) in
    subst (λ (t : Bool). IsTruth objects (V.Num (suc k)) (not t)) (sym e) (record {
      branch = λ b c n h. refl;
      equal = ap (λ (t : Bool). Some (flow.truth t)) e;
      unequal = ap (λ (t : Bool). Some (flow.truth (not t))) e;
    })

pointer-truth : (objects : List Object) (q : Pointer) → flow.is_somewhere objects q ≡ true → IsTruth objects (V.At q) true
pointer-truth objects q h = record {
  branch = λ b c n e. ap (λ (t : Bool). if t then jumps b n else Astray) (ap (λ (l : List Object). flow.is_somewhere l q) e ∙ h);
  equal = ap (λ (t : Bool). if t then Some (flow.truth false) else None) h;
  unequal = ap (λ (t : Bool). if t then Some (flow.truth true) else None) h;
}

pub truth-meets :
    (bound : ℕ) (x : Activation) (spots : List Spot) (at : Site) (v w : Value) (s : State) (m : Machine) (R : Bool → State → Machine → Type 0)
    → Shows x.world s m → MemoryStands spots s.objects m.objects → Stands spots v w
    → ((holds : Bool) → IsTruth m.objects w holds → R holds s m)
    → Meets x.world bound m (truth at v s) R
unfolding truth objects_now look need give stop wrong ◌>>=◌ go_on steps
truth-meets bound x spots at (V.Num n) w s m R shows memory st f =
    judged x.world bound m at (U.EndedObject when is_ended s.objects (V.Num n) ∷ U.PointerBytes when is_piece (V.Num n) ∷ []) _ s R shows (λ none. record {
      count = 0;
      machine = m;
      comes = refl;
      holds = f (not (n == 0)) (subst (λ (u : Value). IsTruth m.objects u (not (n == 0))) (sym st) (number-truth m.objects n));
    })
truth-meets bound x spots at V.Null w s m R shows memory st f =
    judged x.world bound m at (U.EndedObject when is_ended s.objects V.Null ∷ U.PointerBytes when is_piece V.Null ∷ []) _ s R shows (λ none. record {
      count = 0;
      machine = m;
      comes = refl;
      holds = f false (subst (λ (u : Value). IsTruth m.objects u false) (sym st) (number-truth m.objects 0));
    })
truth-meets bound x spots at (V.At p) w s m R shows memory st f =
    judged x.world bound m at (U.EndedObject when is_ended s.objects (V.At p) ∷ U.PointerBytes when is_piece (V.At p) ∷ []) _ s R shows (λ none. record {
      count = 0;
      machine = m;
      comes = refl;
      holds = f true (subst (λ (u : Value). IsTruth m.objects u true) (sym st.2)
          (pointer-truth m.objects st.0 (somewhere spots s.objects m.objects p st.0 memory st.1
          (first-false U.EndedObject (is_ended s.objects (V.At p)) (U.PointerBytes when is_piece (V.At p) ∷ []) none).0)));
    })
truth-meets bound x spots at V.Undefined w s m R shows memory st f =
    judged x.world bound m at (U.EndedObject when is_ended s.objects V.Undefined ∷ U.PointerBytes when is_piece V.Undefined ∷ []) _ s R shows (λ none. tt)
truth-meets bound x spots at (V.Piece p i) w s m R shows memory st f =
    judged x.world bound m at (U.EndedObject when is_ended s.objects (V.Piece p i) ∷ U.PointerBytes when is_piece (V.Piece p i) ∷ []) _ s R shows (λ none. tt)

-- what is met where the truth is known
pub truth-goes :
    (bound : ℕ) (x : Activation) (spots : List Spot) (at : Site) (v w : Value) (s : State) (m : Machine) (R : Bool → State → Machine → Type 0)
    → Laws → Shows x.world s m → MemoryStands spots s.objects m.objects → Stands spots v w
    → ((holds : Bool) → IsTruth m.objects w holds → Meets x.world bound m (Gives holds s) R)
    → Meets x.world bound m (truth at v s) R
unfolding give ◌>>=◌ go_on
truth-goes bound x spots at v w s m R laws shows memory st f =
    subst (λ (o : Outcome Bool). Meets x.world bound m o R) (back (truth at v s))
    (meets-then laws x.world bound m (truth at v s) give (λ holds u n. Meets x.world bound n (give holds u) R) R
    (truth-meets bound x spots at v w s m (λ holds u n. Meets x.world bound n (give holds u) R) shows memory st f) (λ holds u n q. q))
  where
    back : (o : Outcome Bool) → go_on o give ≡ o
    back (Gives h u) = refl
    back (Ends ending u) = refl

-- ---- the end of a block

-- the machine has run the operations of its block, which ends so
pub record IsAtEnd (e : End) (m : Machine) : Type 0 where
  pub ops : m.frame.ops ≡ []
  pub end : m.frame.end ≡ e

ops_of : Option Block → List Op
ops_of None = []
ops_of (Some b) = b.ops

end_of : Option Block → End
end_of None = Jump 0
end_of (Some b) = b.end

pub at-end : (g : FlowFn) (c : Code) (e : End) (m : Machine) → block_at g c.cur ≡ Some (record { depth = c.depth; ops = c.ops; end = e }) → IsBehind g c m → IsAtEnd e m
unfolding ops_of end_of
at-end g c e m there at =
    let own : at.block.ops ≡ c.ops = ap ops_of (sym at.there ∙ there) in
    record {
      ops = append_cancel_left c.ops m.frame.ops [] (sym at.ops ∙ own ∙ sym (append-nil c.ops));
      end = at.end ∙ ap end_of (sym at.there ∙ there);
    }

-- ---- to another block

-- the machine is at the beginning of a block, and nothing else has changed
pub record HasGone (x : Activation) (numbers : Numbers) (spots : List Spot) (b : ℕ) (s : State) (m n : Machine) : Type 0 where
  pub related : Related x numbers spots s n
  pub front : IsAt (graph_of x) b [] n
  pub temps : n.frame.temps ≡ m.frame.temps
  pub objects : n.objects ≡ m.objects

-- where a machine has gone to another block, nothing was done
unfoldable pub gone-done : (x : Activation) (numbers : Numbers) (spots : List Spot) (assigned : List ℕ) (b : ℕ) (c : Code) (s : State) (m n : Machine)
    → HasGone x numbers spots b s m n → IsDone x numbers spots assigned c s m s n
gone-done x numbers spots assigned b c s m n g = record {
  later = record { spots = spots; related = g.related; lasts = lasts-same numbers spots s m n g.objects };
  temps = λ i h not. ap (λ (l : List Value). slice_index_or l i V.Undefined) g.temps;
}

abbrev gone : ℕ → Block → Machine → Machine
gone b next m = record m { frame = record m.frame { block = b; ops = next.ops; end = next.end } }

abbrev to_block : ℕ → Machine → Option Block → Step
to_block b m (Some next) = On (if b == m.frame.block + 1 then gone b next m else counted (gone b next m))
to_block b m None = Astray

-- with so many events
related-gone : (x : Activation) (numbers : Numbers) (spots : List Spot) (s : State) (m : Machine) (b : ℕ) (next : Block) (events : ℕ)
    → Related x numbers spots s m → Related x numbers spots s (record (gone b next m) { events = events })
related-gone x numbers spots s m b next events r = record {
  matches = record {
    memory = r.matches.memory;
    globals = r.matches.globals;
    input = r.matches.input;
    shows = record { output = r.matches.shows.output; read = r.matches.shows.read; log = r.matches.shows.log };
    active = r.matches.active;
    bytes = r.matches.bytes;
    small = r.matches.small;
  };
  frame = record {
    function = r.frame.function;
    base = r.frame.base;
    result = r.frame.result;
    callers = r.frame.callers;
    temps = r.frame.temps;
    scope = r.frame.scope;
    locals = λ k o e. let l = r.frame.locals k o e in record {
      local = l.local;
      is = l.is;
      live = l.live;
      size = l.size;
      stands = l.stands;
    };
    apart = r.frame.apart;
    slots = λ n g. let q = r.frame.slots n g in record { live = q.live; size = q.size };
    owned = r.frame.owned;
  };
}

has-gone : (x : Activation) (numbers : Numbers) (spots : List Spot) (s : State) (m : Machine) (b : ℕ) (next : Block) (events : ℕ)
    → Related x numbers spots s m → block_at (graph_of x) b ≡ Some next → HasGone x numbers spots b s m (record (gone b next m) { events = events })
has-gone x numbers spots s m b next events r there = record {
  related = related-gone x numbers spots s m b next events r;
  front = record { block = next; there = there; here = refl; ops = refl; end = refl };
  temps = refl;
  objects = refl;
}

pub jumps-goes : (x : Activation) (numbers : Numbers) (spots : List Spot) (s : State) (m : Machine) (b : ℕ) (next : Block)
    → Related x numbers spots s m → block_at (graph_of x) b ≡ Some next → (n : Machine) × (jumps b m ≡ On n) × HasGone x numbers spots b s m n
jumps-goes x numbers spots s m b next r there = by_test (b == m.frame.block + 1) refl
  where
    found : block_at m.frame.function b ≡ Some next
    found = ap (λ (g : FlowFn). block_at g b) r.frame.function ∙ there

    by_test : (t : Bool) → (b == m.frame.block + 1) ≡ t → (n : Machine) × (jumps b m ≡ On n) × HasGone x numbers spots b s m n
    by_test true e =
        let does : jumps b m ≡ On (gone b next m) =
        ap (λ (o : Option Block). to_block b m o) found ∙ ap (λ (t : Bool). On (if t then gone b next m else counted (gone b next m))) e in
        (gone b next m, does, has-gone x numbers spots s m b next m.events r there)
    by_test false e =
        let does : jumps b m ≡ On (counted (gone b next m)) =
        ap (λ (o : Option Block). to_block b m o) found ∙ ap (λ (t : Bool). On (if t then gone b next m else counted (gone b next m))) e in
        (counted (gone b next m), does, has-gone x numbers spots s m b next (m.events + 1) r there)

-- the step at the end of a block
pub steps-end : (x : Activation) (e : End) (m : Machine) → IsAtEnd e m → step (graphs x.world) m ≡ ends e m
unfolding step
steps-end x e m at =
    ap (λ (ops : List Op). step (graphs x.world) (record m { frame = record m.frame { ops = ops } })) at.ops
    ∙ ap (λ (end : End). ends end (record m { frame = record m.frame { ops = [] } })) at.end
    ∙ ap (λ (ops : List Op). ends e (record m { frame = record m.frame { ops = ops } })) (sym at.ops)

pub jump-comes : (x : Activation) (numbers : Numbers) (spots : List Spot) (s : State) (m : Machine) (b : ℕ) (next : Block)
    → Related x numbers spots s m → block_at (graph_of x) b ≡ Some next → IsAtEnd (Jump b) m
    → (n : Machine) × (steps (graphs x.world) 1 (On m) ≡ On n) × HasGone x numbers spots b s m n
unfolding steps
jump-comes x numbers spots s m b next r there at =
    let j = jumps-goes x numbers spots s m b next r there in
    (j.0, steps-end x (Jump b) m at ∙ j.1, j.2)

pub branch-comes : (x : Activation) (numbers : Numbers) (spots : List Spot) (s : State) (m : Machine) (t b c : ℕ) (holds : Bool) (next : Block)
    → Related x numbers spots s m → IsTruth m.objects (value_in m.frame t) holds → block_at (graph_of x) (if holds then b else c) ≡ Some next → IsAtEnd (Branch t b c) m
    → (n : Machine) × (steps (graphs x.world) 1 (On m) ≡ On n) × HasGone x numbers spots (if holds then b else c) s m n
unfolding steps
branch-comes x numbers spots s m t b c holds next r truth there at =
    let j = jumps-goes x numbers spots s m (if holds then b else c) next r there in
    (j.0, steps-end x (Branch t b c) m at ∙ truth.branch b c m refl ∙ j.1, j.2)
