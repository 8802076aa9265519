-- Jumps from one block to another, and what lasts over them.
use Rattle.std.proofs.Common.{◌≡◌, ◌≢◌, ℕ, suc, ◌+◌, ◌<◌, ◌≤◌, ◌==◌, Bool, true, false, if◌then◌else◌, Option, Some, None, List, [], ◌∷◌, length, slice_index_or, append-nil, refl, ap, sym, ◌∙◌, arith, eqb-true}
use Rattle.std.proofs.lemmas.List.{append_cancel_left, get_or_past}
use Rattle.std.proofs.lemmas.List.Elements.{Contains-append_left, Contains-push}
use Rattle.std.proofs.lemmas.Option.{slice_get-get_or}
use Rattle.pw_value.specs.Objects.{Object, no_object, object_at}
use Rattle.pw_flow.specs.declared.flow.Op.{Op}
use Rattle.pw_flow.specs.declared.flow.End.{End}
use Rattle.pw_flow.specs.declared.flow.End.TheVariants.{Jump}
use Rattle.pw_flow.specs.declared.flow.Block.{Block}
use Rattle.pw_flow.specs.declared.flow.FlowFn.{FlowFn}
use Rattle.pw_lower.specs.declared.code.Code.{Code}
use Rattle.pw_lower.specs.Codes.{cut, bare}
use Rattle.pw_cmean.specs.Acts.{State, Outcome}
use Rattle.pw_run_languages.specs.Programs.{block_at}
use Rattle.pw_run_languages.specs.FlowRun.{Machine, Step, On, Astray, counted, jumps, ends, step, steps}
use Rattle.pw_law_refine.specs.Standing.{Spot}
use Rattle.pw_law_refine.specs.Activations.{Activation, Numbers, graphs, graph_of}
use Rattle.pw_law_refine.specs.Matching.{Related, Lasts, Later}
use Rattle.pw_law_refine.specs.Containing.{ContainsCode, IsAt, IsBehind}
use Rattle.pw_law_refine.specs.Meeting.{Reaches, Meets}
use Rattle.pw_law_refine_stmts.proofs.Laws.{Laws}
use Rattle.pw_law_refine_stmts.proofs.Simulation.{meets-later, meets-counted}

-- ---- blocks of a graph

-- a block of a number that was given out is there
pub block-there : (g : FlowFn) (b : ℕ) → b < length g.blocks → (next : Block) × (block_at g b ≡ Some next)
block-there g b h = (slice_index_or g.blocks b bare, slice_get-get_or g.blocks b bare h)

-- the block that was filled stands in the graph with its end
pub ended-there : (g : FlowFn) (e : End) (number depth : ℕ) (c : Code) → ContainsCode g (cut e number depth c)
    → block_at g c.cur ≡ Some (record { depth = c.depth; ops = c.ops; end = e })
ended-there g e number depth c w =
    w.closed (record { number = c.cur; block = record { depth = c.depth; ops = c.ops; end = e } }) (Contains-push c.closed (record { number = c.cur; block = record { depth = c.depth; ops = c.ops; end = e } }))

pub before-cut : (g : FlowFn) (e : End) (number depth : ℕ) (c : Code) → ContainsCode g (cut e number depth c) → ContainsCode g c
before-cut g e number depth c w = record {
  closed = λ b there. w.closed b (Contains-append_left c.closed (record { number = c.cur; block = record { depth = c.depth; ops = c.ops; end = e } } ∷ []) b there);
  filled = record {
    block = record { depth = c.depth; ops = c.ops; end = e };
    rest = [];
    there = ended-there g e number depth c w;
    ops = sym (append-nil c.ops);
  };
  temps = w.temps;
  blocks = w.blocks;
}

-- the machine has run the operations of its block, which ends so
pub record IsAtEnd (e : End) (m : Machine) : Type 0 where
  pub ops : m.frame.ops ≡ []
  pub end : m.frame.end ≡ e

ops_of : Option Block → List Op
ops_of None = []
ops_of (Some b) = b.ops

end_of : Option Block → End
end_of None = Jump 0
end_of (Some b) = b.end

at-end : (g : FlowFn) (c : Code) (e : End) (m : Machine) → block_at g c.cur ≡ Some (record { depth = c.depth; ops = c.ops; end = e }) → IsBehind g c m → IsAtEnd e m
unfolding ops_of end_of
at-end g c e m there at =
    let own : at.block.ops ≡ c.ops = ap ops_of (sym at.there ∙ there) in
    record {
      ops = append_cancel_left c.ops m.frame.ops [] (sym at.ops ∙ own ∙ sym (append-nil c.ops));
      end = at.end ∙ ap end_of (sym at.there ∙ there);
    }

-- a machine behind code that was closed is at the end of its block
pub behind-end : (g : FlowFn) (e : End) (number depth : ℕ) (c : Code) (m : Machine) → ContainsCode g (cut e number depth c) → IsBehind g c m → IsAtEnd e m
behind-end g e number depth c m w at = at-end g c e m (ended-there g e number depth c w) at

-- ---- a step to another block

-- the machine is at the beginning of a block, and nothing else has changed; an event was counted, unless it is the next
pub record HasJumped (x : Activation) (numbers : Numbers) (spots : List Spot) (b : ℕ) (s : State) (m n : Machine) : Type 0 where
  pub related : Related x numbers spots s n
  pub front : IsAt (graph_of x) b [] n
  pub temps : n.frame.temps ≡ m.frame.temps
  pub objects : n.objects ≡ m.objects
  pub rises : m.events ≤ n.events
  pub counts : m.frame.block + 1 ≢ b → m.events < n.events

abbrev gone : ℕ → Block → Machine → Machine
gone b next m = record m { frame = record m.frame { block = b; ops = next.ops; end = next.end } }

abbrev to_block : ℕ → Machine → Option Block → Step
to_block b m (Some next) = On (if b == m.frame.block + 1 then gone b next m else counted (gone b next m))
to_block b m None = Astray

-- with so many events
related-gone : (x : Activation) (numbers : Numbers) (spots : List Spot) (s : State) (m : Machine) (b : ℕ) (next : Block) (events : ℕ)
    → Related x numbers spots s m → Related x numbers spots s (record (gone b next m) { events = events })
related-gone x numbers spots s m b next events r = record {
  matches = record {
    memory = r.matches.memory;
    globals = r.matches.globals;
    input = r.matches.input;
    shows = record { output = r.matches.shows.output; read = r.matches.shows.read; log = r.matches.shows.log };
    active = r.matches.active;
    bytes = r.matches.bytes;
    small = r.matches.small;
  };
  frame = record {
    function = r.frame.function;
    base = r.frame.base;
    result = r.frame.result;
    callers = r.frame.callers;
    temps = r.frame.temps;
    scope = r.frame.scope;
    locals = λ k o e. let l = r.frame.locals k o e in record {
      local = l.local;
      is = l.is;
      live = l.live;
      size = l.size;
      stands = l.stands;
    };
    apart = r.frame.apart;
    slots = λ n g. let q = r.frame.slots n g in record { live = q.live; size = q.size };
    owned = r.frame.owned;
  };
}

has-jumped : (x : Activation) (numbers : Numbers) (spots : List Spot) (s : State) (m : Machine) (b : ℕ) (next : Block) (events : ℕ)
    → Related x numbers spots s m → block_at (graph_of x) b ≡ Some next → m.events ≤ events → (m.frame.block + 1 ≢ b → m.events < events)
    → HasJumped x numbers spots b s m (record (gone b next m) { events = events })
has-jumped x numbers spots s m b next events r there rises counts = record {
  related = related-gone x numbers spots s m b next events r;
  front = record { block = next; there = there; here = refl; ops = refl; end = refl };
  temps = refl;
  objects = refl;
  rises = rises;
  counts = counts;
}

pub jumps-goes : (x : Activation) (numbers : Numbers) (spots : List Spot) (s : State) (m : Machine) (b : ℕ)
    → Related x numbers spots s m → b < length (graph_of x).blocks → (n : Machine) × (jumps b m ≡ On n) × HasJumped x numbers spots b s m n
jumps-goes x numbers spots s m b r within = by_test (b == m.frame.block + 1) refl
  where
    next : Block
    next = (block-there (graph_of x) b within).0

    there : block_at (graph_of x) b ≡ Some next
    there = (block-there (graph_of x) b within).1

    found : block_at m.frame.function b ≡ Some next
    found = ap (λ (g : FlowFn). block_at g b) r.frame.function ∙ there

    by_test : (t : Bool) → (b == m.frame.block + 1) ≡ t → (n : Machine) × (jumps b m ≡ On n) × HasJumped x numbers spots b s m n
    by_test true e =
        let does : jumps b m ≡ On (gone b next m) =
        ap (λ (o : Option Block). to_block b m o) found ∙ ap (λ (t : Bool). On (if t then gone b next m else counted (gone b next m))) e in
        (gone b next m, does, has-jumped x numbers spots s m b next m.events r there (omega arith) (λ h. absurd (h (sym (eqb-true b (m.frame.block + 1) e)))))
    by_test false e =
        let does : jumps b m ≡ On (counted (gone b next m)) =
        ap (λ (o : Option Block). to_block b m o) found ∙ ap (λ (t : Bool). On (if t then gone b next m else counted (gone b next m))) e in
        (counted (gone b next m), does, has-jumped x numbers spots s m b next (m.events + 1) r there (omega arith) (λ h. omega arith))

-- the step at the end of a block
pub steps-end : (x : Activation) (e : End) (m : Machine) → IsAtEnd e m → step (graphs x.world) m ≡ ends e m
unfolding step
steps-end x e m at =
    ap (λ (ops : List Op). step (graphs x.world) (record m { frame = record m.frame { ops = ops } })) at.ops
    ∙ ap (λ (end : End). ends end (record m { frame = record m.frame { ops = [] } })) at.end
    ∙ ap (λ (ops : List Op). ends e (record m { frame = record m.frame { ops = ops } })) (sym at.ops)

pub jump-comes : (x : Activation) (numbers : Numbers) (spots : List Spot) (s : State) (m : Machine) (b : ℕ)
    → Related x numbers spots s m → IsAtEnd (Jump b) m → b < length (graph_of x).blocks
    → (n : Machine) × (steps (graphs x.world) 1 (On m) ≡ On n) × HasJumped x numbers spots b s m n
unfolding steps
jump-comes x numbers spots s m b r at within =
    let j = jumps-goes x numbers spots s m b r within in
    (j.0, steps-end x (Jump b) m at ∙ j.1, j.2)

-- ---- what is met behind a jump

pub meets-jump :
    {A : Type 0} → Laws → (bound : ℕ) (x : Activation) (numbers : Numbers) (spots : List Spot) (s : State) (m : Machine) (b : ℕ) (o : Outcome A) (Q : A → State → Machine → Type 0)
    → Related x numbers spots s m → IsAtEnd (Jump b) m → b < length (graph_of x).blocks
    → ((n : Machine) → HasJumped x numbers spots b s m n → Meets x.world bound n o Q) → Meets x.world bound m o Q
meets-jump laws bound x numbers spots s m b o Q r at within f =
    let j = jump-comes x numbers spots s m b r at within in
    meets-later laws x.world bound m j.0 1 o Q j.1 (f j.0 j.2)

pub meets-back :
    {A : Type 0} → Laws → (bound : ℕ) (x : Activation) (numbers : Numbers) (spots : List Spot) (s : State) (m : Machine) (b : ℕ) (o : Outcome A) (Q : A → State → Machine → Type 0)
    → Related x numbers spots s m → IsAtEnd (Jump b) m → b < length (graph_of x).blocks → m.frame.block + 1 ≢ b
    → ((n : Machine) → HasJumped x numbers spots b s m n → Meets x.world bound n o Q) → Meets x.world (suc bound) m o Q
meets-back laws bound x numbers spots s m b o Q r at within back f =
    let j = jump-comes x numbers spots s m b r at within in
    meets-counted laws x.world bound m j.0 1 o Q j.1 (j.2.counts back) (f j.0 j.2)

pub reaches-jump :
    (x : Activation) (numbers : Numbers) (spots : List Spot) (s : State) (m : Machine) (b : ℕ) (P : Machine → Type 0)
    → Related x numbers spots s m → IsAtEnd (Jump b) m → b < length (graph_of x).blocks
    → ((n : Machine) → HasJumped x numbers spots b s m n → P n) → Reaches (graphs x.world) m P
reaches-jump x numbers spots s m b P r at within f =
    let j = jump-comes x numbers spots s m b r at within in
    record { count = 1; machine = j.0; comes = j.1; holds = f j.0 j.2 }

-- ---- what lasts

pub lasts-same : (numbers : Numbers) (spots : List Spot) (s : State) (m n : Machine) → n.objects ≡ m.objects → Lasts numbers spots spots s s m n
lasts-same numbers spots s m n f = record {
  more = ([], sym (append-nil spots));
  unnamed = λ o h there not. refl;
  lives = λ o h. refl;
  ended = λ o h. ap (λ (x : Object). x.live) (get_or_past s.objects o no_object h);
  count = omega (arith, ap (λ (objects : List Object). length objects) f);
  living = λ k h. ap (λ (objects : List Object). (object_at objects k).live) f;
  sizes = λ k h. ap (λ (objects : List Object). length (object_at objects k).bytes) f;
}

-- nothing was done
unfoldable pub later-same : (x : Activation) (numbers : Numbers) (spots : List Spot) (s : State) (m : Machine) → Related x numbers spots s m → Later x numbers spots s m s m
later-same x numbers spots s m r = record { spots = spots; related = r; lasts = lasts-same numbers spots s m m refl }

unfoldable pub later-jump : (x : Activation) (numbers : Numbers) (spots : List Spot) (b : ℕ) (s : State) (m n : Machine) → HasJumped x numbers spots b s m n → Later x numbers spots s m s n
later-jump x numbers spots b s m n j = record { spots = spots; related = j.related; lasts = lasts-same numbers spots s m n j.objects }

-- one stretch behind another
unfoldable pub later-then :
    Laws → (x : Activation) (numbers : Numbers) (spots : List Spot) (s t u : State) (m n r : Machine)
    → Related x numbers spots s m → (f : Later x numbers spots s m t n) → Later x numbers f.spots t n u r → Later x numbers spots s m u r
later-then laws x numbers spots s t u m n r start f g = record {
  spots = g.spots;
  related = g.related;
  lasts = laws.lasts numbers spots f.spots g.spots s t u m n r start.matches.memory.count f.related.matches.memory.count f.lasts g.lasts;
}
