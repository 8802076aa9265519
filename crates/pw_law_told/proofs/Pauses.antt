-- The k-th call of a program is one, whatever the bound and the room on the stack.
use Rattle.std.specs.Prelude.{ℕ, ◌≡◌, ◌+◌, ◌≤◌, nat_lt, Bool, true, false, List, [], ◌∷◌, ◌++◌}
use Rattle.std.proofs.Common.{arith, sym, ap, refl, ◌∙◌, append_assoc}
use Rattle.std.proofs.lemmas.Bool.{ltb-true}
use Rattle.pw_value.specs.Objects.{Object as Thing}
use Rattle.pw_cmean.specs.Worlds.{Program, World, depth}
use Rattle.pw_cmean.specs.Acts.{Moment, Called, Undefined, StackFull, Exit, Bound, Wrong, Outcome, Gives, Ends}
use Rattle.pw_cmean.specs.Lasting.{state_behind}
use Rattle.pw_cmean.specs.SourceRun.{run_main, start_state}
use Rattle.pw_law_source.specs.Source.{source_stages, staged}
use Rattle.pw_law_pause.specs.Moments.{HasRoom, IsOlder, noted_within, with_stack}
use Rattle.pw_law_calls.specs.Calls.{HasNoted, IsSourceCall, calls_among}
use Rattle.pw_law_told.specs.Told.{IsPause, world_of}

-- ---- the k-th call of a log

pub longer_counts : (later before : List Moment) (f : List ℕ) (things : List Thing) → calls_among (later ++ Called f things ∷ before) ≡ calls_among later + 1 + calls_among before
longer_counts [] before f things = omega arith
longer_counts (m ∷ later) before f things = let rest = longer_counts later before f things in omega (arith, rest)

one_moment : (later more : List Moment) (f g : List ℕ) (things others : List Thing) (s t : List Moment) → later ++ Called f things ∷ s ≡ more ++ Called g others ∷ t → calls_among s ≡ calls_among t
    → (f ≡ g) × (things ≡ others)
one_moment [] [] f g things others s t e same =
    let one : Called f things ≡ Called g others = cc in
    (cc, cc)
one_moment [] (m ∷ more) f g things others s t e same =
    let rest : s ≡ more ++ Called g others ∷ t = cc in
    let count : calls_among s ≡ calls_among (more ++ Called g others ∷ t) = ap calls_among rest in
    let long = longer_counts more t g others in
    absurd (omega (arith, count, long, same))
one_moment (m ∷ later) [] f g things others s t e same =
    let rest : later ++ Called f things ∷ s ≡ t = cc in
    let count : calls_among (later ++ Called f things ∷ s) ≡ calls_among t = ap calls_among rest in
    let long = longer_counts later s f things in
    absurd (omega (arith, count, long, same))
one_moment (m ∷ later) (l ∷ more) f g things others s t e same =
    let rest : later ++ Called f things ∷ s ≡ more ++ Called g others ∷ t = cc in
    one_moment later more f g things others s t rest same

pub one_call : (log : List Moment) (k : ℕ) (f g : List ℕ) (things others : List Thing) → IsSourceCall log k f things → IsSourceCall log k g others → (f ≡ g) × (things ≡ others)
one_call log k f g things others a b =
    let same : calls_among a.before ≡ calls_among b.before = let c = a.count in let d = b.count in omega (arith, c, d) in
    one_moment a.later b.later f g things others a.before b.before (sym a.log_is ∙ b.log_is) same

-- it is that of a log that went on from there
pub call_later : (log more : List Moment) (k : ℕ) (f : List ℕ) (things : List Thing) → IsOlder log more → IsSourceCall log k f things → IsSourceCall more k f things
call_later log more k f things older call = record {
  later = older.0 ++ call.later;
  before = call.before;
  log_is = older.1 ∙ ap (λ (l : List Moment). older.0 ++ l) call.log_is ∙ sym (append_assoc older.0 call.later (Called f things ∷ call.before));
  count = call.count;
}

-- ---- runs

moments_by : (n : ℕ) (o : Outcome (Unit {0})) (log : List Moment) → HasNoted (staged n o) log → (state_behind o).moments ≡ log
moments_by n (Gives done s) log h = h
moments_by n (Ends (Exit status) s) log h = h
moments_by n (Ends StackFull s) log h = h
moments_by n (Ends Bound s) log h = h
moments_by n (Ends (Undefined operation home token) s) log h = absurd h
moments_by n (Ends Wrong s) log h = absurd h

pub noted_is : (p : Program) (frame_of : List ℕ → ℕ) (stack : ℕ) (input : List ℕ) (n : ℕ) (log : List Moment) → HasNoted (source_stages p frame_of stack input n) log
    → noted_within (world_of p frame_of stack) input n ≡ log
unfolding source_stages
noted_is p frame_of stack input n log h = moments_by n (run_main (world_of p frame_of stack) n (start_state p input)) log h

-- functions that take no room on the stack always have room
no_depth : (p : Program) (stack : ℕ) (active : List (List ℕ)) → depth (world_of p (λ f. 0) stack) active ≡ 0
no_depth p stack [] = refl
no_depth p stack (f ∷ active) = ap (λ (n : ℕ). 0 + n) (no_depth p stack active)

pub never_full : (stack n : ℕ) → n ≤ stack → nat_lt stack n ≡ false
never_full stack n fits = by (nat_lt stack n) refl
  where
    by : (b : Bool) → nat_lt stack n ≡ b → b ≡ false
    by true e = let lt = ltb-true stack n e in absurd (omega (arith, lt, fits))
    by false e = refl

abbrev pub Longer : Type 0
Longer = (world : World) (input : List ℕ) (n m : ℕ) → n ≤ m → IsOlder (noted_within world input n) (noted_within world input m)

abbrev pub Roomier : Type 0
Roomier = (world : World) (frame_of : List ℕ → ℕ) (stack : ℕ) (input : List ℕ) (n : ℕ) → ((active : List (List ℕ)) → HasRoom world active → HasRoom (with_stack frame_of stack world) active)
    → IsOlder (noted_within world input n) (noted_within (with_stack frame_of stack world) input n)

-- what a run notes it notes first where no function takes room on the stack
pub roomless_later : Roomier → (p : Program) (frame_of : List ℕ → ℕ) (stack : ℕ) (input : List ℕ) (n : ℕ) → IsOlder (noted_within (world_of p frame_of stack) input n) (noted_within (world_of p (λ f. 0) 0) input n)
roomless_later roomier p frame_of stack input n =
    roomier (world_of p frame_of stack) (λ f. 0) 0 input n (λ active some. let none = no_depth p 0 active in never_full 0 (depth (world_of p (λ f. 0) 0) active) (omega (arith, none)))

pub pause_is : Longer → Roomier → (p : Program) (frame_of : List ℕ → ℕ) (stack : ℕ) (input : List ℕ) (n k : ℕ) (log : List Moment) (f g : List ℕ) (things others : List Thing)
    → HasNoted (source_stages p frame_of stack input n) log → IsSourceCall log k f things → IsPause p input k g others → (f ≡ g) × (things ≡ others)
pause_is longer roomier p frame_of stack input n k log f g things others noted call pause =
    let own = world_of p frame_of stack in
    let free = world_of p (λ f. 0) 0 in
    let m = n + pause.bound in
    let first : IsSourceCall (noted_within own input n) k f things = record {
      later = call.later;
      before = call.before;
      log_is = noted_is p frame_of stack input n log noted ∙ call.log_is;
      count = call.count;
    } in
    let room = roomless_later roomier p frame_of stack input n in
    let one = call_later (noted_within free input n) (noted_within free input m) k f things (longer free input n m (omega arith))
    (call_later (noted_within own input n) (noted_within free input n) k f things room first) in
    let two = call_later (noted_within free input pause.bound) (noted_within free input m) k g others (longer free input pause.bound m (omega arith)) pause.call in
    one_call (noted_within free input m) k f g things others one two
