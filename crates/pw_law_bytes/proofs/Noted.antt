-- Global objects have their bytes at the calls of a program, where flow graphs do what it means.
use Rattle.std.proofs.Common.{ℕ, suc, ◌+◌, ◌≡◌, refl, ap, subst, ◌∙◌, arith, List, [], ◌∷◌, ◌++◌, length}
use Rattle.std.specs.List.{AllByRecursion}
use Rattle.pw_value.specs.declared.value.Byte.{Byte}
use Rattle.pw_value.specs.declared.value.Byte.TheVariants as B
use Rattle.pw_value.specs.Objects.{Object, object_at}
use Rattle.pw_flow.specs.declared.flow.FlowGlobal.{FlowGlobal}
use Rattle.pw_run.specs.Runs.{AreAlike, none, also, Stage, Going, Over, Wrong, Met}
use Rattle.pw_run_languages.specs.Programs.{Program}
use Rattle.pw_run_languages.specs.Traces.{Notes}
use Rattle.pw_run_languages.specs.FlowRun as flow
use Rattle.pw_cmean.specs.Acts as source
use Rattle.pw_law_source.specs.Lowering.{ByteKept, GlobalKept, GlobalsKept, MomentKept, SameGlobals}
use Rattle.pw_cmean.specs.Typed.{IsByte}
use Rattle.pw_law_bytes.specs.Stored.{HaveTheirBytes, HaveTheirBytesInC, HaveTheirBytesThen}

-- ---- the same globals

module _ (place : ℕ → ℕ) (objects : List Object) where
  like_long : (bs cs : List Byte) → AreAlike (ByteKept place objects) bs cs → length bs ≡ length cs
  like_long bs cs none = refl
  like_long bs cs (also b c more rest h t) = ap suc (like_long more rest t)

  byte_small : (b c : Byte) → ByteKept place objects b c → IsByte c → IsByte b
  byte_small B.Undefined c h small = tt
  byte_small (B.Num n) c h small = subst IsByte h small
  byte_small (B.Piece q i) c h small = tt

  like_small : (bs cs : List Byte) → AreAlike (ByteKept place objects) bs cs → AllByRecursion IsByte cs → AllByRecursion IsByte bs
  like_small bs cs none all = tt
  like_small bs cs (also b c more rest h t) all = (byte_small b c h all.0, like_small more rest t all.1)

  kept_at : (kept : List Object) (before : List FlowGlobal) (g : FlowGlobal) (after : List FlowGlobal) (n : ℕ) → GlobalsKept place (before ++ g ∷ after) n objects kept
      → GlobalKept place objects g (object_at objects (n + length before)).bytes (object_at kept (n + length before)).bytes
  kept_at kept [] g after n each =
      let at : n ≡ n + 0 = omega arith in
      subst (λ (i : ℕ). GlobalKept place objects g (object_at objects i).bytes (object_at kept i).bytes) at each.1
  kept_at kept (b ∷ before) g after n each =
      let at : suc n + length before ≡ n + length (b ∷ before) = omega arith in
      subst (λ (i : ℕ). GlobalKept place objects g (object_at objects i).bytes (object_at kept i).bytes) at (kept_at kept before g after (suc n) each.2)

pub same_kept : (q : Program) (objects kept : List Object) → SameGlobals q objects kept → HaveTheirBytes q kept → HaveTheirBytes q objects
same_kept q objects kept same have = λ before after g is.
    let each : GlobalsKept same.place (before ++ g ∷ after) 0 objects kept = subst (λ (gs : List FlowGlobal). GlobalsKept same.place gs 0 objects kept) is same.globals in
    let one = kept_at same.place objects kept before g after 0 each in
    let at : 0 + length before ≡ length before = omega arith in
    let alike : AreAlike (ByteKept same.place objects) (object_at objects (length before)).bytes (object_at kept (length before)).bytes =
    subst (λ (i : ℕ). AreAlike (ByteKept same.place objects) (object_at objects i).bytes (object_at kept i).bytes) at one.bytes in
    let w = have before after g is in
    record { long = like_long same.place objects _ _ alike ∙ w.long; small = like_small same.place objects _ _ alike w.small }

-- ---- what a program notes

module _ (q : Program) where
  moment_kept : (m : source.Moment) (n : flow.Moment) → MomentKept q m n → HaveTheirBytesThen q n → HaveTheirBytesInC q m
  moment_kept (source.Called f objects) (flow.Called g kept) h have = same_kept q objects kept h.1 have
  moment_kept (source.Called f objects) (flow.Returned g kept) h have = absurd h
  moment_kept (source.Returned f objects) (flow.Called g kept) h have = absurd h
  moment_kept (source.Returned f objects) (flow.Returned g kept) h have = same_kept q objects kept h.1 have

  log_kept : (ms : List source.Moment) (ns : List flow.Moment) → AreAlike (MomentKept q) ms ns → AllByRecursion (HaveTheirBytesThen q) ns → AllByRecursion (HaveTheirBytesInC q) ms
  log_kept ms ns none all = tt
  log_kept ms ns (also m n more rest h t) all = (moment_kept m n h all.0, log_kept more rest t all.1)

  pub stage_kept : (stage : Stage source.Moment) (run : ℕ → Stage flow.Moment) → ((n : ℕ) → Notes (AllByRecursion (HaveTheirBytesThen q)) (run n)) → Met (MomentKept q) stage run
      → Notes (AllByRecursion (HaveTheirBytesInC q)) stage
  stage_kept (Going v) run each met =
      let all : Notes (AllByRecursion (HaveTheirBytesThen q)) (Going met.view) = subst (Notes (AllByRecursion (HaveTheirBytesThen q))) met.is (each met.at) in
      log_kept v.log met.view.log met.same.log all
  stage_kept (Over end v) run each met =
      let all : Notes (AllByRecursion (HaveTheirBytesThen q)) (Over end met.view) = subst (Notes (AllByRecursion (HaveTheirBytesThen q))) met.is (each met.at) in
      log_kept v.log met.view.log met.same.log all
  stage_kept Wrong run each met = tt
