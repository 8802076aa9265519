-- A walk over lawful frames has an end, and so there is something that a call shows.
use Rattle.std.proofs.Common.{◌≡◌, ℕ, zero, suc, ◌-◌, ◌<◌, Bool, true, false, cond, List, [], ◌∷◌, Option, Some, None, Result, Ok, Err, refl, arith}
use Rattle.std.specs.Prelude.{IfSome, bytes_eq, nat_le, option_and_then}
use Rattle.std.specs.List.{AllByRecursion, find}
use Rattle.std.proofs.lemmas.Bool.{leb-true}
use Rattle.pw_value.specs.ProgramNames.{start_name}
use Rattle.pw_value.specs.declared.value.Kind.{Kind}
use Rattle.pw_object.specs.declared.object.Object.{Object}
use Rattle.pw_image.specs.declared.image.Image.{Image}
use Rattle.pw_image.specs.declared.image.Function.{Function}
use Rattle.pw_machine.specs.Core.{Core}
use Rattle.pw_debug.specs.declared.info.FrameInfo.{FrameInfo}
use Rattle.pw_debug.specs.declared.turning.At.{At}
use Rattle.pw_debug.specs.declared.turning.Finding.{Finding}
use Rattle.pw_debug.specs.declared.turning.Finding.TheVariants.{Found, Nothing, On}
use Rattle.pw_debug.specs.Holding.{frame_at, frame_of, function_at}
use Rattle.pw_debug.specs.Knowing.{IsFrame}
use Rattle.pw_debug.specs.Walk.{GoesLower, Seen, WalksTo, behind as call_behind, found_at, found_or_nothing, given_back, goes_on, in_memory, lost_at, on_or_nothing, outward, seen, start_of, turn, turn_at, turn_by_web, turn_in_memory}
use Rattle.pw_where.specs.declared.shown.Shown.{Shown}
use Rattle.pw_where.specs.Calls.{of_modules}
use Rattle.pw_where.specs.Shown.{call_line, shown_of, value_line}
use Rattle.pw_where.specs.Looks.{Shows, Values, behind, globals_of, lost_of, name_at, no_more, value_of}
use Rattle.pw_where.proofs.Orders.{by_name, in_names}

-- ---- where a walk goes on, the stack pointer is lower

abbrev IsLower : ℕ → At → Type 0
IsLower least next = next.stack < least

one_of : {X : Type 0} (P : X → Type 0) (b : Bool) (x : X) (o : Option X) → P x → IfSome o P → IfSome (cond b (Some x) o) P
one_of P true x o h rest = h
one_of P false x o h rest = rest

found_lawful : {X : Type 0} (P : X → Type 0) (p : X → Bool) (xs : List X) → AllByRecursion P xs → IfSome (find p xs) P
found_lawful P p [] all = tt
found_lawful P p (x ∷ xs) all = one_of P (p x) x (find p xs) all.0 (found_lawful P p xs all.1)

known_by : (frames : List FrameInfo) → AllByRecursion IsFrame frames → (o : Option Function) → IfSome (option_and_then (λ f. frame_of frames f.name) o) IsFrame
known_by frames all None = tt
known_by frames all (Some f) = found_lawful IsFrame (λ i. bytes_eq i.function f.name) frames all

lower_behind : (least stack : ℕ) (given : Option (List ℕ)) (link : Option ℕ) → stack < least → IfSome (option_and_then (λ registers. call_behind stack registers link) given) (IsLower least)
lower_behind least stack None link h = tt
lower_behind least stack (Some registers) None h = tt
lower_behind least stack (Some registers) (Some link) h = h

lower_if : (b : Bool) (least : ℕ) (o : Option At) → (b ≡ true → IfSome o (IsLower least)) → IfSome (cond b o None) (IsLower least)
lower_if true least o h = h refl
lower_if false least o h = tt

lower_outward : (memory : List ℕ) (i : FrameInfo) (at : At) → IsFrame i → IfSome (outward memory i at) (IsLower at.stack)
lower_outward memory i at lawful =
    lower_if (nat_le i.frame at.stack) at.stack _
    (λ e. let fits = leb-true i.frame at.stack e in lower_behind at.stack (at.stack - i.frame) (given_back memory at.stack i.saved at.registers) _ (omega (arith, fits, lawful.frame)))

lower_found : (at : At) (o : Option ℕ) → GoesLower at (found_or_nothing o)
lower_found at None = tt
lower_found at (Some value) = tt

lower_on : (at : At) (o : Option At) → IfSome o (IsLower at.stack) → GoesLower at (on_or_nothing o)
lower_on at None h = tt
lower_on at (Some next) h = h

lower_either : (at : At) (b : Bool) (x y : Finding) → GoesLower at x → GoesLower at y → GoesLower at (cond b x y)
lower_either at true x y h k = h
lower_either at false x y h k = k

lower_in_memory : (memory : List ℕ) (kind : Kind) (address : ℕ) (at : At) (i : FrameInfo) → IsFrame i → GoesLower at (turn_in_memory memory kind address at i)
lower_in_memory memory kind address at i lawful =
    lower_either at (bytes_eq i.function start_name) (found_or_nothing (in_memory memory kind address)) (on_or_nothing (outward memory i at))
    (lower_found at (in_memory memory kind address)) (lower_on at (outward memory i at) (lower_outward memory i at lawful))

lower_by_web : (s : Seen) (at : At) (i : FrameInfo) (r : Option ℕ) → IsFrame i → GoesLower at (turn_by_web s at i r)
lower_by_web s at i (Some r) lawful = tt
lower_by_web s at i None lawful = lower_in_memory s.memory s.kind s.address at i lawful

lower_at : (s : Seen) (at : At) (o : Option FrameInfo) → IfSome o IsFrame → GoesLower at (turn_at s at o)
lower_at s at None lawful = tt
lower_at s at (Some i) lawful = lower_by_web s at i _ lawful

lower : (s : Seen) (at : At) → AllByRecursion IsFrame s.frames → GoesLower at (turn s at)
lower s at all = lower_at s at (frame_at s.functions s.frames at.link) (known_by s.frames all (function_at s.functions at.link))

-- ---- a walk has an end

abbrev pub HasEnd : Seen → At → Type 0
HasEnd s at = (end : Result ℕ ℕ) × WalksTo s at end

by_turn : (s : Seen) (at : At) (f : Finding) → turn s at ≡ f → GoesLower at f → ((next : At) → next.stack < at.stack → HasEnd s next) → HasEnd s at
by_turn s at (Found value) e low more = (Ok value, found_at at value e)
by_turn s at Nothing e low more = (Err at.link, lost_at at e)
by_turn s at (On next) e low more = let rest = more next low in (rest.0, goes_on at next rest.0 e rest.1)

ends_below : (s : Seen) → AllByRecursion IsFrame s.frames → (n : ℕ) (at : At) → at.stack < n → HasEnd s at
ends_below s all zero at h = absurd (omega (arith, h))
ends_below s all (suc n) at h = by_turn s at (turn s at) refl (lower s at all) (λ next low. ends_below s all n next (omega (arith, low, h)))

pub walk_ends : (s : Seen) → AllByRecursion IsFrame s.frames → (at : At) → HasEnd s at
walk_ends s all at = ends_below s all (suc at.stack) at (omega arith)

-- ---- lines

module _ (functions : List Function) (frames : List FrameInfo) (core : Core) where
  abbrev HasLines : List Shown → Type 0
  HasLines gs = (out : Result (List ℕ) ℕ) × Values functions frames core gs out

  line_by : (g : Shown) (rest : List Shown) (end : Result ℕ ℕ) → WalksTo (seen core.memory functions frames g.object g.number.kind) (start_of core) end → HasLines rest → HasLines (g ∷ rest)
  line_by g rest (Ok word) walk more = (behind (value_line g word) more.0, value_of g rest word more.0 walk more.1)
  line_by g rest (Err address) walk more = (Err address, lost_of g rest address walk)

  pub lines_come : AllByRecursion IsFrame frames → (gs : List Shown) → HasLines gs
  lines_come all [] = (Ok [], no_more)
  lines_come all (g ∷ rest) =
      let end = walk_ends (seen core.memory functions frames g.object g.number.kind) all (start_of core) in
      line_by g rest end.0 end.1 (lines_come all rest)

pub some_sight : (image : Image) (objects : List Object) (frames : List FrameInfo) (k : ℕ) (core : Core) → AllByRecursion IsFrame frames → (lines : Result (List ℕ) ℕ) × Shows image objects frames k core lines
some_sight image objects frames k core all =
    let shown = shown_of (globals_of objects) image.globals in
    let values = lines_come image.functions frames core all (in_names shown) in (
      behind (call_line k (name_at (of_modules objects image.functions) core.front)) values.0,
      record { ordered = in_names shown; shown = by_name shown; values = values.0; walks = values.1; lines_are = refl },
    )
