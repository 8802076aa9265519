-- The code of a well-typed statement stays in range.
use Rattle.std.proofs.Common.{◌≡◌, ℕ, zero, suc, ◌+◌, ◌<◌, ◌≤◌, Bool, true, Option, Some, None, unwrap_or, List, [], ◌∷◌, length, refl, ap, subst, ◌∙◌, arith}
use Rattle.std.specs.Prelude.{slice_get}
use Rattle.std.specs.List.{AllByRecursion}
use Rattle.std.proofs.lemmas.List.Elements.{recursion_from_All}
use Rattle.pw_value.specs.declared.value.Kind.{Kind}
use Rattle.pw_types.specs.Records.{IsObjectType}
use Rattle.pw_types.specs.TypeTrees.{CType, Void, Int, Pointer, Array, Function as FunctionType, Record, type_of, RecordValue}
use Rattle.pw_types.specs.TypedModules.{Initialises, IsStatement, AreStatements, AreArms, IsElse, Returns}
use Rattle.pw_types.specs.TypedTrees.{Expression, Initialiser, Value, Bytes, Hidden, CaseValue, Statement, Empty, Evaluate, Block, If, While, Do, For, Switch, Label, Goto, Break, Continue, Return, Arms, NoArm, Arm, Otherwise, NoElse, Else, Statements, NoStatement, OneStatement, LocalValue, FunctionValue, ModuleValue}
use Rattle.pw_types.specs.WellTyped.{type_in, IsTyped, IsTypedOrAbsent, IsCondition, IsConditionOrAbsent}
use Rattle.pw_flow.specs.ValidFlow.{IsResult}
use Rattle.pw_flow.specs.declared.flow.BinKind.TheVariants.{Eq}
use Rattle.pw_flow.specs.declared.flow.End.TheVariants.{Jump, Branch, Return as Returned}
use Rattle.pw_lower.specs.declared.code.Code.{Code}
use Rattle.pw_lower.specs.declared.place.Ways.{Ways}
use Rattle.pw_lower.specs.declared.place.LocalPlace.{LocalPlace}
use Rattle.pw_lower.specs.Codes.{temp_of, constant, reserve, cut, cut_here, block_of_label, named_from}
use Rattle.pw_lower.specs.Places.{place_at}
use Rattle.pw_lower.specs.Operators.{with, kind_of}
use Rattle.pw_lower.specs.Expressions.{full_name, address_of_global, address_of_local, target_of_local, lower}
use Rattle.pw_lower.specs.Statements.{labels_of, local_type, initialised_by, copied_from, initialised, initialised_all, effects, test, test_or_go, choose, default_or, chosen, begun, looping, repeating, counting, switching, returning, Frame, lower_statement, lower_arms, lower_otherwise, lower_statements}
use Rattle.pw_law_lower.proofs.Sound.{Sound, Goes, Made, stays, goes_then, cuts-in, leaves-in, blocks-in, names-in, label-in, constant-in}
use Rattle.pw_law_lower.proofs.SoundExpressions.{with-in, IsPlace, Fits, fits_more, target_more, address_of_local-in, target_of_local-in, global-in, stored-in, copied-in, worth, scalar_worth, valued, any_value, lower-in}

-- ---- the types of locals have values

object_worth : (records : List RecordValue) (ty : CType) → IsObjectType records ty → worth ty ≡ 1
object_worth records Void h = absurd h
object_worth records (Int k) h = refl
object_worth records (Pointer q) h = refl
object_worth records (Array q n) h = refl
object_worth records (FunctionType q ps) h = absurd h
object_worth records (Record n) h = refl

at_place_of : {X : Type 0} (P : X → Type 0) (xs : List X) (k : ℕ) (x : X) → AllByRecursion P xs → slice_get xs k ≡ Some x → P x
at_place_of P [] k x h e = cc
at_place_of P (y ∷ ys) zero x h e = let same : y ≡ x = cc in subst P same h.0
at_place_of P (y ∷ ys) (suc k) x h e = at_place_of P ys k x h.1 e

result_in : (t : Option ℕ) (n : ℕ) → unwrap_or t 0 < n → IsResult n t
result_in None n h = tt
result_in (Some t) n h = h

module _ (m : ModuleValue) (f : FunctionValue) (fr : Frame) (slots : ℕ) (objects : AllByRecursion (λ (l : LocalValue). IsObjectType m.records (type_of l.ty)) f.locals) where
  -- where a statement begins, in a loop or a switch that `break` and `continue` leave
  pub record Ready (c : Code) (ways : Ways) : Type 0 where
    pub sound : Sound slots c
    pub fits : Fits fr.home f.locals slots c.temps
    pub out : ways.out < c.blocks
    pub on : ways.on < c.blocks

  after : (c d : Code) (ways : Ways) → Ready c ways → Goes slots c d → Ready d ways
  after c d ways r g = record {
    sound = g.sound;
    fits = fits_more fr.home f.locals slots c.temps d.temps g.temps r.fits;
    out = omega (arith, r.out, g.blocks);
    on = omega (arith, r.on, g.blocks);
  }

  -- an expression, from code further on
  value-in : (e : Expression) (c d : Code) → IsTyped m f.locals e → Fits fr.home f.locals slots c.temps → Goes slots c d → Made slots d (worth (type_in e)) (lower fr.home e d)
  value-in e c d w t g = lower-in m f.locals fr.home slots e d w (fits_more fr.home f.locals slots c.temps d.temps g.temps t) g.sound

  -- ---- initialisers

  local_worth : (k : ℕ) (l : LocalValue) → slice_get f.locals k ≡ Some l → worth (type_of l.ty) ≡ 1
  local_worth k l e = object_worth m.records (type_of l.ty) (at_place_of (λ (l : LocalValue). IsObjectType m.records (type_of l.ty)) f.locals k l objects e)

  initialised_by-in : (k : Option Kind) (ty : CType) (p : LocalPlace) (e : Expression) (c : Code) → Sound slots c → Fits fr.home f.locals slots c.temps → IsPlace slots c.temps p → IsTyped m f.locals e → worth (type_in e) ≡ 1
      → Goes slots c (initialised_by fr.home k ty p e c)
  initialised_by-in (Some kind) ty p e c s t h w some =
      let q = target_of_local p c in
      let mq = target_of_local-in slots p c s h in
      let x = lower fr.home e q.code in
      let mx = valued slots q.code x (type_in e) some (value-in e c q.code w t mq.goes) in
      goes_then mq.goes (stored-in slots kind q.target q.code x mx (target_more q.code.temps x.code.temps q.target mx.goes.temps mq.target)).goes
  initialised_by-in None ty p e c s t h w some =
      let q = address_of_local p c in
      let mq = address_of_local-in slots p c s h in
      let x = lower fr.home e q.code in
      let mx = valued slots q.code x (type_in e) some (value-in e c q.code w t mq.goes) in
      goes_then mq.goes (copied-in slots fr.home.records ty (temp_of q) q.code x mx (omega (arith, mq.reach))).goes

  copied_from-in : (ty : CType) (p : LocalPlace) (hidden : ℕ) (c : Code) → Sound slots c → IsPlace slots c.temps p → Goes slots c (copied_from fr.home ty p hidden c)
  copied_from-in ty p hidden c s h =
      let q = address_of_local p c in
      let mq = address_of_local-in slots p c s h in
      let g = full_name fr.home.name (Hidden hidden) in
      let mx = global-in slots g q.code mq.goes.sound in
      goes_then mq.goes (copied-in slots fr.home.records ty (temp_of q) q.code (address_of_global g q.code) mx (omega (arith, mq.reach))).goes

  initialised-in : (first count : ℕ) (i : Initialiser) (c : Code) → Sound slots c → Fits fr.home f.locals slots c.temps → Initialises m f.locals first count i → Goes slots c (initialised fr.home fr.locals i c)
  initialised-in first count (Value k e) c s t w =
      initialised_by-in (kind_of (local_type fr.locals k)) (local_type fr.locals k) (place_at fr.home.places k) e c s t (t k w.3.0 w.3.1) w.2 (ap worth w.3.2 ∙ local_worth k w.3.0 w.3.1)
  initialised-in first count (Bytes k hidden parts) c s t w = copied_from-in (local_type fr.locals k) (place_at fr.home.places k) hidden c s (t k w.2.0 w.2.2)

  initialised_all-in : (first count : ℕ) (all : List Initialiser) (c : Code) → Sound slots c → Fits fr.home f.locals slots c.temps → AllByRecursion (Initialises m f.locals first count) all → Goes slots c (initialised_all fr.home fr.locals all c)
  initialised_all-in first count [] c s t w = stays slots c s
  initialised_all-in first count (i ∷ rest) c s t w =
      let d = initialised fr.home fr.locals i c in
      let g = initialised-in first count i c s t w.0 in
      goes_then g (initialised_all-in first count rest d g.sound (fits_more fr.home f.locals slots c.temps d.temps g.temps t) w.1)

  -- ---- parts of statements

  effects-in : (e : Option Expression) (c : Code) → Sound slots c → Fits fr.home f.locals slots c.temps → IsTypedOrAbsent m f.locals e → Goes slots c (effects fr.home e c)
  effects-in None c s t w = stays slots c s
  effects-in (Some e) c s t w = (value-in e c c w t (stays slots c s)).goes

  test-in : (e : Expression) (so other next depth : ℕ) (c : Code) → Sound slots c → Fits fr.home f.locals slots c.temps → IsCondition m f.locals e → so < c.blocks → other < c.blocks
      → Goes slots c (test fr.home e so other next depth c)
  test-in e so other next depth c s t w h i =
      let x = lower fr.home e c in
      let mx = valued slots c x (type_in e) (scalar_worth (type_in e) w.1) (value-in e c c w.0 t (stays slots c s)) in
      goes_then mx.goes (cuts-in slots (Branch (temp_of x) so other) next depth x.code mx.goes.sound (omega (arith, mx.reach), omega (arith, h, mx.goes.blocks), omega (arith, i, mx.goes.blocks)))

  test_or_go-in : (e : Option Expression) (so other depth : ℕ) (c : Code) → Sound slots c → Fits fr.home f.locals slots c.temps → IsConditionOrAbsent m f.locals e → so < c.blocks → other < c.blocks
      → Goes slots c (test_or_go fr.home e so other depth c)
  test_or_go-in None so other depth c s t w h i = cuts-in slots (Jump so) so depth c s h
  test_or_go-in (Some e) so other depth c s t w h i = test-in e so other so depth c s t w h i

  choose-in : (v : ℕ) (cases : List CaseValue) (c : Code) → Sound slots c → v ≤ c.temps → Goes slots c (choose v cases c)
  choose-in v [] c s h = stays slots c s
  choose-in v (k ∷ rest) c s h =
      let x = with Eq v (constant k.value c) in
      let mx = with-in slots 1 Eq v c (constant k.value c) (constant-in slots 0 k.value c s (omega arith)) h (omega arith) in
      let gb = blocks-in slots 1 x.code mx.goes.sound in
      let d = cut_here (Branch (temp_of x) (block_of_label x.code k.label) x.code.blocks) x.code.blocks (reserve 1 x.code) in
      let gc = cuts-in slots (Branch (temp_of x) (block_of_label x.code k.label) x.code.blocks) x.code.blocks x.code.depth (reserve 1 x.code) gb.sound
      (omega (arith, mx.reach), omega (arith, label-in slots k.label x.code mx.goes.sound), omega arith) in
      let g = goes_then mx.goes (goes_then gb gc) in
      goes_then g (choose-in v rest d g.sound (omega (arith, h, g.temps)))

  default-in : (c : Code) (default : Option ℕ) (out : ℕ) → Sound slots c → out < c.blocks → default_or c default out < c.blocks
  default-in c None out s h = h
  default-in c (Some l) out s h = label-in slots l c s

  begun-in : (labels : List ℕ) (c : Code) → Sound slots c → Goes slots c (begun labels c)
  begun-in [] c s = stays slots c s
  begun-in (l ∷ rest) c s =
      let d = cut_here (Jump (block_of_label c l)) (block_of_label c l) c in
      let g = cuts-in slots (Jump (block_of_label c l)) (block_of_label c l) c.depth c s (label-in slots l c s) in
      goes_then g (begun-in rest d g.sound)

  returning-in : (e : Option Expression) (c : Code) → Sound slots c → Fits fr.home f.locals slots c.temps → Returns m f e → Goes slots c (returning fr.home e c)
  returning-in None c s t w = leaves-in slots (Returned None) c s tt
  returning-in (Some e) c s t w =
      let x = lower fr.home e c in
      let mx = valued slots c x (type_in e) (ap worth w.1.4 ∙ scalar_worth (type_of w.1.0) w.1.3) (value-in e c c w.0 t (stays slots c s)) in
      goes_then mx.goes (leaves-in slots (Returned x.temp) x.code mx.goes.sound (result_in x.temp x.code.temps (omega (arith, mx.reach))))

  -- ---- loops and `switch`

  looping-in : (e : Expression) (body : Ways → Code → Code) (ways : Ways) (c : Code) → Ready c ways → IsCondition m f.locals e → ((own : Ways) (d : Code) → Ready d own → Goes slots d (body own d)) → Goes slots c (looping fr.home e body c)
  looping-in e body ways c r w h =
      let head = c.blocks in
      let inner = c.blocks + 1 in
      let out = c.blocks + 2 in
      let g1 = blocks-in slots 3 c r.sound in
      let before = cut (Jump head) head (c.depth + 1) (reserve 3 c) in
      let g2 = goes_then g1 (cuts-in slots (Jump head) head (c.depth + 1) (reserve 3 c) g1.sound (omega arith)) in
      let entered = test fr.home e inner out inner (c.depth + 1) before in
      let gt = test-in e inner out inner (c.depth + 1) before g2.sound (fits_more fr.home f.locals slots c.temps before.temps g2.temps r.fits) w (omega arith) (omega arith) in
      let g3 = goes_then g2 gt in
      let own : Ways = record { out = out; on = head } in
      let ready : Ready entered own = record { sound = g3.sound; fits = fits_more fr.home f.locals slots c.temps entered.temps g3.temps r.fits; out = omega (arith, gt.blocks); on = omega (arith, gt.blocks) } in
      let gb = h own entered ready in
      goes_then g3 (goes_then gb (cuts-in slots (Jump head) out c.depth (body own entered) gb.sound (omega (arith, gt.blocks, gb.blocks))))

  repeating-in : (e : Expression) (body : Ways → Code → Code) (ways : Ways) (c : Code) → Ready c ways → IsCondition m f.locals e → ((own : Ways) (d : Code) → Ready d own → Goes slots d (body own d)) → Goes slots c (repeating fr.home e body c)
  repeating-in e body ways c r w h =
      let inner = c.blocks in
      let on = c.blocks + 1 in
      let out = c.blocks + 2 in
      let g1 = blocks-in slots 3 c r.sound in
      let before = cut (Jump inner) inner (c.depth + 1) (reserve 3 c) in
      let g2 = goes_then g1 (cuts-in slots (Jump inner) inner (c.depth + 1) (reserve 3 c) g1.sound (omega arith)) in
      let own : Ways = record { out = out; on = on } in
      let ready : Ready before own = record { sound = g2.sound; fits = fits_more fr.home f.locals slots c.temps before.temps g2.temps r.fits; out = omega arith; on = omega arith } in
      let gb = h own before ready in
      let turned = body own before in
      let gc = cuts-in slots (Jump on) on (c.depth + 1) turned gb.sound (omega (arith, gb.blocks)) in
      let last = cut (Jump on) on (c.depth + 1) turned in
      let g3 = goes_then g2 (goes_then gb gc) in
      goes_then g3 (test-in e inner out out c.depth last g3.sound (fits_more fr.home f.locals slots c.temps last.temps g3.temps r.fits) w (omega (arith, gb.blocks, gc.blocks)) (omega (arith, gb.blocks, gc.blocks)))

  counting-in :
      (first condition third : Option Expression) (body : Ways → Code → Code) (ways : Ways) (c : Code) → Ready c ways
      → IsTypedOrAbsent m f.locals first → IsConditionOrAbsent m f.locals condition → IsTypedOrAbsent m f.locals third
      → ((own : Ways) (d : Code) → Ready d own → Goes slots d (body own d)) → Goes slots c (counting fr.home first condition third body c)
  counting-in first condition third body ways c r w1 w2 w3 h =
      let head = c.blocks in
      let inner = c.blocks + 1 in
      let on = c.blocks + 2 in
      let out = c.blocks + 3 in
      let g1 = blocks-in slots 4 c r.sound in
      let ready = effects fr.home first (reserve 4 c) in
      let g2 = effects-in first (reserve 4 c) g1.sound r.fits w1 in
      let before = cut (Jump head) head (c.depth + 1) ready in
      let g3 = cuts-in slots (Jump head) head (c.depth + 1) ready g2.sound (omega (arith, g2.blocks)) in
      let to3 = goes_then g1 (goes_then g2 g3) in
      let entered = test_or_go fr.home condition inner out (c.depth + 1) before in
      let g4 = test_or_go-in condition inner out (c.depth + 1) before g3.sound (fits_more fr.home f.locals slots c.temps before.temps to3.temps r.fits) w2 (omega (arith, g2.blocks, g3.blocks)) (omega (arith, g2.blocks, g3.blocks)) in
      let to4 = goes_then to3 g4 in
      let own : Ways = record { out = out; on = on } in
      let begins : Ready entered own = record { sound = g4.sound; fits = fits_more fr.home f.locals slots c.temps entered.temps to4.temps r.fits; out = omega (arith, g2.blocks, g3.blocks, g4.blocks); on = omega (arith, g2.blocks, g3.blocks, g4.blocks) } in
      let gb = h own entered begins in
      let turned = cut (Jump on) on (c.depth + 1) (body own entered) in
      let g5 = cuts-in slots (Jump on) on (c.depth + 1) (body own entered) gb.sound (omega (arith, g2.blocks, g3.blocks, g4.blocks, gb.blocks)) in
      let to5 = goes_then to4 (goes_then gb g5) in
      let last = effects fr.home third turned in
      let g6 = effects-in third turned g5.sound (fits_more fr.home f.locals slots c.temps turned.temps to5.temps r.fits) w3 in
      goes_then to5 (goes_then g6 (cuts-in slots (Jump head) out c.depth last g6.sound (omega (arith, g2.blocks, g3.blocks, g4.blocks, gb.blocks, g5.blocks, g6.blocks))))

  switching-in :
      (e : Expression) (cases : List CaseValue) (default : Option ℕ) (body : ℕ → Code → Code) (ways : Ways) (c : Code) → Ready c ways → IsTyped m f.locals e
      → ((out : ℕ) (d : Code) → Ready d (record ways { out = out }) → Goes slots d (body out d)) → Goes slots c (switching fr.home e cases default body c)
  switching-in e cases default body ways c r w h =
      let out = c.blocks in
      let labels = labels_of cases default in
      let g1 = blocks-in slots (1 + length labels) c r.sound in
      let named = named_from (c.blocks + 1) labels (reserve (1 + length labels) c) in
      let g2 = goes_then g1 (names-in slots (c.blocks + 1) labels (reserve (1 + length labels) c) g1.sound (omega arith)) in
      let x = lower fr.home e named in
      let mx = any_value slots named x (type_in e) (value-in e c named w r.fits g2) in
      let compared = choose (temp_of x) cases x.code in
      let g3 = choose-in (temp_of x) cases x.code mx.goes.sound (omega (arith, mx.reach)) in
      let entered = chosen default out compared in
      let g4 = leaves-in slots (Jump (default_or compared default out)) compared g3.sound (default-in compared default out g3.sound (omega (arith, mx.goes.blocks, g3.blocks))) in
      let to4 = goes_then g2 (goes_then mx.goes (goes_then g3 g4)) in
      let begins : Ready entered (record ways { out = out }) = record { sound = g4.sound; fits = fits_more fr.home f.locals slots c.temps entered.temps to4.temps r.fits; out = omega (arith, mx.goes.blocks, g3.blocks, g4.blocks); on = omega (arith, r.on, to4.blocks) } in
      let gb = h out entered begins in
      goes_then to4 (goes_then gb (cuts-in slots (Jump out) out c.depth (body out entered) gb.sound (omega (arith, mx.goes.blocks, g3.blocks, g4.blocks, gb.blocks))))

  -- ---- statements

  -- what stands behind the arms of an `if`
  abbrev LastIn : Ways → Option (Code → Code) → Type 0
  LastIn ways None = Unit {0}
  LastIn ways (Some g) = (d : Code) → Ready d ways → Goes slots d (g d)

  mutual
    unfolding lower_statement IsStatement

    pub statement-in : (s : Statement) (ways : Ways) (breaks continues : Bool) (from : ℕ) (c : Code) → IsStatement m f breaks continues from s → Ready c ways → Goes slots c (lower_statement fr ways s c)
    statement-in (Empty t) ways b k from c w r = stays slots c r.sound
    statement-in (Evaluate t e) ways b k from c w r = (value-in e c c w r.fits (stays slots c r.sound)).goes
    statement-in (Block t first count initialisers items) ways b k from c w r =
        let d = initialised_all fr.home fr.locals initialisers c in
        let g = initialised_all-in first count initialisers c r.sound r.fits (recursion_from_All (Initialises m f.locals first count) initialisers w.2) in
        goes_then g (statements-in items ways b k (first + count) d w.3 (after c d ways r g))
    statement-in (If t arms otherwise) ways b k from c w r =
        arms-in arms (lower_otherwise fr ways otherwise) ways b k from c w.1 (otherwise-in otherwise ways b k from w.2) r
    statement-in (While t e body) ways b k from c w r = looping-in e (λ own d. lower_statement fr own body d) ways c r w.0 (λ own d q. statement-in body own true true from d w.1 q)
    statement-in (Do t body e) ways b k from c w r = repeating-in e (λ own d. lower_statement fr own body d) ways c r w.0 (λ own d q. statement-in body own true true from d w.1 q)
    statement-in (For t first e third body) ways b k from c w r =
        counting-in first e third (λ own d. lower_statement fr own body d) ways c r w.0 w.1 w.2 (λ own d q. statement-in body own true true from d w.3 q)
    statement-in (Switch t e cases default body) ways b k from c w r =
        switching-in e cases default (λ out d. lower_statement fr (record ways { out = out }) body d) ways c r w.0 (λ out d q. statement-in body (record ways { out = out }) true k from d w.2 q)
    statement-in (Label t labels body) ways b k from c w r =
        let d = begun labels c in
        let g = begun-in labels c r.sound in
        goes_then g (statement-in body ways b k from d w.1 (after c d ways r g))
    statement-in (Goto t l) ways b k from c w r = leaves-in slots (Jump (block_of_label c l)) c r.sound (label-in slots l c r.sound)
    statement-in (Break t) ways b k from c w r = leaves-in slots (Jump ways.out) c r.sound r.out
    statement-in (Continue t) ways b k from c w r = leaves-in slots (Jump ways.on) c r.sound r.on
    statement-in (Return t e) ways b k from c w r = returning-in e c r.sound r.fits w

    arms-in : (arms : Arms) (last : Option (Code → Code)) (ways : Ways) (breaks continues : Bool) (from : ℕ) (c : Code) → AreArms m f breaks continues from arms → LastIn ways last → Ready c ways → Goes slots c (lower_arms fr ways arms last c)
    arms-in NoArm None ways b k from c w h r = stays slots c r.sound
    arms-in NoArm (Some last) ways b k from c w h r = h c r
    arms-in (Arm t e s NoArm) None ways b k from c w h r =
        let x = lower fr.home e c in
        let mx = valued slots c x (type_in e) (scalar_worth (type_in e) w.0.1) (value-in e c c w.0.0 r.fits (stays slots c r.sound)) in
        let so = x.code.blocks in
        let join = x.code.blocks + 1 in
        let g1 = blocks-in slots 2 x.code mx.goes.sound in
        let entered = cut_here (Branch (temp_of x) so join) so (reserve 2 x.code) in
        let g2 = goes_then g1 (cuts-in slots (Branch (temp_of x) so join) so x.code.depth (reserve 2 x.code) g1.sound (omega (arith, mx.reach), omega arith, omega arith)) in
        let g3 = goes_then mx.goes g2 in
        let gs = statement-in s ways b k from entered w.1 (after c entered ways r g3) in
        goes_then g3 (goes_then gs (cuts-in slots (Jump join) join (lower_statement fr ways s entered).depth (lower_statement fr ways s entered) gs.sound (omega (arith, gs.blocks))))
    arms-in (Arm t e s NoArm) (Some last) ways b k from c w h r =
        let x = lower fr.home e c in
        let mx = valued slots c x (type_in e) (scalar_worth (type_in e) w.0.1) (value-in e c c w.0.0 r.fits (stays slots c r.sound)) in
        let so = x.code.blocks in
        let other = x.code.blocks + 1 in
        let join = x.code.blocks + 2 in
        let g1 = blocks-in slots 3 x.code mx.goes.sound in
        let entered = cut_here (Branch (temp_of x) so other) so (reserve 3 x.code) in
        let g2 = goes_then g1 (cuts-in slots (Branch (temp_of x) so other) so x.code.depth (reserve 3 x.code) g1.sound (omega (arith, mx.reach), omega arith, omega arith)) in
        let g3 = goes_then mx.goes g2 in
        let gs = statement-in s ways b k from entered w.1 (after c entered ways r g3) in
        let done = lower_statement fr ways s entered in
        let behind = cut_here (Jump join) other done in
        let g4 = cuts-in slots (Jump join) other done.depth done gs.sound (omega (arith, gs.blocks)) in
        let g5 = goes_then g3 (goes_then gs g4) in
        let gr = arms-in NoArm (Some last) ways b k from behind w.2 h (after c behind ways r g5) in
        let end = lower_arms fr ways NoArm (Some last) behind in
        goes_then g5 (goes_then gr (cuts-in slots (Jump join) join end.depth end gr.sound (omega (arith, gs.blocks, g4.blocks, gr.blocks))))
    arms-in (Arm t e s (Arm u g q rest)) last ways b k from c w h r =
        let x = lower fr.home e c in
        let mx = valued slots c x (type_in e) (scalar_worth (type_in e) w.0.1) (value-in e c c w.0.0 r.fits (stays slots c r.sound)) in
        let so = x.code.blocks in
        let other = x.code.blocks + 1 in
        let join = x.code.blocks + 2 in
        let g1 = blocks-in slots 3 x.code mx.goes.sound in
        let entered = cut_here (Branch (temp_of x) so other) so (reserve 3 x.code) in
        let g2 = goes_then g1 (cuts-in slots (Branch (temp_of x) so other) so x.code.depth (reserve 3 x.code) g1.sound (omega (arith, mx.reach), omega arith, omega arith)) in
        let g3 = goes_then mx.goes g2 in
        let gs = statement-in s ways b k from entered w.1 (after c entered ways r g3) in
        let done = lower_statement fr ways s entered in
        let behind = cut_here (Jump join) other done in
        let g4 = cuts-in slots (Jump join) other done.depth done gs.sound (omega (arith, gs.blocks)) in
        let g5 = goes_then g3 (goes_then gs g4) in
        let gr = arms-in (Arm u g q rest) last ways b k from behind w.2 h (after c behind ways r g5) in
        let end = lower_arms fr ways (Arm u g q rest) last behind in
        goes_then g5 (goes_then gr (cuts-in slots (Jump join) join end.depth end gr.sound (omega (arith, gs.blocks, g4.blocks, gr.blocks))))

    otherwise-in : (o : Otherwise) (ways : Ways) (breaks continues : Bool) (from : ℕ) → IsElse m f breaks continues from o → LastIn ways (lower_otherwise fr ways o)
    otherwise-in NoElse ways b k from w = tt
    otherwise-in (Else s) ways b k from w = λ d r. statement-in s ways b k from d w r

    statements-in : (all : Statements) (ways : Ways) (breaks continues : Bool) (from : ℕ) (c : Code) → AreStatements m f breaks continues from all → Ready c ways → Goes slots c (lower_statements fr ways all c)
    statements-in NoStatement ways b k from c w r = stays slots c r.sound
    statements-in (OneStatement s rest) ways b k from c w r =
        let d = lower_statement fr ways s c in
        let g = statement-in s ways b k from c w.0 r in
        goes_then g (statements-in rest ways b k from d w.1 (after c d ways r g))
