-- Return addresses stand in memory at the same places in both runs.
use Rattle.std.proofs.Common.{◌≡◌, Bool, true, false, if◌then◌else◌, None, Some, List, [], ◌∷◌, ◌++◌, length, refl, ap, sym, subst, ◌∙◌, length-append, append_assoc, arith}
use Rattle.std.specs.Prelude.{◌&&◌, not}
use Rattle.std.proofs.lemmas.List.{append_cancel_right, nil_from_length}
use Rattle.pw_inst.specs.declared.Inst.TheVariants.{Combf}
use Rattle.pw_inst.specs.declared.relocation.Symbol.TheVariants as symbol
use Rattle.pw_delay.specs.declared.items.Word.{Word}
use Rattle.pw_delay.specs.declared.items.Turn.{Turn}
use Rattle.pw_delay.specs.declared.items.Turn.TheVariants.{Back, CallTo, CallReg}
use Rattle.pw_delay.specs.declared.items.Item.{Item}
use Rattle.pw_delay.specs.declared.items.Item.TheVariants.{Plain, Turns}
use Rattle.pw_delay.specs.Filling.{moves, drawn_near, compared, with_slot, filled}
use Rattle.pw_delay.specs.Parts.{compared_by}
use Rattle.pw_run_languages.specs.Addresses.{Addresses}
use Rattle.pw_run_languages.specs.Acts.{Core}
use Rattle.pw_run_languages.specs.LineRun.{Frame, Machine}
use Rattle.pw_run_languages.specs.Links.{LinksStand, Begins, IsFunctionCall, GoesOn, HasLinks}
use Rattle.pw_law_slots.proofs.Places.{filled_none}
use Rattle.pw_law_slots.proofs.Beside.{IsAt, AreBeside, IsBeside, address_same}

-- ---- what stands last

abbrev is_call : Item → Bool
is_call (Turns (CallTo (symbol.Named f) link) slot) = true
is_call (Turns CallReg slot) = true
is_call item = false

-- whether the last of items is a call of a function, or of what stands before them where there are none
abbrev ends_in_call : Bool → List Item → Bool
ends_in_call last [] = last
ends_in_call last (item ∷ rest) = ends_in_call (is_call item) rest

drawn_calls : (turn : Turn) (w : Word) → is_call (Turns (drawn_near turn) (Some w)) ≡ is_call (Turns turn None)
drawn_calls (Back (Combf c r1 r2 disp)) w = refl
drawn_calls (CallTo (symbol.Named f) link) w = refl
drawn_calls turn w = refl

slot_calls : (last behind : Bool) (item : Item) (rest : List Item) → ends_in_call last (with_slot behind item rest) ≡ ends_in_call last (item ∷ rest)
slot_calls last behind (Plain w) (Turns turn None ∷ rest) = by (not behind && moves w.inst turn)
  where
    by : (t : Bool) → ends_in_call last (if t then Turns (drawn_near turn) (Some w) ∷ rest else Plain w ∷ Turns turn None ∷ rest) ≡ ends_in_call last (Plain w ∷ Turns turn None ∷ rest)
    by true = ap (λ (b : Bool). ends_in_call b rest) (drawn_calls turn w)
    by false = refl
slot_calls last behind item rest = refl

filled_calls : (last behind : Bool) (items : List Item) → ends_in_call last (filled behind items) ≡ ends_in_call last items
filled_calls last behind [] = refl
filled_calls last behind (item ∷ rest) = slot_calls last behind item (filled (compared behind item) rest) ∙ filled_calls (is_call item) (compared behind item) rest

ends_so : (last : Bool) (items : List Item) (item : Item) → ends_in_call last (items ++ item ∷ []) ≡ is_call item
ends_so last [] item = refl
ends_so last (x ∷ items) item = ends_so (is_call x) items item

call_is : (item : Item) → IsFunctionCall item → is_call item ≡ true
call_is (Turns (CallTo (symbol.Named f) link) slot) h = refl
call_is (Turns CallReg slot) h = refl
call_is item h = absurd h

is_function_call : (item : Item) → is_call item ≡ true → IsFunctionCall item
is_function_call (Turns (CallTo (symbol.Named f) link) slot) e = tt
is_function_call (Turns CallReg slot) e = tt
is_function_call item e = absurd cc

record LastCall (items : List Item) : Type 0 where
  before : List Item
  item : Item
  call : IsFunctionCall item
  is : items ≡ before ++ item ∷ []

last_call : (items : List Item) → ends_in_call false items ≡ true → LastCall items
last_call [] e = absurd cc
last_call (item ∷ []) e = record { before = []; item = item; call = is_function_call item e; is = refl }
last_call (item ∷ next ∷ rest) e =
    let h = last_call (next ∷ rest) e in
    record { before = item ∷ h.before; item = h.item; call = h.call; is = ap (λ l. item ∷ l) h.is }

-- ---- where a function begins, and behind a call

before_itself : (xs ys : List Item) → xs ≡ ys ++ xs → ys ≡ []
before_itself xs ys e = nil_from_length ys (omega (arith, ap length e, length-append ys xs))

begins_too : (f g : Frame) → IsAt f g → Begins g → Begins f
begins_too f g at begins =
    let left : g.left ≡ filled (compared_by false at.before) f.left = ap (λ (g : Frame). g.left) at.is in
    let items : g.function.items ≡ filled false f.function.items = ap (λ (g : Frame). g.function.items) at.is in
    let same : filled (compared_by false at.before) f.left ≡ filled false at.before ++ filled (compared_by false at.before) f.left =
    sym left ∙ begins ∙ items ∙ at.cut.filled_parts in
    let none : at.before ≡ [] = filled_none false at.before (before_itself (filled (compared_by false at.before) f.left) (filled false at.before) same) in
    sym (at.cut.parts ∙ ap (λ (b : List Item). b ++ f.left) none)

goes_on_too : (f g : Frame) → IsAt f g → GoesOn g → GoesOn f
goes_on_too f g at h =
    let rest = filled (compared_by false at.before) f.left in
    let left : g.left ≡ rest = ap (λ (g : Frame). g.left) at.is in
    let items : g.function.items ≡ filled false f.function.items = ap (λ (g : Frame). g.function.items) at.is in
    let same : filled false at.before ++ rest ≡ (h.before ++ h.item ∷ []) ++ rest =
    sym at.cut.filled_parts ∙ sym items ∙ h.items ∙ ap (λ (l : List Item). h.before ++ h.item ∷ l) left ∙ sym (append_assoc h.before (h.item ∷ []) rest) in
    let last : filled false at.before ≡ h.before ++ h.item ∷ [] = append_cancel_right (filled false at.before) (h.before ++ h.item ∷ []) rest same in
    let ends : ends_in_call false at.before ≡ true =
    sym (filled_calls false false at.before) ∙ ap (ends_in_call false) last ∙ ends_so false h.before h.item ∙ call_is h.item h.call in
    let c = last_call at.before ends in
    record {
      before = c.before;
      item = c.item;
      call = c.call;
      items = at.cut.parts ∙ ap (λ (b : List Item). b ++ f.left) c.is ∙ append_assoc c.before (c.item ∷ []) f.left;
    }

-- ---- return addresses

links_too : (w : Addresses) (c : Core) (fs gs : List Frame) → AreBeside fs gs → LinksStand w c fs → LinksStand w c gs
links_too w c [] [] alike links = tt
links_too w c (f ∷ []) (g ∷ []) alike links = tt
links_too w c (f ∷ caller ∷ fs) (g ∷ other ∷ gs) alike links =
    let same : g.stack ≡ f.stack = ap (λ (g : Frame). g.stack) alike.0.is in (
      rw (same, address_same w caller other alike.1.0) links.0,
      links_too w c (caller ∷ fs) (other ∷ gs) alike.1 links.1,
    )
links_too w c [] (g ∷ gs) alike links = absurd alike
links_too w c (f ∷ fs) [] alike links = absurd alike
links_too w c (f ∷ []) (g ∷ other ∷ gs) alike links = absurd alike.1
links_too w c (f ∷ caller ∷ fs) (g ∷ []) alike links = absurd alike.1

pub has_links_too : (w : Addresses) (m n : Machine) → IsBeside m n → HasLinks w m → HasLinks w n
has_links_too w m n h links =
    let core : n.core ≡ m.core = ap (λ (n : Machine). n.core) h.is in record {
      at_call = λ begins. subst (λ (c : Core). LinksStand w c n.callers) (sym core) (links_too w m.core m.callers n.callers h.callers (links.at_call (begins_too m.frame n.frame h.at begins)));
      at_return = λ goes. subst (λ (c : Core). LinksStand w c (n.frame ∷ n.callers)) (sym core)
          (links_too w m.core (m.frame ∷ m.callers) (n.frame ∷ n.callers) (h.at, h.callers) (links.at_return (goes_on_too m.frame n.frame h.at goes)));
    }
