-- Lines that words can be made of, with the links of the calling convention, are items that fit.
use Rattle.std.specs.Prelude.{ℕ, pos, ◌≡◌, ◌+◌, ◌/◌, ◌%◌, ◌^◌, ◌<◌, bit_or, Bool, true, false, if◌then◌else◌, Option, Some, None, List, [], ◌∷◌}
use Rattle.std.specs.List.{AllByRecursion}
use Rattle.std.proofs.Common.{arith, subst, sym, ap, refl, ◌∙◌}
use Rattle.std.proofs.lemmas.Bool.{and_parts}
use Rattle.std.proofs.lemmas.Int.{ints}
use Rattle.pw_inst.specs.declared.Inst.{Inst}
use Rattle.pw_inst.specs.declared.Inst.TheVariants as i
use Rattle.pw_inst.specs.InstructionTable.{IsInRange}
use Rattle.pw_inst.specs.declared.line.Line.{Line}
use Rattle.pw_inst.specs.declared.line.Line.TheVariants as line
use Rattle.pw_inst.specs.declared.relocation.FixKind.{FixKind}
use Rattle.pw_inst.specs.declared.relocation.FixKind.TheVariants as kind
use Rattle.pw_inst.specs.declared.relocation.Symbol.TheVariants as symbol
use Rattle.pw_delay.specs.declared.items.Relocation.{Relocation}
use Rattle.pw_delay.specs.declared.items.Word.{Word}
use Rattle.pw_delay.specs.declared.items.Turn.{Turn}
use Rattle.pw_delay.specs.declared.items.Turn.TheVariants as turn
use Rattle.pw_delay.specs.declared.items.Item.{Item}
use Rattle.pw_delay.specs.declared.items.Item.TheVariants.{Plain, Turns, Mark}
use Rattle.pw_delay.specs.Items.{link_moved, begins_next, plain_item, item_of, before, slotted}
use Rattle.pw_delay.specs.Filling.{may_move, are_apart, branch, moves, drawn_near}
use Rattle.pw_delay.proofs.Keeping.{PropertiesMove, properties_stay, turn_lawful}
use Rattle.pw_run_languages.specs.Acts as lines
use Rattle.pw_run_languages.specs.Acts.{Acts, Full, acts, with_address, settled, symbol_address}
use Rattle.pw_run_languages.specs.CodeStands.{IsReady}
use Rattle.pw_run_languages.specs.SelectionLaws.{arranged}
use Rattle.pw_law_slots.specs.Moving.{MovedNeverStop, MovedPassNothing, MovedLeaveLinks}
use Rattle.pw_law_link_run.specs.Steps.{Setting}
use Rattle.pw_law_link_run.specs.Slots.{IsSlotWord}
use Rattle.pw_law_link_run.specs.Simulating.{IsFit}
use Rattle.pw_law_link_run.specs.Conventional.{IsConventional}

-- ---- an address in a word keeps its fields in range

left_range : (a t : ℕ) → a < 2 ^ 32 → t < 32 → IsInRange (i.Ldil (a / 2 ^ 11) t)
unfolding IsInRange
left_range a t small below = (omega (arith, small), below)

address_range : (k : FixKind) (a : ℕ) (x y : Inst) → a < 2 ^ 32 → IsInRange x → with_address k a x ≡ Some y → IsInRange y
unfolding IsInRange
address_range kind.Ldil a (i.Ldil im t) y small r e = let same : i.Ldil (a / 2 ^ 11) t ≡ y = cc in subst (λ y. IsInRange y) same (omega (arith, small), r.1)
address_range kind.Im14 a (i.Ldb im b t) y small r e = let same : i.Ldb (pos (a % 2 ^ 11)) b t ≡ y = cc in subst (λ y. IsInRange y) same ((omega (arith, ints), omega (arith, ints)), r.1, r.2)
address_range kind.Im14 a (i.Ldh im b t) y small r e = let same : i.Ldh (pos (a % 2 ^ 11)) b t ≡ y = cc in subst (λ y. IsInRange y) same ((omega (arith, ints), omega (arith, ints)), r.1, r.2)
address_range kind.Im14 a (i.Ldw im b t) y small r e = let same : i.Ldw (pos (a % 2 ^ 11)) b t ≡ y = cc in subst (λ y. IsInRange y) same ((omega (arith, ints), omega (arith, ints)), r.1, r.2)
address_range kind.Im14 a (i.Ldo im b t) y small r e = let same : i.Ldo (pos (a % 2 ^ 11)) b t ≡ y = cc in subst (λ y. IsInRange y) same ((omega (arith, ints), omega (arith, ints)), r.1, r.2)
address_range kind.Im14 a (i.Stb q im b) y small r e = let same : i.Stb q (pos (a % 2 ^ 11)) b ≡ y = cc in subst (λ y. IsInRange y) same ((omega (arith, ints), omega (arith, ints)), r.1, r.2)
address_range kind.Im14 a (i.Sth q im b) y small r e = let same : i.Sth q (pos (a % 2 ^ 11)) b ≡ y = cc in subst (λ y. IsInRange y) same ((omega (arith, ints), omega (arith, ints)), r.1, r.2)
address_range kind.Im14 a (i.Stw q im b) y small r e = let same : i.Stw q (pos (a % 2 ^ 11)) b ≡ y = cc in subst (λ y. IsInRange y) same ((omega (arith, ints), omega (arith, ints)), r.1, r.2)
address_range _ a _ y small r e = absurd cc

act_same : (c d : lines.Core) → Acts c ≡ Acts d → c.skip ≡ false → d.skip ≡ false
act_same c d e run = let same : c ≡ d = cc in subst (λ (c : lines.Core). c.skip ≡ false) same run

some_same : (x y : Inst) → Some x ≡ Some y → x ≡ y
some_same x y e = cc

settled_range : (z : Setting) (x y : Inst) (o : Option Relocation) → IsInRange x → settled z.addresses (record { inst = x; relocation = o }) ≡ Some y → IsInRange y
settled_range z x y None r e = subst IsInRange (some_same x y e) r
settled_range z x y (Some l) r e = by (symbol_address z.addresses l.symbol) refl e
  where
    by : (o : Option ℕ) → symbol_address z.addresses l.symbol ≡ o → settled z.addresses (record { inst = x; relocation = Some l }) ≡ Some y → IsInRange y
    by None s e = absurd (let none : settled z.addresses (record { inst = x; relocation = Some l }) ≡ None = rw s refl in let same : None ≡ Some y = sym none ∙ e in cc)
    by (Some a) s e =
        let is : settled z.addresses (record { inst = x; relocation = Some l }) ≡ with_address l.kind ((a + l.addend) % 2 ^ 32) x = rw s refl in
        address_range l.kind ((a + l.addend) % 2 ^ 32) x y (omega arith) r (sym is ∙ e)

-- ---- lines as items

plain_fits : (z : Setting) (x : Inst) → IsInRange x → IsFit z (plain_item x)
plain_fits z (i.Combf c r1 r2 disp) r = (r, tt)
plain_fits z _ r = λ y e. settled_range z _ y None r e

before_all : (z : Setting) (o : Option Item) (rest : List Item) → ((item : Item) → o ≡ Some item → IsFit z item) → AllByRecursion (IsFit z) rest → AllByRecursion (IsFit z) (before o rest)
before_all z None rest one all = all
before_all z (Some item) rest one all = (one item refl, all)

fit_same : (z : Setting) (a b : Item) → Some a ≡ Some b → IsFit z a → IsFit z b
fit_same z a b e h = let same : a ≡ b = cc in subst (λ item. IsFit z item) same h

jump_fits : (z : Setting) (b : ℕ) (n : Bool) (item : Item) → (if n then None else Some (Turns (turn.Goto b) None)) ≡ Some item → IsFit z item
jump_fits z b true item e = absurd cc
jump_fits z b false item e = fit_same z (Turns (turn.Goto b) None) item e tt

-- the word in the slot of a call through a register
moved_acts : (z : Setting) (c : lines.Core) → c.skip ≡ false → acts z.addresses (Some (i.Or 31 0 2)) c ≡ Acts (lines.with_register 2 (bit_or (lines.register c 31) 0) c)
moved_acts z c run = rw run refl

moved_fits : (z : Setting) → IsSlotWord z link_moved
unfolding IsInRange
moved_fits z = record {
  range = λ y e. subst IsInRange (some_same (i.Or 31 0 2) y e) (omega arith, omega arith, omega arith);
  stays = λ c run e. let no : Acts (lines.with_register 2 (bit_or (lines.register c 31) 0) c) ≡ Full = sym (moved_acts z c run) ∙ e in cc;
  runs = λ c d run e. act_same (lines.with_register 2 (bit_or (lines.register c 31) 0) c) d (sym (moved_acts z c run) ∙ e) run;
}

line_fits : (z : Setting) (l : Line) (rest : List Line) → IsReady l → IsConventional l → (item : Item) → item_of l rest ≡ Some item → IsFit z item
line_fits z (line.Plain x) rest ready conv item e = fit_same z (plain_item x) item e (plain_fits z x ready)
line_fits z (line.Fixed x k s n) rest ready conv item e =
    fit_same z (Plain (record { inst = x; relocation = Some (record { kind = k; symbol = s; addend = n }) })) item e
    (λ y e. settled_range z x y (Some (record { kind = k; symbol = s; addend = n })) ready.0 e)
line_fits z (line.Jump b) rest ready conv item e = jump_fits z b (begins_next b rest) item e
line_fits z (line.BranchNonZero r b) rest ready conv item e = fit_same z (Turns (turn.If r b) None) item e tt
line_fits z (line.Label b) rest ready conv item e = fit_same z (Mark b) item e tt
line_fits z (line.CallTo (symbol.Named f) r) rest ready conv item e = fit_same z (Turns (turn.CallTo (symbol.Named f) r) None) item e (conv, tt)
line_fits z (line.CallTo (symbol.Routine k) r) rest ready conv item e = fit_same z (Turns (turn.CallTo (symbol.Routine k) r) None) item e (conv.0, tt, tt, conv.1)
line_fits z (line.CallTo symbol.StackLimit r) rest ready conv item e = absurd conv
line_fits z (line.CallTo (symbol.Word k) r) rest ready conv item e = absurd conv
line_fits z line.CallReg rest ready conv item e = fit_same z (Turns turn.CallReg (Some link_moved)) item e (moved_fits z)
line_fits z line.Leave rest ready conv item e = fit_same z (Turns turn.Leave None) item e tt

lines_fit : (z : Setting) (lines : List Line) → AllByRecursion IsReady lines → AllByRecursion IsConventional lines → AllByRecursion (IsFit z) (slotted lines)
lines_fit z [] ready conv = tt
lines_fit z (l ∷ rest) ready conv = before_all z (item_of l rest) (slotted rest) (line_fits z l rest ready.0 conv.0) (lines_fit z rest ready.1 conv.1)

-- ---- with words in slots

-- what is known of words that move
pub record Moved : Type 0 where
  pub stays : MovedNeverStop
  pub runs : MovedPassNothing
  pub links : MovedLeaveLinks

turn_fits : Moved → (z : Setting) (w : Word) (t : Turn) → IsFit z (Turns t None) → moves w.inst t ≡ true → IsSlotWord z w → IsFit z (Turns (drawn_near t) (Some w))
turn_fits m z w (turn.Back (i.Combf c r1 r2 disp)) h free word = (turn_lawful (turn.Back (i.Combf c r1 r2 disp)) h.0, word)
turn_fits m z w (turn.Goto b) h free word = word
turn_fits m z w (turn.If r b) h free word = word
turn_fits m z w (turn.CallTo (symbol.Named f) link) h free word = (h.0, word)
turn_fits m z w (turn.CallTo (symbol.Routine k) link) h free word =
    (h.0, word, (λ c d run e. m.links z.addresses w (turn.CallTo (symbol.Routine k) link) 31 c d free (ap (λ (r : ℕ). r ∷ []) h.0) refl run e), h.3)
turn_fits m z w turn.CallReg h free word = word
turn_fits m z w turn.Leave h free word = word
turn_fits m z w t h free word = absurd h

fit_moves : Moved → (z : Setting) → PropertiesMove (IsFit z)
fit_moves m z w t plain turns free =
    let movable = (and_parts (may_move w.inst) (are_apart w.inst (branch t)) free).0 in
    turn_fits m z w t turns free (record {
      range = plain;
      stays = λ c run e. m.stays z.addresses w c movable run e;
      runs = λ c d run e. m.runs z.addresses w c d movable run e;
    })

pub arranged_fit : Moved → (z : Setting) (lines : List Line) → AllByRecursion IsReady lines → AllByRecursion IsConventional lines → AllByRecursion (IsFit z) (arranged lines)
arranged_fit m z lines ready conv = properties_stay (IsFit z) false (slotted lines) (fit_moves m z) (lines_fit z lines ready conv)
