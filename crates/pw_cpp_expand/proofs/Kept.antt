-- What is at hand is the same where sets are added.
use Rattle.std.proofs.Common.{◌≡◌, ℕ, ◌<◌, ◌≤◌, List, [], ◌∷◌, ◌++◌, length, map, reverse, refl, sym, ap, ◌∙◌, subst, All, arith}
use Rattle.std.proofs.Common.{append_assoc}
use Rattle.std.proofs.lemmas.List.{reverse-append}
use Rattle.std.proofs.lemmas.List.Elements.{All-append, All-cons, All-head, All-nil, All-same, All-tail, All-weaker}
use Rattle.pw_cpp_expand.specs.AtHand.{Comes, ComesTo, IsCallKnown, IsKnown, Opened, argument_named, opened, raw_named}
use Rattle.pw_cpp_expand.specs.Expansion.{Outcome}
use Rattle.pw_cpp_expand.specs.Lookahead.{Lexeme}
use Rattle.pw_cpp_expand.specs.Numbered.{AreKnown, HaveEmpty, all_named, at_hand, named}
use Rattle.pw_cpp_expand.specs.declared.expansion.Call.{Call}
use Rattle.pw_cpp_expand.specs.declared.expansion.Expander.{Expander}
use Rattle.pw_cpp_expand.specs.declared.expansion.Raw.{Raw}
use Rattle.pw_cpp_expand.specs.declared.progress.Lexeme.{Lexeme as Numbered}
use Rattle.pw_cpp_expand.specs.declared.progress.Mode.{Mode}
use Rattle.pw_cpp_expand.specs.declared.progress.Progress.{Progress}
use Rattle.pw_cpp_expand.specs.declared.result.Expanded.{Expanded as Argument}
use Rattle.pw_cpp_macros.specs.Macros.{Macros}
use Rattle.pw_cpp_sets.specs.Sets.{Keeps, Known, set_at}

-- ---- lists

both : {A : Type 0} {x y : A} {xs ys : List A} → x ≡ y → xs ≡ ys → x ∷ xs ≡ y ∷ ys
both a b = cc

map-same : {A B : Type 0} (P : A → Type 0) (f g : A → B) → ((a : A) → P a → f a ≡ g a) → (xs : List A) → All P xs → map f xs ≡ map g xs
map-same P f g e [] h = refl
map-same P f g e (x ∷ xs) h = both (e x (All-head P x xs h)) (map-same P f g e xs (All-tail P x xs h))

pub reversed-all : {A : Type 0} (P : A → Type 0) (xs : List A) → All P xs → All P (reverse xs)
reversed-all P [] h = h
reversed-all P (x ∷ xs) h =
    All-same P (reverse (x ∷ xs)) (reverse xs ++ x ∷ []) (reverse-append (x ∷ []) xs)
    (All-append P (reverse xs) (x ∷ []) (reversed-all P xs (All-tail P x xs h)) (All-cons P x [] (All-head P x xs h) (All-nil P)))

-- the last is the first of the reverse
pub reverse-more : {A : Type 0} (xs : List A) (x : A) → reverse (xs ++ x ∷ []) ≡ x ∷ reverse xs
reverse-more xs x = reverse-append xs (x ∷ [])

-- one that is taken off the end stands in front of what was turned before
pub turned-more : {A : Type 0} (done old new : List A) (x : A) → old ≡ new ++ x ∷ [] → (done ++ x ∷ []) ++ reverse new ≡ done ++ reverse old
turned-more done old new x e = append_assoc done (x ∷ []) (reverse new) ∙ ap (λ z. done ++ z) (sym (ap reverse e ∙ reverse-more new x))

-- ---- what sets that are added leave

pub keeps-on : (a b c : Known) → Keeps a b → Keeps b c → Keeps a c
keeps-on a b c h k = record { count = omega (arith, h.count, k.count); same = λ number l. k.same number (omega (arith, l, h.count)) ∙ h.same number l }

module _ (known new : Known) (keeps : Keeps known new) where
  pub named-kept : (l : Numbered) → l.hidden < length known → named new l ≡ named known l
  named-kept l h = ap (λ x. record { token = l.token; hidden = x; place = l.place }) (keeps.same l.hidden h)

  pub all-kept : (ls : List Numbered) → AreKnown known ls → all_named new ls ≡ all_named known ls
  all-kept ls h = map-same (λ (l : Numbered). l.hidden < length known) (named new) (named known) named-kept ls h

  pub hand-kept : (ls : List Numbered) → AreKnown known ls → at_hand new ls ≡ at_hand known ls
  hand-kept ls h = all-kept (reverse ls) (reversed-all (λ (l : Numbered). l.hidden < length known) ls h)

  raw-kept : (raw : Raw) → AreKnown known raw.tokens → (source : List ℕ) → raw_named source new raw ≡ raw_named source known raw
  raw-kept raw h source = ap (λ x. ((raw_named source known raw).0, x)) (all-kept raw.tokens h)

  argument-kept : (argument : Argument) → AreKnown known argument.tokens → (source : List ℕ) → argument_named source new argument ≡ argument_named source known argument
  argument-kept argument h source = ap (λ x. ((argument_named source known argument).0, x)) (all-kept argument.tokens h)

  pub arguments-kept : (source : List ℕ) (arguments : List Argument) → All (λ argument. AreKnown known argument.tokens) arguments
      → map (argument_named source new) arguments ≡ map (argument_named source known) arguments
  arguments-kept source arguments h =
      map-same (λ (a : Argument). AreKnown known a.tokens) (argument_named source new) (argument_named source known) (λ a k. argument-kept a k source) arguments h

  pub raws-kept : (source : List ℕ) (raws : List Raw) → All (λ raw. AreKnown known raw.tokens) raws → map (raw_named source new) (reverse raws) ≡ map (raw_named source known) (reverse raws)
  raws-kept source raws h =
      map-same (λ (raw : Raw). AreKnown known raw.tokens) (raw_named source new) (raw_named source known) (λ raw k. raw-kept raw k source) (reverse raws)
      (reversed-all (λ (raw : Raw). AreKnown known raw.tokens) raws h)

  pub opened-kept : (source : List ℕ) (call : Call) → IsCallKnown known call → opened source new call ≡ opened source known call
  opened-kept source call h = same
    where
      waiting_is : map (raw_named source new) (reverse call.waiting) ≡ map (raw_named source known) (reverse call.waiting)
      waiting_is = raws-kept source call.waiting h.1

      expanded_is : map (argument_named source new) call.expanded ≡ map (argument_named source known) call.expanded
      expanded_is = arguments-kept source call.expanded h.2

      behind_is : at_hand new call.behind ≡ at_hand known call.behind
      behind_is = hand-kept call.behind h.3

      before_is : all_named new call.before ≡ all_named known call.before
      before_is = all-kept call.before h.4

      same : opened source new call ≡ opened source known call
      same = λ i. record {
        meaning = call.meaning.now;
        hidden = keeps.same call.replaced.hidden h.0 i;
        place = call.replaced.place;
        parameter = (opened source known call).parameter;
        waiting = waiting_is i;
        expanded = expanded_is i;
        behind = behind_is i;
        before = before_is i;
      }

  pub calls-kept : (source : List ℕ) (calls : List Call) → All (IsCallKnown known) calls → map (opened source new) (reverse calls) ≡ map (opened source known) (reverse calls)
  calls-kept source calls h =
      map-same (IsCallKnown known) (opened source new) (opened source known) (opened-kept source) (reverse calls) (reversed-all (IsCallKnown known) calls h)

  -- ---- what is known stays known

  pub empty-on : HaveEmpty known → HaveEmpty new
  empty-on h = (omega (arith, h.0, keeps.count), keeps.same 0 h.0 ∙ h.1)

  pub known-on : (ls : List Numbered) → AreKnown known ls → AreKnown new ls
  known-on ls h = All-weaker (λ (l : Numbered). l.hidden < length known) (λ (l : Numbered). l.hidden < length new) (λ l k. omega (arith, k, keeps.count)) ls h

  pub raws-on : (raws : List Raw) → All (λ raw. AreKnown known raw.tokens) raws → All (λ raw. AreKnown new raw.tokens) raws
  raws-on raws h = All-weaker (λ (raw : Raw). AreKnown known raw.tokens) (λ (raw : Raw). AreKnown new raw.tokens) (λ raw k. known-on raw.tokens k) raws h

  pub arguments-on : (arguments : List Argument) → All (λ argument. AreKnown known argument.tokens) arguments → All (λ argument. AreKnown new argument.tokens) arguments
  arguments-on arguments h = All-weaker (λ (a : Argument). AreKnown known a.tokens) (λ (a : Argument). AreKnown new a.tokens) (λ a k. known-on a.tokens k) arguments h

  pub call-on : (call : Call) → IsCallKnown known call → IsCallKnown new call
  call-on call h = (omega (arith, h.0, keeps.count), raws-on call.waiting h.1, arguments-on call.expanded h.2, known-on call.behind h.3, known-on call.before h.4)

  pub calls-on : (calls : List Call) → All (IsCallKnown known) calls → All (IsCallKnown new) calls
  calls-on calls h = All-weaker (IsCallKnown known) (IsCallKnown new) call-on calls h

  pub expander-on : (e : Expander) → IsKnown known e → IsKnown new e
  expander-on e h = (known-on e.pending h.0, known-on e.out h.1, calls-on e.calls h.2)

  -- ---- what an expander comes to

  pub comes-kept : (source text : List ℕ) (macros : Macros) (mode : Mode) (e : Expander) (p : Progress) (outcome : Outcome) → IsKnown known e
      → ComesTo source text macros mode new e p outcome → ComesTo source text macros mode known e p outcome
  comes-kept source text macros mode e p outcome h c =
      let P : List Opened → Type 0 = λ z. Comes source text macros mode z (at_hand new e.pending) (all_named new e.out) p outcome in
      let Q : List Lexeme → Type 0 = λ z. Comes source text macros mode (map (opened source known) (reverse e.calls)) z (all_named new e.out) p outcome in
      let R : List Lexeme → Type 0 = λ z. Comes source text macros mode (map (opened source known) (reverse e.calls)) (at_hand known e.pending) z p outcome in
      subst R (all-kept e.out h.1) (subst Q (hand-kept e.pending h.0) (subst P (calls-kept source e.calls h.2) c))
