-- A call that is read, by what its parts answer.
use Rattle.std.proofs.Common.{◌≡◌, ℕ, ◌<◌, List, [], ◌∷◌, length, map, Option, Some, None, IfOk, IfSome, Result, Ok, Err, inl, inr, refl, sym, subst, All}
use Rattle.pw_token.specs.declared.token.Token.{Token}
use Rattle.pw_cpp_expand.specs.AtHand.{AnswersRead, IsFaultOfCall, IsReadKnown, IsWaiting}
use Rattle.pw_cpp_expand.specs.Calls.{Called, Closed, Open, Fails, Collects}
use Rattle.pw_cpp_expand.specs.Numbered.{AnswersCall, AreArgumentsKnown, AreKnown, HaveEmpty, IsFault, all_named, at_hand, named}
use Rattle.pw_cpp_expand.specs.declared.arguments.Arguments.{Arguments}
use Rattle.pw_cpp_expand.specs.declared.expansion.Raw.{Raw}
use Rattle.pw_cpp_expand.specs.declared.expansion.Read.{Read}
use Rattle.pw_cpp_expand.specs.declared.progress.ExpandFault.{ExpandFault}
use Rattle.pw_cpp_expand.specs.declared.progress.ExpandFault.TheVariants as no
use Rattle.pw_cpp_expand.specs.declared.progress.Lexeme.{Lexeme as Numbered}
use Rattle.pw_cpp_expand.specs.declared.progress.Mode.{Mode}
use Rattle.pw_cpp_expand.specs.declared.progress.Progress.{Progress}
use Rattle.pw_cpp_sets.specs.Sets.{Known}

module _ (source text : List ℕ) (mode : Mode) (parameters replacement : List Token) (place : ℕ) (old : List Numbered) (p : Progress) (new : List Numbered) (q : Progress) where
  -- a line that had to be read has a fault
  pub call-unread : (fault : ExpandFault) (result : Result Read ExpandFault) → result ≡ Err fault
      → IsFault fault (λ f. (known : Known) → HaveEmpty known → Collects source text mode 0 ([] ∷ []) (at_hand known old) p (Fails f))
      → AnswersRead source text mode parameters replacement place old p new q result
  call-unread fault result is h =
      let P : Result Read ExpandFault → Type 0 = λ x. AnswersRead source text mode parameters replacement place old p new q x in subst P (sym is) (by h)
    where
      by : IsFault fault (λ f. (known : Known) → HaveEmpty known → Collects source text mode 0 ([] ∷ []) (at_hand known old) p (Fails f))
          → AnswersRead source text mode parameters replacement place old p new q (Err fault)
      by (inl none) = inl none
      by (inr c) = inr (λ known empty. (Fails fault, c known empty, refl))

  module _ (found : Option Arguments) (answer : AnswersCall source text mode old p new q (Ok found)) where
    -- the text ends within it
    pub call-open : found ≡ None → AnswersRead source text mode parameters replacement place old p new q (Err (no.Call place))
    call-open is =
        let P : Option Arguments → Type 0 = λ x. AnswersCall source text mode old p new q (Ok x) in
        inr (λ known empty. (Open, subst P is answer known empty, refl))

    module _ (call : Arguments) (is : found ≡ Some call) (used : Option (List Raw)) (waits : (known : Known) → IsWaiting source known parameters replacement call.arguments used) where
      collects : (known : Known) → HaveEmpty known
          → Collects source text mode 0 ([] ∷ []) (at_hand known old) p (Closed (map (all_named known) call.arguments) (named known call.close) (at_hand known new) q)
      collects = let P : Option Arguments → Type 0 = λ x. AnswersCall source text mode old p new q (Ok x) in subst P is answer

      -- it has more arguments than parameters, or fewer
      pub call-miscounted : used ≡ None → AnswersRead source text mode parameters replacement place old p new q (Err (no.Call place))
      call-miscounted none =
          inr (λ known empty.
          let P : Option (List Raw) → Type 0 = λ x. IsWaiting source known parameters replacement call.arguments x in
          (Closed (map (all_named known) call.arguments) (named known call.close) (at_hand known new) q, collects known empty, (refl, subst P none (waits known))))

      -- it is whole
      pub call-closed : (waiting : List Raw) → used ≡ Some waiting → AnswersRead source text mode parameters replacement place old p new q (Ok (record { waiting = waiting; close = call.close }))
      call-closed waiting some = λ known empty.
          let P : Option (List Raw) → Type 0 = λ x. IsWaiting source known parameters replacement call.arguments x in
          let both = subst P some (waits known) in
          (map (all_named known) call.arguments, collects known empty, both.0, both.1)

-- the sets of what was read are known
pub read-known : (known : Known) (found : Option Arguments) (call : Arguments) (used : Option (List Raw)) (waiting : List Raw) → found ≡ Some call → IfSome found (AreArgumentsKnown known) → used ≡ Some waiting
    → (All (AreKnown known) call.arguments → IfSome used (All (λ raw. AreKnown known raw.tokens))) → IsReadKnown known (record { waiting = waiting; close = call.close })
read-known known found call used waiting is h some w =
    let P : Option Arguments → Type 0 = λ x. IfSome x (AreArgumentsKnown known) in
    let Q : Option (List Raw) → Type 0 = λ x. IfSome x (All (λ raw. AreKnown known raw.tokens)) in
    let both = subst P is h in
    (both.1, subst Q some (w both.0))
