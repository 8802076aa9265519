use Rattle.std.proofs.Common.{◌∙◌, List, ℕ, ap, inl, inr, map, subst, sym}
use Rattle.std.specs.Prelude.{Contains}
use Rattle.pw_build_objects.proofs.shown.shows_module.Goals as goal

pub returns : goal.returns
returns c = λ t. record {
  home = c.is_of.ensures c.if-not-is_of.false;
  functions = c.in_ok-same.ensures.functions c.if-not-same.false;
  globals = c.in_ok-same.ensures.globals c.if-not-same.false;
  declared = c.lists_as.ensures.declared c.if-not-lists_as.false;
  used = c.lists_as.ensures.used c.if-not-lists_as.false;
  named = λ n h. elim (c.are_known.ensures t n (subst (λ (ns : List (List ℕ)). Contains ns n) (sym (ap (map (λ name. name.now)) c.deref.ensures.value ∙ c.in_ok-named.ensures)) h)) [
    | inl k ↦ inl (subst (λ (us : List (List ℕ)). Contains us n) c.as_slice.ensures k)
    | inr k ↦ inr (c.requires n k)
  ];
}
