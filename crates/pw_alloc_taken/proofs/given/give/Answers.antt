use Rattle.std.proofs.Common.{◌≡◌, ◌⊎◌, ◌<◌, ◌∙◌, ℕ, List, All, drop, length, arith, rules, refl, sym, ap, subst, inl, inr, vec_len}
use Rattle.std.specs.Prelude.{slice_index, Contains, ◌↔◌}
use Rattle.std.proofs.lemmas.Bool.{ltb-true, lt-ltb}
use Rattle.std.proofs.lemmas.List.{take_at}
use Rattle.std.proofs.lemmas.Option.{slice_get_read}
use Rattle.pw_live_spans.specs.Spans.{Covers}
use Rattle.pw_live_held.proofs.Knowledge.{spanned_points}
use Rattle.pw_alloc_masks.specs.Masks.{HasRegister}
use Rattle.pw_alloc_masks.specs.Sets.{HasAt}
use Rattle.pw_alloc_taken.proofs.Giving.{given_more}
use Rattle.pw_alloc_taken.proofs.Knowledge.{defined_points}
use Rattle.pw_alloc_taken.proofs.given.give.Goals as goal

pub of-requires : goal.of-requires
of-requires c = let lt = c.requires.temp in let count = c.requires.facts.liveness.spans.count in omega (arith, lt, count)

pub index-requires : goal.index-requires
index-requires c = let lt = c.requires.temp in let count = c.requires.facts.count in omega (arith, lt, count)

pub put_behind-requires : goal.put_behind-requires
put_behind-requires c =
    let f = c.args.f.now in
    let v = c.args.facts.now in
    let given = c.args.given.now in
    let row = c.index.result.now in
    let count = c.requires.facts.count in
    let there = slice_get_read v.definitions.items (vec_len v.definitions) c.args.t row v.definitions.ok.0 (let lt = c.requires.temp in omega (arith, lt, count)) c.index.ensures in
    record {
      sets = c.requires.sized.sets;
      points = subst (λ (ps : List ℕ). All (λ p. p < given.made.points) ps) (sym c.as_slice.ensures) (defined_points f v c.args.t given.made.points row c.requires.facts c.requires.sized.made there);
      register = c.requires.register;
    }

pub occupy-requires-clause-points : goal.occupy-requires-clause-points
occupy-requires-clause-points c = λ p covers.
    let given = c.args.given.now in
    let lt = spanned_points c.args.f.now c.args.facts.now.liveness.spans c.args.t c.of.result.now p c.requires.facts.liveness.spans (c.points_stand_by_number.ensures.there c.args.f.now) c.of.ensures covers in
    let points = c.requires.sized.points in
    let size = given.occupied.ok.0 in
    let same : length c.deref_mut.result.now ≡ length given.occupied.items = ap (λ (ms : List ℕ). length ms) c.deref_mut.ensures.value in
    omega (arith, lt, points, size, same)

pub returns-clause-sized : goal.returns-clause-sized
returns-clause-sized c = record {
  temps = first_of (search rules, omega (arith, c.requires.sized.temps));
  points = first_of (search rules, omega (arith, c.requires.sized.points));
  sets = c.put_behind.ensures.sets;
  made = c.put_behind.ensures.points ∙ c.requires.sized.made;
}

pub returns-clause-given : goal.returns-clause-given
returns-clause-given c = λ gs has none.
    let f = c.args.f.now in
    let v = c.args.facts.now in
    let given = c.args.given.now in
    let t = c.args.t in
    let r = c.args.r in
    let masks = given.occupied in
    let now = c.occupy.new.occupied in
    let long : length c.deref_mut.result.now ≡ length masks.items = ap (λ (ms : List ℕ). length ms) c.deref_mut.ensures.value in
    let size : length now ≡ masks.len = omega (arith, c.occupy.ensures.length, long, masks.ok.0) in
    let each = subst (λ (ms : List ℕ). (p k : ℕ) → HasRegister (slice_index now p) k ↔ (HasRegister (slice_index ms p) k ⊎ (Covers c.of.result.now p × (k ≡ r)))) c.deref_mut.ensures.value c.occupy.ensures.each in
    let occupied = subst (λ (ms : List ℕ). (p k : ℕ) → HasRegister (slice_index ms p) k ↔ (HasRegister (slice_index masks.items p) k ⊎ (Covers c.of.result.now p × (k ≡ r)))) (sym (take_at now (drop (length now) masks.items) masks.len size)) each in
    let row = c.index.result.now in
    let count = c.requires.facts.count in
    let at = slice_get_read v.definitions.items (vec_len v.definitions) t row v.definitions.ok.0 (let lt = c.requires.temp in omega (arith, lt, count)) c.index.ensures in
    let put = subst (λ (ps : List ℕ). (q k : ℕ) → HasAt c.put_behind.new.made q k ↔ (HasAt given.made q k ⊎ (Contains ps q × (k ≡ r)))) c.as_slice.ensures c.put_behind.ensures.each in
    given_more f gs given _ t r c.of.result.now c.requires.temp (sym given.registers.ok.0 ∙ c.requires.sized.temps) none (λ q. c.requires.facts.liveness.spans.each t q c.of.result.now c.of.ensures) refl occupied
    (λ p k. (
      λ h. elim ((put p k).0 h) [ inl old ↦ inl old | inr new ↦ inr ((c.requires.facts.definitions t p row at).0 new.0, new.1) ],
      λ h. (put p k).1 (elim h [ inl old ↦ inl old | inr new ↦ inr ((c.requires.facts.definitions t p row at).1 new.0, new.1) ]),
    ))
    (λ k. (
      λ h. elim ((c.with_param-params.ensures k).0 h) [ inl old ↦ inl old | inr new ↦ inr (subst (λ (n : ℕ). t < n) c.params.ensures (ltb-true t c.params.result new.0), new.1) ],
      λ h. (c.with_param-params.ensures k).1 (elim h [ inl old ↦ inl old | inr new ↦ inr (lt-ltb t c.params.result (subst (λ (n : ℕ). t < n) (sym c.params.ensures) new.0), new.1) ]),
    ))
    has
