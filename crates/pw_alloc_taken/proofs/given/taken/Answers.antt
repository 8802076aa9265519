use Rattle.std.proofs.Common.{◌≡◌, ◌<◌, ◌∙◌, ℕ, true, List, All, length, arith, sym, ap, subst, inl, inr, vec_len}
use Rattle.std.specs.Prelude.{nat_lt, slice_index, ◌↔◌}
use Rattle.std.proofs.lemmas.Bool.{ltb-true, lt-ltb}
use Rattle.std.proofs.lemmas.Option.{slice_get_read}
use Rattle.pw_live_spans.specs.LivePoints.{LivesFrom}
use Rattle.pw_live_held.proofs.Knowledge.{spanned_points}
use Rattle.pw_alloc_masks.specs.Masks.{HasRegister}
use Rattle.pw_alloc_taken.specs.Masks.{IsOccupiedBehind}
use Rattle.pw_alloc_taken.proofs.Knowledge.{defined_points}
use Rattle.pw_alloc_taken.proofs.Takers.{made_are, behind_are, first_are, taken_is}
use Rattle.pw_alloc_taken.proofs.given.taken.Goals as goal

pub of-spans-requires : goal.of-spans-requires
of-spans-requires c = let lt = c.requires.temp in let count = c.requires.facts.liveness.spans.count in omega (arith, lt, count)

pub made_beside-beside-requires : goal.made_beside-beside-requires
made_beside-beside-requires c = record {
  sets = c.requires.sized.sets;
  points = λ p covers.
      let lt = spanned_points c.args.f.now c.args.facts.now.liveness.spans c.args.t c.of-spans.result.now p c.requires.facts.liveness.spans (c.points_stand_by_number.ensures.there c.args.f.now) c.of-spans.ensures covers in
      let many = c.requires.sized.made in
      omega (arith, lt, many);
}

pub index-requires : goal.index-requires
index-requires c = let lt = c.requires.temp in let count = c.requires.facts.count in omega (arith, lt, count)

pub occupied_behind-behind-requires : goal.occupied_behind-behind-requires
occupied_behind-behind-requires c =
    let f = c.args.f.now in
    let v = c.args.facts.now in
    let given = c.args.given.now in
    let row = c.index.result.now in
    let count = c.requires.facts.count in
    let there = slice_get_read v.definitions.items (vec_len v.definitions) c.args.t row v.definitions.ok.0 (let lt = c.requires.temp in omega (arith, lt, count)) c.index.ensures in
    let size : length c.deref.result.now ≡ length given.occupied.items = ap (λ (ms : List ℕ). length ms) c.deref.ensures.value in
    subst (λ (ps : List ℕ). All (λ p. p < length c.deref.result.now) ps) (sym c.as_slice-row.ensures)
    (defined_points f v c.args.t (length c.deref.result.now) row c.requires.facts (size ∙ sym given.occupied.ok.0 ∙ c.requires.sized.points) there)

pub returns : goal.returns
returns c = λ gs has none r.
    let f = c.args.f.now in
    let v = c.args.facts.now in
    let given = c.args.given.now in
    let t = c.args.t in
    let lives = c.points_stand_by_number.ensures.lives f in
    let there = c.points_stand_by_number.ensures.there f in
    let first = c.points_stand_by_number.ensures.first f in
    let row = c.index.result.now in
    let count = c.requires.facts.count in
    let at = slice_get_read v.definitions.items (vec_len v.definitions) t row v.definitions.ok.0 (let lt = c.requires.temp in omega (arith, lt, count)) c.index.ensures in
    let made = c.made_beside-beside.ensures r in
    let defined = subst (λ (ps : List ℕ). HasRegister c.occupied_behind-behind.result r ↔ IsOccupiedBehind ps given.occupied.items r) c.as_slice-row.ensures
    (subst (λ (ms : List ℕ). HasRegister c.occupied_behind-behind.result r ↔ IsOccupiedBehind c.as_slice-row.result.now ms r) c.deref.ensures.value (c.occupied_behind-behind.ensures r)) in
    let beside = made_are f gs given v t r lives there first c.requires.facts has c.of-spans.result.now c.of-spans.ensures in
    let behind = behind_are f gs given v t r lives there first c.requires.facts has row at in
    let live : (c.is_live_at_start-is_live.result ≡ true) ↔ LivesFrom f 0 t 0 = (λ e. (c.requires.facts.liveness.spans.each t 0 c.of-spans.result.now c.of-spans.ensures).0 (c.is_live_at_start-is_live.ensures.0 e), λ l. c.is_live_at_start-is_live.ensures.1 ((c.requires.facts.liveness.spans.each t 0 c.of-spans.result.now c.of-spans.ensures).1 l)) in
    let param : (nat_lt t c.params.result ≡ true) ↔ (t < f.params) = (λ e. subst (λ (n : ℕ). t < n) c.params.ensures (ltb-true t c.params.result e), λ lt. lt-ltb t c.params.result (subst (λ (n : ℕ). t < n) (sym c.params.ensures) lt)) in
    let start = first_are f gs given v t r lives there first c.requires.facts has (nat_lt t c.params.result) c.is_live_at_start-is_live.result c.at_start-start.result param live
    (c.at_start-start.ensures ∙ ap (λ (ms : List ℕ). slice_index ms 0) c.deref-2.ensures.value) in
    let opening = c.taken_at_start-first.ensures r in
    taken_is f gs given v t r lives there first c.requires.facts has (HasRegister c.made_beside-beside.result r) (HasRegister c.occupied_behind-behind.result r) (HasRegister c.taken_at_start-first.result r) (HasRegister c.both.result r) none
    (λ h. beside.0 (made.0 h), λ u. made.1 (beside.1 u)) (λ h. behind.0 (defined.0 h), λ u. defined.1 (behind.1 u)) (λ h. start.0 (opening.0 h), λ u. opening.1 (start.1 u))
    (λ h. elim ((c.both.ensures r).0 h) [ inl w ↦ inl ((c.both-written.ensures r).0 w) | inr s ↦ inr s ], λ h. (c.both.ensures r).1 (elim h [ inl w ↦ inl ((c.both-written.ensures r).1 w) | inr s ↦ inr s ]))
