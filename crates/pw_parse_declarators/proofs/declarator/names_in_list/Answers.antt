use Rattle.std.proofs.Common.{rules, [], false, Ok, ap, ◌∙◌, arith}
use Rattle.std.proofs.lemmas.Grind.{common_steps}
use Rattle.pw_parse_grammar.specs.Declarators.{name_in_list}
use Rattle.pw_parse_grammar.specs.Input.{unless_comma}
use Rattle.pw_parse_declarators.specs.Suffixes.{name_first}
use Rattle.pw_parse_cursor.proofs.Loops.{unrolled, goes, ends, then_more, then_last, runs_out}
use Rattle.pw_parse_declarators.proofs.Pairs.{names_before, names_kept, names_shown}
use Rattle.pw_parse_declarators.proofs.declarator.names_in_list.Goals as goal

pub returns-in_err-name : goal.returns-in_err-name
returns-in_err-name c =
    let e = unrolled _ _ c.loop-turn-test.true c.loop-turn.invariant in
    first_of (search rules, grind (arith, common_steps))

pub returns-then-not-eat : goal.returns-then-not-eat
returns-then-not-eat c =
    let n = c.in_ok-name.name in
    ends _ _ c.loop-turn-test.true c.loop-turn.invariant (then_last name_in_list (unless_comma ([], [])) c.loop-turn.tokens c.name_in_list.new.tokens c.eat.new.self (name_first n) ([], []) (first_of (search rules, grind (arith, common_steps))) (first_of (search rules, grind (arith, common_steps))))
    ∙ ap (λ l. Ok (l, c.eat.new.self)) (names_kept c.loop-turn.words.items c.loop-turn.bindings.items n.word (n.text, false) c.push.new.self.items c.push-in-loop-turn.new.self.items (first_of (search rules, grind (arith, common_steps))) (first_of (search rules, grind (arith, common_steps))) ([], []) ∙ names_shown c.push.new.self.items c.push-in-loop-turn.new.self.items)

pub loop-turn-preserved : goal.loop-turn-preserved
loop-turn-preserved c =
    let n = c.in_ok-name.name in
    goes _ _ c.loop-turn-test.true c.loop-turn.invariant (names_before c.push.new.self.items c.push-in-loop-turn.new.self.items)
    (then_more name_in_list (unless_comma ([], [])) c.loop-turn.tokens c.name_in_list.new.tokens c.eat.new.self (name_first n) (first_of (search rules, grind (arith, common_steps))) (first_of (search rules, grind (arith, common_steps))))
    (names_kept c.loop-turn.words.items c.loop-turn.bindings.items n.word (n.text, false) c.push.new.self.items c.push-in-loop-turn.new.self.items (first_of (search rules, grind (arith, common_steps))) (first_of (search rules, grind (arith, common_steps))))

pub returns : goal.returns
returns c _ = runs_out _ _ c.loop-turn-test.false c.loop-turn.invariant
